-- `projection::lead_term` meets its contract: a shift by the lead gives the lead bit. Assumes nothing.
use mathlib.Core.Path.{◌≡◌, sym, ◌∙◌}
use mathlib.Core.Bool.{true}
use Prim.Native.Nat.{ℕ, ◌^◌, ◌<◌}
use native.Mathlib.Omega.{arith}
use Rattle.gf2.specs.Limits.{max_variables}
use Rattle.gf2.specs.Bits.{bit, lead}
use Rattle.gf2.proofs.Leads.{lead-fits}
use Rattle.gf2.proofs.Xor.{shifted_one}
use Rattle.projection.proofs.lead_term.Goals as goal

-- The lead of a vector of at most `max_variables` variables.
low : (b : ℕ) → (0 < b) × (b < 2 ^ max_variables) → lead b < max_variables
low b h = lead-fits max_variables b h.0 h.1

pub overflow_cast-result : goal.overflow_cast-result
overflow_cast-result c = omega (arith, c.lead.ensures, low c.args.b c.requires.b_nonzero)

pub overflow_shl-result : goal.overflow_shl-result
overflow_shl-result c = omega (arith, c.lead.ensures, low c.args.b c.requires.b_nonzero)

pub returns-then-bit : goal.returns-then-bit
returns-then-bit c =
    let here : bit c.args.place c.args.b ≡ true = sym c.bit.ensures ∙ c.if-bit.true in
    rw (here, c.lead.ensures) (shifted_one (lead c.args.b) 16 (omega (arith, low c.args.b c.requires.b_nonzero)))
