-- `gf2::clear_lead` meets its contract: x ^ b is below x exactly if b's lead bit is set in x. Assumes nothing.
use mathlib.Core.Path.{◌≡◌, ◌∙◌}
use Prim.Native.Nat.{ℕ, ◌<◌, min}
use native.Mathlib.Nat.{lt_of_not-le}
use native.Mathlib.Decide.{dec_le}
use native.Mathlib.Omega.{arith}
use Rattle.gf2.specs.Bits.{◌⊕◌}
use Rattle.gf2.specs.Basis.{clear}
use Rattle.gf2.proofs.Reduce.{clear-lt, clear-ge}
use Rattle.gf2.proofs.clear_lead.Goals as goal

-- The smaller of both is the one with the lead bit clear.
smaller : (b x : ℕ) → 0 < b → min (x ⊕ b) x ≡ clear b x
smaller b x p = elim (dec_le x (x ⊕ b)) [
  | yes h ↦ (omega arith) ∙ clear-ge b x p h
  | no h ↦ (omega arith) ∙ clear-lt b x p (lt_of_not-le h)
]

pub returns : goal.returns
returns c = c.min.ensures ∙ smaller c.args.b c.args.x c.requires
