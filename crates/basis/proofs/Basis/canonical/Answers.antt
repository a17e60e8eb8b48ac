-- `basis::Basis::canonical` meets its contract: a bit of the lead mask is set exactly at a lead. Assumes nothing.
use mathlib.Core.Path.{◌≡◌, ap, ◌∙◌}
use Prim.Native.Nat.{ℕ}
use Rattle.gf2.specs.Bits.{bit}
use Rattle.gf2.specs.Basis.{is_lead, lead_mask, places_at, canonical_places, variables_at}
use Rattle.gf2.proofs.Variables.{bit-lead_mask, places-ext}
use Rattle.basis.specs.declared.Basis.{Basis}
use Rattle.basis.specs.Short.{short}
use Rattle.basis.specs.Reduced.{vectors_of, IsBasis}
use Rattle.basis.proofs.Basis.canonical.Goals as goal

same : (b : Basis) → IsBasis b → (n m : ℕ) → m ≡ lead_mask (vectors_of b) → places_at n (λ (k : ℕ). bit k m) ≡ canonical_places n (vectors_of b)
same b i n m e = places-ext (λ k. bit k m) (is_lead (vectors_of b)) n (λ k h. ap (bit k) e ∙ bit-lead_mask (vectors_of b) i.reduced k)

pub returns : goal.returns
returns c =
    let n = c.args.n in
    let d = c.leads in
    c.variables_of.ensures ∙ ap (λ l. short (variables_at n l)) (same c.args.self c.requires.basis n d.result d.ensures)
