-- The smallest affine space as the functions of this crate and their callers meet it. Read next: Restrictions.
use mathlib.Core.Path.{◌≡◌, sym, ap, ◌∙◌, subst}
use mathlib.Core.Logic.{◌↔◌}
use mathlib.Core.List.{List}
use Prim.Native.Nat.{ℕ, ◌^◌, ◌<◌}
use lib.ListN.{length, get_or}
use Rattle.gf2.specs.Limits.{max_variables}
use Rattle.gf2.specs.Finite.{Mem}
use Rattle.gf2.specs.Span.{Span}
use Rattle.gf2.specs.Basis.{reduce}
use Rattle.gf2.proofs.Insert.{inserts-span}
use Rattle.basis.specs.declared.Basis.{Basis}
use Rattle.basis.specs.Reduced.{vectors_of, basis_of, Built}
use Rattle.basis.proofs.Values.{vectors-back, built}
use Rattle.space.specs.Affine.{directions, least_point}
use Rattle.space.proofs.Affine.{directions-reduced, directions-below}
use Rattle.space.proofs.Steps.{directions-all, least_point-is}
use Rattle.projection.specs.Masks.{differences}

-- The basis of the directions is one, and spans the points XOR the first.
pub directions-built : (ps : List ℕ) → 0 < length ps → ((p : ℕ) → Mem p ps → p < 2 ^ max_variables) → Built (basis_of (directions ps)) (directions ps) (Span (differences ps))
unfolding differences
directions-built ps l h = built (directions ps) (Span (differences ps)) (directions-reduced ps) (directions-below max_variables ps h)
    (λ x. subst (λ (bs : List ℕ). Span bs x ↔ Span (differences ps) x) (directions-all ps l) (inserts-span (differences ps) x))

-- The first point, reduced by it, is the least point of the space.
pub least-reduced : (ps : List ℕ) (b : Basis) → 0 < length ps → b ≡ basis_of (directions ps) → reduce (vectors_of b) (get_or ps 0 0) ≡ least_point ps
least-reduced ps b l e =
    ap (λ (c : Basis). reduce (vectors_of c) (get_or ps 0 0)) e
    ∙ ap (λ (bs : List ℕ). reduce bs (get_or ps 0 0)) (vectors-back (directions ps)) ∙ sym (least_point-is ps l)
