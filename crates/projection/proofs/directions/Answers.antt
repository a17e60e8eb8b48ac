-- `projection::directions` meets its contract: the basis so far is that of the points passed, each XOR the first. Assumes nothing.
use mathlib.Core.Path.{◌≡◌, refl, sym, ap, ◌∙◌, subst}
use mathlib.Core.List.{List, [], map}
use Prim.Native.Nat.{ℕ, ◌+◌, ◌<◌}
use native.Mathlib.Numerals.{add-one}
use native.Mathlib.Omega.{arith}
use lib.Bits.{xor_lt}
use lib.ListN.{length, take, get_or}
use lib.Seq.{take_all}
use Rattle.gf2.specs.Limits.{max_variables}
use Rattle.gf2.specs.Bits.{◌⊕◌}
use Rattle.gf2.specs.Span.{Span}
use Rattle.gf2.specs.Basis.{insert, inserts}
use Rattle.basis.specs.declared.Basis.{Basis}
use Rattle.basis.specs.Reduced.{vectors_of, basis_of, Built}
use Rattle.basis.proofs.Values.{vectors-back, is-basis}
use Rattle.table.proofs.Table.{inside, inside-at}
use Rattle.space.specs.Affine.{directions}
use Rattle.space.proofs.Steps.{directions-take, directions-all}
use Rattle.projection.specs.Masks.{differences}
use Rattle.projection.proofs.Affine.{directions-built}
use Rattle.projection.proofs.directions.Goals as goal

pub loop-p-init : goal.loop-p-init
unfolding inserts
loop-p-init c = record { basis = is-basis [] tt (λ b m. absurd m); value = refl }

pub insert-basis-requires-clause-v_bound : goal.insert-basis-requires-clause-v_bound
insert-basis-requires-clause-v_bound c =
    let ps = c.args.on.now in
    let i = c.loop-p.p-index in
    xor_lt max_variables (get_or ps i 0) (get_or ps 0 0) (inside-at max_variables ps c.requires.points_inside i (omega arith))
    (inside-at max_variables ps c.requires.points_inside 0 c.requires.some_point)

-- One point passed.
passed : (ps : List ℕ) (i : ℕ) → i < length ps → (b : Basis) → b ≡ basis_of (inserts [] (map (λ q. q ⊕ get_or ps 0 0) (take i ps)))
    → insert (vectors_of b) (get_or ps i 0 ⊕ get_or ps 0 0) ≡ inserts [] (map (λ q. q ⊕ get_or ps 0 0) (take (i + 1) ps))
passed ps i h b e =
    let done = inserts [] (map (λ q. q ⊕ get_or ps 0 0) (take i ps)) in
    ap (λ (bs : List ℕ). insert bs (get_or ps i 0 ⊕ get_or ps 0 0)) (ap vectors_of e ∙ vectors-back done) ∙ rw add-one (sym (directions-take (get_or ps 0 0) ps i h))

pub loop-p-preserved : goal.loop-p-preserved
loop-p-preserved c =
    let l = c.loop-p in
    record {
      basis = c.insert-basis.ensures.basis;
      value = c.insert-basis.ensures.value ∙ ap basis_of (passed c.args.on.now l.p-index (omega arith) l.basis l.invariant.value);
    }

pub returns : goal.returns
returns c =
    let l = c.loop-p in
    let ps = c.args.on.now in
    let all : take l.p-index ps ≡ ps = take_all l.p-index ps (omega arith) in
    subst (λ (b : Basis). Built b (directions ps) (Span (differences ps)))
    (sym (l.invariant.value ∙ ap (λ (qs : List ℕ). basis_of (inserts [] (map (λ q. q ⊕ get_or ps 0 0) qs))) all ∙ ap basis_of (directions-all ps c.requires.some_point)))
    (directions-built ps c.requires.some_point (inside max_variables ps c.requires.points_inside))
