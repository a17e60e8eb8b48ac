-- The answers of `complete` and `analyse`, from a completed table. Read next: AffineSpaces.
use mathlib.Core.Path.{◌≡◌, ap, ◌∙◌}
use mathlib.Core.List.{List}
use Prim.Native.Nat.{ℕ, ◌^◌}
use lib.ListN.{length}
use Rattle.gf2.specs.Basis.{lead_mask, canonical_places, variables_at}
use Rattle.gf2.proofs.Finite.{select-ext}
use Rattle.basis.specs.declared.Basis.{Basis}
use Rattle.basis.specs.declared.ShortList.{ShortList}
use Rattle.basis.specs.Short.{short}
use Rattle.basis.specs.Reduced.{vectors_of, basis_of}
use Rattle.table.specs.Table.{table_tests, table_fault}
use Rattle.table.proofs.Decide.{Ways, ways}
use Rattle.table.proofs.Table.{table-numbered}
use Rattle.space.specs.declared.Completed.{Completed}
use Rattle.space.specs.Closure.{degree}
use Rattle.space.specs.Witness.{flagged}
use Rattle.space.specs.Completion.{completed, completed_points, IsCompleted}
use Rattle.space.specs.Restriction.{equations}
use Rattle.projection.specs.Masks.{kept}
use Rattle.projection.proofs.Masks.{kept-all}
use Rattle.projection.proofs.Restrictions.{completed-vectors, completed-len, completed-kept}
use Rattle.analysis.specs.declared.Completion.{Completion}
use Rattle.analysis.specs.declared.Analysis.{Analysis}
use Rattle.analysis.specs.Spaces.{complete_accepted, complete_refused, complete_answer, complete_after, analyse_accepted, analyse_refused, analyse_answer, analyse_after, completed_space, completed_restriction}

module _ (n : ℕ) (on free : List ℕ) (r : Completed) (k : IsCompleted n on free r) where
  -- All points of the completed function are kept by the mask 0.
  pub all-kept : kept n 0 (flagged r.flags) ≡ completed_points n on free
  unfolding completed_points
  all-kept = kept-all n (flagged r.flags) ∙ select-ext (flagged r.flags) (completed n on free) (2 ^ n) k.flags

  space-len : r.basis.len ≡ degree n (completed n on free)
  unfolding degree
  space-len = completed-len k

  pub complete-numbers : (count : ℕ) → count ≡ length (kept n 0 (flagged r.flags))
      → ◌≡◌ {A = Completion} (record { refusal = 0; count = count; degree = r.basis.len; k0 = r.k0; k1 = r.k1 }) (complete_accepted n on free)
  complete-numbers count e =
      let c : count ≡ length (completed_points n on free) = e ∙ ap length all-kept in
      rw (c, space-len, k.k0, k.k1)

  pub analyse-numbers : (count m : ℕ) (canonical equations' : ShortList) → m ≡ lead_mask (vectors_of r.basis) → count ≡ length (kept n m (flagged r.flags))
      → canonical ≡ short (variables_at n (canonical_places n (vectors_of r.basis))) → equations' ≡ short (equations n (vectors_of r.basis))
      → ◌≡◌ {A = Analysis} (record { refusal = 0; degree = r.basis.len; basis = r.basis; canonical = canonical; equations = equations'; count = count }) (analyse_accepted n on free)
  unfolding degree
  analyse-numbers count m canonical equations' e q x y =
      let bs = completed_space n on free in
      let c : count ≡ length (completed_restriction n on free) = q ∙ ap length (completed-kept k m e) in
      let xs : canonical ≡ short (variables_at n (canonical_places n (completed_space n on free))) = x ∙ ap (λ bs. short (variables_at n (canonical_places n bs))) (completed-vectors k) in
      let ys : equations' ≡ short (equations n (completed_space n on free)) = y ∙ ap (λ bs. short (equations n bs)) (completed-vectors k) in
      ap (λ (b : Basis). record { refusal = 0; degree = b.len; basis = b; canonical = canonical; equations = equations'; count = count }) k.basis.value
      ∙ ap (λ (z : ShortList). record { refusal = 0; degree = length bs; basis = basis_of bs; canonical = z; equations = equations'; count = count }) xs
      ∙ ap (λ (z : ShortList). record { refusal = 0; degree = length bs; basis = basis_of bs; canonical = short (variables_at n (canonical_places n bs)); equations = z; count = count }) ys
      ∙ ap (λ (z : ℕ). record {
        refusal = 0;
        degree = length bs;
        basis = basis_of bs;
        canonical = short (variables_at n (canonical_places n bs));
        equations = short (equations n bs);
        count = z;
      }) c

-- ---- the three ways out of a call: refused for the table, refused for the room, accepted

module _ (n : ℕ) (on free room : List ℕ) where
  pub complete-ways : Ways (table_fault n on free) (completed_points n on free) room (complete_accepted n on free) complete_refused (complete_answer n on free room) (complete_after n on free room)
  unfolding table_fault complete_answer complete_after
  complete-ways = ways (table_tests n on free) (completed_points n on free) room (complete_accepted n on free) complete_refused (table-numbered n on free)

  pub analyse-ways : Ways (table_fault n on free) (completed_restriction n on free) room (analyse_accepted n on free) analyse_refused (analyse_answer n on free room) (analyse_after n on free room)
  unfolding table_fault analyse_answer analyse_after
  analyse-ways = ways (table_tests n on free) (completed_restriction n on free) room (analyse_accepted n on free) analyse_refused (table-numbered n on free)
