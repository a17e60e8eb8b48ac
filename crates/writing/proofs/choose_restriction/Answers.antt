-- `writing::choose_restriction` meets its contract: what is kept by the lead mask is the restriction, and fits the array. Assumes nothing.
use mathlib.Core.Path.{◌≡◌, ap, ◌∙◌, subst}
use mathlib.Core.Bool.{Bool}
use mathlib.Core.List.{List}
use Prim.Native.Nat.{ℕ, ◌-◌, ◌≤◌}
use native.Mathlib.Omega.{arith}
use lib.ListN.{length, take, replicate}
use lib.Pow.{pow_mono}
use Rattle.gf2.specs.Basis.{lead_mask}
use Rattle.basis.specs.declared.Basis.{Basis}
use Rattle.basis.specs.Reduced.{vectors_of, BasisWithin}
use Rattle.table.specs.Decision.{front}
use Rattle.table.specs.Table.{outside, unordered}
use Rattle.table.proofs.Fill.{front_fits, front-part}
use Rattle.space.specs.Restriction.{restriction}
use Rattle.space.specs.Witness.{flagged}
use Rattle.projection.specs.Masks.{kept}
use Rattle.projection.proofs.Restrictions.{spans-few, points_kept, points-few, points-inside, points-rise}
use Rattle.cubes.specs.Records.{max_listed}
use Rattle.choice.specs.Chosen.{max_chosen, Chose}
use Rattle.writing.proofs.choose_restriction.Goals as goal

-- The points kept are those of the restriction, and fit the array; the part of it that is lent on is these.
module _ (n : ℕ) (b : Basis) (k : BasisWithin n b) (few : n - b.len ≤ max_listed) (f : ℕ → Bool) (leads : ℕ) (e : leads ≡ lead_mask (vectors_of b)) where
  enough : length (kept n leads f) ≤ max_chosen
  enough = omega (arith, ap length (points_kept k f leads e), points-few k f, pow_mono few)

  part : (count : ℕ) → count ≡ length (kept n leads f) → (array written : List ℕ) → written ≡ front (kept n leads f) array → take (count - 0) written ≡ restriction n (vectors_of b) f
  part count q array written w = front-part (kept n leads f) array written count w q ∙ points_kept k f leads e

pub write_kept-requires : goal.write_kept-requires
write_kept-requires c =
    let l = c.leads-leads in
    record {
      n_le_max_variables = c.requires.basis_within.few;
      flags_in_bounds = enough c.args.n c.args.basis c.requires.basis_within c.requires.len_bound (flagged c.args.flags.now) l.result l.ensures;
    }

pub overflow_sub-n : goal.overflow_sub-n
overflow_sub-n c = spans-few c.requires.basis_within

pub slice_bounds-choose-end : goal.slice_bounds-choose-end
slice_bounds-choose-end c =
    front_fits (kept c.args.n c.leads-leads.result (flagged c.args.flags.now)) (replicate max_chosen 0) c.write_kept.new.room c.count_kept-count.result c.write_kept.ensures c.count_kept-count.ensures

pub choose-requires : goal.choose-requires
choose-requires c =
    let a = c.args in
    let k = c.requires.basis_within in
    let f = flagged a.flags.now in
    let e = part a.n a.basis k c.requires.len_bound f c.leads-leads.result c.leads-leads.ensures c.count_kept-count.result c.count_kept-count.ensures (replicate max_chosen 0) c.write_kept.new.room c.write_kept.ensures in
    record {
      m_le_max_listed = c.requires.len_bound;
      on_inside = ap (outside (a.n - a.basis.len)) e ∙ points-inside k f;
      on_rising = ap unordered e ∙ points-rise k f;
    }

pub returns : goal.returns
returns c =
    let a = c.args in
    subst (λ (l : List ℕ). Chose (a.n - a.basis.len) l c.choose.result)
    (part a.n a.basis c.requires.basis_within c.requires.len_bound (flagged a.flags.now) c.leads-leads.result c.leads-leads.ensures c.count_kept-count.result c.count_kept-count.ensures (replicate max_chosen 0) c.write_kept.new.room c.write_kept.ensures)
    c.choose.ensures
