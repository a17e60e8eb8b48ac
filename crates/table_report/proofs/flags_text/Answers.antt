-- `table_report::flags_text` meets its contract: the points that the lead mask keeps are those of the restriction. Assumes nothing.
use mathlib.Core.Path.{◌≡◌, sym, ap, ◌∙◌, subst}
use mathlib.Core.Bool.{Bool}
use mathlib.Core.List.{List}
use Prim.Native.Nat.{ℕ, ◌-◌}
use lib.ListN.{length, take, replicate}
use Rattle.gf2.specs.Basis.{lead_mask}
use Rattle.basis.specs.declared.Basis.{Basis}
use Rattle.basis.specs.Reduced.{vectors_of, BasisWithin}
use Rattle.table.specs.Decision.{front}
use Rattle.table.specs.Flags.{max_points}
use Rattle.space.specs.Witness.{flagged}
use Rattle.space.specs.Restriction.{restriction}
use Rattle.table.proofs.Fill.{front_fits, front-part}
use Rattle.projection.specs.Masks.{kept}
use Rattle.projection.proofs.Restrictions.{points_kept}
use Rattle.text.proofs.Writing.{fits-same, wrote-same}
use Rattle.table_report.specs.Parts.{function_text, Restricts}
use Rattle.table_report.proofs.Parts.{restricts, kept-few}
use Rattle.table_report.proofs.flags_text.Goals as goal

pub write_kept-requires : goal.write_kept-requires
write_kept-requires c =
    record { n_le_max_variables = c.requires.basis_within.few; flags_in_bounds = kept-few c.requires.basis_within (flagged c.args.flags.now) c.leads-leads.result }

-- The points that the lead mask keeps are written at the front of the array: those of the restriction.
restricted : {n : ℕ} {b : Basis} → BasisWithin n b → (f : ℕ → Bool) (mask : ℕ) → mask ≡ lead_mask (vectors_of b) → (count : ℕ) → count ≡ length (kept n mask f) → (points : List ℕ)
    → points ≡ front (kept n mask f) (replicate max_points 0) → take (count - 0) points ≡ restriction n (vectors_of b) f
restricted {n} k f mask e count q points held = front-part (kept n mask f) (replicate max_points 0) points count held q ∙ points_kept k f mask e

pub slice_bounds-function_text-end : goal.slice_bounds-function_text-end
slice_bounds-function_text-end c =
    front_fits (kept c.args.n c.leads-leads.result (flagged c.args.flags.now)) (replicate max_points 0) c.write_kept.new.room c.count_kept-count.result c.write_kept.ensures c.count_kept-count.ensures

pub function_text-requires : goal.function_text-requires
function_text-requires c =
    let a = c.args in
    let s = c.requires.basis_within in
    let f = flagged a.flags.now in
    let q = sym (restricted s f c.leads-leads.result c.leads-leads.ensures c.count_kept-count.result c.count_kept-count.ensures c.write_kept.new.room c.write_kept.ensures) in
    record {
      restricts = subst (Restricts a.n a.basis) q (restricts s f);
      fits = fits-same (ap (function_text a.n a.simple (vectors_of a.basis)) q) c.requires.fits;
    }

pub returns : goal.returns
returns c =
    let a = c.args in
    let q = restricted c.requires.basis_within (flagged a.flags.now) c.leads-leads.result c.leads-leads.ensures c.count_kept-count.result c.count_kept-count.ensures c.write_kept.new.room c.write_kept.ensures in
    wrote-same _ (ap (function_text a.n a.simple (vectors_of a.basis)) q) c.function_text.ensures
