-- The parts in which the report of a table is written: by the basis of the completed function's linear space and the points of its restriction.
-- That they make up the report is `table-parts`. Read next: crate `report`.
use Rattle.std.specs.Prelude.{◌≡◌, Bool, false, cond, List, ◌++◌, map, ℕ, ◌-◌, ltb}
use Rattle.basis.specs.declared.Basis.{Basis}
use Rattle.basis.specs.Reduced.{BasisWithin}
use Rattle.table.specs.Refusal.{size_fault}
use Rattle.table.specs.Table.{outside, unordered}
use Rattle.cubes.specs.Records.{max_listed}
use Rattle.cover.specs.Choice.{chosen}
use Rattle.cover.specs.WrittenForm.{restricted_variables, written_product}
use Rattle.choice.specs.declared.Choice.{Choice}
use Rattle.choice.specs.Chosen.{products_by}
use Rattle.lines.specs.Lines.{product_lines}
use Rattle.table_report.specs.Text.{refused_line, space_text}

-- The lines of the products of a choice, in the order taken.
unfoldable pub choice_text : ℕ → List ℕ → ℕ → Choice → List ℕ
choice_text n es m r = product_lines n (products_by es m r r.count)

-- The lines of the form, where the restriction by the basis bs has the given points.
unfoldable pub form_lines : ℕ → List ℕ → List ℕ → List ℕ
form_lines n bs points =
    cond (ltb max_listed (restricted_variables n bs)) (refused_line size_fault) (product_lines n (map (written_product n bs) (chosen (restricted_variables n bs) points)))

-- All lines of the completed function, its degree marked or not.
unfoldable pub function_text : ℕ → Bool → List ℕ → List ℕ → List ℕ
function_text n simple bs points = space_text n simple bs points ++ form_lines n bs points

-- The points may be those of a restriction by a basis of n variables: they have n - k variables and rise.
pub record Restricts (n : ℕ) (b : Basis) (points : List ℕ) : Type 0 where
  pub spans : BasisWithin n b
  pub inside : outside (n - b.len) points ≡ false
  pub rising : unordered points ≡ false
