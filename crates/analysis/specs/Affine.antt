-- The call `affine`: the smallest affine space of the on points (document 01, "Points and spaces"; free points play no part).
-- Read next: crate `claims`.
use Rattle.std.specs.Prelude.{List, [], ◌∷◌, ◌++◌, ℕ, eqb, length}
use Rattle.basis.specs.Reduced.{basis_of}
use Rattle.table.specs.declared.Refusal.{Refusal}
use Rattle.table.specs.Refusal.{Test, test, affine_fault}
use Rattle.table.specs.Answers.{number_of}
use Rattle.table.specs.Table.{table_tests}
use Rattle.space.specs.Affine.{directions, least_point, projection}
use Rattle.analysis.specs.declared.AffineSpace.{AffineSpace}
use Rattle.table.specs.Decision.{Decision, answer_of, after_of, room_test}

-- The projection of the on points.
abbrev pub affine_projection : ℕ → List ℕ → List ℕ
affine_projection n on = projection n (directions on) on

-- Refusals 1, 2, 3, then 6, an empty on set, then 7.
abbrev pub on_tests : ℕ → List ℕ → List Test
on_tests n on = table_tests n on [] ++ (test affine_fault (eqb (length on) 0) ∷ [])

abbrev pub affine_tests : ℕ → List ℕ → List ℕ → List Test
affine_tests n on room = on_tests n on ++ room_test (affine_projection n on) room

abbrev pub affine_accepted : ℕ → List ℕ → AffineSpace
affine_accepted n on = record {
  refusal = 0;
  least = least_point on;
  dimension = length (directions on);
  basis = basis_of (directions on);
  count = length (affine_projection n on);
}

abbrev pub affine_refused : ℕ → AffineSpace
affine_refused number = record { refusal = number; least = 0; dimension = 0; basis = basis_of []; count = 0 }

-- What `affine` gives for a refusal.
abbrev pub refused_affine : Refusal → AffineSpace
refused_affine refusal = affine_refused (number_of refusal)

abbrev pub affine_call : ℕ → List ℕ → List ℕ → Decision AffineSpace
affine_call n on room = record { tests = affine_tests n on room; accepted = affine_accepted n on; refused = affine_refused }

unfoldable pub affine_answer : ℕ → List ℕ → List ℕ → AffineSpace
affine_answer n on room = answer_of (affine_call n on room)

unfoldable pub affine_after : ℕ → List ℕ → List ℕ → List ℕ
affine_after n on room = after_of (affine_call n on room) (affine_projection n on) room
