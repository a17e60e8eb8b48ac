-- The calls on the linear space of a table: `linear_space`, `complete` and `analyse` (document 01, "Points and spaces"). Read next: Affine.
use Rattle.std.specs.Prelude.{List, [], ◌++◌, ℕ, length}
use Rattle.gf2.specs.Basis.{canonical_places, variables_at}
use Rattle.gf2.specs.Finite.{holds}
use Rattle.basis.specs.Short.{short}
use Rattle.basis.specs.Reduced.{basis_of}
use Rattle.table.specs.declared.Refusal.{Refusal}
use Rattle.table.specs.Refusal.{Test}
use Rattle.table.specs.Answers.{number_of}
use Rattle.table.specs.Table.{table_tests}
use Rattle.space.specs.Closure.{linear_space, degree}
use Rattle.space.specs.Completion.{completed, completed_points, k0, k1}
use Rattle.space.specs.Restriction.{equations, restriction}
use Rattle.space_answer.specs.declared.LinearSpace.{LinearSpace}
use Rattle.space_answer.specs.Answer.{space_tests, space_refused}
use Rattle.analysis.specs.declared.Completion.{Completion}
use Rattle.analysis.specs.declared.Analysis.{Analysis}
use Rattle.table.specs.Decision.{Decision, answer_of, after_of, room_test}

-- ---- `linear_space`: n and the on points of a complete function

-- Refusals 1, 2 and 3. A call that takes on points alone has no free points, so that 4 never applies.
abbrev pub linear_space_tests : ℕ → List ℕ → List Test
linear_space_tests n on = space_tests n on

abbrev pub linear_space_accepted : ℕ → List ℕ → LinearSpace
linear_space_accepted n on = record { refusal = 0; degree = degree n (holds on); basis = basis_of (linear_space n (holds on)) }

abbrev pub linear_space_refused : ℕ → LinearSpace
linear_space_refused number = space_refused number

abbrev pub linear_space_call : ℕ → List ℕ → Decision LinearSpace
linear_space_call n on = record { tests = linear_space_tests n on; accepted = linear_space_accepted n on; refused = linear_space_refused }

unfoldable pub linear_space_answer : ℕ → List ℕ → LinearSpace
linear_space_answer n on = answer_of (linear_space_call n on)

-- ---- `complete`: the points of the completed function, rising, and k0 and k1

abbrev pub complete_tests : ℕ → List ℕ → List ℕ → List ℕ → List Test
complete_tests n on free room = table_tests n on free ++ room_test (completed_points n on free) room

abbrev pub complete_accepted : ℕ → List ℕ → List ℕ → Completion
complete_accepted n on free = record {
  refusal = 0;
  count = length (completed_points n on free);
  degree = degree n (completed n on free);
  k0 = k0 n on;
  k1 = k1 n on free;
}

abbrev pub complete_refused : ℕ → Completion
complete_refused number = record { refusal = number; count = 0; degree = 0; k0 = 0; k1 = 0 }

-- What `complete` gives for a refusal.
abbrev pub refused_completion : Refusal → Completion
refused_completion refusal = complete_refused (number_of refusal)

abbrev pub complete_call : ℕ → List ℕ → List ℕ → List ℕ → Decision Completion
complete_call n on free room = record { tests = complete_tests n on free room; accepted = complete_accepted n on free; refused = complete_refused }

unfoldable pub complete_answer : ℕ → List ℕ → List ℕ → List ℕ → Completion
complete_answer n on free room = answer_of (complete_call n on free room)

unfoldable pub complete_after : ℕ → List ℕ → List ℕ → List ℕ → List ℕ
complete_after n on free room = after_of (complete_call n on free room) (completed_points n on free) room

-- ---- `analyse`: the linear space of the completed function, its canonical variables and equations, and its restriction

-- The reduced basis of the completed function's linear space.
abbrev pub completed_space : ℕ → List ℕ → List ℕ → List ℕ
completed_space n on free = linear_space n (completed n on free)

-- The restriction of the completed function.
abbrev pub completed_restriction : ℕ → List ℕ → List ℕ → List ℕ
completed_restriction n on free = restriction n (completed_space n on free) (completed n on free)

abbrev pub analyse_tests : ℕ → List ℕ → List ℕ → List ℕ → List Test
analyse_tests n on free room = table_tests n on free ++ room_test (completed_restriction n on free) room

abbrev pub analyse_accepted : ℕ → List ℕ → List ℕ → Analysis
analyse_accepted n on free = record {
  refusal = 0;
  degree = degree n (completed n on free);
  basis = basis_of (completed_space n on free);
  canonical = short (variables_at n (canonical_places n (completed_space n on free)));
  equations = short (equations n (completed_space n on free));
  count = length (completed_restriction n on free);
}

abbrev pub analyse_refused : ℕ → Analysis
analyse_refused number = record { refusal = number; degree = 0; basis = basis_of []; canonical = short []; equations = short []; count = 0 }

-- What `analyse` gives for a refusal.
abbrev pub refused_analysis : Refusal → Analysis
refused_analysis refusal = analyse_refused (number_of refusal)

abbrev pub analyse_call : ℕ → List ℕ → List ℕ → List ℕ → Decision Analysis
analyse_call n on free room = record { tests = analyse_tests n on free room; accepted = analyse_accepted n on free; refused = analyse_refused }

unfoldable pub analyse_answer : ℕ → List ℕ → List ℕ → List ℕ → Analysis
analyse_answer n on free room = answer_of (analyse_call n on free room)

unfoldable pub analyse_after : ℕ → List ℕ → List ℕ → List ℕ → List ℕ
analyse_after n on free room = after_of (analyse_call n on free room) (completed_restriction n on free) room
