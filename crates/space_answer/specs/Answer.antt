-- The decision of the calls on the linear space of a complete function, whichever way they find it: their refusals, and degree and reduced basis (document
-- 01, "Points and spaces", and document 02, No. 7). Read next: crate `analysis`, and crate `autocorrelation`.
use Rattle.std.specs.Prelude.{List, [], ℕ, length}
use Rattle.basis.specs.declared.Basis.{Basis}
use Rattle.basis.specs.Reduced.{basis_of}
use Rattle.table.specs.declared.Refusal.{Refusal}
use Rattle.table.specs.Refusal.{Test}
use Rattle.table.specs.Answers.{number_of}
use Rattle.table.specs.Table.{table_tests}
use Rattle.table.specs.Decision.{Decision, answer_of}
use Rattle.space_answer.specs.declared.LinearSpace.{LinearSpace}

-- Refusals 1, 2 and 3. A call that takes on points alone has no free points, so that 4 never applies.
abbrev pub space_tests : ℕ → List ℕ → List Test
space_tests n on = table_tests n on []

-- The space that the vectors bs are the reduced basis of.
abbrev pub space_accepted : List ℕ → LinearSpace
space_accepted bs = record { refusal = 0; degree = length bs; basis = basis_of bs }

abbrev pub space_refused : ℕ → LinearSpace
space_refused number = record { refusal = number; degree = 0; basis = basis_of [] }

-- What the calls give for a refusal.
abbrev pub refused_space : Refusal → LinearSpace
refused_space refusal = space_refused (number_of refusal)

-- The call on n and the on points of a complete function, which finds the vectors bs.
abbrev pub space_call : ℕ → List ℕ → List ℕ → Decision LinearSpace
space_call n on bs = record { tests = space_tests n on; accepted = space_accepted bs; refused = space_refused }

unfoldable pub space_answer : ℕ → List ℕ → List ℕ → LinearSpace
space_answer n on bs = answer_of (space_call n on bs)

-- A basis by value as an answer.
abbrev pub space_of : Basis → LinearSpace
space_of basis = record { refusal = 0; degree = basis.len; basis = basis }
