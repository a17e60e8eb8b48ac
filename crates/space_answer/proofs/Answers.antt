-- The answer of a call on a linear space, refused and accepted, from what its code has found. Read next: crate `analysis`.
use mathlib.Core.Path.{◌≡◌, sym, ap, ◌∙◌}
use mathlib.Core.Logic.{◌≢◌}
use mathlib.Core.List.{List, []}
use Prim.Native.Nat.{ℕ}
use Rattle.basis.specs.declared.Basis.{Basis}
use Rattle.basis.specs.Reduced.{basis_of}
use Rattle.table.specs.Table.{table_fault}
use Rattle.table.proofs.Decide.{decide-accepted, decide-refused}
use Rattle.space_answer.specs.Answer.{space_tests, space_accepted, space_refused, space_answer, space_of}

module _ (n : ℕ) (on bs : List ℕ) where
  pub answer-refused : (k : ℕ) → k ≡ table_fault n on [] → k ≢ 0 → space_refused k ≡ space_answer n on bs
  unfolding table_fault space_answer
  answer-refused k e nz = sym (decide-refused (space_tests n on) (space_accepted bs) space_refused k nz (sym e))

  pub answer-accepted : table_fault n on [] ≡ 0 → (b : Basis) → b ≡ basis_of bs → space_of b ≡ space_answer n on bs
  unfolding table_fault space_answer
  answer-accepted ok b e = ap space_of e ∙ sym (decide-accepted (space_tests n on) (space_accepted bs) space_refused ok)
