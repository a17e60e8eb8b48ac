-- The answer of `linear_space`, refused and accepted. Read next: Completions.
use mathlib.Core.Path.{◌≡◌, sym, ap, ◌∙◌}
use mathlib.Core.Bool.{Bool}
use mathlib.Core.Logic.{◌≢◌}
use mathlib.Core.List.{List, []}
use Prim.Native.Nat.{ℕ, ◌^◌, ◌≤◌, ◌<◌}
use native.Mathlib.Omega.{arith}
use lib.Pow.{pow_mono}
use Rattle.gf2.specs.Limits.{max_variables}
use Rattle.gf2.specs.Finite.{holds, In}
use Rattle.basis.specs.declared.Basis.{Basis}
use Rattle.basis.specs.Reduced.{basis_of, Built}
use Rattle.table.specs.Table.{table_fault}
use Rattle.table.specs.Flags.{flags_of}
use Rattle.table.proofs.Decide.{decide-accepted, decide-refused}
use Rattle.table.proofs.Flags.{flags-at}
use Rattle.space.specs.Closure.{closed, linear_space, degree}
use Rattle.space.specs.Witness.{flagged}
use Rattle.space.proofs.Closure.{linear-ext}
use Rattle.space_answer.specs.declared.LinearSpace.{LinearSpace}
use Rattle.analysis.specs.Spaces.{linear_space_tests, linear_space_accepted, linear_space_refused, linear_space_answer}

-- The flags of the on points stand for the function that is on at them.
pub on-flagged : (n : ℕ) (on : List ℕ) (flags : List Bool) → n ≤ max_variables → flags ≡ flags_of on → (w : ℕ) → w < 2 ^ n → flagged flags w ≡ holds on w
on-flagged n on flags few e w h = ap (λ l. flagged l w) e ∙ flags-at on w (omega (arith, pow_mono few))

module _ (n : ℕ) (on : List ℕ) where
  pub space-refused : (k : ℕ) → k ≡ table_fault n on [] → k ≢ 0 → linear_space_refused k ≡ linear_space_answer n on
  unfolding table_fault linear_space_answer
  space-refused k e nz = sym (decide-refused (linear_space_tests n on) (linear_space_accepted n on) linear_space_refused k nz (sym e))

  pub space-accepted : n ≤ max_variables → table_fault n on [] ≡ 0 → (flags : List Bool) → flags ≡ flags_of on
      → (b : Basis) → Built b (linear_space n (flagged flags)) (In n (closed n (flagged flags)))
      → ◌≡◌ {A = LinearSpace} (record { refusal = 0; degree = b.len; basis = b }) (linear_space_answer n on)
  unfolding table_fault degree linear_space_answer
  space-accepted few ok flags f b built =
      let same : linear_space n (flagged flags) ≡ linear_space n (holds on) = linear-ext n (flagged flags) (holds on) (on-flagged n on flags few f) in
      let value : b ≡ basis_of (linear_space n (holds on)) = built.value ∙ ap basis_of same in
      ap (λ (x : Basis). record { refusal = 0; degree = x.len; basis = x }) value
      ∙ sym (decide-accepted (linear_space_tests n on) (linear_space_accepted n on) linear_space_refused ok)
