-- Laws of the refusals of comparing: one for each way that the tests can go, and that a call is accepted exactly where it is sound. Read next:
-- Answering.
use mathlib.Core.Path.{◌≡◌, refl, sym, ap, ◌∙◌}
use mathlib.Core.Bool.{Bool, true, false, not}
use mathlib.Core.Logic.{◌≢◌, ◌↔◌}
use mathlib.Core.List.{List, [], ◌∷◌, ◌++◌}
use Prim.Native.Nat.{ℕ, ◌≤◌, ◌<◌}
use native.Mathlib.Nat.{lt_of_not-le}
use native.Mathlib.Decide.{dec_le, ℕ_discrete}
use native.Mathlib.Omega.{arith}
use lib.Dec.{eqb, ltb}
use borrow.Author.Tests.{eq-eqb, ne_eqb, lt-ltb, le-ltb}
use Rattle.table.specs.Refusal.{test, first_fault, first_place, fault_at, fault_of, counts_fault, first_point_fault}
use Rattle.table.specs.Refusal.{Fault}
use Rattle.table.proofs.FirstFault.{fault-append, fault-before, place-append, place-before}
use Rattle.table.proofs.Decide.{table-refused, table-passed}
use Rattle.stored.specs.Marks.{stored_variables}
use Rattle.stored.specs.Stored.{stored_tests, stored_fault}
use Rattle.stored.proofs.Accepting.{stored-numbered}
use Rattle.compare.specs.Answer.{table_size, Comparable, pair_tests, compare_tests, compare_fault}

module _ (left right : List ℕ) (first : ℕ) where
  pub compare-left : (k : ℕ) → stored_fault left ≡ k → k ≢ 0 → compare_fault left right first ≡ k
  unfolding compare_fault stored_fault
  compare-left k e n = table-refused (stored_tests left) (stored_tests right ++ pair_tests left right first) k e n

  pub compare-right : (k : ℕ) → stored_fault left ≡ 0 → stored_fault right ≡ k → k ≢ 0 → compare_fault left right first ≡ k
  unfolding compare_fault stored_fault
  compare-right k e f n =
      table-passed (stored_tests left) (stored_tests right ++ pair_tests left right first) (stored-numbered left) e ∙ table-refused (stored_tests right) (pair_tests left right first) k f n

  -- What was found in a table is the refusal, with its place.
  pub found_left : (f : Fault) → f ≡ fault_of (stored_tests left) → f.number ≢ 0 → f ≡ fault_of (compare_tests left right first)
  found_left f e n =
      let nz : first_fault (stored_tests left) ≢ 0 = λ z. n (ap (λ (x : Fault). x.number) e ∙ z) in
      cc (e, fault-before (stored_tests left) (stored_tests right ++ pair_tests left right first) nz, place-before (stored_tests left) (stored_tests right ++ pair_tests left right first) nz)

  pub found_right : stored_fault left ≡ 0 → (f : Fault) → f ≡ fault_of (stored_tests right) → f.number ≢ 0 → f ≡ fault_of (compare_tests left right first)
  unfolding stored_fault
  found_right z f e n =
      let nz : first_fault (stored_tests right) ≢ 0 = λ z. n (ap (λ (x : Fault). x.number) e ∙ z) in
      let others = stored_tests right ++ pair_tests left right first in
      let number = fault-append (stored_tests left) others (stored-numbered left) z ∙ fault-before (stored_tests right) (pair_tests left right first) nz in
      let place = place-append (stored_tests left) others (stored-numbered left) z ∙ place-before (stored_tests right) (pair_tests left right first) nz in
      cc (e, number, place)

  module _ (e : stored_fault left ≡ 0) (f : stored_fault right ≡ 0) where
    -- Any other number has the place 0.
    pub found-pair : (k : ℕ) → compare_fault left right first ≡ k → fault_at k 0 ≡ fault_of (compare_tests left right first)
    unfolding compare_fault stored_fault first_place
    found-pair k number =
        let others = stored_tests right ++ pair_tests left right first in
        let place = place-append (stored_tests left) others (stored-numbered left) e ∙ place-append (stored_tests right) (pair_tests left right first) (stored-numbered right) f
        ∙ zeros (not (eqb (stored_variables left) (stored_variables right))) (ltb (table_size left) first) in
        cc (number, place)
      where
        zeros : (a b : Bool) → first_place (test counts_fault a ∷ test first_point_fault b ∷ []) ≡ 0
        zeros true b = refl
        zeros false true = refl
        zeros false false = refl

    pub compare-pair : compare_fault left right first ≡ first_fault (pair_tests left right first)
    unfolding compare_fault stored_fault
    compare-pair = table-passed (stored_tests left) (stored_tests right ++ pair_tests left right first) (stored-numbered left) e ∙ table-passed (stored_tests right) (pair_tests left right first) (stored-numbered right) f

    pub compare-counts : stored_variables left ≢ stored_variables right → compare_fault left right first ≡ counts_fault
    unfolding first_fault
    compare-counts n = compare-pair ∙ rw (ne_eqb (stored_variables left) (stored_variables right) n)

    pub compare-first : stored_variables left ≡ stored_variables right → table_size left < first → compare_fault left right first ≡ first_point_fault
    unfolding first_fault
    compare-first q h = compare-pair ∙ rw (eq-eqb (stored_variables left) (stored_variables right) q, lt-ltb (table_size left) first h)

    pub compare-sound : stored_variables left ≡ stored_variables right → first ≤ table_size left → compare_fault left right first ≡ 0
    unfolding first_fault
    compare-sound q h = compare-pair ∙ rw (eq-eqb (stored_variables left) (stored_variables right) q, le-ltb (table_size left) first h)

  -- Accepted exactly where both tables are, have one number of variables, and the first point is at most 2 ^ n.
  pub compare-exactly : (compare_fault left right first ≡ 0) ↔ (Comparable left right × (first ≤ table_size left))
  compare-exactly = (λ z. go z (ℕ_discrete (stored_fault left) 0) (ℕ_discrete (stored_fault right) 0), λ s. compare-sound s.0.left-sound s.0.right-sound s.0.counts s.1)
    where
      rest : compare_fault left right first ≡ 0 → stored_fault left ≡ 0 → stored_fault right ≡ 0 → Dec (stored_variables left ≡ stored_variables right) → Dec (first ≤ table_size left)
          → Comparable left right × (first ≤ table_size left)
      rest z e f (yes q) (yes h) = (record { left-sound = e; right-sound = f; counts = q }, h)
      rest z e f (yes q) (no n) = absurd (omega (arith, z, compare-first e f q (lt_of_not-le n)))
      rest z e f (no n) d = absurd (omega (arith, z, compare-counts e f n))

      go : compare_fault left right first ≡ 0 → Dec (stored_fault left ≡ 0) → Dec (stored_fault right ≡ 0) → Comparable left right × (first ≤ table_size left)
      go z (no n) d = absurd (n (sym (compare-left (stored_fault left) refl n) ∙ z))
      go z (yes e) (no n) = absurd (n (sym (compare-right (stored_fault right) e refl n) ∙ z))
      go z (yes e) (yes f) = rest z e f (ℕ_discrete (stored_variables left) (stored_variables right)) (dec_le first (table_size left))
