-- Laws of specs.Reading: the room is tested last, and a table that is read has no fault and fits. Read next: Exactly.
use mathlib.Core.Path.{◌≡◌, refl, sym, ◌∙◌}
use mathlib.Core.Bool.{Bool, true, false, cond, ◌||◌}
use mathlib.Core.Logic.{◌≢◌}
use mathlib.Core.List.{List, [], ◌∷◌}
use Prim.Native.Nat.{ℕ, ◌≤◌}
use native.Mathlib.Decide.{ℕ_discrete}
use native.Mathlib.Omega.{arith}
use lib.Dec.{ltb}
use lib.ListN.{length}
use borrow.Author.Tests.{ltb-false}
use Rattle.gf2.proofs.Logic.{or-none}
use Rattle.table.specs.Refusal.{Test, test, first_fault, first_place, room_fault}
use Rattle.table.specs.Decision.{front}
use Rattle.table.proofs.FirstFault.{fault-append, fault-before, place-append, place-before}
use Rattle.table.proofs.Decide.{decide-accepted, decide-refused}
use Rattle.stored.specs.Marks.{stored_on, stored_free}
use Rattle.stored.specs.Stored.{stored_tests, stored_fault, stored_place}
use Rattle.stored.specs.Reading.{read_tests, read_fault, read_place, read_refused, read_accepted, read_answer, read_on_after, read_free_after}
use Rattle.stored.proofs.Accepting.{stored-numbered}

-- A list is longer than its room.
abbrev pub short : List ℕ → ℕ → ℕ → Bool
short bytes on free = ltb on (length (stored_on bytes)) || ltb free (length (stored_free bytes))

module _ (bytes : List ℕ) (on free : ℕ) where
  -- The fault of the stored table comes first, with its place.
  pub stored-first : stored_fault bytes ≢ 0 → read_fault bytes on free ≡ stored_fault bytes
  unfolding read_fault stored_fault
  stored-first nz = fault-before (stored_tests bytes) _ nz

  pub stored-place : stored_fault bytes ≢ 0 → read_place bytes on free ≡ stored_place bytes
  unfolding read_place stored_fault stored_place
  stored-place nz = place-before (stored_tests bytes) _ nz

  -- Any other refusal has the place 0.
  pub then-place : stored_fault bytes ≡ 0 → read_place bytes on free ≡ 0
  unfolding read_place stored_fault first_place
  then-place e = place-append (stored_tests bytes) (test room_fault (short bytes on free) ∷ []) (stored-numbered bytes) e ∙ zero-either (short bytes on free)
    where
      zero-either : (t : Bool) → ◌≡◌ {A = ℕ} (cond t 0 0) 0
      zero-either true = refl
      zero-either false = refl

  pub then-room : stored_fault bytes ≡ 0 → read_fault bytes on free ≡ cond (short bytes on free) room_fault 0
  unfolding read_fault stored_fault first_fault
  then-room e = fault-append (stored_tests bytes) (test room_fault (short bytes on free) ∷ []) (stored-numbered bytes) e

  -- A table that is read has no fault, and both lists fit.
  pub read_fits : read_fault bytes on free ≡ 0 → (stored_fault bytes ≡ 0) × (length (stored_on bytes) ≤ on) × (length (stored_free bytes) ≤ free)
  read_fits e = go (ℕ_discrete (stored_fault bytes) 0)
    where
      roomy : (t : Bool) → cond t room_fault 0 ≡ 0 → t ≡ false
      roomy true q = absurd (omega arith)
      roomy false q = refl

      go : Dec (stored_fault bytes ≡ 0) → (stored_fault bytes ≡ 0) × (length (stored_on bytes) ≤ on) × (length (stored_free bytes) ≤ free)
      go (no nz) = absurd (nz (sym (stored-first nz) ∙ e))
      go (yes z) =
          let both = or-none (ltb on (length (stored_on bytes))) (ltb free (length (stored_free bytes))) (roomy (short bytes on free) (sym (then-room z) ∙ e)) in
          (z, ltb-false on (length (stored_on bytes)) both.0, ltb-false free (length (stored_free bytes)) both.1)

-- ---- the answer and the rooms by the one decision

module _ (bytes on free : List ℕ) where
  abbrev tests : List Test
  tests = read_tests bytes (length on) (length free)

  abbrev fault : ℕ
  fault = read_fault bytes (length on) (length free)

  abbrev place : ℕ
  place = read_place bytes (length on) (length free)

  pub refused-read : fault ≢ 0 → read_answer bytes (length on) (length free) ≡ read_refused place fault
  unfolding read_answer read_fault
  refused-read nz = decide-refused tests (read_accepted bytes) (read_refused place) fault nz refl

  pub refused-on : fault ≢ 0 → read_on_after bytes on free ≡ on
  unfolding read_on_after read_fault
  refused-on nz = decide-refused tests (front (stored_on bytes) on) (λ k. on) fault nz refl

  pub refused-free : fault ≢ 0 → read_free_after bytes on free ≡ free
  unfolding read_free_after read_fault
  refused-free nz = decide-refused tests (front (stored_free bytes) free) (λ k. free) fault nz refl

  pub accepted-read : fault ≡ 0 → read_answer bytes (length on) (length free) ≡ read_accepted bytes
  unfolding read_answer read_fault
  accepted-read e = decide-accepted tests (read_accepted bytes) (read_refused place) e

  pub accepted-on : fault ≡ 0 → read_on_after bytes on free ≡ front (stored_on bytes) on
  unfolding read_on_after read_fault
  accepted-on e = decide-accepted tests (front (stored_on bytes) on) (λ k. on) e

  pub accepted-free : fault ≡ 0 → read_free_after bytes on free ≡ front (stored_free bytes) free
  unfolding read_free_after read_fault
  accepted-free e = decide-accepted tests (front (stored_free bytes) free) (λ k. free) e
