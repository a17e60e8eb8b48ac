-- Laws of one decision over a list of tests: what is given where none applies, where an early one does, and where only the last does. Read next: Fill.
use mathlib.Core.Path.{◌≡◌, refl, sym, ap, ◌∙◌}
use mathlib.Core.Bool.{Bool, true, false}
use mathlib.Core.Logic.{◌≢◌}
use mathlib.Core.List.{List, [], ◌∷◌, ◌++◌}
use Prim.Native.Nat.{ℕ, ◌≤◌, ◌<◌}
use native.Mathlib.Decide.{ℕ_discrete}
use native.Mathlib.Omega.{arith}
use lib.Dec.{ltb}
use lib.ListN.{length}
use borrow.Author.Tests.{eq-eqb, ne_eqb, lt-ltb, le-ltb}
use Rattle.table.specs.Refusal.{Test, test, first_fault, first_place, fault_at, Numbered, Exact, room_fault}
use Rattle.table.specs.Refusal.{Fault}
use Rattle.table.proofs.FirstFault.{fault-first, no-fault, fault-append, fault-before, place-append, place-before}
use Rattle.table.specs.Decision.{decide, front, room_after, room_test}

-- ---- a decision by the number of its first fault

pub decide-accepted : {A : Type 0} (ts : List Test) (a : A) (r : ℕ → A) → first_fault ts ≡ 0 → decide ts a r ≡ a
decide-accepted ts a r e = rw (eq-eqb (first_fault ts) 0 e)

pub decide-refused : {A : Type 0} (ts : List Test) (a : A) (r : ℕ → A) (k : ℕ) → k ≢ 0 → first_fault ts ≡ k → decide ts a r ≡ r k
decide-refused ts a r k n e = rw (e, ne_eqb k 0 n)

-- The refusal number that an answer carries is that of the first test that applies.
pub decide-number : {A : Type 0} (number : A → ℕ) (ts : List Test) (a : A) (r : ℕ → A) → number a ≡ 0 → ((k : ℕ) → number (r k) ≡ k) → number (decide ts a r) ≡ first_fault ts
decide-number number ts a r z s = go (ℕ_discrete (first_fault ts) 0)
  where
    go : Dec (first_fault ts ≡ 0) → number (decide ts a r) ≡ first_fault ts
    go (yes e) = ap number (decide-accepted ts a r e) ∙ z ∙ sym e
    go (no n) = ap number (decide-refused ts a r (first_fault ts) n refl) ∙ s (first_fault ts)

-- So it is exact.
pub decide-exact : {A : Type 0} (number : A → ℕ) (ts : List Test) (a : A) (r : ℕ → A) → Numbered ts → number a ≡ 0 → ((k : ℕ) → number (r k) ≡ k)
    → Exact ts (number (decide ts a r))
decide-exact number ts a r h z s = rw (decide-number number ts a r z s) (record { refused = fault-first ts; accepted = no-fault ts h })

-- ---- tests of the table first, then one of the room

module _ (ts us : List Test) where
  -- A fault of the table is the fault of the call.
  pub table-refused : (k : ℕ) → first_fault ts ≡ k → k ≢ 0 → first_fault (ts ++ us) ≡ k
  table-refused k e n = fault-before ts us (λ z. n (sym e ∙ z)) ∙ e

  -- A sound table leaves the decision to the other tests.
  pub table-passed : Numbered ts → first_fault ts ≡ 0 → first_fault (ts ++ us) ≡ first_fault us
  table-passed h e = fault-append ts us h e

-- One test more, behind those of the table: it applies, or not.
module _ (ts : List Test) (h : Numbered ts) (e : first_fault ts ≡ 0) (number : ℕ) (applies : Bool) where
  pub then-applies : applies ≡ true → first_fault (ts ++ (test number applies ∷ [])) ≡ number
  unfolding first_fault
  then-applies t = table-passed ts (test number applies ∷ []) h e ∙ rw t

  pub then-none : applies ≡ false → first_fault (ts ++ (test number applies ∷ [])) ≡ 0
  unfolding first_fault
  then-none t = table-passed ts (test number applies ∷ []) h e ∙ rw t

-- The last test: an answer that is longer than its room.
pub room-short : {A : Type 0} (answer room : List A) → length room < length answer → first_fault (room_test answer room) ≡ room_fault
unfolding first_fault
room-short answer room h = rw (lt-ltb (length room) (length answer) h)

pub room-enough : {A : Type 0} (answer room : List A) → length answer ≤ length room → first_fault (room_test answer room) ≡ 0
unfolding first_fault
room-enough answer room h = rw (le-ltb (length room) (length answer) h)

-- ---- a call with one room, which it tests last: its answer and its room, by what was found

module _ {A B : Type 0} (ts : List Test) (answer room : List B) (accepted : A) (refused : ℕ → A) where
  abbrev tests : List Test
  tests = ts ++ room_test answer room

  pub call-refused : (k : ℕ) → k ≡ first_fault ts → k ≢ 0 → (refused k ≡ decide tests accepted refused) × (room ≡ room_after tests answer room)
  call-refused k e n =
      let f = table-refused ts (room_test answer room) k (sym e) n in
      (sym (decide-refused tests accepted refused k n f), sym (decide-refused tests (front answer room) (λ r. room) k n f))

  pub call-short : Numbered ts → first_fault ts ≡ 0 → length room < length answer → (refused room_fault ≡ decide tests accepted refused) × (room ≡ room_after tests answer room)
  call-short h e l =
      let f = table-passed ts (room_test answer room) h e ∙ room-short answer room l in
      let n : room_fault ≢ 0 = λ z. omega arith in
      (sym (decide-refused tests accepted refused room_fault n f), sym (decide-refused tests (front answer room) (λ r. room) room_fault n f))

  pub call-accepted : Numbered ts → first_fault ts ≡ 0 → length answer ≤ length room
      → (accepted ≡ decide tests accepted refused) × (front answer room ≡ room_after tests answer room)
  call-accepted h e l =
      let f = table-passed ts (room_test answer room) h e ∙ room-enough answer room l in
      (sym (decide-accepted tests accepted refused f), sym (decide-accepted tests (front answer room) (λ r. room) f))

-- A test without a place gives none.
unplaced : (number : ℕ) (applies : Bool) → first_place (test number applies ∷ []) ≡ 0
unfolding first_place
unplaced number true = refl
unplaced number false = refl

-- The three ways out of such a call, said of the value x that it returns and of its room after it: the fault of the tests before the room's, a room
-- that is too short, and the answer at the front of the room.
pub record Ways {A B : Type 0} (fault : ℕ) (answer room : List B) (accepted : A) (refused : ℕ → A) (returned : A) (left : List B) : Type 0 where
  pub faulty : (k : ℕ) → k ≡ fault → k ≢ 0 → (x : A) → x ≡ refused k → (x ≡ returned) × (room ≡ left)
  pub short : fault ≡ 0 → length room < length answer → (x : A) → x ≡ refused room_fault → (x ≡ returned) × (room ≡ left)
  pub whole : fault ≡ 0 → length answer ≤ length room → (x : A) (after : List B) → x ≡ accepted → after ≡ front answer room → (x ≡ returned) × (after ≡ left)

pub ways : {A B : Type 0} (ts : List Test) (answer room : List B) (accepted : A) (refused : ℕ → A) → Numbered ts
    → Ways (first_fault ts) answer room accepted refused (decide (ts ++ room_test answer room) accepted refused) (room_after (ts ++ room_test answer room) answer room)
ways ts answer room accepted refused h = record {
  faulty = λ k e n x q. let p = call-refused ts answer room accepted refused k e n in (q ∙ p.0, p.1);
  short = λ e l x q. let p = call-short ts answer room accepted refused h e l in (q ∙ p.0, p.1);
  whole = λ e l x after q r. let p = call-accepted ts answer room accepted refused h e l in (q ∙ p.0, r ∙ p.1);
}

-- The same of a call that reads bytes: its refusal has the place of the tests before the room's, and a room that is too short the place 0.
pub record PlacedWays {A B : Type 0} (fault place : ℕ) (answer room : List B) (accepted : A) (refused : ℕ → ℕ → A) (returned : A) (left : List B) : Type 0 where
  pub faulty : (f : Fault) → f ≡ fault_at fault place → f.number ≢ 0 → (x : A) → x ≡ refused f.place f.number → (x ≡ returned) × (room ≡ left)
  pub short : fault ≡ 0 → length room < length answer → (x : A) → x ≡ refused 0 room_fault → (x ≡ returned) × (room ≡ left)
  pub whole : fault ≡ 0 → length answer ≤ length room → (x : A) (after : List B) → x ≡ accepted → after ≡ front answer room → (x ≡ returned) × (after ≡ left)

pub placed-ways : {A B : Type 0} (ts : List Test) (answer room : List B) (accepted : A) (refused : ℕ → ℕ → A) → Numbered ts
    → PlacedWays (first_fault ts) (first_place ts) answer room accepted refused
    (decide (ts ++ room_test answer room) accepted (refused (first_place (ts ++ room_test answer room))))
    (room_after (ts ++ room_test answer room) answer room)
placed-ways ts answer room accepted refused h = record {
  faulty = λ f e n x q.
      let number : f.number ≡ first_fault ts = ap (λ (y : Fault). y.number) e in
      let place : f.place ≡ first_place (ts ++ room_test answer room) = ap (λ (y : Fault). y.place) e ∙ sym (place-before ts (room_test answer room) (λ z. n (number ∙ z))) in
      by.faulty f.number number n x (q ∙ ap (λ (p : ℕ). refused p f.number) place);
  short = λ e l x q. by.short e l x (q ∙ ap (λ (p : ℕ). refused p room_fault) (sym (room-place e)));
  whole = by.whole;
}
  where
    by : Ways (first_fault ts) answer room accepted (refused (first_place (ts ++ room_test answer room)))
        (decide (ts ++ room_test answer room) accepted (refused (first_place (ts ++ room_test answer room))))
        (room_after (ts ++ room_test answer room) answer room)
    by = ways ts answer room accepted (refused (first_place (ts ++ room_test answer room))) h

    room-place : first_fault ts ≡ 0 → first_place (ts ++ room_test answer room) ≡ 0
    room-place e = place-append ts (room_test answer room) h e ∙ unplaced room_fault (ltb (length room) (length answer))
