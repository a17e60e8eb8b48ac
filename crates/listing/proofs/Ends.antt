-- The end of a walk is the answer of the listing rule. Read next: Refusals.
use mathlib.Core.Path.{◌≡◌, refl, sym, ap, ap₂, ◌∙◌, subst}
use mathlib.Core.Bool.{Bool, true, false}
use mathlib.Core.Logic.{inl, inr}
use mathlib.Core.List.{List, [], ◌∷◌, ◌++◌, flat_map, append_assoc}
use Prim.Native.Nat.{ℕ, zero, suc, ◌+◌, ◌-◌, ◌*◌, ◌≤◌}
use native.Mathlib.Omega.{arith}
use lib.ListN.{length, take, drop, take-append-drop, length-append}
use lib.Seq.{take_at, sets, sets-eq, length-sets, length-take-le, drop-append-add, drop-drop}
use lib.Dec.{ltb}
use borrow.Author.Tests.{ltb-true, ltb-false, le-ltb, lt-ltb}
use Rattle.gf2.specs.Finite.{Mem}
use Rattle.cubes.specs.Cubes.{Candidate}
use Rattle.cubes.specs.Records.{record_length}
use Rattle.cubes.specs.Listing.{Passage, nothing, passage}
use Rattle.cubes.specs.Listing as rule
use Rattle.walk.specs.declared.Tally.{Tally}
use Rattle.walk.specs.Walk.{starting, passing, writing, State, going_on, stopping, walk}
use Rattle.walk.proofs.Steps.{pass_spent, pass-off, pass-full, pass-write, walk-on, walk-stop}

-- The room with the records of some candidates after the first w records.
abbrev filled : (Candidate → List ℕ) → ℕ → List ℕ → List Candidate → List ℕ
filled recorded w m l = take (record_length * w) m ++ (flat_map recorded l ++ drop (record_length * (w + length l)) m)

-- A walk with allowance a, w records written and the room m has ended as the passage says.
pub record EndsAs (recorded : Candidate → List ℕ) (a w : ℕ) (m : List ℕ) (r : Passage) (s : State) : Type 0 where
  pub left : s.tally.left ≡ a - r.passed
  pub written : s.tally.written ≡ w + length r.primes
  pub room : s.room ≡ filled recorded w m r.primes

same-room : (recorded : Candidate → List ℕ) (w : ℕ) (m : List ℕ) → m ≡ filled recorded w m []
unfolding flat_map
same-room recorded w m =
    let q : record_length * (w + 0) ≡ record_length * w = omega arith in
    sym (ap (λ (k : ℕ). take (record_length * w) m ++ drop k m) q ∙ take-append-drop (record_length * w) m)

more_room : (recorded : Candidate → List ℕ) (w : ℕ) (m : List ℕ) (c : Candidate) (l : List Candidate) → length (recorded c) ≡ record_length
    → record_length * w + record_length ≤ length m → filled recorded (w + 1) (sets m (record_length * w) (recorded c)) l ≡ filled recorded w m (c ∷ l)
unfolding flat_map
more_room recorded w m c l b k =
    let front = take (record_length * w) m in
    let back = drop (record_length * w + length (recorded c)) m in
    let e : sets m (record_length * w) (recorded c) ≡ (front ++ recorded c) ++ back = sets-eq (recorded c) m (record_length * w) (omega arith) in
    let f : length front ≡ record_length * w = length-take-le (record_length * w) m (omega arith) in
    let x : length (front ++ recorded c) ≡ record_length * (w + 1) = omega (arith, length-append front (recorded c)) in
    let q : record_length * (w + 1 + length l) ≡ length (front ++ recorded c) + record_length * length l = omega arith in
    let r : record_length * w + length (recorded c) + record_length * length l ≡ record_length * (w + suc (length l)) = omega arith in
    let g : take (record_length * (w + 1)) (sets m (record_length * w) (recorded c)) ≡ front ++ recorded c =
    ap (take (record_length * (w + 1))) e ∙ take_at (front ++ recorded c) back (record_length * (w + 1)) x in
    let d : drop (record_length * (w + 1 + length l)) (sets m (record_length * w) (recorded c)) ≡ drop (record_length * (w + suc (length l))) m =
    ap₂ (λ (k : ℕ) (y : List ℕ). drop k y) q e ∙ drop-append-add (front ++ recorded c) back (record_length * length l)
    ∙ drop-drop (record_length * length l) (record_length * w + length (recorded c)) m ∙ ap (λ (k : ℕ). drop k m) r in
    ap₂ (λ (y v : List ℕ). y ++ (flat_map recorded l ++ v)) g d
    ∙ append_assoc front (recorded c) (flat_map recorded l ++ drop (record_length * (w + suc (length l))) m)
    ∙ ap (λ (y : List ℕ). front ++ y) (sym (append_assoc (recorded c) (flat_map recorded l) (drop (record_length * (w + suc (length l))) m)))

-- A walk that has ended where it stands.
ended : (recorded : Candidate → List ℕ) {a w : ℕ} {m : List ℕ} (s : State) → s.tally.left ≡ a → s.tally.written ≡ w → s.room ≡ m → EndsAs recorded a w m nothing s
ended recorded {a} {w} {m} s e f g = record { left = omega (arith, e); written = omega (arith, f); room = g ∙ same-room recorded w m }

module _ (prime : Candidate → Bool) (recorded : Candidate → List ℕ) where
  walk-runs : (cs : List Candidate) → ((c : Candidate) → Mem c cs → length (recorded c) ≡ record_length) → (t : Tally) (m : List ℕ) → record_length * t.written ≤ length m
      → EndsAs recorded t.left t.written m (passage record_length prime cs t.left (length m - record_length * t.written)) (walk prime recorded cs (going_on t m))
  unfolding walk passage
  walk-runs [] h t m k = ended recorded (going_on t m) refl refl refl
  walk-runs (c ∷ cs) h t m k = go t.left refl (prime c) refl (ltb (length m) (record_length * t.written + record_length)) refl
      (walk-runs cs (λ d i. h d (inr i)) (passing t) m k)
      (walk-runs cs (λ d i. h d (inr i)) (writing t) (sets m (record_length * t.written) (recorded c)))
    where
      M : List ℕ
      M = sets m (record_length * t.written) (recorded c)

      go : (a : ℕ) → t.left ≡ a → (p : Bool) → prime c ≡ p → (u : Bool) → ltb (length m) (record_length * t.written + record_length) ≡ u
          → EndsAs recorded (t.left - 1) t.written m (passage record_length prime cs (t.left - 1) (length m - record_length * t.written)) (walk prime recorded cs (going_on (passing t) m))
          → (record_length * (t.written + 1) ≤ length M → EndsAs recorded (t.left - 1) (t.written + 1) M (passage record_length prime cs (t.left - 1) (length M - record_length * (t.written + 1))) (walk prime recorded cs (going_on (writing t) M)))
          → EndsAs recorded a t.written m (passage record_length prime (c ∷ cs) a (length m - record_length * t.written)) (walk prime recorded (c ∷ cs) (going_on t m))
      go zero e p q u v i j =
          subst (EndsAs recorded 0 t.written m nothing) (sym (walk-stop prime recorded c cs (going_on t m) (stopping t m) (pass_spent prime recorded c t m e) refl))
          (ended recorded (stopping t m) e refl refl)
      go (suc a) e true q true v i j =
          let f = ltb-true (length m) (record_length * t.written + record_length) v in
          rw (q, lt-ltb (length m - record_length * t.written) record_length (omega arith))
          (subst (EndsAs recorded (suc a) t.written m nothing) (sym (walk-stop prime recorded c cs (going_on t m) (stopping t m) (pass-full prime recorded c t m (λ o. omega arith) q f) refl))
          (ended recorded (stopping t m) e refl refl))
      go (suc a) e true q false v i j =
          let f = ltb-false (length m) (record_length * t.written + record_length) v in
          let n = length-sets m (record_length * t.written) (recorded c) in
          let r = passage record_length prime cs a (length m - record_length * t.written - record_length) in
          let x : t.left - 1 ≡ a = omega arith in
          let y : length M - record_length * (t.written + 1) ≡ length m - record_length * t.written - record_length = omega arith in
          let b : EndsAs recorded a (t.written + 1) M r (walk prime recorded cs (going_on (writing t) M)) =
          subst (λ (z : ℕ). EndsAs recorded z (t.written + 1) M (passage record_length prime cs z (length m - record_length * t.written - record_length)) (walk prime recorded cs (going_on (writing t) M))) x
          (subst (λ (z : ℕ). EndsAs recorded (t.left - 1) (t.written + 1) M (passage record_length prime cs (t.left - 1) z) (walk prime recorded cs (going_on (writing t) M))) y (j (omega arith))) in
          rw (q, le-ltb (length m - record_length * t.written) record_length (omega arith))
          (subst (EndsAs recorded (suc a) t.written m (rule.writing c r))
          (sym (walk-on prime recorded c cs (going_on t m) (going_on (writing t) M) (pass-write prime recorded c t m (λ o. omega arith) q f) refl))
          (record { left = omega (arith, b.left); written = omega (arith, b.written); room = b.room ∙ more_room recorded t.written m c r.primes (h c (inl refl)) f }))
      go (suc a) e false q u v i j =
          let r = passage record_length prime cs a (length m - record_length * t.written) in
          let x : t.left - 1 ≡ a = omega arith in
          let b : EndsAs recorded a t.written m r (walk prime recorded cs (going_on (passing t) m)) =
          subst (λ (z : ℕ). EndsAs recorded z t.written m (passage record_length prime cs z (length m - record_length * t.written)) (walk prime recorded cs (going_on (passing t) m))) x i in
          rw q
          (subst (EndsAs recorded (suc a) t.written m (rule.passing r))
          (sym (walk-on prime recorded c cs (going_on t m) (going_on (passing t) m) (pass-off prime recorded c t m (λ o. omega arith) q) refl))
          (record { left = omega (arith, b.left); written = b.written; room = b.room }))

  -- From the start.
  pub walk_is : (cs : List Candidate) → ((c : Candidate) → Mem c cs → length (recorded c) ≡ record_length) → (a : ℕ) (m : List ℕ)
      → EndsAs recorded a 0 m (passage record_length prime cs a (length m)) (walk prime recorded cs (going_on (starting a) m))
  walk_is cs h a m =
      let q : length m - record_length * 0 ≡ length m = omega arith in
      subst (λ (z : ℕ). EndsAs recorded a 0 m (passage record_length prime cs a z) (walk prime recorded cs (going_on (starting a) m))) q (walk-runs cs h (starting a) m (omega arith))
