-- The answer of comparing and the room after it, by the decision over its tests, and from marks that stand in two arrays. Read next: Examples.
use mathlib.Core.Path.{◌≡◌, sym, ap, ◌∙◌}
use mathlib.Core.Logic.{◌≢◌}
use mathlib.Core.List.{List}
use Prim.Native.Nat.{ℕ, ◌≤◌, ◌<◌}
use native.Mathlib.Omega.{arith}
use lib.ListN.{length, take}
use lib.Pow.{pow_mono}
use Rattle.gf2.specs.Finite.{Mem}
use Rattle.gf2.proofs.Finite.{select-ext, select-mem}
use Rattle.table.specs.Refusal.{Fault}
use Rattle.table.specs.Refusal.{first_fault, fault_of}
use Rattle.table.specs.Decision.{front}
use Rattle.table.specs.Flags.{max_points}
use Rattle.table.proofs.Decide.{decide-accepted, decide-refused}
use Rattle.stored.proofs.Accepting.{stored-accepted}
use Rattle.point_marks.specs.Marks.{stored_mark, mark_at, MarksOf}
use Rattle.compare.specs.declared.Stopped.{Stopped}
use Rattle.compare.specs.Differences.{differs, differing, is_listed, differing_from, differences_of, fitting, handed_points, handed_bytes, next_point, stopped_at}
use Rattle.compare.specs.Answer.{table_size, compare_tests, compare_fault, compare_place, compare_bytes, compare_accepted, compare_refused, compare_answer, compare_after}
use Rattle.compare.proofs.Records.{differences-ext}
use Rattle.compare.proofs.Stopping.{ListingStop, stop-within, listing-stop}
use Rattle.compare.proofs.Refusals.{compare-exactly}

-- ---- where a listing stops

module _ (left right : ℕ → ℕ) (first size bytes : ℕ) where
  pub compare-stop : ListingStop (is_listed left right first) size (fitting bytes) (next_point left right first size bytes)
  unfolding next_point differing_from
  compare-stop = listing-stop (is_listed left right first) size (fitting bytes)

  pub next-within : next_point left right first size bytes ≤ size
  next-within = stop-within (is_listed left right first) size (fitting bytes) compare-stop

  -- What is handed over is what stands before the next point.
  pub handed-before : handed_points left right first size bytes ≡ differing_from left right first (next_point left right first size bytes)
  unfolding handed_points differing_from
  handed-before = compare-stop.handed

  pub handed-below : (p : ℕ) → Mem p (handed_points left right first size bytes) → p < size
  unfolding handed_points differing_from
  handed-below p m = omega (arith, (select-mem (is_listed left right first) (next_point left right first size bytes) p (rw handed-before at m)).0, next-within)

-- ---- only the marks of points matter

module _ (left right left₁ right₁ : ℕ → ℕ) (size : ℕ) (l : (p : ℕ) → p < size → left p ≡ left₁ p) (r : (p : ℕ) → p < size → right p ≡ right₁ p) where
  pub differing-ext : differing left right size ≡ differing left₁ right₁ size
  unfolding differing
  differing-ext = select-ext (differs left right) (differs left₁ right₁) size (λ p h. rw (l p h, r p h))

  from-ext : (first : ℕ) → differing_from left right first size ≡ differing_from left₁ right₁ first size
  unfolding differing_from
  from-ext first = select-ext (is_listed left right first) (is_listed left₁ right₁ first) size (λ p h. rw (l p h, r p h))

  module _ (first bytes : ℕ) where
    points-ext : handed_points left right first size bytes ≡ handed_points left₁ right₁ first size bytes
    unfolding handed_points
    points-ext = ap (take (fitting bytes)) (from-ext first)

    pub stopped-ext : stopped_at left right first size bytes ≡ stopped_at left₁ right₁ first size bytes
    unfolding next_point
    stopped-ext = rw (points-ext, from-ext first)

    pub bytes-ext : handed_bytes left right first size bytes ≡ handed_bytes left₁ right₁ first size bytes
    bytes-ext =
        differences-ext left right left₁ right₁ (handed_points left right first size bytes)
        (λ p m. let h = handed-below left right first size bytes p m in (l p h, r p h))
        ∙ ap (differences_of left₁ right₁) points-ext

-- ---- the answer

module _ (left right : List ℕ) (first : ℕ) (room : List ℕ) where
  pub compare-refused : (f : Fault) → f ≡ fault_of (compare_tests left right first) → f.number ≢ 0
      → (compare_refused f.place f.number ≡ compare_answer left right first room) × (room ≡ compare_after left right first room)
  unfolding compare_place compare_answer compare_after
  compare-refused f e n =
      let number : first_fault (compare_tests left right first) ≡ f.number = sym (ap (λ (x : Fault). x.number) e) in
      let place : f.place ≡ compare_place left right first = ap (λ (x : Fault). x.place) e in (
        ap (λ (p : ℕ). compare_refused p f.number) place
            ∙ sym (decide-refused (compare_tests left right first) (compare_accepted left right first room) (compare_refused (compare_place left right first)) f.number n number),
        sym (decide-refused (compare_tests left right first) (front (compare_bytes left right first room) room) (λ k. room) f.number n number),
      )

  pub compare-accepted : compare_fault left right first ≡ 0
      → (compare_accepted left right first room ≡ compare_answer left right first room) × (front (compare_bytes left right first room) room ≡ compare_after left right first room)
  unfolding compare_fault compare_answer compare_after
  compare-accepted e = (
    sym (decide-accepted (compare_tests left right first) (compare_accepted left right first room) (compare_refused (compare_place left right first)) e),
    sym (decide-accepted (compare_tests left right first) (front (compare_bytes left right first room) room) (λ number. room) e),
  )

  -- What was counted and listed from two arrays of marks is the answer.
  module _ (e : compare_fault left right first ≡ 0) (lefts rights : List ℕ) (m : MarksOf left lefts) (n : MarksOf right rights) where
    few : table_size left ≤ max_points
    few = pow_mono (stored-accepted left ((compare-exactly left right first).0 e).0.left-sound).few

    below : (bytes array : List ℕ) → MarksOf bytes array → (p : ℕ) → p < table_size left → mark_at array p ≡ stored_mark bytes p
    below bytes array k p h = k p (omega (arith, few))

    pub compare-answer : {size total : ℕ} {s : Stopped} {after : List ℕ} → size ≡ table_size left
        → total ≡ length (differing (mark_at lefts) (mark_at rights) size)
        → s ≡ stopped_at (mark_at lefts) (mark_at rights) first size (length room)
        → after ≡ front (handed_bytes (mark_at lefts) (mark_at rights) first size (length room)) room
        → (record { refusal = 0; place = 0; records = s.records; next = s.next; total = total } ≡ compare_answer left right first room) × (after ≡ compare_after left right first room)
    compare-answer z t q w =
        let l = below left lefts m in
        let r = below right rights n in
        let given = compare-accepted e in (
          rw (
            t ∙ ap (λ (k : ℕ). length (differing (mark_at lefts) (mark_at rights) k)) z
                ∙ ap length (differing-ext (mark_at lefts) (mark_at rights) (stored_mark left) (stored_mark right) (table_size left) l r),
            q ∙ ap (λ (k : ℕ). stopped_at (mark_at lefts) (mark_at rights) first k (length room)) z
                ∙ stopped-ext (mark_at lefts) (mark_at rights) (stored_mark left) (stored_mark right) (table_size left) l r first (length room),
          ) given.0,
          w ∙ ap (λ (k : ℕ). front (handed_bytes (mark_at lefts) (mark_at rights) first k (length room)) room) z
              ∙ ap (λ x. front x room) (bytes-ext (mark_at lefts) (mark_at rights) (stored_mark left) (stored_mark right) (table_size left) l r first (length room)) ∙ given.1,
        )
