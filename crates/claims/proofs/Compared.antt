-- The claim about two tables side by side holds of every two accepted tables of one number of variables, every first point of at most 2 ^ n, and every
-- list of calls that goes on from there. Read next: Faults.
use mathlib.Core.Path.{◌≡◌, refl, sym, ap, ap₂, ◌∙◌, subst}
use mathlib.Core.Bool.{Bool, true, false, cond}
use mathlib.Core.Logic.{◌⊎◌, inl, inr, ◌≢◌}
use mathlib.Core.List.{List, [], ◌∷◌, ◌++◌, flat_map, append_assoc, append-nil}
use Prim.Native.Nat.{ℕ, ◌+◌, ◌*◌, ◌^◌, ◌≤◌, ◌<◌}
use native.Mathlib.Nat.{eq-or-lt_of_le}
use native.Mathlib.Decide.{ℕ_discrete}
use native.Mathlib.Omega.{arith}
use lib.ListN.{length, take, drop, get_or, length-append}
use lib.Seq.{take_at, drop_at}
use lib.Dec.{eqb, leb}
use borrow.Author.Tests.{eq-eqb, ne_eqb, eqb-true, leb-true}
use Rattle.gf2.specs.Finite.{Mem, Rising}
use Rattle.gf2.proofs.Logic.{and_l, and_r}
use Rattle.table.specs.Refusal.{fault_of}
use Rattle.table.specs.Decision.{front}
use Rattle.table.proofs.Decide.{decide-number}
use Rattle.records.proofs.KindBytes.{word-of-bytes}
use Rattle.records.specs.Kinds.{low_byte, high_byte, word_of}
use Rattle.stored.specs.Marks.{stored_variables, stored_on, stored_free}
use Rattle.stored.specs.Stored.{stored_fault}
use Rattle.stored.proofs.Accepting.{stored-accepted}
use Rattle.cubes.specs.Lists.{keep}
use Rattle.cubes.proofs.Lists.{ordered-with}
use Rattle.point_marks.specs.Marks.{stored_mark}
use Rattle.point_marks.proofs.Marks.{marked-on, marked-free, marked-off}
use Rattle.compare.specs.declared.Comparison.{Comparison}
use Rattle.compare.specs.Differences.{is_listed, difference_length, difference_of, differences_of, fitting, differing_from, next_point}
use Rattle.compare.specs.Answer.{table_size, Comparable, compare_tests, compare_differing, compare_fault, compare_place, compare_accepted, compare_refused, compare_answer}
use Rattle.compare.proofs.Records.{differences-length, differences-append}
use Rattle.compare.proofs.Stopping.{ListingStop, stop-within}
use Rattle.compare.proofs.Joining.{listed-differs, from-mem, from-rising, differing-all, from-none, from-add, from-exchange, from-same}
use Rattle.compare.proofs.Refusals.{compare-exactly}
use Rattle.compare.proofs.Answering.{compare-stop, handed-before, compare-refused, compare-accepted}
use Rattle.claims.specs.Demand3.{sum_of}
use Rattle.claims.specs.Compared.{Comparing, returned, room_returned, handed_records, exchanged, exchanged_marks, MarkedAs, point_after, GoesOn, point_reached, has_room, between, record_of_point, StopsBefore, DiffersNowhere, ExchangesMarks, Compared}

-- ---- one call

-- The number that a call returns is the refusal by its tests.
refusal_is : (c : Comparing) → (returned c).refusal ≡ compare_fault c.left c.right c.first
unfolding compare_answer compare_fault
refusal_is c =
    decide-number (λ (a : Comparison). a.refusal) (compare_tests c.left c.right c.first) (compare_accepted c.left c.right c.first c.room)
    (compare_refused (compare_place c.left c.right c.first)) refl (λ k. refl)

-- An accepted call: it stops as the listing rule says, and hands over the records of the points before that.
pub record Taken (c : Comparing) : Type 0 where
  pub tables : Comparable c.left c.right
  pub start : c.first ≤ table_size c.left
  pub place : (returned c).place ≡ 0
  pub next : (returned c).next ≡ next_point (stored_mark c.left) (stored_mark c.right) c.first (table_size c.left) (length c.room)
  pub stop : ListingStop (is_listed (stored_mark c.left) (stored_mark c.right) c.first) (table_size c.left) (fitting (length c.room)) (returned c).next
  pub records : (returned c).records ≡ length (between c.left c.right c.first (returned c).next)
  pub total : (returned c).total ≡ length (compare_differing c.left c.right)
  pub room : room_returned c ≡ front (differences_of (stored_mark c.left) (stored_mark c.right) (between c.left c.right c.first (returned c).next)) c.room

pub taken : (c : Comparing) → (returned c).refusal ≡ 0 → Taken c
taken c e =
    let l = stored_mark c.left in
    let r = stored_mark c.right in
    let none = sym (refusal_is c) ∙ e in
    let size = table_size c.left in
    let sound = (compare-exactly c.left c.right c.first).0 none in
    let given = compare-accepted c.left c.right c.first c.room none in
    let next : next_point l r c.first size (length c.room) ≡ (returned c).next = ap (λ (a : Comparison). a.next) given.0 in
    let points = handed-before l r c.first size (length c.room) ∙ ap (differing_from l r c.first) next in
    record {
      tables = sound.0;
      start = sound.1;
      place = ap (λ (a : Comparison). a.place) (sym given.0);
      next = sym next;
      stop = subst (ListingStop (is_listed l r c.first) size (fitting (length c.room))) next (compare-stop l r c.first size (length c.room));
      records = ap (λ (a : Comparison). a.records) (sym given.0) ∙ ap length points;
      total = ap (λ (a : Comparison). a.total) (sym given.0);
      room = sym given.1 ∙ ap (λ ps. front (differences_of l r ps) c.room) points;
    }

-- What it hands over, and the rest of its room.
module _ (c : Comparing) (t : Taken c) where
  abbrev record_bytes : List ℕ
  record_bytes = differences_of (stored_mark c.left) (stored_mark c.right) (between c.left c.right c.first (returned c).next)

  taken-length : length record_bytes ≡ difference_length * (returned c).records
  taken-length =
      differences-length (stored_mark c.left) (stored_mark c.right) (between c.left c.right c.first (returned c).next)
      ∙ ap (λ (k : ℕ). difference_length * k) (sym t.records)

  taken-handed : handed_records c ≡ record_bytes
  unfolding handed_records
  taken-handed =
      ap (take (difference_length * (returned c).records)) t.room
      ∙ take_at record_bytes (drop (length record_bytes) c.room) (difference_length * (returned c).records) taken-length

  taken-rest : drop (difference_length * (returned c).records) (room_returned c) ≡ drop (difference_length * (returned c).records) c.room
  taken-rest =
      ap (drop (difference_length * (returned c).records)) t.room
      ∙ drop_at record_bytes (drop (length record_bytes) c.room) (difference_length * (returned c).records) taken-length
      ∙ ap (λ (k : ℕ). drop k c.room) taken-length

  -- The next point isn't before the first one, and at most 2 ^ n.
  taken-low : c.first ≤ (returned c).next
  taken-low = elim t.stop.at [ inl e ↦ omega (arith, t.start) | inr h ↦ leb-true c.first (returned c).next (and_l (leb c.first (returned c).next) _ h.1) ]

  taken-high : (returned c).next ≤ table_size c.left
  taken-high = stop-within (is_listed (stored_mark c.left) (stored_mark c.right) c.first) (table_size c.left) (fitting (length c.room)) t.stop

  -- It stops at 2 ^ n, or before a point that differs with the room full.
  pub taken_at : ((returned c).next ≡ table_size c.left)
      ⊎ (((returned c).next < table_size c.left) × (stored_mark c.left (returned c).next ≢ stored_mark c.right (returned c).next) × ((returned c).records ≡ fitting (length c.room)))
  unfolding differing_from
  taken_at = elim t.stop.at [
    | inl e ↦ inl e
    | inr h ↦ inr (h.0, listed-differs (stored_mark c.left) (stored_mark c.right) c.first (returned c).next h.1, t.records ∙ h.2)
  ]

  taken-fits : (returned c).records ≤ fitting (length c.room)
  unfolding differing_from
  taken-fits = omega (arith, t.records, t.stop.few)

  taken-stops : StopsBefore c.left c.right c
  taken-stops = record {
    fits = omega (arith, taken-fits);
    at = elim taken_at [ inl e ↦ inl e | inr h ↦ inr (h.0, h.1, omega (arith, h.2)) ];
    rest = taken-rest;
  }

-- A refused call returns the number, and the room as it was, so it hands over nothing.
refused-nothing : (c : Comparing) → (returned c).refusal ≢ 0 → ((returned c).records ≡ 0) × (handed_records c ≡ [])
unfolding handed_records compare_fault
refused-nothing c n =
    let f = fault_of (compare_tests c.left c.right c.first) in
    let given = compare-refused c.left c.right c.first c.room f refl (λ z. n (refusal_is c ∙ z)) in
    let z : (returned c).records ≡ 0 = ap (λ (a : Comparison). a.records) (sym given.0) in
    (z, ap (λ (k : ℕ). take (difference_length * k) (room_returned c)) z)

-- ---- one call after others

room-is : (c : Comparing) → has_room c ≡ true → ((returned c).refusal ≡ 0) × (difference_length ≤ length c.room)
room-is c e = (
  eqb-true (returned c).refusal 0 (and_l (eqb (returned c).refusal 0) (leb difference_length (length c.room)) e),
  leb-true difference_length (length c.room) (and_r (eqb (returned c).refusal 0) (leb difference_length (length c.room)) e),
)

-- Room for one record moves forward.
room-moves : (c : Comparing) → has_room c ≡ true → c.first < table_size c.left → c.first < (returned c).next
room-moves c e h =
    let k = room-is c e in
    let t = taken c k.0 in
    elim (taken_at c t) [
      | inl q ↦ omega arith
      | inr q ↦ elim (eq-or-lt_of_le (taken-low c t)) [
        | inl z ↦ absurd (omega (arith, q.2, t.records, k.1, ap length (from-none (stored_mark c.left) (stored_mark c.right) c.first (returned c).next (omega (arith, z)))))
        | inr z ↦ z
      ]
    ]

module _ (left right : List ℕ) (first : ℕ) where
  -- The bytes of the records of those between the first point and a later one.
  abbrev bytes_to : ℕ → List ℕ
  bytes_to point = differences_of (stored_mark left) (stored_mark right) (between left right first point)

  -- A point at which a call stops.
  abbrev StopAt : ℕ → Type 0
  StopAt point = (point ≡ table_size left) ⊎ ((point < table_size left) × (stored_mark left point ≢ stored_mark right point))

  -- What a call adds from the point p on, where the calls before it came from the first point to p.
  record Step (p : ℕ) (c : Comparing) (q : ℕ) : Type 0 where
    low : p ≤ q
    high : q ≤ table_size left
    handed : bytes_to p ++ handed_records c ≡ bytes_to q
    number : length (between left right first p) + (returned c).records ≡ length (between left right first q)
    at : (q ≡ p) ⊎ StopAt q
    moves : has_room c ≡ true → (length (between left right first p) < length (between left right first q)) ⊎ (q ≡ table_size left)

-- Of an accepted call.
taken_step : (c : Comparing) → Taken c → (first : ℕ) → first ≤ c.first → Step c.left c.right first c.first c (returned c).next
taken_step c t first h = record {
  low = taken-low c t;
  high = taken-high c t;
  handed = ap (λ (x : List ℕ). differences_of l r (between c.left c.right first c.first) ++ x) (taken-handed c t)
      ∙ sym (differences-append l r (between c.left c.right first c.first) (between c.left c.right c.first (returned c).next))
      ∙ ap (differences_of l r) (sym grown);
  number = counted;
  at = elim (taken_at c t) [ inl e ↦ inr (inl e) | inr k ↦ inr (inr (k.0, k.1)) ];
  moves = λ e. elim (taken_at c t) [ inl q ↦ inr q | inr k ↦ inl (omega (arith, counted, k.2, (room-is c e).1)) ];
}
  where
    l : ℕ → ℕ
    l = stored_mark c.left

    r : ℕ → ℕ
    r = stored_mark c.right

    grown : between c.left c.right first (returned c).next ≡ between c.left c.right first c.first ++ between c.left c.right c.first (returned c).next
    grown = from-add (stored_mark c.left) (stored_mark c.right) first c.first (returned c).next h (taken-low c t)

    counted : length (between c.left c.right first c.first) + (returned c).records ≡ length (between c.left c.right first (returned c).next)
    counted =
        ap (λ (k : ℕ). length (between c.left c.right first c.first) + k) t.records
        ∙ sym (length-append (between c.left c.right first c.first) (between c.left c.right c.first (returned c).next)) ∙ ap length (sym grown)

module _ (left right : List ℕ) (first : ℕ) where
  step : (p : ℕ) (c : Comparing) → first ≤ p → p ≤ table_size left → ((returned c).refusal ≡ 0 → (c.left ≡ left) × (c.right ≡ right) × (c.first ≡ p))
      → Step left right first p c (point_after p c)
  step p c h k u = go (ℕ_discrete (returned c).refusal 0)
    where
      go : Dec ((returned c).refusal ≡ 0) → Step left right first p c (point_after p c)
      go (yes e) =
          let same = u e in
          let t = taken_step c (taken c e) first (omega (arith, same.2)) in
          rw (eq-eqb (returned c).refusal 0 e)
          (subst (λ (x : List ℕ). Step x right first p c (returned c).next) same.0
          (subst (λ (x : List ℕ). Step c.left x first p c (returned c).next) same.1
          (subst (λ (x : ℕ). Step c.left c.right first x c (returned c).next) same.2 t)))
      go (no n) =
          let nothing = refused-nothing c n in
          rw (ne_eqb (returned c).refusal 0 n)
          (record {
            low = omega arith;
            high = k;
            handed = ap (λ (x : List ℕ). bytes_to left right first p ++ x) nothing.1 ∙ append-nil (bytes_to left right first p);
            number = omega (arith, nothing.0);
            at = inl refl;
            moves = λ e. absurd (n (room-is c e).0);
          })

  -- ---- lists of calls

  record Run (p : ℕ) (cs : List Comparing) (q : ℕ) : Type 0 where
    low : p ≤ q
    high : q ≤ table_size left
    handed : bytes_to left right first p ++ flat_map handed_records cs ≡ bytes_to left right first q
    number : length (between left right first p) + sum_of (λ c. (returned c).records) cs ≡ length (between left right first q)
    at : (q ≡ p) ⊎ StopAt left right first q
    moves : (length (between left right first p) + length (keep has_room cs) ≤ length (between left right first q)) ⊎ (q ≡ table_size left)

  run : (cs : List Comparing) (p : ℕ) → first ≤ p → p ≤ table_size left → GoesOn left right p cs → Run p cs (point_reached p cs)
  unfolding point_reached sum_of flat_map keep
  run [] p h k u = record {
    low = omega arith;
    high = k;
    handed = append-nil (bytes_to left right first p);
    number = omega arith;
    at = inl refl;
    moves = inl (omega arith);
  }
  run (c ∷ cs) p h k u =
      let s = step p c h k u.0 in
      let i = run cs (point_after p c) (omega (arith, s.low)) s.high u.1 in record {
        low = omega (arith, s.low, i.low);
        high = i.high;
        handed = sym (append_assoc (bytes_to left right first p) (handed_records c) (flat_map handed_records cs)) ∙ ap (λ (x : List ℕ). x ++ flat_map handed_records cs) s.handed ∙ i.handed;
        number = omega (arith, s.number, i.number);
        at = later (point_after p c) (point_reached (point_after p c) cs) s.at i.at;
        moves = moved (has_room c) refl (point_after p c) (point_reached (point_after p c) cs) s i.low i.high i.moves;
      }
    where
      later : (q r : ℕ) → (q ≡ p) ⊎ StopAt left right first q → (r ≡ q) ⊎ StopAt left right first r → (r ≡ p) ⊎ StopAt left right first r
      later q r a (inr z) = inr z
      later q r a (inl z) = subst (λ (x : ℕ). (x ≡ p) ⊎ StopAt left right first x) (sym z) a

      moved : (b : Bool) → has_room c ≡ b → (q r : ℕ) → Step left right first p c q → q ≤ r → r ≤ table_size left
          → (length (between left right first q) + length (keep has_room cs) ≤ length (between left right first r)) ⊎ (r ≡ table_size left)
          → (length (between left right first p) + length (cond b (c ∷ keep has_room cs) (keep has_room cs)) ≤ length (between left right first r)) ⊎ (r ≡ table_size left)
      moved b e q r s l m (inr z) = inr z
      moved false e q r s l m (inl z) = inl (omega (arith, s.number))
      moved true e q r s l m (inl z) = elim (s.moves e) [ inl y ↦ inl (omega arith) | inr y ↦ inr (omega arith) ]

  goes-on-call : (p : ℕ) (cs : List Comparing) → GoesOn left right p cs → (c : Comparing) → Mem c cs → (returned c).refusal ≡ 0 → (c.left ≡ left) × (c.right ≡ right)
  goes-on-call p [] u c h a = elim h [ ]
  goes-on-call p (b ∷ cs) u c (inl e) a =
      let k = u.0 (subst (λ (x : Comparing). (returned x).refusal ≡ 0) e a) in
      (ap (λ (x : Comparing). x.left) e ∙ k.0, ap (λ (x : Comparing). x.right) e ∙ k.1)
  goes-on-call p (b ∷ cs) u c (inr m) a = goes-on-call (point_after p b) cs u.1 c m a

-- ---- marks and records

module _ (bytes : List ℕ) (e : stored_fault bytes ≡ 0) (p : ℕ) where
  marked-as : MarkedAs bytes p
  marked-as = record {
    on = marked-on (stored_on bytes) (stored_free bytes) p;
    free = marked-free (stored_on bytes) (stored_free bytes) p (stored-accepted bytes e).apart;
    off = marked-off (stored_on bytes) (stored_free bytes) p;
  }

-- Two points have different records: each is read from its two bytes.
record-tells : (left right : List ℕ) (p q : ℕ) → record_of_point left right p ≡ record_of_point left right q → p ≡ q
record-tells left right p q e =
    let low : low_byte p ≡ low_byte q = cc in
    let high : high_byte p ≡ high_byte q = cc in
    sym (word-of-bytes p) ∙ ap₂ word_of low high ∙ word-of-bytes q

-- ---- a table beside itself, and tables exchanged

-- The numbers of two answers are the same if each is.
same_numbers : (a b : Comparison) → a.refusal ≡ b.refusal → a.place ≡ b.place → a.records ≡ b.records → a.next ≡ b.next → a.total ≡ b.total → a ≡ b
same_numbers a b r p s n t =
    ap (λ (k : ℕ). record { refusal = k; place = a.place; records = a.records; next = a.next; total = a.total }) r
    ∙ ap (λ (k : ℕ). record { refusal = b.refusal; place = k; records = a.records; next = a.next; total = a.total }) p
    ∙ ap (λ (k : ℕ). record { refusal = b.refusal; place = b.place; records = k; next = a.next; total = a.total }) s
    ∙ ap (λ (k : ℕ). record { refusal = b.refusal; place = b.place; records = b.records; next = k; total = a.total }) n
    ∙ ap (λ (k : ℕ). record { refusal = b.refusal; place = b.place; records = b.records; next = b.next; total = k }) t

itself-nowhere : (c : Comparing) → stored_fault c.left ≡ 0 → c.right ≡ c.left → c.first ≤ table_size c.left → DiffersNowhere c.left c
unfolding differences_of flat_map
itself-nowhere c e q h = record {
  numbers = same_numbers (returned c) _ accepted t.place (t.records ∙ ap length none) next
      (t.total ∙ ap length (ap (λ (x : List ℕ). compare_differing c.left x) q ∙ differing-all m m (table_size c.left) ∙ from-same m 0 (table_size c.left)));
  room = t.room ∙ ap (λ (ps : List ℕ). front (differences_of m (stored_mark c.right) ps) c.room) none;
}
  where
    m : ℕ → ℕ
    m = stored_mark c.left

    accepted : (returned c).refusal ≡ 0
    accepted =
        refusal_is c ∙ (compare-exactly c.left c.right c.first).1
        (record { left-sound = e; right-sound = ap stored_fault q ∙ e; counts = ap stored_variables (sym q) }, h)

    t : Taken c
    t = taken c accepted

    none : between c.left c.right c.first (returned c).next ≡ []
    none = ap (λ (x : List ℕ). between c.left x c.first (returned c).next) q ∙ from-same m c.first (returned c).next

    next : (returned c).next ≡ table_size c.left
    next = elim (taken_at c t) [ inl z ↦ z | inr k ↦ absurd (k.1 (ap (λ (x : List ℕ). stored_mark x (returned c).next) (sym q))) ]

-- The records of the same points, with the marks exchanged.
differences-exchange : (left right : ℕ → ℕ) (ps : List ℕ) → differences_of right left ps ≡ exchanged_marks (differences_of left right ps)
unfolding differences_of flat_map exchanged_marks
differences-exchange left right [] = refl
differences-exchange left right (p ∷ ps) = ap (λ (x : List ℕ). difference_of right left p ++ x) (differences-exchange left right ps)

exchange-marks : (c : Comparing) → (returned c).refusal ≡ 0 → ExchangesMarks c
unfolding next_point
exchange-marks c e = record {
  numbers = same_numbers (returned d) (returned c) (accepted ∙ sym e) (u.place ∙ sym t.place) records next (u.total ∙ ap length total ∙ sym t.total);
  records = taken-handed d u ∙ ap (differences_of r l) points ∙ differences-exchange l r (between c.left c.right c.first (returned c).next) ∙ ap exchanged_marks (sym (taken-handed c t));
  rest = ap (λ (k : ℕ). drop (difference_length * k) (room_returned d)) (sym records) ∙ taken-rest d u
      ∙ ap (λ (k : ℕ). drop (difference_length * k) c.room) records ∙ sym (taken-rest c t);
}
  where
    d : Comparing
    d = exchanged c

    l : ℕ → ℕ
    l = stored_mark c.left

    r : ℕ → ℕ
    r = stored_mark c.right

    t : Taken c
    t = taken c e

    size : table_size c.right ≡ table_size c.left
    size = ap (λ (k : ℕ). 2 ^ k) (sym t.tables.counts)

    accepted : (returned d).refusal ≡ 0
    accepted =
        refusal_is d ∙ (compare-exactly c.right c.left c.first).1
        (record { left-sound = t.tables.right-sound; right-sound = t.tables.left-sound; counts = sym t.tables.counts }, omega (arith, t.start, size))

    u : Taken d
    u = taken d accepted

    next : (returned d).next ≡ (returned c).next
    next =
        u.next ∙ ap (λ (ps : List ℕ). get_or ps (fitting (length c.room)) (table_size c.right)) (from-exchange l r c.first (table_size c.right))
        ∙ ap (λ (k : ℕ). next_point l r c.first k (length c.room)) size ∙ sym t.next

    points : between c.right c.left c.first (returned d).next ≡ between c.left c.right c.first (returned c).next
    points = from-exchange l r c.first (returned d).next ∙ ap (between c.left c.right c.first) next

    records : (returned d).records ≡ (returned c).records
    records = u.records ∙ ap length points ∙ sym t.records

    total : compare_differing c.right c.left ≡ compare_differing c.left c.right
    total =
        differing-all r l (table_size c.right) ∙ from-exchange l r 0 (table_size c.right) ∙ ap (differing_from l r 0) size ∙ sym (differing-all l r (table_size c.left))

-- ---- the claim

some-length : (l : List ℕ) (p : ℕ) → Mem p l → 0 < length l
some-length [] p m = absurd m
some-length (q ∷ l) p m = omega arith

module _ (left right : List ℕ) (s : Comparable left right) (first : ℕ) (h : first ≤ table_size left) (calls : List Comparing) (g : GoesOn left right first calls) where
  nothing_yet : between left right first first ≡ []
  nothing_yet = from-none (stored_mark left) (stored_mark right) first first (omega arith)

  whole_run : Run left right first first calls (point_reached first calls)
  whole_run = run left right first calls first (omega arith) h g

  -- A point that differs stands among those that are left.
  stop-left : (q : ℕ) → first ≤ q → q < table_size left → stored_mark left q ≢ stored_mark right q → length (between left right first q) < length (between left right first (table_size left))
  stop-left q a b n =
      let more = from-add (stored_mark left) (stored_mark right) first q (table_size left) a (omega arith) in
      omega (
        arith,
        ap length more,
        length-append (between left right first q) (between left right q (table_size left)),
        some-length (between left right q (table_size left)) q ((from-mem (stored_mark left) (stored_mark right) q (table_size left) q).1 (omega arith, b, n)),
      )

  reaches : 0 < length (keep has_room calls) → length (between left right first (table_size left)) ≤ length (keep has_room calls) → point_reached first calls ≡ table_size left
  reaches some most =
      let i = whole_run in
      elim i.moves [
        | inr z ↦ z
        | inl z ↦ elim i.at [
          | inl q ↦ absurd (omega (arith, ap length nothing_yet, ap (λ (k : ℕ). length (between left right first k)) q))
          | inr (inl q) ↦ q
          | inr (inr q) ↦ absurd (omega (arith, ap length nothing_yet, stop-left (point_reached first calls) i.low q.0 q.1))
        ]
      ]

  pub compared : Compared left right first calls
  unfolding differences_of flat_map
  compared = record {
    accepts = λ c l r. (
      λ e. omega (arith, (taken c e).start, ap table_size l),
      λ k. refusal_is c ∙ (compare-exactly c.left c.right c.first).1
          (record { left-sound = ap stored_fault l ∙ s.left-sound; right-sound = ap stored_fault r ∙ s.right-sound; counts = ap stored_variables l ∙ s.counts ∙ ap stored_variables (sym r) }, omega (arith, k, ap table_size l)),
    );
    refused = λ c n. (refused-nothing c n).1;
    handed = ap (λ (ps : List ℕ). differences_of (stored_mark left) (stored_mark right) ps ++ flat_map handed_records calls) (sym nothing_yet) ∙ whole_run.handed;
    number = omega (arith, whole_run.number, ap length nothing_yet);
    exact = from-mem (stored_mark left) (stored_mark right) first (point_reached first calls);
    rising = from-rising (stored_mark left) (stored_mark right) first (point_reached first calls);
    once = ordered-with ◌<◌ (λ p q. record_of_point left right p ≢ record_of_point left right q) (between left right first (point_reached first calls))
        (λ p q a b k e. omega (arith, record-tells left right p q e)) (from-rising (stored_mark left) (stored_mark right) first (point_reached first calls));
    layout = λ p. refl;
    left-marks = marked-as left s.left-sound;
    right-marks = marked-as right s.right-sound;
    low = whole_run.low;
    high = whole_run.high;
    whole = λ e p a b n. (from-mem (stored_mark left) (stored_mark right) first (point_reached first calls) p).1 (a, omega arith, n);
    stops = λ c m a.
        let k = goes-on-call left right first first calls g c m a in
        subst (λ (x : List ℕ). StopsBefore x right c) k.0 (subst (λ (x : List ℕ). StopsBefore c.left x c) k.1 (taken-stops c (taken c a)));
    forward = λ c m e k.
        let same = goes-on-call left right first first calls g c m (room-is c e).0 in
        room-moves c e (omega (arith, k, ap table_size same.0));
    enough = reaches;
    total = λ c l r a. (taken c a).total ∙ ap length (ap₂ compare_differing l r);
    all-exact = λ p. (
      λ m. let k = (from-mem (stored_mark left) (stored_mark right) 0 (table_size left) p).0 (subst (Mem p) (differing-all (stored_mark left) (stored_mark right) (table_size left)) m) in (k.1, k.2),
      λ k. subst (Mem p) (sym (differing-all (stored_mark left) (stored_mark right) (table_size left))) ((from-mem (stored_mark left) (stored_mark right) 0 (table_size left) p).1 (omega arith, k.0, k.1)),
    );
    all-rising = subst (λ (l : List ℕ). Rising l) (sym (differing-all (stored_mark left) (stored_mark right) (table_size left))) (from-rising (stored_mark left) (stored_mark right) 0 (table_size left));
    itself = λ c l r k. subst (λ (x : List ℕ). DiffersNowhere x c) l (itself-nowhere c (ap stored_fault l ∙ s.left-sound) (r ∙ sym l) (omega (arith, k, ap table_size l)));
    exchange = λ c l r a. exchange-marks c a;
  }
