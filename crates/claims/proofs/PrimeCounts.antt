-- Document 02, No. 6, holds of every listing call. Read next: Examples.
use mathlib.Core.Path.{◌≡◌, refl, sym, ap, ap₂, ◌∙◌, subst}
use mathlib.Core.Bool.{Bool, true, false, ◌&&◌}
use mathlib.Core.Logic.{inl, inr}
use mathlib.Core.List.{List, [], ◌∷◌, ◌++◌, map, flat_map, map-map, append_assoc}
use Prim.Native.Nat.{ℕ, ◌*◌, ◌^◌, ◌<◌}
use native.Mathlib.Omega.{arith}
use lib.ListN.{length, take, drop}
use lib.Seq.{take_at, drop_at}
use lib.Pow.{pow_mono}
use borrow.Author.Tests.{eqb-true}
use Rattle.gf2.specs.Finite.{Mem, Rising, holds, select}
use Rattle.gf2.proofs.Logic.{and_l, and_r}
use Rattle.gf2.proofs.Finite.{map-mem, map-ext, holds-mem, select-mem, mem-select, select-rising, drop-mem}
use Rattle.table.specs.Decision.{answer_of}
use Rattle.table.specs.Table.{Accepted}
use Rattle.cubes.specs.Lists.{keep}
use Rattle.cubes.specs.Cubes.{Candidate, points_of}
use Rattle.cubes.specs.Candidates.{candidates}
use Rattle.cubes.specs.Records.{record_length, candidate_bytes, on_count}
use Rattle.cubes.specs.Listing.{Call, prime_of, record_in, records_of, listing_tests, listing_fault, accepted, Passage, ahead_of, listing_by, listing, Answer, listing_refused, listing_accepted, listing_answer_by, listing_answer, listing_after}
use Rattle.cubes.specs.Calls.{handed_over, PrimeOf}
use Rattle.cubes.proofs.Lists.{keep-mem, mem-keep, take-mem, ordered-keep, ordered_same}
use Rattle.cubes.proofs.Candidates.{candidate-is}
use Rattle.cubes.proofs.Spaces.{on-count-most, prime-some}
use Rattle.cubes.proofs.Listing.{candidate-length, record-length, record-candidate, record-count, record-told, passage-room, accepted-small, answer-on, answer-off, room-on, call-rule, found-small}
use Rattle.cubes.proofs.Calls.{call-obeyed, candidate-prime}
use Rattle.listing.proofs.Refusals.{sound-table}
use Rattle.claims.specs.PrimeCounts.{records_at, records_handed, CountedRecord, with_room, answer_before, room_before, AsManyRecords, PrimeCounts}

-- ---- the records of a room

-- Records of b bytes each at the front of a room are read back one by one.
records-split : {A : Type 0} (b : ℕ) (written : A → List ℕ) (l : List A) (rest : List ℕ) → ((a : A) → Mem a l → length (written a) ≡ b)
    → records_at b (length l) (flat_map written l ++ rest) ≡ map written l
unfolding records_at flat_map
records-split b written [] rest h = refl
records-split b written (a ∷ l) rest h =
    let long = h a (inl refl) in
    let e : (written a ++ flat_map written l) ++ rest ≡ written a ++ (flat_map written l ++ rest) = append_assoc (written a) (flat_map written l) rest in
    ap₂ (λ (x : List ℕ) (xs : List (List ℕ)). x ∷ xs) (ap (take b) e ∙ take_at (written a) (flat_map written l ++ rest) b long)
    (ap (λ (m : List ℕ). records_at b (length l) (drop b m)) e ∙ ap (records_at b (length l)) (drop_at (written a) (flat_map written l ++ rest) b long)
    ∙ records-split b written l rest (λ c m. h c (inr m)))

-- Lists made of a list's elements, joined.
joined-map : {A : Type 0} (f : A → List ℕ) (l : List A) → flat_map (λ bytes. bytes) (map f l) ≡ flat_map f l
unfolding flat_map
joined-map f [] = refl
joined-map f (a ∷ l) = ap (λ (m : List ℕ). f a ++ m) (joined-map f l)

-- ---- the number of listed points in a set

-- A rising list below a bound: as many of its numbers are in a set as numbers below the bound are in the set and in the list.
keep-count : (f : ℕ → Bool) (l : List ℕ) (k : ℕ) → Rising l → ((x : ℕ) → Mem x l → x < k) → length (select (λ x. f x && holds l x) k) ≡ length (keep f l)
keep-count f l k r below = ap length (ordered_same ◌<◌ (λ a b p q. omega arith) (select (λ x. f x && holds l x) k) (keep f l)
    (select-rising (λ x. f x && holds l x) k) (ordered-keep ◌<◌ f l r)
    (λ x m. let i = (select-mem (λ x. f x && holds l x) k x m).1 in mem-keep f l x ((holds-mem l x).0 (and_r (f x) (holds l x) i)) (and_l (f x) (holds l x) i))
    (λ x m. let i = keep-mem f l x m in mem-select (λ x. f x && holds l x) k x (below x i.0) (rw i.1 ((holds-mem l x).1 i.0))))

-- ---- records of eight bytes and of nine

module _ (c : Call) (before : List ℕ) (h : AsManyRecords c.room before) where
  -- A call goes as far as before.
  same-passage : listing_by 9 c ≡ listing_by 8 (with_room c before)
  unfolding listing_by
  same-passage = passage-room (omega arith) (omega arith) (length c.room) (length before) h (prime_of c.table) (ahead_of c) c.allowance

  same_numbers : listing_answer c ≡ answer_before (with_room c before)
  unfolding listing_answer_by
  same_numbers =
      ap (λ (p : Passage). answer_of (record { tests = listing_tests c; accepted = listing_accepted c.place p; refused = listing_refused })) same-passage

-- ---- an accepted call

module _ (c : Call) (e : accepted c ≡ true) where
  abbrev n : ℕ
  n = c.table.variables

  abbrev primes : List Candidate
  primes = (listing c).primes

  -- Its records are those of the primes found.
  handed-are : records_handed c ≡ map (record_in c.table) primes
  handed-are =
      ap₂ (records_at 9) (ap (λ (a : Answer). a.records) (answer-on 9 c e)) (room-on 9 c (record_in c.table) e)
      ∙ records-split 9 (record_in c.table) primes (drop (length (flat_map (record_in c.table) primes)) c.room)
      (λ d m. record-length n (holds c.table.on) d (found-small 9 c e d m))

  found : (d : Candidate) → Mem d primes → Mem d (candidates n) × (prime_of c.table d ≡ true)
  found d m =
      let k = keep-mem (prime_of c.table) (take (listing c).passed (ahead_of c)) d (subst (Mem d) (call-rule 9 c).found m) in
      (drop-mem c.place (candidates n) d (take-mem (listing c).passed (ahead_of c) d k.0), k.1)

  sound : Accepted n c.table.on c.table.free
  sound = sound-table n c.table.on c.table.free c.place c.allowance c.room (eqb-true (listing_fault c) 0 e)

  counted : (d : Candidate) → Mem d primes → CountedRecord c.table (record_in c.table d)
  unfolding on_count
  counted d m =
      let few = found-small 9 c e d m in
      let is = (candidate-is n d).0 (found d m).0 in
      let told = record-told n (holds c.table.on) d in
      let value = record-count n (holds c.table.on) d few in
      record {
        nine = record-length n (holds c.table.on) d few;
        prime = subst (λ (z : Candidate). PrimeOf c.table (points_of z)) (sym told) ((candidate-prime c.table d (found d m).0).0 (found d m).1);
        count = value ∙ keep-count (points_of d) c.table.on (2 ^ n) sound.on-rising sound.on_below
            ∙ ap (λ (z : Candidate). length (keep (points_of z) c.table.on)) (sym told);
        least = omega (arith, value, prime-some n (holds c.table.on) (holds c.table.free) d is (found d m).1);
        most = omega (arith, value, on-count-most n (holds c.table.on) (holds c.table.free) d is, pow_mono (accepted-small c e));
      }

  each-counted : (bytes : List ℕ) → Mem bytes (records_handed c) → CountedRecord c.table bytes
  each-counted bytes m =
      let d = map-mem (record_in c.table) primes bytes (subst (Mem bytes) handed-are m) in
      subst (CountedRecord c.table) (sym d.2) (counted d.0 d.1)

  all-joined : flat_map (λ bytes. bytes) (records_handed c) ≡ handed_over c
  unfolding records_of
  all-joined = ap (flat_map (λ bytes. bytes)) handed-are ∙ joined-map (record_in c.table) primes ∙ sym (call-obeyed c e).handed

  first-bytes : (before : List ℕ) → AsManyRecords c.room before
      → map (take 8) (records_handed c) ≡ records_at 8 (listing_answer c).records (room_before (with_room c before))
  unfolding listing_fault
  first-bytes before h =
      ap (map (take 8)) handed-are ∙ map-map (take 8) (record_in c.table) primes
      ∙ map-ext (λ d. take 8 (record_in c.table d)) candidate_bytes primes (λ d m. record-candidate n (holds c.table.on) d (found-small 9 c e d m))
      ∙ ap (λ (p : Passage). map candidate_bytes p.primes) (same-passage c before h)
      ∙ sym (ap₂ (records_at 8) (ap (λ (a : Answer). a.records) (same_numbers c before h ∙ answer-on 8 (with_room c before) e)) (room-on 8 (with_room c before) candidate_bytes e)
      ∙ records-split 8 candidate_bytes (listing_by 8 (with_room c before)).primes (drop (length (flat_map candidate_bytes (listing_by 8 (with_room c before)).primes)) before)
      (λ d m. candidate-length d (found-small 8 (with_room c before) e d m)))

-- ---- the request

pub primes-counted : (c : Call) → PrimeCounts c
unfolding records_at handed_over flat_map
primes-counted c = go (accepted c) refl
  where
    none : accepted c ≡ false → (listing_answer c).records ≡ 0
    none e = ap (λ (a : Answer). a.records) (answer-off 9 c e)

    go : (t : Bool) → accepted c ≡ t → PrimeCounts c
    go true e = record {
      each = each-counted c e;
      joined = all-joined c e;
      rule-before = λ before. call-rule 8 (with_room c before);
      numbers = same_numbers c;
      first-eight = first-bytes c e;
    }
    go false e = record {
      each = λ bytes m. absurd (subst (λ (k : ℕ). Mem bytes (records_at 9 k (listing_after c))) (none e) m);
      joined = ap (λ (k : ℕ). flat_map (λ bytes. bytes) (records_at 9 k (listing_after c))) (none e) ∙ sym (ap (λ (k : ℕ). take (record_length * k) (listing_after c)) (none e));
      rule-before = λ before. call-rule 8 (with_room c before);
      numbers = same_numbers c;
      first-eight = λ before h.
          ap (λ (k : ℕ). map (take 8) (records_at 9 k (listing_after c))) (none e) ∙ sym (ap (λ (k : ℕ). records_at 8 k (room_before (with_room c before))) (none e));
    }
