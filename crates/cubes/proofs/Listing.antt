-- Laws of specs.Records and specs.Listing: a record has its length and tells its candidate; the listing rule is obeyed, in one way only, and goes by the
-- number of records that the room has place for; a call is accepted exactly when no test applies. Read next: Calls.
use mathlib.Core.Path.{◌≡◌, refl, sym, ap, ap₂, ◌∙◌, subst}
use mathlib.Core.Bool.{Bool, true, false, cond}
use mathlib.Core.Logic.{inl, inr, ◌↔◌}
use mathlib.Core.List.{List, [], ◌∷◌, ◌++◌, flat_map, append_assoc}
use Prim.Native.Nat.{ℕ, zero, suc, ◌+◌, ◌-◌, ◌*◌, ◌/◌, ◌≤◌, ◌<◌, zero-le}
use native.Mathlib.Nat.{lt_of_not-le, eq-or-lt_of_le, mul_comm, mul-le-mul_left, le-div_iff_mul-le}
use native.Mathlib.Decide.{dec_le}
use native.Mathlib.Omega.{arith}
use lib.ListN.{length, get_or, take, drop, replicate, length-append, length-replicate}
use lib.Seq.{take-add, take_at, get_or-append_seam}
use lib.Dec.{ltb}
use borrow.Author.Tests.{ltb-true, ltb-false, eqb-true, eqb-false, eq-eqb}
use Rattle.gf2.specs.Finite.{Mem, holds}
use Rattle.gf2.proofs.Finite.{flat_map-append, drop-mem}
use Rattle.table.specs.Refusal.{first_fault, Numbered, NoneApplies}
use Rattle.table.specs.Decision.{front}
use Rattle.table.specs.Table.{table_tests}
use Rattle.table.proofs.FirstFault.{no-fault, numbered}
use Rattle.table.proofs.Decide.{decide-accepted, decide-refused}
use Rattle.cubes.specs.Lists.{keep}
use Rattle.cubes.specs.Cubes.{Candidate, candidate, degree}
use Rattle.cubes.specs.Candidates.{candidates, candidate_count}
use Rattle.cubes.specs.Records.{max_listed, candidate_length, record_length, candidate_bytes, on_count, record_of, candidate_told}
use Rattle.cubes.specs.Listing.{Table, Call, prime_of, record_in, records_of, listing_tests, listing_fault, accepted, Passage, nothing, passing, writing, passage, Full, ListingRule, ahead_of, listing_by, listing_refused, listing_accepted, listing_answer_by, listing_after_by}
use Rattle.cubes.proofs.Lists.{keep_append, keep-mem, take-mem}
use Rattle.cubes.proofs.Cubes.{degree-most}
use Rattle.cubes.proofs.Candidates.{candidate-is}

-- ---- records

-- Lists of b numbers each, joined.
joined_length : {A : Type 0} (f : A → List ℕ) (b : ℕ) (l : List A) → ((a : A) → Mem a l → length (f a) ≡ b) → length (flat_map f l) ≡ b * length l
unfolding flat_map
joined_length f b [] h = omega arith
joined_length f b (a ∷ l) h = omega (arith, length-append (f a) (flat_map f l), h a (inl refl), joined_length f b l (λ c m. h c (inr m)))

pub candidate-length : (c : Candidate) → degree c ≤ max_listed → length (candidate_bytes c) ≡ candidate_length
unfolding candidate_bytes
candidate-length c h =
    omega (arith, length-append c.vectors (replicate (candidate_length - (2 + degree c)) 0), length-replicate {A = ℕ} (candidate_length - (2 + degree c)) 0)

-- Bytes that begin with those of a candidate tell it; so no two candidates have the same bytes.
bytes-tell : (c : Candidate) (rest : List ℕ) → candidate_told (candidate_bytes c ++ rest) ≡ c
unfolding candidate_bytes
bytes-tell c rest =
    ap (candidate c.point) (ap (take (degree c)) (append_assoc c.vectors (replicate (candidate_length - (2 + degree c)) 0) rest)
    ∙ take_at c.vectors (replicate (candidate_length - (2 + degree c)) 0 ++ rest) (degree c) refl)

pub bytes_one : (a b : Candidate) → candidate_bytes a ≡ candidate_bytes b → a ≡ b
bytes_one a b e = sym (bytes-tell a []) ∙ ap (λ l. candidate_told (l ++ [])) e ∙ bytes-tell b []

module _ (n : ℕ) (on : ℕ → Bool) where
  pub record-length : (c : Candidate) → degree c ≤ max_listed → length (record_of n on c) ≡ record_length
  unfolding record_of
  record-length c h = omega (arith, length-append (candidate_bytes c) (on_count n on c ∷ []), candidate-length c h)

  -- Its first bytes are those of its candidate, and the last is the count.
  pub record-candidate : (c : Candidate) → degree c ≤ max_listed → take candidate_length (record_of n on c) ≡ candidate_bytes c
  unfolding record_of
  record-candidate c h = take_at (candidate_bytes c) (on_count n on c ∷ []) candidate_length (candidate-length c h)

  pub record-count : (c : Candidate) → degree c ≤ max_listed → get_or (record_of n on c) candidate_length 0 ≡ on_count n on c
  unfolding record_of
  record-count c h =
      ap (λ (k : ℕ). get_or (candidate_bytes c ++ (on_count n on c ∷ [])) k 0) (sym (candidate-length c h)) ∙ get_or-append_seam (candidate_bytes c) (on_count n on c) [] 0

  -- A record tells its candidate.
  pub record-told : (c : Candidate) → candidate_told (record_of n on c) ≡ c
  unfolding record_of
  record-told c = bytes-tell c (on_count n on c ∷ [])

pub records-append : (t : Table) (l m : List Candidate) → records_of t (l ++ m) ≡ records_of t l ++ records_of t m
unfolding records_of
records-append t = flat_map-append (record_in t)

pub records-length : (t : Table) (l : List Candidate) → ((c : Candidate) → Mem c l → degree c ≤ max_listed) → length (records_of t l) ≡ record_length * length l
unfolding records_of
records-length t l h = joined_length (record_in t) record_length l (λ c m. record-length t.variables (holds t.on) c (h c m))

-- ---- the listing rule

pub passage-rule : (bytes : ℕ) (prime : Candidate → Bool) (cs : List Candidate) (a m : ℕ) → ListingRule bytes prime cs a m (passage bytes prime cs a m)
unfolding passage keep
passage-rule bytes prime [] a m = record { along = zero-le; paid = zero-le; found = refl; fits = omega arith; stops = inl refl }
passage-rule bytes prime (c ∷ cs) zero m = record { along = zero-le; paid = zero-le; found = refl; fits = omega arith; stops = inr (inl refl) }
passage-rule bytes prime (c ∷ cs) (suc a) m = go (prime c) refl (ltb m bytes) refl (passage-rule bytes prime cs a (m - bytes)) (passage-rule bytes prime cs a m)
  where
    go : (t : Bool) → prime c ≡ t → (u : Bool) → ltb m bytes ≡ u
        → ListingRule bytes prime cs a (m - bytes) (passage bytes prime cs a (m - bytes)) → ListingRule bytes prime cs a m (passage bytes prime cs a m)
        → ListingRule bytes prime (c ∷ cs) (suc a) m (cond t (cond u nothing (writing c (passage bytes prime cs a (m - bytes)))) (passing (passage bytes prime cs a m)))
    go true e true l i j = record {
      along = zero-le;
      paid = zero-le;
      found = refl;
      fits = omega arith;
      stops = inr (inr (record { next = c; others = cs; first = refl; is-prime = e; short = omega (arith, ltb-true m bytes l) }));
    }
    go true e false l i j = record {
      along = omega (arith, i.along);
      paid = omega (arith, i.paid);
      found = rw e (ap (λ x. c ∷ x) i.found);
      fits = omega (arith, i.fits, ltb-false m bytes l);
      stops = elim i.stops [
        | inl s ↦ inl (ap suc s)
        | inr (inl s) ↦ inr (inl (ap suc s))
        | inr (inr s) ↦ inr (inr (record { next = s.next; others = s.others; first = s.first; is-prime = s.is-prime; short = omega (arith, s.short, ltb-false m bytes l) }))
      ];
    }
    go false e u l i j = record {
      along = omega (arith, j.along);
      paid = omega (arith, j.paid);
      found = rw e j.found;
      fits = j.fits;
      stops = elim j.stops [ inl s ↦ inl (ap suc s) | inr (inl s) ↦ inr (inl (ap suc s)) | inr (inr s) ↦ inr (inr s) ];
    }

module _ {bytes : ℕ} {prime : Candidate → Bool} {ahead : List Candidate} {allowance room : ℕ} where
  -- With candidates ahead, an allowance and room for a record, it moves on.
  pub rule-moves : {p : Passage} → ListingRule bytes prime ahead allowance room p → 0 < length ahead → 0 < allowance → bytes ≤ room → 0 < p.passed
  unfolding keep
  rule-moves {p} l h k r = go p.passed refl
    where
      go : (i : ℕ) → p.passed ≡ i → 0 < p.passed
      go (suc i) e = omega arith
      go zero e =
          let none : p.primes ≡ [] = l.found ∙ ap (λ (z : ℕ). keep prime (take z ahead)) e in
          elim l.stops [
            | inl s ↦ omega arith
            | inr (inl s) ↦ omega arith
            | inr (inr s) ↦ absurd (omega (arith, subst (λ (l : List Candidate). room < bytes * suc (length l)) none s.short))
          ]

  -- Two passages that obey the rule are one.
  no-further : {p q : Passage} → ListingRule bytes prime ahead allowance room p → ListingRule bytes prime ahead allowance room q → p.passed < q.passed → ⊥
  unfolding keep
  no-further {p} {q} k l h = elim k.stops [
    | inl s ↦ omega (arith, l.along)
    | inr (inl s) ↦ omega (arith, l.paid)
    | inr (inr s) ↦ more s
  ]
    where
      more : Full bytes prime (drop p.passed ahead) p.primes room → ⊥
      more s =
          let j : ℕ = q.passed - p.passed - 1 in
          let e : q.passed ≡ p.passed + suc j = omega arith in
          let f : q.primes ≡ p.primes ++ (s.next ∷ keep prime (take j s.others)) =
          l.found ∙ ap (λ (z : ℕ). keep prime (take z ahead)) e ∙ ap (keep prime) (take-add p.passed (suc j) ahead)
          ∙ keep_append prime (take p.passed ahead) (take (suc j) (drop p.passed ahead))
          ∙ ap₂ ◌++◌ (sym k.found) (ap (λ x. keep prime (take (suc j) x)) s.first ∙ rw s.is-prime) in
          let more : suc (length p.primes) ≤ length q.primes = omega (arith, ap length f, length-append p.primes (s.next ∷ keep prime (take j s.others))) in
          omega (arith, l.fits, s.short, mul-le-mul_left bytes more)

  pub rule-only : {p q : Passage} → ListingRule bytes prime ahead allowance room p → ListingRule bytes prime ahead allowance room q → p ≡ q
  rule-only {p} {q} k l =
      let e : p.passed ≡ q.passed = elim (dec_le p.passed q.passed) [
        | yes h ↦ elim (eq-or-lt_of_le h) [ inl s ↦ s | inr s ↦ absurd (no-further k l s) ]
        | no h ↦ absurd (no-further l k (lt_of_not-le h))
      ] in
      ap₂ (λ (n : ℕ) (cs : List Candidate). record { passed = n; primes = cs }) e (k.found ∙ ap (λ (z : ℕ). keep prime (take z ahead)) e ∙ sym l.found)

-- So many records of a bytes fit exactly if there are at most as many as the room has whole ones.
fit_count : {a : ℕ} → 0 < a → (r k : ℕ) → (a * k ≤ r) ↔ (k ≤ r / a)
fit_count {a} h r k = (
  λ l. (le-div_iff_mul-le h).1 (subst (λ (z : ℕ). z ≤ r) (mul_comm a k) l),
  λ l. subst (λ (z : ℕ). z ≤ r) (mul_comm k a) ((le-div_iff_mul-le h).0 l),
)

-- With room for as many records, of however many bytes each and whatever bytes are left over, the rule says the same.
module _ {a b : ℕ} (ha : 0 < a) (hb : 0 < b) (r s : ℕ) (e : r / a ≡ s / b) where
  fit-also : (k : ℕ) → (a * k ≤ r) ↔ (b * k ≤ s)
  fit-also k = (
    λ l. (fit_count hb s k).1 (subst (λ (z : ℕ). k ≤ z) e ((fit_count ha r k).0 l)),
    λ l. (fit_count ha r k).1 (subst (λ (z : ℕ). k ≤ z) (sym e) ((fit_count hb s k).0 l)),
  )

  short-also : (k : ℕ) → r < a * k → s < b * k
  short-also k h = elim (dec_le (b * k) s) [
    | yes l ↦ absurd (omega (arith, (fit-also k).1 l))
    | no l ↦ lt_of_not-le l
  ]

  rule-room : {prime : Candidate → Bool} {ahead : List Candidate} {allowance : ℕ} {p : Passage} → ListingRule a prime ahead allowance r p → ListingRule b prime ahead allowance s p
  rule-room {p = p} l = record {
    along = l.along;
    paid = l.paid;
    found = l.found;
    fits = (fit-also (length p.primes)).0 l.fits;
    stops = elim l.stops [
      | inl t ↦ inl t
      | inr (inl t) ↦ inr (inl t)
      | inr (inr t) ↦ inr (inr (record { next = t.next; others = t.others; first = t.first; is-prime = t.is-prime; short = short-also (suc (length p.primes)) t.short }))
    ];
  }

  pub passage-room : (prime : Candidate → Bool) (ahead : List Candidate) (allowance : ℕ) → passage a prime ahead allowance r ≡ passage b prime ahead allowance s
  passage-room prime ahead allowance = rule-only (rule-room (passage-rule a prime ahead allowance r)) (passage-rule b prime ahead allowance s)

-- ---- accepted and refused calls

pub listing-numbered : (c : Call) → Numbered (listing_tests c)
unfolding holds table_tests
listing-numbered c = numbered (listing_tests c) refl

pub accepted-is : (c : Call) → (accepted c ≡ true) ↔ NoneApplies (listing_tests c)
unfolding listing_fault
accepted-is c =
    let e = no-fault (listing_tests c) (listing-numbered c) in
    (λ t. e.0 (eqb-true (first_fault (listing_tests c)) 0 t), λ h. eq-eqb (first_fault (listing_tests c)) 0 (e.1 h))

-- What is known of an accepted call.
pub accepted-small : (c : Call) → accepted c ≡ true → c.table.variables ≤ max_listed
unfolding table_tests
accepted-small c e = ltb-false max_listed c.table.variables ((accepted-is c).0 e _ (inr (inr (inr (inr (inl refl))))))

pub accepted-place : (c : Call) → accepted c ≡ true → c.place ≤ candidate_count c.table.variables
unfolding table_tests
accepted-place c e = ltb-false (candidate_count c.table.variables) c.place ((accepted-is c).0 e _ (inr (inr (inr (inr (inr (inl refl)))))))

module _ (bytes : ℕ) (c : Call) where
  pub answer-on : accepted c ≡ true → listing_answer_by bytes c ≡ listing_accepted c.place (listing_by bytes c)
  unfolding listing_answer_by listing_fault
  answer-on e = decide-accepted (listing_tests c) (listing_accepted c.place (listing_by bytes c)) listing_refused (eqb-true (first_fault (listing_tests c)) 0 e)

  pub answer-off : accepted c ≡ false → listing_answer_by bytes c ≡ listing_refused (listing_fault c)
  unfolding listing_answer_by listing_fault
  answer-off e =
      decide-refused (listing_tests c) (listing_accepted c.place (listing_by bytes c)) listing_refused (first_fault (listing_tests c)) (eqb-false (first_fault (listing_tests c)) 0 e) refl

  pub room-on : (written : Candidate → List ℕ) → accepted c ≡ true → listing_after_by bytes written c ≡ front (flat_map written (listing_by bytes c).primes) c.room
  unfolding listing_after_by listing_fault
  room-on written e =
      decide-accepted (listing_tests c) (front (flat_map written (listing_by bytes c).primes) c.room) (λ number. c.room) (eqb-true (first_fault (listing_tests c)) 0 e)

  pub room-off : (written : Candidate → List ℕ) → accepted c ≡ false → listing_after_by bytes written c ≡ c.room
  unfolding listing_after_by listing_fault
  room-off written e =
      decide-refused (listing_tests c) (front (flat_map written (listing_by bytes c).primes) c.room) (λ number. c.room) (first_fault (listing_tests c)) (eqb-false (first_fault (listing_tests c)) 0 e) refl

  pub call-rule : ListingRule bytes (prime_of c.table) (ahead_of c) c.allowance (length c.room) (listing_by bytes c)
  unfolding listing_by
  call-rule = passage-rule bytes (prime_of c.table) (ahead_of c) c.allowance (length c.room)

  -- The primes found are candidates of at most six directions.
  pub found-small : accepted c ≡ true → (d : Candidate) → Mem d (listing_by bytes c).primes → degree d ≤ max_listed
  found-small e d m =
      let i = (keep-mem (prime_of c.table) (take (listing_by bytes c).passed (ahead_of c)) d (subst (Mem d) call-rule.found m)).0 in
      let j = drop-mem c.place (candidates c.table.variables) d (take-mem (listing_by bytes c).passed (ahead_of c) d i) in
      omega (arith, accepted-small c e, degree-most c.table.variables d ((candidate-is c.table.variables d).0 j))
