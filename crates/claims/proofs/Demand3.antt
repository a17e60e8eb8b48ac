-- Demand 3 holds of every accepted table of one to six variables and every list of calls that go on from place 0. Read next: Compared.
use mathlib.Core.Path.{◌≡◌, refl, sym, ap, ◌∙◌, subst}
use mathlib.Core.Bool.{Bool, true, false, cond, ◌&&◌}
use mathlib.Core.Logic.{◌⊎◌, inl, inr, ◌≢◌, ◌↔◌}
use mathlib.Core.List.{List, [], ◌∷◌, ◌++◌, flat_map, append_assoc, append-nil}
use Prim.Native.Nat.{ℕ, ◌+◌, ◌≤◌, ◌<◌, zero-le}
use native.Mathlib.Nat.{eq-or-lt_of_le}
use native.Mathlib.Omega.{arith}
use lib.ListN.{length, take, length-append, length-drop}
use lib.Seq.{take_all}
use lib.Dec.{eqb, leb, ltb}
use borrow.Author.Tests.{eq-eqb, ne_eqb, eqb-true, ltb-true, leb-true, le-ltb}
use Rattle.gf2.specs.Finite.{Mem, Ordered}
use Rattle.gf2.proofs.Logic.{clash, and_l, and_r}
use Rattle.gf2.proofs.Finite.{append-mem}
use Rattle.table.specs.Refusal.{Test, test, NoneApplies, size_fault, place_fault}
use Rattle.table.specs.Table.{table_tests, table_fault, Accepted}
use Rattle.table.proofs.FirstFault.{no-fault}
use Rattle.table.proofs.Table.{table-numbered, no-refusal}
use Rattle.table.proofs.Decide.{decide-number}
use Rattle.cubes.specs.Lists.{keep}
use Rattle.cubes.specs.Cubes.{Candidate, Only}
use Rattle.cubes.specs.Candidates.{Before, candidates, candidate_count}
use Rattle.cubes.specs.Records.{max_listed, record_length, candidate_bytes}
use Rattle.cubes.specs.Listing.{Table, Call, prime_of, records_of, listing_tests, listing_fault, accepted, ahead_of, listing, Answer, listing_accepted, listing_refused, listing_answer_by, listing_answer}
use Rattle.cubes.specs.Calls.{handed_over, Obeyed, Refused, primes_behind, end_of}
use Rattle.cubes.proofs.Lists.{keep-mem, mem-keep, take-mem, ordered-keep, ordered-take, ordered-with}
use Rattle.cubes.proofs.Candidates.{before-not, candidates-ordered}
use Rattle.cubes.proofs.Listing.{records-append, bytes_one, rule-moves, accepted-is, accepted-place}
use Rattle.cubes.proofs.Calls.{call-obeyed, call-refused, primes-add, candidate-prime, every-prime}
use Rattle.counts.proofs.Counts.{count_most}
use Rattle.claims.specs.Demand3.{was_accepted, goes_on, Continues, advance, reached, sum_of, able, AtEnd, Demand3}

-- ---- one call

-- The number that a call returns is the refusal by its tests.
refusal_is : (c : Call) → (listing_answer c).refusal ≡ listing_fault c
unfolding listing_answer_by listing_fault
refusal_is c = decide-number (λ (a : Answer). a.refusal) (listing_tests c) (listing_accepted c.place (listing c)) listing_refused refl (λ k. refl)

-- A call that returned no refusal was accepted by the rule; a call that did was not.
by-rule : {b : Bool} (c : Call) → was_accepted c ≡ b → accepted c ≡ b
by-rule c e = ap (λ (k : ℕ). eqb k 0) (sym (refusal_is c)) ∙ e

obeys : (c : Call) → was_accepted c ≡ true → Obeyed c
obeys c e = call-obeyed c (by-rule c e)

gives_nothing : (c : Call) → was_accepted c ≡ false → Refused c
gives_nothing c e = call-refused c (by-rule c e)

was : (c : Call) → (listing_answer c).refusal ≡ 0 → was_accepted c ≡ true
was c e = eq-eqb (listing_answer c).refusal 0 e

was-not : (c : Call) → (listing_answer c).refusal ≢ 0 → was_accepted c ≡ false
was-not c n = ne_eqb (listing_answer c).refusal 0 n

returned-none : (c : Call) → was_accepted c ≡ true → (listing_answer c).refusal ≡ 0
returned-none c e = eqb-true (listing_answer c).refusal 0 e

-- ---- the place that was returned, and the place by the listing rule

-- Every accepted call is for the table and at the place so far, as the listing rule reckons it.
abbrev Consecutive : Table → ℕ → List Call → Type 0
Consecutive t place [] = Unit {0}
Consecutive t place (c ∷ cs) = (was_accepted c ≡ true → (c.table ≡ t) × (c.place ≡ place)) × Consecutive t (advance place c) cs

-- After a call at the place so far, both are the same.
same_place : (t : Table) (p : ℕ) (c : Call) → (was_accepted c ≡ true → (c.table ≡ t) × (c.place ≡ p)) → goes_on p c ≡ advance p c
same_place t p c u = go (was_accepted c) refl
  where
    go : (b : Bool) → was_accepted c ≡ b → cond b (listing_answer c).next p ≡ cond b (p + (listing c).passed) p
    go true e = let o = obeys c e in omega (arith, o.next, o.passed, (u e).1)
    go false e = refl

-- So calls that go on at the place returned are those at the place so far.
continues-same : (t : Table) (p : ℕ) (cs : List Call) → Continues t p cs ↔ Consecutive t p cs
continues-same t p [] = (λ u. u, λ u. u)
continues-same t p (c ∷ cs) = (
  λ u.
      let k : was_accepted c ≡ true → (c.table ≡ t) × (c.place ≡ p) = λ e. u.0 (returned-none c e) in
      (k, (continues-same t (advance p c) cs).0 (subst (λ (z : ℕ). Continues t z cs) (same_place t p c k) u.1)),
  λ u. (
    λ e. u.0 (was c e),
    subst (λ (z : ℕ). Continues t z cs) (sym (same_place t p c u.0)) ((continues-same t (advance p c) cs).1 u.1),
  ),
)

-- ---- one call after others

able-is : (c : Call) → able c ≡ true → (was_accepted c ≡ true) × (0 < c.allowance) × (record_length ≤ length c.room)
able-is c e =
    let r = and_r (was_accepted c) (ltb 0 c.allowance && leb record_length (length c.room)) e in (
      and_l (was_accepted c) (ltb 0 c.allowance && leb record_length (length c.room)) e,
      ltb-true 0 c.allowance (and_l (ltb 0 c.allowance) (leb record_length (length c.room)) r),
      leb-true record_length (length c.room) (and_r (ltb 0 c.allowance) (leb record_length (length c.room)) r),
    )

-- Short of the end an able call moves on.
able-moves : (c : Call) → able c ≡ true → c.place < end_of c.table → c.place < (listing_answer c).next
able-moves c a h =
    let b = able-is c a in
    let o = obeys c b.0 in
    let m = rule-moves o.rule (omega (arith, length-drop c.place (candidates c.table.variables))) b.1 b.2 in
    omega (arith, o.next, o.passed)

-- What a call adds at the place: to the place, to the records, and to what is handed over.
record Step (t : Table) (p : ℕ) (c : Call) (q : ℕ) : Type 0 where
  low : p ≤ q
  high : q ≤ end_of t
  handed : records_of t (primes_behind t p) ++ handed_over c ≡ records_of t (primes_behind t q)
  number : length (primes_behind t p) + (listing_answer c).records ≡ length (primes_behind t q)
  passed : p + (listing_answer c).passed ≡ q
  moves : able c ≡ true → p < end_of t → p < q

taken : (c : Call) → was_accepted c ≡ true → Step c.table c.place c (c.place + (listing c).passed)
taken c e = record {
  low = omega arith;
  high = omega (arith, o.rule.along, accepted-place c (by-rule c e), length-drop c.place (candidates c.table.variables));
  handed = ap (λ x. records_of c.table (primes_behind c.table c.place) ++ x) o.handed
      ∙ sym (records-append c.table (primes_behind c.table c.place) (listing c).primes) ∙ ap (records_of c.table) (sym grown);
  number = ap (λ (z : ℕ). length (primes_behind c.table c.place) + z) o.records
      ∙ sym (length-append (primes_behind c.table c.place) (listing c).primes) ∙ ap length (sym grown);
  passed = ap (λ (z : ℕ). c.place + z) o.passed;
  moves = λ a h. omega (arith, able-moves c a h, o.next, o.passed);
}
  where
    o : Obeyed c
    o = obeys c e

    grown : primes_behind c.table (c.place + (listing c).passed) ≡ primes_behind c.table c.place ++ (listing c).primes
    grown = primes-add c.table c.place (listing c).passed ∙ ap (λ x. primes_behind c.table c.place ++ x) (sym o.rule.found)

step : (t : Table) (p : ℕ) (c : Call) → p ≤ end_of t → (was_accepted c ≡ true → (c.table ≡ t) × (c.place ≡ p)) → Step t p c (advance p c)
step t p c h u = go (was_accepted c) refl
  where
    go : (s : Bool) → was_accepted c ≡ s → Step t p c (cond s (p + (listing c).passed) p)
    go true e =
        let k = u e in
        subst (λ (z : ℕ). Step t z c (z + (listing c).passed)) k.1 (subst (λ (s : Table). Step s c.place c (c.place + (listing c).passed)) k.0 (taken c e))
    go false e =
        let r = gives_nothing c e in record {
          low = omega arith;
          high = h;
          handed = ap (λ x. records_of t (primes_behind t p) ++ x) r.handed ∙ append-nil (records_of t (primes_behind t p));
          number = omega (arith, ap (λ (a : Answer). a.records) r.numbers);
          passed = omega (arith, ap (λ (a : Answer). a.passed) r.numbers);
          moves = λ a l. clash (able-is c a).0 e;
        }

-- ---- lists of calls

record Run (t : Table) (p : ℕ) (cs : List Call) (q : ℕ) : Type 0 where
  low : p ≤ q
  high : q ≤ end_of t
  handed : records_of t (primes_behind t p) ++ flat_map handed_over cs ≡ records_of t (primes_behind t q)
  number : length (primes_behind t p) + sum_of (λ c. (listing_answer c).records) cs ≡ length (primes_behind t q)
  passed : p + sum_of (λ c. (listing_answer c).passed) cs ≡ q
  moves : (p + length (keep able cs) ≤ q) ⊎ (q ≡ end_of t)

run : (t : Table) (cs : List Call) (p : ℕ) → p ≤ end_of t → Consecutive t p cs → Run t p cs (reached p cs)
unfolding reached sum_of flat_map keep
run t [] p h u = record {
  low = omega arith;
  high = h;
  handed = append-nil (records_of t (primes_behind t p));
  number = omega arith;
  passed = omega arith;
  moves = inl (omega arith);
}
run t (c ∷ cs) p h u =
    let s = step t p c h u.0 in
    let i = run t cs (advance p c) s.high u.1 in record {
      low = omega (arith, s.low, i.low);
      high = i.high;
      handed = sym (append_assoc (records_of t (primes_behind t p)) (handed_over c) (flat_map handed_over cs)) ∙ ap (λ x. x ++ flat_map handed_over cs) s.handed ∙ i.handed;
      number = omega (arith, s.number, i.number);
      passed = omega (arith, s.passed, i.passed);
      moves = moved (able c) refl (advance p c) (reached (advance p c) cs) s.low i.low i.high s.moves i.moves;
    }
  where
    moved : (b : Bool) → able c ≡ b → (q r : ℕ) → p ≤ q → q ≤ r → r ≤ end_of t → (able c ≡ true → p < end_of t → p < q) → (q + length (keep able cs) ≤ r) ⊎ (r ≡ end_of t)
        → (p + length (cond b (c ∷ keep able cs) (keep able cs)) ≤ r) ⊎ (r ≡ end_of t)
    moved b e q r l m k f (inr z) = inr z
    moved false e q r l m k f (inl z) = inl (omega arith)
    moved true e q r l m k f (inl z) = elim (eq-or-lt_of_le h) [
      | inl y ↦ inr (omega arith)
      | inr y ↦ inl (omega (arith, f e y))
    ]

-- The last accepted call returns the place reached.
reached-refused : (p : ℕ) (cs : List Call) → ((d : Call) → Mem d cs → was_accepted d ≡ false) → reached p cs ≡ p
unfolding reached
reached-refused p [] h = refl
reached-refused p (c ∷ cs) h = ap (λ (b : Bool). reached (cond b (p + (listing c).passed) p) cs) (h c (inl refl)) ∙ reached-refused p cs (λ d m. h d (inr m))

reached-last : (t : Table) (p : ℕ) (bs : List Call) (c : Call) (cs : List Call) → Consecutive t p (bs ++ (c ∷ cs)) → was_accepted c ≡ true
    → ((d : Call) → Mem d cs → was_accepted d ≡ false) → reached p (bs ++ (c ∷ cs)) ≡ (listing_answer c).next
unfolding reached
reached-last t p [] c cs u e h =
    let o = obeys c e in
    let k = u.0 e in
    ap (λ (b : Bool). reached (cond b (p + (listing c).passed) p) cs) e ∙ reached-refused (p + (listing c).passed) cs h ∙ omega (arith, k.1, o.next, o.passed)
reached-last t p (b ∷ bs) c cs u e h = reached-last t (advance p b) bs c cs u.1 e h

consecutive-table : (t : Table) (p : ℕ) (cs : List Call) → Consecutive t p cs → (c : Call) → Mem c cs → was_accepted c ≡ true → c.table ≡ t
consecutive-table t p [] u c h a = elim h [ ]
consecutive-table t p (b ∷ cs) u c (inl e) a = ap (λ (z : Call). z.table) e ∙ (u.0 (subst (λ (z : Call). was_accepted z ≡ true) e a)).0
consecutive-table t p (b ∷ cs) u c (inr m) a = consecutive-table t (advance p b) cs u.1 c m a

-- ---- the end

module _ (t : Table) (a : Accepted t.variables t.on t.free) (six : t.variables ≤ max_listed) where
  -- No test of a call at the end applies.
  end-accepted : (c : Call) → c.table ≡ t → c.place ≡ end_of t → NoneApplies (listing_tests c)
  unfolding table_fault
  end-accepted c e p u m = go (append-mem (table_tests c.table.variables c.table.on c.table.free) _ u m)
    where
      sound : Accepted c.table.variables c.table.on c.table.free
      sound = subst (λ (s : Table). Accepted s.variables s.on s.free) (sym e) a

      go : Mem u (table_tests c.table.variables c.table.on c.table.free)
          ⊎ Mem u (test size_fault (ltb max_listed c.table.variables) ∷ test place_fault (ltb (candidate_count c.table.variables) c.place) ∷ [])
          → u.applies ≡ false
      go (inl k) = (no-fault (table_tests c.table.variables c.table.on c.table.free) (table-numbered c.table.variables c.table.on c.table.free)).0
          (no-refusal c.table.variables c.table.on c.table.free sound) u k
      go (inr (inl k)) = ap (λ (x : Test). x.applies) k ∙ le-ltb max_listed c.table.variables (subst (λ (s : Table). s.variables ≤ max_listed) (sym e) six)
      go (inr (inr (inl k))) = ap (λ (x : Test). x.applies) k
          ∙ le-ltb (candidate_count c.table.variables) c.place (omega (arith, p, ap (λ (s : Table). candidate_count s.variables) e))
      go (inr (inr (inr h))) = elim h [ ]

  at-the-end : (c : Call) → c.table ≡ t → c.place ≡ end_of t → AtEnd t c
  unfolding records_of keep flat_map
  at-the-end c e p =
      let w = (accepted-is c).1 (end-accepted c e p) in
      let o = call-obeyed c w in
      let z : (listing c).passed ≡ 0 = omega (arith, o.rule.along, length-drop c.place (candidates c.table.variables), p, ap (λ (s : Table). candidate_count s.variables) e) in
      record {
        refusal = o.refusal;
        passed = o.passed ∙ z;
        next = omega (arith, o.next, o.passed);
        handed = o.handed ∙ ap (records_of c.table) (o.rule.found ∙ ap (λ (k : ℕ). keep (prime_of c.table) (take k (ahead_of c))) z);
      }

-- ---- demand 3

pub demand3 : (t : Table) → Accepted t.variables t.on t.free → t.variables ≤ max_listed → (calls : List Call) → Continues t 0 calls → Demand3 t calls
unfolding primes_behind records_of keep flat_map
demand3 t a six calls g =
    let u = (continues-same t 0 calls).0 g in
    let i = run t calls 0 zero-le u in record {
      accepts = λ c m. (λ e. (accepted-is c).0 (by-rule c (was c e)), λ n. refusal_is c ∙ eqb-true (listing_fault c) 0 ((accepted-is c).1 n));
      obeyed = λ c m e. obeys c (was c e);
      refused = λ c m n. gives_nothing c (was-not c n);
      most = count_most t.variables six;
      at-end = at-the-end t a six;
      within = i.high;
      last = λ bs c cs e k h.
          sym (ap (reached 0) e ∙ reached-last t 0 bs c cs (subst (Consecutive t 0) e u) (was c k) (λ d m. was-not d (h d m)));
      passed = omega (arith, i.passed);
      handed = i.handed;
      number = omega (arith, i.number);
      exact = λ c. (
        λ m. let k = keep-mem (prime_of t) (take (reached 0 calls) cs) c m in (k.0, (candidate-prime t c (take-mem (reached 0 calls) cs c k.0)).0 k.1),
        λ h. mem-keep (prime_of t) (take (reached 0 calls) cs) c h.0 ((candidate-prime t c (take-mem (reached 0 calls) cs c h.0)).1 h.1),
      );
      order = behind;
      once = ordered-with Before (λ a b. candidate_bytes a ≢ candidate_bytes b) (primes_behind t (reached 0 calls))
          (λ a b x y h e. let z = subst (Before a) (sym (bytes_one a b e)) h in before-not a a z z) behind;
      whole = λ e C p. subst (λ l. Only t.variables C (keep (prime_of t) l)) (sym (take_all (reached 0 calls) cs (omega arith))) (every-prime t C p);
      forward = λ c m a l. able-moves c a (subst (λ (s : Table). c.place < end_of s) (sym (consecutive-table t 0 calls u c m (able-is c a).0)) l);
      enough = λ h. elim i.moves [ inl z ↦ omega (arith, i.high) | inr z ↦ z ];
    }
  where
    cs : List Candidate
    cs = candidates t.variables

    behind : Ordered Before (primes_behind t (reached 0 calls))
    behind = ordered-keep Before (prime_of t) (take (reached 0 calls) cs) (ordered-take Before (reached 0 calls) cs (candidates-ordered t.variables))
