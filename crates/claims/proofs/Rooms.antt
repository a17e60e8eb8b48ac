-- The rooms of specs.Rooms suffice.
use mathlib.Core.Path.{◌≡◌, refl, sym, ap, ap₂, ◌∙◌, subst}
use mathlib.Core.Bool.{true}
use mathlib.Core.Logic.{◌≢◌, inl, inr}
use mathlib.Core.List.{List, [], ◌∷◌, ◌++◌, flat_map}
use Prim.Native.Nat.{ℕ, suc, ◌+◌, ◌^◌, ◌≤◌, ◌<◌}
use native.Mathlib.Decide.{dec_lt}
use native.Mathlib.Omega.{arith}
use lib.ListN.{length, take, drop, length-append, length-map}
use lib.Pow.{pow_mono}
use Rattle.gf2.specs.Bits.{bit, halvings, lead}
use Rattle.gf2.specs.Limits.{max_variables}
use Rattle.gf2.specs.Finite.{Mem, holds, Ordered, Rising, select}
use Rattle.gf2.specs.Basis.{canonical_places}
use Rattle.gf2.proofs.Logic.{clash}
use Rattle.gf2.proofs.Finite.{rising-length, select-length, mem-select}
use Rattle.table.specs.Table.{Accepted}
use Rattle.records.specs.Kinds.{encode_end, Bytes}
use Rattle.stored.specs.Layout.{longest_table}
use Rattle.stored.specs.Marks.{stored_variables, stored_on, stored_free}
use Rattle.stored.specs.Stored.{stored_fault}
use Rattle.stored.proofs.Laying.{too_long}
use Rattle.stored.proofs.Accepting.{stored-laid, stored-accepted}
use Rattle.space.specs.Closure.{linear_space}
use Rattle.space.specs.Completion.{completed, completed_points}
use Rattle.space.specs.Restriction.{project, equations}
use Rattle.space.specs.Affine.{directions, projection}
use Rattle.space.proofs.Restriction.{linear-equations, restriction-length}
use Rattle.product.proofs.Points.{canonical-length}
use Rattle.form.specs.Form.{max_products, Form, ValidForm, form_at, form_points}
use Rattle.form.specs.Encoding.{encode_products, encode_form}
use Rattle.form.specs.Decoding.{form_variables, form_products, decode_form}
use Rattle.form.specs.Refusal.{form_fault, product_fault}
use Rattle.form_calls.specs.Reading.{points_read}
use Rattle.form.proofs.Encodings.{form-valid, rewritten-same}
use Rattle.form.proofs.Accepting.{accepted-form}
use Rattle.form.proofs.Alone.{accepted-product}
use Rattle.index.specs.Records.{form_index}
use Rattle.index.specs.Answers.{appended_bytes, removed_bytes}
use Rattle.index.proofs.Lists.{index-length}
use Rattle.index.proofs.Accepting.{appended-sound, appended-again, removed-sound, removed-again}
use Rattle.cubes.specs.Lists.{keep}
use Rattle.cubes.specs.Cubes.{Candidate, candidate, degree, IsCandidate}
use Rattle.cubes.specs.Candidates.{Before, bases, vectors, candidates}
use Rattle.cubes.specs.Records.{max_listed, record_length}
use Rattle.cubes.specs.Listing.{Table, Call, prime_of, records_of, accepted, ahead_of, Full, listing, listing_answer}
use Rattle.cubes.specs.Calls.{primes_behind, end_of}
use Rattle.cubes.proofs.Lists.{mem-flat_map, keep-mem, take-mem, ordered-take, ordered-keep, ordered-with}
use Rattle.cubes.proofs.Cubes.{vectors-below, degree-most}
use Rattle.cubes.proofs.Candidates.{basis-is, candidate-is, before-not, candidates-ordered}
use Rattle.cubes.proofs.Primes.{one-prime}
use Rattle.cubes.proofs.Listing.{records-length, accepted-small}
use Rattle.cubes.proofs.Calls.{call-obeyed, primes-add}
use Rattle.report.proofs.Answering.{report-fits}
use Rattle.analysis.specs.Spaces.{completed_restriction}
use Rattle.analysis.specs.Affine.{affine_projection}
use Rattle.point_marks.specs.Marks.{stored_mark}
use Rattle.compare.specs.Answer.{table_size, compare_answer}
use Rattle.compare.proofs.Joining.{from-length}
use Rattle.claims.specs.Compared.{Comparing, returned}
use Rattle.claims.specs.Rooms.{RoomsSuffice}
use Rattle.claims.proofs.FormBytes.{products-length, written-fits}
use Rattle.claims.proofs.Compared.{taken, taken_at}

-- ---- stored tables

table-room : (bytes : List ℕ) → stored_fault bytes ≡ 0 → length bytes ≤ 12293
table-room bytes e = go (dec_lt longest_table (length bytes))
  where
    go : Dec (longest_table < length bytes) → length bytes ≤ 12293
    go (no h) = omega arith
    go (yes h) = clash (too_long bytes h) (stored-laid bytes e)

-- ---- points

-- Points of at most twelve variables.
few-points : (n : ℕ) (ps : List ℕ) → n ≤ max_variables → length ps ≤ 2 ^ n → length ps ≤ 4096
few-points n ps h l = omega (arith, pow_mono h)

rising-points : (n : ℕ) (ps : List ℕ) → n ≤ max_variables → Rising ps → ((p : ℕ) → Mem p ps → p < 2 ^ n) → length ps ≤ 4096
rising-points n ps h r b = few-points n ps h (rising-length ps (2 ^ n) r b)

complete-room : (n : ℕ) (on free : List ℕ) → Accepted n on free → length (completed_points n on free) ≤ 4096
unfolding completed_points
complete-room n on free a = few-points n (select (completed n on free) (2 ^ n)) a.few (select-length (completed n on free) (2 ^ n))

analyse-room : (n : ℕ) (on free : List ℕ) → Accepted n on free → length (completed_restriction n on free) ≤ 4096
analyse-room n on free a =
    let f = completed n on free in
    let h : length (equations n (linear_space n f)) ≤ n = omega (arith, linear-equations n f) in
    few-points n (completed_restriction n on free) a.few (omega (arith, restriction-length n (linear_space n f) f, pow_mono h))

affine-room : (n : ℕ) (on : List ℕ) → Accepted n on [] → length (affine_projection n on) ≤ 4096
unfolding projection
affine-room n on a =
    omega (arith, length-map on (project (canonical_places n (directions on))), rising-points n on a.few a.on-rising a.on_below)

form-points-room : (bytes : List ℕ) → form_fault bytes ≡ 0 → length (points_read bytes) ≤ 4096
unfolding form_points
form-points-room bytes e =
    let f = decode_form bytes in
    few-points f.variables (select (form_at f) (2 ^ f.variables)) (form-valid bytes ((accepted-form bytes).0 e)).few (select-length (form_at f) (2 ^ f.variables))

-- ---- forms

form-room : (f : Form) → ValidForm f → length (encode_form f) ≤ 3141
unfolding encode_form
form-room f v =
    omega (
      arith,
      length-append (encode_products f.products) (encode_end (length f.products)),
      products-length 12 f.products (λ p m. omega (arith, canonical-length f.variables p (v.canonicals p m) (v.fitting p m), v.few)),
      v.short,
    )

read-form-room : (bytes : List ℕ) → Bytes bytes → form_fault bytes ≡ 0 → length bytes ≤ 3141
read-form-room bytes b e =
    let i = (accepted-form bytes).0 e in
    omega (arith, form-room (decode_form bytes) (form-valid bytes i), ap length (rewritten-same bytes b i))

appended-room : (form product : List ℕ) → form_fault form ≡ 0 → product_fault (form_variables form) product ≡ 0 → length (form_products form) < max_products
    → length (appended_bytes form product) ≤ 3141
appended-room form product e f few =
    let sound = appended-sound form product ((accepted-form form).0 e) ((accepted-product (form_variables form) product).0 f) few in
    omega (arith, form-room (decode_form (appended_bytes form product)) (form-valid (appended_bytes form product) sound), ap length (appended-again form product))

removed-room : (form : List ℕ) → form_fault form ≡ 0 → 0 < length (form_products form) → length (removed_bytes form) ≤ 3141
removed-room form e some =
    let sound = removed-sound form ((accepted-form form).0 e) some in
    omega (arith, form-room (decode_form (removed_bytes form)) (form-valid (removed_bytes form) sound), ap length (removed-again form))

-- An index has a record for each point.
index-room : (form : List ℕ) → form_fault form ≡ 0 → length (form_index (decode_form form)) ≤ 4096
index-room form e = omega (arith, index-length (decode_form form), pow_mono (form-valid form ((accepted-form form).0 e)).few)

-- ---- primes

-- A list that a function takes to members of another, each to another one, is no longer than that.
without : {A : Type 0} (x : A) (l : List A) → Mem x l → (m : List A) × (length l ≡ suc (length m)) × ((y : A) → Mem y l → y ≢ x → Mem y m)
without {A = A} x [] h = elim h [ ]
without x (a ∷ l) (inl e) = (l, refl, λ y m n. elim m [ inl q ↦ absurd (n (q ∙ sym e)) | inr k ↦ k ])
without x (a ∷ l) (inr h) = let r = without x l h in (a ∷ r.0, ap suc r.1, λ y m n. elim m [ inl q ↦ inl q | inr k ↦ inr (r.2 y k n) ])

no_more : {A B : Type 0} (f : A → B) (l : List A) (m : List B) → Ordered (λ a b. f a ≢ f b) l → ((a : A) → Mem a l → Mem (f a) m) → length l ≤ length m
no_more f [] m apart into = omega arith
no_more f (a ∷ l) m apart into =
    let r = without (f a) m (into a (inl refl)) in
    omega (arith, r.1, no_more f l r.0 apart.1 (λ b k. r.2 (f b) (into b (inr k)) (λ e. apart.0 b k (sym e))))

-- The spaces of six variables by their reduced bases, the number of vectors rising.
spaces : List (List ℕ)
spaces = flat_map (λ d. bases d (vectors 6)) (select (λ d. true) 7)

space-count : length spaces ≡ 2825
unfolding spaces bases flat_map keep select bit halvings lead
space-count = refl

module _ (t : Table) (small : t.variables ≤ max_listed) (place : ℕ) where
  prime-of : (c : Candidate) → Mem c (primes_behind t place) → IsCandidate t.variables c × (prime_of t c ≡ true)
  unfolding primes_behind
  prime-of c m =
      let k = keep-mem (prime_of t) (take place (candidates t.variables)) c m in
      ((candidate-is t.variables c).0 (take-mem place (candidates t.variables) c k.0), k.1)

  -- Two primes have two spaces.
  primes-apart : Ordered (λ a b. a.vectors ≢ b.vectors) (primes_behind t place)
  unfolding primes_behind
  primes-apart = ordered-with Before (λ a b. a.vectors ≢ b.vectors) (primes_behind t place) apart
      (ordered-keep Before (prime_of t) (take place (candidates t.variables)) (ordered-take Before place (candidates t.variables) (candidates-ordered t.variables)))
    where
      apart : (a b : Candidate) → Mem a (primes_behind t place) → Mem b (primes_behind t place) → Before a b → a.vectors ≢ b.vectors
      apart a b ma mb h e =
          let p = prime-of a ma in
          let q = prime-of b mb in
          let moved : b ≡ candidate b.point a.vectors = ap (candidate b.point) (sym e) in
          let point = one-prime t.variables (holds t.on) (holds t.free) a.point b.point a.vectors p.0 (subst (IsCandidate t.variables) moved q.0)
          p.1 (subst (λ (c : Candidate). prime_of t c ≡ true) moved q.1) in
          let same : b ≡ a = sym (ap₂ candidate point e) in
          let own : Before a a = subst (Before a) same h in
          before-not a a own own

  prime-space : (c : Candidate) → Mem c (primes_behind t place) → Mem c.vectors spaces
  unfolding spaces
  prime-space c m =
      let k = (prime-of c m).0 in
      mem-flat_map (λ d. bases d (vectors 6)) (select (λ d. true) 7) (degree c) c.vectors
      (mem-select (λ d. true) 7 (degree c) (omega (arith, degree-most t.variables c k)) refl)
      ((basis-is 6 (degree c) c.vectors).1 (k.reduced, refl, λ v i. omega (arith, vectors-below t.variables c k v i, pow_mono small)))

  -- So there are at most as many primes as spaces.
  prime-number : length (primes_behind t place) ≤ 2825
  prime-number = omega (arith, space-count, no_more (λ c. c.vectors) (primes_behind t place) spaces primes-apart prime-space)

  records-room : length (records_of t (primes_behind t place)) ≤ 25425
  records-room =
      omega (arith, prime-number, records-length t (primes_behind t place) (λ c m. omega (arith, degree-most t.variables c (prime-of c m).0)))

-- A call at place 0 with an allowance for every candidate and that room stops at the end: before a prime there would be too many of them.
module _ (c : Call) (a : accepted c ≡ true) (first : c.place ≡ 0) (paid : end_of c.table ≤ c.allowance) (enough : 25425 ≤ length c.room) where
  ahead : ahead_of c ≡ candidates c.table.variables
  ahead = ap (λ (k : ℕ). drop k (candidates c.table.variables)) first

  found : (listing c).primes ≡ primes_behind c.table (listing c).passed
  unfolding primes_behind
  found = (call-obeyed c a).rule.found ∙ ap (λ l. keep (prime_of c.table) (take (listing c).passed l)) ahead

  never-full : Full record_length (prime_of c.table) (drop (listing c).passed (ahead_of c)) (listing c).primes (length c.room) → ⊥
  unfolding keep
  never-full s =
      let next = ap (drop (listing c).passed) (sym ahead) ∙ s.first in
      let one : keep (prime_of c.table) (s.next ∷ []) ≡ s.next ∷ [] = rw s.is-prime in
      let more = primes-add c.table (listing c).passed 1 ∙ ap₂ ◌++◌ (sym found) (ap (λ l. keep (prime_of c.table) (take 1 l)) next ∙ one) in
      omega (
        arith,
        ap length more,
        length-append (listing c).primes (s.next ∷ []),
        prime-number c.table (accepted-small c a) ((listing c).passed + 1),
        s.short,
      )

  listing-end : (listing_answer c).next ≡ end_of c.table
  listing-end =
      let o = call-obeyed c a in
      let all : (listing c).passed ≡ end_of c.table = elim o.rule.stops [
        | inl s ↦ s ∙ ap length ahead
        | inr (inl s) ↦ omega (arith, o.rule.along, ap length ahead, s)
        | inr (inr s) ↦ absurd (never-full s)
      ] in
      omega (arith, o.next, o.passed)

-- A comparison with that room stops at 2 ^ n: before a differing point there would be too many records.
compare-end : (left right : List ℕ) (first : ℕ) (room : List ℕ) → (compare_answer left right first room).refusal ≡ 0 → 16384 ≤ length room
    → (compare_answer left right first room).next ≡ table_size left
compare-end left right first room e enough =
    let c : Comparing = record { left = left; right = right; first = first; room = room } in
    let t = taken c e in
    elim (taken_at c t) [
      | inl done ↦ done
      | inr full ↦ absurd (omega (
        arith,
        full.0,
        full.2,
        t.records,
        from-length (stored_mark left) (stored_mark right) first (returned c).next,
        pow_mono (stored-accepted left t.tables.left-sound).few,
      ))
    ]

pub rooms-suffice : RoomsSuffice
rooms-suffice = record {
  table = table-room;
  read-on = λ bytes e. let a = stored-accepted bytes e in rising-points (stored_variables bytes) (stored_on bytes) a.few a.on-rising a.on_below;
  read-free = λ bytes e. let a = stored-accepted bytes e in rising-points (stored_variables bytes) (stored_free bytes) a.few a.free-rising a.free-below;
  complete = complete-room;
  analyse = analyse-room;
  affine = affine-room;
  form_points = form-points-room;
  index = index-room;
  written = written-fits;
  form = read-form-room;
  form-again = λ bytes e. form-room (decode_form bytes) (form-valid bytes ((accepted-form bytes).0 e));
  appended = appended-room;
  removed = removed-room;
  report = report-fits;
  listing = λ t small. records-room t small (end_of t);
  listing-ends = listing-end;
  compare-ends = compare-end;
}
