-- Laws of what is taken: the flags of the points that a prime holds, a prime put behind the others, and the points gone through one after the other.
-- Read next: Products.
use mathlib.Core.Path.{◌≡◌, refl, sym, ap, ap₂, ◌∙◌, fun_ext, subst}
use mathlib.Core.Bool.{Bool, true, false, ◌&&◌, ◌||◌, or-false, or-true}
use mathlib.Core.List.{List, [], ◌∷◌, ◌++◌}
use Prim.Native.Nat.{ℕ, zero, suc, ◌+◌, ◌^◌, ◌≤◌, ◌<◌}
use native.Mathlib.Nat.{lt_of_not-le}
use native.Mathlib.Decide.{ℕ_discrete, dec_le}
use native.Mathlib.Numerals.{add-one}
use native.Mathlib.Omega.{arith}
use lib.Dec.{ltb}
use lib.Pow.{pow_mono}
use lib.ListN.{length, get_or, set, drop, replicate, length-set, get_or-replicate, drop_of_length-le}
use lib.Seq.{drop-cons, get_or-set_same, get_or-set_other}
use borrow.Author.Tests.{lt-ltb, le-ltb}
use Rattle.gf2.specs.Finite.{holds}
use Rattle.gf2.proofs.Logic.{and-false}
use Rattle.gf2.proofs.Finite.{holds-mem, rising-length}
use Rattle.gf2.proofs.Xor.{bit-zero}
use Rattle.table.specs.Table.{outside, unordered}
use Rattle.table.specs.Flags.{max_points}
use Rattle.table.proofs.Table.{refuted, inside, rising}
use Rattle.cubes.specs.Lists.{keep}
use Rattle.cubes.specs.Cubes.{Candidate, points_of}
use Rattle.cubes.specs.Candidates.{candidates}
use Rattle.cubes.specs.Primes.{is_prime}
use Rattle.masks.specs.Points.{MaskOf, prime_by}
use Rattle.bases.specs.Entry.{candidate_at, EntryAt}
use Rattle.bases.proofs.Entry.{entry-candidate}
use Rattle.cover.specs.Choice.{primes_of, covered, first_holding, taken_through, chosen}
use Rattle.cover.proofs.Primes.{points-coset}
use Rattle.cover.proofs.Steps.{through-covered, through-none, through-taken, covered_next}
use Rattle.choice.specs.declared.Prime.{Prime}
use Rattle.choice.specs.declared.Choice.{Choice}
use Rattle.choice.specs.Search.{Search, candidate_of, PrimeAt}
use Rattle.choice.specs.Chosen.{max_chosen, no_prime, prime_in, chosen_by, added, MarksPrime, Chose}

-- ---- the flags

-- The flags of the points below x that the candidate holds are set, and the others are as they were.
pub record MarkedTo (c : Candidate) (flags : List Bool) (x : ℕ) (r : List Bool) : Type 0 where
  pub long : length r ≡ max_points
  pub marks : (y : ℕ) → y < max_points → get_or r y false ≡ get_or flags y false || (ltb y x && points_of c y)

pub marked_start : (c : Candidate) (flags : List Bool) → length flags ≡ max_points → MarkedTo c flags 0 flags
marked_start c flags h = record { long = h; marks = λ y l. rw (le-ltb y 0 (omega arith)) (sym (or-false (get_or flags y false))) }

below_next : (y x : ℕ) → (y ≡ x → ⊥) → ltb y x ≡ ltb y (x + 1)
below_next y x h = elim (dec_le x y) [
  | yes l ↦ le-ltb y x l ∙ sym (le-ltb y (x + 1) (omega arith))
  | no l ↦ let k = lt_of_not-le l in lt-ltb y x k ∙ sym (lt-ltb y (x + 1) (omega arith))
]

module _ (c : Candidate) (flags r : List Bool) (x : ℕ) (w : MarkedTo c flags x r) where
  pub marked-on : points_of c x ≡ true → x < max_points → MarkedTo c flags (x + 1) (set r x true)
  marked-on t h = record {
    long = length-set r x true ∙ w.long;
    marks = λ y l. elim (ℕ_discrete y x) [
      | yes q ↦ rw (q, get_or-set_same r x true false (omega (arith, w.long)), lt-ltb x (x + 1) (omega arith), t) (sym (or-true (get_or flags x false)))
      | no q ↦ get_or-set_other r x y true false q ∙ w.marks y l ∙ ap (λ (z : Bool). get_or flags y false || (z && points_of c y)) (below_next y x q)
    ];
  }

  pub marked-off : points_of c x ≡ false → MarkedTo c flags (x + 1) r
  marked-off t = record {
    long = w.long;
    marks = λ y l. w.marks y l ∙ ap (λ (z : Bool). get_or flags y false || z) (elim (ℕ_discrete y x) [
      | yes q ↦ rw (q, t) (and-false (ltb x x) ∙ sym (and-false (ltb x (x + 1))))
      | no q ↦ ap (λ (z : Bool). z && points_of c y) (below_next y x q)
    ]);
  }

pub marked-end : {m d p e : ℕ} → EntryAt m d p e → (flags r : List Bool) (x : ℕ) → 2 ^ m ≤ x → MarkedTo (candidate_at d p e) flags x r → MarksPrime (candidate_at d p e) flags r
marked-end {m} {d} {p} {e} k flags r x h w y l =
    w.marks y l ∙ ap (λ (z : Bool). get_or flags y false || z) (elim (dec_le x y) [
      | yes g ↦ rw (beyond g) (and-false (ltb y x))
      | no g ↦ rw (lt-ltb y x (lt_of_not-le g))
    ])
  where
    beyond : x ≤ y → points_of (candidate_at d p e) y ≡ false
    beyond g = refuted (points_of (candidate_at d p e) y) (λ t.
        let c = entry-candidate k in omega (arith, c.below y (points-coset m (candidate_at d p e) c y t)))

-- ---- a prime put behind the others

module _ (r : Choice) (p : Prime) where
  -- Those before it stand as they were.
  kept_by : (k : ℕ) → k ≤ r.count → chosen_by (added r p) k ≡ chosen_by r k
  unfolding chosen_by
  kept_by zero h = refl
  kept_by (suc k) h =
      let n : k ≡ r.count → ⊥ = λ q. omega arith in
      rw (kept_by k (omega arith), get_or-set_other r.primes r.count k p no_prime n)

  module _ (h : r.count < length r.primes) where
    pub added-by : chosen_by (added r p) (r.count + 1) ≡ chosen_by r r.count ++ (candidate_of p ∷ [])
    unfolding chosen_by
    added-by =
        ap (chosen_by (added r p)) (add-one r.count)
        ∙ ap₂ (λ l c. l ++ (c ∷ [])) (kept_by r.count (omega arith)) (ap candidate_of (get_or-set_same r.primes r.count p no_prime h))

    pub added-entry : (m : ℕ) → ((k : ℕ) → k < r.count → PrimeAt m (prime_in r k)) → PrimeAt m p → (k : ℕ) → k < r.count + 1 → PrimeAt m (prime_in (added r p) k)
    added-entry m f g k l = elim (ℕ_discrete k r.count) [
      | yes q ↦ subst (PrimeAt m) (sym (ap (λ (z : ℕ). prime_in (added r p) z) q ∙ get_or-set_same r.primes r.count p no_prime h)) g
      | no q ↦ subst (PrimeAt m) (sym (get_or-set_other r.primes r.count k p no_prime q)) (f k (omega arith))
    ]

-- ---- the points gone through

-- The search by the mask of the on points is that among the primes of the function.
pub primes-by : (m : ℕ) (on : List ℕ) (mask : ℕ) → MaskOf on mask → primes_of m on ≡ keep (prime_by m mask 0) (candidates m)
unfolding primes_of holds
primes-by m on mask h = ap₂ (λ (f g : ℕ → Bool). keep (is_prime m f g) (candidates m)) (fun_ext (λ x. sym (h x))) (fun_ext (λ x. sym (bit-zero x)))

pub search-at : (m : ℕ) (on : List ℕ) (mask x : ℕ) → m ≤ 6 → outside m on ≡ false → MaskOf on mask → x < 2 ^ m → Search m mask m x
search-at m on mask x h o w l = record { few = h; inside = λ y t. inside m on o y ((holds-mem on y).0 (sym (w y) ∙ t)); short = omega arith; point = l }

-- The points before place i have been gone through: the choice so far goes on to what is chosen, and the flags set are those of the points covered.
pub record TakenTo (m : ℕ) (on : List ℕ) (i : ℕ) (flags : List Bool) (r : Choice) : Type 0 where
  pub upto : i ≤ length on
  pub same : taken_through (primes_of m on) (chosen_by r r.count) (drop i on) ≡ chosen m on
  pub count : r.count ≤ i
  pub long : length r.primes ≡ max_chosen
  pub flagged : (y : ℕ) → y < max_points → get_or flags y false ≡ covered (chosen_by r r.count) y
  pub entry : (k : ℕ) → k < r.count → PrimeAt m (prime_in r k)

pub taken_start : (m : ℕ) (on : List ℕ) → TakenTo m on 0 (replicate max_points false) (record { count = 0; primes = replicate max_chosen no_prime })
unfolding chosen covered chosen_by
taken_start m on = record {
  upto = omega arith;
  same = refl;
  count = omega arith;
  long = refl;
  flagged = λ y h. get_or-replicate max_points y false false h;
  entry = λ k h. absurd (omega arith);
}

module _ (m : ℕ) (on : List ℕ) (i : ℕ) (flags : List Bool) (r : Choice) (w : TakenTo m on i flags r) (h : i < length on) where
  next : drop i on ≡ get_or on i 0 ∷ drop (i + 1) on
  next = rw (add-one) (drop-cons on i 0 h)

  abbrev so_far : List Candidate
  so_far = chosen_by r r.count

  -- Nothing is taken, so that nothing changes.
  unchanged : taken_through (primes_of m on) so_far (get_or on i 0 ∷ drop (i + 1) on) ≡ taken_through (primes_of m on) so_far (drop (i + 1) on) → TakenTo m on (i + 1) flags r
  unchanged q = record {
    upto = omega arith;
    same = sym q ∙ ap (taken_through (primes_of m on) so_far) (sym next) ∙ w.same;
    count = omega (arith, w.count);
    long = w.long;
    flagged = w.flagged;
    entry = w.entry;
  }

  pub taken-covered : covered so_far (get_or on i 0) ≡ true → TakenTo m on (i + 1) flags r
  taken-covered t = unchanged (through-covered (primes_of m on) so_far (get_or on i 0) (drop (i + 1) on) t)

  module _ (t : covered so_far (get_or on i 0) ≡ false) where
    pub taken-nothing : [] ≡ first_holding (primes_of m on) (get_or on i 0) → TakenTo m on (i + 1) flags r
    taken-nothing q = unchanged (through-none (primes_of m on) so_far (get_or on i 0) (drop (i + 1) on) t (sym q))

    pub taken-one : (p : Prime) → candidate_of p ∷ [] ≡ first_holding (primes_of m on) (get_or on i 0) → PrimeAt m p → r.count < max_chosen
        → (u : List Bool) → MarksPrime (candidate_of p) flags u → TakenTo m on (i + 1) u (added r p)
    taken-one p q k room u marks =
        let long : r.count < length r.primes = omega (arith, w.long) in
        let b = added-by r p long in
        let c = candidate_of p in record {
          upto = omega arith;
          same = ap (λ l. taken_through (primes_of m on) l (drop (i + 1) on)) b
              ∙ sym (through-taken (primes_of m on) so_far (get_or on i 0) (drop (i + 1) on) c t (sym q))
              ∙ ap (taken_through (primes_of m on) so_far) (sym next) ∙ w.same;
          count = omega (arith, w.count);
          long = length-set r.primes r.count p ∙ w.long;
          flagged = λ y l. marks y l ∙ ap (λ (z : Bool). z || points_of c y) (w.flagged y l) ∙ sym (covered_next so_far c y) ∙ ap (λ z. covered z y) (sym b);
          entry = added-entry r p long m w.entry k;
        }

-- A function of m variables has at most 2 ^ m on points, so that the places are enough.
pub few-points : (m : ℕ) (on : List ℕ) → m ≤ 6 → outside m on ≡ false → unordered on ≡ false → length on ≤ max_chosen
few-points m on h o u = omega (arith, rising-length on (2 ^ m) (rising on u) (inside m on o), pow_mono h)

pub taken-end : (m : ℕ) (on : List ℕ) (i : ℕ) (flags : List Bool) (r : Choice) → TakenTo m on i flags r → length on ≤ i → length on ≤ max_chosen → Chose m on r
unfolding taken_through
taken-end m on i flags r w h l = record {
  valid = record { few = omega (arith, w.count, w.upto); entry = w.entry };
  same = ap (taken_through (primes_of m on) (chosen_by r r.count)) (sym (drop_of_length-le on {i = i} h)) ∙ w.same;
}
