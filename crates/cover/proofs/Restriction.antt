-- The restriction of a function by its own linear space is closed under 0 alone: its degree is 0. So with one variable or more it is not
-- constant, and has fewer on points than points. Read next: WrittenForm.
use mathlib.Core.Path.{◌≡◌, refl, sym, ap, ap₂, ◌∙◌}
use mathlib.Core.Bool.{Bool, true, false, cond, ◌&&◌}
use mathlib.Core.Logic.{◌↔◌}
use mathlib.Core.List.{List, [], ◌∷◌, map}
use Prim.Native.Nat.{ℕ, zero, suc, ◌^◌, ◌≤◌, ◌<◌}
use native.Mathlib.Decide.{ℕ_discrete}
use native.Mathlib.Omega.{arith}
use lib.Dec.{eqb}
use lib.ListN.{length, length-map}
use lib.Pow.{pow_mono}
use lib.Bits.{xor_lt}
use borrow.Author.Tests.{eq-eqb, ne_eqb}
use Rattle.gf2.specs.Bits.{◌⊕◌, ◌⊻◌, bit, has_lead, lead}
use Rattle.gf2.specs.Finite.{Mem, holds, Rising, all, select, In}
use Rattle.gf2.specs.Parity.{odd}
use Rattle.gf2.specs.Span.{Span}
use Rattle.gf2.specs.Basis.{Reduced, is_lead, noncanonical_places}
use Rattle.gf2.proofs.Logic.{and-false, and-true, ⊻-false}
use Rattle.gf2.proofs.Finite.{map-mem, holds-mem, all-at, all-not, select-mem, mem-select, select-rising, select-off, select-length}
use Rattle.gf2.proofs.Xor.{bit-xor, bit-zero, bit-big, bit-ext-below, xors}
use Rattle.gf2.proofs.Odd.{odd-xor}
use Rattle.gf2.proofs.Reduce.{span-reduce}
use Rattle.gf2.proofs.Variables.{noncanonical-mem, is_lead-off}
use Rattle.space.specs.Closure.{closed, degree}
use Rattle.space.specs.Restriction.{equation, equations, number, project, values, restriction}
use Rattle.space.proofs.Closure.{closed_at, closed_of, closed-space, linear-unique}
use Rattle.space.proofs.Restriction.{number-below, equation-clean, equation-below, values-project, restriction-through, restriction-below, restriction-rising}
use Rattle.cubes.proofs.Lists.{ordered_same}
use Rattle.cubes.proofs.Cubes.{select-step}
use Rattle.cover.specs.Substitution.{substitute_mask}
use Rattle.cover.proofs.Equation.{bit-cond}
use Rattle.cover.proofs.Substitution.{number-sum, slot, slot_cases, substitute-below, substitute-other, substitute-slot, falling}

-- ---- the values of the y's

pub values-below : (es : List ℕ) (w : ℕ) → values es w < 2 ^ length es
unfolding values
values-below es w = number-below (λ m. odd m w) es

cond-sum : (s t : Bool) (p x y : ℕ) → cond (s ⊻ t) p 0 ⊕ (x ⊕ y) ≡ (cond s p 0 ⊕ x) ⊕ (cond t p 0 ⊕ y)
cond-sum true true p x y = simp xors
cond-sum true false p x y = simp xors
cond-sum false true p x y = simp xors
cond-sum false false p x y = simp xors

-- They are linear.
pub values-sum : (es : List ℕ) (u v : ℕ) → values es (u ⊕ v) ≡ values es u ⊕ values es v
unfolding values number
values-sum [] u v = refl
values-sum (e ∷ es) u v =
    number-sum (λ m. odd m (u ⊕ v)) e es ∙ rw (odd-xor e u v, values-sum es u v) (cond-sum (odd e u) (odd e v) (2 ^ length es) (values es u) (values es v))
    ∙ sym (ap₂ ◌⊕◌ (number-sum (λ m. odd m u) e es) (number-sum (λ m. odd m v) e es))

number_bit : (f : ℕ → Bool) (js : List ℕ) (i : ℕ) → i < length js → bit i (number (map f js)) ≡ f (slot js i)
number_bit f [] i h = absurd (omega arith)
number_bit f (j ∷ js) i h = slot_cases (λ i s. bit i (number (map f (j ∷ js))) ≡ f s) j js
    (at (length js) ∙ rw (eq-eqb (length js) (length js) refl, and-true (f j), bit-big (length js) (number (map f js)) (number-below f js)) (⊻-false (f j)))
    (λ i l. at i ∙ rw (ne_eqb (length js) i (λ q. omega arith), and-false (f j)) (number_bit f js i l)) i h
  where
    at : (i : ℕ) → bit i (number (map f (j ∷ js))) ≡ (f j && eqb (length js) i) ⊻ bit i (number (map f js))
    at i = ap (bit i) (number-sum f j js) ∙ bit-xor i (cond (f j) (2 ^ length js) 0) (number (map f js)) ∙ ap (λ t. t ⊻ bit i (number (map f js))) (bit-cond (f j) (length js) i)

values-is : (n : ℕ) (bs : List ℕ) (w : ℕ) → values (equations n bs) w ≡ number (map (λ j. odd (equation bs j) w) (noncanonical_places n bs))
unfolding values equations
values-is n bs w = ap number (go (noncanonical_places n bs))
  where
    go : (js : List ℕ) → map (λ m. odd m w) (map (equation bs) js) ≡ map (λ j. odd (equation bs j) w) js
    go [] = refl
    go (j ∷ js) = ap₂ ◌∷◌ refl (go js)

project-zero : (js : List ℕ) → project js 0 ≡ 0
unfolding project number
project-zero [] = refl
project-zero (j ∷ js) = rw (bit-zero j) (let e : number (map (λ j. bit j 0) js) ≡ 0 = project-zero js in omega arith)

equations-count : (n : ℕ) (bs : List ℕ) → length (equations n bs) ≡ length (noncanonical_places n bs)
unfolding equations
equations-count n bs = length-map (noncanonical_places n bs) (equation bs)

-- ---- the degree of the restriction

module _ (n : ℕ) (f : ℕ → Bool) (bs : List ℕ) (r : Reduced bs) (s : (x : ℕ) → Span bs x ↔ In n (closed n f) x) where
  pub restriction-closed : (a : ℕ) → a < 2 ^ length (equations n bs) → closed (length (equations n bs)) (holds (restriction n bs f)) a ≡ true → a ≡ 0
  unfolding is_lead
  restriction-closed a ha ca =
      sym back ∙ values-project n bs r point ∙ ap (project js) (span-reduce bs r point ((s point).1 (small, closed_of n f point under)))
      ∙ project-zero js
    where
      js : List ℕ
      js = noncanonical_places n bs

      es : List ℕ
      es = equations n bs

      -- The point of n variables that has the bits of a at the noncanonical places.
      point : ℕ
      point = substitute_mask (map (equation []) js) a

      small : point < 2 ^ n
      small = substitute-below n (map (equation []) js) (λ e m. let k = map-mem (equation []) js e m in
          rw k.2 (equation-below n [] tt (λ c z. absurd z) k.0 (noncanonical-mem n bs k.0 k.1).0)) a

      bare : (c : ℕ) → Mem c bs → has_lead c point ≡ false
      bare c m = substitute-other [] js a (lead c) refl (λ j k q. is_lead-off bs j (noncanonical-mem n bs j k).1 c m (sym q))

      back : values es point ≡ a
      back = bit-ext-below (length es) (values es point) a (values-below es point) ha (λ i l.
          let h : i < length js = omega (arith, equations-count n bs) in
          ap (bit i) (values-is n bs point) ∙ number_bit (λ j. odd (equation bs j) point) js i h
          ∙ equation-clean bs (slot js i) point bare ∙ substitute-slot [] js (falling n bs r) (λ j m. refl) a i h)

      under : (w : ℕ) → w < 2 ^ n → f (w ⊕ point) ≡ f w
      under w h =
          sym (restriction-through n f bs r (λ x. (s x).0) (w ⊕ point) (xor_lt n w point h small))
          ∙ ap (holds (restriction n bs f)) (values-sum es w point ∙ ap (λ (z : ℕ). values es w ⊕ z) back)
          ∙ closed_at (length es) (holds (restriction n bs f)) a ca (values es w) (values-below es w)
          ∙ restriction-through n f bs r (λ x. (s x).0) w h

  -- So its degree is 0.
  pub restriction-degree : degree (length (equations n bs)) (holds (restriction n bs f)) ≡ 0
  unfolding degree
  restriction-degree = ap length (sym (linear-unique (length (equations n bs)) (holds (restriction n bs f)) [] tt (λ x. (
    λ e. rw e (closed-space (length (equations n bs)) (holds (restriction n bs f))).origin,
    λ i. restriction-closed x i.0 i.1,
  ))))

-- ---- how many points a function that is not constant has

-- Where a number below the bound fails the test, fewer than all pass.
select-fewer : (f : ℕ → Bool) (k y : ℕ) → y < k → f y ≡ false → suc (length (select f k)) ≤ k
select-fewer f zero y h e = absurd (omega arith)
select-fewer f (suc k) y h e = go (ℕ_discrete y k) (select-fewer f k y)
  where
    digit : (t : Bool) → cond t 1 0 ≤ 1
    digit true = omega arith
    digit false = omega arith

    go : Dec (y ≡ k) → (y < k → f y ≡ false → suc (length (select f k)) ≤ k) → suc (length (select f (suc k))) ≤ suc k
    go (yes q) g = rw (select-off f k (ap f (sym q) ∙ e)) (omega (arith, select-length f k))
    go (no q) g = omega (arith, select-step f k, digit (f k), g (omega arith) e)

-- A rising list below the bound is the selection of its members.
rising-select : (l : List ℕ) (k : ℕ) → Rising l → ((x : ℕ) → Mem x l → x < k) → l ≡ select (holds l) k
rising-select l k r h = ordered_same ◌<◌ (λ a b p q. omega arith) l (select (holds l) k) r (select-rising (holds l) k)
    (λ x m. mem-select (holds l) k x (h x m) ((holds-mem l x).1 m)) (λ x m. (holds-mem l x).0 (select-mem (holds l) k x m).1)

module _ (n : ℕ) (f : ℕ → Bool) (bs : List ℕ) (r : Reduced bs) (s : (x : ℕ) → Span bs x ↔ In n (closed n f) x) where
  two-points : 0 < length (equations n bs) → 1 < 2 ^ length (equations n bs)
  two-points p = let h : 2 ^ 1 ≤ 2 ^ length (equations n bs) = pow_mono p in omega arith

  -- With one variable or more the restriction is not constant: it would be closed under 1.
  pub restriction-varies : 0 < length (equations n bs) → (t : Bool) → ((y : ℕ) → y < 2 ^ length (equations n bs) → holds (restriction n bs f) y ≡ t) → ⊥
  restriction-varies p t h =
      let z : ◌≡◌ {A = ℕ} 1 0 = restriction-closed n f bs r s 1 (two-points p) (closed_of (length (equations n bs)) (holds (restriction n bs f)) 1
      (λ w l. h (w ⊕ 1) (xor_lt (length (equations n bs)) w 1 l (two-points p)) ∙ sym (h w l))) in
      omega arith

  pub restriction-fewer : 0 < length (equations n bs) → suc (length (restriction n bs f)) ≤ 2 ^ length (equations n bs)
  restriction-fewer p = go (all (holds (restriction n bs f)) (2 ^ length (equations n bs))) refl
    where
      m : ℕ
      m = length (equations n bs)

      ys : List ℕ
      ys = restriction n bs f

      go : (t : Bool) → all (holds ys) (2 ^ m) ≡ t → suc (length ys) ≤ 2 ^ m
      go true e = absurd (restriction-varies p true (all-at (holds ys) (2 ^ m) e))
      go false e =
          let k = all-not (holds ys) (2 ^ m) e in
          let q : length ys ≡ length (select (holds ys) (2 ^ m)) = ap length (rising-select ys (2 ^ m) (restriction-rising n bs f) (restriction-below n bs f)) in
          omega (arith, q, select-fewer (holds ys) (2 ^ m) k.0 k.1 k.2)
