-- Laws of specs.Restriction: the values of the y's are the noncanonical bits of the reduced point, so the function is its restriction put
-- through the reduction equations; the restriction rises, and has n - k variables. Read next: Affine.
use mathlib.Core.Path.{◌≡◌, refl, sym, ap, ap₂, ◌∙◌, subst}
use mathlib.Core.Bool.{Bool, true, false, not, cond, ◌&&◌}
use mathlib.Core.Logic.{◌⊎◌, inl, inr, ◌↔◌}
use mathlib.Core.List.{List, [], ◌∷◌, map}
use Prim.Native.Nat.{ℕ, suc, ◌+◌, ◌-◌, ◌^◌, ◌≤◌, ◌<◌}
use native.Mathlib.Nat.{pos_of_ne-zero}
use native.Mathlib.Omega.{arith}
use lib.ListN.{length, length-map}
use lib.Pow.{pow_mono, pow_pos, pow-lt}
use lib.Bits.{xor_lt}
use borrow.Author.Tests.{not-true}
use Rattle.gf2.specs.Bits.{◌⊕◌, ◌⊻◌, bit, lead, has_lead}
use Rattle.gf2.specs.Finite.{Mem, holds, Ordered, Rising, select, In}
use Rattle.gf2.specs.Parity.{odd}
use Rattle.gf2.specs.Span.{Span}
use Rattle.gf2.specs.Basis.{Reduced, clear, reduce, is_lead, noncanonical_places}
use Rattle.gf2.proofs.Logic.{clash, same, and_l, and_r, and_i, ⊻-comm, and-false, and-true, ⊻-same}
use Rattle.gf2.proofs.Finite.{map-mem, mem-map, select-mem, mem-select, select-ext, select-rising, holds-mem, ordered-map, select-none, rising-length}
use Rattle.gf2.proofs.Xor.{bit-xor, bit-zero, bit-big, bit-pow-self, bit-pow-other, bit-ext-below, xor-cancel-l}
use Rattle.gf2.proofs.Leads.{lead_is, lead_high, lead-fits, differ-pos, differ-lower, differ-upper}
use Rattle.gf2.proofs.Odd.{odd-xor, odd-xor-mask, odd-zero, odd_pow}
use Rattle.gf2.proofs.Reduce.{clear-cases, reduce-span, reduce-le, has_lead-reduce}
use Rattle.gf2.proofs.Variables.{is_lead-at, is_lead-off, places-falling, noncanonical-length, noncanonical-mem, mem-noncanonical}
use Rattle.space.specs.Closure.{closed, linear_space, degree}
use Rattle.space.specs.Restriction.{equation, equations, number, project, values, clean, restriction}
use Rattle.space.proofs.Closure.{closed_at, linear-reduced, linear-span, linear-below}

-- ---- points with all canonical variables 0

pub clean_at : (bs : List ℕ) (w : ℕ) → clean bs w ≡ true → (c : ℕ) → Mem c bs → has_lead c w ≡ false
unfolding clean
clean_at [] w e c h = elim h [ ]
clean_at (b ∷ bs) w e c (inl q) = rw q (not-true (has_lead b w) (and_l (not (has_lead b w)) (clean bs w) e))
clean_at (b ∷ bs) w e c (inr m) = clean_at bs w (and_r (not (has_lead b w)) (clean bs w) e) c m

pub clean_of : (bs : List ℕ) (w : ℕ) → ((c : ℕ) → Mem c bs → has_lead c w ≡ false) → clean bs w ≡ true
unfolding clean
clean_of [] w h = refl
clean_of (b ∷ bs) w h = rw (h b (inl refl)) (clean_of bs w (λ c m. h c (inr m)))

pub reduce-clean : (bs : List ℕ) → Reduced bs → (w : ℕ) → clean bs (reduce bs w) ≡ true
reduce-clean bs r w = clean_of bs (reduce bs w) (has_lead-reduce bs r w)

-- Two of them that agree on the other variables are one.
pub clean-same : (n : ℕ) (bs : List ℕ) (u v : ℕ) → u < 2 ^ n → v < 2 ^ n → clean bs u ≡ true → clean bs v ≡ true
    → ((k : ℕ) → Mem k (noncanonical_places n bs) → bit k u ≡ bit k v) → u ≡ v
clean-same n bs u v hu hv cu cv h = bit-ext-below n u v hu hv (λ k l. go k l (is_lead bs k) refl)
  where
    go : (k : ℕ) → k < n → (t : Bool) → is_lead bs k ≡ t → bit k u ≡ bit k v
    go k l false e = h k (mem-noncanonical n bs k l e)
    go k l true e =
        let c = is_lead-at bs k e in
        rw (← c.2) (clean_at bs u cu c.0 c.1 ∙ sym (clean_at bs v cv c.0 c.1))

-- ---- numbers from bits

pub number_step : {A : Type 0} (f : A → Bool) (a : A) (l : List A) → number (map f (a ∷ l)) ≡ cond (f a) (2 ^ length l) 0 + number (map f l)
unfolding number
number_step f a l = rw (length-map l f)

number_lt : (ts : List Bool) → number ts < 2 ^ length ts
unfolding number
number_lt [] = omega arith
number_lt (true ∷ ts) = let h : 2 ^ length ts + number ts < 2 ^ suc (length ts) = omega (arith, number_lt ts) in h
number_lt (false ∷ ts) = let h : 0 + number ts < 2 ^ suc (length ts) = omega (arith, number_lt ts) in h

pub number-below : {A : Type 0} (f : A → Bool) (l : List A) → number (map f l) < 2 ^ length l
number-below f l = subst (λ (k : ℕ). number (map f l) < 2 ^ k) (length-map l f) (number_lt (map f l))

-- Equal numbers have equal bits.
digit : (s t : Bool) (p a b : ℕ) → a < p → b < p → cond s p 0 + a ≡ cond t p 0 + b → (s ≡ t) × (a ≡ b)
digit true true p a b ha hb e = (refl, omega arith)
digit true false p a b ha hb e = absurd (omega arith)
digit false true p a b ha hb e = absurd (omega arith)
digit false false p a b ha hb e = (refl, omega arith)

pub number_same : (f g : ℕ → Bool) (ks : List ℕ) → number (map f ks) ≡ number (map g ks) → (k : ℕ) → Mem k ks → f k ≡ g k
number_same f g [] e k h = elim h [ ]
number_same f g (j ∷ ks) e k m = go (digit (f j) (g j) (2 ^ length ks) (number (map f ks)) (number (map g ks)) (number-below f ks) (number-below g ks)
    (sym (number_step f j ks) ∙ e ∙ number_step g j ks)) m (number_same f g ks)
  where
    go : (f j ≡ g j) × (number (map f ks) ≡ number (map g ks)) → Mem k (j ∷ ks) → (number (map f ks) ≡ number (map g ks) → (i : ℕ) → Mem i ks → f i ≡ g i) → f k ≡ g k
    go h (inl q) ih = rw q h.0
    go h (inr i) ih = ih h.1 k i

-- Of two numbers, the one with the highest bit in which they differ set is the larger.
number-less : (f g : ℕ → Bool) (ks : List ℕ) → Ordered (λ (a b : ℕ). b < a) ks → (k : ℕ) → Mem k ks → f k ≡ false → g k ≡ true
    → ((j : ℕ) → k < j → f j ≡ g j) → number (map f ks) < number (map g ks)
number-less f g [] d k m a b h = elim m [ ]
number-less f g (i ∷ ks) d k (inl e) a b h =
    rw (number_step f i ks, number_step g i ks, subst (λ (z : ℕ). f z ≡ false) e a, subst (λ (z : ℕ). g z ≡ true) e b) (omega (arith, number-below f ks))
number-less f g (i ∷ ks) d k (inr m) a b h =
    rw (number_step f i ks, number_step g i ks, h i (d.0 k m)) (omega (arith, number-less f g ks d.1 k m a b h))

-- ---- bits kept

pub project-below : (ks : List ℕ) (w : ℕ) → project ks w < 2 ^ length ks
unfolding project
project-below ks w = number-below (λ k. bit k w) ks

pub project-same : (ks : List ℕ) (u v : ℕ) → project ks u ≡ project ks v → (k : ℕ) → Mem k ks → bit k u ≡ bit k v
unfolding project
project-same ks u v e = number_same (λ k. bit k u) (λ k. bit k v) ks e

-- The order of two points is kept where the highest bit in which they differ is.
pub project-less : (ks : List ℕ) → Ordered (λ (a b : ℕ). b < a) ks → (u v : ℕ) → u < v → Mem (lead (u ⊕ v)) ks → project ks u < project ks v
unfolding project
project-less ks d u v h m = number-less (λ k. bit k u) (λ k. bit k v) ks d (lead (u ⊕ v)) m (differ-lower u v h) (differ-upper u v h)
    (λ j p. ⊻-same (bit j u) (bit j v) (sym (bit-xor j u v) ∙ bit-big j (u ⊕ v) (omega (arith, pow_mono p, lead_high (lead (u ⊕ v)) (u ⊕ v) (lead_is (u ⊕ v) (differ-pos u v h))))))

-- ---- the values of the y's are the noncanonical bits of the reduced point

odd-cond : (t : Bool) (k w : ℕ) → odd (cond t (2 ^ k) 0) w ≡ t && bit k w
odd-cond true k w = odd_pow k w
odd-cond false k w = odd-zero w

pub equation-step : (b : ℕ) (bs : List ℕ) (k w : ℕ) → odd (equation (b ∷ bs) k) w ≡ (bit k b && has_lead b w) ⊻ odd (equation bs k) w
unfolding equation
equation-step b bs k w = odd-xor-mask (cond (bit k b) (2 ^ lead b) 0) (equation bs k) w ∙ ap (λ t. t ⊻ odd (equation bs k) w) (odd-cond (bit k b) (lead b) w)

-- At a point with all canonical variables 0 it is the bit.
pub equation-clean : (bs : List ℕ) (k w : ℕ) → ((c : ℕ) → Mem c bs → has_lead c w ≡ false) → odd (equation bs k) w ≡ bit k w
unfolding equation
equation-clean [] k w h = odd_pow k w
equation-clean (c ∷ cs) k w h = equation-step c cs k w ∙ rw (h c (inl refl), and-false (bit k c)) (equation-clean cs k w (λ d m. h d (inr m)))

pub reduce-bits : (bs : List ℕ) → Reduced bs → (k w : ℕ) → bit k (reduce bs w) ≡ odd (equation bs k) w
unfolding reduce equation
reduce-bits [] r k w = sym (odd_pow k w)
reduce-bits (b ∷ bs) r k w = reduce-bits bs r.2 k (clear b w) ∙ elim (clear-cases b w) [
  | inl h ↦
      rw (h.1, equation-step b bs k w, h.0, and-true (bit k b), odd-xor (equation bs k) w b, equation-clean bs k b (λ c m. (r.1 c m).upper))
      (⊻-comm (odd (equation bs k) w) (bit k b))
  | inr h ↦ rw (h.1, equation-step b bs k w, h.0, and-false (bit k b))
]

pub values-project : (n : ℕ) (bs : List ℕ) → Reduced bs → (w : ℕ) → values (equations n bs) w ≡ project (noncanonical_places n bs) (reduce bs w)
unfolding values equations project
values-project n bs r w = ap number (go (noncanonical_places n bs))
  where
    go : (ks : List ℕ) → map (λ m. odd m w) (map (equation bs) ks) ≡ map (λ k. bit k (reduce bs w)) ks
    go [] = refl
    go (k ∷ ks) = ap₂ ◌∷◌ (sym (reduce-bits bs r k w)) (go ks)

-- ---- the equations: n - k of them, each a mask of n variables that holds its own variable

pub equations-length : (n : ℕ) (bs : List ℕ) → Reduced bs → ((c : ℕ) → Mem c bs → c < 2 ^ n) → length (equations n bs) + length bs ≡ n
unfolding equations
equations-length n bs r h = rw (length-map (noncanonical_places n bs) (equation bs)) (noncanonical-length n bs r h)

pub equation-own : (bs : List ℕ) (k : ℕ) → is_lead bs k ≡ false → bit k (equation bs k) ≡ true
unfolding equation
equation-own bs k e = go bs (is_lead-off bs k e)
  where
    cleared : (b : ℕ) (t : Bool) → (lead b ≡ k → ⊥) → bit k (cond t (2 ^ lead b) 0) ≡ false
    cleared b true d = bit-pow-other (lead b) k d
    cleared b false d = bit-zero k

    go : (cs : List ℕ) → ((c : ℕ) → Mem c cs → lead c ≡ k → ⊥) → bit k (equation cs k) ≡ true
    go [] d = bit-pow-self k
    go (c ∷ cs) d = bit-xor k (cond (bit k c) (2 ^ lead c) 0) (equation cs k) ∙ ap₂ ◌⊻◌ (cleared c (bit k c) (d c (inl refl))) (go cs (λ b m. d b (inr m)))

pub equation-below : (n : ℕ) (bs : List ℕ) → Reduced bs → ((c : ℕ) → Mem c bs → c < 2 ^ n) → (k : ℕ) → k < n → equation bs k < 2 ^ n
unfolding equation
equation-below n [] r h k l = pow-lt l
equation-below n (b ∷ bs) r h k l = xor_lt n (cond (bit k b) (2 ^ lead b) 0) (equation bs k) (go (bit k b)) (equation-below n bs r.2 (λ c m. h c (inr m)) k l)
  where
    go : (t : Bool) → cond t (2 ^ lead b) 0 < 2 ^ n
    go true = pow-lt (lead-fits n b r.0 (h b (inl refl)))
    go false = pow_pos n

pub equations-mem : (n : ℕ) (bs : List ℕ) → Reduced bs → ((c : ℕ) → Mem c bs → c < 2 ^ n) → (m : ℕ) → Mem m (equations n bs) → (0 < m) × (m < 2 ^ n)
unfolding equations
equations-mem n bs r h m i =
    let k = map-mem (equation bs) (noncanonical_places n bs) m i in
    let j = noncanonical-mem n bs k.0 k.1 in
    rw k.2 (
      pos_of_ne-zero (λ z. clash (equation-own bs k.0 j.1) (ap (bit k.0) z ∙ bit-zero k.0)),
      equation-below n bs r h k.0 j.0,
    )

-- ---- the function is its restriction put through the equations

-- For any reduced basis of vectors under which the function is closed.
module _ (n : ℕ) (f : ℕ → Bool) (bs : List ℕ) (r : Reduced bs) (s : (x : ℕ) → Span bs x → In n (closed n f) x) where
  pub reduce-value : (w : ℕ) → w < 2 ^ n → f (reduce bs w) ≡ f w
  reduce-value w h = sym (ap f (xor-cancel-l w (reduce bs w))) ∙ closed_at n f (w ⊕ reduce bs w) (s (w ⊕ reduce bs w) (reduce-span bs w)).1 w h

  pub restriction-mem : (w : ℕ) → w < 2 ^ n → Mem (values (equations n bs) w) (restriction n bs f) ↔ (f w ≡ true)
  unfolding restriction
  restriction-mem w h = (there, back)
    where
      u : ℕ
      u = reduce bs w

      lt : u < 2 ^ n
      lt = omega (arith, reduce-le bs r w)

      there : Mem (values (equations n bs) w) (restriction n bs f) → f w ≡ true
      there m =
          let k = map-mem (project (noncanonical_places n bs)) (select (λ w. f w && clean bs w) (2 ^ n)) (values (equations n bs) w) m in
          let i = select-mem (λ w. f w && clean bs w) (2 ^ n) k.0 k.1 in
          let e : u ≡ k.0 = clean-same n bs u k.0 lt i.0 (reduce-clean bs r w) (and_r (f k.0) (clean bs k.0) i.1)
          (project-same (noncanonical_places n bs) u k.0 (sym (values-project n bs r w) ∙ k.2)) in
          sym (reduce-value w h) ∙ ap f e ∙ and_l (f k.0) (clean bs k.0) i.1

      back : f w ≡ true → Mem (values (equations n bs) w) (restriction n bs f)
      back e = rw (values-project n bs r w) (mem-map (project (noncanonical_places n bs)) (select (λ w. f w && clean bs w) (2 ^ n)) u
          (mem-select (λ w. f w && clean bs w) (2 ^ n) u lt (and_i (f u) (clean bs u) (reduce-value w h ∙ e) (reduce-clean bs r w))))

  pub restriction-through : (w : ℕ) → w < 2 ^ n → holds (restriction n bs f) (values (equations n bs) w) ≡ f w
  restriction-through w h =
      let a = holds-mem (restriction n bs f) (values (equations n bs) w) in
      let b = restriction-mem w h in
      same (holds (restriction n bs f) (values (equations n bs) w)) (f w) (λ e. b.0 (a.0 e)) (λ e. a.1 (b.1 e))

-- So for its linear space.
pub restriction-at : (n : ℕ) (f : ℕ → Bool) (w : ℕ) → w < 2 ^ n → holds (restriction n (linear_space n f) f) (values (equations n (linear_space n f)) w) ≡ f w
restriction-at n f = restriction-through n f (linear_space n f) (linear-reduced n f) (λ x. (linear-span n f x).0)

-- ---- the points of the restriction rise as they are found

pub project-rises : (n : ℕ) (bs : List ℕ) (u v : ℕ) → v < 2 ^ n → clean bs v ≡ true → u < v → project (noncanonical_places n bs) u < project (noncanonical_places n bs) v
project-rises n bs u v hv cv h = project-less (noncanonical_places n bs) (places-falling (λ k. not (is_lead bs k)) n) u v h
    (mem-noncanonical n bs (lead (u ⊕ v)) (lead-fits n (u ⊕ v) (differ-pos u v h) (xor_lt n u v (omega arith) hv)) (go (is_lead bs (lead (u ⊕ v))) refl))
  where
    go : (t : Bool) → is_lead bs (lead (u ⊕ v)) ≡ t → t ≡ false
    go false e = refl
    go true e = let c = is_lead-at bs (lead (u ⊕ v)) e in clash (differ-upper u v h) (rw (← c.2) (clean_at bs v cv c.0 c.1))

pub restriction-rising : (n : ℕ) (bs : List ℕ) (f : ℕ → Bool) → Rising (restriction n bs f)
unfolding restriction
restriction-rising n bs f = ordered-map ◌<◌ ◌<◌ (project (noncanonical_places n bs)) (select (λ w. f w && clean bs w) (2 ^ n))
    (λ u v mu mv h. let k = select-mem (λ w. f w && clean bs w) (2 ^ n) v mv in project-rises n bs u v k.0 (and_r (f v) (clean bs v) k.1) h)
    (select-rising (λ w. f w && clean bs w) (2 ^ n))

-- ---- and have as many variables as there are equations

pub restriction-below : (n : ℕ) (bs : List ℕ) (f : ℕ → Bool) (y : ℕ) → Mem y (restriction n bs f) → y < 2 ^ length (equations n bs)
unfolding restriction equations
restriction-below n bs f y m =
    let k = map-mem (project (noncanonical_places n bs)) (select (λ w. f w && clean bs w) (2 ^ n)) y m in
    rw (k.2, length-map (noncanonical_places n bs) (equation bs)) (project-below (noncanonical_places n bs) k.0)

pub restriction-length : (n : ℕ) (bs : List ℕ) (f : ℕ → Bool) → length (restriction n bs f) ≤ 2 ^ length (equations n bs)
restriction-length n bs f = rising-length (restriction n bs f) (2 ^ length (equations n bs)) (restriction-rising n bs f) (restriction-below n bs f)

-- With 0 variables the only possible point is 0.
rising-zeros : (l : List ℕ) → Rising l → ((y : ℕ) → Mem y l → y ≡ 0) → (l ≡ []) ⊎ (l ≡ 0 ∷ [])
rising-zeros [] r h = inl refl
rising-zeros (x ∷ []) r h = inr (ap (λ (z : ℕ). z ∷ []) (h x (inl refl)))
rising-zeros (x ∷ y ∷ l) r h = absurd (omega (arith, r.0 y (inl refl), h y (inr (inl refl))))

pub restriction-full : (n : ℕ) (bs : List ℕ) (f : ℕ → Bool) → length (equations n bs) ≡ 0 → (restriction n bs f ≡ []) ⊎ (restriction n bs f ≡ 0 ∷ [])
restriction-full n bs f e = rising-zeros (restriction n bs f) (restriction-rising n bs f)
    (λ y m. let h : y < 2 ^ 0 = subst (λ (k : ℕ). y < 2 ^ k) e (restriction-below n bs f y m) in omega arith)

-- A function with no on point has an empty restriction.
pub restriction-none : (n : ℕ) (bs : List ℕ) (f : ℕ → Bool) → ((w : ℕ) → w < 2 ^ n → f w ≡ false) → restriction n bs f ≡ []
unfolding restriction
restriction-none n bs f h = ap (map (project (noncanonical_places n bs))) (select-none (λ w. f w && clean bs w) (2 ^ n) (λ w l. ap (λ t. t && clean bs w) (h w l)))

-- ---- functions that agree below 2 ^ n have the same restriction

pub restriction-ext : (n : ℕ) (bs : List ℕ) (f g : ℕ → Bool) → ((w : ℕ) → w < 2 ^ n → f w ≡ g w) → restriction n bs f ≡ restriction n bs g
unfolding restriction
restriction-ext n bs f g h = ap (map (project (noncanonical_places n bs)))
    (select-ext (λ w. f w && clean bs w) (λ w. g w && clean bs w) (2 ^ n) (λ w l. ap (λ t. t && clean bs w) (h w l)))

-- ---- of the linear space

pub linear-equations : (n : ℕ) (f : ℕ → Bool) → length (equations n (linear_space n f)) + degree n f ≡ n
unfolding degree
linear-equations n f = equations-length n (linear_space n f) (linear-reduced n f) (linear-below n f)

pub linear-restriction : (n : ℕ) (f : ℕ → Bool) (y : ℕ) → Mem y (restriction n (linear_space n f) f) → y < 2 ^ (n - degree n f)
linear-restriction n f y m =
    let e : length (equations n (linear_space n f)) ≡ n - degree n f = omega (arith, linear-equations n f) in
    subst (λ (k : ℕ). y < 2 ^ k) e (restriction-below n (linear_space n f) f y m)
