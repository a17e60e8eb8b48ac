-- Laws of specs.Finite: tests over all numbers below a bound, the search for the least, members of a list and of a selection, lists joined. Read next: Xor.
use mathlib.Core.Path.{◌≡◌, refl, sym, ap, ap₂, ◌∙◌, subst}
use mathlib.Core.Bool.{Bool, true, false, not, cond, ◌&&◌, ◌||◌, and_assoc, or_assoc}
use mathlib.Core.Logic.{◌⊎◌, inl, inr, ◌↔◌}
use mathlib.Core.List.{List, [], ◌∷◌, ◌++◌, map, flat_map, map-append, append-nil, append_assoc}
use Prim.Native.Nat.{ℕ, zero, suc, ◌+◌, ◌≤◌, ◌<◌}
use native.Mathlib.Nat.{le_refl, lt_of_not-le, eq-or-lt_of_le, le_of_suc-le-suc, suc_inj, not-suc-le-zero, lt-suc_self}
use native.Mathlib.Decide.{dec_le, ℕ_discrete}
use native.Mathlib.Numerals.{add-one}
use native.Mathlib.Omega.{arith}
use borrow.Author.Tests.{not-true, not-false, eqb-true, eq-eqb, le-leb, lt-leb}
use lib.Dec.{eqb, leb}
use lib.ListN.{length, get_or, drop, take, length-append}
use Rattle.gf2.specs.Finite.{Mem, holds, Ordered, Rising, every, all, select}
use Rattle.gf2.proofs.Logic.{clash, same, and_l, and_r, and_i, or_l, or_r, or_cases, cond_cases}
use lib.Seq.{take-suc, drop-cons}

-- ---- all numbers below a bound
pub all-at : (f : ℕ → Bool) (n : ℕ) → all f n ≡ true → (i : ℕ) → i < n → f i ≡ true
unfolding all
all-at f zero e i h = absurd (not-suc-le-zero h)
all-at f (suc n) e i h = elim (eq-or-lt_of_le h) [
  | inl q ↦ rw (suc_inj q) (and_l (f n) (all f n) e)
  | inr l ↦ all-at f n (and_r (f n) (all f n) e) i (le_of_suc-le-suc l)
]

pub all_of : (f : ℕ → Bool) (n : ℕ) → ((i : ℕ) → i < n → f i ≡ true) → all f n ≡ true
unfolding all
all_of f zero h = refl
all_of f (suc n) h = and_i (f n) (all f n) (h n (lt-suc_self n)) (all_of f n (λ i l. h i (omega arith)))

pub all-not : (f : ℕ → Bool) (n : ℕ) → all f n ≡ false → (i : ℕ) × (i < n) × (f i ≡ false)
unfolding all
all-not f zero e = clash refl e
all-not f (suc n) e = go (f n) refl (all f n) refl (all-not f n)
  where
    go : (a : Bool) → f n ≡ a → (b : Bool) → all f n ≡ b → (all f n ≡ false → (i : ℕ) × (i < n) × (f i ≡ false)) → (i : ℕ) × (i < suc n) × (f i ≡ false)
    go false p b q ih = (n, lt-suc_self n, p)
    go true p false q ih = let k = ih q in (k.0, omega arith, k.2)
    go true p true q ih = clash (and_i (f n) (all f n) p q) e

-- Induction from all smaller numbers.
pub below-ind : (P : ℕ → Type 0) → ((n : ℕ) → ((m : ℕ) → m < n → P m) → P n) → (n : ℕ) → P n
below-ind P step n = go (suc n) n (lt-suc_self n)
  where
    go : (k m : ℕ) → m < k → P m
    go zero m h = absurd (not-suc-le-zero h)
    go (suc k) m h = step m (λ j l. go k j (omega arith))

-- The least number that passes a test which some number passes.
pub least : (f : ℕ → Bool) (n : ℕ) → f n ≡ true → (m : ℕ) × (m ≤ n) × (f m ≡ true) × ((i : ℕ) → f i ≡ true → m ≤ i)
least f = below-ind (λ (n : ℕ). f n ≡ true → (m : ℕ) × (m ≤ n) × (f m ≡ true) × ((i : ℕ) → f i ≡ true → m ≤ i)) (λ n ih e. go n ih e (all (λ i. not (f i)) n) refl)
  where
    go : (n : ℕ) → ((m : ℕ) → m < n → f m ≡ true → (k : ℕ) × (k ≤ m) × (f k ≡ true) × ((i : ℕ) → f i ≡ true → k ≤ i)) → f n ≡ true → (t : Bool) → all (λ i. not (f i)) n ≡ t
        → (m : ℕ) × (m ≤ n) × (f m ≡ true) × ((i : ℕ) → f i ≡ true → m ≤ i)
    go n ih e true q = (n, le_refl n, e, λ i p. elim (dec_le n i) [ yes l ↦ l | no l ↦ clash p (not-true (f i) (all-at (λ j. not (f j)) n q i (lt_of_not-le l))) ])
    go n ih e false q =
        let k = all-not (λ i. not (f i)) n q in
        let m = ih k.0 k.1 (not-false (f k.0) k.2) in
        (m.0, omega (arith, k.1, m.1), m.2, m.3)

-- ---- every element of a list

pub every-is : {A : Type 0} (t : A → Bool) (l : List A) → (every t l ≡ true) ↔ ((x : A) → Mem x l → t x ≡ true)
every-is t [] = (λ e x m. absurd m, λ h. refl)
every-is t (y ∷ l) = (
  λ e x m. elim m [ inl q ↦ rw q (and_l (t y) (every t l) e) | inr i ↦ (every-is t l).0 (and_r (t y) (every t l) e) x i ],
  λ h. and_i (t y) (every t l) (h y (inl refl)) ((every-is t l).1 (λ x m. h x (inr m))),
)

pub every_append : {A : Type 0} (t : A → Bool) (l m : List A) → every t (l ++ m) ≡ every t l && every t m
every_append t [] m = refl
every_append t (x ∷ l) m = ap (λ b. t x && b) (every_append t l m) ∙ sym (and_assoc (t x) (every t l) (every t m))

-- ---- members of a list
pub cons-all : {A : Type 0} (P : A → Type 0) (a : A) (l : List A) → P a → ((b : A) → Mem b l → P b) → (b : A) → Mem b (a ∷ l) → P b
cons-all P a l p h b (inl e) = rw e p
cons-all P a l p h b (inr m) = h b m

pub drop-mem : {A : Type 0} (i : ℕ) (l : List A) (x : A) → Mem x (drop i l) → Mem x l
drop-mem zero l x m = m
drop-mem (suc i) [] x m = absurd m
drop-mem (suc i) (a ∷ l) x m = inr (drop-mem i l x m)

pub mem-snoc : {A : Type 0} (d : A) (bs : List A) (v : A) → Mem d (bs ++ (v ∷ [])) → Mem d bs ⊎ (d ≡ v)
mem-snoc d [] v (inl e) = inr e
mem-snoc d [] v (inr m) = absurd m
mem-snoc d (b ∷ bs) v (inl e) = inl (inl e)
mem-snoc d (b ∷ bs) v (inr m) = elim (mem-snoc d bs v m) [ inl k ↦ inl (inr k) | inr e ↦ inr e ]

pub snoc-mem : {A : Type 0} (d : A) (bs : List A) (v : A) → Mem d bs ⊎ (d ≡ v) → Mem d (bs ++ (v ∷ []))
snoc-mem d [] v (inl m) = absurd m
snoc-mem d [] v (inr e) = inl e
snoc-mem d (b ∷ bs) v (inl (inl e)) = inl e
snoc-mem d (b ∷ bs) v (inl (inr m)) = inr (snoc-mem d bs v (inl m))
snoc-mem d (b ∷ bs) v (inr e) = inr (snoc-mem d bs v (inr e))

pub map-mem : {A B : Type 0} (f : A → B) (bs : List A) (y : B) → Mem y (map f bs) → (x : A) × Mem x bs × (y ≡ f x)
map-mem {A = A} {B = B} f [] y h = elim h [ ]
map-mem f (b ∷ bs) y (inl e) = (b, inl refl, e)
map-mem f (b ∷ bs) y (inr m) = let h = map-mem f bs y m in (h.0, inr h.1, h.2)

pub mem-map : {A B : Type 0} (f : A → B) (bs : List A) (x : A) → Mem x bs → Mem (f x) (map f bs)
mem-map {A = A} {B = B} f [] x h = elim h [ ]
mem-map f (b ∷ bs) x (inl e) = inl (ap f e)
mem-map f (b ∷ bs) x (inr m) = inr (mem-map f bs x m)

-- Functions that agree on the members of a list give the same list.
pub map-ext : {A B : Type 0} (f g : A → B) (l : List A) → ((x : A) → Mem x l → f x ≡ g x) → map f l ≡ map g l
map-ext f g [] h = refl
map-ext f g (x ∷ l) h = ap₂ ◌∷◌ (h x (inl refl)) (map-ext f g l (λ y m. h y (inr m)))

pub get_d-mem : {A : Type 0} (l : List A) (i : ℕ) (d : A) → i < length l → Mem (get_or l i d) l
get_d-mem [] i d h = absurd (omega arith)
get_d-mem (a ∷ l) zero d h = inl refl
get_d-mem (a ∷ l) (suc i) d h = inr (get_d-mem l i d (le_of_suc-le-suc h))

-- ---- members of a selection
pub select-mem : (f : ℕ → Bool) (k d : ℕ) → Mem d (select f k) → (d < k) × (f d ≡ true)
unfolding select
select-mem f zero d m = absurd m
select-mem f (suc k) d m = cond_cases (λ l. Mem d l → (d < suc k) × (f d ≡ true)) (f k) (select f k ++ (k ∷ [])) (select f k)
    (λ e n. go e (mem-snoc d (select f k) k n) (select-mem f k d)) (λ e n. let h = select-mem f k d n in (omega arith, h.1)) m
  where
    go : f k ≡ true → Mem d (select f k) ⊎ (d ≡ k) → (Mem d (select f k) → (d < k) × (f d ≡ true)) → (d < suc k) × (f d ≡ true)
    go e (inl n) g = let h = g n in (omega arith, h.1)
    go e (inr q) g = rw q (lt-suc_self k, e)

pub mem-select : (f : ℕ → Bool) (k d : ℕ) → d < k → f d ≡ true → Mem d (select f k)
unfolding select
mem-select f zero d h e = absurd (omega arith)
mem-select f (suc k) d h e = go (ℕ_discrete d k) (mem-select f k d)
  where
    go : Dec (d ≡ k) → (d < k → f d ≡ true → Mem d (select f k)) → Mem d (cond (f k) (select f k ++ (k ∷ [])) (select f k))
    go (yes q) g = rw (subst (λ (z : ℕ). f z ≡ true) q e) (snoc-mem d (select f k) k (inr q))
    go (no n) g = cond_cases (Mem d) (f k) (select f k ++ (k ∷ [])) (select f k) (λ c. snoc-mem d (select f k) k (inl (g (omega arith) e))) (λ c. g (omega arith) e)

-- Tests that agree below the bound select the same numbers.
pub select-ext : (f g : ℕ → Bool) (k : ℕ) → ((x : ℕ) → x < k → f x ≡ g x) → select f k ≡ select g k
unfolding select
select-ext f g zero h = refl
select-ext f g (suc k) h = rw (h k (lt-suc_self k), select-ext f g k (λ x l. h x (omega arith)))

-- The test of membership says what membership does.
pub holds-mem : (l : List ℕ) (x : ℕ) → (holds l x ≡ true) ↔ Mem x l
unfolding holds
holds-mem [] x = (λ e. clash e refl, λ m. absurd m)
holds-mem (y ∷ ys) x = (
  λ e. elim (or_cases (eqb y x) (holds ys x) e) [ inl h ↦ inl (sym (eqb-true y x h)) | inr h ↦ inr ((holds-mem ys x).0 h) ],
  λ m. elim m [ inl q ↦ or_l (eqb y x) (holds ys x) (eq-eqb y x (sym q)) | inr k ↦ or_r (eqb y x) (holds ys x) ((holds-mem ys x).1 k) ],
)

-- The element at place i, and those from the next place on, after what a test says already.
pub holds-next : (t : Bool) (l : List ℕ) (i x : ℕ) → i < length l → (t || eqb (get_or l i 0) x) || holds (drop (i + 1) l) x ≡ t || holds (drop i l) x
unfolding holds
holds-next t l i x h = rw (add-one, drop-cons l i 0) (or_assoc t (eqb (get_or l i 0) x) (holds (drop (suc i) l) x))

-- The numbers below k that pass a test, as a test of membership.
pub select-holds : (f : ℕ → Bool) (k x : ℕ) → x < k → holds (select f k) x ≡ f x
select-holds f k x h =
    same (holds (select f k) x) (f x) (λ e. (select-mem f k x ((holds-mem (select f k) x).0 e)).1) (λ e. (holds-mem (select f k) x).1 (mem-select f k x h e))

-- ---- lists joined

pub flat_map-append : {A B : Type 0} (g : A → List B) (l m : List A) → flat_map g (l ++ m) ≡ flat_map g l ++ flat_map g m
unfolding flat_map
flat_map-append g [] m = refl
flat_map-append g (a ∷ l) m = ap (λ x. g a ++ x) (flat_map-append g l m) ∙ sym (append_assoc (g a) (flat_map g l) (flat_map g m))

pub append-mem : {A : Type 0} (l m : List A) (x : A) → Mem x (l ++ m) → Mem x l ⊎ Mem x m
append-mem [] m x i = inr i
append-mem (a ∷ l) m x (inl e) = inl (inl e)
append-mem (a ∷ l) m x (inr i) = elim (append-mem l m x i) [ inl k ↦ inl (inr k) | inr k ↦ inr k ]

-- ---- ordered lists

pub ordered-append : {A : Type 0} (R : A → A → Type 0) (l m : List A) → Ordered R l → Ordered R m → ((a b : A) → Mem a l → Mem b m → R a b) → Ordered R (l ++ m)
ordered-append R [] m p q h = q
ordered-append R (a ∷ l) m p q h =
    (λ b k. elim (append-mem l m b k) [ inl x ↦ p.0 b x | inr x ↦ h a b (inl refl) x ], ordered-append R l m p.1 q (λ c b x y. h c b (inr x) y))

-- A map that carries one relation to another, where it does so on the members of the list.
pub ordered-map : {A B : Type 0} (R : A → A → Type 0) (S : B → B → Type 0) (f : A → B) (l : List A)
    → ((a b : A) → Mem a l → Mem b l → R a b → S (f a) (f b)) → Ordered R l → Ordered S (map f l)
ordered-map R S f [] h p = tt
ordered-map R S f (a ∷ l) h p = (
  λ y k. let u = map-mem f l y k in subst (S (f a)) (sym u.2) (h a u.0 (inl refl) (inr u.1) (p.0 u.0 u.1)),
  ordered-map R S f l (λ b c x y. h b c (inr x) (inr y)) p.1,
)

pub select-rising : (f : ℕ → Bool) (k : ℕ) → Rising (select f k)
unfolding select
select-rising f zero = tt
select-rising f (suc k) = cond_cases Rising (f k) (select f k ++ (k ∷ [])) (select f k)
    (λ e. ordered-append ◌<◌ (select f k) (k ∷ []) (select-rising f k) (λ b m. absurd m, tt)
    (λ a b x y. elim y [ inl q ↦ rw q (select-mem f k a x).0 | inr z ↦ absurd z ])) (λ e. select-rising f k)

-- What is below an element of a rising list stands before it.
pub rising-before : (l : List ℕ) (i : ℕ) → Rising l → (x : ℕ) → Mem x l → x < get_or l i 0 → Mem x (take i l)
rising-before [] i r x m h = elim m [ ]
rising-before (a ∷ l) zero r x (inl e) h = absurd (omega arith)
rising-before (a ∷ l) zero r x (inr m) h = absurd (omega (arith, r.0 x m))
rising-before (a ∷ l) (suc i) r x (inl e) h = inl e
rising-before (a ∷ l) (suc i) r x (inr m) h = inr (rising-before l i r.1 x m h)

-- ---- one element more at the end of a list

pub map_snoc : {A B : Type 0} (f : A → B) (l : List A) (a : A) → map f (l ++ (a ∷ [])) ≡ map f l ++ (f a ∷ [])
map_snoc f l a = map-append f l (a ∷ [])

pub map-take : {A B : Type 0} (f : A → B) (l : List A) (j : ℕ) (d : A) → j < length l → map f (take (suc j) l) ≡ map f (take j l) ++ (f (get_or l j d) ∷ [])
map-take f l j d h = ap (map f) (take-suc l j d h) ∙ map_snoc f (take j l) (get_or l j d)

-- ---- a selection, one number more, and how long it is

pub select-on : (f : ℕ → Bool) (k : ℕ) → f k ≡ true → select f (suc k) ≡ select f k ++ (k ∷ [])
unfolding select
select-on f k e = rw e

pub select-off : (f : ℕ → Bool) (k : ℕ) → f k ≡ false → select f (suc k) ≡ select f k
unfolding select
select-off f k e = rw e

pub select-none : (f : ℕ → Bool) (k : ℕ) → ((x : ℕ) → x < k → f x ≡ false) → select f k ≡ []
unfolding select
select-none f zero h = refl
select-none f (suc k) h = rw (h k (lt-suc_self k)) (select-none f k (λ x l. h x (omega arith)))

-- Those below a smaller bound, and those from it on.
pub select-split : (f : ℕ → Bool) (j k : ℕ) → j ≤ k → select f k ≡ select f j ++ select (λ x. leb j x && f x) k
unfolding select
select-split f j zero h = let e : j ≡ 0 = omega arith in rw e
select-split f j (suc k) h = go (ℕ_discrete j (suc k)) (select-split f j k)
  where
    from : ℕ → Bool
    from x = leb j x && f x

    more : (b : Bool) → select f k ≡ select f j ++ select from k → cond b (select f k ++ (k ∷ [])) (select f k) ≡ select f j ++ cond b (select from k ++ (k ∷ [])) (select from k)
    more true i = ap (λ l. l ++ (k ∷ [])) i ∙ append_assoc (select f j) (select from k) (k ∷ [])
    more false i = i

    go : Dec (j ≡ suc k) → (j ≤ k → select f k ≡ select f j ++ select from k) → select f (suc k) ≡ select f j ++ select from (suc k)
    go (yes e) i =
        ap (select f) (sym e) ∙ sym (append-nil (select f j))
        ∙ ap (λ l. select f j ++ l) (sym (select-none from (suc k) (λ x q. rw (lt-leb j x (omega arith)))))
    go (no n) i = rw (le-leb j k (omega (arith, n))) (more (f k) (i (omega (arith, n))))

-- Where none passes from the smaller bound on, those below it are all.
pub select-skip : (f : ℕ → Bool) (j k : ℕ) → j ≤ k → ((x : ℕ) → j ≤ x → x < k → f x ≡ false) → select f k ≡ select f j
select-skip f j k h none =
    select-split f j k h
    ∙ ap (λ l. select f j ++ l) (select-none (λ x. leb j x && f x) k (λ x l. outside x l (dec_le j x)))
    ∙ append-nil (select f j)
  where
    outside : (x : ℕ) → x < k → Dec (j ≤ x) → leb j x && f x ≡ false
    outside x l (yes i) = rw (le-leb j x i) (none x i l)
    outside x l (no i) = rw (lt-leb j x (lt_of_not-le i))

pub select-length : (f : ℕ → Bool) (k : ℕ) → length (select f k) ≤ k
unfolding select
select-length f zero = omega arith
select-length f (suc k) = cond_cases (λ l. length l ≤ suc k) (f k) (select f k ++ (k ∷ [])) (select f k)
    (λ e. omega (arith, length-append (select f k) (k ∷ []), select-length f k)) (λ e. omega (arith, select-length f k))

pub select-grows : (f : ℕ → Bool) (j k : ℕ) → j ≤ k → length (select f j) ≤ length (select f k)
unfolding select
select-grows f j zero h = let e : j ≡ 0 = omega arith in rw e (le_refl 0)
select-grows f j (suc k) h = go (ℕ_discrete j (suc k)) (select-grows f j k)
  where
    go : Dec (j ≡ suc k) → (j ≤ k → length (select f j) ≤ length (select f k)) → length (select f j) ≤ length (select f (suc k))
    go (yes e) g = rw e (le_refl (length (select f (suc k))))
    go (no n) g = cond_cases (λ l. length (select f j) ≤ length l) (f k) (select f k ++ (k ∷ [])) (select f k)
        (λ e. omega (arith, length-append (select f k) (k ∷ []), g (omega arith))) (λ e. g (omega arith))

-- A rising list of numbers below k has at most k of them.
rising-room : (l : List ℕ) (j k : ℕ) → j ≤ k → Rising l → ((x : ℕ) → Mem x l → (j ≤ x) × (x < k)) → j + length l ≤ k
rising-room [] j k m r h = omega arith
rising-room (x ∷ l) j k m r h =
    let b = h x (inl refl) in
    omega (arith, b.0, rising-room l (suc x) k b.1 r.1 (λ y i. (r.0 y i, (h y (inr i)).1)))

pub rising-length : (l : List ℕ) (k : ℕ) → Rising l → ((x : ℕ) → Mem x l → x < k) → length l ≤ k
rising-length l k r h = omega (arith, rising-room l 0 k (omega arith) r (λ x m. (omega arith, h x m)))

-- Tests that agree below the bound hold of all numbers below it alike.
pub all-ext : (f g : ℕ → Bool) (k : ℕ) → ((x : ℕ) → x < k → f x ≡ g x) → all f k ≡ all g k
unfolding all
all-ext f g zero h = refl
all-ext f g (suc k) h = rw (h k (lt-suc_self k), all-ext f g k (λ x l. h x (omega arith)))
