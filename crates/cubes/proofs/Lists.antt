-- Laws of lists: members and order of `keep`, `flat_map` and `take`, and that two ordered lists with the same members are equal.
-- Read next: Cubes.
use mathlib.Core.Path.{◌≡◌, refl, sym, ap, ap₂, ◌∙◌, subst}
use mathlib.Core.Bool.{Bool, true, false, cond, ◌&&◌}
use mathlib.Core.Logic.{◌⊎◌, inl, inr}
use mathlib.Core.List.{List, [], ◌∷◌, ◌++◌, map, flat_map}
use Prim.Native.Nat.{ℕ, zero, suc}
use lib.ListN.{take}
use Rattle.gf2.specs.Finite.{Mem, Ordered}
use Rattle.gf2.proofs.Logic.{cond_cases}
use Rattle.gf2.proofs.Finite.{append-mem, ordered-append}
use Rattle.cubes.specs.Lists.{keep}

-- ---- members

pub mem-append : {A : Type 0} (l m : List A) (a : A) → Mem a l ⊎ Mem a m → Mem a (l ++ m)
mem-append [] m a (inl h) = absurd h
mem-append [] m a (inr h) = h
mem-append (b ∷ l) m a (inl (inl e)) = inl e
mem-append (b ∷ l) m a (inl (inr h)) = inr (mem-append l m a (inl h))
mem-append (b ∷ l) m a (inr h) = inr (mem-append l m a (inr h))

pub flat_map-mem : {A B : Type 0} (g : A → List B) (l : List A) (y : B) → Mem y (flat_map g l) → (a : A) × Mem a l × Mem y (g a)
unfolding flat_map
flat_map-mem g [] y h = absurd h
flat_map-mem {A} g (a ∷ l) y h = go (append-mem (g a) (flat_map g l) y h) (flat_map-mem g l y)
  where
    go : Mem y (g a) ⊎ Mem y (flat_map g l) → (Mem y (flat_map g l) → (b : A) × Mem b l × Mem y (g b)) → (b : A) × Mem b (a ∷ l) × Mem y (g b)
    go (inl k) f = (a, inl refl, k)
    go (inr k) f = let r = f k in (r.0, inr r.1, r.2)

pub mem-flat_map : {A B : Type 0} (g : A → List B) (l : List A) (a : A) (y : B) → Mem a l → Mem y (g a) → Mem y (flat_map g l)
unfolding flat_map
mem-flat_map {A = A} {B = B} g [] a y m h = elim m [ ]
mem-flat_map g (b ∷ l) a y (inl e) h = mem-append (g b) (flat_map g l) y (inl (subst (λ z. Mem y (g z)) e h))
mem-flat_map g (b ∷ l) a y (inr k) h = mem-append (g b) (flat_map g l) y (inr (mem-flat_map g l a y k h))

pub keep-mem : {A : Type 0} (f : A → Bool) (l : List A) (a : A) → Mem a (keep f l) → Mem a l × (f a ≡ true)
unfolding keep
keep-mem f [] a h = absurd h
keep-mem f (b ∷ l) a h = cond_cases (λ m. Mem a m → Mem a (b ∷ l) × (f a ≡ true)) (f b) (b ∷ keep f l) (keep f l)
    (λ e k. elim k [ inl q ↦ (inl q, rw q e) | inr k' ↦ let r = keep-mem f l a k' in (inr r.0, r.1) ]) (λ e k. let r = keep-mem f l a k in (inr r.0, r.1)) h

pub mem-keep : {A : Type 0} (f : A → Bool) (l : List A) (a : A) → Mem a l → f a ≡ true → Mem a (keep f l)
unfolding keep
mem-keep {A = A} f [] a h e = elim h [ ]
mem-keep f (b ∷ l) a (inl q) e = rw (subst (λ z. f z ≡ true) q e) (inl q)
mem-keep f (b ∷ l) a (inr h) e = cond_cases (Mem a) (f b) (b ∷ keep f l) (keep f l) (λ c. inr (mem-keep f l a h e)) (λ c. mem-keep f l a h e)

pub take-mem : {A : Type 0} (k : ℕ) (l : List A) (a : A) → Mem a (take k l) → Mem a l
take-mem zero l a m = absurd m
take-mem (suc k) [] a m = absurd m
take-mem (suc k) (b ∷ l) a (inl e) = inl e
take-mem (suc k) (b ∷ l) a (inr m) = inr (take-mem k l a m)

-- ---- joined lists

pub keep_append : {A : Type 0} (f : A → Bool) (l m : List A) → keep f (l ++ m) ≡ keep f l ++ keep f m
unfolding keep
keep_append f [] m = refl
keep_append f (a ∷ l) m = go (f a) (keep_append f l m)
  where
    go : (t : Bool) → keep f (l ++ m) ≡ keep f l ++ keep f m → cond t (a ∷ keep f (l ++ m)) (keep f (l ++ m)) ≡ cond t (a ∷ keep f l) (keep f l) ++ keep f m
    go true e = ap (λ x. a ∷ x) e
    go false e = e

-- ---- tests that agree, two tests, and a test after a map

pub keep-ext : {A : Type 0} (f g : A → Bool) (l : List A) → ((a : A) → Mem a l → f a ≡ g a) → keep f l ≡ keep g l
unfolding keep
keep-ext f g [] h = refl
keep-ext f g (a ∷ l) h = rw (h a (inl refl), keep-ext f g l (λ b m. h b (inr m)))

pub keep-map : {A B : Type 0} (f : A → B) (g : B → Bool) (l : List A) → keep g (map f l) ≡ map f (keep (λ a. g (f a)) l)
unfolding keep
keep-map f g [] = refl
keep-map f g (a ∷ l) = rw (keep-map f g l) (go (g (f a)))
  where
    go : (t : Bool) → cond t (f a ∷ map f (keep (λ b. g (f b)) l)) (map f (keep (λ b. g (f b)) l)) ≡ map f (cond t (a ∷ keep (λ b. g (f b)) l) (keep (λ b. g (f b)) l))
    go true = refl
    go false = refl

pub keep-keep : {A : Type 0} (f g : A → Bool) (l : List A) → keep g (keep f l) ≡ keep (λ a. f a && g a) l
unfolding keep
keep-keep f g [] = refl
keep-keep f g (a ∷ l) = go (f a) (keep-keep f g l)
  where
    go : (t : Bool) → keep g (keep f l) ≡ keep (λ b. f b && g b) l → keep g (cond t (a ∷ keep f l) (keep f l)) ≡ cond (t && g a) (a ∷ keep (λ b. f b && g b) l) (keep (λ b. f b && g b) l)
    go true e = rw e
    go false e = e

-- ---- ordered lists

pub ordered-keep : {A : Type 0} (R : A → A → Type 0) (f : A → Bool) (l : List A) → Ordered R l → Ordered R (keep f l)
unfolding keep
ordered-keep R f [] p = tt
ordered-keep R f (a ∷ l) p = cond_cases (Ordered R) (f a) (a ∷ keep f l) (keep f l)
    (λ e. (λ b k. p.0 b (keep-mem f l b k).0, ordered-keep R f l p.1)) (λ e. ordered-keep R f l p.1)

pub ordered-take : {A : Type 0} (R : A → A → Type 0) (k : ℕ) (l : List A) → Ordered R l → Ordered R (take k l)
ordered-take R zero l p = tt
ordered-take R (suc k) [] p = tt
ordered-take R (suc k) (a ∷ l) p = (λ b m. p.0 b (take-mem k l b m), ordered-take R k l p.1)

-- Lists laid end to end.
pub ordered-flat_map : {A B : Type 0} (R : A → A → Type 0) (S : B → B → Type 0) (g : A → List B) → ((a : A) → Ordered S (g a))
    → ((a b : A) → R a b → (x y : B) → Mem x (g a) → Mem y (g b) → S x y) → (l : List A) → Ordered R l → Ordered S (flat_map g l)
unfolding flat_map
ordered-flat_map R S g own h [] p = tt
ordered-flat_map {A} {B} R S g own h (a ∷ l) p = ordered-append S (g a) (flat_map g l) (own a) (ordered-flat_map R S g own h l p.1) (λ x y k m. go x y k (flat_map-mem g l y m))
  where
    go : (x y : B) → Mem x (g a) → (b : A) × Mem b l × Mem y (g b) → S x y
    go x y k u = h a u.0 (p.0 u.0 u.1) x y k u.2

-- Another relation that the members have where they have the first.
pub ordered-with : {A : Type 0} (R S : A → A → Type 0) (l : List A) → ((a b : A) → Mem a l → Mem b l → R a b → S a b) → Ordered R l → Ordered S l
ordered-with R S [] h p = tt
ordered-with R S (a ∷ l) h p = (λ b m. h a b (inl refl) (inr m) (p.0 b m), ordered-with R S l (λ c b x y. h c b (inr x) (inr y)) p.1)

-- Two ordered lists with the same members are equal, where no two elements stand before each other.
pub ordered_same : {A : Type 0} (R : A → A → Type 0) → ((a b : A) → R a b → R b a → ⊥) → (l m : List A) → Ordered R l → Ordered R m
    → ((a : A) → Mem a l → Mem a m) → ((a : A) → Mem a m → Mem a l) → l ≡ m
ordered_same R x [] [] p q f g = refl
ordered_same R x [] (b ∷ m) p q f g = absurd (g b (inl refl))
ordered_same R x (a ∷ l) [] p q f g = absurd (f a (inl refl))
ordered_same {A} R x (a ∷ l) (b ∷ m) p q f g =
    let e = heads (f a (inl refl)) (g b (inl refl)) in
    ap₂ ◌∷◌ e (ordered_same R x l m p.1 q.1
    (λ c k. tail c a b l m e (p.0 c k) (f c (inr k))) (λ c k. tail c b a m l (sym e) (q.0 c k) (g c (inr k))))
  where
    heads : (a ≡ b) ⊎ Mem a m → (b ≡ a) ⊎ Mem b l → a ≡ b
    heads (inl e) k = e
    heads (inr h) (inl e) = sym e
    heads (inr h) (inr k) = absurd (x a b (p.0 b k) (q.0 a h))

    tail : (c a b : A) (l m : List A) → a ≡ b → R a c → (c ≡ b) ⊎ Mem c m → Mem c m
    tail c a b l m e h (inl u) = let w : R c c = subst (λ z. R z c) (e ∙ sym u) h in absurd (x c c w w)
    tail c a b l m e h (inr u) = u
