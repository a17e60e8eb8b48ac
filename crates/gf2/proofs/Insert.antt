-- Putting vectors into a reduced basis: the result is reduced, spans the old space and the vectors, and does not depend on their order.
-- Read next: ReducedBasis.
use mathlib.Core.Path.{◌≡◌, refl, ap, ◌∙◌, subst}
use mathlib.Core.Bool.{Bool, true, false}
use mathlib.Core.Logic.{◌⊎◌, inl, inr, ◌≢◌, ◌↔◌}
use mathlib.Core.List.{List, [], ◌∷◌, ◌++◌, map}
use Prim.Native.Nat.{ℕ, suc, ◌^◌, ◌≤◌, ◌<◌, min, max}
use native.Mathlib.Nat.{pos_of_ne-zero}
use native.Mathlib.Omega.{arith}
use lib.Arith.{lt_of_le-ne}
use lib.Dec.{ltb, eqb}
use lib.ListN.{length, length-map}
use lib.Bits.{xor_comm}
use borrow.Author.Tests.{ltb-true, ltb-false, eqb-true, eqb-false, lt-ltb, eq-eqb, ne_eqb}
use Rattle.gf2.specs.Bits.{◌⊕◌, lead, has_lead}
use Rattle.gf2.specs.Finite.{Mem, select, In}
use Rattle.gf2.specs.Span.{Span, Space}
use Rattle.gf2.specs.Basis.{LeadsApart, Reduced, clear, reduce, place, join, insert, inserts}
use Rattle.gf2.proofs.Logic.{cond_cases}
use Rattle.gf2.proofs.Finite.{cons-all, map-mem, mem-map, select-mem, mem-select, select-on, select-off}
use Rattle.gf2.proofs.Xor.{xor-cancel, xor-cancel-l}
use Rattle.gf2.proofs.Leads.{Lead, lead_is, lead-pos, lead-xor, lead-eq, lead-below, lead-lt, lead-rise, lead-under, has_lead-ne}
use Rattle.gf2.proofs.Span.{span-mem, span-xor, span-space, span-least, span_below, span-exchange}
use Rattle.gf2.proofs.Reduce.{clear-cases, bit-clear, has_lead-clear, apart, reduced-pos, reduce-span, span-reduce, reduce-zero, reduce-le, has_lead-reduce}
use Rattle.gf2.proofs.Unique.{unique}

-- ---- placing a vector

place-cases : (P : List ℕ → Type 0) (r c : ℕ) (cs : List ℕ) → (r < c → P (r ∷ c ∷ cs)) → (c ≤ r → P (c ∷ place r cs)) → P (place r (c ∷ cs))
unfolding place
place-cases P r c cs f g = cond_cases P (ltb r c) (r ∷ c ∷ cs) (c ∷ place r cs) (λ e. f (ltb-true r c e)) (λ e. g (ltb-false r c e))

pub place-mem : (r : ℕ) (cs : List ℕ) (d : ℕ) → Mem d (place r cs) → (d ≡ r) ⊎ Mem d cs
unfolding place
place-mem r [] d m = m
place-mem r (c ∷ cs) d m = place-cases (λ l. Mem d l → (d ≡ r) ⊎ Mem d (c ∷ cs)) r c cs (λ h n. n) (λ h n. go (place-mem r cs d) n) m
  where
    go : (Mem d (place r cs) → (d ≡ r) ⊎ Mem d cs) → Mem d (c ∷ place r cs) → (d ≡ r) ⊎ Mem d (c ∷ cs)
    go f (inl e) = inr (inl e)
    go f (inr m) = elim (f m) [ inl e ↦ inl e | inr k ↦ inr (inr k) ]

pub mem-place : (r : ℕ) (cs : List ℕ) (d : ℕ) → (d ≡ r) ⊎ Mem d cs → Mem d (place r cs)
unfolding place
mem-place r [] d m = m
mem-place r (c ∷ cs) d m = place-cases (Mem d) r c cs (λ h. m) (λ h. go (mem-place r cs d) m)
  where
    go : ((d ≡ r) ⊎ Mem d cs → Mem d (place r cs)) → (d ≡ r) ⊎ Mem d (c ∷ cs) → Mem d (c ∷ place r cs)
    go f (inl e) = inr (f (inl e))
    go f (inr (inl e)) = inl e
    go f (inr (inr k)) = inr (f (inr k))

pub place-length : (r : ℕ) (cs : List ℕ) → length (place r cs) ≡ suc (length cs)
unfolding place
place-length r [] = refl
place-length r (c ∷ cs) = place-cases (λ l. length l ≡ suc (suc (length cs))) r c cs (λ h. refl) (λ h. ap suc (place-length r cs))

-- A vector at or below all of a list goes to its front.
place-front : (x : ℕ) (xs : List ℕ) → ((c : ℕ) → Mem c xs → x < c) → place x xs ≡ x ∷ xs
unfolding place
place-front x [] h = refl
place-front x (y ∷ ys) h = rw (lt-ltb x y (h y (inl refl)))

-- Placing as a loop does it: the smaller vector stays, the larger is carried on.
pub place-step : (r x : ℕ) (xs : List ℕ) → ((c : ℕ) → Mem c xs → x < c) → place r (x ∷ xs) ≡ min r x ∷ place (max r x) xs
place-step r x xs h = place-cases (λ l. l ≡ min r x ∷ place (max r x) xs) r x xs before after
  where
    before : r < x → r ∷ x ∷ xs ≡ min r x ∷ place (max r x) xs
    before l =
        let a : min r x ≡ r = omega arith in
        let b : max r x ≡ x = omega arith in
        rw (a, b, place-front x xs h)

    after : x ≤ r → x ∷ place r xs ≡ min r x ∷ place (max r x) xs
    after l =
        let a : min r x ≡ x = omega arith in
        let b : max r x ≡ r = omega arith in
        rw (a, b)

-- ---- the result is reduced

-- Clearing a lower lead bit keeps the lead.
clear-lead : (r c : ℕ) → 0 < r → 0 < c → has_lead c r ≡ false → Lead (lead c) (clear r c)
clear-lead r c p q e = elim (clear-cases r c) [
  | inl h ↦ rw h.1 (lead-xor (lead c) r c (lead_is c q) (lead-below r c (lead-under r c p h.0 e)))
  | inr h ↦ rw h.1 (lead_is c q)
]

-- So two vectors stay apart.
clear_apart : (r b c : ℕ) → 0 < r → 0 < b → has_lead b r ≡ false → has_lead c r ≡ false → LeadsApart b c → LeadsApart (clear r b) (clear r c)
clear_apart r b c p q e f h =
    let pc : 0 < c = omega (arith, h.rises) in
    let lb = clear-lead r b p q e in
    let lc = clear-lead r c p pc f in
    let kb : lead (clear r b) ≡ lead b = lead-eq (lead b) (clear r b) lb in
    let kc : lead (clear r c) ≡ lead c = lead-eq (lead c) (clear r c) lc in
    apart (clear r b) (clear r c) (lead-pos (lead b) (clear r b) lb)
    (lead-lt (clear r b) (clear r c) (lead-pos (lead c) (clear r c) lc) (rw (kb, kc) (lead-rise b c q h.rises h.lower)))
    (rw kb (bit-clear (lead b) r c e ∙ h.lower))

-- Cleared of r, the vectors of a reduced basis are one still.
pub clear-reduced : (r : ℕ) → 0 < r → (bs : List ℕ) → ((c : ℕ) → Mem c bs → has_lead c r ≡ false) → Reduced bs → Reduced (map (clear r) bs)
clear-reduced r p [] h s = tt
clear-reduced r p (b ∷ bs) h s = (
  lead-pos (lead b) (clear r b) (clear-lead r b p s.0 (h b (inl refl))),
  λ c m. let k = map-mem (clear r) bs c m in
      rw k.2 (clear_apart r b k.0 p s.0 (h b (inl refl)) (h k.0 (inr k.1)) (s.1 k.0 k.1)),
  clear-reduced r p bs (λ c m. h c (inr m)) s.2,
)

place-reduced : (r : ℕ) → 0 < r → (cs : List ℕ) → ((c : ℕ) → Mem c cs → (has_lead c r ≡ false) × (has_lead r c ≡ false)) → Reduced cs → Reduced (place r cs)
unfolding place
place-reduced r p [] h s = (p, λ c m. absurd m, tt)
place-reduced r p (c ∷ cs) h s = place-cases Reduced r c cs
    (λ l. (p, before l, s)) (λ l. (s.0, λ d m. after l d (place-mem r cs d m), place-reduced r p cs (λ d m. h d (inr m)) s.2))
  where
    before : r < c → (d : ℕ) → Mem d (c ∷ cs) → LeadsApart r d
    before l d (inl e) = rw e (apart r c p l (h c (inl refl)).1)
    before l d (inr m) = apart r d p (omega (arith, (s.1 d m).rises)) (h d (inr m)).1

    after : c ≤ r → (d : ℕ) → (d ≡ r) ⊎ Mem d cs → LeadsApart c d
    after l d (inl e) = rw e (apart c r s.0 (lt_of_le-ne l (has_lead-ne c r s.0 (h c (inl refl)).0)) (h c (inl refl)).0)
    after l d (inr m) = s.1 d m

pub join-reduced : (r : ℕ) → 0 < r → (bs : List ℕ) → ((c : ℕ) → Mem c bs → has_lead c r ≡ false) → Reduced bs → Reduced (join r bs)
unfolding join
join-reduced r p bs h s = place-reduced r p (map (clear r) bs) (λ c m. cleared c (map-mem (clear r) bs c m)) (clear-reduced r p bs h s)
  where
    cleared : (c : ℕ) → (x : ℕ) × Mem x bs × (c ≡ clear r x) → (has_lead c r ≡ false) × (has_lead r c ≡ false)
    cleared c k =
        let e : lead c ≡ lead k.0 = ap lead k.2 ∙ lead-eq (lead k.0) (clear r k.0) (clear-lead r k.0 p (reduced-pos bs s k.0 k.1) (h k.0 k.1)) in
        (rw e (h k.0 k.1), rw k.2 (has_lead-clear r k.0 p))

pub insert-cases : (P : List ℕ → Type 0) (bs : List ℕ) (v : ℕ) → (reduce bs v ≡ 0 → P bs) → (0 < reduce bs v → P (join (reduce bs v) bs)) → P (insert bs v)
unfolding insert
insert-cases P bs v f g = cond_cases P (eqb (reduce bs v) 0) bs (join (reduce bs v) bs)
    (λ e. f (eqb-true (reduce bs v) 0 e)) (λ e. g (pos_of_ne-zero (eqb-false (reduce bs v) 0 e)))

pub insert-reduced : (bs : List ℕ) (v : ℕ) → Reduced bs → Reduced (insert bs v)
insert-reduced bs v s = insert-cases Reduced bs v (λ e. s) (λ p. join-reduced (reduce bs v) p bs (has_lead-reduce bs s v) s)

pub join-length : (r : ℕ) (bs : List ℕ) → length (join r bs) ≡ suc (length bs)
unfolding join
join-length r bs = place-length r (map (clear r) bs) ∙ ap suc (length-map bs (clear r))

-- ---- and its span is that of the basis and the vector

join-mem : (r : ℕ) (bs : List ℕ) (d : ℕ) → Mem d (join r bs) → (d ≡ r) ⊎ ((x : ℕ) × Mem x bs × (d ≡ clear r x))
unfolding join
join-mem r bs d m = elim (place-mem r (map (clear r) bs) d m) [ inl e ↦ inl e | inr k ↦ inr (map-mem (clear r) bs d k) ]

-- A space with r holds b exactly if it holds b with r's lead bit cleared.
clear_in : (P : ℕ → Type 0) → Space P → (r b : ℕ) → P r → P b → P (clear r b)
clear_in P s r b p q = elim (clear-cases r b) [ inl h ↦ rw h.1 (s.sums b r q p) | inr h ↦ rw h.1 q ]

clear-out : (P : ℕ → Type 0) → Space P → (r b : ℕ) → P r → P (clear r b) → P b
clear-out P s r b p q = elim (clear-cases r b) [
  | inl h ↦ subst P (ap (λ (z : ℕ). z ⊕ r) h.1 ∙ xor-cancel b r) (s.sums (clear r b) r q p)
  | inr h ↦ subst P h.1 q
]

join-span : (r : ℕ) (bs : List ℕ) (x : ℕ) → Span (join r bs) x ↔ Span (r ∷ bs) x
unfolding join
join-span r bs x = (
  span-least (Span (r ∷ bs)) (span-space (r ∷ bs)) (join r bs) (λ d m. into d (join-mem r bs d m)) x,
  span-least (Span (join r bs)) (span-space (join r bs)) (r ∷ bs) back x,
)
  where
    into : (d : ℕ) → (d ≡ r) ⊎ ((y : ℕ) × Mem y bs × (d ≡ clear r y)) → Span (r ∷ bs) d
    into d (inl e) = rw e (span-mem (r ∷ bs) r (inl refl))
    into d (inr k) = rw k.2 (clear_in (Span (r ∷ bs)) (span-space (r ∷ bs)) r k.0 (span-mem (r ∷ bs) r (inl refl)) (span-mem (r ∷ bs) k.0 (inr k.1)))

    has : Span (join r bs) r
    has = span-mem (join r bs) r (mem-place r (map (clear r) bs) r (inl refl))

    back : (d : ℕ) → Mem d (r ∷ bs) → Span (join r bs) d
    back d (inl e) = rw e has
    back d (inr m) = clear-out (Span (join r bs)) (span-space (join r bs)) r d has
        (span-mem (join r bs) (clear r d) (mem-place r (map (clear r) bs) (clear r d) (inr (mem-map (clear r) bs d m))))

pub insert-span : (bs : List ℕ) (v x : ℕ) → Span (insert bs v) x ↔ Span (v ∷ bs) x
insert-span bs v x = insert-cases (λ l. Span l x ↔ Span (v ∷ bs) x) bs v kept more
  where
    kept : reduce bs v ≡ 0 → Span bs x ↔ Span (v ∷ bs) x
    kept e = (inl, λ p. elim p [ inl q ↦ q | inr q ↦ subst (Span bs) (xor-cancel x v) (span-xor bs (x ⊕ v) v q (reduce-zero bs v e)) ])

    more : 0 < reduce bs v → Span (join (reduce bs v) bs) x ↔ Span (v ∷ bs) x
    more p =
        let r = reduce bs v in
        let e = join-span r bs x in
        let h = reduce-span bs v in
        (λ q. span-exchange bs r v x (subst (Span bs) (xor_comm v r) h) (e.0 q), λ q. e.1 (span-exchange bs v r x h q))

-- A vector already in the space changes nothing.
pub insert-known : (bs : List ℕ) (v : ℕ) → Reduced bs → Span bs v → insert bs v ≡ bs
unfolding insert
insert-known bs v r p = rw (eq-eqb (reduce bs v) 0 (span-reduce bs r v p))

pub insert-new : (bs : List ℕ) (v : ℕ) → reduce bs v ≢ 0 → insert bs v ≡ join (reduce bs v) bs
unfolding insert
insert-new bs v n = rw (ne_eqb (reduce bs v) 0 n)

pub insert-length : (bs : List ℕ) (v : ℕ) → reduce bs v ≢ 0 → length (insert bs v) ≡ suc (length bs)
insert-length bs v e = ap length (insert-new bs v e) ∙ join-length (reduce bs v) bs

-- Vectors below 2 ^ n stay so.
pub join-below : (n r : ℕ) (bs : List ℕ) → ((c : ℕ) → Mem c bs → c < 2 ^ n) → r < 2 ^ n → (c : ℕ) → Mem c (join r bs) → c < 2 ^ n
join-below n r bs h l c m = span_below n (r ∷ bs) (cons-all (λ d. d < 2 ^ n) r bs l h) c ((join-span r bs c).0 (span-mem (join r bs) c m))

pub insert-below : (n : ℕ) (bs : List ℕ) (v : ℕ) → ((c : ℕ) → Mem c bs → c < 2 ^ n) → v < 2 ^ n → (c : ℕ) → Mem c (insert bs v) → c < 2 ^ n
insert-below n bs v h l c m = span_below n (v ∷ bs) (cons-all (λ d. d < 2 ^ n) v bs l h) c ((insert-span bs v c).0 (span-mem (insert bs v) c m))

-- ---- many vectors, one at a time

pub inserts-snoc : (bs vs : List ℕ) (v : ℕ) → inserts bs (vs ++ (v ∷ [])) ≡ insert (inserts bs vs) v
unfolding inserts
inserts-snoc bs [] v = refl
inserts-snoc bs (w ∷ vs) v = inserts-snoc (insert bs w) vs v

pub inserts-reduced : (bs vs : List ℕ) → Reduced bs → Reduced (inserts bs vs)
unfolding inserts
inserts-reduced bs [] r = r
inserts-reduced bs (v ∷ vs) r = inserts-reduced (insert bs v) vs (insert-reduced bs v r)

-- What they span is the least space with the basis and the vectors.
pub inserts-keep : (bs vs : List ℕ) (x : ℕ) → Span bs x → Span (inserts bs vs) x
unfolding inserts
inserts-keep bs [] x s = s
inserts-keep bs (v ∷ vs) x s = inserts-keep (insert bs v) vs x ((insert-span bs v x).1 (inl s))

pub inserts-mem : (bs vs : List ℕ) (v : ℕ) → Mem v vs → Span (inserts bs vs) v
unfolding inserts
inserts-mem bs [] v h = elim h [ ]
inserts-mem bs (w ∷ vs) v (inl e) = inserts-keep (insert bs w) vs v ((insert-span bs w v).1 (span-mem (w ∷ bs) v (inl e)))
inserts-mem bs (w ∷ vs) v (inr m) = inserts-mem (insert bs w) vs v m

pub inserts-least : (Q : ℕ → Type 0) → Space Q → (bs vs : List ℕ) → ((x : ℕ) → Span bs x → Q x) → ((v : ℕ) → Mem v vs → Q v) → (x : ℕ) → Span (inserts bs vs) x → Q x
unfolding inserts
inserts-least Q s bs [] f g x p = f x p
inserts-least Q s bs (v ∷ vs) f g x p = inserts-least Q s (insert bs v) vs
    (λ y q. span-least Q s (v ∷ bs) (λ b m. elim m [ inl e ↦ g b (inl e) | inr n ↦ f b (span-mem bs b n) ]) y ((insert-span bs v y).0 q))
    (λ w m. g w (inr m)) x p

pub inserts-span : (vs : List ℕ) (x : ℕ) → Span (inserts [] vs) x ↔ Span vs x
inserts-span vs x = (
  inserts-least (Span vs) (span-space vs) [] vs (λ y e. rw e (span-space vs).origin) (span-mem vs) x,
  span-least (Span (inserts [] vs)) (span-space (inserts [] vs)) vs (inserts-mem [] vs) x,
)

-- So insertion gives the reduced basis of the span, whatever the order of the vectors and however often they stand in the list.
pub inserts-basis : (vs bs : List ℕ) → Reduced bs → ((x : ℕ) → Span bs x ↔ Span vs x) → inserts [] vs ≡ bs
inserts-basis vs bs r h = unique (inserts [] vs) bs (inserts-reduced [] vs tt) r
    (λ x p. (h x).1 ((inserts-span vs x).0 p)) (λ x p. (inserts-span vs x).1 ((h x).0 p))

pub inserts-order : (vs ws : List ℕ) → ((v : ℕ) → Mem v vs ↔ Mem v ws) → inserts [] vs ≡ inserts [] ws
inserts-order vs ws h = inserts-basis vs (inserts [] ws) (inserts-reduced [] ws tt) (λ x. (
  λ p. span-least (Span vs) (span-space vs) ws (λ v m. span-mem vs v ((h v).1 m)) x ((inserts-span ws x).0 p),
  λ p. (inserts-span ws x).1 (span-least (Span ws) (span-space ws) vs (λ v m. span-mem ws v ((h v).0 m)) x p),
))

-- ---- the vectors below a bound that pass a test, put in one at a time

pub inserts-on : (f : ℕ → Bool) (k : ℕ) → f k ≡ true → inserts [] (select f (suc k)) ≡ insert (inserts [] (select f k)) k
inserts-on f k e = ap (inserts []) (select-on f k e) ∙ inserts-snoc [] (select f k) k

pub inserts-off : (f : ℕ → Bool) (k : ℕ) → f k ≡ false → inserts [] (select f (suc k)) ≡ inserts [] (select f k)
inserts-off f k e = ap (inserts []) (select-off f k e)

-- A vector already in the space may be skipped, whether it is selected or not.
pub inserts-skip : (f : ℕ → Bool) (k : ℕ) → Span (inserts [] (select f k)) k → inserts [] (select f (suc k)) ≡ inserts [] (select f k)
inserts-skip f k s = go (f k) refl
  where
    go : (t : Bool) → f k ≡ t → inserts [] (select f (suc k)) ≡ inserts [] (select f k)
    go true e = inserts-on f k e ∙ insert-known (inserts [] (select f k)) k (inserts-reduced [] (select f k) tt) s
    go false e = inserts-off f k e

-- So may, of a space, a vector that the basis reduces: it is selected exactly if the smaller vector is to which it reduces.
pub inserts-reducible : (n : ℕ) (f : ℕ → Bool) → Space (In n f) → (k : ℕ) → k < 2 ^ n → reduce (inserts [] (select f k)) k ≢ k
    → inserts [] (select f (suc k)) ≡ inserts [] (select f k)
inserts-reducible n f s k h ne = go (f k) refl
  where
    bs : List ℕ
    bs = inserts [] (select f k)

    -- What reduction took away is selected, since the basis is of selected vectors.
    gone : In n f (k ⊕ reduce bs k)
    gone = inserts-least (In n f) s [] (select f k) (λ x e. rw e s.origin)
        (λ v m. let i = select-mem f k v m in (omega (arith, i.0), i.1)) (k ⊕ reduce bs k) (reduce-span bs k)

    rest : f k ≡ true → Span bs (reduce bs k)
    rest e =
        let i : In n f (reduce bs k) = subst (In n f) (xor-cancel-l k (reduce bs k)) (s.sums k (k ⊕ reduce bs k) (h, e) gone) in
        inserts-mem [] (select f k) (reduce bs k)
        (mem-select f k (reduce bs k) (lt_of_le-ne (reduce-le bs (inserts-reduced [] (select f k) tt) k) ne) i.1)

    go : (t : Bool) → f k ≡ t → inserts [] (select f (suc k)) ≡ inserts [] (select f k)
    go true e = inserts-skip f k (subst (Span bs) (xor-cancel k (reduce bs k)) (span-xor bs (k ⊕ reduce bs k) (reduce bs k) (reduce-span bs k) (rest e)))
    go false e = inserts-off f k e

-- The basis of vectors below 2 ^ n has only such vectors, so at most n of them.
pub inserts-below : (n : ℕ) (vs : List ℕ) → ((v : ℕ) → Mem v vs → v < 2 ^ n) → (c : ℕ) → Mem c (inserts [] vs) → c < 2 ^ n
inserts-below n vs h c m = span_below n vs h c ((inserts-span vs c).0 (span-mem (inserts [] vs) c m))
