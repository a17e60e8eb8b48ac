-- The definitions as a loop meets them: one element, one place or one point more. `take`, `suc` and `get_or` stand as in the kit's lib.Seq.
-- The steps of a selection and of a basis that grows by insertion are in gf2. Read next: Examples.
use mathlib.Core.Path.{◌≡◌, refl, sym, ap, ◌∙◌, subst}
use mathlib.Core.Bool.{Bool, true, false, cond, ◌&&◌}
use mathlib.Core.Logic.{◌≢◌}
use mathlib.Core.List.{List, [], ◌∷◌, ◌++◌, map}
use Prim.Native.Nat.{ℕ, suc, ◌+◌, ◌^◌, ◌<◌}
use native.Mathlib.Omega.{arith}
use lib.ListN.{length, take, get_or}
use lib.Seq.{take-suc}
use lib.Dec.{eqb}
use lib.Bits.{bit_and, xor_comm, xor_self}
use borrow.Author.Tests.{eqb-true, eq-eqb}
use Rattle.gf2.specs.Bits.{◌⊕◌, bit, lead, has_lead}
use Rattle.gf2.specs.Finite.{Mem}
use Rattle.gf2.specs.Basis.{Reduced, reduce, insert, inserts, is_lead, lead_mask, places_at}
use Rattle.gf2.proofs.Logic.{same}
use Rattle.gf2.proofs.Xor.{bit-and, bit-ext, bit-zero, xor_assoc}
use Rattle.gf2.proofs.Reduce.{has_lead-reduce}
use Rattle.gf2.proofs.Insert.{insert-known, inserts-snoc}
use Rattle.gf2.proofs.Variables.{is_lead-at, is_lead-off, bit-lead_mask}
use Rattle.space.specs.Restriction.{equation, number, project, clean}
use Rattle.space.specs.Affine.{directions, least_point}
use Rattle.space.proofs.Restriction.{number_step, clean_at, clean_of}
use Rattle.gf2.proofs.Finite.{map-take}

-- ---- numbers bit by bit, the highest first

-- One bit more at the front.
pub project-cons : (k : ℕ) (ks : List ℕ) (w : ℕ) → project (k ∷ ks) w ≡ cond (bit k w) (2 ^ length ks) 0 + project ks w
unfolding project
project-cons k ks w = number_step (λ j. bit j w) k ks

-- From the lowest place up: the kept bits below a place, and how many they are.
pub project-none : (q : ℕ → Bool) (w : ℕ) → project (places_at 0 q) w ≡ 0
unfolding project places_at number
project-none q w = refl

pub project-kept : (q : ℕ → Bool) (k w : ℕ) → q k ≡ true → project (places_at (suc k) q) w ≡ cond (bit k w) (2 ^ length (places_at k q)) 0 + project (places_at k q) w
unfolding places_at
project-kept q k w e = rw e (project-cons k (places_at k q) w)

-- ---- an equation vector by vector

pub equation-nil : (k : ℕ) → equation [] k ≡ 2 ^ k
unfolding equation
equation-nil k = refl

pub equation-snoc : (bs : List ℕ) (b k : ℕ) → equation (bs ++ (b ∷ [])) k ≡ equation bs k ⊕ cond (bit k b) (2 ^ lead b) 0
unfolding equation
equation-snoc [] b k = xor_comm (cond (bit k b) (2 ^ lead b) 0) (2 ^ k)
equation-snoc (c ∷ bs) b k =
    ap (λ (z : ℕ). cond (bit k c) (2 ^ lead c) 0 ⊕ z) (equation-snoc bs b k)
    ∙ sym (xor_assoc (cond (bit k c) (2 ^ lead c) 0) (equation bs k) (cond (bit k b) (2 ^ lead b) 0))

pub equation-take : (bs : List ℕ) (j k : ℕ) → j < length bs
    → equation (take (suc j) bs) k ≡ equation (take j bs) k ⊕ cond (bit k (get_or bs j 0)) (2 ^ lead (get_or bs j 0)) 0
equation-take bs j k h = ap (λ l. equation l k) (take-suc bs j 0 h) ∙ equation-snoc (take j bs) (get_or bs j 0) k

-- ---- the canonical variables by their mask

pub clean-mask : (bs : List ℕ) → Reduced bs → (w : ℕ) → clean bs w ≡ eqb (bit_and (lead_mask bs) w) 0
clean-mask bs r w = same (clean bs w) (eqb (bit_and (lead_mask bs) w) 0)
    (λ e. eq-eqb (bit_and (lead_mask bs) w) 0 (bit-ext (bit_and (lead_mask bs) w) 0
    (λ k. bit-and k (lead_mask bs) w ∙ rw (bit-lead_mask bs r k, bit-zero k) (there k e (is_lead bs k) refl))))
    (λ e. clean_of bs w (λ c m. back c m (eqb-true (bit_and (lead_mask bs) w) 0 e) (is_lead bs (lead c)) refl))
  where
    there : (k : ℕ) → clean bs w ≡ true → (t : Bool) → is_lead bs k ≡ t → t && bit k w ≡ false
    there k e true q = let c = is_lead-at bs k q in rw (← c.2) (clean_at bs w e c.0 c.1)
    there k e false q = refl

    back : (c : ℕ) → Mem c bs → bit_and (lead_mask bs) w ≡ 0 → (t : Bool) → is_lead bs (lead c) ≡ t → has_lead c w ≡ false
    back c m e true q = sym (bit-and (lead c) (lead_mask bs) w ∙ rw (bit-lead_mask bs r (lead c), q)) ∙ ap (bit (lead c)) e ∙ bit-zero (lead c)
    back c m e false q = absurd (is_lead-off bs (lead c) q c m refl)

-- A vector with a bit of the mask is reduced by the basis.
pub mask-reducible : (bs : List ℕ) → Reduced bs → (v : ℕ) → bit_and (lead_mask bs) v ≢ 0 → reduce bs v ≢ v
mask-reducible bs r v n e =
    n (eqb-true (bit_and (lead_mask bs) v) 0 (sym (clean-mask bs r v) ∙ clean_of bs v (λ c m. subst (λ (x : ℕ). has_lead c x ≡ false) e (has_lead-reduce bs r v c m))))

-- ---- the smallest affine space point by point

-- The directions of the first points of the list, from the point p.
pub directions-take : (p : ℕ) (ps : List ℕ) (j : ℕ) → j < length ps
    → inserts [] (map (λ q. q ⊕ p) (take (suc j) ps)) ≡ insert (inserts [] (map (λ q. q ⊕ p) (take j ps))) (get_or ps j 0 ⊕ p)
directions-take p ps j h = ap (inserts []) (map-take (λ q. q ⊕ p) ps j 0 h) ∙ inserts-snoc [] (map (λ q. q ⊕ p) (take j ps)) (get_or ps j 0 ⊕ p)

-- From the first point itself, which adds nothing.
pub directions-all : (ps : List ℕ) → 0 < length ps → inserts [] (map (λ q. q ⊕ get_or ps 0 0) ps) ≡ directions ps
unfolding directions inserts
directions-all [] h = absurd (omega arith)
directions-all (p ∷ ps) h = ap (λ l. inserts l (map (λ q. q ⊕ p) ps)) (insert-known [] (p ⊕ p) tt (xor_self p))

pub least_point-is : (ps : List ℕ) → 0 < length ps → least_point ps ≡ reduce (directions ps) (get_or ps 0 0)
unfolding least_point
least_point-is [] h = absurd (omega arith)
least_point-is (p ∷ ps) h = refl
