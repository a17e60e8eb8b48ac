-- Laws of short lists and bases by value: one number put behind the others, and the list read back.
use mathlib.Core.Path.{◌≡◌, refl, sym, ap, ◌∙◌, subst, subst⁻¹}
use mathlib.Core.Bool.{Bool}
use mathlib.Core.Logic.{◌↔◌}
use mathlib.Core.List.{List, [], ◌∷◌, ◌++◌, append_assoc}
use Prim.Native.Nat.{ℕ, suc, ◌+◌, ◌-◌, ◌^◌, ◌≤◌, ◌<◌}
use native.Mathlib.Numerals.{add-one}
use native.Mathlib.Omega.{arith}
use lib.ListN.{length, take, drop, set, get_or, replicate, length-append, drop_of_length-le}
use lib.Seq.{take-append_seam, set-append_seam, drop-cons, get_or-take}
use Rattle.gf2.specs.Limits.{max_variables}
use Rattle.gf2.specs.Bits.{lead}
use Rattle.gf2.specs.Finite.{Mem, select}
use Rattle.gf2.specs.Span.{Span}
use Rattle.gf2.specs.Basis.{Reduced, insert, inserts}
use Rattle.gf2.proofs.Finite.{get_d-mem, select-mem}
use Rattle.gf2.proofs.Leads.{lead-fits}
use Rattle.gf2.proofs.Reduce.{reduced-length, reduced-pos}
use Rattle.gf2.proofs.Insert.{insert-reduced, insert-span, insert-below, inserts-reduced, inserts-below}
use Rattle.basis.specs.declared.Basis.{Basis}
use Rattle.basis.specs.declared.ShortList.{ShortList}
use Rattle.basis.specs.Short.{listed, short}
use Rattle.basis.specs.Reduced.{vectors_of, basis_of, IsBasis, Built}

-- ---- arrays of m entries, of which those behind the list are 0

pub padded-push : (m : ℕ) (vs : List ℕ) (v : ℕ) → length vs < m
    → set (vs ++ replicate (m - length vs) 0) (length vs) v ≡ (vs ++ (v ∷ [])) ++ replicate (m - length (vs ++ (v ∷ []))) 0
padded-push m vs v h =
    let e : m - length vs ≡ suc (m - suc (length vs)) = omega arith in
    let l : length (vs ++ (v ∷ [])) ≡ suc (length vs) = omega (arith, length-append vs (v ∷ [])) in
    rw (l, e, append_assoc vs (v ∷ []) (replicate (m - suc (length vs)) 0)) (set-append_seam vs 0 (replicate (m - suc (length vs)) 0) v)

-- A list put into a short list is read back.
pub listed_back : (vs : List ℕ) → listed (short vs) ≡ vs
listed_back vs = take-append_seam vs (replicate (max_variables - length vs) 0)

-- What is known of a value that stands for a list.
pub short-listed : (s : ShortList) (vs : List ℕ) → s ≡ short vs → listed s ≡ vs
short-listed s vs e = ap listed e ∙ listed_back vs

pub short-again : (s : ShortList) (vs : List ℕ) → s ≡ short vs → s ≡ short (listed s)
short-again s vs e = e ∙ ap short (sym (short-listed s vs e))

pub short-len : (s : ShortList) (vs : List ℕ) → s ≡ short vs → s.len ≡ length vs
short-len s vs e = ap (λ (x : ShortList). x.len) e

-- The part of its array that is in use is the list.
pub short-part : (s : ShortList) (vs : List ℕ) → s ≡ short vs → take (s.len - 0) s.values ≡ vs
short-part s vs e = let z : s.len - 0 ≡ s.len = omega arith in rw z (short-listed s vs e)

pub short-fits : (s : ShortList) (vs : List ℕ) → s ≡ short vs → s.len ≤ length s.values
short-fits s vs e = omega (arith, short-len s vs e, ap (λ (x : ShortList). length x.values) e, length-append vs (replicate (max_variables - length vs) 0))

-- ---- bases

-- A list put into a value is read back.
pub vectors-back : (bs : List ℕ) → vectors_of (basis_of bs) ≡ bs
vectors-back bs = take-append_seam bs (replicate (max_variables - length bs) 0)

-- A reduced list of vectors of at most `max_variables` variables is a basis.
pub is-basis : (bs : List ℕ) → Reduced bs → ((c : ℕ) → Mem c bs → c < 2 ^ max_variables) → IsBasis (basis_of bs)
is-basis bs r h = record {
  reduced = rw (vectors-back bs) r;
  below = λ c m. h c (subst (Mem c) (vectors-back bs) m);
  packed = ap basis_of (sym (vectors-back bs));
}

pub basis-len : (b : Basis) → IsBasis b → b.len ≡ length (vectors_of b)
basis-len b i = ap (λ (x : Basis). x.len) i.packed

pub basis-few : (b : Basis) → IsBasis b → length (vectors_of b) ≤ max_variables
basis-few b i = reduced-length max_variables (vectors_of b) i.reduced i.below

-- What the functions that build a basis promise of it.
pub built : (bs : List ℕ) (P : ℕ → Type 0) → Reduced bs → ((c : ℕ) → Mem c bs → c < 2 ^ max_variables) → ((x : ℕ) → Span bs x ↔ P x) → Built (basis_of bs) bs P
built bs P r h s = record { value = refl; basis = is-basis bs r h; spans = s }

-- ---- the vectors of a basis, read from its array

module _ (b : Basis) (k : IsBasis b) (i : ℕ) (h : i < b.len) where
  pub vector-room : i < max_variables
  vector-room = omega (arith, basis-len b k, basis-few b k)

  at : i < length (vectors_of b)
  at = omega (arith, basis-len b k)

  pub vector-mem : Mem (get_or b.vectors i 0) (vectors_of b)
  vector-mem = subst (λ (v : ℕ). Mem v (vectors_of b)) (get_or-take b.len b.vectors i 0 h) (get_d-mem (vectors_of b) i 0 at)

  pub vector-pos : 0 < get_or b.vectors i 0
  vector-pos = reduced-pos (vectors_of b) k.reduced (get_or b.vectors i 0) vector-mem

-- ---- the vectors of a basis, as the list that `Basis::as_slice` gives

module _ (b : Basis) (k : IsBasis b) (vs : List ℕ) (e : vs ≡ vectors_of b) (i : ℕ) (h : i < length vs) where
  pub item-mem : Mem (get_or vs i 0) (vectors_of b)
  item-mem = subst (Mem (get_or vs i 0)) e (get_d-mem vs i 0 h)

  pub item-pos : 0 < get_or vs i 0
  item-pos = reduced-pos (vectors_of b) k.reduced (get_or vs i 0) item-mem

  -- Its lead fits a place of a point.
  pub item-lead : lead (get_or vs i 0) < max_variables
  item-lead = lead-fits max_variables (get_or vs i 0) item-pos (k.below (get_or vs i 0) item-mem)

  pub items-few : length vs ≤ max_variables
  items-few = omega (arith, ap length e, basis-few b k)

-- The vectors from i on are the one at i and those behind it; past the last one nothing is left.
pub items-next : (vs : List ℕ) (i : ℕ) → i < length vs → drop i vs ≡ get_or vs i 0 ∷ drop (i + 1) vs
items-next vs i h = rw (add-one, drop-cons vs i 0 h)

pub items-end : (vs : List ℕ) (i : ℕ) → length vs ≤ i → drop i vs ≡ []
items-end vs i h = drop_of_length-le vs {i = i} h

-- ---- a vector put in

pub inserted : (b : Basis) → IsBasis b → (v : ℕ) → v < 2 ^ max_variables → (r : Basis) → r ≡ basis_of (insert (vectors_of b) v)
    → Built r (insert (vectors_of b) v) (Span (v ∷ vectors_of b))
inserted b k v h r e =
    let bs = vectors_of b in
    subst (λ (x : Basis). Built x (insert bs v) (Span (v ∷ bs))) (sym e)
    (built (insert bs v) (Span (v ∷ bs)) (insert-reduced bs v k.reduced) (insert-below max_variables bs v k.below h) (insert-span bs v))

-- The vectors below v that pass a test, put in one at a time.
pub select-basis : (f : ℕ → Bool) (v : ℕ) → v ≤ 2 ^ max_variables → (b : Basis) → b ≡ basis_of (inserts [] (select f v)) → IsBasis b
select-basis f v h b e = subst⁻¹ IsBasis e
    (is-basis (inserts [] (select f v)) (inserts-reduced [] (select f v) tt)
    (inserts-below max_variables (select f v) (λ w m. omega (arith, (select-mem f v w m).0))))
