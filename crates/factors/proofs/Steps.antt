-- The definitions as the loops of this crate meet them: one vector, one equation or one mask more. Read next: Products.
use mathlib.Core.Path.{◌≡◌, sym, ap, ◌∙◌}
use mathlib.Core.Bool.{cond}
use mathlib.Core.List.{List, [], ◌∷◌, ◌++◌, map, append_assoc}
use Prim.Native.Nat.{ℕ, suc, ◌+◌, ◌-◌, ◌%◌, ◌/◌, ◌≤◌, ◌<◌}
use native.Mathlib.Numerals.{add-one}
use native.Mathlib.Omega.{arith}
use lib.ListN.{length, take, drop, get_or, length-map, length-take, drop_of_length-le}
use lib.Bits.{xor_zero_r}
use lib.Seq.{take_all, length-take-le}
use Rattle.gf2.specs.Limits.{max_variables}
use Rattle.gf2.specs.Bits.{◌⊕◌, bit}
use Rattle.gf2.proofs.Finite.{map-take}
use Rattle.gf2.proofs.Xor.{xor_assoc}
use Rattle.basis.specs.declared.ShortList.{ShortList}
use Rattle.basis.specs.Short.{listed, short}
use Rattle.basis.proofs.Values.{short-listed, short-again, short-len}
use Rattle.bases.specs.Bases.{vectors_of}
use Rattle.cover.specs.Substitution.{substitute_mask}
use Rattle.cover.proofs.Steps.{substitute-step}

-- ---- short lists by value

-- A short list has at most as many numbers as its array has entries.
pub short-few : (s : ShortList) → s ≡ short (listed s) → length s.values ≡ max_variables → s.len ≤ max_variables
short-few s e l = omega (arith, short-len s (listed s) e, length-take s.len s.values)

-- The numbers of a short list put through a map one by one and behind each other.
module _ (f : ℕ → ℕ) (s : ShortList) (e : s ≡ short (listed s)) (i : ℕ) (found : ShortList) (p : found ≡ short (map f (take i (listed s)))) where
  pub mapped-again : found ≡ short (listed found)
  mapped-again = short-again found (map f (take i (listed s))) p

  pub mapped-len : i ≤ s.len → found.len ≡ i
  mapped-len h =
      short-len found (map f (take i (listed s))) p
      ∙ length-map (take i (listed s)) f ∙ length-take-le i (listed s) (omega (arith, short-len s (listed s) e))

  pub mapped_next : i < length (listed s) → (next : ShortList) (v : ℕ) → next ≡ short (listed found ++ (v ∷ [])) → v ≡ f (get_or (listed s) i 0) → next ≡ short (map f (take (i + 1) (listed s)))
  mapped_next h next v q w =
      let more : listed found ++ (v ∷ []) ≡ map f (take (i + 1) (listed s)) =
      rw (short-listed found (map f (take i (listed s))) p, w, add-one, map-take f (listed s) i 0 h) in
      q ∙ ap short more

  pub mapped-all : length (listed s) ≤ i → found ≡ short (map f (listed s))
  mapped-all h = p ∙ ap (λ (l : List ℕ). short (map f l)) (take_all i (listed s) h)

-- ---- the vectors of an entry

pub vectors-next : (left rest : ℕ) (done : List ℕ) → 0 < left → (done ++ (rest % 256 ∷ [])) ++ vectors_of (left - 1) (rest / 256) ≡ done ++ vectors_of left rest
unfolding vectors_of
vectors-next left rest done h =
    let q : left ≡ suc (left - 1) = omega arith in
    append_assoc done (rest % 256 ∷ []) (vectors_of (left - 1) (rest / 256)) ∙ ap (λ (k : ℕ). done ++ vectors_of k rest) (sym q)

-- ---- the equations put in for a mask

-- One equation more: what is found, then what the equations behind give, is the whole.
pub substituted-next : (s : ShortList) → s ≡ short (listed s) → (mask i found v : ℕ) → i < length (listed s) → v ≡ get_or (listed s) i 0
    → (found ⊕ cond (bit (s.len - 1 - i) mask) v 0) ⊕ substitute_mask (drop (i + 1) (listed s)) mask ≡ found ⊕ substitute_mask (drop i (listed s)) mask
substituted-next s e mask i found v h w =
    let es = listed s in
    let l : s.len ≡ length es = short-len s es e in
    let k : length es - suc i ≡ s.len - 1 - i = omega arith in
    rw (add-one, xor_assoc found) (ap (λ (x : ℕ). found ⊕ x) (sym (substitute-step es mask i h ∙ rw (k, sym w))))

-- All of them are put in.
pub substituted-all : (es : List ℕ) (mask i found : ℕ) → length es ≤ i → found ⊕ substitute_mask (drop i es) mask ≡ found
unfolding substitute_mask
substituted-all es mask i found h = rw (drop_of_length-le es {i = i} h) (xor_zero_r found)
