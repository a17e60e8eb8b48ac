-- Laws of specs.Sets: the empty set, the set of all points, what stands above all points; sets joined, points put in, sets moved, and the least point
-- from a place on. Read next: crate `subspace_search`.
use mathlib.Core.Path.{◌≡◌, sym, ap, ap₂, ◌∙◌, subst}
use mathlib.Core.Bool.{Bool, true, false, ◌||◌, or-false}
use mathlib.Core.Logic.{◌≢◌}
use mathlib.Core.List.{List, [], ◌∷◌}
use Prim.Native.Nat.{ℕ, zero, suc, ◌+◌, ◌-◌, ◌*◌, ◌/◌, ◌%◌, ◌^◌, ◌≤◌, ◌<◌, max}
use native.Mathlib.Nat.{lt_of_not-le, lt_of_le_of_lt}
use native.Mathlib.Decide.{dec_le, ℕ_discrete}
use native.Mathlib.Omega.{arith}
use lib.Dec.{eqb}
use lib.Count.{count_trailing_zeros}
use lib.Pow.{shr_le, shr_lt}
use lib.Bits.{bit_or, xor_lt, xor_mod, xor_shr}
use lib.ListN.{length, get_or, set}
use lib.Seq.{get_or-set_same, get_or-set_other}
use borrow.Author.Tests.{eq-eqb, ne_eqb, eqb-true}
use Rattle.gf2.specs.Bits.{◌⊕◌, bit}
use Rattle.gf2.proofs.Logic.{same}
use Rattle.gf2.proofs.Xor.{bit-ones, bit-zero, xor_above}
use Rattle.moves.specs.Moves.{mask_size, EachMoved}
use Rattle.moves.proofs.Bits.{bit-down, bit-put}
use Rattle.moves.proofs.Moves.{word-above, word-cases}
use Rattle.product.specs.Lowest.{lowest}
use Rattle.product.proofs.LowestBit.{lowest-below, lowest-fits, lowest_set, lowest-zeros}
use Rattle.point_sets.specs.Sets.{set_size, member, LeastFrom}

-- ---- the words of a set

pub member-above : (s : List ℕ) (x : ℕ) → length s ≡ 4 → set_size ≤ x → member s x ≡ false
unfolding member
member-above s x l h = rw (word-above s (x / mask_size) l (omega arith)) (bit-zero (x % mask_size))

pub empty-member : (x : ℕ) → member (0 ∷ 0 ∷ 0 ∷ 0 ∷ []) x ≡ false
unfolding member
empty-member x =
    let z = bit-zero (x % mask_size) in
    word-cases (λ i w. bit (x % mask_size) w ≡ false) 0 0 0 0 z z z z (λ i h. z) (x / mask_size)

-- A word of all bits.
abbrev pub all_bits : ℕ
all_bits = 2 ^ mask_size - 1

pub full-member : (x : ℕ) → x < set_size → member (all_bits ∷ all_bits ∷ all_bits ∷ all_bits ∷ []) x ≡ true
unfolding member
full-member x h =
    let o : bit (x % mask_size) all_bits ≡ true = bit-ones mask_size (x % mask_size) (omega arith) in
    word-cases (λ i w. i < 4 → bit (x % mask_size) w ≡ true) all_bits all_bits all_bits all_bits (λ l. o) (λ l. o) (λ l. o) (λ l. o) (λ i g l. absurd (omega arith))
    (x / mask_size) (omega arith)

-- ---- sets joined

-- What holds at each of the four places of a word holds below 4.
pub each-word : (P : ℕ → Type 0) → P 0 → P 1 → P 2 → P 3 → (i : ℕ) → i < 4 → P i
each-word P p q r s zero h = p
each-word P p q r s (suc zero) h = q
each-word P p q r s (suc (suc zero)) h = r
each-word P p q r s (suc (suc (suc zero))) h = s
each-word P p q r s (suc (suc (suc (suc i)))) h = absurd (omega arith)

-- Two sets joined word by word, by an operation that joins bit by bit.
pub joined-member : (op : ℕ → ℕ → ℕ) (test : Bool → Bool → Bool) → ((k a b : ℕ) → bit k (op a b) ≡ test (bit k a) (bit k b)) → test false false ≡ false
    → (s t r : List ℕ) → length s ≡ 4 → length t ≡ 4 → length r ≡ 4 → ((i : ℕ) → i < 4 → get_or r i 0 ≡ op (get_or s i 0) (get_or t i 0))
    → (x : ℕ) → member r x ≡ test (member s x) (member t x)
unfolding member
joined-member op test bits none s t r l m n words x = go (dec_le 4 (x / mask_size))
  where
    k : ℕ
    k = x % mask_size

    go : Dec (4 ≤ x / mask_size) → bit k (get_or r (x / mask_size) 0) ≡ test (bit k (get_or s (x / mask_size) 0)) (bit k (get_or t (x / mask_size) 0))
    go (yes h) = rw (word-above s (x / mask_size) l h, word-above t (x / mask_size) m h, word-above r (x / mask_size) n h, bit-zero k) (sym none)
    go (no h) = ap (bit k) (words (x / mask_size) (lt_of_not-le h)) ∙ bits k (get_or s (x / mask_size) 0) (get_or t (x / mask_size) 0)

-- ---- a point put in

-- Numbers of one word are equal where their places in it are.
same_word : (p x : ℕ) → x / mask_size ≡ p / mask_size → eqb (p % mask_size) (x % mask_size) ≡ eqb p x
same_word p x e =
    same (eqb (p % mask_size) (x % mask_size)) (eqb p x)
    (λ t. let q = eqb-true (p % mask_size) (x % mask_size) t in eq-eqb p x (omega arith))
    (λ t. eq-eqb (p % mask_size) (x % mask_size) (ap (λ (z : ℕ). z % mask_size) (eqb-true p x t)))

pub put-member : (s : List ℕ) (p : ℕ) → length s ≡ 4 → p < set_size → (x : ℕ)
    → member (set s (p / mask_size) (bit_or (get_or s (p / mask_size) 0) (1 * 2 ^ (p % mask_size) % 2 ^ mask_size))) x ≡ member s x || eqb p x
unfolding member
put-member s p l h x = go (ℕ_discrete (x / mask_size) (p / mask_size))
  where
    word : ℕ
    word = bit_or (get_or s (p / mask_size) 0) (1 * 2 ^ (p % mask_size) % 2 ^ mask_size)

    go : Dec (x / mask_size ≡ p / mask_size) → bit (x % mask_size) (get_or (set s (p / mask_size) word) (x / mask_size) 0) ≡ bit (x % mask_size) (get_or s (x / mask_size) 0) || eqb p x
    go (yes e) = rw (e, get_or-set_same s (p / mask_size) word 0 (omega arith))
        (bit-put mask_size (x % mask_size) (get_or s (p / mask_size) 0) (p % mask_size) (omega arith)
        ∙ ap (λ t. bit (x % mask_size) (get_or s (p / mask_size) 0) || t) (same_word p x e))
    go (no n) = rw (get_or-set_other s (p / mask_size) (x / mask_size) word 0 n, ne_eqb p x (λ e. n (ap (λ (z : ℕ). z / mask_size) (sym e))))
        (sym (or-false (bit (x % mask_size) (get_or s (x / mask_size) 0))))

-- ---- a set moved by a vector

-- The high bits h of a vector name a word, with the place of another one.
pub exchanged_word : (i h : ℕ) → i < 4 → h < 4 → i ⊕ h < 4
exchanged_word i h f g = xor_lt 2 i h f g

-- The high bits of v exchange words, so that what was at i XOR h comes to i, and the others move each word.
pub moved-member : (s t r : List ℕ) (v h : ℕ) → length s ≡ 4 → length t ≡ 4 → v < set_size → h ≡ v / mask_size
    → ((i : ℕ) → i < 4 → get_or t i 0 ≡ get_or s (i ⊕ h) 0) → EachMoved (v % mask_size) t r → (x : ℕ) → member r x ≡ member s (x ⊕ v)
unfolding member
moved-member s t r v h l k f e words m x =
    m (x / mask_size) (x % mask_size) ∙ ap (bit (x % mask_size ⊕ v % mask_size)) (word (x / mask_size))
    ∙ ap₂ (λ (j i : ℕ). bit j (get_or s i 0)) (sym (xor_mod x v 6)) (ap (λ (z : ℕ). x / mask_size ⊕ z) e ∙ sym (xor_shr x v 6))
  where
    word : (i : ℕ) → get_or t i 0 ≡ get_or s (i ⊕ h) 0
    word i = elim (dec_le 4 i) [
      | yes g ↦ word-above t i k g ∙ sym (word-above s (i ⊕ h) l (xor_above 2 i h g (omega arith)))
      | no g ↦ words i (lt_of_not-le g)
    ]

-- ---- the points from a place on

-- What is left of the word of a place when the places before it are shifted out.
abbrev pub rest_of : List ℕ → ℕ → ℕ
rest_of s at = get_or s (at / mask_size) 0 / 2 ^ (at % mask_size)

rest-member : (s : List ℕ) (at j : ℕ) → at % mask_size + j < mask_size → member s (at + j) ≡ bit j (rest_of s at)
unfolding member
rest-member s at j h =
    let q : (at + j) / mask_size ≡ at / mask_size = omega arith in
    let r : (at + j) % mask_size ≡ at % mask_size + j = omega arith in
    rw (q, r) (sym (bit-down j (at % mask_size) (get_or s (at / mask_size) 0)))

-- The same of a place x from `at` on.
rest_from : (s : List ℕ) (at x : ℕ) → at ≤ x → at % mask_size + (x - at) < mask_size → member s x ≡ bit (x - at) (rest_of s at)
rest_from s at x l h = let e : x ≡ at + (x - at) = omega arith in ap (member s) e ∙ rest-member s at (x - at) h

-- The set holds none of the numbers between the two.
abbrev pub NoneFrom : List ℕ → ℕ → ℕ → Type 0
NoneFrom s from at = (x : ℕ) → from ≤ x → x < at → member s x ≡ false

-- Nothing is left of a word from `at` on, which is where the word begins or, in the first word, the given number: none up to the next one.
pub none-next : (s : List ℕ) (from word at : ℕ) → NoneFrom s from (word * mask_size) → at / mask_size ≡ word → at ≤ max from (word * mask_size) → rest_of s at ≡ 0
    → NoneFrom s from ((word + 1) * mask_size)
none-next s from word at n w m e x l h = elim (dec_le at x) [
  | yes g ↦ rest_from s at x g (omega arith) ∙ ap (bit (x - at)) e ∙ bit-zero (x - at)
  | no g ↦ n x l (omega (arith, g))
]

-- A count of trailing zeros of what is left finds the least point.
pub least-found : (s : List ℕ) (from at : ℕ) → from ≤ at → at < set_size → NoneFrom s from at → get_or s (at / mask_size) 0 < 2 ^ mask_size → rest_of s at ≢ 0
    → LeastFrom s from (at + count_trailing_zeros mask_size (rest_of s at))
least-found s from at l h n w z = rw zeros record {
  above = omega arith;
  most = omega (arith, within);
  none = λ x m g. elim (dec_le at x) [
    | yes k ↦ rest_from s at x k (omega (arith, within)) ∙ lowest-below (rest_of s at) some (x - at) (omega arith)
    | no k ↦ n x m (lt_of_not-le k)
  ];
  held = λ g. rest-member s at (lowest (rest_of s at)) within ∙ lowest_set (rest_of s at) some;
}
  where
    some : 0 < rest_of s at
    some = omega (arith, z)

    zeros : count_trailing_zeros mask_size (rest_of s at) ≡ lowest (rest_of s at)
    zeros = lowest-zeros mask_size (rest_of s at) some (lt_of_le_of_lt (shr_le (get_or s (at / mask_size) 0) (at % mask_size)) w)

    within : at % mask_size + lowest (rest_of s at) < mask_size
    within =
        let e : mask_size ≡ (mask_size - at % mask_size) + at % mask_size = omega arith in
        let fits = shr_lt {n = get_or s (at / mask_size) 0} (mask_size - at % mask_size) (at % mask_size) (subst (λ (z : ℕ). get_or s (at / mask_size) 0 < 2 ^ z) e w) in
        omega (arith, lowest-fits (mask_size - at % mask_size) (rest_of s at) some fits)
