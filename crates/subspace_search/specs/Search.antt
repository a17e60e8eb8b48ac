-- The search for the largest space inside a set of vectors (document 02, No. 4), as code does it: depth first, by reduced bases, inside the set all the
-- way. A set is a test on vectors. That what it finds is `largest` of crate `subspaces` is `longest-largest`. Read next: crate `closure_set`.
use Rattle.std.specs.Prelude.{Bool, not, cond, ◌&&◌, List, [], ◌∷◌, ℕ, zero, suc, ◌^◌, length, get_or, ltb}
use Rattle.gf2.specs.Bits.{◌⊕◌, has_lead}

-- The vectors that may follow b in a reduced basis whose span lies in the set: c is above b and has not its lead bit, and with c also c XOR b is in the set.
unfoldable pub narrowed : (ℕ → Bool) → ℕ → ℕ → Bool
narrowed set b c = set c && (set (c ⊕ b) && (ltb b c && not (has_lead b c)))

-- The longer of two lists; of two of one length, the first.
unfoldable pub longer : List ℕ → List ℕ → List ℕ
longer l m = cond (ltb (length l) (length m)) m l

-- The first of the longest lists that begin with a vector of the set below k, but 0, and go on with what g gives for the vectors that may follow it; the
-- empty list if there is none.
unfoldable pub longest_below : ((ℕ → Bool) → List ℕ) → (ℕ → Bool) → ℕ → List ℕ
longest_below g set zero = []
longest_below g set (suc k) =
    let begun = longer (longest_below g set k) (k ∷ g (narrowed set k)) in
    cond (ltb 0 k && set k) begun (longest_below g set k)

-- The first of the longest reduced bases of at most d vectors of n variables whose span, but for 0, lies in the set.
unfoldable pub longest : ℕ → ℕ → (ℕ → Bool) → List ℕ
longest n zero set = []
longest n (suc d) set = longest_below (longest n d) set (2 ^ n)

-- The vectors below 256 that may follow one whose lead is the place, as four words, for each place: those from 2 ^ (place + 1) on with that bit clear.
-- That it is so is `following-word`.
unfoldable pub following_words : List (List ℕ)
following_words =
    (0x5555555555555554 ∷ 0x5555555555555555 ∷ 0x5555555555555555 ∷ 0x5555555555555555 ∷ []) ∷
    (0x3333333333333330 ∷ 0x3333333333333333 ∷ 0x3333333333333333 ∷ 0x3333333333333333 ∷ []) ∷
    (0x0F0F0F0F0F0F0F00 ∷ 0x0F0F0F0F0F0F0F0F ∷ 0x0F0F0F0F0F0F0F0F ∷ 0x0F0F0F0F0F0F0F0F ∷ []) ∷
    (0x00FF00FF00FF0000 ∷ 0x00FF00FF00FF00FF ∷ 0x00FF00FF00FF00FF ∷ 0x00FF00FF00FF00FF ∷ []) ∷
    (0x0000FFFF00000000 ∷ 0x0000FFFF0000FFFF ∷ 0x0000FFFF0000FFFF ∷ 0x0000FFFF0000FFFF ∷ []) ∷
    (0x0000000000000000 ∷ 0x00000000FFFFFFFF ∷ 0x00000000FFFFFFFF ∷ 0x00000000FFFFFFFF ∷ []) ∷
    (0x0000000000000000 ∷ 0x0000000000000000 ∷ 0xFFFFFFFFFFFFFFFF ∷ 0x0000000000000000 ∷ []) ∷
    (0x0000000000000000 ∷ 0x0000000000000000 ∷ 0x0000000000000000 ∷ 0x0000000000000000 ∷ []) ∷
    []

-- A word of a place.
abbrev pub following_word : ℕ → ℕ → ℕ
following_word place word = get_or (get_or following_words place []) word 0
