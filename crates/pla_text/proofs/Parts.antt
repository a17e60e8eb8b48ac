-- Laws about parts of a list: where the first element that passes stands, the blanks before a line's words, and its first word. Read next: Digits.
use mathlib.Core.Path.{◌≡◌, refl, sym, ap, ◌∙◌}
use mathlib.Core.Bool.{Bool, true, false, cond, not}
use mathlib.Core.List.{List, [], ◌∷◌}
use Prim.Native.Nat.{ℕ, suc, ◌+◌, ◌≤◌, ◌<◌}
use native.Mathlib.Numerals.{add-one, one-add}
use native.Mathlib.Omega.{arith}
use native.Mathlib.Decide.{ℕ_discrete}
use lib.Dec.{ltb, eqb}
use lib.ListN.{length, take, drop, get_or, drop_of_length-le}
use lib.Seq.{drop-cons, get_or-take}
use borrow.Author.Tests.{ltb-false, ne_eqb}
use Rattle.std.proofs.lemmas.List.{take_all}
use Rattle.std.proofs.lemmas.List.Folds.{length-prefix_len}
use Rattle.std.proofs.lemmas.List.Sums.{prefix_len-le-length, passes_at_first}
use Rattle.std.proofs.lemmas.List.Splits.{slice_split_first}
use Rattle.std.proofs.Common.{Some, None, filter}
use Rattle.std.specs.List.{position_or_len, before_first, after_first, slice_split, onto_first}
use Rattle.std.specs.Option.{unwrap_or}
use Rattle.pla_text.specs.Text.{is_blank, words_of}

-- The place of the first that passes, or the length, is one number.
pub place-or-end : (p : ℕ → Bool) (l : List ℕ) → unwrap_or (cond (ltb (position_or_len p l) (length l)) (Some (position_or_len p l)) None) (length l) ≡ position_or_len p l
place-or-end p l = go (ltb (position_or_len p l) (length l)) refl
  where
    go : (t : Bool) → ltb (position_or_len p l) (length l) ≡ t → unwrap_or (cond t (Some (position_or_len p l)) None) (length l) ≡ position_or_len p l
    go true e = refl
    go false e = let past : length l ≤ position_or_len p l = ltb-false (position_or_len p l) (length l) e in let within = prefix_len-le-length (λ x. not (p x)) l in omega arith

-- ---- words

-- A list of no bytes has no words.
pub words-none : (l : List ℕ) → length l ≡ 0 → words_of l ≡ []
words-none [] h = refl
words-none (b ∷ l) h = absurd (omega arith)

-- A blank before them plays no part.
words-skip : (b : ℕ) (l : List ℕ) → is_blank b ≡ true → words_of (b ∷ l) ≡ words_of l
words-skip b l e = rw e

-- Nor do several.
pub words-blank : (l : List ℕ) → words_of l ≡ words_of (drop (position_or_len (λ b. not (is_blank b)) l) l)
words-blank [] = refl
words-blank (b ∷ l) = go (is_blank b) refl (words-blank l)
  where
    go : (t : Bool) → is_blank b ≡ t → words_of l ≡ words_of (drop (position_or_len (λ b. not (is_blank b)) l) l)
        → words_of (b ∷ l) ≡ words_of (drop (cond (not (not t)) (1 + position_or_len (λ b. not (is_blank b)) l) 0) (b ∷ l))
    go true e k = words-skip b l e ∙ k ∙ ap (λ n. words_of (drop n (b ∷ l))) (sym (one-add (position_or_len (λ b. not (is_blank b)) l)))
    go false e k = refl

-- Where nothing passes, the whole is one part.
split-last : (f : ℕ → Bool) (l : List ℕ) → length l ≤ position_or_len f l → slice_split f l ≡ l ∷ []
split-last f [] h = refl
split-last f (b ∷ l) h = go (f b) h (split-last f l)
  where
    go : (t : Bool) → suc (length l) ≤ cond (not t) (1 + position_or_len f l) 0 → (length l ≤ position_or_len f l → slice_split f l ≡ l ∷ [])
        → cond t ([] ∷ slice_split f l) (onto_first b (slice_split f l)) ≡ (b ∷ l) ∷ []
    go true h k = absurd (omega arith)
    go false h k = let e = k (omega arith) in rw e

-- A part that isn't empty is kept.
keep : (part : List ℕ) (parts : List (List ℕ)) → 0 < length part
    → filter (λ part. not (eqb (length part) 0)) (part ∷ parts) ≡ part ∷ filter (λ part. not (eqb (length part) 0)) parts
keep part parts h = rw (ne_eqb (length part) 0 (λ e. omega arith))

-- A list that begins with a byte of a word: its first part isn't empty.
begins-some : (l : List ℕ) → 0 < length l → is_blank (get_or l 0 0) ≡ false → 0 < position_or_len is_blank l
begins-some [] h e = absurd (omega arith)
begins-some (b ∷ l) h e = rw e (omega arith)

-- Its words are that one, and then the words after it.
pub words-first : (l : List ℕ) → 0 < length l → is_blank (get_or l 0 0) ≡ false → words_of l ≡ before_first is_blank l ∷ words_of (drop (position_or_len is_blank l) l)
words-first l h e = go (ℕ_discrete place (length l))
  where
    place : ℕ
    place = position_or_len is_blank l

    some : 0 < length (before_first is_blank l)
    some = omega (arith, begins-some l h e, length-prefix_len (λ b. not (is_blank b)) l)

    go : Dec (place ≡ length l) → words_of l ≡ before_first is_blank l ∷ words_of (drop place l)
    go (yes z) =
        let all : before_first is_blank l ≡ l = ap (λ n. take n l) z ∙ take_all (length l) l (omega arith) in
        let none : words_of (drop place l) ≡ [] = ap words_of (drop_of_length-le l {i = place} (omega arith)) in
        ap (filter (λ part. not (eqb (length part) 0))) (split-last is_blank l (omega arith)) ∙ keep l [] h ∙ rw (all, none)
    go (no z) =
        let within : place < length l = omega (arith, prefix_len-le-length (λ b. not (is_blank b)) l, z) in
        let next : words_of (drop place l) ≡ words_of (after_first is_blank l) =
        ap words_of (drop-cons l place 0 within) ∙ words-skip (get_or l place 0) (drop (suc place) l) (passes_at_first is_blank l 0 within)
        ∙ ap (λ n. words_of (drop n l)) (sym (add-one place)) in
        ap (filter (λ part. not (eqb (length part) 0))) (slice_split_first is_blank l 0 within)
        ∙ keep (before_first is_blank l) (slice_split is_blank (after_first is_blank l)) some
        ∙ ap (λ words. before_first is_blank l ∷ words) (sym next)

-- The word begins as the list does.
pub word-begins : (l word : List ℕ) (words : List (List ℕ)) → is_blank (get_or l 0 0) ≡ false → words_of l ≡ word ∷ words → get_or word 0 0 ≡ get_or l 0 0
word-begins [] word words e w = absurd (cc)
word-begins (b ∷ l) word words e w =
    ap (λ (ws : List (List ℕ)). get_or (get_or ws 0 []) 0 0) (sym w ∙ words-first (b ∷ l) (omega arith) e)
    ∙ get_or-take (position_or_len is_blank (b ∷ l)) (b ∷ l) 0 0 (begins-some (b ∷ l) (omega arith) e)
