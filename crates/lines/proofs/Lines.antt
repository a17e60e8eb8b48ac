-- The lists of specs.Lines as texts made of pieces, one for each place of a list. Read next: Lengths.
use mathlib.Core.Path.{◌≡◌, refl, sym, ap, ◌∙◌}
use mathlib.Core.Bool.{Bool, true, false}
use mathlib.Core.List.{List, [], ◌∷◌, ◌++◌, zip_with, flat_map}
use Prim.Native.Nat.{ℕ, zero, suc, ◌+◌}
use native.Mathlib.Omega.{arith}
use lib.ListN.{length, get_or}
use Rattle.table.specs.Refusal.{has_place}
use Rattle.product.specs.Product.{factor}
use Rattle.text.proofs.Pieces.{pieces, pieces-same, pieces-front, flat-pieces}
use Rattle.text.specs.Pieces.{labelled}
use Rattle.lines.specs.Words.{degree_word, simple_word, refused_word, at_word, line_end}
use Rattle.lines.specs.Lines.{number_line, fault_line, degree_line, list_text, equation_line, equation_lines, factor_text}

-- An empty list prints as a word of its own, any other as its elements.
module _ {A : Type 0} (empty : List ℕ) (some : List A → List ℕ) where
  pub list-none : (l : List A) → length l ≡ 0 → empty ≡ list_text empty some l
  list-none [] e = refl
  list-none (a ∷ l) e = absurd (omega arith)

  pub list-some : (l : List A) → (length l ≡ 0 → ⊥) → some l ≡ list_text empty some l
  list-some [] e = absurd (e refl)
  list-some (a ∷ l) e = refl

-- A refusal prints its place where its number has one.
module _ (number place : ℕ) where
  pub fault-placed : has_place number ≡ true → labelled refused_word number ++ number_line at_word place ≡ fault_line number place
  unfolding fault_line
  fault-placed e = rw e

  pub fault-alone : has_place number ≡ false → number_line refused_word number ≡ fault_line number place
  unfolding fault_line
  fault-alone e = rw e

-- A degree prints its mark where it is asked for.
module _ (simple : Bool) (k : ℕ) where
  pub degree-marked : simple ≡ true → labelled degree_word k ++ (simple_word ++ line_end) ≡ degree_line simple k
  unfolding degree_line
  degree-marked e = rw e

  pub degree-plain : simple ≡ false → number_line degree_word k ≡ degree_line simple k
  unfolding degree_line
  degree-plain e = rw e

-- The line of the equation at a place of a list of masks.
abbrev pub equation_at : ℕ → ℕ → List ℕ → ℕ → List ℕ
equation_at n index masks i = equation_line n (index + i) (get_or masks i 0)

pub equation-pieces : (n index : ℕ) (masks : List ℕ) → equation_lines n index masks ≡ pieces (equation_at n index masks) (length masks)
unfolding equation_lines
equation-pieces n index [] = refl
equation-pieces n index (mask ∷ masks) =
    let first : index + 0 ≡ index = omega arith in
    ap (λ (r : List ℕ). equation_line n index mask ++ r)
    (equation-pieces n (index + 1) masks
    ∙ pieces-same (equation_at n (index + 1) masks) (λ i. equation_line n (index + suc i) (get_or masks i 0)) (length masks) (λ i. later i))
    ∙ ap (λ (k : ℕ). equation_line n k mask ++ pieces (λ i. equation_line n (index + suc i) (get_or masks i 0)) (length masks)) (sym first)
    ∙ sym (pieces-front (equation_at n index (mask ∷ masks)) (length masks))
  where
    later : (i : ℕ) → equation_line n (index + 1 + i) (get_or masks i 0) ≡ equation_line n (index + suc i) (get_or masks i 0)
    later i =
        let e : index + 1 + i ≡ index + suc i = omega arith in
        ap (λ (k : ℕ). equation_line n k (get_or masks i 0)) e

-- ---- factors of constants and masks

pub zip_length : (constants masks : List ℕ) → length constants ≡ length masks → length (zip_with factor constants masks) ≡ length masks
unfolding zip_with
zip_length [] [] e = refl
zip_length [] (m ∷ ms) e = absurd (omega arith)
zip_length (c ∷ cs) [] e = absurd (omega arith)
zip_length (c ∷ cs) (m ∷ ms) e = ap suc (zip_length cs ms (omega arith))

pub zip-at : (constants masks : List ℕ) → length constants ≡ length masks → (i : ℕ) → get_or (zip_with factor constants masks) i (factor 0 0) ≡ factor (get_or constants i 0) (get_or masks i 0)
unfolding zip_with
zip-at [] [] e i = refl
zip-at [] (m ∷ ms) e i = absurd (omega arith)
zip-at (c ∷ cs) [] e i = absurd (omega arith)
zip-at (c ∷ cs) (m ∷ ms) e zero = refl
zip-at (c ∷ cs) (m ∷ ms) e (suc i) = zip-at cs ms (omega arith) i

-- The text of the factor at a place of the lists.
abbrev pub factor_at : ℕ → List ℕ → List ℕ → ℕ → List ℕ
factor_at n constants masks i = factor_text n (factor (get_or constants i 0) (get_or masks i 0))

pub factors-pieces : (n : ℕ) (constants masks : List ℕ) → length constants ≡ length masks
    → flat_map (factor_text n) (zip_with factor constants masks) ≡ pieces (factor_at n constants masks) (length masks)
factors-pieces n cs ms e =
    flat-pieces (factor_text n) (factor 0 0) (zip_with factor cs ms)
    ∙ ap (pieces (λ i. factor_text n (get_or (zip_with factor cs ms) i (factor 0 0)))) (zip_length cs ms e)
    ∙ pieces-same (λ i. factor_text n (get_or (zip_with factor cs ms) i (factor 0 0))) (factor_at n cs ms) (length ms)
    (λ i. ap (factor_text n) (zip-at cs ms e i))
