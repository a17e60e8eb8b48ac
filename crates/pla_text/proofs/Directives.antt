-- Laws of specs.Statements: of the words of a line the first, the second, and whether there is a third, matter.
use mathlib.Core.Path.{◌≡◌, refl}
use mathlib.Core.List.{List, [], ◌∷◌}
use Prim.Native.Nat.{ℕ, suc}
use native.Mathlib.Omega.{arith}
use lib.ListN.{length}
use borrow.Author.Tests.{ne_eqb}
use Rattle.std.specs.List.{slice_get}
use Rattle.std.specs.Option.{is_some}
use Rattle.pla_text.specs.Statements.{end_of, directive_of, words_told}

-- Two words and more are as wrong as two.
directive-more : (name word next : List ℕ) (words : List (List ℕ)) → directive_of name (word ∷ [] ∷ []) ≡ directive_of name (word ∷ next ∷ words)
unfolding directive_of end_of
directive-more name word next words = rw (ne_eqb (suc (suc (length words))) 0 (λ e. omega arith), ne_eqb (suc (suc (length words))) 1 (λ e. omega arith)) refl

pub directive-told : (name : List ℕ) (words : List (List ℕ)) → directive_of name (words_told (slice_get words 0) (is_some (slice_get words 1))) ≡ directive_of name words
unfolding words_told
directive-told name [] = refl
directive-told name (word ∷ []) = refl
directive-told name (word ∷ next ∷ words) = directive-more name word next words
