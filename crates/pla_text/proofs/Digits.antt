-- Laws of specs.Numbers: the digits of a word one by one. Read next: Directives.
use mathlib.Core.Path.{◌≡◌, refl}
use mathlib.Core.Bool.{Bool, true, false, cond, ◌&&◌}
use mathlib.Core.List.{List, [], ◌∷◌}
use Prim.Native.Nat.{ℕ, ◌+◌, ◌*◌, ◌-◌, ◌≤◌, ◌<◌}
use native.Mathlib.Numerals.{add-one}
use native.Mathlib.Omega.{arith}
use lib.Dec.{ltb}
use borrow.Author.Tests.{ltb-true}
use lib.ListN.{length, drop, get_or, drop_of_length-le}
use lib.Seq.{drop-cons}
use Rattle.std.proofs.Common.{Some, None}
use Rattle.std.proofs.lemmas.Option.{none-some, same_Some}
use Rattle.pla_text.specs.Numbers.{number_limit, is_digit, with_digit, number_from}

pub number-next : (word : List ℕ) (value i : ℕ) → i < length word → number_from (Some value) (drop i word) ≡ number_from (with_digit value (get_or word i 0)) (drop (i + 1) word)
unfolding number_from
number-next word value i h = rw (add-one, drop-cons word i 0 h)

pub number-end : (word : List ℕ) (value i : ℕ) → length word ≤ i → number_from (Some value) (drop i word) ≡ Some value
unfolding number_from
number-end word value i h = rw (drop_of_length-le word {i = i} h)

pub number-none : (word : List ℕ) → number_from None word ≡ None
unfolding number_from
number-none [] = refl
number-none (byte ∷ word) = refl

-- A number is below the limit.
pub digit-small : (value byte next : ℕ) → with_digit value byte ≡ Some next → next < number_limit
unfolding with_digit
digit-small value byte next = go (is_digit byte) (ltb (10 * value + (byte - 48)) number_limit) refl
  where
    go : (t u : Bool) → ltb (10 * value + (byte - 48)) number_limit ≡ u → cond (t && u) (Some (10 * value + (byte - 48))) None ≡ Some next → next < number_limit
    go true true e h = omega (arith, ltb-true (10 * value + (byte - 48)) number_limit e, same_Some _ _ h)
    go true false e h = absurd (none-some next h)
    go false u e h = absurd (none-some next h)
