-- Sets of points, or vectors, of up to eight variables as bits of four words: what a set holds. Read next: crate `subspace_search`.
use Rattle.std.specs.Prelude.{◌≡◌, Bool, true, false, List, ℕ, ◌/◌, ◌%◌, ◌^◌, ◌≤◌, ◌<◌, get_or}
use Rattle.gf2.specs.Bits.{bit}
use Rattle.moves.specs.Moves.{mask_size}

-- The largest number of variables of a set, and the number of its points.
abbrev pub set_variables : ℕ
set_variables = 8

abbrev pub set_size : ℕ
set_size = 2 ^ set_variables

-- The set holds x: the bit of x in the word of x is set.
unfoldable pub member : List ℕ → ℕ → Bool
member set x = bit (x % mask_size) (get_or set (x / mask_size) 0)

-- r is the least number from a given one on that the set holds, or the number of points where it holds none.
pub record LeastFrom (set : List ℕ) (from r : ℕ) : Type 0 where
  pub above : from ≤ r
  pub most : r ≤ set_size
  pub none : (x : ℕ) → from ≤ x → x < r → member set x ≡ false
  pub held : r < set_size → member set r ≡ true
