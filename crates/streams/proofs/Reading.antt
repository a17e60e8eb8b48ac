-- The bytes that were read lie in the room: what a program goes by that has taken their number out of the answer.
use mathlib.Core.Path.{◌≡◌, subst}
use mathlib.Core.List.{List}
use Prim.Native.Nat.{ℕ, ◌≤◌}
use lib.ListN.{length}
use Rattle.std.specs.Prelude.{Result, Ok}
use Rattle.streams.specs.Reading.{ReadInto}

pub read-within : {E : Type 0} (count : ℕ) (room : List ℕ) {read : Result ℕ E} → ReadInto read room → read ≡ Ok count → count ≤ length room
read-within {E} count room h e = (subst (λ (r : Result ℕ E). ReadInto r room) e h).0
