-- What reading gives: the number of bytes, and what it is for them to be the start of an input. That they are is what no contract can say; contracts
-- of the programs are about every input of which they are the start. Read next: the programs.
use Rattle.std.specs.Prelude.{◌≡◌, Result, Ok, Err, List, ℕ, length, take}
use Rattle.std.specs.Counts.{IsPrefixLen}

-- The bytes that were read lie in the room.
abbrev pub ReadInto : {E : Type 0} → Result ℕ E → List ℕ → Type 0
ReadInto (Ok count) room = IsPrefixLen count room
ReadInto (Err error) room = Unit {0}

-- The first `count` bytes of the room are the whole input, or as much of it as the room holds.
abbrev pub StartOf : List ℕ → List ℕ → ℕ → Type 0
StartOf whole room count = take count room ≡ take (length room) whole
