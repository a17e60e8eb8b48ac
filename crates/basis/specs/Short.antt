-- Short lists by value: at most `max_variables` numbers in an array, and how many there are. Read next: Reduced.
use Rattle.std.specs.Prelude.{List, ◌++◌, ℕ, ◌-◌, length, take, replicate}
use Rattle.gf2.specs.Limits.{max_variables}
use Rattle.basis.specs.declared.ShortList.{ShortList}

-- The numbers in use.
abbrev pub listed : ShortList → List ℕ
listed s = take s.len s.values

-- The array that holds a list: unused entries are 0.
abbrev pub padded : List ℕ → List ℕ
padded vs = vs ++ replicate (max_variables - length vs) 0

-- The value that stands for a list.
abbrev pub short : List ℕ → ShortList
short vs = record { values = padded vs; len = length vs }
