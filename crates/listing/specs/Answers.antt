-- The listing call of some arguments, and its answer's numbers (document 01, "Primes"). What they are is said in crate `cubes`.
-- Read next: crate `cover`.
use Rattle.std.specs.Prelude.{List, ℕ}
use Rattle.cubes.specs.Listing.{Table, Call, Answer}
use Rattle.table.specs.declared.Refusal.{Refusal}
use Rattle.table.specs.Answers.{number_of}
use Rattle.listing.specs.declared.Listed.{Listed}

-- The table with these arguments, and the call.
abbrev pub table_of : ℕ → List ℕ → List ℕ → Table
table_of n on free = record { variables = n; on = on; free = free }

abbrev pub call_of : ℕ → List ℕ → List ℕ → ℕ → ℕ → List ℕ → Call
call_of n on free place allowance room = record {
  table = table_of n on free;
  place = place;
  allowance = allowance;
  room = room;
}

-- The numbers that are returned.
abbrev pub numbers_of : Listed → Answer
numbers_of r = record { refusal = r.refusal; next = r.next; passed = r.passed; records = r.records }

-- What a call returns for a refusal: its number, with all other numbers 0.
abbrev pub refused_listing : Refusal → Listed
refused_listing refusal = record { refusal = number_of refusal; next = 0; passed = 0; records = 0 }
