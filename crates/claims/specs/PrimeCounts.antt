-- Document 02, No. 6: the number of on points in each prime, said of the bytes that a listing call leaves in its room; and that with room for as many
-- records the rest of the answer is that of document 01's rule, under which a record has eight bytes. Demand 3, about lists of calls, reads with the new
-- record.
--
-- It is a claim about the running call, whose contract (crates/glospruma/src/lib.rt) says that the numbers it returns are `listing_answer` of its arguments
-- and that its room holds `listing_after` of them. Read next: Rooms.
use Rattle.std.specs.Prelude.{◌≡◌, Bool, ℕ, zero, suc, ◌/◌, ◌≤◌, length, get_or, take, drop}
use mathlib.Core.List.{List, [], ◌∷◌, map, flat_map}
use Rattle.gf2.specs.Finite.{Mem}
use Rattle.cubes.specs.Lists.{keep}
use Rattle.cubes.specs.Cubes.{points_of}
use Rattle.cubes.specs.Records.{candidate_bytes, candidate_told}
use Rattle.cubes.specs.Listing.{Table, Call, prime_of, ListingRule, ahead_of, listing_by, Answer, listing_answer_by, listing_after_by, listing_answer, listing_after}
use Rattle.cubes.specs.Calls.{handed_over, PrimeOf}

-- ---- the records of a room

-- The first so many records in a room, of so many bytes each.
unfoldable pub records_at : ℕ → ℕ → List ℕ → List (List ℕ)
records_at bytes zero room = []
records_at bytes (suc k) room = take bytes room ∷ records_at bytes k (drop bytes room)

-- Those that a call hands over: as many as its record count says, in the room as it returns.
abbrev pub records_handed : Call → List (List ℕ)
records_handed c = records_at 9 (listing_answer c).records (listing_after c)

-- The set of points that the bytes of a record tell, and its ninth byte.
abbrev pub set_told : List ℕ → ℕ → Bool
set_told bytes = points_of (candidate_told bytes)

abbrev pub ninth_byte : List ℕ → ℕ
ninth_byte bytes = get_or bytes 8 0

-- A record of nine bytes that tells a prime of the table, and how many of the points that the table lists as on are in it, 1 to 64.
pub record CountedRecord (t : Table) (bytes : List ℕ) : Type 0 where
  pub nine : length bytes ≡ 9
  pub prime : PrimeOf t (set_told bytes)
  pub count : ninth_byte bytes ≡ length (keep (set_told bytes) t.on)
  pub least : 1 ≤ ninth_byte bytes
  pub most : ninth_byte bytes ≤ 64

-- ---- the rule before

-- The same call with another room.
abbrev pub with_room : Call → List ℕ → Call
with_room c room = record { table = c.table; place = c.place; allowance = c.allowance; room = room }

-- Its numbers and its room by document 01, with a candidate's eight bytes for a record.
abbrev pub answer_before : Call → Answer
answer_before c = listing_answer_by 8 c

abbrev pub room_before : Call → List ℕ
room_before c = listing_after_by 8 candidate_bytes c

-- The room has place for as many records of nine bytes as the other has for records of eight, whatever bytes are left over in either.
abbrev pub AsManyRecords : List ℕ → List ℕ → Type 0
AsManyRecords room before = length room / 9 ≡ length before / 8

-- ---- the request

-- Of every call, refused ones too.
pub record PrimeCounts (c : Call) : Type 0 where
  -- Each record handed over is counted, and there is nothing else in what is handed over.
  pub each : (bytes : List ℕ) → Mem bytes (records_handed c) → CountedRecord c.table bytes
  pub joined : flat_map (λ bytes. bytes) (records_handed c) ≡ handed_over c
  -- How far a call went before is what the listing rule says for records of eight bytes.
  pub rule-before : (before : List ℕ)
      → ListingRule 8 (prime_of c.table) (ahead_of c) c.allowance (length before) (listing_by 8 (with_room c before))
  -- With room for as many records, the numbers returned are those of the rule before, places and passed counts among them; and so are the first eight bytes
  -- of each record.
  pub numbers : (before : List ℕ) → AsManyRecords c.room before → listing_answer c ≡ answer_before (with_room c before)
  pub first-eight : (before : List ℕ) → AsManyRecords c.room before
      → map (take 8) (records_handed c) ≡ records_at 8 (listing_answer c).records (room_before (with_room c before))
