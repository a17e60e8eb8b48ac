-- What can be wrong with the bytes of a table or of a form: a rule of its own for each refusal number from 20 to 27, in the words of document 02, No. 3.
-- A rule speaks of what stands after whole records, whether these are right or not, so that of one input several rules can be broken, at one byte or
-- at several. The walk reports the fault furthest to the left, and of two at one byte the smaller number: that is claimed in crate `claims`, and proved
-- of every walk by such rules (`ruled`). Read next: crate `stored`, with the rules of a table, and crate `form`, with those of a form.
use Rattle.std.specs.Prelude.{◌≡◌, Bool, true, false, cond, not, ◌&&◌, ◌||◌, List, [], ◌∷◌, ◌++◌, ℕ, ◌+◌, eqb, leb, length, get_or, take}
use Rattle.gf2.specs.Finite.{Mem}
use Rattle.table.specs.Refusal.{Test, test_at, wrong_kind_fault, bytes_missing_fault, wrong_variables_fault, wrong_factor_fault, not_canonical_fault, wrong_count_fault, bytes_after_fault, too_many_products_fault}
use Rattle.records.specs.declared.Kind.{Kind}
use Rattle.records.specs.declared.Kind.TheVariants.{Variables, Product, Factor, End, On, Free}
use Rattle.records.specs.Kinds.{kind_byte, body_length, head_of, word_of}
use Rattle.records.specs.Kinds.{RecordHead}
use Rattle.std.specs.Prelude.{Ok, Err}

-- ---- whole records, one after the other

-- A record: its kind and its body.
pub record Record : Type 0 where
  pub kind : Kind
  pub body : List ℕ

-- A record from its parts.
abbrev pub record_of : Kind → List ℕ → Record
record_of kind body = record { kind = kind; body = body }

-- All of its body is there.
abbrev pub IsWhole : Record → Type 0
IsWhole r = length r.body ≡ body_length r.kind

-- So is that of each of them.
abbrev pub AllWhole : List Record → Type 0
AllWhole rs = (r : Record) → Mem r rs → IsWhole r

-- The bytes of a record, and of several.
abbrev pub record_bytes : Record → List ℕ
record_bytes r = kind_byte r.kind ∷ r.body

unfoldable pub records_bytes : List Record → List ℕ
records_bytes [] = []
records_bytes (r ∷ rs) = record_bytes r ++ records_bytes rs

-- The byte place right after them.
abbrev pub place_after : List Record → ℕ
place_after before = length (records_bytes before)

-- A kind is the end record's.
abbrev pub is_end : Kind → Bool
is_end Variables = false
is_end Product = false
is_end Factor = false
is_end End = true
is_end On = false
is_end Free = false

-- A kind is the first record's, which gives n.
abbrev pub is_variables : Kind → Bool
is_variables Variables = true
is_variables Product = false
is_variables Factor = false
is_variables End = false
is_variables On = false
is_variables Free = false

-- The end record is among them.
unfoldable pub ended : List Record → Bool
ended [] = false
ended (r ∷ rs) = is_end r.kind || ended rs

-- How many records are of a kind that is counted.
unfoldable pub record_count : (Kind → Bool) → List Record → ℕ
record_count is_counted [] = 0
record_count is_counted (r ∷ rs) = cond (is_counted r.kind) 1 0 + record_count is_counted rs

-- ---- what a table, or a form, asks of its records

pub record Rules : Type 0 where
  -- A record of this kind may stand after these.
  pub admits : List Record → Kind → Bool
  -- One of this kind after these is a product too many.
  pub is_surplus : List Record → Kind → Bool
  -- The end record counts those of this kind.
  pub is_counted : Kind → Bool
  -- This body of a record 4E gives a wrong n.
  pub wrong_variables : List ℕ → Bool
  -- This body of a factor after these records has a wrong constant or mask, or doesn't agree with the factors before it in its product.
  pub wrong_factor : List Record → List ℕ → Bool
  pub disagrees : List Record → List ℕ → Bool
  -- The place is right after the longest input.
  pub is_longest : ℕ → Bool

-- How many of the records the end record counts.
abbrev pub counted_in : Rules → List Record → ℕ
counted_in rules before = record_count rules.is_counted before

-- ---- the rules, each with its number and the place that is given

-- No kind is awaited: the end record lies behind, or the longest input does.
abbrev pub is_closed : Rules → List Record → ℕ → Bool
is_closed rules before place = ended before || rules.is_longest place

-- The byte stands for a kind that may stand after these records.
abbrev pub is_admitted : Rules → List Record → RecordHead → Bool
is_admitted rules before (Ok (kind, l)) = rules.admits before kind
is_admitted rules before (Err fault) = false

-- It begins a product too many.
abbrev pub begins_surplus : Rules → List Record → RecordHead → Bool
begins_surplus rules before (Ok (kind, l)) = rules.is_surplus before kind
begins_surplus rules before (Err fault) = false

-- Faults at the byte of a kind: an unknown or misplaced kind where one is awaited, a byte where none is, a product too many.
abbrev pub kind_faults : Rules → List Record → ℕ → RecordHead → List Test
kind_faults rules before place head =
    test_at wrong_kind_fault place (not (is_closed rules before place) && not (is_admitted rules before head)) ∷
    test_at bytes_after_fault place (is_closed rules before place) ∷
    test_at too_many_products_fault place (not (is_closed rules before place) && begins_surplus rules before head) ∷
    []

-- The body of the end record gives another number than that of the points or products before it.
abbrev pub wrong_count : Rules → List Record → List ℕ → Bool
wrong_count rules before body = not (eqb (word_of (get_or body 0 0) (get_or body 1 0)) (counted_in rules before))

-- Faults in a body, by the kind of its record; they stand at the body's first byte.
abbrev pub body_faults : Rules → List Record → ℕ → Kind → List ℕ → List Test
body_faults rules before place Variables body = test_at wrong_variables_fault place (rules.wrong_variables body) ∷ []
body_faults rules before place Product body = []
body_faults rules before place Factor body =
    test_at wrong_factor_fault place (rules.wrong_factor before body) ∷ test_at not_canonical_fault place (rules.disagrees before body) ∷ []
body_faults rules before place End body = test_at wrong_count_fault place (wrong_count rules before body) ∷ []
body_faults rules before place On body = []
body_faults rules before place Free body = []

-- Bytes are missing, at the length of the input.
abbrev pub missing_faults : ℕ → List ℕ → List Test
missing_faults place rest = test_at bytes_missing_fault (place + 1 + length rest) true ∷ []

-- A body is judged only when all of it is there; a cut one is missing bytes.
abbrev pub body_or_missing : Rules → List Record → ℕ → RecordHead → List ℕ → List Test
body_or_missing rules before place (Ok (kind, l)) rest =
    cond (leb l (length rest)) (body_faults rules before (place + 1) kind (take l rest)) (missing_faults place rest)
body_or_missing rules before place (Err fault) rest = []

-- All faults right after these records, by the bytes that are left: bytes are missing where none is left and the end record doesn't lie behind.
abbrev pub faults_after : Rules → List Record → List ℕ → List Test
faults_after rules before [] = test_at bytes_missing_fault (place_after before) (not (ended before)) ∷ []
faults_after rules before (byte ∷ rest) =
    kind_faults rules before (place_after before) (head_of byte (place_after before))
    ++ body_or_missing rules before (place_after before) (head_of byte (place_after before)) rest

-- ---- one of them

-- A test of this number and place applies.
pub record Applies (ts : List Test) (number place : ℕ) : Type 0 where
  pub found : Test
  pub listed : Mem found ts
  pub applies : found.applies ≡ true
  pub numbered : found.number ≡ number
  pub placed : found.place ≡ place

-- ---- how far a fault reaches

-- The number of bytes from its place on that were judged: a body, or the byte of a kind.
abbrev pub judged_length : ℕ → ℕ
judged_length number =
    cond (eqb number wrong_factor_fault || eqb number not_canonical_fault) (body_length Factor)
    (cond (eqb number wrong_count_fault) (body_length End) 1)

-- The place after them: the end of the body, or of the one byte that decides.
abbrev pub fault_end : ℕ → ℕ → ℕ
fault_end number place = place + judged_length number
