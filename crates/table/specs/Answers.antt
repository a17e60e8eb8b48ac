-- What the code hands on of a refusal, by its number and its byte place, and what a call answers with. Read next: Table.
use Rattle.std.specs.Prelude.{ℕ, Result, Ok, Err}
use Rattle.table.specs.declared.BytesFault.{BytesFault}
use Rattle.table.specs.declared.BytesFault.TheVariants.{WrongKind, Missing, WrongVariables, WrongFactor, NotCanonical, WrongCount, After, TooMany}
use Rattle.table.specs.Refusal.{Fault}
use Rattle.table.specs.declared.Refusal.{Refusal}
use Rattle.table.specs.declared.Refusal.TheVariants.{Variables, Point, Order, Shared, Size, Affine, Room, Place, Counts, FirstPoint, EmptyForm, Records, Bytes}
use Rattle.table.specs.Refusal.{fault_at, variables_fault, point_fault, order_fault, shared_fault, size_fault, affine_fault, room_fault, place_fault, counts_fault, first_point_fault, empty_form_fault, records_fault, wrong_kind_fault, bytes_missing_fault, wrong_variables_fault, wrong_factor_fault, not_canonical_fault, wrong_count_fault, bytes_after_fault, too_many_products_fault}

-- The number of what is wrong with bytes.
abbrev pub bytes_fault_number : BytesFault → ℕ
bytes_fault_number (WrongKind place) = wrong_kind_fault
bytes_fault_number (Missing place) = bytes_missing_fault
bytes_fault_number (WrongVariables place) = wrong_variables_fault
bytes_fault_number (WrongFactor place) = wrong_factor_fault
bytes_fault_number (NotCanonical place) = not_canonical_fault
bytes_fault_number (WrongCount place) = wrong_count_fault
bytes_fault_number (After place) = bytes_after_fault
bytes_fault_number (TooMany place) = too_many_products_fault

-- The byte place that goes with it.
abbrev pub bytes_fault_place : BytesFault → ℕ
bytes_fault_place (WrongKind place) = place
bytes_fault_place (Missing place) = place
bytes_fault_place (WrongVariables place) = place
bytes_fault_place (WrongFactor place) = place
bytes_fault_place (NotCanonical place) = place
bytes_fault_place (WrongCount place) = place
bytes_fault_place (After place) = place
bytes_fault_place (TooMany place) = place

-- The number of a refusal.
abbrev pub number_of : Refusal → ℕ
number_of Variables = variables_fault
number_of Point = point_fault
number_of Order = order_fault
number_of Shared = shared_fault
number_of Size = size_fault
number_of Affine = affine_fault
number_of Room = room_fault
number_of Place = place_fault
number_of Counts = counts_fault
number_of FirstPoint = first_point_fault
number_of EmptyForm = empty_form_fault
number_of Records = records_fault
number_of (Bytes fault) = bytes_fault_number fault

-- The byte place that goes with it, 0 where the number has none.
abbrev pub place_of : Refusal → ℕ
place_of Variables = 0
place_of Point = 0
place_of Order = 0
place_of Shared = 0
place_of Size = 0
place_of Affine = 0
place_of Room = 0
place_of Place = 0
place_of Counts = 0
place_of FirstPoint = 0
place_of EmptyForm = 0
place_of Records = 0
place_of (Bytes fault) = bytes_fault_place fault

-- The refusal number of what was found, 0 where nothing is refused; and with it the byte place.
abbrev pub refusal_number : {A : Type 0} → Result A Refusal → ℕ
refusal_number (Ok found) = 0
refusal_number (Err refusal) = number_of refusal

abbrev pub fault_from : {A : Type 0} → Result A Refusal → Fault
fault_from (Ok found) = fault_at 0 0
fault_from (Err refusal) = fault_at (number_of refusal) (place_of refusal)

-- What a call answers: what was found, or what it gives for the refusal.
abbrev pub settled : {A : Type 0} → (Refusal → A) → Result A Refusal → A
settled refused (Ok answer) = answer
settled refused (Err refusal) = refused refusal
