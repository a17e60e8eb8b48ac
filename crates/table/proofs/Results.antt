-- What the result of a call that tests says of its tests: a refusal is theirs, and where nothing is refused none of them applies; and how the results of two
-- calls, one after the other, are that of their tests together. Read next: Places.
use mathlib.Core.Path.{◌≡◌, sym, ap, ◌∙◌}
use mathlib.Core.Logic.{◌≢◌}
use mathlib.Core.List.{List, ◌++◌}
use Prim.Native.Nat.{ℕ}
use native.Mathlib.Omega.{arith}
use Rattle.std.specs.Prelude.{Result, Err}
use Rattle.table.specs.declared.BytesFault.{BytesFault}
use Rattle.table.specs.declared.BytesFault.TheVariants.{WrongKind, Missing, WrongVariables, WrongFactor, NotCanonical, WrongCount, After, TooMany}
use Rattle.table.specs.Refusal.{Fault}
use Rattle.table.specs.declared.Refusal.{Refusal}
use Rattle.table.specs.declared.Refusal.TheVariants.{Variables, Point, Order, Shared, Size, Affine, Room, Place, Counts, FirstPoint, EmptyForm, Records, Bytes}
use Rattle.table.specs.Answers.{bytes_fault_number, number_of, place_of, fault_from}
use Rattle.table.specs.Refusal.{Test, fault_at, fault_of, first_fault, first_place, Numbered}
use Rattle.table.proofs.FirstFault.{fault-before, place-before, fault-append, place-append}

-- No refusal has the number 0.
pub bytes-number-nonzero : (fault : BytesFault) → bytes_fault_number fault ≢ 0
bytes-number-nonzero (WrongKind place) z = omega arith
bytes-number-nonzero (Missing place) z = omega arith
bytes-number-nonzero (WrongVariables place) z = omega arith
bytes-number-nonzero (WrongFactor place) z = omega arith
bytes-number-nonzero (NotCanonical place) z = omega arith
bytes-number-nonzero (WrongCount place) z = omega arith
bytes-number-nonzero (After place) z = omega arith
bytes-number-nonzero (TooMany place) z = omega arith

pub number-nonzero : (refusal : Refusal) → number_of refusal ≢ 0
number-nonzero Variables z = omega arith
number-nonzero Point z = omega arith
number-nonzero Order z = omega arith
number-nonzero Shared z = omega arith
number-nonzero Size z = omega arith
number-nonzero Affine z = omega arith
number-nonzero Room z = omega arith
number-nonzero Place z = omega arith
number-nonzero Counts z = omega arith
number-nonzero FirstPoint z = omega arith
number-nonzero EmptyForm z = omega arith
number-nonzero Records z = omega arith
number-nonzero (Bytes fault) z = bytes-number-nonzero fault z

-- A refusal by its number and its place.
abbrev pub told_by : Refusal → Fault
told_by refusal = fault_at (number_of refusal) (place_of refusal)

-- What `?` hands on of a refusal.
pub handed-on : {A : Type 0} {result : Result A Refusal} {refusal other : Refusal} → result ≡ Err refusal → refusal ≡ other → fault_from result ≡ told_by other
handed-on p q = ap fault_from (p ∙ ap Err q)

-- The number, and the place, that some tests give.
pub number-told : {number place : ℕ} (ts : List Test) → fault_at number place ≡ fault_of ts → number ≡ first_fault ts
number-told ts e = ap (λ (f : Fault). f.number) e

pub place-told : {number place : ℕ} (ts : List Test) → fault_at number place ≡ fault_of ts → place ≡ first_place ts
place-told ts e = ap (λ (f : Fault). f.place) e

-- A refusal by some tests is that of these and of others after them.
pub refused-before : (ts us : List Test) (refusal : Refusal) → told_by refusal ≡ fault_of ts → told_by refusal ≡ fault_of (ts ++ us)
refused-before ts us refusal e =
    let some : first_fault ts ≢ 0 = λ z. number-nonzero refusal (number-told ts e ∙ z) in
    let number = number-told ts e ∙ sym (fault-before ts us some) in
    let place = place-told ts e ∙ sym (place-before ts us some) in
    cc (number, place)

-- Where some tests refuse nothing, those after them decide.
pub passed-before : (ts us : List Test) → Numbered ts → fault_at 0 0 ≡ fault_of ts → fault_of us ≡ fault_of (ts ++ us)
passed-before ts us numbered e =
    let none = sym (number-told ts e) in
    let number = sym (fault-append ts us numbered none) in
    let place = sym (place-append ts us numbered none) in
    cc (number, place)
