-- Lent room filled from the front, one element at each turn of a loop or several at growing places, for any kind of element. Every function that
-- writes a list cites these.
-- Read next: Selecting.
use mathlib.Core.Path.{◌≡◌, sym, ap, ◌∙◌, subst}
use mathlib.Core.List.{List, [], ◌∷◌, ◌++◌}
use Prim.Native.Nat.{ℕ, suc, ◌+◌, ◌-◌, ◌≤◌, ◌<◌}
use native.Mathlib.Nat.{zero-add}
use native.Mathlib.Numerals.{add-one}
use native.Mathlib.Omega.{arith}
use lib.ListN.{length, take, drop, set, get_or, length-append, length-take, length-drop}
use lib.Seq.{sets, sets-eq, take-suc, take_all, take-append_seam, drop-cons, append_snoc, set-append_seam, length-take-le}
use Rattle.table.specs.Decision.{front}

-- The element stored behind those that are written already.
pub fill-push : {A : Type 0} (done room : List A) (a : A) → length done < length room → set (front done room) (length done) a ≡ front (done ++ (a ∷ [])) room
fill-push {A} done room a h =
    let rest = drop (suc (length done)) room in
    let l : length (done ++ (a ∷ [])) ≡ suc (length done) = omega (arith, length-append done (a ∷ [])) in
    ap (λ (r : List A). set (done ++ r) (length done) a) (drop-cons room (length done) a h)
    ∙ set-append_seam done (get_or room (length done) a) rest a ∙ sym (append_snoc done a rest)
    ∙ ap (λ (i : ℕ). (done ++ (a ∷ [])) ++ drop i room) (sym l)

-- The room keeps its length.
pub fill-length : {A : Type 0} (done room : List A) → length done ≤ length room → length (front done room) ≡ length room
fill-length done room h = omega (arith, length-append done (drop (length done) room), length-drop (length done) room)

-- As many entries of the room as the list has are there, and they are the list.
module _ {A : Type 0} (done room after : List A) (count : ℕ) (e : after ≡ front done room) (n : count ≡ length done) where
  pub front_fits : count ≤ length after
  front_fits = omega (arith, ap length e, length-append done (drop (length done) room))

  pub front-part : take (count - 0) after ≡ done
  front-part = let z : count - 0 ≡ length done = omega arith in rw (e, z) (take-append_seam done (drop (length done) room))

-- Where the whole answer is known: its i first elements are written, and one more.
pub fill-next : {A : Type 0} (answer room : List A) (i : ℕ) (d : A) → i < length answer → i < length room
    → set (front (take i answer) room) i (get_or answer i d) ≡ front (take (i + 1) answer) room
fill-next answer room i d h k =
    let l : length (take i answer) ≡ i = length-take-le i answer (omega arith) in
    rw (add-one, take-suc answer i d h) (subst (λ (j : ℕ). set (front (take i answer) room) j (get_or answer i d) ≡ front (take i answer ++ (get_or answer i d ∷ [])) room) l
    (fill-push (take i answer) room (get_or answer i d) (omega arith)))

pub fill-part : {A : Type 0} (answer room : List A) (i : ℕ) → i ≤ length room → length (front (take i answer) room) ≡ length room
fill-part answer room i h = fill-length (take i answer) room (omega (arith, length-take i answer))

-- All of it is written.
pub fill-all : {A : Type 0} (answer room : List A) (i : ℕ) → length answer ≤ i → front (take i answer) room ≡ front answer room
fill-all {A} answer room i h = ap (λ (l : List A). front l room) (take_all i answer h)

-- ---- elements stored at growing places

-- Stored behind those that were stored before.
pub sets-append : {A : Type 0} (room : List A) (at : ℕ) (first second : List A) (next : ℕ) → next ≡ at + length first → sets (sets room at first) next second ≡ sets room at (first ++ second)
sets-append room at [] second next e = let q : next ≡ at = omega arith in ap (λ (k : ℕ). sets room k second) q
sets-append room at (v ∷ first) second next e = sets-append (set room at v) (suc at) first second next (omega arith)

-- Stored from the front on.
pub sets-front : {A : Type 0} (room list : List A) → length list ≤ length room → sets room 0 list ≡ front list room
sets-front room list h = sets-eq list room 0 (omega arith) ∙ ap (λ (k : ℕ). list ++ drop k room) (zero-add (length list))
