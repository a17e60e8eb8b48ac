-- Laws of specs.Cubes: the inputs of a cube one by one at a point. Read next: Marking.
use mathlib.Core.Path.{◌≡◌}
use mathlib.Core.Bool.{◌&&◌, true}
use mathlib.Core.List.{List}
use Prim.Native.Nat.{ℕ, suc, ◌+◌, ◌-◌, ◌≤◌, ◌<◌}
use native.Mathlib.Numerals.{add-one}
use native.Mathlib.Omega.{arith}
use lib.ListN.{length, drop, get_or, drop_of_length-le, length-drop}
use lib.Seq.{drop-cons}
use Rattle.gf2.specs.Bits.{bit}
use Rattle.pla_cubes.specs.Cubes.{allows, covers}

pub covers-next : (inputs : List ℕ) (i p : ℕ) → i < length inputs → covers (drop i inputs) p ≡ allows (get_or inputs i 0) (bit (length inputs - 1 - i) p) && covers (drop (i + 1) inputs) p
unfolding covers
covers-next inputs i p h =
    let k : length (drop (suc i) inputs) ≡ length inputs - 1 - i = omega (arith, length-drop (suc i) inputs) in
    rw (add-one, drop-cons inputs i 0 h, k)

pub covers-end : (inputs : List ℕ) (i p : ℕ) → length inputs ≤ i → covers (drop i inputs) p ≡ true
unfolding covers
covers-end inputs i p h = rw (drop_of_length-le inputs {i = i} h)
