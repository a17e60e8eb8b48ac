-- Masks moved by a vector: bit x of a mask stands for place x. Read next: crates `point_sets` and `masks`.
use Rattle.std.specs.Prelude.{◌≡◌, List, [], ◌∷◌, ℕ, get_or}
use Rattle.gf2.specs.Bits.{◌⊕◌, bit}

-- The number of places of a mask, which is that of the points of six variables.
abbrev pub mask_size : ℕ
mask_size = 64

-- The places below 64 whose number has bit k clear, as a mask. That it is so is `all-places`.
abbrev pub low_places : ℕ → ℕ
low_places k =
    get_or (0x5555555555555555 ∷ 0x3333333333333333 ∷ 0x0F0F0F0F0F0F0F0F ∷ 0x00FF00FF00FF00FF ∷ 0x0000FFFF0000FFFF ∷ 0x00000000FFFFFFFF ∷ []) k 0

-- The mask r holds x exactly if the mask holds x XOR v.
abbrev pub Moved : ℕ → ℕ → ℕ → Type 0
Moved v mask r = (x : ℕ) → bit x r ≡ bit (x ⊕ v) mask

-- The same of each of several masks.
abbrev pub EachMoved : ℕ → List ℕ → List ℕ → Type 0
EachMoved v masks r = (i : ℕ) → Moved v (get_or masks i 0) (get_or r i 0)
