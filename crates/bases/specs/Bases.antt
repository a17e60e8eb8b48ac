-- What an entry of the table says, and which entries serve fewer variables and a given least point. Read next: Entry.
use Rattle.std.specs.Prelude.{Bool, ◌&&◌, List, [], ◌∷◌, ℕ, zero, suc, ◌+◌, ◌-◌, ◌/◌, ◌%◌, ◌^◌, get_or, ltb, eqb}
use Rattle.std.proofs.Math.Seq.{slice}
use Rattle.std.specs.Int.Bits.{bit_and}
use Rattle.bases.specs.Entries.{entries}

-- The number of entries.
abbrev pub entry_count : ℕ
entry_count = 2825

-- The entries of bases of d vectors stand from `start d` to before `stop d`.
abbrev pub start : ℕ → ℕ
start d = get_or (2824 ∷ 2761 ∷ 2110 ∷ 715 ∷ 64 ∷ 1 ∷ 0 ∷ []) d 0

abbrev pub stop : ℕ → ℕ
stop d = get_or (2825 ∷ 2824 ∷ 2761 ∷ 2110 ∷ 715 ∷ 64 ∷ 1 ∷ []) d 0

unfoldable pub entries_of : ℕ → List ℕ
entries_of d = slice (start d) (stop d) entries

-- The vectors of an entry of d vectors, and its lead bits as one number.
unfoldable pub vectors_of : ℕ → ℕ → List ℕ
vectors_of zero e = []
vectors_of (suc d) e = e % 256 ∷ vectors_of d (e / 256)

abbrev pub mask_of : ℕ → ℕ
mask_of e = e / 2 ^ 48

-- The entry is a basis of n variables, as its lead bits tell.
abbrev pub fits_entry : ℕ → ℕ → Bool
fits_entry n e = ltb (mask_of e) (2 ^ n)

-- The lead bits that no basis of n variables with the least point p has: those of p, and those that n variables don't have. One number below 64, since p
-- is below 2 ^ n.
abbrev pub avoided : ℕ → ℕ → ℕ
avoided n p = p + (64 - 2 ^ n)

-- The entry is a basis of n variables, and p is a least point of one of its cosets: it has none of its lead bits.
unfoldable pub takes_point : ℕ → ℕ → ℕ → Bool
takes_point n p e = fits_entry n e && eqb (bit_and p (mask_of e)) 0
