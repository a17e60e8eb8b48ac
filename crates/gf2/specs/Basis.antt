-- The reduced basis: what it is, how one vector is put into it, and the reduced basis of a set that a test gives
-- (document 01, "Points and spaces"). Read next: crate `basis`.
use Rattle.std.specs.Prelude.{◌≡◌, Bool, false, not, cond, ◌&&◌, ◌||◌, List, [], ◌∷◌, ◌++◌, map, ℕ, zero, suc, ◌^◌, ◌<◌, ltb, eqb}
use Rattle.gf2.specs.Bits.{◌⊕◌, lead, has_lead, index_of}
use Rattle.gf2.specs.Finite.{Mem, all, select}

-- Two vectors of a reduced basis, b before c: they rise, and neither has the other's lead bit.
pub record LeadsApart (b c : ℕ) : Type 0 where
  pub rises : b < c
  pub lower : has_lead b c ≡ false
  pub upper : has_lead c b ≡ false

-- A reduced basis: no vector is 0, so that each has a lead; the vectors rise; no lead bit is set in another vector.
abbrev pub Reduced : List ℕ → Type 0
Reduced [] = Unit {0}
Reduced (b ∷ bs) = (0 < b) × ((c : ℕ) → Mem c bs → LeadsApart b c) × Reduced bs

-- x with the lead bit of b cleared, by XOR with b where the bit is set.
unfoldable pub clear : ℕ → ℕ → ℕ
clear b x = cond (has_lead b x) (x ⊕ b) x

-- x with the lead bit of each vector cleared in turn.
unfoldable pub reduce : List ℕ → ℕ → ℕ
reduce [] x = x
reduce (b ∷ bs) x = reduce bs (clear b x)

-- r put at its place in a rising list.
unfoldable pub place : ℕ → List ℕ → List ℕ
place r [] = r ∷ []
place r (c ∷ cs) = cond (ltb r c) (r ∷ c ∷ cs) (c ∷ place r cs)

-- r, which is reduced and not 0, put into the basis: its lead bit is cleared in the others.
unfoldable pub join : ℕ → List ℕ → List ℕ
join r bs = place r (map (clear r) bs)

-- The basis with v put in: v is reduced, and a vector already in the space changes nothing.
unfoldable pub insert : List ℕ → ℕ → List ℕ
insert bs v = cond (eqb (reduce bs v) 0) bs (join (reduce bs v) bs)

-- The basis with the vectors put in one at a time, first to last.
unfoldable pub inserts : List ℕ → List ℕ → List ℕ
inserts bs [] = bs
inserts bs (v ∷ vs) = inserts (insert bs v) vs

-- The full basis of n variables: the vectors of one bit, rising.
unfoldable pub units : ℕ → List ℕ
units zero = []
units (suc n) = units n ++ (2 ^ n ∷ [])

-- u is a vector of the set and not 0, and its lead bit is set in v.
unfoldable pub reduces : (ℕ → Bool) → ℕ → ℕ → Bool
reduces P v u = P u && (ltb 0 u && has_lead u v)

-- v is a vector of the set and not 0, and no smaller one reduces it.
unfoldable pub irreducible : (ℕ → Bool) → ℕ → Bool
irreducible P v = P v && (ltb 0 v && all (λ u. not (reduces P v u)) v)

-- The reduced basis of a space of n variables that a test gives, rising: its irreducible vectors.
-- That it is reduced and spans the space is `basis-reduced` and `basis-span`.
unfoldable pub reduced_basis : ℕ → (ℕ → Bool) → List ℕ
reduced_basis n P = select (irreducible P) (2 ^ n)

-- The place k is the lead of a vector of the list.
unfoldable pub is_lead : List ℕ → ℕ → Bool
is_lead [] k = false
is_lead (b ∷ bs) k = eqb (lead b) k || is_lead bs k

-- The lead bits of a reduced basis as one number.
unfoldable pub lead_mask : List ℕ → ℕ
lead_mask [] = 0
lead_mask (b ∷ bs) = 2 ^ lead b ⊕ lead_mask bs

-- The places below n that pass the test, the highest first: so their variables stand in index order.
unfoldable pub places_at : ℕ → (ℕ → Bool) → List ℕ
places_at zero q = []
places_at (suc k) q = cond (q k) (k ∷ places_at k q) (places_at k q)

-- The canonical variables of a basis are its lead variables, the noncanonical ones the rest: their places, and their indices.
abbrev pub canonical_places : ℕ → List ℕ → List ℕ
canonical_places n bs = places_at n (is_lead bs)

abbrev pub noncanonical_places : ℕ → List ℕ → List ℕ
noncanonical_places n bs = places_at n (λ k. not (is_lead bs k))

abbrev pub variables_at : ℕ → List ℕ → List ℕ
variables_at n ks = map (index_of n) ks
