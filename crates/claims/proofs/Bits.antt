-- The claim about leads and parities by counts holds: the laws of crates `gf2` and `product` in 16 bits. That the common bits taken one by one have the
-- parity of `odd` is shown here. Read next: Indexed.
use mathlib.Core.Path.{◌≡◌, refl, sym, ap, ◌∙◌, subst}
use mathlib.Core.Bool.{Bool, true, false, not, cond, beq}
use mathlib.Core.Logic.{◌↔◌}
use mathlib.Core.List.{List, [], ◌∷◌}
use Prim.Native.Nat.{ℕ, zero, suc, ◌/◌, ◌^◌, ◌<◌}
use native.Mathlib.Omega.{arith}
use lib.Dec.{eqb}
use Rattle.gf2.specs.Bits.{◌⊻◌, bit, index_of, Highest, halvings, lead}
use Rattle.gf2.specs.Finite.{Mem}
use Rattle.gf2.specs.Parity.{odd_in, odd}
use Rattle.gf2.specs.Basis.{is_lead, lead_mask, places_at, canonical_places, variables_at}
use Rattle.gf2.proofs.Logic.{⊻-assoc, ⊻-comm}
use Rattle.gf2.proofs.Finite.{map-mem, mem-map}
use Rattle.gf2.proofs.Leads.{lead-highest, lead-zeros, highest-unique}
use Rattle.gf2.proofs.Odd.{odd-ones, odd-width}
use Rattle.gf2.proofs.Reduce.{reduced-pos}
use Rattle.gf2.proofs.Variables.{is_lead-at, bit-lead_mask, places-mem, mem-places}
use Rattle.gf2.proofs.lead.Reads as contract-lead
use Rattle.gf2.proofs.parity.Reads as contract-parity
use Rattle.basis.specs.declared.Basis.{Basis}
use Rattle.basis.specs.Short.{short}
use Rattle.basis.specs.Reduced.{vectors_of, basis_of, IsBasis}
use Rattle.basis.proofs.Values.{short-listed}
use Rattle.basis.proofs.Basis.leads.Reads as contract-leads
use Rattle.basis.proofs.Basis.canonical.Reads as contract-canonical
use Rattle.product.specs.Lowest.{even_halvings, lowest}
use Rattle.product.specs.Product.{factor, factor_at}
use Rattle.product.proofs.LowestBit.{lowest-is, lowest-zeros, lowest-unique}
use Rattle.product.proofs.lowest.Reads as contract-lowest
use Rattle.product.proofs.factor_at.Reads as contract-factor-at
use Rattle.cubes.proofs.Counts.{mem-is_lead}
use Rattle.claims.specs.Bits.{common, parity_below, LeadAt, LeadVariable, LeadFound, LowestFound, BitsCounted}

-- ---- tried

-- Masks 12 and 11, of the example P5, with one, two, three and no bits in common with a point; and the highest place.
parities : (parity_below 16 12 8 ≡ true) × (parity_below 16 12 14 ≡ false) × (parity_below 16 11 15 ≡ true) × (parity_below 16 11 4 ≡ false) × (parity_below 16 32768 32769 ≡ true)
unfolding parity_below bit
parities = (refl, refl, refl, refl, refl)

-- The contracts let these through: of vector 6 the lead at place 2; of mask 12 the lowest bit at place 2; of mask 12 at point 8 an odd number of bits, so
-- that the factor of constant 1 is true there; of the basis 3, in three variables, the lead bit 2, and x2 canonical.
lead-returned : contract-lead.Learnt tt (6, tt) 2 (6, tt)
unfolding lead halvings
lead-returned = refl

lowest-returned : contract-lowest.Learnt tt (12, tt) 2 (12, tt)
unfolding lowest even_halvings bit
lowest-returned = refl

parity-returned : contract-parity.Learnt tt (12, (8, tt)) true (12, (8, tt)) × contract-factor-at.Learnt tt (1, (12, (8, tt))) true (1, (12, (8, tt)))
unfolding odd odd_in bit factor_at
parity-returned = (refl, refl)

leads-returned : contract-leads.Learnt tt (basis_of (3 ∷ []), tt) 2 (basis_of (3 ∷ []), tt) × contract-canonical.Learnt tt (basis_of (3 ∷ []), (3, tt)) (short (2 ∷ [])) (basis_of (3 ∷ []), (3, tt))
unfolding lead halvings lead_mask is_lead places_at
leads-returned = (refl, refl)

-- ---- a lead

lead-found : (v : ℕ) → 0 < v → v < 2 ^ 16 → LeadFound v (lead v)
lead-found v p h = record {
  highest = lead-highest v p;
  only = λ k t. highest-unique k (lead v) v t (lead-highest v p);
  counted = omega (arith, lead-zeros 16 v p h);
}

lowest-found : (mask : ℕ) → 0 < mask → mask < 2 ^ 16 → LowestFound mask (lowest mask)
lowest-found mask p h = record {
  lowest = lowest-is mask p;
  only = λ k t. lowest-unique k (lowest mask) mask t (lowest-is mask p);
  counted = sym (lowest-zeros 16 mask p h);
}

-- ---- a parity

turn : (t b : Bool) → cond t (not b) b ≡ t ⊻ b
turn true b = refl
turn false b = refl

swap : (a b c : Bool) → a ⊻ (b ⊻ c) ≡ b ⊻ (a ⊻ c)
swap a b c = sym (⊻-assoc a b c) ∙ ap (λ (t : Bool). t ⊻ c) (⊻-comm a b) ∙ ⊻-assoc b a c

-- The lowest place may be taken first.
lowest-first : (k mask point : ℕ) → parity_below (suc k) mask point ≡ common mask point 0 ⊻ parity_below k (mask / 2) (point / 2)
unfolding parity_below bit
lowest-first zero mask point = turn (common mask point 0) false
lowest-first (suc k) mask point =
    let last = common mask point (suc k) in
    turn last (parity_below (suc k) mask point)
    ∙ ap (λ (t : Bool). last ⊻ t) (lowest-first k mask point)
    ∙ swap last (common mask point 0) (parity_below k (mask / 2) (point / 2))
    ∙ ap (λ (t : Bool). common mask point 0 ⊻ t) (sym (turn last (parity_below k (mask / 2) (point / 2))))

-- So the common bits one by one have the parity of `odd_in`.
singly : (k mask point : ℕ) → odd_in k mask point ≡ parity_below k mask point
unfolding odd_in parity_below
singly zero mask point = refl
singly (suc k) mask point = ap (λ (t : Bool). common mask point 0 ⊻ t) (singly k (mask / 2) (point / 2)) ∙ sym (lowest-first k mask point)

odd-singly : (mask point : ℕ) → mask < 2 ^ 16 → odd mask point ≡ parity_below 16 mask point
odd-singly mask point h = odd-width 16 mask point h ∙ singly 16 mask point

factor-singly : (constant mask point : ℕ) → mask < 2 ^ 16 → factor_at (factor constant mask) point ≡ beq (parity_below 16 mask point) (eqb constant 1)
unfolding factor_at
factor-singly constant mask point h = ap (λ (t : Bool). beq t (eqb constant 1)) (odd-singly mask point h)

-- ---- the leads of a basis

module _ (basis : Basis) (s : IsBasis basis) where
  abbrev bs : List ℕ
  bs = vectors_of basis

  is-lead : (k : ℕ) → (is_lead bs k ≡ true) ↔ LeadAt basis k
  is-lead k = (there, back)
    where
      top : (b : ℕ) → Mem b bs → Highest (lead b) b
      top b m = lead-highest b (reduced-pos bs s.reduced b m)

      there : is_lead bs k ≡ true → LeadAt basis k
      there e = let c = is_lead-at bs k e in (c.0, c.1, subst (λ (j : ℕ). Highest j c.0) c.2 (top c.0 c.1))

      back : LeadAt basis k → is_lead bs k ≡ true
      back (b, m, t) = rw (highest-unique k (lead b) b t (top b m)) (mem-is_lead bs b m)

  lead-mask : (k : ℕ) → (bit k (lead_mask bs) ≡ true) ↔ LeadAt basis k
  lead-mask k = let e = bit-lead_mask bs s.reduced k in (λ t. (is-lead k).0 (sym e ∙ t), λ l. e ∙ (is-lead k).1 l)

  canonical-leads : (n i : ℕ) → Mem i (variables_at n (canonical_places n bs)) ↔ LeadVariable basis n i
  canonical-leads n i = (there, back)
    where
      there : Mem i (variables_at n (canonical_places n bs)) → LeadVariable basis n i
      there m =
          let j = map-mem (index_of n) (canonical_places n bs) i m in
          let at = places-mem (is_lead bs) n j.0 j.1 in
          (j.0, at.0, j.2, (is-lead j.0).0 at.1)

      back : LeadVariable basis n i → Mem i (variables_at n (canonical_places n bs))
      back (k, h, e, l) = rw e (mem-map (index_of n) (canonical_places n bs) k (mem-places (is_lead bs) n k h ((is-lead k).1 l)))

-- ---- the claim

-- Each contract says that a term is returned, of which the laws above speak.
pub bits-counted : BitsCounted
bits-counted = record {
  lead = λ v p h. (p, λ place e q. subst (LeadFound v) (sym q) (lead-found v p h));
  lowest = λ mask p h. (p, λ place e q. subst (LowestFound mask) (sym q) (lowest-found mask p h));
  parity = λ mask point h. (tt, λ r e q. record { singly = q ∙ odd-singly mask point h; counted = q ∙ odd-ones mask point });
  factor-at = λ constant mask point h. (tt, λ r e q. q ∙ factor-singly constant mask point h);
  leads = λ basis s. (s, λ mask e q k. subst (λ (m : ℕ). (bit k m ≡ true) ↔ LeadAt basis k) (sym q) (lead-mask basis s k));
  canonical = λ basis s n few. (
    (s, few),
    λ found e q i.
        subst (λ (l : List ℕ). Mem i l ↔ LeadVariable basis n i) (sym (short-listed found (variables_at n (canonical_places n (vectors_of basis))) q)) (canonical-leads basis s n i),
  );
}
