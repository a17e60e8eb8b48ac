-- `subspace_search::narrow` meets its contract: what both sets hold, and what may follow. Assumes nothing.
use mathlib.Core.Path.{◌≡◌, sym, ap, ◌∙◌, subst}
use mathlib.Core.Bool.{Bool, not, ◌&&◌, and_assoc}
use mathlib.Core.List.{List}
use Prim.Native.Nat.{ℕ, ◌+◌, ◌^◌, ◌<◌}
use native.Mathlib.Nat.{lt_of_not-le}
use native.Mathlib.Numerals.{add-one}
use native.Mathlib.Decide.{dec_le}
use native.Mathlib.Omega.{arith}
use lib.ListN.{length}
use lib.Dec.{ltb, leb}
use borrow.Author.Rules.{rules}
use Rattle.gf2.specs.Bits.{◌⊕◌, bit, lead, has_lead}
use Rattle.gf2.proofs.Leads.{lead-fits}
use Rattle.point_sets.specs.Sets.{set_variables, set_size, member}
use Rattle.point_sets.proofs.Sets.{member-above}
use Rattle.subspace_search.specs.Search.{narrowed}
use Rattle.subspace_search.proofs.Words.{following-lead}
use Rattle.subspace_search.proofs.narrow.Goals as goal

-- The vectors of the set, those that XOR with b gives, both, those that may follow, and all of it.
module _ (set moved closed after found : List ℕ) (b : ℕ) (l : length closed ≡ 4) (p : 0 < b)
    (m : (x : ℕ) → member moved x ≡ member set (x ⊕ b)) (c : (x : ℕ) → member closed x ≡ member set x && member moved x)
    (f : (x : ℕ) → x < set_size → member after x ≡ leb (2 ^ (lead b + 1)) x && not (bit (lead b) x))
    (r : (x : ℕ) → member found x ≡ member closed x && member after x) where
  closed_at : (x : ℕ) → member closed x ≡ member set x && member set (x ⊕ b)
  closed_at x = c x ∙ ap (λ (t : Bool). member set x && t) (m x)

  -- Past all vectors there is none in the set with its sum.
  after-at : (x : ℕ) → member closed x && member after x ≡ member closed x && (ltb b x && not (has_lead b x))
  after-at x = elim (dec_le set_size x) [
    | yes h ↦ rw (member-above closed x l h)
    | no h ↦ ap (λ (t : Bool). member closed x && t) (rw add-one at (f x (lt_of_not-le h)) ∙ sym (following-lead b x p))
  ]

  narrowed_at : (x : ℕ) → member found x ≡ narrowed (member set) b x
  unfolding narrowed
  narrowed_at x =
      r x ∙ after-at x ∙ ap (λ (t : Bool). t && (ltb b x && not (has_lead b x))) (closed_at x)
      ∙ and_assoc (member set x) (member set (x ⊕ b)) (ltb b x && not (has_lead b x))

pub following-requires : goal.following-requires
following-requires c = omega (arith, c.lead.ensures, lead-fits set_variables c.args.b c.requires.0 c.requires.1)

pub returns : goal.returns
returns c =
    let long : length c.both-with_sums.result ≡ 4 = search rules in
    narrowed_at c.args.set.now c.moved_set-moved.result c.both-with_sums.result c.following.result.now c.both.result c.args.b long c.requires.0
    c.moved_set-moved.ensures c.both-with_sums.ensures
    (subst (λ (k : ℕ). (x : ℕ) → x < set_size → member c.following.result.now x ≡ leb (2 ^ (k + 1)) x && not (bit k x)) c.lead.ensures c.following.ensures)
    c.both.ensures
