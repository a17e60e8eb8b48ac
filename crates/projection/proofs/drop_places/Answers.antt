-- `projection::drop_places` meets its contract: the point so far, projected to the places that are clear in the rest of the mask, is the answer.
-- Assumes nothing.
use mathlib.Core.Path.{◌≡◌, refl, sym, ap, ◌∙◌, subst}
use mathlib.Core.Logic.{◌≢◌}
use Prim.Native.Nat.{ℕ, ◌*◌, ◌%◌, ◌^◌, ◌<◌}
use native.Mathlib.Nat.{pos_of_ne-zero}
use native.Mathlib.Omega.{arith}
use lib.Pow.{pow_pos}
use Rattle.gf2.specs.Bits.{◌⊕◌, Highest, lead}
use Rattle.gf2.proofs.Xor.{shifted_one}
use Rattle.gf2.proofs.Leads.{lead-highest, lead-fits, lead-pow, has_lead-lt}
use Rattle.space.specs.Restriction.{project}
use Rattle.projection.specs.Masks.{places_clear}
use Rattle.projection.proofs.Masks.{project-whole}
use Rattle.projection.proofs.Dropping.{drop_le, project-drop}
use Rattle.projection.proofs.drop_places.Goals as goal

pub loop-left-init : goal.loop-left-init
loop-left-init c = (c.ranges.mask.fits, λ n h. (h, refl))

pub lead-place-requires : goal.lead-place-requires
lead-place-requires c = pos_of_ne-zero c.loop-left-test.true

-- Something is left of the mask: its highest place, one of 16.
module _ (left place : ℕ) (some : left ≢ 0) (e : place ≡ lead left) (h : left < 2 ^ 16) where
  top : Highest place left
  top = subst (λ (k : ℕ). Highest k left) (sym e) (lead-highest left (pos_of_ne-zero some))

  within : place < 16
  within = rw e (lead-fits 16 left (pos_of_ne-zero some) h)

  -- The mask without it, in 16 bits.
  rest : left ⊕ (1 * 2 ^ place % 2 ^ 16) ≡ left ⊕ 2 ^ place
  rest = rw (shifted_one place 16 within)

  less : left ⊕ 2 ^ place < left
  less = has_lead-lt (2 ^ place) left (pow_pos place) (rw (lead-pow place) top.set)

pub drop_place-point-requires : goal.drop_place-point-requires
drop_place-point-requires c = within c.loop-left.left c.lead-place.result c.loop-left-test.true c.lead-place.ensures c.loop-left.invariant.0

pub overflow_cast-left : goal.overflow_cast-left
overflow_cast-left c = omega (arith, within c.loop-left.left c.lead-place.result c.loop-left-test.true c.lead-place.ensures c.loop-left.invariant.0)

pub overflow_shl-left : goal.overflow_shl-left
overflow_shl-left c = within c.loop-left.left c.lead-place.result c.loop-left-test.true c.lead-place.ensures c.loop-left.invariant.0

pub loop-left-smaller : goal.loop-left-smaller
loop-left-smaller c =
    let l = c.loop-left in
    let k = c.lead-place in
    rw (rest l.left k.result c.loop-left-test.true k.ensures l.invariant.0) (less l.left k.result c.loop-left-test.true k.ensures l.invariant.0)

pub loop-left-preserved : goal.loop-left-preserved
loop-left-preserved c =
    let l = c.loop-left in
    let some = c.loop-left-test.true in
    let e = c.lead-place.ensures in
    let h = l.invariant.0 in
    let k = c.lead-place.result in (
      rw (rest l.left k some e h) (omega (arith, less l.left k some e h, h)),
      λ n i. (
        rw c.drop_place-point.ensures (omega (arith, drop_le k l.point, (l.invariant.1 n i).0)),
        rw (rest l.left k some e h, c.drop_place-point.ensures) (sym (project-drop k l.left (top l.left k some e h) n l.point (l.invariant.1 n i).0) ∙ (l.invariant.1 n i).1),
      ),
    )

pub returns : goal.returns
returns c n h =
    let l = c.loop-left in
    let so_far = l.invariant.1 n h in
    sym (project-whole n l.point so_far.0) ∙ sym (ap (λ (m : ℕ). project (places_clear n m) l.point) c.loop-left-test.false) ∙ so_far.1
