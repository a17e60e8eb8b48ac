-- `factors::factors_at` meets its contract: the constants and the masks written are those of the masks passed. Assumes nothing.
use mathlib.Core.Path.{refl, ap, ap₂, ◌∙◌}
use Prim.Native.Nat.{ℕ, ◌<◌, ◌≤◌}
use native.Mathlib.Omega.{arith}
use borrow.Author.Rules.{rules}
use lib.ListN.{length, get_or}
use Rattle.basis.specs.declared.ShortList.{ShortList}
use Rattle.basis.specs.Short.{listed}
use Rattle.basis.proofs.Values.{short-len}
use Rattle.cover.specs.CanonicalProduct.{constant_at}
use Rattle.cover.specs.Substitution.{substitute_mask}
use Rattle.factors.proofs.Steps.{short-few, mapped-again, mapped-len, mapped_next, mapped-all}
use Rattle.factors.proofs.factors_at.Goals as goal
use Rattle.factors.proofs.factors_at.Goals.{In-loop-mask}

pub loop-mask-init : goal.loop-mask-init
loop-mask-init c = (refl, refl)

-- The mask at the index is one of those passed.
within : (c : In-loop-mask) → c.loop-mask.mask-index < length (listed c.args.masks)
within c = omega (arith, c.loop-mask-test.true, ap length c.as_slice-mask-items.ensures)

pub push-constants-requires : goal.push-constants-requires
push-constants-requires c =
    let l = c.loop-mask in
    let f : ℕ → ℕ = λ mask. constant_at mask c.args.point in
    let k = c.requires.masks_value in
    let h = within (goal.at.push-constants-requires c).In-loop-mask in
    record {
      self_value = mapped-again f c.args.masks k l.mask-index l.constants l.invariant.0;
      len_lt_max_variables = omega (arith, h, short-len c.args.masks (listed c.args.masks) k, mapped-len f c.args.masks k l.mask-index l.constants l.invariant.0 (omega (arith, h, short-len c.args.masks (listed c.args.masks) k)), short-few c.args.masks k (search rules));
    }

pub push-written-requires : goal.push-written-requires
push-written-requires c =
    let l = c.loop-mask in
    let f = substitute_mask (listed c.args.equations) in
    let k = c.requires.masks_value in
    let h = within (goal.at.push-written-requires c).In-loop-mask in
    record {
      self_value = mapped-again f c.args.masks k l.mask-index l.written l.invariant.1;
      len_lt_max_variables = omega (arith, h, short-len c.args.masks (listed c.args.masks) k, mapped-len f c.args.masks k l.mask-index l.written l.invariant.1 (omega (arith, h, short-len c.args.masks (listed c.args.masks) k)), short-few c.args.masks k (search rules));
    }

pub loop-mask-preserved : goal.loop-mask-preserved
loop-mask-preserved c =
    let l = c.loop-mask in
    let m = c.args.masks in
    let k = c.requires.masks_value in
    let h = within (goal.at.loop-mask-preserved c).In-loop-mask in
    let f : ℕ → ℕ = λ mask. constant_at mask c.args.point in
    let g = substitute_mask (listed c.args.equations) in
    let q = ap (λ ms. get_or ms l.mask-index 0) c.as_slice-mask-items.ensures in (
      mapped_next f m k l.mask-index l.constants l.invariant.0 h c.push-constants.result c.constant_at.result c.push-constants.ensures (c.constant_at.ensures ∙ ap f q),
      mapped_next g m k l.mask-index l.written l.invariant.1 h c.push-written.result c.substitute.result c.push-written.ensures (c.substitute.ensures ∙ ap g q),
    )

pub returns : goal.returns
returns c =
    let l = c.loop-mask in
    let h : length (listed c.args.masks) ≤ l.mask-index = omega (arith, c.loop-mask-test.false, ap length c.as_slice-mask-items.ensures) in
    ap₂ (λ (x y : ShortList). record { constants = x; masks = y })
    (mapped-all (λ (mask : ℕ). constant_at mask c.args.point) c.args.masks c.requires.masks_value l.mask-index l.constants l.invariant.0 h)
    (mapped-all (substitute_mask (listed c.args.equations)) c.args.masks c.requires.masks_value l.mask-index l.written l.invariant.1 h)
