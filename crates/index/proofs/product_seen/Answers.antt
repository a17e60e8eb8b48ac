-- `index::product_seen` meets its contract: the factors so far and those that are left make the product. Assumes nothing.
use mathlib.Core.Path.{◌≡◌, refl, sym, ap, ap₂, ◌∙◌}
use mathlib.Core.Bool.{Bool, ◌&&◌}
use mathlib.Core.List.{List, ◌∷◌}
use Prim.Native.Nat.{ℕ, ◌+◌, ◌*◌, ◌≤◌}
use native.Mathlib.Omega.{arith}
use lib.ListN.{length, drop}
use Rattle.gf2.proofs.Logic.{and-true}
use Rattle.product.specs.Product.{Factor, product_at}
use Rattle.form.specs.Decoding.{factor_of, parts_from, WholeFactors}
use Rattle.form.specs.Counting.{factor_length}
use Rattle.index.specs.Changes.{factors_of_product, product_seen}
use Rattle.index.proofs.Reading.{factor-there, factors-over, held_next, held_none}
use Rattle.index.proofs.product_seen.Goals as goal
use Rattle.index.proofs.product_seen.Goals.{After-still_holds-holds}

-- The factors that are left are whole; with what is known of those before them they make the product, and they end where it does.
pub loop-holds-init : goal.loop-holds-init
loop-holds-init c = (c.requires.1, refl, refl)

pub still_holds-holds-requires : goal.still_holds-holds-requires
still_holds-holds-requires c =
    (factor-there c.args.bytes.now c.loop-holds.next c.loop-holds.invariant.0 (sym c.factor_begins.ensures ∙ c.loop-holds-test.true)).0

-- A factor stands at the loop's place.
module _ (c : After-still_holds-holds) where
  there :
      (c.loop-holds.next + factor_length ≤ length c.args.bytes.now)
      × WholeFactors (drop (c.loop-holds.next + factor_length) c.args.bytes.now)
      × ((parts_from 0 (drop c.loop-holds.next c.args.bytes.now)).factors
      ≡ factor_of (drop (c.loop-holds.next + 1) c.args.bytes.now) ∷ (parts_from 0 (drop (c.loop-holds.next + factor_length) c.args.bytes.now)).factors)
  there =
      factor-there c.args.bytes.now c.loop-holds.next c.loop-holds.invariant.0 (sym c.factor_begins.ensures ∙ c.loop-holds-test.true)

pub overflow_add-next-in-loop-holds : goal.overflow_add-next-in-loop-holds
overflow_add-next-in-loop-holds c = omega (arith, (there c).0)

pub loop-holds-smaller : goal.loop-holds-smaller
loop-holds-smaller c = omega (arith, (there c).0)

pub loop-holds-preserved : goal.loop-holds-preserved
loop-holds-preserved c =
    let a = c.args in
    let t = there c in
    let f = factor_of (drop (c.loop-holds.next + 1) a.bytes.now) in
    let fs = (parts_from 0 (drop (c.loop-holds.next + factor_length) a.bytes.now)).factors in (
      t.1,
      ap (λ (x : Bool). x && product_at fs a.point) c.still_holds-holds.ensures ∙ sym (held_next c.loop-holds.holds f fs a.point)
          ∙ ap (λ (l : List Factor). c.loop-holds.holds && product_at l a.point) (sym t.2) ∙ c.loop-holds.invariant.1,
      omega (arith, c.loop-holds.invariant.2, ap (λ (l : List Factor). factor_length * length l) t.2),
    )

pub returns : goal.returns
unfolding product_seen
returns c =
    let a = c.args in
    let none = factors-over a.bytes.now c.loop-holds.next c.loop-holds.invariant.0 (sym c.factor_begins.ensures ∙ c.loop-holds-test.false) in
    let all = ap (λ (l : List Factor). c.loop-holds.holds && product_at l a.point) none ∙ ap (λ (t : Bool). c.loop-holds.holds && t) (held_none a.point) ∙ and-true c.loop-holds.holds in
    let held : c.loop-holds.holds ≡ product_at (factors_of_product a.bytes.now a.place) a.point = sym all ∙ c.loop-holds.invariant.1 in
    let end : c.loop-holds.next ≡ a.place + 1 + factor_length * length (factors_of_product a.bytes.now a.place) = omega (arith, c.loop-holds.invariant.2, ap (λ (l : List Factor). factor_length * length l) none) in
    ap₂ (λ (t : Bool) (k : ℕ). record { holds = t; next = k }) held end
