-- `form::Reader::agrees_before` meets its contract: the factors are compared from the last to the first, and those still left decide as all do.
-- Assumes nothing.
use Prim.Native.Nat.{ℕ, ◌<◌, ◌+◌, ◌-◌, ◌*◌}
use mathlib.Core.Path.{◌≡◌, sym, ap, ◌∙◌}
use mathlib.Core.Bool.{true, false, ◌&&◌}
use native.Mathlib.Omega.{arith}
use borrow.Author.Rules.{rules}
use Rattle.gf2.proofs.Logic.{and-true, and-false}
use Rattle.product.specs.Product.{factor, agrees}
use Rattle.form.specs.Counting.{factor_length, factors_before}
use Rattle.form.proofs.Walking.{last_fits, others-fit, agrees-last, agrees-none}
use Rattle.form.proofs.Reader.agrees_before.Goals as goal
use Rattle.form.proofs.Reader.agrees_before.Goals.{After-apart}

-- A turn more: one factor fewer is left, and they end where its record begins.
left-next : (k i : ℕ) → k - (i + 1) ≡ k - i - 1
left-next k i = omega arith

at-next : (place i : ℕ) → place - factor_length * (i + 1) ≡ place - factor_length * i - factor_length
at-next place i = omega arith

pub loop-behind-init : goal.loop-behind-init
loop-behind-init c =
    let none : c.args.self.now.counts.factors - 0 ≡ c.args.self.now.counts.factors = omega arith in
    let here : c.args.self.now.place - factor_length * 0 ≡ c.args.self.now.place = omega arith in
    (rw (none, here) c.args.self.now.counted.fitting, λ constant. rw (none, here))

pub apart-requires : goal.apart-requires
apart-requires c =
    let l = c.loop-behind in
    let r = c.args.self.now in
    let earlier : 0 < c.mask_at.result = rw (c.mask_at.ensures, at-next r.place l.behind) (last_fits (r.counts.factors - l.behind) r.bytes.now (r.place - factor_length * l.behind) (omega arith) r.variables l.invariant.0) in
    let later : 0 < c.args.mask = c.requires in
    search rules

-- What the last of the factors left says of the mask, and so what the others have to say.
module _ (c : After-apart) (constant : ℕ) where
  last :
      agrees (factors_before (c.args.self.now.counts.factors - c.loop-behind.behind) c.args.self.now.bytes.now (c.args.self.now.place - factor_length * c.loop-behind.behind)) (factor constant c.args.mask)
      ≡ agrees (factors_before (c.args.self.now.counts.factors - (c.loop-behind.behind + 1)) c.args.self.now.bytes.now (c.args.self.now.place - factor_length * (c.loop-behind.behind + 1))) (factor constant c.args.mask)
      && c.apart.result
  last =
      let l = c.loop-behind in
      let r = c.args.self.now in
      agrees-last (r.counts.factors - l.behind) r.bytes.now (r.place - factor_length * l.behind) (omega arith) (factor constant c.args.mask)
      ∙ rw (c.apart.ensures, c.mask_at.ensures, left-next r.counts.factors l.behind, at-next r.place l.behind)

pub returns-then-not-apart : goal.returns-then-not-apart
returns-then-not-apart c = λ constant.
    let no : c.apart.result ≡ false = c.if-not-apart.true in
    sym (sym (c.loop-behind.invariant.1 constant) ∙ last (goal.at.returns-then-not-apart c).After-apart constant ∙ rw (no, and-false))

pub loop-behind-preserved : goal.loop-behind-preserved
loop-behind-preserved c =
    let l = c.loop-behind in
    let r = c.args.self.now in
    let yes : c.apart.result ≡ true = c.if-not-apart.false in (
      rw (left-next r.counts.factors l.behind, at-next r.place l.behind) (others-fit (r.counts.factors - l.behind) r.bytes.now (r.place - factor_length * l.behind) (omega arith) r.variables l.invariant.0),
      λ constant. sym (last (goal.at.loop-behind-preserved c).After-apart constant ∙ rw (yes, and-true)) ∙ l.invariant.1 constant,
    )

pub returns : goal.returns
returns c = λ constant.
    let l = c.loop-behind in
    let r = c.args.self.now in
    let none : r.counts.factors - l.behind ≡ 0 = omega arith in
    sym (sym (l.invariant.1 constant) ∙ ap (λ (k : ℕ). agrees (factors_before k r.bytes.now (r.place - factor_length * l.behind)) (factor constant c.args.mask)) none ∙ agrees-none r.bytes.now (r.place - factor_length * l.behind) (factor constant c.args.mask))
