-- `point_sets::least_from` meets its contract: the set holds none of the numbers passed, and what is left of a word has a lowest bit. Assumes nothing.
use mathlib.Core.Path.{◌≡◌, sym, ap, ◌∙◌}
use Prim.Native.Nat.{ℕ, ◌/◌, ◌%◌, ◌^◌}
use native.Mathlib.Omega.{arith}
use Rattle.moves.specs.Moves.{mask_size}
use Rattle.point_sets.proofs.Sets.{rest_of, none-next, least-found}
use Rattle.point_sets.proofs.least_from.Goals as goal
use Rattle.point_sets.proofs.least_from.Goals.{After-word_of}

-- What is left of the word.
rest : (c : After-word_of) → c.word_of.result / 2 ^ (c.max-at.result % mask_size) ≡ rest_of c.args.set.now c.max-at.result
rest c = ap (λ (word : ℕ). word / 2 ^ (c.max-at.result % mask_size)) c.word_of.ensures

pub returns-then-rest-ne0 : goal.returns-then-rest-ne0
returns-then-rest-ne0 c =
    let at = c.max-at.result in
    let a = c.args in
    let some = c.if-rest-ne0.true in
    let r = rest (goal.at.returns-then-rest-ne0 c).After-word_of in
    rw c.word_of.ensures (least-found a.set.now a.from at (omega (arith, c.max-at.ensures)) (omega (arith, c.max-at.ensures))
    (λ x l h. c.loop-word.invariant x l (omega (arith, c.max-at.ensures, h))) (c.fits-set (at / mask_size)) (λ e. some (r ∙ e)))

pub loop-word-preserved : goal.loop-word-preserved
loop-word-preserved c =
    let l = c.loop-word in
    none-next c.args.set.now c.args.from l.word c.max-at.result l.invariant (omega (arith, c.max-at.ensures)) (omega (arith, c.max-at.ensures))
    (sym (rest (goal.at.loop-word-preserved c).After-word_of) ∙ c.if-rest-ne0.false)
