-- `pla_lines::read_lines` meets its contract. The loop's invariant: the lines that are left complete the reading, with the head and the flags so far. Assumes nothing.
use mathlib.Core.Path.{◌≡◌, refl, ap, ◌∙◌}
use mathlib.Core.Bool.{false}
use mathlib.Core.List.{[]}
use Prim.Native.Nat.{◌+◌}
use native.Mathlib.Omega.{arith}
use Rattle.std.proofs.Common.{rules}
use borrow.Author.Tests.{tests}
use Rattle.std.specs.Slice.Iter.{split_done, split_rest}
use Rattle.std.specs.Iterator.Adapters.{enumerate_source, enumerate_count}
use Rattle.std.proofs.lemmas.List.Sorted.{answers_always}
use Rattle.pla_text.specs.Text.{is_newline}
use Rattle.pla_lines.proofs.Judging.{fault-some}
use Rattle.pla_lines.proofs.Going.{going-start, going-stop, going-on, going-end, line-next, lines_left}
use Rattle.pla_lines.proofs.read_lines.Goals as goal

pub loop-index-init : goal.loop-index-init
loop-index-init c =
    let given = c.into_iter-index-iterator.ensures.into_iter_gives in
    let source = ap enumerate_source given ∙ c.enumerate-index-items.ensures.source in
    let count : c.into_iter-index-iterator.result.count ≡ 0 = ap enumerate_count given ∙ c.enumerate-index-items.ensures.count in
    let rest : split_rest c.into_iter-index-iterator.result.iter ≡ c.args.text.now = ap split_rest source ∙ c.split.ensures.rest in
    let done : split_done c.into_iter-index-iterator.result.iter ≡ false = ap split_done source ∙ c.split.ensures.done in
    rw (count, rest, done) (going-start c.args.text.now c.args.output)

pub read_line-requires : goal.read_line-requires
read_line-requires c =
    let step = c.in-Some.ensures.steps in
    let b = c.loop-index.invariant.bounded in
    record { inputs = b.inputs; given = b.given; outputs = b.outputs; cubes = omega (arith, b.cubes, step.1, step.3) }

pub returns-in-Err : goal.returns-in-Err
returns-in-Err c =
    let step = c.in-Some.ensures.steps in
    let next = line-next _ _ _ _ _ step.0.0 step.0.1 (step.0.2 is_newline (answers_always _ _ _ (λ f a r g k. (search (rules, tests))))).1 in
    let going = rw next at c.loop-index.invariant in
    rw step.1 (going-stop c.args.text.now c.args.output c.loop-index.index-iterator.count c.loop-index.reading c.in-Some.line.now _ going _ _ (fault-some c.in-Err.fault)
    (c.in-Err.ensures (c.loop-index.index-iterator.count + 1) going.rows going.flagged))

pub loop-index-preserved : goal.loop-index-preserved
loop-index-preserved c =
    let step = c.in-Some.ensures.steps in
    let next = line-next _ _ _ _ _ step.0.0 step.0.1 (step.0.2 is_newline (answers_always _ _ _ (λ f a r g k. (search (rules, tests))))).1 in
    let going = rw next at c.loop-index.invariant in
    rw step.2 (going-on c.args.text.now c.args.output c.loop-index.index-iterator.count c.loop-index.reading c.in-Some.line.now _ going _
    (c.in_default.ensures (c.loop-index.index-iterator.count + 1) going.rows going.flagged))

pub returns : goal.returns
returns c =
    let none : lines_left (split_done c.loop-index.index-iterator.iter) (split_rest c.loop-index.index-iterator.iter) ≡ [] = rw c.in-None.ensures.steps.0.0 refl in
    going-end c.args.text.now c.args.output c.loop-index.index-iterator.count c.loop-index.reading _ none c.loop-index.invariant
