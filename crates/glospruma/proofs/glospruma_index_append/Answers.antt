-- `glospruma::glospruma_index_append` meets its contract: that the list can be changed, and what the calls give, are laws of the crate `index` (its proofs/Calling.antt).
-- Assumes nothing.
use mathlib.Core.Path.{◌≡◌, sym, ap, ◌∙◌, subst}
use mathlib.Core.Bool.{Bool}
use lib.ListN.{length}
use Rattle.index.specs.declared.Indexed.{Indexed}
use Rattle.index.specs.Records.{bound_of, agrees_upto}
use Rattle.index.specs.Changes.{Changes, updated, append_way}
use Rattle.index.specs.Answers.{append_answer_by, append_after_by}
use Rattle.index.proofs.Calling.{append-answer, append-after, append-changes, append-list}
use Rattle.glospruma.proofs.glospruma_index_append.Goals as goal
use Rattle.glospruma.proofs.glospruma_index_append.Goals.{After-append_form-answer}

-- The answer, by whether the list's first records are those of the form.
answered : (c : After-append_form-answer)
    → c.append_form-answer.result
    ≡ append_answer_by c.args.form.now c.args.product.now (length c.args.list.now) (agrees_upto c.args.form.now c.args.list.now (bound_of c.args.form.now (length c.args.list.now))) c.args.room.now
answered c =
    let a = c.args in
    c.append_form-answer.ensures.value ∙ ap (λ (same : Bool). append_answer_by a.form.now a.product.now (length a.list.now) same a.room.now) c.matches-same.ensures

pub update-requires : goal.update-requires
update-requires c =
    let a = c.args in
    subst (λ (x : Indexed). Changes append_way a.product.now x a.list.now) (sym (answered (goal.at.update-requires c).After-append_form-answer))
    (append-changes a.form.now a.product.now a.list.now a.room.now)

pub returns : goal.returns
returns c =
    let a = c.args in
    let e = answered (goal.at.returns c).After-append_form-answer in
    record {
      value = e ∙ append-answer a.form.now a.product.now a.list.now a.room.now;
      list_after = c.update.ensures ∙ ap (λ (x : Indexed). updated append_way a.product.now x a.list.now) e ∙ append-list a.form.now a.product.now a.list.now a.room.now;
      room_after = c.append_form-answer.ensures.room_after
          ∙ ap (λ (same : Bool). append_after_by a.form.now a.product.now (length a.list.now) same a.room.now) c.matches-same.ensures
          ∙ append-after a.form.now a.product.now a.list.now a.room.now;
    }
