-- `glospruma::glospruma_index_build` meets its contract: that the list can be changed, and what the calls give, are laws of the crate `index` (its proofs/Calling.antt).
-- Assumes nothing.
use mathlib.Core.Path.{sym, ap, ◌∙◌, subst}
use Rattle.index.specs.declared.Indexed.{Indexed}
use Rattle.index.specs.Changes.{Changes, updated, build_way}
use Rattle.index.proofs.Calling.{build-answer, build-changes, build-list}
use Rattle.glospruma.proofs.glospruma_index_build.Goals as goal

pub update-requires : goal.update-requires
update-requires c =
    let a = c.args in
    subst (λ (x : Indexed). Changes build_way a.form.now x a.list.now) (sym c.build_answer-answer.ensures) (build-changes a.form.now a.list.now)

pub returns : goal.returns
returns c =
    let a = c.args in
    record {
      value = c.build_answer-answer.ensures ∙ build-answer a.form.now a.list.now;
      list_after = c.update.ensures ∙ ap (λ (x : Indexed). updated build_way a.form.now x a.list.now) c.build_answer-answer.ensures ∙ build-list a.form.now a.list.now;
    }
