-- `form::check_product` meets its contract: the number and the place are those of what the walk finds. Assumes nothing.
use mathlib.Core.Path.{◌≡◌, refl, sym, ap, ◌∙◌}
use Rattle.std.proofs.lemmas.Result.{err_from_is_err_and}
use Rattle.records.specs.Walks.{fault_found}
use Rattle.form.specs.Walk.{walked_product}
use Rattle.form.proofs.Alone.{product-told}
use Rattle.form.proofs.check_product.Goals as goal
use Rattle.form.proofs.check_product.Goals.{After-walk}

-- The walk of the new reader is that over the whole product.
walk-whole : (c : After-walk) → c.walk.result ≡ walked_product c.args.n c.args.bytes.now
unfolding walked_product
walk-whole c = let r = c.new.ensures in c.walk.ensures ∙ rw (r.behind, r.bytes, r.variables, r.place) refl

pub returns : goal.returns
returns c = sym (product-told c.args.n c.args.bytes.now ∙ ap fault_found (sym (walk-whole (goal.at.returns c).After-walk) ∙ c.in_ok-walk.was))

pub returns-in_err-walk : goal.returns-in_err-walk
returns-in_err-walk c =
    let told = product-told c.args.n c.args.bytes.now ∙ ap fault_found (sym (walk-whole (goal.at.returns-in_err-walk c).After-walk) ∙ c.in_err-walk.was) in
    let p = err_from_is_err_and c.from_residual.result c.from_residual.ensures.1 in
    rw (p.1, p.2) (sym told)
