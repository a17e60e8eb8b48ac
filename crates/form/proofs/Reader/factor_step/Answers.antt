-- `form::Reader::factor_step` meets its contract: a mask that fits is not 0. Assumes nothing.
use mathlib.Core.Path.{sym, ◌∙◌}
use Prim.Native.Nat.{◌+◌}
use lib.ListN.{get_or}
use Rattle.product.specs.Product.{factor}
use Rattle.product.proofs.Product.{fits-is}
use Rattle.form.proofs.Reader.factor_step.Goals as goal

pub agrees_before-requires : goal.agrees_before-requires
agrees_before-requires c =
    let r = c.args.self.now in
    ((fits-is r.variables (factor (get_or r.bytes.now (r.place + 1) 0) c.mask_at-mask.result)).0 (sym c.fits.ensures ∙ c.if-not-fits.false)).some
