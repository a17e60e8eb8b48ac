-- `product::factor_at` meets its contract: what `parity` gives is compared with the constant as the definition does. Assumes nothing.
use Rattle.product.specs.Product.{factor_at}
use Rattle.product.proofs.factor_at.Goals as goal

pub returns : goal.returns
unfolding factor_at
returns c = rw c.parity.ensures
