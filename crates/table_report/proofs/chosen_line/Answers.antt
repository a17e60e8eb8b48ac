-- `table_report::chosen_line` meets its contract: the line of the prime's product. Assumes nothing.
use mathlib.Core.Path.{sym, ap}
use mathlib.Core.List.{List}
use Prim.Native.Nat.{ℕ}
use native.Mathlib.Omega.{arith}
use Rattle.basis.specs.declared.ShortList.{ShortList}
use Rattle.basis.specs.Short.{listed}
use Rattle.bases.proofs.Entry.{entry-candidate}
use Rattle.choice.specs.declared.Prime.{Prime}
use Rattle.choice.specs.Search.{candidate_of}
use Rattle.text.proofs.Writing.{fits-same, wrote-same}
use Rattle.lines.specs.Lines.{product_line}
use Rattle.product.specs.Product.{Factor}
use Rattle.cover.specs.WrittenForm.{product_by}
use Rattle.table_report.proofs.Parts.{constants-fit, masks-fit, product-same, product-zip}
use Rattle.table_report.proofs.chosen_line.Goals as goal

pub product_of-product-requires : goal.product_of-product-requires
product_of-product-requires c =
    record { equations_value = c.requires.equations_value; m_le_max_listed = c.requires.prime_at.few; candidate = entry-candidate c.requires.prime_at }

-- The product of a prime.
abbrev product : ShortList → ℕ → Prime → List Factor
product equations m prime = product_by (listed equations) m (candidate_of prime)

pub as_slice-requires : goal.as_slice-requires
as_slice-requires c =
    let a = c.args in
    omega (arith, constants-fit c.product_of-product.result (product a.equations a.m a.prime) c.product_of-product.ensures)

pub as_slice-requires-2 : goal.as_slice-requires-2
as_slice-requires-2 c =
    let a = c.args in
    omega (arith, masks-fit c.product_of-product.result (product a.equations a.m a.prime) c.product_of-product.ensures)

pub product_line-requires : goal.product_line-requires
product_line-requires c =
    let a = c.args in
    let fs = product a.equations a.m a.prime in
    let r = c.product_of-product in
    record {
      n_le_max_variables = c.requires.n_le_max_variables;
      constants_len = product-same r.result fs r.ensures _ _ c.as_slice.ensures c.as_slice-2.ensures;
      fits = fits-same (ap (product_line a.n) (sym (product-zip r.result fs r.ensures _ _ c.as_slice.ensures c.as_slice-2.ensures))) c.requires.fits;
    }

pub returns : goal.returns
returns c =
    let a = c.args in
    let r = c.product_of-product in
    wrote-same _ (ap (product_line a.n) (product-zip r.result (product a.equations a.m a.prime) r.ensures _ _ c.as_slice.ensures c.as_slice-2.ensures)) c.product_line.ensures
