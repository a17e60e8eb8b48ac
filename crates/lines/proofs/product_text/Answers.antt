-- `lines::product_text` meets its contract: `1` for no factor, else the factors. Assumes nothing.
use mathlib.Core.Path.{◌≡◌, sym, ◌∙◌}
use Rattle.std.proofs.Common.{rules}
use mathlib.Core.List.{List, zip_with, flat_map}
use Prim.Native.Nat.{ℕ}
use lib.ListN.{length}
use Rattle.product.specs.Product.{factor}
use Rattle.text.proofs.Writing.{fits-same, wrote-same}
use Rattle.lines.specs.Words.{one_word}
use Rattle.lines.specs.Lines.{factor_text, product_text}
use Rattle.lines.proofs.Lines.{list-none, list-some, zip_length}
use Rattle.lines.proofs.product_text.Goals as goal

module _ (n : ℕ) (constants masks : List ℕ) (e : length constants ≡ length masks) where
  none : length masks ≡ 0 → one_word ≡ product_text n (zip_with factor constants masks)
  none z = list-none one_word (flat_map (factor_text n)) (zip_with factor constants masks) (zip_length constants masks e ∙ z)

  some : (length masks ≡ 0 → ⊥) → flat_map (factor_text n) (zip_with factor constants masks) ≡ product_text n (zip_with factor constants masks)
  some f = list-some one_word (flat_map (factor_text n)) (zip_with factor constants masks) (λ z. f (sym (zip_length constants masks e) ∙ z))

pub word-requires : goal.word-requires
word-requires c = fits-same (sym (none c.args.n c.args.constants.now c.args.masks.now c.requires.constants_len (search rules))) c.requires.fits

pub returns-then-is_empty : goal.returns-then-is_empty
returns-then-is_empty c = wrote-same _ (none c.args.n c.args.constants.now c.args.masks.now c.requires.constants_len (search rules)) c.word.ensures

pub factors_text-requires-clause-fits : goal.factors_text-requires-clause-fits
factors_text-requires-clause-fits c = fits-same (sym (some c.args.n c.args.constants.now c.args.masks.now c.requires.constants_len (search rules))) c.requires.fits

pub returns : goal.returns
returns c = wrote-same _ (some c.args.n c.args.constants.now c.args.masks.now c.requires.constants_len (search rules)) c.factors_text.ensures
