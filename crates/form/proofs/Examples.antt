-- Worked examples, computed: the forms of document 01's P1, P3 and P5, products that are canonical or not, 64 and 65 products, 12 and 13
-- variables, and faults with their places as document 02, No. 3 gives them.
use mathlib.Core.Path.{◌≡◌, refl}
use mathlib.Core.List.{List, [], ◌∷◌, ◌++◌}
use Prim.Native.Nat.{ℕ}
use lib.ListN.{replicate}
use Rattle.gf2.specs.Bits.{bit}
use Rattle.records.specs.Kinds.{head_of}
use Rattle.records.specs.Walks.{walk_by}
use Rattle.table.specs.Table.{bad_count}
use Rattle.product.specs.Lowest.{even_halvings, lowest}
use Rattle.product.specs.Product.{fits, apart_masks, apart, agrees}
use Rattle.form.specs.Walk.{walked_form}
use Rattle.table.specs.declared.BytesFault.TheVariants.{WrongKind, Missing, WrongVariables, WrongFactor, NotCanonical, WrongCount, After, TooMany}
use Rattle.std.specs.Prelude.{Ok, Err}

-- The forms of P1, P3 and P5.
abbrev pub one : List ℕ
one = 0x4E ∷ 0x01 ∷ 0x45 ∷ 0x00 ∷ 0x00 ∷ []

abbrev pub three : List ℕ
three = 0x4E ∷ 0x01 ∷ 0x50 ∷ 0x45 ∷ 0x01 ∷ 0x00 ∷ []

abbrev pub five : List ℕ
five =
    0x4E ∷ 0x04 ∷ 0x50 ∷ 0x58 ∷ 0x01 ∷ 0x04 ∷ 0x00 ∷ 0x50 ∷ 0x58 ∷ 0x01 ∷ 0x0C ∷ 0x00 ∷ 0x58 ∷ 0x00 ∷ 0x0B ∷ 0x00 ∷ 0x45 ∷ 0x02 ∷ 0x00 ∷ []

-- A form of four variables and one product of two factors, of the given masks.
abbrev pair : ℕ → ℕ → List ℕ
pair first second =
    0x4E ∷ 0x04 ∷ 0x50 ∷ 0x58 ∷ 0x00 ∷ first ∷ 0x00 ∷ 0x58 ∷ 0x01 ∷ second ∷ 0x00 ∷ 0x45 ∷ 0x01 ∷ 0x00 ∷ []

-- A form of so many products without factors.
abbrev empties : ℕ → List ℕ
empties count = 0x4E ∷ 0x01 ∷ (replicate count 0x50 ++ (0x45 ∷ count ∷ 0x00 ∷ []))

pub record Examples : Type 0 where
  -- Forms.
  pub p1 : walked_form one ≡ Ok 0
  pub p3 : walked_form three ≡ Ok 1
  pub p5 : walked_form five ≡ Ok 2
  pub most-products : walked_form (empties 64) ≡ Ok 64
  pub most-variables : walked_form (0x4E ∷ 12 ∷ 0x45 ∷ 0x00 ∷ 0x00 ∷ []) ≡ Ok 0
  -- A kind that is unknown, or stands wrong: a factor before any product, a point.
  pub unknown : walked_form (0x4E ∷ 0x04 ∷ 0x00 ∷ []) ≡ Err (WrongKind 2)
  pub no-product : walked_form (0x4E ∷ 0x04 ∷ 0x58 ∷ 0x01 ∷ 0x04 ∷ 0x00 ∷ []) ≡ Err (WrongKind 2)
  pub a_point : walked_form (0x4E ∷ 0x04 ∷ 0x4F ∷ 0x01 ∷ 0x00 ∷ 0x45 ∷ 0x01 ∷ 0x00 ∷ []) ≡ Err (WrongKind 2)
  -- Bytes that are missing.
  pub nothing : walked_form [] ≡ Err (Missing 0)
  pub no-variables : walked_form (0x4E ∷ []) ≡ Err (Missing 1)
  pub cut-factor : walked_form (0x4E ∷ 0x04 ∷ 0x50 ∷ 0x58 ∷ 0x02 ∷ []) ≡ Err (Missing 5)
  pub no_end : walked_form (0x4E ∷ 0x04 ∷ 0x50 ∷ []) ≡ Err (Missing 3)
  -- n, constant and mask.
  pub zero-variables : walked_form (0x4E ∷ 0x00 ∷ []) ≡ Err (WrongVariables 1)
  pub many-variables : walked_form (0x4E ∷ 13 ∷ 0x45 ∷ 0x00 ∷ 0x00 ∷ []) ≡ Err (WrongVariables 1)
  pub constant-two : walked_form (0x4E ∷ 0x04 ∷ 0x50 ∷ 0x58 ∷ 0x02 ∷ 0x04 ∷ 0x00 ∷ []) ≡ Err (WrongFactor 4)
  pub mask-zero : walked_form (0x4E ∷ 0x04 ∷ 0x50 ∷ 0x58 ∷ 0x00 ∷ 0x00 ∷ 0x00 ∷ []) ≡ Err (WrongFactor 4)
  pub mask-wide : walked_form (0x4E ∷ 0x04 ∷ 0x50 ∷ 0x58 ∷ 0x00 ∷ 0x10 ∷ 0x00 ∷ []) ≡ Err (WrongFactor 4)
  pub fault-of-both : walked_form (pair 0x08 0x18) ≡ Err (WrongFactor 8)
  -- Lowest bits that fall; that occur in the later mask; that rise; that stay.
  pub falling : walked_form (pair 0x08 0x06) ≡ Ok 1
  pub shared : walked_form (pair 0x08 0x0A) ≡ Err (NotCanonical 8)
  pub rising : walked_form (pair 0x04 0x08) ≡ Err (NotCanonical 8)
  pub equal : walked_form (pair 0x0C 0x04) ≡ Err (NotCanonical 8)
  -- The number of products, a byte after the end, a product too many.
  pub other-count : walked_form (0x4E ∷ 0x04 ∷ 0x45 ∷ 0x01 ∷ 0x00 ∷ 0x00 ∷ []) ≡ Err (WrongCount 3)
  pub after : walked_form (one ++ (0x00 ∷ [])) ≡ Err (After 5)
  pub too_many : walked_form (empties 65) ≡ Err (TooMany 66)

pub examples : Examples
unfolding walked_form walk_by head_of bad_count fits agrees apart apart_masks lowest even_halvings bit
examples =
    record {
      p1 = refl;
      p3 = refl;
      p5 = refl;
      most-products = refl;
      most-variables = refl;
      unknown = refl;
      no-product = refl;
      a_point = refl;
      nothing = refl;
      no-variables = refl;
      cut-factor = refl;
      no_end = refl;
      zero-variables = refl;
      many-variables = refl;
      constant-two = refl;
      mask-zero = refl;
      mask-wide = refl;
      fault-of-both = refl;
      falling = refl;
      shared = refl;
      rising = refl;
      equal = refl;
      other-count = refl;
      after = refl;
      too_many = refl;
    }
