-- The walk over the bytes of a form, from the left: it reports the first fault that it meets, with its byte place, or a form
-- (document 01, "The written form"; the faults and their places are those of document 02, No. 3). A product alone is read by the same walk
-- (document 02, No. 5). Read next: Faults.
use Rattle.std.specs.Prelude.{Bool, true, false, cond, Ok, Err, not, ◌&&◌, List, [], ◌∷◌, ◌++◌, ℕ, ◌+◌, eqb, ltb, get_or}
use Rattle.records.specs.declared.Kind.{Kind}
use Rattle.records.specs.declared.Kind.TheVariants.{Variables, Product, Factor as FactorKind, End, On, Free}
use Rattle.records.specs.Kinds.{product_kind, factor_kind, head_of}
use Rattle.table.specs.Table.{bad_count}
use Rattle.product.specs.Product.{Factor, fits, agrees}
use Rattle.records.specs.Walks.{head_step, body_step, end_step, go_on, walk_by, bytes_missing}
use Rattle.form.specs.declared.Extent.{Extent}
use Rattle.form.specs.declared.Extent.TheVariants.{Form, ProductAlone}
use Rattle.form.specs.Form.{max_products}
use Rattle.form.specs.Decoding.{factor_of}
use Rattle.table.specs.declared.BytesFault.TheVariants.{WrongKind, Missing, WrongVariables, WrongFactor, NotCanonical, TooMany}
use Rattle.records.specs.Walks.{Walk, Step}
use Rattle.std.specs.declared.ops.ControlFlow.TheVariants.{Continue, Break}

-- n, once its byte is there: 1 to the largest number of variables, or a fault at the byte (document 02, No. 3, refusal 22).
abbrev pub variables_step : Step → List ℕ → Step
variables_step (Break fault) rest = Break fault
variables_step (Continue l) rest = cond (bad_count (get_or rest 0 0)) (Break (Err (WrongVariables 1))) (Continue l)

-- The first record, of a known kind with a body of the given length: it gives n, and any other kind stands wrong.
abbrev pub first_form_kind : Kind → ℕ → List ℕ → Step
first_form_kind Variables l rest = variables_step (body_step l 0 rest) rest
first_form_kind Product l rest = Break (Err (WrongKind 0))
first_form_kind FactorKind l rest = Break (Err (WrongKind 0))
first_form_kind End l rest = Break (Err (WrongKind 0))
first_form_kind On l rest = Break (Err (WrongKind 0))
first_form_kind Free l rest = Break (Err (WrongKind 0))

-- The first record, by the decision over its kind byte.
abbrev pub first_form_step : ℕ → List ℕ → Step
first_form_step byte rest = head_step (head_of byte 0) (λ kind l. first_form_kind kind l rest)

-- A product begins, with a body of the given length, after a number of others; one too many is a fault at its kind.
abbrev pub product_step : ℕ → ℕ → ℕ → List ℕ → Step
product_step products l place rest = cond (ltb products max_products) (body_step l place rest) (Break (Err (TooMany place)))

-- The factor of a whole body, after those before it in its product: constant and mask first, then that it agrees with those before it.
abbrev pub judge_step : Step → ℕ → List Factor → ℕ → Factor → Step
judge_step (Break fault) n earlier place f = Break fault
judge_step (Continue l) n earlier place f =
    cond (fits n f) (cond (agrees earlier f) (Continue l) (Break (Err (NotCanonical (place + 1))))) (Break (Err (WrongFactor (place + 1))))

-- A factor with a body of the given length, which stands wrong before the first product.
abbrev pub factor_step : ℕ → ℕ → List Factor → ℕ → ℕ → List ℕ → Step
factor_step n products earlier l place rest =
    cond (eqb products 0) (Break (Err (WrongKind place))) (judge_step (body_step l place rest) n earlier place (factor_of rest))

-- What lies behind a place of the walk: the number of products, and the factors of the last of them.
pub record Behind : Type 0 where
  pub products : ℕ
  pub factors : List Factor

-- That many products and these factors.
abbrev pub behind : ℕ → List Factor → Behind
behind products factors = record { products = products; factors = factors }

-- A record after the first, of a known kind with a body of the given length: a product, a factor or the end; any other kind stands wrong.
abbrev pub later_form_kind : ℕ → Behind → Kind → ℕ → ℕ → List ℕ → Step
later_form_kind n b Product l place rest = product_step b.products l place rest
later_form_kind n b FactorKind l place rest = factor_step n b.products b.factors l place rest
later_form_kind n b End l place rest = end_step (body_step l place rest) b.products place rest
later_form_kind n b Variables l place rest = Break (Err (WrongKind place))
later_form_kind n b On l place rest = Break (Err (WrongKind place))
later_form_kind n b Free l place rest = Break (Err (WrongKind place))

-- A record after the first, by the decision over its kind byte.
abbrev pub form_step : ℕ → Behind → ℕ → ℕ → List ℕ → Step
form_step n b byte place rest = head_step (head_of byte place) (λ kind l. later_form_kind n b kind l place rest)

-- What lies behind once a record is passed too, by its kind byte: a product begins without factors, a factor is the last of its product.
abbrev pub passed : Behind → ℕ → List ℕ → Behind
passed b kind rest =
    cond (eqb kind product_kind) (behind (b.products + 1) [])
    (cond (eqb kind factor_kind) (behind b.products (b.factors ++ (factor_of rest ∷ []))) b)

-- The walk over the bytes from a place on, for n variables, once the given number of bytes of a body is passed.
abbrev pub walk_form_from : ℕ → ℕ → Behind → ℕ → List ℕ → Walk
walk_form_from n = walk_by (form_step n) passed bytes_missing

-- ---- a product alone: its 50 and its factors, which end with the bytes (document 02, No. 5)

-- The kind byte that is awaited there after a number of products: the beginning of the product, then its factors.
abbrev pub awaited_kind : ℕ → ℕ
awaited_kind products = cond (eqb products 0) product_kind factor_kind

-- A product alone is read, and not a form.
abbrev pub is_alone : Extent → Bool
is_alone Form = false
is_alone ProductAlone = true

-- A record is one of a form; in a product alone every other kind than the awaited one stands wrong.
abbrev pub record_step : Bool → ℕ → Behind → ℕ → ℕ → List ℕ → Step
record_step alone n b byte place rest =
    cond (alone && not (eqb byte (awaited_kind b.products))) (Break (Err (WrongKind place))) (form_step n b byte place rest)

-- Where no byte is left bytes are missing, but for a product alone that has begun.
abbrev pub records_ending : Bool → Behind → ℕ → Walk
records_ending alone b place = cond (alone && not (eqb b.products 0)) (Ok b.products) (Err (Missing place))

-- The walk over the records of a form after its first, or over those of a product alone: for a form it is `walk_form_from`.
abbrev pub walk_records_from : Bool → ℕ → ℕ → Behind → ℕ → List ℕ → Walk
walk_records_from alone n = walk_by (record_step alone n) passed (records_ending alone)

-- The walk over the bytes of a product of n variables, whose places count from its 50.
unfoldable pub walked_product : ℕ → List ℕ → Walk
walked_product n bytes = walk_records_from true n 0 (behind 0 []) 0 bytes

-- ---- a whole form

-- The walk over a whole input: the first record, products with their factors, the end.
unfoldable pub walked_form : List ℕ → Walk
walked_form [] = Err (Missing 0)
walked_form (byte ∷ rest) = go_on (first_form_step byte rest) (λ l. walk_form_from (get_or rest 0 0) l (behind 0 []) 1 rest)
