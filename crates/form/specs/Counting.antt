-- What lies behind the walk as the code keeps it: two counts, since the factors themselves stand in the bytes. Read next: Refusal.
use Rattle.std.specs.Prelude.{cond, List, [], ◌∷◌, ◌++◌, ℕ, zero, suc, ◌+◌, ◌-◌, ◌*◌, ◌≤◌, eqb, length, drop}
use Rattle.gf2.specs.Limits.{max_variables}
use Rattle.records.specs.declared.Kind.TheVariants.{Factor as FactorKind}
use Rattle.records.specs.Kinds.{product_kind, factor_kind, body_length}
use Rattle.product.specs.Product.{Factor, AllFit}
use Rattle.form.specs.declared.Counts.{Counts}
use Rattle.form.specs.Decoding.{factor_of}
use Rattle.form.specs.Walk.{Behind, behind}

-- The length of a factor's record, its kind included.
abbrev pub factor_length : ℕ
factor_length = 1 + body_length FactorKind

-- The factors in a number of records right before a place of the bytes.
unfoldable pub factors_before : ℕ → List ℕ → ℕ → List Factor
factors_before zero bytes place = []
factors_before (suc k) bytes place = factors_before k bytes (place - factor_length) ++ (factor_of (drop (place - factor_length + 1) bytes) ∷ [])

-- What lies behind a place of the bytes by the counts.
abbrev pub behind_by : List ℕ → Counts → ℕ → Behind
behind_by bytes counts place = behind counts.products (factors_before counts.factors bytes place)

-- The counts once a record is passed too, by its kind byte.
abbrev pub counts_after : ℕ → Counts → Counts
counts_after kind counts =
    cond (eqb kind product_kind) (record { products = counts.products + 1; factors = 0 })
    (cond (eqb kind factor_kind) (record { products = counts.products; factors = counts.factors + 1 }) counts)

-- The counts are those of a walk at the place: the records that they count lie before it, and the factors are of n variables.
pub record Counted (n : ℕ) (bytes : List ℕ) (counts : Counts) (place : ℕ) : Type 0 where
  pub few : n ≤ max_variables
  pub within : place ≤ length bytes
  pub begun : counts.products ≤ place
  pub room : factor_length * counts.factors ≤ place
  pub fitting : AllFit n (factors_before counts.factors bytes place)
