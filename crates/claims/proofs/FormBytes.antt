-- The form that is written for an accepted table: it is a valid form, how long its bytes are at most, and that they are accepted and read back.
-- Read next: Reports.
use mathlib.Core.Path.{◌≡◌, refl, sym, ap, ◌∙◌}
use mathlib.Core.Bool.{false}
use mathlib.Core.Logic.{inl, inr}
use mathlib.Core.List.{List, [], ◌∷◌}
use Prim.Native.Nat.{ℕ, ◌+◌, ◌-◌, ◌*◌, ◌^◌, ◌≤◌}
use native.Mathlib.Nat.{mul-suc}
use native.Mathlib.Omega.{arith}
use lib.ListN.{length, length-append}
use borrow.Author.Tests.{ltb-false}
use Rattle.gf2.specs.Finite.{Mem}
use Rattle.gf2.proofs.Finite.{select-ext}
use Rattle.table.specs.Table.{Accepted}
use Rattle.records.specs.Kinds.{encode_end}
use Rattle.space.specs.Closure.{linear_space, degree}
use Rattle.space.specs.Completion.{completed, completed_points}
use Rattle.space.proofs.Closure.{linear-reduced, linear-span}
use Rattle.form.specs.Form.{Form, ValidForm, form_at, form_points}
use Rattle.product.specs.Product.{Factor}
use Rattle.form.specs.Encoding.{encode_factors, encode_products, encode_form}
use Rattle.form.specs.Decoding.{decode_form}
use Rattle.form.specs.Refusal.{form_fault}
use Rattle.form_calls.specs.Reading.{points_read, rewritten}
use Rattle.form.proofs.Encodings.{decoded, encoded-form}
use Rattle.form.proofs.Accepting.{accepted-form}
use Rattle.cubes.specs.Records.{max_listed}
use Rattle.cover.specs.WrittenForm.{written_form, form_size_fault}
use Rattle.cover.proofs.WrittenForm.{table-form-at, table-form-products, table-form-few, form-factors}
use Rattle.writing.specs.Writing.{form_bytes}
use Rattle.writing.proofs.Bytes.{factors-length}
use Rattle.claims.specs.Demand2.{form_room}

-- ---- how long a form is

-- Products of at most so many factors.
pub products-length : (k : ℕ) (ps : List (List Factor)) → ((p : List Factor) → Mem p ps → length p ≤ k) → length (encode_products ps) ≤ (1 + 4 * k) * length ps
unfolding encode_products
products-length k [] h = omega arith
products-length k (p ∷ ps) h =
    let more = mul-suc (1 + 4 * k) (length ps) in
    omega (arith, more, length-append (encode_factors p) (encode_products ps), factors-length p, h p (inl refl), products-length k ps (λ q m. h q (inr m)))

-- ---- the form written for a table

module _ (n : ℕ) (on free : List ℕ) (a : Accepted n on free) (small : form_size_fault n on free ≡ false) where
  -- The form of the table.
  abbrev table_form : Form
  table_form = record { variables = n; products = written_form n on free }

  pub written-valid : ValidForm table_form
  written-valid = record {
    some = a.some;
    few = a.few;
    short = omega (arith, table-form-few n on free small);
    fitting = λ p m. (table-form-products n on free p m).1;
    canonicals = λ p m. (table-form-products n on free p m).0;
  }

  -- Its products have at most six factors, and it fits into the room that is enough for every form.
  six : (p : List Factor) → Mem p (written_form n on free) → length p ≤ max_listed
  unfolding written_form form_size_fault degree
  six p m =
      let f = completed n on free in
      omega (
        arith,
        form-factors n f (linear_space n f) (linear-reduced n f) (λ x. (linear-span n f x).0) p m,
        ltb-false max_listed (n - length (linear_space n f)) small,
      )

  pub written-fits : length (form_bytes n on free) ≤ form_room
  unfolding form_bytes encode_form
  written-fits =
      omega (
        arith,
        length-append (encode_products (written_form n on free)) (encode_end (length (written_form n on free))),
        products-length max_listed (written_form n on free) six,
        table-form-few n on free small,
      )

  -- Its points are those of the completed table.
  pub written-points : form_points table_form ≡ completed_points n on free
  unfolding form_points completed_points
  written-points = select-ext (form_at table_form) (completed n on free) (2 ^ n) (table-form-at n on free)

  -- Bytes that are those of the form: they are accepted, and read as the form.
  module _ (bytes : List ℕ) (q : bytes ≡ form_bytes n on free) where
    pub bytes-decoded : decode_form bytes ≡ table_form
    unfolding form_bytes
    bytes-decoded = ap decode_form q ∙ decoded table_form

    pub bytes-accepted : form_fault bytes ≡ 0
    unfolding form_bytes
    bytes-accepted = ap form_fault q ∙ (accepted-form (encode_form table_form)).1 (encoded-form table_form written-valid)

    pub bytes-points : points_read bytes ≡ completed_points n on free
    bytes-points = ap form_points bytes-decoded ∙ written-points

    pub bytes-again : rewritten bytes ≡ bytes
    unfolding form_bytes
    bytes-again = ap encode_form bytes-decoded ∙ sym q
