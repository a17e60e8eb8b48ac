-- What the call gives by what it found: the form of the completed function, and the ways out.
use mathlib.Core.Path.{◌≡◌, refl, sym, ap, ap₂, ◌∙◌}
use mathlib.Core.Bool.{Bool, true, false}
use mathlib.Core.Logic.{◌≢◌}
use mathlib.Core.List.{List, [], ◌∷◌, map}
use Prim.Native.Nat.{ℕ, ◌-◌, ◌≤◌, ◌<◌}
use native.Mathlib.Omega.{arith}
use lib.ListN.{length}
use borrow.Author.Tests.{lt-ltb, le-ltb}
use Rattle.gf2.specs.Finite.{holds}
use Rattle.basis.specs.Reduced.{vectors_of}
use Rattle.table.specs.Refusal.{test, first_fault, Numbered, size_fault}
use Rattle.table.specs.Decision.{front}
use Rattle.table.specs.Table.{table_tests, table_fault}
use Rattle.table.proofs.FirstFault.{numbered}
use Rattle.table.proofs.Decide.{table-refused, then-applies, then-none, Ways, ways}
use Rattle.table.proofs.Table.{table-numbered}
use Rattle.space.specs.declared.Completed.{Completed}
use Rattle.space.specs.Closure.{linear_space, degree}
use Rattle.space.specs.Witness.{flagged}
use Rattle.space.specs.Completion.{completed, IsCompleted}
use Rattle.space.specs.Restriction.{equations, restriction}
use Rattle.projection.proofs.Restrictions.{completed-vectors, completed-len, completed-restriction}
use Rattle.form.specs.Encoding.{encode_form}
use Rattle.cubes.specs.Records.{max_listed}
use Rattle.cover.specs.Choice.{chosen}
use Rattle.cover.specs.WrittenForm.{product_by, written_product, form_of, written_form, form_size_fault}
use Rattle.choice.specs.declared.Choice.{Choice}
use Rattle.choice.specs.Chosen.{products_by, Chose}
use Rattle.choice.proofs.Products.{products-count}
use Rattle.writing.specs.declared.FormWritten.{FormWritten}
use Rattle.writing.specs.Products.{form_length}
use Rattle.writing.specs.Writing.{form_bytes, form_tests, write_accepted, write_refused, write_answer, write_after}
use Rattle.writing.proofs.Lengths.{form-bytes-length}

-- ---- a table completed

module _ (n : ℕ) (on free : List ℕ) (d : Completed) (k : IsCompleted n on free d) where
  abbrev f : ℕ → Bool
  f = completed n on free

  -- Refusal 5 by the number of variables that are left.
  pub size-refused : max_listed < n - d.basis.len → form_size_fault n on free ≡ true
  unfolding form_size_fault degree
  size-refused h = lt-ltb max_listed (n - length (linear_space n f)) (omega (arith, completed-len k))

  pub size-passed : n - d.basis.len ≤ max_listed → form_size_fault n on free ≡ false
  unfolding form_size_fault degree
  size-passed h = le-ltb max_listed (n - length (linear_space n f)) (omega (arith, completed-len k))

  -- ---- the primes chosen for its restriction

  module _ (r : Choice) (h : Chose (n - d.basis.len) (restriction n (vectors_of d.basis) (flagged d.flags)) r) where
    -- Their products are those of the form.
    pub chosen-form : (es : List ℕ) → es ≡ equations n (vectors_of d.basis) → products_by es (n - d.basis.len) r r.count ≡ written_form n on free
    unfolding products_by written_form form_of written_product
    chosen-form es e =
        let m = n - d.basis.len in
        ap (map (product_by es m)) h.same
        ∙ ap₂ (λ (x y : List ℕ). map (product_by x m) (chosen m y)) (e ∙ ap (equations n) (completed-vectors k)) (completed-restriction k)
        ∙ ap (λ (l : ℕ). map (product_by (equations n (linear_space n f)) (n - l)) (chosen (n - l) (restriction n (linear_space n f) f))) (completed-len k)

    chosen-bytes : (es : List ℕ) → es ≡ equations n (vectors_of d.basis) → encode_form (record { variables = n; products = products_by es (n - d.basis.len) r r.count }) ≡ form_bytes n on free
    unfolding form_bytes
    chosen-bytes es e = ap (λ ps. encode_form (record { variables = n; products = ps })) (chosen-form es e)

    pub chosen-length : form_length (n - d.basis.len) r ≡ length (form_bytes n on free)
    chosen-length =
        let es = equations n (vectors_of d.basis) in
        sym (form-bytes-length es (n - d.basis.len) r h.valid n) ∙ ap length (chosen-bytes es refl)

    -- The numbers returned with it, and the room that has it at its front.
    pub chosen-numbers : (long : ℕ) → long ≡ form_length (n - d.basis.len) r → ◌≡◌ {A = FormWritten} (record { refusal = 0; length = long; products = r.count }) (write_accepted n on free)
    chosen-numbers long e =
        let es = equations n (vectors_of d.basis) in
        ap₂ (λ (x y : ℕ). record { refusal = 0; length = x; products = y }) (e ∙ chosen-length) (sym (products-count es (n - d.basis.len) r r.count) ∙ ap length (chosen-form es refl))

    pub chosen-room : (es room after : List ℕ) → es ≡ equations n (vectors_of d.basis)
        → after ≡ front (encode_form (record { variables = n; products = products_by es (n - d.basis.len) r r.count })) room → after ≡ front (form_bytes n on free) room
    chosen-room es room after e q = q ∙ ap (λ (x : List ℕ). front x room) (chosen-bytes es e)

-- ---- the ways out of the call

module _ (n : ℕ) (on free : List ℕ) where
  -- The refusal before that of the room: the table's, the size, or none.
  pub table-first : (k : ℕ) → k ≡ table_fault n on free → k ≢ 0 → k ≡ first_fault (form_tests n on free)
  unfolding table_fault
  table-first k e z = sym (table-refused (table_tests n on free) (test size_fault (form_size_fault n on free) ∷ []) k (sym e) z)

  pub size-first : table_fault n on free ≡ 0 → form_size_fault n on free ≡ true → size_fault ≡ first_fault (form_tests n on free)
  unfolding table_fault
  size-first e s = sym (then-applies (table_tests n on free) (table-numbered n on free) e size_fault (form_size_fault n on free) s)

  pub none_first : table_fault n on free ≡ 0 → form_size_fault n on free ≡ false → first_fault (form_tests n on free) ≡ 0
  unfolding table_fault
  none_first e s = then-none (table_tests n on free) (table-numbered n on free) e size_fault (form_size_fault n on free) s

  pub form-numbered : Numbered (form_tests n on free)
  unfolding holds table_tests
  form-numbered = numbered (form_tests n on free) refl

  pub write-ways : (room : List ℕ)
      → Ways (first_fault (form_tests n on free)) (form_bytes n on free) room (write_accepted n on free) write_refused (write_answer n on free room) (write_after n on free room)
  unfolding write_answer write_after
  write-ways room = ways (form_tests n on free) (form_bytes n on free) room (write_accepted n on free) write_refused form-numbered
