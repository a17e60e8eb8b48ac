-- `writing::try_write_form` meets its contract: the tests in their order, then the products of the primes chosen. Assumes nothing.
use mathlib.Core.Path.{◌≡◌, refl, sym, ◌∙◌}
use mathlib.Core.List.{List}
use Prim.Native.Nat.{ℕ, ◌-◌, ◌≤◌}
use native.Mathlib.Omega.{arith}
use Rattle.basis.proofs.Values.{short-listed, short-again}
use lib.ListN.{length}
use Rattle.basis.specs.Short.{listed}
use Rattle.basis.specs.Reduced.{vectors_of, BasisWithin}
use Rattle.table.specs.Refusal.{first_fault, size_fault, room_fault}
use Rattle.table.specs.Table.{Accepted, table_fault}
use Rattle.table.proofs.Table.{accepted}
use Rattle.space.specs.declared.Completed.{Completed}
use Rattle.space.specs.Witness.{flagged}
use Rattle.space.specs.Completion.{IsCompleted}
use Rattle.space.specs.Restriction.{equations, restriction}
use Rattle.projection.proofs.Restrictions.{spans-few, completed-spans}
use Rattle.cubes.specs.Records.{max_listed}
use Rattle.choice.specs.declared.Choice.{Choice}
use Rattle.choice.specs.Chosen.{Chose}
use Rattle.writing.specs.Products.{form_length}
use Rattle.std.proofs.lemmas.Result.{err_from_is_err_and}
use Rattle.table.specs.Answers.{number_of}
use Rattle.table.proofs.Results.{number-nonzero}
use Rattle.writing.specs.Writing.{form_tests, form_bytes, write_refused}
use Rattle.writing.proofs.Ways.{size-refused, size-passed, chosen-length, chosen-numbers, chosen-room, table-first, size-first, none_first, write-ways}
use Rattle.writing.proofs.try_write_form.Goals as goal

pub returns-in_err-check_table : goal.returns-in_err-check_table
returns-in_err-check_table c =
    let a = c.args in
    let f = c.in_err-check_table.field-0.0 in
    let p = err_from_is_err_and c.from_residual.result c.from_residual.ensures.1 in
    let w = (write-ways a.n a.on.now a.free.now a.room.now).faulty (number_of f)
    (table-first a.n a.on.now a.free.now (number_of f) c.in_err-check_table.ensures (number-nonzero f)) (number-nonzero f) (write_refused (number_of f)) refl in
    rw (p.1, p.2) (record { value = w.0; room_after = w.1 })

-- Past the first test the arguments are an accepted table.
table : (n : ℕ) (on free : List ℕ) → 0 ≡ table_fault n on free → Accepted n on free
table n on free e = accepted n on free (sym e)

pub complete-completed-requires : goal.complete-completed-requires
complete-completed-requires c = table c.args.n c.args.on.now c.args.free.now c.in_ok-check_table.ensures

-- The table is completed: its space is one of n variables.
within : (n : ℕ) (on free : List ℕ) → 0 ≡ table_fault n on free → (d : Completed) → IsCompleted n on free d → BasisWithin n d.basis
within n on free e d k = completed-spans k (table n on free e).few

pub overflow_sub-m : goal.overflow_sub-m
overflow_sub-m c = spans-few (within c.args.n c.args.on.now c.args.free.now c.in_ok-check_table.ensures c.complete-completed.result c.complete-completed.ensures)

pub returns-then-m-gt-MAX_LISTED : goal.returns-then-m-gt-MAX_LISTED
returns-then-m-gt-MAX_LISTED c =
    let a = c.args in
    let d = c.complete-completed in
    let large = size-refused a.n a.on.now a.free.now d.result d.ensures c.if-m-gt-MAX_LISTED.true in
    let w = (write-ways a.n a.on.now a.free.now a.room.now).faulty size_fault (size-first a.n a.on.now a.free.now (sym c.in_ok-check_table.ensures) large) (λ z. omega arith)
    (write_refused size_fault) refl in
    record { value = w.0; room_after = w.1 }

-- Past the second test the restriction is small enough, so that nothing but the room is refused.
sound : (n : ℕ) (on free : List ℕ) → 0 ≡ table_fault n on free → (d : Completed) → IsCompleted n on free d → n - d.basis.len ≤ max_listed → first_fault (form_tests n on free) ≡ 0
sound n on free e d k h = none_first n on free (sym e) (size-passed n on free d k h)

pub choose_restriction-choice-requires : goal.choose_restriction-choice-requires
choose_restriction-choice-requires c = record {
  basis_within = within c.args.n c.args.on.now c.args.free.now c.in_ok-check_table.ensures c.complete-completed.result c.complete-completed.ensures;
  len_bound = c.if-m-gt-MAX_LISTED.false;
}

-- The primes are chosen, and the length of their form is counted.
counted : (n : ℕ) (on free : List ℕ) (d : Completed) → IsCompleted n on free d → (r : Choice) → Chose (n - d.basis.len) (restriction n (vectors_of d.basis) (flagged d.flags)) r
    → (length_of : ℕ) → length_of ≡ form_length (n - d.basis.len) r → length_of ≡ length (form_bytes n on free)
counted n on free d k r h l e = e ∙ chosen-length n on free d k r h

pub returns-then-room-length : goal.returns-then-room-length
returns-then-room-length c =
    let a = c.args in
    let d = c.complete-completed in
    let r = c.choose_restriction-choice in
    let l = c.form_length-length in
    let q = counted a.n a.on.now a.free.now d.result d.ensures r.result r.ensures l.result l.ensures in
    let w = (write-ways a.n a.on.now a.free.now a.room.now).short (sound a.n a.on.now a.free.now c.in_ok-check_table.ensures d.result d.ensures c.if-m-gt-MAX_LISTED.false)
    (omega (arith, q, c.if-room-length.true)) (write_refused room_fault) refl in
    record { value = w.0; room_after = w.1 }

pub equations-equations-requires : goal.equations-equations-requires
equations-equations-requires c =
    let w = within c.args.n c.args.on.now c.args.free.now c.in_ok-check_table.ensures c.complete-completed.result c.complete-completed.ensures in
    record { basis = w.basis; n_le_max_variables = w.few }

pub put_form-requires : goal.put_form-requires
put_form-requires c =
    let q = c.equations-equations in
    record {
      n_le_max_variables = (table c.args.n c.args.on.now c.args.free.now c.in_ok-check_table.ensures).few;
      equations_value = short-again q.result (equations c.args.n (vectors_of c.complete-completed.result.basis)) q.ensures;
      choice = c.choose_restriction-choice.ensures.valid;
      choice_in_bounds = omega (arith, c.form_length-length.ensures, c.if-room-length.false);
    }

pub returns : goal.returns
returns c =
    let a = c.args in
    let d = c.complete-completed in
    let r = c.choose_restriction-choice in
    let l = c.form_length-length in
    let q = c.equations-equations in
    let p = c.put_form in
    let e = counted a.n a.on.now a.free.now d.result d.ensures r.result r.ensures l.result l.ensures in
    let w = (write-ways a.n a.on.now a.free.now a.room.now).whole
    (sound a.n a.on.now a.free.now c.in_ok-check_table.ensures d.result d.ensures c.if-m-gt-MAX_LISTED.false)
    (omega (arith, e, c.if-room-length.false))
    (record { refusal = 0; length = l.result; products = r.result.count }) p.new.room
    (chosen-numbers a.n a.on.now a.free.now d.result d.ensures r.result r.ensures l.result l.ensures)
    (chosen-room a.n a.on.now a.free.now d.result d.ensures r.result r.ensures (listed q.result) a.room.now p.new.room
    (short-listed q.result (equations a.n (vectors_of d.result.basis)) q.ensures) p.ensures) in
    record { value = w.0; room_after = w.1 }
