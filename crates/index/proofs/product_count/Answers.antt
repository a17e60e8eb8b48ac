-- `index::product_count` meets its contract: the end record of an accepted form has the number of its products. Assumes nothing.
use mathlib.Core.Path.{◌∙◌}
use Prim.Native.Nat.{ℕ, ◌-◌, ◌≤◌}
use native.Mathlib.Omega.{arith}
use mathlib.Core.List.{List}
use lib.ListN.{length}
use Rattle.records.specs.Kinds.{Bytes, word_record_length}
use Rattle.form.specs.Refusal.{IsForm}
use Rattle.form_calls.proofs.Answering.{slice-bytes}
use Rattle.index.proofs.Forms.{front_length, count-read}
use Rattle.index.proofs.product_count.Goals as goal

-- The form is long enough for its end record.
long : (s : List ℕ) → Bytes s → IsForm s → 3 ≤ length s
long s b f = omega (arith, front_length s b f)

pub overflow_sub-end : goal.overflow_sub-end
overflow_sub-end c = let s = c.args.form.now in long s (slice-bytes s (λ i. omega (arith, c.type_inv.form i))) c.requires

pub bounds-form-end : goal.bounds-form-end
bounds-form-end c = let s = c.args.form.now in omega (arith, long s (slice-bytes s (λ i. omega (arith, c.type_inv.form i))) c.requires)

pub bounds-form-end-2 : goal.bounds-form-end-2
bounds-form-end-2 c = let s = c.args.form.now in omega (arith, long s (slice-bytes s (λ i. omega (arith, c.type_inv.form i))) c.requires)

pub returns : goal.returns
returns c =
    let s = c.args.form.now in
    let b = slice-bytes s (λ i. omega (arith, c.type_inv.form i)) in
    c.word.ensures ∙ count-read s b c.requires (length s - word_record_length) (omega (arith, long s b c.requires))
