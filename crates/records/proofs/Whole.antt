-- Laws of specs.Walks: a whole record is not the end of a walk, a fault is not what was asked for, and an unknown kind is neither passed nor accepted.
-- Read next: Walking.
use mathlib.Core.Path.{◌≡◌, refl, ap}
use mathlib.Core.Bool.{Bool, true, false, cond}
use mathlib.Core.List.{List}
use Prim.Native.Nat.{ℕ, ◌≤◌, ◌+◌}
use native.Mathlib.Omega.{arith}
use lib.Dec.{leb}
use lib.ListN.{length}
use borrow.Author.Tests.{leb-true}
use Rattle.gf2.proofs.Logic.{clash}
use Rattle.records.specs.declared.Kind.{Kind}
use Rattle.records.specs.Kinds.{kind_byte, body_length, head_of}
use Rattle.records.specs.Walks.{head_step, body_step, go_on, is_fault}
use Rattle.records.proofs.KindBytes.{head-cases}
use Rattle.table.specs.declared.BytesFault.TheVariants.{Missing}
use Rattle.records.specs.Walks.{Walk, Step}
use Rattle.std.specs.Prelude.{Ok, Err}
use Rattle.std.specs.declared.ops.ControlFlow.TheVariants.{Continue, Break}

-- A whole record is not the end of the walk.
pub not-whole : {A : Type 0} {w : Walk} {l : ℕ} → Break w ≡ Continue l → A
not-whole p = let z : ◌≡◌ {A = ℕ} 0 1 = cc in absurd (omega arith)

-- A test in front of a step that ends the walk passed.
pub passed-test : {l : ℕ} (t : Bool) (s : Step) (w : Walk) → cond t s (Break w) ≡ Continue l → (t ≡ true) × (s ≡ Continue l)
passed-test true s w e = (refl, e)
passed-test false s w e = not-whole e

pub failed-test : {l : ℕ} (t : Bool) (s : Step) (w : Walk) → cond t (Break w) s ≡ Continue l → (t ≡ false) × (s ≡ Continue l)
failed-test true s w e = not-whole e
failed-test false s w e = (refl, e)

-- A body that is whole has the given length, and that many bytes are there.
pub body-length : (m place : ℕ) (rest : List ℕ) (l : ℕ) → body_step m place rest ≡ Continue l → (l ≡ m) × (m ≤ length rest)
body-length m place rest l e =
    let h = passed-test (leb m (length rest)) (Continue m) (Err (Missing (place + 1 + length rest))) e in
    (cc h.1, leb-true m (length rest) h.0)

-- A fault is no table and no form.
pub faulty : {A : Type 0} {found : Walk} {count : ℕ} → is_fault found ≡ true → found ≡ Ok count → A
faulty p e = clash p (ap is_fault e)

-- Only a known kind is passed, or leads to a table or a form; the walk then goes by that kind and the length of its body.
module _ (byte place : ℕ) (judge : Kind → ℕ → Step) where
  pub head-whole : {l : ℕ} → head_step (head_of byte place) judge ≡ Continue l → (kind : Kind) × (byte ≡ kind_byte kind) × (judge kind (body_length kind) ≡ Continue l)
  head-whole {l} =
      head-cases (λ h. head_step h judge ≡ Continue l → (kind : Kind) × (byte ≡ kind_byte kind) × (judge kind (body_length kind) ≡ Continue l)) byte place
      (λ kind q e. (kind, q, e)) not-whole

  pub head-goes : (next : ℕ → Walk) {all : ℕ} → go_on (head_step (head_of byte place) judge) next ≡ Ok all
      → (kind : Kind) × (byte ≡ kind_byte kind) × (go_on (judge kind (body_length kind)) next ≡ Ok all)
  head-goes next {all} =
      head-cases (λ h. go_on (head_step h judge) next ≡ Ok all → (kind : Kind) × (byte ≡ kind_byte kind) × (go_on (judge kind (body_length kind)) next ≡ Ok all)) byte place
      (λ kind q e. (kind, q, e)) (faulty refl)
