-- Laws of specs.Refusal: bytes that are not refused are a form (`accepted-form`), and a form has its first record. Read next: Alone.
use mathlib.Core.Path.{◌≡◌, refl, sym, ap, ◌∙◌}
use mathlib.Core.Bool.{true}
use mathlib.Core.Logic.{inl, inr, ◌↔◌}
use mathlib.Core.List.{List}
use Prim.Native.Nat.{ℕ, ◌≤◌, ◌<◌}
use native.Mathlib.Omega.{arith}
use lib.ListN.{length}
use Rattle.gf2.specs.Limits.{max_variables}
use Rattle.gf2.specs.Finite.{Mem, holds}
use Rattle.gf2.proofs.Logic.{clash}
use Rattle.table.specs.Refusal.{Fault}
use Rattle.table.specs.Refusal.{fault_of, Numbered}
use Rattle.table.proofs.FirstFault.{numbered}
use Rattle.records.specs.Walks.{fault_number, fault_found, is_fault}
use Rattle.records.proofs.Numbers.{no_number, none-fault, layout-found}
use Rattle.form.specs.Decoding.{form_variables}
use Rattle.form.specs.Walk.{walked_form}
use Rattle.form.specs.Refusal.{IsForm, form_faults, form_tests, form_fault}
use Rattle.form.proofs.Laying.{LaidAs, form, form-laid}
use Rattle.form.proofs.Encodings.{form-valid}
use Rattle.table.specs.declared.BytesFault.TheVariants.{WrongKind, Missing, WrongVariables, WrongFactor, NotCanonical, WrongCount, After, TooMany}
use Rattle.records.specs.Walks.{Walk}
use Rattle.std.specs.Prelude.{Ok, Err}

-- No test of a form's bytes gives 0.
pub form-numbered : (bytes : List ℕ) → Numbered (form_tests bytes)
unfolding holds
form-numbered bytes = numbered (form_tests bytes) refl

-- Every number of a fault is one of those of a form.
form-number : (found : Walk) → is_fault found ≡ true → Mem (fault_number found) form_faults
form-number (Ok count) e = clash e refl
form-number (Err (WrongKind place)) e = inl refl
form-number (Err (Missing place)) e = inr (inl refl)
form-number (Err (WrongVariables place)) e = inr (inr (inl refl))
form-number (Err (WrongFactor place)) e = inr (inr (inr (inl refl)))
form-number (Err (NotCanonical place)) e = inr (inr (inr (inr (inl refl))))
form-number (Err (WrongCount place)) e = inr (inr (inr (inr (inr (inl refl)))))
form-number (Err (After place)) e = inr (inr (inr (inr (inr (inr (inl refl))))))
form-number (Err (TooMany place)) e = inr (inr (inr (inr (inr (inr (inr (inl refl)))))))

-- So the tests give what the walk found.
pub form-told : (bytes : List ℕ) → fault_of (form_tests bytes) ≡ fault_found (walked_form bytes)
unfolding holds
form-told bytes = let h = layout-found (walked_form bytes) form_faults refl (form-number (walked_form bytes)) in cc (h.0, h.1)

-- There is no refusal exactly where the bytes are a form.
pub accepted-form : (bytes : List ℕ) → (form_fault bytes ≡ 0) ↔ IsForm bytes
unfolding form_fault
accepted-form bytes =
    let number = ap (λ (f : Fault). f.number) (form-told bytes) in
    (λ e. none-fault (walked_form bytes) (sym number ∙ e), λ h. number ∙ no_number (walked_form bytes) h)

-- An accepted form has its first record, which gives an n as in a table.
pub form-begins : (bytes : List ℕ) → IsForm bytes → (1 < length bytes) × (form_variables bytes ≤ max_variables)
form-begins bytes h = (go (form-laid bytes h).1, (form-valid bytes h).few)
  where
    go : {l : List ℕ} {all : ℕ} → LaidAs l all → 1 < length l
    go (form q b r) = omega arith
