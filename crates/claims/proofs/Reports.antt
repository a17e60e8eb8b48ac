-- What an accepted call returns and hands over is what the definitions say: from demand 1, call by call. Read next: Demand2.
use mathlib.Core.Path.{◌≡◌, refl, ap, ap₂, ◌∙◌}
use mathlib.Core.Bool.{Bool, false}
use mathlib.Core.Logic.{inl, inr}
use mathlib.Core.List.{List, [], ◌∷◌, ◌++◌}
use Prim.Native.Nat.{ℕ, ◌^◌, ◌≤◌}
use lib.ListN.{length, take, drop, get_or}
use lib.Seq.{take-append_seam}
use Rattle.gf2.specs.Limits.{max_variables}
use Rattle.gf2.specs.Finite.{holds, select}
use Rattle.gf2.proofs.Finite.{select-mem, select-holds, select-rising}
use Rattle.table.specs.Refusal.{Fault}
use Rattle.table.specs.Refusal.{Test, test, NoneApplies, size_fault}
use Rattle.table.specs.Decision.{front, Decision, room_test}
use Rattle.table.specs.Table.{table_tests, table_fault, Accepted}
use Rattle.table.proofs.FirstFault.{no-fault}
use Rattle.table.proofs.Table.{table-numbered, accepted, no-refusal}
use Rattle.table.proofs.Decide.{decide-accepted}
use Rattle.space.specs.Closure.{linear_space}
use Rattle.space.specs.Completion.{completed_points}
use Rattle.space.proofs.Closure.{linear-ext}
use Rattle.form_calls.specs.declared.FormPoints.{FormPoints}
use Rattle.form_calls.specs.declared.FormRewrite.{FormRewrite}
use Rattle.form_calls.specs.Reading.{points_read, points_accepted, points_answer, points_after, rewritten, rewrite_accepted, rewrite_answer, rewrite_after}
use Rattle.cubes.proofs.Lists.{mem-append}
use Rattle.cover.specs.WrittenForm.{form_size_fault}
use Rattle.writing.specs.declared.FormWritten.{FormWritten}
use Rattle.writing.specs.Writing.{form_bytes, form_tests, write_accepted, write_answer, write_after}
use Rattle.analysis.specs.declared.Completion.{Completion}
use Rattle.analysis.specs.declared.Analysis.{Analysis}
use Rattle.analysis.specs.Spaces.{linear_space_tests, linear_space_accepted, linear_space_refused, linear_space_answer, completed_restriction, complete_accepted, complete_answer, complete_after, analyse_accepted, analyse_answer, analyse_after}
use Rattle.claims.specs.Demand1.{lent, Decides}
use Rattle.claims.proofs.Demand1.{demand1}

-- ---- any call with one room

-- What was returned and handed over: the accepted answer, and the whole list that belongs to it.
pub record Gave {A : Type 0} (returned accepted : A) (handed whole : List ℕ) : Type 0 where
  pub value : returned ≡ accepted
  pub list : handed ≡ whole

-- An accepted call hands over its list, if it counts it.
gave : {A : Type 0} {fixed numbers : List ℕ} {fault : A → Fault} {others : A → List ℕ} {call : Decision A} {returned : A} {written before after : List ℕ}
    → Decides fixed numbers fault others call returned (lent written before after ∷ []) → (count : A → ℕ) → count call.accepted ≡ length written
    → (fault returned).number ≡ 0 → Gave returned call.accepted (take (count returned) after) written
gave {A} {written = written} {before} d count c e =
    let a = d.accepts e in record {
      value = a.0;
      list = ap₂ (λ (x : A) (l : List ℕ). take (count x) l) a.0 (ap (λ (l : List (List ℕ)). get_or l 0 []) a.1)
          ∙ ap (λ (k : ℕ). take k (front written before)) c ∙ take-append_seam written (drop (length written) before);
    }

-- Tests none of which applies: neither does one of the first of them, nor one of the last.
none_first : (ts us : List Test) → NoneApplies (ts ++ us) → NoneApplies ts
none_first ts us h t m = h t (mem-append ts us t (inl m))

none_last : (ts us : List Test) → NoneApplies (ts ++ us) → NoneApplies us
none_last ts us h t m = h t (mem-append ts us t (inr m))

-- A table none of whose tests applies is accepted.
table-accepted : (n : ℕ) (on free : List ℕ) → NoneApplies (table_tests n on free) → Accepted n on free
unfolding table_fault
table-accepted n on free h = accepted n on free ((no-fault (table_tests n on free) (table-numbered n on free)).1 h)

-- ---- the calls on a table

module _ (n : ℕ) (on free room : List ℕ) where
  pub complete-gave : (complete_answer n on free room).refusal ≡ 0
      → Gave (complete_answer n on free room) (complete_accepted n on free) (take (complete_answer n on free room).count (complete_after n on free room)) (completed_points n on free)
  complete-gave = gave (demand1.complete n on free room) (λ (r : Completion). r.count) refl

  pub complete-table : (complete_answer n on free room).refusal ≡ 0 → Accepted n on free
  complete-table e =
      table-accepted n on free
      (none_first (table_tests n on free) (room_test (completed_points n on free) room) ((demand1.complete n on free room).exact.accepted.0 e))

  pub analyse-gave : (analyse_answer n on free room).refusal ≡ 0
      → Gave (analyse_answer n on free room) (analyse_accepted n on free) (take (analyse_answer n on free room).count (analyse_after n on free room)) (completed_restriction n on free)
  analyse-gave = gave (demand1.analyse n on free room) (λ (r : Analysis). r.count) refl

  pub write-gave : (write_answer n on free room).refusal ≡ 0
      → Gave (write_answer n on free room) (write_accepted n on free) (take (write_answer n on free room).length (write_after n on free room)) (form_bytes n on free)
  write-gave = gave (demand1.write_form n on free room) (λ (r : FormWritten). r.length) refl

  pub write-small : (write_answer n on free room).refusal ≡ 0 → form_size_fault n on free ≡ false
  write-small e =
      none_last (table_tests n on free) (test size_fault (form_size_fault n on free) ∷ [])
      (none_first (form_tests n on free) (room_test (form_bytes n on free) room) ((demand1.write_form n on free room).exact.accepted.0 e))
      (test size_fault (form_size_fault n on free)) (inl refl)

-- ---- the calls on the bytes of a form

module _ (bytes room : List ℕ) where
  pub points-gave : (points_answer bytes room).refusal ≡ 0
      → Gave (points_answer bytes room) (points_accepted bytes) (take (points_answer bytes room).count (points_after bytes room)) (points_read bytes)
  points-gave = gave (demand1.form_points bytes room) (λ (r : FormPoints). r.count) refl

  pub rewrite-gave : (rewrite_answer bytes room).refusal ≡ 0
      → Gave (rewrite_answer bytes room) (rewrite_accepted bytes) (take (rewrite_answer bytes room).length (rewrite_after bytes room)) (rewritten bytes)
  rewrite-gave = gave (demand1.form_rewrite bytes room) (λ (r : FormRewrite). r.length) refl

-- ---- `linear_space` of a function's points

pub space-gave : (n : ℕ) (on : List ℕ) → Accepted n on [] → linear_space_answer n on ≡ linear_space_accepted n on
unfolding table_fault linear_space_answer
space-gave n on a = decide-accepted (linear_space_tests n on) (linear_space_accepted n on) linear_space_refused (no-refusal n on [] a)

-- The points of a function are a table without free points, with the function's linear space.
module _ (n : ℕ) (some : 1 ≤ n) (few : n ≤ max_variables) (f : ℕ → Bool) where
  pub selected-accepted : Accepted n (select f (2 ^ n)) []
  selected-accepted = record {
    some = some;
    few = few;
    on_below = λ p m. (select-mem f (2 ^ n) p m).0;
    free-below = λ p m. absurd m;
    on-rising = select-rising f (2 ^ n);
    free-rising = tt;
    apart = λ p l m. m;
  }

  pub selected-space : linear_space n (holds (select f (2 ^ n))) ≡ linear_space n f
  selected-space = linear-ext n (holds (select f (2 ^ n))) f (select-holds f (2 ^ n))
