-- Laws of specs.Reading: the ways out of the calls that read a form. Read next: Examples.
use mathlib.Core.Path.{◌≡◌, refl, sym, ap, ◌∙◌, subst}
use mathlib.Core.Logic.{inl, inr}
use mathlib.Core.Bool.{Bool, true, false, cond}
use mathlib.Core.List.{List, [], ◌∷◌, ◌++◌, map, map-id}
use Prim.Native.Nat.{ℕ, zero, suc, ◌+◌, ◌<◌, ◌^◌}
use Rattle.std.specs.List.{filter, range_with_len}
use Rattle.std.proofs.lemmas.List.FromFn.{filter_of_map_range_with_len_more}
use lib.ListN.{get_or}
use Rattle.std.proofs.Common.{zero-add, append-nil, add-one}
use Rattle.gf2.specs.Finite.{select}
use Rattle.table.specs.Refusal.{Fault}
use Rattle.table.specs.Refusal.{fault_at, fault_of}
use Rattle.table.proofs.Decide.{PlacedWays, placed-ways}
use Rattle.records.specs.Kinds.{Bytes}
use Rattle.form.specs.Form.{form_at, form_points}
use Rattle.form.specs.Decoding.{form_variables, decode_form}
use Rattle.form.specs.Refusal.{IsForm, form_tests, form_fault, form_place}
use Rattle.form.proofs.Accepting.{accepted-form, form-numbered}
use Rattle.form_calls.specs.Reading.{points_read, points_accepted, points_refused, points_answer, points_after, rewritten, rewrite_accepted, rewrite_refused, rewrite_answer, rewrite_after}

-- The numbers below a bound that pass a test, as a filter over the range gives them.
pub select-filter : (f : ℕ → Bool) (k : ℕ) → select f k ≡ filter f (range_with_len 0 k)
unfolding select
select-filter f zero = refl
select-filter f (suc k) =
    let more : filter f (map (λ i. i) (range_with_len 0 (k + 1))) ≡ filter f (map (λ i. i) (range_with_len 0 k)) ++ cond (f k) (k ∷ []) [] = filter_of_map_range_with_len_more f (λ i. i) 0 k k (zero-add k) in
    let next : filter f (range_with_len 0 (suc k)) ≡ filter f (range_with_len 0 k) ++ cond (f k) (k ∷ []) [] =
    subst (λ (j : ℕ). filter f (range_with_len 0 j) ≡ filter f (range_with_len 0 k) ++ cond (f k) (k ∷ []) []) (add-one k) (rw (map-id (range_with_len 0 (k + 1)), map-id (range_with_len 0 k)) at more) in
    ap (λ l. cond (f k) (l ++ (k ∷ [])) l) (select-filter f k) ∙ snoc (f k) (filter f (range_with_len 0 k)) (k ∷ []) ∙ sym next
  where
    snoc : (b : Bool) (l m : List ℕ) → cond b (l ++ m) l ≡ l ++ cond b m []
    snoc true l m = refl
    snoc false l m = sym (append-nil l)

module _ (bytes : List ℕ) where
  -- The points below 2 ^ n are all of them.
  pub points-below : {size : ℕ} → size ≡ 2 ^ form_variables bytes → select (form_at (decode_form bytes)) size ≡ points_read bytes
  unfolding form_points
  points-below e = ap (select (form_at (decode_form bytes))) e

  pub points-ways : (room : List ℕ)
      → PlacedWays (form_fault bytes) (form_place bytes) (points_read bytes) room (points_accepted bytes) points_refused (points_answer bytes room) (points_after bytes room)
  unfolding form_fault form_place points_answer points_after
  points-ways room = placed-ways (form_tests bytes) (points_read bytes) room (points_accepted bytes) points_refused (form-numbered bytes)

  -- The bytes of a form that was read.
  pub rewrite-ways : (room : List ℕ)
      → PlacedWays (form_fault bytes) (form_place bytes) (rewritten bytes) room (rewrite_accepted bytes) rewrite_refused (rewrite_answer bytes room) (rewrite_after bytes room)
  unfolding form_fault form_place rewrite_answer rewrite_after
  rewrite-ways room = placed-ways (form_tests bytes) (rewritten bytes) room (rewrite_accepted bytes) rewrite_refused (form-numbered bytes)

-- What was found of the bytes is their refusal, with its place; and where nothing was found they are a form.
pub form-found : (bytes : List ℕ) {f : Fault} → f ≡ fault_of (form_tests bytes) → f ≡ fault_at (form_fault bytes) (form_place bytes)
unfolding form_fault form_place
form-found bytes e = e

pub form-sound : (bytes : List ℕ) → fault_at 0 0 ≡ fault_of (form_tests bytes) → (form_fault bytes ≡ 0) × IsForm bytes
form-sound bytes e = let none = sym (ap (λ (f : Fault). f.number) (form-found bytes e)) in (none, (accepted-form bytes).0 none)

-- A slice of bytes is a list of bytes.
pub slice-bytes : (bytes : List ℕ) → ((i : ℕ) → get_or bytes i 0 < 256) → Bytes bytes
slice-bytes mathlib.Core.List.[] h byte m = elim m [ ]
slice-bytes (b ∷ bytes) h byte (inl e) = rw e (h 0)
slice-bytes (b ∷ bytes) h byte (inr m) = slice-bytes bytes (λ i. h (suc i)) byte m
