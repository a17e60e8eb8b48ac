-- Laws of specs.Table: each test of a table says what document 01 does, and a table has no refusal exactly if it is accepted. Read next: Flags.
use mathlib.Core.Path.{◌≡◌, refl}
use mathlib.Core.Bool.{Bool, true, false, ◌||◌}
use mathlib.Core.Logic.{inl, inr, ◌↔◌}
use mathlib.Core.List.{List, [], ◌∷◌}
use Prim.Native.Nat.{ℕ, suc, ◌+◌, ◌^◌, ◌≤◌, ◌<◌}
use native.Mathlib.Nat.{lt_of_lt_of_le}
use native.Mathlib.Numerals.{add-one}
use native.Mathlib.Omega.{arith}
use lib.ListN.{length, drop, get_or, length-drop}
use lib.Seq.{drop-cons}
use lib.Pow.{pow_mono}
use lib.Dec.{eqb, ltb, leb}
use borrow.Author.Tests.{eqb-false, ne_eqb, ltb-false, le-ltb, leb-false, lt-leb}
use Rattle.gf2.specs.Limits.{max_variables}
use Rattle.gf2.specs.Finite.{Mem, holds, Rising}
use Rattle.gf2.proofs.Logic.{clash, same, or_l, or_r, or_cases, or-none, or-false}
use Rattle.gf2.proofs.Finite.{holds-mem, get_d-mem}
use Rattle.table.specs.Refusal.{first_fault, Numbered}
use Rattle.table.specs.Table.{bad_count, outside, not_above, unordered, shared, table_tests, table_fault, Accepted}
use Rattle.table.proofs.FirstFault.{no-fault, numbered}

-- A test that is not true is false.
pub refuted : (t : Bool) → (t ≡ true → ⊥) → t ≡ false
refuted true h = absurd (h refl)
refuted false h = refl

-- ---- refusal 1

pub good-count : (n : ℕ) → (bad_count n ≡ false) ↔ ((1 ≤ n) × (n ≤ max_variables))
unfolding bad_count
good-count n = (
  λ e. let h = or-none (eqb n 0) (ltb max_variables n) e in let z = eqb-false n 0 h.0 in (omega arith, ltb-false max_variables n h.1),
  λ h. or-false (eqb n 0) (ltb max_variables n) (ne_eqb n 0 (λ z. omega arith)) (le-ltb max_variables n h.1),
)

-- ---- refusal 2

pub inside : (n : ℕ) (ps : List ℕ) → outside n ps ≡ false → (p : ℕ) → Mem p ps → p < 2 ^ n
unfolding outside
inside n [] e p h = elim h [ ]
inside n (q ∷ ps) e p (inl z) = rw z (leb-false (2 ^ n) q (or-none (leb (2 ^ n) q) (outside n ps) e).0)
inside n (q ∷ ps) e p (inr m) = inside n ps (or-none (leb (2 ^ n) q) (outside n ps) e).1 p m

pub inside-at : (n : ℕ) (ps : List ℕ) → outside n ps ≡ false → (i : ℕ) → i < length ps → get_or ps i 0 < 2 ^ n
inside-at n ps e i h = inside n ps e (get_or ps i 0) (get_d-mem ps i 0 h)

pub not-outside : (n : ℕ) (ps : List ℕ) → ((p : ℕ) → Mem p ps → p < 2 ^ n) → outside n ps ≡ false
unfolding outside
not-outside n [] h = refl
not-outside n (p ∷ ps) h = or-false (leb (2 ^ n) p) (outside n ps) (lt-leb (2 ^ n) p (h p (inl refl))) (not-outside n ps (λ q m. h q (inr m)))

pub outside-more : (n : ℕ) {m : ℕ} (ps : List ℕ) → n ≤ m → outside n ps ≡ false → outside m ps ≡ false
outside-more n {m} ps h e = not-outside m ps (λ p k. lt_of_lt_of_le (inside n ps e p k) (pow_mono h))

-- The list from place i on: its first point, and the list from the next place on.
pub outside-next : (n : ℕ) (ps : List ℕ) (i : ℕ) → i < length ps → outside n (drop i ps) ≡ leb (2 ^ n) (get_or ps i 0) || outside n (drop (i + 1) ps)
unfolding outside
outside-next n ps i h = rw (add-one, drop-cons ps i 0)

-- ---- refusal 3

pub rising : (ps : List ℕ) → unordered ps ≡ false → Rising ps
unfolding unordered not_above
rising [] e = tt
rising (p ∷ []) e = (λ q m. absurd m, tt)
rising (p ∷ q ∷ ps) e =
    let h = or-none (leb q p) (unordered (q ∷ ps)) e in
    let r = rising (q ∷ ps) h.1 in
    let l = leb-false q p h.0 in
    (λ x m. elim m [ inl z ↦ rw z l | inr k ↦ omega (arith, r.0 x k) ], r)

pub not-unordered : (ps : List ℕ) → Rising ps → unordered ps ≡ false
unfolding unordered not_above
not-unordered [] r = refl
not-unordered (p ∷ []) r = refl
not-unordered (p ∷ q ∷ ps) r = or-false (leb q p) (unordered (q ∷ ps)) (lt-leb q p (r.0 q (inl refl))) (not-unordered (q ∷ ps) r.1)

pub unordered-next : (ps : List ℕ) (i : ℕ) → i + 1 < length ps → unordered (drop i ps) ≡ leb (get_or ps (i + 1) 0) (get_or ps i 0) || unordered (drop (i + 1) ps)
unfolding unordered not_above
unordered-next ps i h =
    let l : i < length ps = omega arith in
    let k : suc i < length ps = omega arith in
    rw (add-one, drop-cons ps i 0, drop-cons ps (suc i) 0)

pub unordered-last : (ps : List ℕ) (i : ℕ) → length ps ≤ i + 1 → unordered (drop i ps) ≡ false
unfolding unordered not_above
unordered-last ps i h = few (drop i ps) (simp length-drop (omega arith))
  where
    few : (qs : List ℕ) → length qs ≤ 1 → unordered qs ≡ false
    few [] l = refl
    few (q ∷ []) l = refl
    few (q ∷ r ∷ qs) l = absurd (omega arith)

-- ---- refusal 4

pub shared-mem : (on free : List ℕ) → shared on free ≡ true → (p : ℕ) × Mem p on × Mem p free
unfolding shared
shared-mem [] free e = clash e refl
shared-mem (p ∷ on) free e = elim (or_cases (holds free p) (shared on free) e) [
  | inl h ↦ (p, inl refl, (holds-mem free p).0 h)
  | inr h ↦ let k = shared-mem on free h in (k.0, inr k.1, k.2)
]

pub mem-shared : (on free : List ℕ) (p : ℕ) → Mem p on → Mem p free → shared on free ≡ true
unfolding shared
mem-shared [] free p h m = elim h [ ]
mem-shared (q ∷ on) free p (inl z) m = or_l (holds free q) (shared on free) ((holds-mem free q).1 (rw z at m))
mem-shared (q ∷ on) free p (inr k) m = or_r (holds free q) (shared on free) (mem-shared on free p k m)

pub shared-comm : (on free : List ℕ) → shared on free ≡ shared free on
shared-comm on free = same (shared on free) (shared free on) (turned on free) (turned free on)
  where
    turned : (ps qs : List ℕ) → shared ps qs ≡ true → shared qs ps ≡ true
    turned ps qs e = let k = shared-mem ps qs e in mem-shared qs ps k.0 k.2 k.1

pub shared-next : (ps qs : List ℕ) (i : ℕ) → i < length ps → shared (drop i ps) qs ≡ holds qs (get_or ps i 0) || shared (drop (i + 1) ps) qs
unfolding shared
shared-next ps qs i h = rw (add-one, drop-cons ps i 0)

-- ---- the whole table

pub table-numbered : (n : ℕ) (on free : List ℕ) → Numbered (table_tests n on free)
unfolding holds table_tests
table-numbered n on free = numbered (table_tests n on free) refl

-- A table has no refusal exactly if it is accepted: there, and back.
pub accepted : (n : ℕ) (on free : List ℕ) → table_fault n on free ≡ 0 → Accepted n on free
unfolding table_fault table_tests
accepted n on free e =
    let none = (no-fault (table_tests n on free) (table-numbered n on free)).0 e in
    let count = (good-count n).0 (none _ (inl refl)) in
    let points = or-none (outside n on) (outside n free) (none _ (inr (inl refl))) in
    let order = or-none (unordered on) (unordered free) (none _ (inr (inr (inl refl)))) in
    record {
      some = count.0;
      few = count.1;
      on_below = inside n on points.0;
      free-below = inside n free points.1;
      on-rising = rising on order.0;
      free-rising = rising free order.1;
      apart = λ p l m. clash (mem-shared on free p l m) (none _ (inr (inr (inr (inl refl)))));
    }

pub no-refusal : (n : ℕ) (on free : List ℕ) → Accepted n on free → table_fault n on free ≡ 0
unfolding table_fault table_tests first_fault
no-refusal n on free a = rw (
  (good-count n).1 (a.some, a.few),
  or-false (outside n on) (outside n free) (not-outside n on a.on_below) (not-outside n free a.free-below),
  or-false (unordered on) (unordered free) (not-unordered on a.on-rising) (not-unordered free a.free-rising),
  refuted (shared on free) (λ e. let k = shared-mem on free e in a.apart k.0 k.1 k.2),
)

-- The points of an accepted table have flags.
pub on-flags : {n : ℕ} {on free : List ℕ} → Accepted n on free → outside max_variables on ≡ false
on-flags {n} {on} a = outside-more n on a.few (not-outside n on a.on_below)

pub free-flags : {n : ℕ} {on free : List ℕ} → Accepted n on free → outside max_variables free ≡ false
free-flags {n} {on} {free} a = outside-more n free a.few (not-outside n free a.free-below)
