-- Laws of `walk_by`, for every walk: a body that is there is passed, and at a place where a record begins the walk ends, or goes on after it; two walks
-- whose steps agree find the same. Read next: Numbers.
use mathlib.Core.Path.{◌≡◌, refl, sym, ap, ◌∙◌, subst}
use mathlib.Core.List.{List, [], ◌∷◌}
use Prim.Native.Nat.{ℕ, zero, suc, ◌≤◌, ◌<◌, ◌+◌}
use native.Mathlib.Nat.{le_of_suc-le-suc, not-suc-le-zero}
use native.Mathlib.Numerals.{add-one}
use native.Mathlib.Omega.{arith}
use lib.ListN.{length, drop, get_or, drop_of_length-le}
use lib.Seq.{drop-cons, drop-drop}
use Rattle.records.specs.Walks.{go_on, walk_by, bytes_missing}
use Rattle.records.specs.Walks.{Walk, Step}
use Rattle.std.specs.declared.ops.ControlFlow.TheVariants.{Continue, Break}

module _ {S : Type 0} (step : S → ℕ → ℕ → List ℕ → Step) (next : S → ℕ → List ℕ → S) (ending : S → ℕ → Walk) where
  -- A body that is there is passed.
  pub pass : (skip : ℕ) (s : S) (place : ℕ) (rest : List ℕ) → skip ≤ length rest → walk_by step next ending skip s place rest ≡ walk_by step next ending 0 s (place + skip) (drop skip rest)
  unfolding walk_by
  pass zero s place rest h = let e : place ≡ place + 0 = omega arith in ap (λ (p : ℕ). walk_by step next ending 0 s p rest) e
  pass (suc k) s place [] h = absurd (not-suc-le-zero h)
  pass (suc k) s place (b ∷ rest) h =
      let e : place + 1 + k ≡ place + suc k = omega arith in
      pass k s (place + 1) rest (le_of_suc-le-suc h) ∙ ap (λ (p : ℕ). walk_by step next ending 0 s p (drop k rest)) e

  -- The walk at a place of the bytes where none is left.
  pub walk-over : (bytes : List ℕ) (s : S) (place : ℕ) → length bytes ≤ place → walk_by step next ending 0 s place (drop place bytes) ≡ ending s place
  unfolding walk_by
  walk-over bytes s place h = rw (drop_of_length-le bytes h)

  -- The walk at a place of the bytes where a record begins.
  module _ (bytes : List ℕ) (s : S) (place : ℕ) (h : place < length bytes) where
    opened : drop place bytes ≡ get_or bytes place 0 ∷ drop (place + 1) bytes
    opened = rw (add-one, drop-cons bytes place 0)

    pub walk_ends : (w : Walk) → step s (get_or bytes place 0) place (drop (place + 1) bytes) ≡ Break w → walk_by step next ending 0 s place (drop place bytes) ≡ w
    unfolding walk_by
    walk_ends w e = rw (opened, e)

    pub walk-goes : (l : ℕ) → l ≤ length (drop (place + 1) bytes) → step s (get_or bytes place 0) place (drop (place + 1) bytes) ≡ Continue l
        → walk_by step next ending 0 s place (drop place bytes) ≡ walk_by step next ending 0 (next s (get_or bytes place 0) (drop (place + 1) bytes)) (place + 1 + l) (drop (place + 1 + l) bytes)
    unfolding walk_by
    walk-goes l there e =
        let after = next s (get_or bytes place 0) (drop (place + 1) bytes) in
        let on = pass l after (place + 1) (drop (place + 1) bytes) there ∙ ap (walk_by step next ending 0 after (place + 1 + l)) (drop-drop l (place + 1) bytes) in
        rw (opened, e) on

-- Two walks that go alike: where what lies behind them agrees, they do the same with each record, and then it agrees again.
module _ {S T : Type 0} (step : S → ℕ → ℕ → List ℕ → Step) (next : S → ℕ → List ℕ → S) (step₁ : T → ℕ → ℕ → List ℕ → Step) (next₁ : T → ℕ → List ℕ → T)
    (Alike : S → T → ℕ → Type 0)
    (same : (s : S) (t : T) (byte place : ℕ) (rest : List ℕ) → Alike s t place → step s byte place rest ≡ step₁ t byte place rest)
    (again : (s : S) (t : T) (byte place : ℕ) (rest : List ℕ) (l : ℕ) → Alike s t place → step s byte place rest ≡ Continue l → Alike (next s byte rest) (next₁ t byte rest) (place + 1 + l)) where
  pub walk-alike : (skip : ℕ) (s : S) (t : T) (place : ℕ) (rest : List ℕ) → Alike s t (place + skip) → walk_by step next bytes_missing skip s place rest ≡ walk_by step₁ next₁ bytes_missing skip t place rest
  unfolding walk_by
  walk-alike skip s t place [] a = refl
  walk-alike zero s t place (byte ∷ rest) a =
      let here : place + 0 ≡ place = omega arith in
      let alike : Alike s t place = subst (Alike s t) here a in
      rw (sym (same s t byte place rest alike)) (go (step s byte place rest) (λ l e. walk-alike l (next s byte rest) (next₁ t byte rest) (place + 1) rest (again s t byte place rest l alike e)) refl)
    where
      go : (found : Step)
          → ((l : ℕ) → step s byte place rest ≡ Continue l → walk_by step next bytes_missing l (next s byte rest) (place + 1) rest ≡ walk_by step₁ next₁ bytes_missing l (next₁ t byte rest) (place + 1) rest)
          → step s byte place rest ≡ found
          → go_on found (λ l. walk_by step next bytes_missing l (next s byte rest) (place + 1) rest) ≡ go_on found (λ l. walk_by step₁ next₁ bytes_missing l (next₁ t byte rest) (place + 1) rest)
      go (Break w) later e = refl
      go (Continue l) later e = later l e
  walk-alike (suc skip) s t place (byte ∷ rest) a =
      let on : place + suc skip ≡ place + 1 + skip = omega arith in
      walk-alike skip s t (place + 1) rest (subst (Alike s t) on a)
