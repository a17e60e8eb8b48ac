-- Listings that go on where the one before stopped, and tables that are exchanged or the same. Read next: Writing.
use mathlib.Core.Path.{◌≡◌, refl, sym, ap, ◌∙◌}
use mathlib.Core.Bool.{Bool, true, false, not, ◌&&◌}
use mathlib.Core.Logic.{◌↔◌, ◌≢◌}
use mathlib.Core.List.{[], ◌++◌}
use Prim.Native.Nat.{ℕ, ◌≤◌, ◌<◌}
use native.Mathlib.Decide.{ℕ_discrete}
use native.Mathlib.Omega.{arith}
use lib.Dec.{eqb, leb}
use lib.ListN.{length}
use borrow.Author.Tests.{eq-eqb, ne_eqb, le-leb, leb-true}
use Rattle.gf2.specs.Finite.{Mem, select, Rising}
use Rattle.gf2.proofs.Logic.{clash, and_l, and_r, and_i, and-false}
use Rattle.gf2.proofs.Finite.{select-ext, select-none, select-split, select-mem, mem-select, select-rising, select-length}
use Rattle.table.proofs.Table.{refuted}
use Rattle.compare.specs.Differences.{differs, differing, is_listed, differing_from}

-- ---- a point that differs

differs-not : (a b : ℕ) → a ≢ b → not (eqb a b) ≡ true
differs-not a b n = rw (ne_eqb a b n)

differs-is : (a b : ℕ) → not (eqb a b) ≡ true → a ≢ b
differs-is a b e q = clash e (rw (eq-eqb a b q))

module _ (left right : ℕ → ℕ) where
  pub listed-differs : (first p : ℕ) → is_listed left right first p ≡ true → left p ≢ right p
  listed-differs first p e = differs-is (left p) (right p) (and_r (leb first p) (differs left right p) e)

  -- The points listed are those from the first one on, below the bound, whose marks differ.
  pub from-mem : (first bound p : ℕ) → Mem p (differing_from left right first bound) ↔ ((first ≤ p) × (p < bound) × (left p ≢ right p))
  unfolding differing_from
  from-mem first bound p = (
    λ m.
        let k = select-mem (is_listed left right first) bound p m in
        (leb-true first p (and_l (leb first p) (differs left right p) k.1), k.0, listed-differs first p k.1),
    λ k. mem-select (is_listed left right first) bound p k.1 (and_i (leb first p) (differs left right p) (le-leb first p k.0) (differs-not (left p) (right p) k.2)),
  )

  pub from-rising : (first bound : ℕ) → Rising (differing_from left right first bound)
  unfolding differing_from
  from-rising first bound = select-rising (is_listed left right first) bound

  pub from-length : (first bound : ℕ) → length (differing_from left right first bound) ≤ bound
  unfolding differing_from
  from-length first bound = select-length (is_listed left right first) bound

  -- All differing points are those from point 0 on.
  pub differing-all : (size : ℕ) → differing left right size ≡ differing_from left right 0 size
  unfolding differing differing_from
  differing-all size = select-ext (differs left right) (is_listed left right 0) size (λ p h. rw (le-leb 0 p (omega arith)))

  -- None is below the first point.
  pub from-none : (first bound : ℕ) → bound ≤ first → differing_from left right first bound ≡ []
  unfolding differing_from
  from-none first bound h =
      select-none (is_listed left right first) bound (λ p k. refuted (is_listed left right first p) (λ e. omega (arith, leb-true first p (and_l (leb first p) (differs left right p) e))))

  -- Those below a later point, and those from it on.
  pub from-add : (first next bound : ℕ) → first ≤ next → next ≤ bound
      → differing_from left right first bound ≡ differing_from left right first next ++ differing_from left right next bound
  unfolding differing_from
  from-add first next bound h k =
      select-split (is_listed left right first) next bound k
      ∙ ap (λ l. select (is_listed left right first) next ++ l)
      (select-ext (λ p. leb next p && is_listed left right first p) (is_listed left right next) bound (λ p q. later p (leb next p) refl))
    where
      later : (p : ℕ) (b : Bool) → leb next p ≡ b → b && is_listed left right first p ≡ b && differs left right p
      later p false e = refl
      later p true e = rw (le-leb first p (omega (arith, leb-true next p e)))

  -- The same points differ where the tables are exchanged.
  pub from-exchange : (first bound : ℕ) → differing_from right left first bound ≡ differing_from left right first bound
  unfolding differing_from
  from-exchange first bound = select-ext (is_listed right left first) (is_listed left right first) bound (λ p h. ap (λ b. leb first p && b) (swap p (ℕ_discrete (left p) (right p))))
    where
      swap : (p : ℕ) → Dec (left p ≡ right p) → differs right left p ≡ differs left right p
      swap p (yes e) = rw (eq-eqb (left p) (right p) e, eq-eqb (right p) (left p) (sym e))
      swap p (no n) = rw (ne_eqb (left p) (right p) n, ne_eqb (right p) (left p) (λ e. n (sym e)))

-- A table beside itself differs nowhere.
pub from-same : (marks : ℕ → ℕ) (first bound : ℕ) → differing_from marks marks first bound ≡ []
unfolding differing_from
from-same marks first bound =
    select-none (is_listed marks marks first) bound (λ p h. rw (eq-eqb (marks p) (marks p) refl) (and-false (leb first p)))
