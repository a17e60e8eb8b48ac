-- `table::unordered` meets its contract: the points are sorted exactly where none is as great as the next. Assumes nothing.
use mathlib.Core.Path.{◌≡◌, refl, sym, subst}
use mathlib.Core.Bool.{Bool, true, false, not, ◌||◌}
use mathlib.Core.List.{List, [], ◌∷◌}
use Prim.Native.Nat.{ℕ, zero, suc, ◌+◌, ◌<◌}
use native.Mathlib.Omega.{arith}
use Rattle.std.proofs.lemmas.Fn.{always_returns_same}
use lib.Dec.{leb, ltb}
use lib.ListN.{length, get_or}
use borrow.Author.Tests.{tests}
use borrow.Author.Rules.{rules}
use Rattle.std.specs.List.{IsAllAdjacentAnswer}
use Rattle.table.specs.Table.{not_above, unordered}
use Rattle.table.proofs.unordered.Goals as goal

-- One of two tests of a list applies.
or-true : (b : Bool) → (b || true) ≡ true
or-true true = refl
or-true false = refl

later : (k : ℕ) → suc k + 1 ≡ suc (k + 1)
later k = omega arith

sorted : (ps : List ℕ) → ((k d : ℕ) → k + 1 < length ps → true ≡ ltb (get_or ps k d) (get_or ps (k + 1) d)) → unordered ps ≡ false
unfolding unordered not_above
sorted [] h = refl
sorted (p ∷ []) h = refl
sorted (p ∷ q ∷ ps) h =
    let above : leb q p ≡ false = grind (arith, h 0 0 (omega arith)) in
    rw (above, sorted (q ∷ ps) (λ k d l. subst (λ j. true ≡ ltb (get_or (p ∷ q ∷ ps) (suc k) d) (get_or (p ∷ q ∷ ps) j d)) (later k) (h (suc k) d (omega arith))))

broken : (ps : List ℕ) (k : ℕ) → k + 1 < length ps → ((d : ℕ) → false ≡ ltb (get_or ps k d) (get_or ps (k + 1) d)) → unordered ps ≡ true
unfolding unordered not_above
broken [] k l h = absurd (omega arith)
broken (p ∷ []) k l h = absurd (omega arith)
broken (p ∷ q ∷ ps) zero l h =
    let below : leb q p ≡ true = grind (arith, h 0) in
    rw below
broken (p ∷ q ∷ ps) (suc k) l h = rw (broken (q ∷ ps) k (omega arith) (λ d. subst (λ j. false ≡ ltb (get_or (p ∷ q ∷ ps) (suc k) d) (get_or (p ∷ q ∷ ps) j d)) (later k) (h d))) (or-true (leb q p))

decided : (r : Bool) (ps : List ℕ) → IsAllAdjacentAnswer (λ x y b. b ≡ ltb x y) ps r → not r ≡ unordered ps
decided true ps h = sym (sorted ps h)
decided false ps h = sym (broken ps h.0 h.1 h.2)

pub returns : goal.returns
returns c = decided c.is_sorted_by.result c.args.points.now (c.is_sorted_by.ensures.cases ltb (always_returns_same _ _ _ (λ a r q k. search (rules, tests))))
