-- `basis::Basis::full` meets its contract: after i turns the array holds the i first vectors of one bit. Assumes nothing.
use mathlib.Core.Path.{◌≡◌, sym, ap, ap₂, ◌∙◌, subst}
use mathlib.Core.List.{List, [], ◌∷◌, ◌++◌}
use Prim.Native.Nat.{ℕ, ◌+◌, ◌*◌, ◌%◌, ◌^◌, ◌≤◌, ◌<◌}
use native.Mathlib.Numerals.{add-one}
use native.Mathlib.Omega.{arith}
use borrow.Author.Rules.{rules}
use lib.ListN.{set}
use lib.Pow.{pow_mono}
use Rattle.gf2.specs.Limits.{max_variables}
use Rattle.gf2.specs.Basis.{units}
use Rattle.gf2.proofs.Xor.{shifted_one}
use Rattle.gf2.proofs.ReducedBasis.{units-length, units-below, units-reduced, units-span}
use Rattle.basis.specs.declared.Basis.{Basis}
use Rattle.basis.specs.Short.{padded}
use Rattle.basis.specs.Reduced.{basis_of, Built}
use Rattle.basis.proofs.Values.{padded-push, built}
use Rattle.basis.proofs.Basis.full.Goals as goal

pub loop-i-init : goal.loop-i-init
unfolding units
loop-i-init c = search rules

-- One more vector stored.
stored : (l : List ℕ) (i : ℕ) → i < max_variables → l ≡ padded (units i) → set l i (1 * 2 ^ i % 65536) ≡ padded (units (i + 1))
unfolding units
stored l i h e =
    let v : 1 * 2 ^ i % 65536 ≡ 2 ^ i = shifted_one i 16 (omega arith) in
    ap₂ (λ (a : List ℕ) (x : ℕ). set a i x) e v
    ∙ subst (λ (k : ℕ). set (padded (units i)) k (2 ^ i) ≡ padded (units i ++ (2 ^ i ∷ []))) (units-length i)
    (padded-push max_variables (units i) (2 ^ i) (omega (arith, units-length i)))
    ∙ ap (λ (k : ℕ). padded (units k)) (sym (add-one i))

pub loop-i-preserved : goal.loop-i-preserved
loop-i-preserved c = let h = c.loop-i in stored h.vectors h.i (omega arith) h.invariant

whole : (n : ℕ) (l : List ℕ) → n ≤ max_variables → l ≡ padded (units n) → Built (record { vectors = l; len = n }) (units n) (λ (x : ℕ). x < 2 ^ n)
whole n l h e =
    let same : ◌≡◌ {A = Basis} (basis_of (units n)) (record { vectors = l; len = n }) =
    ap₂ (λ (vectors : List ℕ) (len : ℕ). record { vectors = vectors; len = len }) (sym e) (units-length n) in
    subst (λ (b : Basis). Built b (units n) (λ (x : ℕ). x < 2 ^ n)) same
    (built (units n) (λ (x : ℕ). x < 2 ^ n) (units-reduced n) (λ c m. omega (arith, units-below n c m, pow_mono h)) (units-span n))

pub returns : goal.returns
returns c =
    let h = c.loop-i in
    let e : h.i ≡ c.args.n = omega arith in
    whole c.args.n h.vectors c.requires (h.invariant ∙ ap (λ (k : ℕ). padded (units k)) e)
