-- `basis::ShortList::push` meets its contract: `padded-push`. Assumes nothing.
use mathlib.Core.Path.{◌≡◌, ap, ap₂, ◌∙◌}
use mathlib.Core.List.{List, [], ◌∷◌, ◌++◌}
use Prim.Native.Nat.{ℕ, ◌+◌, ◌<◌}
use native.Mathlib.Omega.{arith}
use lib.ListN.{length, set, length-append}
use Rattle.gf2.specs.Limits.{max_variables}
use Rattle.basis.specs.declared.ShortList.{ShortList}
use Rattle.basis.specs.Short.{listed, padded, short}
use Rattle.basis.proofs.Values.{padded-push}
use Rattle.basis.proofs.ShortList.push.Goals as goal

pushed : (s : ShortList) (v : ℕ) → s ≡ short (listed s) → s.len < max_variables
    → ◌≡◌ {A = ShortList} (record { values = set s.values s.len v; len = s.len + 1 }) (short (listed s ++ (v ∷ [])))
pushed s v e h =
    let l : s.len ≡ length (listed s) = ap (λ (x : ShortList). x.len) e in
    let a : s.values ≡ padded (listed s) = ap (λ (x : ShortList). x.values) e in
    ap₂ (λ (values : List ℕ) (len : ℕ). record { values = values; len = len })
    (ap₂ (λ (values : List ℕ) (at : ℕ). set values at v) a l ∙ padded-push max_variables (listed s) v (omega arith))
    (omega (arith, length-append (listed s) (v ∷ [])))

pub returns : goal.returns
returns c = pushed c.args.self c.args.v c.requires.self_value c.requires.len_lt_max_variables
