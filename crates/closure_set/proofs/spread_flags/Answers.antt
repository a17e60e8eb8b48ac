-- `closure_set::spread_flags` meets its contract: the flags of the points below w are stored. Assumes nothing.
use mathlib.Core.Path.{◌≡◌, refl, ◌∙◌}
use mathlib.Core.Bool.{Bool, false}
use mathlib.Core.List.{List}
use Prim.Native.Nat.{ℕ, ◌+◌, ◌<◌}
use native.Mathlib.Decide.{ℕ_discrete}
use native.Mathlib.Omega.{arith}
use lib.ListN.{length, length-set, get_or, set}
use lib.Seq.{get_or-set_same, get_or-set_other}
use Rattle.point_sets.specs.Sets.{member}
use Rattle.closure_set.proofs.spread_flags.Goals as goal

-- One flag more stored.
stored : (flags : List Bool) (w : ℕ) (t : Bool) (f : ℕ → Bool) → w < length flags → ((x : ℕ) → x < w → get_or flags x false ≡ f x) → t ≡ f w
    → (x : ℕ) → x < w + 1 → get_or (set flags w t) x false ≡ f x
stored flags w t f h g e x l = go (ℕ_discrete x w)
  where
    go : Dec (x ≡ w) → get_or (set flags w t) x false ≡ f x
    go (yes q) = rw (q, get_or-set_same flags w t false h) e
    go (no q) = get_or-set_other flags w x t false q ∙ g x (omega arith)

pub loop-w-init : goal.loop-w-init
loop-w-init c = record { long = refl; stored = λ x h. absurd (omega arith) }

pub loop-w-preserved : goal.loop-w-preserved
loop-w-preserved c =
    let l = c.loop-w in
    let i = l.invariant in
    let p = c.spread_points-points.result in
    record {
      long = length-set l.flags l.w c.has.result ∙ i.long;
      stored = stored l.flags l.w c.has.result (member p) (omega (arith, i.long)) i.stored c.has.ensures;
    }

pub returns : goal.returns
returns c w h = c.loop-w.invariant.stored w (omega arith) ∙ c.spread_points-points.ensures w
