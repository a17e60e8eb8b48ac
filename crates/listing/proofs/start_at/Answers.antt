-- `listing::start_at` meets its contract: the candidates from the place on are those from the degrees not passed yet. Assumes nothing.
use mathlib.Core.Path.{◌≡◌, ap, ◌∙◌}
use Prim.Native.Nat.{ℕ, ◌+◌, ◌-◌}
use lib.ListN.{drop}
use native.Mathlib.Omega.{arith}
use Rattle.cubes.specs.Candidates.{candidates_from, candidates}
use Rattle.counts.proofs.Degrees.{degree-passed}
use Rattle.listing.proofs.start_at.Goals as goal

pub loop-degree-init : goal.loop-degree-init
unfolding candidates
loop-degree-init c = let q : c.args.n ≡ c.args.n + 1 - 1 = omega arith in ap (λ (k : ℕ). drop c.args.place (candidates_from c.args.n k)) q

pub degree_count-count-requires : goal.degree_count-count-requires
degree_count-count-requires c = record { n_le_max_listed = c.requires; d_le_max_listed = omega (arith, c.loop-degree.auto.degree, c.requires) }

pub returns-then-skip-count : goal.returns-then-skip-count
returns-then-skip-count c = record { short = omega (arith, c.loop-degree.auto.degree); same = c.loop-degree.invariant }

pub loop-degree-preserved : goal.loop-degree-preserved
loop-degree-preserved c =
    let l = c.loop-degree in
    l.invariant ∙ degree-passed c.args.n (l.degree - 1) l.skip c.degree_count-count.result (omega (arith, c.loop-degree-test.true)) c.degree_count-count.ensures c.if-skip-count.false

pub returns : goal.returns
returns c =
    let l = c.loop-degree in
    let q : l.degree - 1 ≡ 0 = omega (arith, c.loop-degree-test.false) in
    record { short = omega arith; same = l.invariant ∙ ap (λ (k : ℕ). drop l.skip (candidates_from c.args.n k)) q }
