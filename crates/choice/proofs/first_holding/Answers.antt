-- `choice::first_holding` meets its contract: no prime of a greater degree holds the point. Assumes nothing.
use mathlib.Core.Path.{◌≡◌, sym, ap, ◌∙◌}
use mathlib.Core.Bool.{Bool}
use Prim.Native.Nat.{ℕ, ◌+◌, ◌-◌, ◌≤◌, ◌<◌}
use native.Mathlib.Omega.{arith}
use Rattle.cubes.specs.Lists.{keep}
use Rattle.cubes.specs.Cubes.{Candidate}
use Rattle.masks.specs.Points.{prime_by}
use Rattle.cover.specs.Choice.{first_holding}
use Rattle.choice.specs.Search.{Search, candidate_of, found_of}
use Rattle.choice.proofs.First.{lower, lower_found, lower_next, lower_none, lower_all}
use Rattle.choice.proofs.first_holding.Goals as goal

pub loop-d-init : goal.loop-d-init
loop-d-init c = let a = c.args in lower_all (prime_by a.m a.on 0) a.m a.x

-- The same search at a degree not above.
at_degree : {m on x d : ℕ} → Search m on m x → d ≤ m → Search m on d x
at_degree s h = record { few = s.few; inside = s.inside; short = h; point = s.point }

pub first_of_degree-requires : goal.first_of_degree-requires
first_of_degree-requires c = record { search = at_degree c.requires.search (omega (arith, c.loop-d.auto.d)) }

-- The counter stands one above the degree.
above : (t : Candidate → Bool) (m x d : ℕ) → 0 < d → first_holding (keep t (lower m (d - 1 + 1))) x ≡ first_holding (keep t (lower m d)) x
above t m x d h = let q : d - 1 + 1 ≡ d = omega arith in ap (λ (k : ℕ). first_holding (keep t (lower m k)) x) q

pub returns-in-Some : goal.returns-in-Some
unfolding found_of
returns-in-Some c =
    let a = c.args in
    let l = c.loop-d in
    let t = prime_by a.m a.on 0 in record {
      first = sym (lower_found t a.m a.x (l.d - 1) (candidate_of c.in-Some.prime) (sym c.in-Some.ensures.first)) ∙ above t a.m a.x l.d c.loop-d-test.true ∙ l.invariant;
      found_at = c.in-Some.ensures.found_at;
    }

pub loop-d-preserved : goal.loop-d-preserved
unfolding found_of
loop-d-preserved c =
    let a = c.args in
    let l = c.loop-d in
    let t = prime_by a.m a.on 0 in
    sym (lower_next t a.m a.x (l.d - 1) (sym c.in_default.ensures.first)) ∙ above t a.m a.x l.d c.loop-d-test.true ∙ l.invariant

pub returns : goal.returns
unfolding found_of
returns c =
    let a = c.args in
    let l = c.loop-d in
    let t = prime_by a.m a.on 0 in
    let q : 0 ≡ l.d = omega (arith, c.loop-d-test.false) in
    record { first = sym (lower_none t a.m a.x) ∙ ap (λ (k : ℕ). first_holding (keep t (lower a.m k)) a.x) q ∙ l.invariant; found_at = tt }
