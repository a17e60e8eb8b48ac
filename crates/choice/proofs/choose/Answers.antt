-- `choice::choose` meets its contract: the points gone through so far are what `TakenTo` says. Assumes nothing.
use mathlib.Core.Path.{◌≡◌, sym, ap, ◌∙◌, subst}
use mathlib.Core.Bool.{Bool, true, false}
use mathlib.Core.List.{List, [], ◌∷◌}
use Prim.Native.Nat.{ℕ, ◌+◌, ◌≤◌, ◌<◌}
use native.Mathlib.Omega.{arith}
use lib.Pow.{pow_mono}
use lib.ListN.{length, get_or}
use Rattle.table.specs.Table.{outside}
use Rattle.table.specs.Flags.{max_points}
use Rattle.table.proofs.Table.{inside-at, outside-more}
use Rattle.cubes.specs.Lists.{keep}
use Rattle.cubes.specs.Cubes.{Candidate}
use Rattle.cubes.specs.Candidates.{candidates}
use Rattle.masks.specs.Points.{MaskOf, prime_by}
use Rattle.cover.specs.Choice.{primes_of, covered, first_holding}
use Rattle.choice.specs.declared.Choice.{Choice}
use Rattle.choice.specs.Search.{candidate_of, found_of}
use Rattle.choice.specs.Chosen.{chosen_by}
use Rattle.choice.proofs.Taking.{primes-by, search-at, TakenTo, taken_start, taken-covered, taken-nothing, taken-one, few-points, taken-end}
use Rattle.choice.proofs.choose.Goals as goal

pub mask_of-mask-requires : goal.mask_of-mask-requires
mask_of-mask-requires c = outside-more c.args.m c.args.on.now c.requires.m_le_max_listed c.requires.on_inside

pub loop-x-init : goal.loop-x-init
loop-x-init c = taken_start c.args.m c.args.on.now

-- A point at a place of the list has a flag, and the flag tells whether it is covered.
has-flag : (m : ℕ) (on : List ℕ) (i : ℕ) → m ≤ 6 → outside m on ≡ false → i < length on → get_or on i 0 < max_points
has-flag m on i h o l = omega (arith, inside-at m on o i l, pow_mono h)

flag_is : {m : ℕ} {on : List ℕ} {i : ℕ} {flags : List Bool} {r : Choice} → TakenTo m on i flags r → m ≤ 6 → outside m on ≡ false → i < length on
    → (place : ℕ) → place ≡ get_or on i 0 → (t : Bool) → get_or flags place false ≡ t → covered (chosen_by r r.count) (get_or on i 0) ≡ t
flag_is {m} {on} {i} {flags} w h o l place q t e = sym (w.flagged (get_or on i 0) (has-flag m on i h o l)) ∙ ap (λ (z : ℕ). get_or flags z false) (sym q) ∙ e

pub bounds-flags-flag_place : goal.bounds-flags-flag_place
bounds-flags-flag_place c =
    omega (arith, c.flag_place.ensures, has-flag c.args.m c.args.on.now c.loop-x.x-index c.requires.m_le_max_listed c.requires.on_inside c.loop-x-test.true)

pub loop-x-preserved-then-flags-flag_place : goal.loop-x-preserved-then-flags-flag_place
loop-x-preserved-then-flags-flag_place c =
    let h = c.loop-x-test.true in
    taken-covered c.args.m c.args.on.now c.loop-x.x-index c.loop-x.flags c.loop-x.choice c.loop-x.invariant h
    (flag_is c.loop-x.invariant c.requires.m_le_max_listed c.requires.on_inside h c.flag_place.result c.flag_place.ensures true c.if-flags-flag_place.true)

pub first_holding-requires : goal.first_holding-requires
first_holding-requires c =
    let on = c.args.on.now in record {
      search = search-at c.args.m on c.mask_of-mask.result (get_or on c.loop-x.x-index 0) c.requires.m_le_max_listed c.requires.on_inside c.mask_of-mask.ensures
          (inside-at c.args.m on c.requires.on_inside c.loop-x.x-index c.loop-x-test.true);
    }

-- What the search found is the first of the primes of the function.
first : (m : ℕ) (on : List ℕ) (mask x : ℕ) (r : List Candidate) → MaskOf on mask → r ≡ first_holding (keep (prime_by m mask 0) (candidates m)) x → r ≡ first_holding (primes_of m on) x
first m on mask x r h e = e ∙ ap (λ z. first_holding z x) (sym (primes-by m on mask h))

pub loop-x-preserved-in_default : goal.loop-x-preserved-in_default
unfolding found_of
loop-x-preserved-in_default c =
    let a = c.args in
    let l = c.loop-x in
    let h = c.loop-x-test.true in
    taken-nothing a.m a.on.now l.x-index l.flags l.choice l.invariant h
    (flag_is l.invariant c.requires.m_le_max_listed c.requires.on_inside h c.flag_place.result c.flag_place.ensures false c.if-flags-flag_place.false)
    (first a.m a.on.now c.mask_of-mask.result (get_or a.on.now l.x-index 0) [] c.mask_of-mask.ensures c.in_default.ensures.first)

pub add-choice-requires : goal.add-choice-requires
add-choice-requires c =
    omega (arith, c.loop-x.invariant.count, c.loop-x-test.true, few-points c.args.m c.args.on.now c.requires.m_le_max_listed c.requires.on_inside c.requires.on_rising)

pub mark_prime-flags-requires : goal.mark_prime-flags-requires
mark_prime-flags-requires c = c.in-Some.ensures.found_at

pub loop-x-preserved : goal.loop-x-preserved
unfolding found_of
loop-x-preserved c =
    let a = c.args in
    let l = c.loop-x in
    let h = c.loop-x-test.true in
    subst (TakenTo a.m a.on.now (l.x-index + 1) c.mark_prime-flags.result) (sym c.add-choice.ensures)
    (taken-one a.m a.on.now l.x-index l.flags l.choice l.invariant h
    (flag_is l.invariant c.requires.m_le_max_listed c.requires.on_inside h c.flag_place.result c.flag_place.ensures false c.if-flags-flag_place.false) c.in-Some.prime
    (first a.m a.on.now c.mask_of-mask.result (get_or a.on.now l.x-index 0) (candidate_of c.in-Some.prime ∷ []) c.mask_of-mask.ensures c.in-Some.ensures.first)
    c.in-Some.ensures.found_at
    (omega (arith, l.invariant.count, h, few-points a.m a.on.now c.requires.m_le_max_listed c.requires.on_inside c.requires.on_rising)) c.mark_prime-flags.result c.mark_prime-flags.ensures)

pub returns : goal.returns
returns c =
    taken-end c.args.m c.args.on.now c.loop-x.x-index c.loop-x.flags c.loop-x.choice c.loop-x.invariant c.loop-x-test.false
    (few-points c.args.m c.args.on.now c.requires.m_le_max_listed c.requires.on_inside c.requires.on_rising)
