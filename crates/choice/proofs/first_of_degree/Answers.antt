-- `choice::first_of_degree` meets its contract: the best of the entries passed so far is what `Best` says. Assumes nothing.
use mathlib.Core.Path.{◌≡◌, sym, subst}
use Prim.Native.Nat.{ℕ, ◌+◌, ◌<◌}
use native.Mathlib.Omega.{arith}
use lib.ListN.{get_or}
use Rattle.std.specs.Prelude.{None}
use Rattle.gf2.specs.Finite.{Mem}
use Rattle.bases.specs.Entries.{entries}
use Rattle.bases.specs.Bases.{start, stop, entries_of}
use Rattle.masks.specs.Points.{prime_by}
use Rattle.bases.proofs.Bounds.{entry-mem, part-below, part-entry, part-end}
use Rattle.choice.proofs.Reductions.{six}
use Rattle.choice.proofs.Best.{Best, best-start, best-step, best-entry, best-first}
use Rattle.choice.proofs.first_of_degree.Goals as goal
use Rattle.choice.proofs.first_of_degree.Goals.{In-loop-entry}

pub loop-entry-init : goal.loop-entry-init
loop-entry-init c =
    let a = c.args in
    let q : start a.d ≡ start a.d + 0 = omega arith in
    subst (λ (z : ℕ). Best (prime_by a.m a.on 0) a.m a.d a.x z None) q (best-start (prime_by a.m a.on 0) a.m a.d a.x (six c.requires.search))

-- The place of the entry is one of d vectors, and it is the entry of the table there.
within : (c : In-loop-entry) → start c.args.d + c.loop-entry.entry-index < stop c.args.d
within c =
    part-below c.entries_of-entry-items.result.now c.args.d c.loop-entry.entry-index (six c.requires.search) c.entries_of-entry-items.ensures c.loop-entry-test.true

entry : (c : In-loop-entry)
    → get_or c.entries_of-entry-items.result.now c.loop-entry.entry-index 0 ≡ get_or entries (start c.args.d + c.loop-entry.entry-index) 0
entry c =
    part-entry c.entries_of-entry-items.result.now c.args.d c.loop-entry.entry-index (six c.requires.search) c.entries_of-entry-items.ensures c.loop-entry-test.true

pub better-best-requires : goal.better-best-requires
better-best-requires c =
    let p = (goal.at.better-best-requires c).In-loop-entry in record {
      search = c.requires.search;
      mem = subst (λ (z : ℕ). Mem z (entries_of c.args.d)) (sym (entry p)) (entry-mem c.args.d (start c.args.d + c.loop-entry.entry-index) (six c.requires.search) (omega arith) (within p));
    }

pub loop-entry-preserved : goal.loop-entry-preserved
loop-entry-preserved c =
    let p = (goal.at.loop-entry-preserved c).In-loop-entry in
    let a = c.args in
    let l = c.loop-entry in
    let q : start a.d + l.entry-index + 1 ≡ start a.d + (l.entry-index + 1) = omega arith in
    subst (λ (z : ℕ). Best (prime_by a.m a.on 0) a.m a.d a.x z c.better-best.result) q
    (best-step (prime_by a.m a.on 0) a.m a.d a.x (start a.d + l.entry-index) (six c.requires.search) l.best l.invariant (within p)
    (get_or c.entries_of-entry-items.result.now l.entry-index 0) (entry p) c.better-best.result c.better-best.ensures)

pub returns : goal.returns
returns c =
    let a = c.args in
    let l = c.loop-entry in
    let q : start a.d + l.entry-index ≡ stop a.d =
    part-end c.entries_of-entry-items.result.now a.d l.entry-index (six c.requires.search) c.entries_of-entry-items.ensures
    (omega (arith, c.loop-entry-test.false, l.auto.entry-index-end)) in
    let b = subst (λ (z : ℕ). Best (prime_by a.m a.on 0) a.m a.d a.x z l.best) q l.invariant in
    record { first = best-first c.requires.search (prime_by a.m a.on 0) l.best b; found_at = best-entry c.requires.search (prime_by a.m a.on 0) l.best b }
