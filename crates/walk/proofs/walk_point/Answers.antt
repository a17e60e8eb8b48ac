-- `walk::walk_point` meets its contract: each way that an entry can go is one law of `Stand`. Assumes nothing.
use mathlib.Core.Path.{◌≡◌, refl, sym, ap, ◌∙◌, subst}
use mathlib.Core.Bool.{true}
use Prim.Native.Nat.{ℕ, ◌+◌, ◌<◌, ◌≤◌}
use native.Mathlib.Omega.{arith}
use lib.ListN.{get_or}
use Rattle.cubes.specs.Candidates.{candidates_at}
use Rattle.bases.specs.Entries.{entries}
use Rattle.bases.specs.Bases.{start, stop, takes_point}
use Rattle.bases.specs.Entry.{EntryAt}
use Rattle.walk.specs.Walk.{state_after, Reaches, Walked}
use Rattle.bases.proofs.Bounds.{part-below, part-entry, part-end}
use Rattle.walk.proofs.Rows.{taken-not, taken}
use Rattle.walk.proofs.Stand.{reaches-start, ahead, ahead-all, ahead-none, entry-off, entry-skipped, entry-passed, entry-stopped, entry-stands}
use Rattle.walk.proofs.walk_point.Goals as goal
use Rattle.walk.proofs.walk_point.Goals.{In-loop-entry, Else-entry-avoided-ne0}

six : {n d : ℕ} → n ≤ 6 → d ≤ n → d ≤ 6
six h k = omega arith

pub loop-entry-init : goal.loop-entry-init
loop-entry-init c =
    let a = c.args in
    let q : start a.d + 0 ≡ start a.d = omega arith in
    rw q (subst (λ cs. Reaches a.n a.on a.free (candidates_at a.n a.d a.p) cs a.from a.room.now a.from a.room.now) (ahead-all a.n a.d a.p c.requires.n_le_max_listed (six c.requires.n_le_max_listed c.requires.d_le_n))
    (reaches-start a.n a.on a.free (candidates_at a.n a.d a.p) a.from a.room.now c.requires.written_in_bounds))

-- The place of the entry is one of d vectors, and it is the entry of the table there.
within : (c : In-loop-entry) → start c.args.d + c.loop-entry.entry-index < stop c.args.d
within c =
    part-below c.entries_of-entry-items.result.now c.args.d c.loop-entry.entry-index (six c.requires.n_le_max_listed c.requires.d_le_n) c.entries_of-entry-items.ensures c.loop-entry-test.true

entry : (c : In-loop-entry)
    → get_or c.entries_of-entry-items.result.now c.loop-entry.entry-index 0 ≡ get_or entries (start c.args.d + c.loop-entry.entry-index) 0
entry c =
    part-entry c.entries_of-entry-items.result.now c.args.d c.loop-entry.entry-index (six c.requires.n_le_max_listed c.requires.d_le_n) c.entries_of-entry-items.ensures c.loop-entry-test.true

-- One index on is one place on.
on : (d k : ℕ) → start d + k + 1 ≡ start d + (k + 1)
on d k = omega arith

pub loop-entry-preserved-then-entry-avoided-ne0 : goal.loop-entry-preserved-then-entry-avoided-ne0
loop-entry-preserved-then-entry-avoided-ne0 c =
    let a = c.args in
    let l = c.loop-entry in
    let r = c.requires in
    entry-off a.n a.on a.free a.d a.p (start a.d + l.entry-index) (start a.d + (l.entry-index + 1)) (candidates_at a.n a.d a.p) a.from a.room.now l.progress l.room l.invariant
    (six r.n_le_max_listed r.d_le_n) (within (goal.at.loop-entry-preserved-then-entry-avoided-ne0 c).In-loop-entry) (on a.d l.entry-index)
    (taken-not a.n a.d a.p r.n_le_max_listed r.d_le_n r.p_bound c.entries_of-entry-items.result.now c.entries_of-entry-items.ensures l.entry-index
    c.loop-entry-test.true c.avoided-avoided.result c.avoided-avoided.ensures c.if-entry-avoided-ne0.true)

-- An entry with none of the lead bits avoided is taken.
held : (c : Else-entry-avoided-ne0) → takes_point c.args.n c.args.p (get_or entries (start c.args.d + c.loop-entry.entry-index) 0) ≡ true
held c =
    let a = c.args in
    let r = c.requires in
    taken a.n a.d a.p r.n_le_max_listed r.d_le_n r.p_bound c.entries_of-entry-items.result.now c.entries_of-entry-items.ensures c.loop-entry.entry-index
    c.loop-entry-test.true c.avoided-avoided.result c.avoided-avoided.ensures c.if-entry-avoided-ne0.false

pub loop-entry-preserved-then-progress-gt0 : goal.loop-entry-preserved-then-progress-gt0
loop-entry-preserved-then-progress-gt0 c =
    let p = goal.at.loop-entry-preserved-then-progress-gt0 c in
    let a = c.args in
    let l = c.loop-entry in
    entry-skipped a.n a.on a.free a.d a.p (start a.d + l.entry-index) (start a.d + (l.entry-index + 1)) (candidates_at a.n a.d a.p) a.from a.room.now l.progress l.room l.invariant
    (six c.requires.n_le_max_listed c.requires.d_le_n) (within p.In-loop-entry) (on a.d l.entry-index) (get_or entries (start a.d + l.entry-index) 0) refl (held p.Else-entry-avoided-ne0)
    (λ z. omega (arith, c.if-progress-gt0.true))

pub pass-requires-clause-entry_at : goal.pass-requires-clause-entry_at
pass-requires-clause-entry_at c =
    let p = goal.at.pass-requires-clause-entry_at c in
    let a = c.args in
    let r = c.requires in
    subst (λ (z : ℕ). EntryAt a.n a.d a.p z) (sym (entry p.In-loop-entry))
    (entry-stands a.n a.d a.p (start a.d + c.loop-entry.entry-index) r.n_le_max_listed r.d_le_n r.p_bound (omega arith) (within p.In-loop-entry) (held p.Else-entry-avoided-ne0))

pub pass-requires-clause-written_in_bounds : goal.pass-requires-clause-written_in_bounds
pass-requires-clause-written_in_bounds c = c.loop-entry.invariant.wrote

pub returns-in_err-progress : goal.returns-in_err-progress
returns-in_err-progress c =
    let p = goal.at.returns-in_err-progress c in
    let a = c.args in
    let l = c.loop-entry in
    subst (λ z. Walked a.n a.on a.free (candidates_at a.n a.d a.p) a.from a.room.now z c.pass.new.room) (sym c.from_residual.ensures)
    (entry-stopped a.n a.on a.free a.d a.p (start a.d + l.entry-index) (start a.d + (l.entry-index + 1)) (candidates_at a.n a.d a.p) a.from a.room.now l.progress l.room l.invariant
    (six c.requires.n_le_max_listed c.requires.d_le_n) (within p.In-loop-entry) (on a.d l.entry-index)
    (get_or c.entries_of-entry-items.result.now l.entry-index 0) (entry p.In-loop-entry) (held p.Else-entry-avoided-ne0) (omega (arith, c.if-progress-gt0.false))
    c.in_err-progress.field-0.0 c.pass.new.room (ap (λ z. state_after z c.pass.new.room) (sym c.in_err-progress.was) ∙ c.pass.ensures))

pub loop-entry-preserved : goal.loop-entry-preserved
loop-entry-preserved c =
    let p = goal.at.loop-entry-preserved c in
    let a = c.args in
    let l = c.loop-entry in
    entry-passed a.n a.on a.free a.d a.p (start a.d + l.entry-index) (start a.d + (l.entry-index + 1)) (candidates_at a.n a.d a.p) a.from a.room.now l.progress l.room l.invariant
    (six c.requires.n_le_max_listed c.requires.d_le_n) (within p.In-loop-entry) (on a.d l.entry-index)
    (get_or c.entries_of-entry-items.result.now l.entry-index 0) (entry p.In-loop-entry) (held p.Else-entry-avoided-ne0) (omega (arith, c.if-progress-gt0.false))
    c.in_ok-progress.field-0 c.pass.new.room (ap (λ z. state_after z c.pass.new.room) (sym c.in_ok-progress.was) ∙ c.pass.ensures)

pub returns : goal.returns
returns c =
    let a = c.args in
    let l = c.loop-entry in
    let r = c.requires in
    subst (λ cs. Reaches a.n a.on a.free (candidates_at a.n a.d a.p) cs a.from a.room.now l.progress l.room)
    (ap (ahead a.n a.d a.p) (part-end c.entries_of-entry-items.result.now a.d l.entry-index (six r.n_le_max_listed r.d_le_n) c.entries_of-entry-items.ensures
    (omega (arith, c.loop-entry-test.false, l.auto.entry-index-end))) ∙ ahead-none a.n a.d a.p) l.invariant
