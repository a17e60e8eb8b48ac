-- `index_list::update` meets its contract: each turn changes one record more, which was still as at the entry. Assumes nothing.
use Prim.Native.Nat.{ℕ, zero, suc, ◌+◌, ◌<◌, ◌≤◌}
use mathlib.Core.Path.{◌≡◌, refl, sym, ap, ◌∙◌, subst}
use mathlib.Core.List.{List, [], ◌∷◌, ◌++◌}
use native.Mathlib.Omega.{arith}
use lib.ListN.{length, get_or, set, take, drop}
use Rattle.std.proofs.lemmas.List.{get_or_default, get_or-take, length-take-le}
use Rattle.index.specs.declared.PointRecord.{PointRecord}
use Rattle.index.specs.declared.Indexed.{Indexed}
use Rattle.index.specs.Records.{no_record, point_record}
use Rattle.index.specs.Changes.{ChangesAt, changed_of, map_first, reach_of}
use Rattle.index.proofs.InPlace.{first-none, first-length, first-at, first_next, reach-le}
use Rattle.index_list.proofs.update.Goals as goal

-- No turn before changed the turn's record, whatever stands past the end; changed and put back, it makes the list of the next turn.
module _ {A : Type 0} (f : ℕ → A → A) (i : ℕ) (list now : List A) (e : now ≡ map_first f i list) (h : i < length now) where
  same : (d x : A) → get_or now i d ≡ get_or list i x
  same d x = get_or_default now i d x h ∙ ap (λ (l : List A). get_or l i x) e ∙ first-at f i list x

  stepped : (d r : A) → r ≡ f i (get_or now i d) → set now i r ≡ map_first f (i + 1) list
  stepped d r q =
      let there : i < length list = omega (arith, ap length e, first-length f i list) in
      cc (ap (f i) (same d d), first_next f i list d there)

-- The records that are changed, with those behind them.
all-changed : {A : Type 0} (f : ℕ → A → A) (k : ℕ) (l : List A) → map_first f k (take k l) ++ drop k l ≡ map_first f k l
unfolding map_first
all-changed f zero l = refl
all-changed f (suc k) [] = refl
all-changed {A} f (suc k) (x ∷ l) = ap (λ (t : List A). f 0 x ∷ t) (all-changed (λ w. f (suc w)) k l)

-- As many records are changed as the answer reaches, and they are there.
module _ (answer : Indexed) (list : List PointRecord) (many : ℕ) (e : many ≡ reach_of answer (length list)) where
  there : many ≤ length list
  there = omega (arith, e, reach-le answer (length list))

  all : length (take many list) ≡ many
  all = length-take-le many list there

pub slice_bounds-record-items-end : goal.slice_bounds-record-items-end
slice_bounds-record-items-end c = there c.args.answer c.args.list.now c.reach-many.result c.reach-many.ensures

pub slice_bounds-record-items-end-2 : goal.slice_bounds-record-items-end-2
slice_bounds-record-items-end-2 c = sym (all c.args.answer c.args.list.now c.reach-many.result c.reach-many.ensures)

pub loop-point-init : goal.loop-point-init
loop-point-init c =
    let a = c.args in
    sym (first-none (changed_of a.way a.bytes.now a.answer) (take c.reach-many.result a.list.now))

pub changed-requires : goal.changed-requires
changed-requires c =
    let a = c.args in
    let i = c.loop-point.point in
    let first = take c.reach-many.result a.list.now in
    let past = point_record 0 0 in
    let small : i < c.reach-many.result = omega (arith, all a.answer a.list.now c.reach-many.result c.reach-many.ensures) in
    let reached : i < reach_of a.answer (length a.list.now) = omega (arith, c.reach-many.ensures) in
    let read = same (changed_of a.way a.bytes.now a.answer) i first c.loop-point.record-items c.loop-point.invariant (omega arith) past no_record ∙ get_or-take c.reach-many.result a.list.now i no_record small in
    subst (ChangesAt a.way a.bytes.now a.answer i) (sym read) (c.requires.each i reached)

pub loop-point-preserved : goal.loop-point-preserved
loop-point-preserved c =
    let a = c.args in
    stepped (changed_of a.way a.bytes.now a.answer) c.loop-point.point (take c.reach-many.result a.list.now) c.loop-point.record-items c.loop-point.invariant (omega arith) (point_record 0 0) c.changed.result c.changed.ensures

pub returns : goal.returns
returns c =
    let a = c.args in
    let k = c.reach-many.result in
    let f = changed_of a.way a.bytes.now a.answer in
    let end : c.loop-point.point ≡ k = omega (arith, all a.answer a.list.now k c.reach-many.ensures) in
    ap (λ (l : List PointRecord). l ++ drop k a.list.now) (c.loop-point.invariant ∙ ap (λ (i : ℕ). map_first f i (take k a.list.now)) end)
    ∙ all-changed f k a.list.now ∙ ap (λ (i : ℕ). map_first f i a.list.now) c.reach-many.ensures
