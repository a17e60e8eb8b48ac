-- `text::Writer::names` meets its contract: the first name, then the others, each after the text between two. Assumes nothing.
use mathlib.Core.Path.{◌≡◌, refl, ap, ◌∙◌}
use mathlib.Core.List.{List, ◌∷◌, ◌++◌}
use Prim.Native.Nat.{ℕ, ◌<◌}
use native.Mathlib.Omega.{arith}
use lib.ListN.{length, get_or}
use Rattle.std.proofs.lemmas.List.{nil_from_length}
use Rattle.text.specs.declared.Writer.{Writer}
use Rattle.text.specs.Pieces.{name, names}
use Rattle.text.specs.Writing.{Fits, with_text}
use Rattle.text.proofs.Pieces.{pieces, next_name, names-pieces}
use Rattle.text.proofs.Writing.{with-none, fits-first, fits-then, fits-same, fits-piece, wrote-piece, parts}
use Rattle.text.proofs.Writer.names.Goals as goal

-- The names are the first name and the pieces after it.
module _ (between indices : List ℕ) (first : ℕ) (rest : List ℕ) (e : indices ≡ first ∷ rest) where
  split : names between indices ≡ name first ++ pieces (next_name between rest) (length rest)
  split = ap (names between) e ∙ names-pieces between first rest

  room-first : {out : Writer} → Fits out (names between indices) → Fits out (name first)
  room-first h = fits-first (name first) (pieces (next_name between rest) (length rest)) (fits-same split h)

  -- Room for the text between and the name at a place.
  room-next : (out : Writer) {after last : Writer} (i : ℕ) → Fits out (names between indices) → after ≡ with_text out (name first) → last ≡ with_text after (pieces (next_name between rest) i) → i < length rest → Fits last (next_name between rest i)
  room-next out i h e g less =
      let behind = fits-then (name first) (pieces (next_name between rest) (length rest)) (fits-same split h) in
      fits-piece _ (next_name between rest) i g (length rest) refl (rw e behind) less

  written : (out : Writer) {after last : Writer} (i : ℕ) → after ≡ with_text out (name first) → last ≡ with_text after (pieces (next_name between rest) i) → i ≡ length rest → last ≡ with_text out (names between indices)
  written out i e g q = rw (split, ← q) (grind (arith, parts))

pub returns-in_default : goal.returns-in_default
unfolding names
returns-in_default c = rw (nil_from_length c.args.indices.now c.in_default.ensures.cases) (with-none _)

pub name-requires : goal.name-requires
name-requires c = room-first c.args.between.now c.args.indices.now _ c.in-Some.rest.now c.in-Some.ensures.cases.0 c.requires

pub loop-index-init : goal.loop-index-init
loop-index-init c = with-none _

pub word-requires : goal.word-requires
word-requires c =
    let l = c.loop-index in
    fits-first _ (name (get_or c.in-Some.rest.now l.index-index 0)) (room-next c.args.between.now c.args.indices.now _ c.in-Some.rest.now c.in-Some.ensures.cases.0 _ l.index-index c.requires c.name.ensures l.invariant c.loop-index-test.true)

pub name-requires-in-loop-index : goal.name-requires-in-loop-index
name-requires-in-loop-index c =
    let l = c.loop-index in
    rw c.word.ensures (fits-then c.args.between.now (name (get_or c.in-Some.rest.now l.index-index 0)) (room-next c.args.between.now c.args.indices.now _ c.in-Some.rest.now c.in-Some.ensures.cases.0 _ l.index-index c.requires c.name.ensures l.invariant c.loop-index-test.true))

pub loop-index-preserved : goal.loop-index-preserved
loop-index-preserved c =
    let l = c.loop-index in
    wrote-piece _ (next_name c.args.between.now c.in-Some.rest.now) l.index-index l.invariant (grind (arith, parts))

pub returns : goal.returns
returns c =
    let l = c.loop-index in
    written c.args.between.now c.args.indices.now _ c.in-Some.rest.now c.in-Some.ensures.cases.0 _ l.index-index c.name.ensures l.invariant (omega arith)
