-- `table_report::canonical_line` meets its contract: the indices of the canonical variables. Assumes nothing.
use mathlib.Core.Path.{sym, ap, ◌∙◌}
use mathlib.Core.List.{List}
use Prim.Native.Nat.{ℕ}
use native.Mathlib.Omega.{arith}
use Rattle.gf2.specs.Basis.{canonical_places, variables_at}
use Rattle.basis.specs.declared.Basis.{Basis}
use Rattle.basis.specs.Reduced.{vectors_of}
use Rattle.basis.proofs.Values.{short-listed, short-fits}
use Rattle.text.proofs.Writing.{fits-same, wrote-same}
use Rattle.lines.specs.Words.{canonical_word}
use Rattle.lines.specs.Lines.{numbers_line}
use Rattle.table_report.proofs.canonical_line.Goals as goal

-- The canonical variables.
abbrev variables : ℕ → Basis → List ℕ
variables n b = variables_at n (canonical_places n (vectors_of b))

pub as_slice-requires : goal.as_slice-requires
as_slice-requires c = omega (arith, short-fits c.canonical-canonical.result (variables c.args.n c.args.basis) c.canonical-canonical.ensures)

pub numbers_line-requires : goal.numbers_line-requires
numbers_line-requires c =
    let k = c.canonical-canonical in
    fits-same (ap (numbers_line canonical_word) (sym (c.as_slice.ensures ∙ short-listed k.result (variables c.args.n c.args.basis) k.ensures))) c.requires.fits

pub returns : goal.returns
returns c =
    let k = c.canonical-canonical in
    wrote-same _ (ap (numbers_line canonical_word) (c.as_slice.ensures ∙ short-listed k.result (variables c.args.n c.args.basis) k.ensures)) c.numbers_line.ensures
