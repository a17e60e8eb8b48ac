-- `lines::variables_text` meets its contract: the names of the mask's variables are written. Assumes nothing.
use mathlib.Core.Path.{◌≡◌, sym, ap, ◌∙◌}
use mathlib.Core.List.{List}
use Prim.Native.Nat.{ℕ}
use Rattle.gf2.specs.Bits.{bit}
use Rattle.gf2.specs.Basis.{places_at, variables_at}
use native.Mathlib.Omega.{arith}
use Rattle.basis.specs.declared.ShortList.{ShortList}
use Rattle.basis.specs.Short.{listed, short}
use Rattle.basis.proofs.Values.{short-listed, short-fits}
use Rattle.text.specs.Pieces.{names}
use Rattle.text.proofs.Writing.{fits-same, wrote-same}
use Rattle.lines.specs.Lines.{variables_text}
use Rattle.lines.proofs.variables_text.Goals as goal

-- The variables of a mask.
abbrev variables : ℕ → ℕ → List ℕ
variables n mask = variables_at n (places_at n (λ k. bit k mask))

pub as_slice-requires : goal.as_slice-requires
as_slice-requires c = omega (arith, short-fits c.variables_of-variables.result (variables c.args.n c.args.mask) c.variables_of-variables.ensures)

-- The slice has them.
sliced : (n mask : ℕ) (s : ShortList) (slice : List ℕ) → s ≡ short (variables n mask) → slice ≡ listed s → slice ≡ variables n mask
sliced n mask s slice e q = q ∙ short-listed s (variables n mask) e

pub names-requires : goal.names-requires
unfolding variables_text
names-requires c =
    let a = c.args in
    fits-same (ap (names a.between.now) (sym (sliced a.n a.mask c.variables_of-variables.result _ c.variables_of-variables.ensures c.as_slice.ensures))) c.requires.fits

pub returns : goal.returns
unfolding variables_text
returns c =
    let a = c.args in
    wrote-same _ (ap (names a.between.now) (sliced a.n a.mask c.variables_of-variables.result _ c.variables_of-variables.ensures c.as_slice.ensures)) c.names.ensures
