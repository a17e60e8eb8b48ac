-- `factors::basis_of` meets its contract: the vectors found, then those of what is left of the entry, are the whole. Assumes nothing.
use mathlib.Core.Path.{◌≡◌, refl, sym, ap, ◌∙◌}
use mathlib.Core.List.{[], ◌∷◌, ◌++◌, append-nil}
use Prim.Native.Nat.{ℕ, ◌+◌, ◌-◌, ◌%◌}
use native.Mathlib.Omega.{arith}
use lib.ListN.{length-append}
use Rattle.basis.specs.declared.Basis.{Basis}
use Rattle.basis.specs.declared.ShortList.{ShortList}
use Rattle.basis.specs.Short.{listed, short}
use Rattle.basis.specs.Reduced.{basis_of}
use Rattle.basis.proofs.Values.{short-listed, short-again, short-len}
use Rattle.bases.specs.Bases.{vectors_of}
use Rattle.factors.proofs.Steps.{vectors-next}
use Rattle.factors.proofs.basis_of.Goals as goal

pub loop-init : goal.loop-init
loop-init c = let q : c.args.d - 0 ≡ c.args.d = omega arith in (refl, refl, rw q)

pub push-vectors-requires : goal.push-vectors-requires
push-vectors-requires c = let l = c.loop in record { self_value = l.invariant.1; len_lt_max_variables = omega arith }

pub loop-preserved : goal.loop-preserved
loop-preserved c =
    let l = c.loop in
    let p = c.push-vectors in
    let v = l.rest % 256 in
    let f = listed l.vectors ++ (v ∷ []) in
    let q : c.args.d - (l.counter + 1) ≡ c.args.d - l.counter - 1 = omega arith in (
      omega (arith, short-len p.result f p.ensures, length-append (listed l.vectors) (v ∷ []), short-len l.vectors (listed l.vectors) l.invariant.1),
      short-again p.result f p.ensures,
      rw (short-listed p.result f p.ensures, q) (vectors-next (c.args.d - l.counter) l.rest (listed l.vectors) (omega arith) ∙ l.invariant.2),
    )

-- None are left.
whole : (d entry : ℕ) (s : ShortList) (rest left : ℕ) → left ≡ 0 → s ≡ short (listed s) → listed s ++ vectors_of left rest ≡ vectors_of d entry
    → ◌≡◌ {A = Basis} (record { vectors = s.values; len = s.len }) (basis_of (vectors_of d entry))
unfolding vectors_of
whole d entry s rest left z e h =
    let q : listed s ++ [] ≡ vectors_of d entry = ap (λ (k : ℕ). listed s ++ vectors_of k rest) (sym z) ∙ h in
    ap (λ (x : ShortList). record { vectors = x.values; len = x.len }) e ∙ ap basis_of (sym (append-nil (listed s)) ∙ q)

pub returns : goal.returns
returns c =
    let l = c.loop in
    let a = c.args in
    whole a.d a.entry l.vectors l.rest (a.d - l.counter) (omega arith) l.invariant.1 l.invariant.2
