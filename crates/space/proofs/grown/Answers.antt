-- `space::grown` meets its contract: the search over one vector finds no witness exactly if the function is closed under it. Assumes nothing.
use mathlib.Core.Path.{◌≡◌, refl, sym, ap, ◌∙◌, subst}
use mathlib.Core.Bool.{Bool, true, false, not}
use mathlib.Core.Logic.{inl, inr}
use mathlib.Core.List.{List, [], ◌∷◌}
use Prim.Native.Nat.{ℕ, ◌+◌, ◌^◌, ◌<◌}
use native.Mathlib.Numerals.{add-one}
use native.Mathlib.Omega.{arith}
use lib.Pow.{pow_mono}
use Rattle.gf2.specs.Limits.{max_variables}
use Rattle.gf2.specs.Finite.{select}
use Rattle.gf2.specs.Basis.{insert, inserts}
use Rattle.gf2.proofs.Insert.{inserts-on, inserts-off}
use Rattle.basis.specs.declared.Basis.{Basis}
use Rattle.basis.specs.Reduced.{vectors_of, basis_of}
use Rattle.basis.proofs.Values.{vectors-back, select-basis}
use Rattle.std.specs.Prelude.{Option, Some, None}
use Rattle.std.specs.Option.{is_some}
use Rattle.space.specs.Closure.{closed}
use Rattle.space.specs.Witness.{flagged, Answers}
use Rattle.space.proofs.Closure.{closed_of, closed-broken}
use Rattle.space.proofs.grown.Goals as goal

-- What the search over the one vector v says of it.
searched : (n : ℕ) (f : ℕ → Bool) (v : ℕ) (w : Option (ℕ × ℕ)) → Answers f (2 ^ n) (v ∷ []) w → closed n f v ≡ not (is_some w)
searched n f v None h = closed_of n f v (h v (inl refl))
searched n f v (Some (a, p)) h =
    subst (λ (u : ℕ). closed n f u ≡ false) (elim h.vector [ inl q ↦ q | inr m ↦ absurd m ]) (closed-broken n f a p h.point h.breaks)

-- The vectors below v that pass a test, put in one at a time, and the next one.
module _ (f : ℕ → Bool) (v : ℕ) (b : Basis) (e : b ≡ basis_of (inserts [] (select f v))) where
  joined : (r : Basis) → r ≡ basis_of (insert (vectors_of b) v) → f v ≡ true → r ≡ basis_of (inserts [] (select f (v + 1)))
  joined r q k = rw add-one (q ∙ ap basis_of (ap (λ (bs : List ℕ). insert bs v) (ap vectors_of e ∙ vectors-back (inserts [] (select f v))) ∙ sym (inserts-on f v k)))

  kept : f v ≡ false → b ≡ basis_of (inserts [] (select f (v + 1)))
  kept k = rw add-one (e ∙ ap basis_of (sym (inserts-off f v k)))

pub first_witness-requires : goal.first_witness-requires
first_witness-requires c =
    record {
      n_le_max_variables = c.requires.n_le_max_variables;
      searchable = record { rises = (λ b m. absurd m, tt); below = λ u m. elim m [ inl e ↦ rw e c.requires.v_bound | inr k ↦ absurd k ] };
    }

pub returns-then-is_some : goal.returns-then-is_some
returns-then-is_some c =
    let a = c.args in
    let f = flagged a.flags.now in
    let w = c.first_witness in
    kept (closed a.n f) a.v a.basis c.requires.closed_below
    (searched a.n f a.v w.result w.ensures ∙ ap not (sym c.is_some.ensures ∙ c.if-is_some.true))

pub insert-requires : goal.insert-requires
insert-requires c =
    let l : c.args.v < 2 ^ max_variables = omega (arith, pow_mono c.requires.n_le_max_variables) in
    record {
      basis = select-basis (closed c.args.n (flagged c.args.flags.now)) c.args.v (omega arith) c.args.basis c.requires.closed_below;
      v_bound = l;
    }

pub returns : goal.returns
returns c =
    let a = c.args in
    let f = flagged a.flags.now in
    let w = c.first_witness in
    joined (closed a.n f) a.v a.basis c.requires.closed_below c.insert.result c.insert.ensures.value
    (searched a.n f a.v w.result w.ensures ∙ ap not (sym c.is_some.ensures ∙ c.if-is_some.false))
