-- `basis::Basis::insert` meets its contract: a vector that reduces to 0 changes nothing, any other is joined. Assumes nothing.
use mathlib.Core.Path.{◌≡◌, sym, ap, ◌∙◌}
use mathlib.Core.Logic.{◌≢◌}
use Prim.Native.Nat.{ℕ, ◌^◌, ◌<◌}
use native.Mathlib.Nat.{pos_of_ne-zero}
use native.Mathlib.Omega.{arith}
use Rattle.gf2.specs.Limits.{max_variables}
use Rattle.gf2.specs.Basis.{reduce, join, insert}
use Rattle.gf2.proofs.Reduce.{reduce-le, reduce-zero, has_lead-reduce}
use Rattle.gf2.proofs.Insert.{insert-known, insert-new}
use Rattle.basis.specs.declared.Basis.{Basis}
use Rattle.basis.specs.Reduced.{vectors_of, basis_of, IsBasis, Joins}
use Rattle.basis.proofs.Values.{inserted}
use Rattle.basis.proofs.Basis.insert.Goals as goal

module _ (b : Basis) (k : IsBasis b) (v r : ℕ) (e : r ≡ reduce (vectors_of b) v) where
  kept : r ≡ 0 → b ≡ basis_of (insert (vectors_of b) v)
  kept z = k.packed ∙ ap basis_of (sym (insert-known (vectors_of b) v k.reduced (reduce-zero (vectors_of b) v (sym e ∙ z))))

  joins : v < 2 ^ max_variables → r ≢ 0 → Joins b r
  joins h n = record {
    basis = k;
    some = pos_of_ne-zero n;
    few = omega (arith, reduce-le (vectors_of b) k.reduced v);
    reduced = λ c m. rw e (has_lead-reduce (vectors_of b) k.reduced v c m);
  }

  joined : (x : Basis) → r ≢ 0 → x ≡ basis_of (join r (vectors_of b)) → x ≡ basis_of (insert (vectors_of b) v)
  joined x n q = q ∙ ap basis_of (ap (λ (z : ℕ). join z (vectors_of b)) e ∙ sym (insert-new (vectors_of b) v (λ z. n (e ∙ z))))

pub returns-then-r-eq0 : goal.returns-then-r-eq0
returns-then-r-eq0 c =
    let a = c.args in
    inserted a.self c.requires.basis a.v c.requires.v_bound a.self (kept a.self c.requires.basis a.v c.reduce-r.result c.reduce-r.ensures c.if-r-eq0.true)

pub join-requires : goal.join-requires
join-requires c =
    joins c.args.self c.requires.basis c.args.v c.reduce-r.result c.reduce-r.ensures c.requires.v_bound c.if-r-eq0.false

pub returns : goal.returns
returns c =
    let a = c.args in
    let d = c.reduce-r in
    inserted a.self c.requires.basis a.v c.requires.v_bound c.join.result
    (joined a.self c.requires.basis a.v d.result d.ensures c.join.result c.if-r-eq0.false c.join.ensures)
