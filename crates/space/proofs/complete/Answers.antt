-- `space::complete` meets its contract: up to eight variables the search finds the largest space inside the closure set, which is the linear space of the
-- on points spread over it; from nine on the simple way is taken. Assumes nothing.
use mathlib.Core.Path.{◌≡◌, sym, ap, ◌∙◌, subst, subst⁻¹}
use mathlib.Core.Bool.{Bool, false}
use mathlib.Core.List.{List}
use Prim.Native.Nat.{ℕ, ◌^◌, ◌≤◌, ◌<◌}
use native.Mathlib.Nat.{lt_of_lt_of_le}
use native.Mathlib.Omega.{arith}
use lib.ListN.{get_or}
use lib.Pow.{pow_mono}
use Rattle.gf2.specs.Finite.{Mem, select}
use Rattle.gf2.proofs.Finite.{select-ext}
use Rattle.basis.specs.declared.Basis.{Basis}
use Rattle.basis.specs.Reduced.{vectors_of, basis_of, BasisWithin}
use Rattle.basis.proofs.Values.{vectors-back, is-basis}
use Rattle.table.specs.Table.{Accepted, outside}
use Rattle.table.proofs.Table.{not-outside, outside-more}
use Rattle.point_sets.specs.Sets.{set_variables, set_size, member}
use Rattle.subspaces.specs.Spaces.{largest}
use Rattle.closure_set.specs.ClosureSet.{closes, closure_set, largest_space, spread}
use Rattle.closure_set.proofs.ClosureSet.{closes-zero}
use Rattle.space.specs.declared.Completed.{Completed}
use Rattle.space.specs.Closure.{linear_space}
use Rattle.space.specs.Completion.{max_searched, completed, simply_completed, CompletedTo, IsCompleted}
use Rattle.space.proofs.Closure.{linear-reduced, linear-span, linear-below}
use Rattle.space.proofs.Completion.{completed-spread, completed-simply, completed-linear}
use Rattle.space.proofs.complete.Goals as goal

-- From nine variables the table is completed in the simple way.
simply : (n : ℕ) (on free : List ℕ) → max_searched < n → (r : Completed) → CompletedTo n on free (simply_completed n on free) r → IsCompleted n on free r
simply n on free h r k = subst (λ (f : ℕ → Bool). CompletedTo n on free f r) (sym (completed-simply n on free h)) k

-- A table whose largest space is searched, and the closure set and the basis that were found.
module _ {n : ℕ} {on free : List ℕ} (k : Accepted n on free) (h : n ≤ max_searched) (closure : List ℕ)
    (e : (a : ℕ) → a < set_size → member closure a ≡ closes on free a) {b : Basis} (q : b ≡ basis_of (largest n (select (member closure) (2 ^ n)))) where
  -- It is the linear space of the completed function.
  basis-is : b ≡ basis_of (linear_space n (completed n on free))
  unfolding closure_set largest_space
  basis-is =
      q ∙ ap (λ l. basis_of (largest n l)) (select-ext (member closure) (closes on free) (2 ^ n) (λ x l. e x (lt_of_lt_of_le l (pow_mono h))))
      ∙ ap basis_of (completed-linear n on free k.on_below h)

  vectors-are : vectors_of b ≡ linear_space n (completed n on free)
  vectors-are = ap vectors_of basis-is ∙ vectors-back (linear_space n (completed n on free))

  within : BasisWithin set_variables b
  within =
      let bs = linear_space n (completed n on free) in
      subst⁻¹ (BasisWithin set_variables) basis-is (record {
        few = omega arith;
        basis = is-basis bs (linear-reduced n (completed n on free)) (λ c m. lt_of_lt_of_le (linear-below n (completed n on free) c m) (pow_mono k.few));
        below = λ c m. lt_of_lt_of_le (linear-below n (completed n on free) c (subst (Mem c) (vectors-back bs) m)) (pow_mono h);
      })

  searched : (flags : List Bool) → ((w : ℕ) → w < set_size → get_or flags w false ≡ spread on (vectors_of b) w)
      → (simple : Completed) → CompletedTo n on free (simply_completed n on free) simple
      → IsCompleted n on free (record { flags = flags; basis = b; k0 = simple.k0; k1 = simple.k1 })
  searched flags f simple s = record {
    flags = λ w l.
        f w (lt_of_lt_of_le l (pow_mono h)) ∙ ap (λ bs. spread on bs w) (vectors-are ∙ sym (completed-linear n on free k.on_below h))
        ∙ sym (ap (λ (g : ℕ → Bool). g w) (completed-spread n on free h));
    basis = record { value = basis-is; basis = within.basis; spans = linear-span n (completed n on free) };
    k0 = s.k0;
    k1 = s.k1;
  }

-- The points have eight variables.
on-few : {n : ℕ} {on free : List ℕ} → Accepted n on free → n ≤ max_searched → outside set_variables on ≡ false
on-few {n} {on} k h = outside-more n on h (not-outside n on k.on_below)

free-few : {n : ℕ} {on free : List ℕ} → Accepted n on free → n ≤ max_searched → outside set_variables free ≡ false
free-few {n} {on} {free} k h = outside-more n free h (not-outside n free k.free-below)

pub returns-then-n-gt-MAX_SEARCHED : goal.returns-then-n-gt-MAX_SEARCHED
returns-then-n-gt-MAX_SEARCHED c =
    simply c.args.n c.args.on.now c.args.free.now c.if-n-gt-MAX_SEARCHED.true c.complete_simply.result c.complete_simply.ensures

pub closure_set-closure-requires : goal.closure_set-closure-requires
closure_set-closure-requires c =
    record { on_value = on-few c.requires c.if-n-gt-MAX_SEARCHED.false; free_value = free-few c.requires c.if-n-gt-MAX_SEARCHED.false }

pub largest_in-basis-requires : goal.largest_in-basis-requires
largest_in-basis-requires c =
    record {
      n_le_set_variables = c.if-n-gt-MAX_SEARCHED.false;
      set_value = c.closure_set-closure.ensures 0 (omega arith) ∙ closes-zero c.args.on.now c.args.free.now;
    }

pub spread_flags-requires : goal.spread_flags-requires
spread_flags-requires c =
    record {
      on_value = on-few c.requires c.if-n-gt-MAX_SEARCHED.false;
      basis_within = within c.requires c.if-n-gt-MAX_SEARCHED.false c.closure_set-closure.result c.closure_set-closure.ensures c.largest_in-basis.ensures;
    }

pub returns : goal.returns
returns c =
    searched c.requires c.if-n-gt-MAX_SEARCHED.false c.closure_set-closure.result c.closure_set-closure.ensures c.largest_in-basis.ensures c.spread_flags.result c.spread_flags.ensures
    c.complete_simply-simple.result c.complete_simply-simple.ensures
