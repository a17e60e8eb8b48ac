-- `space::complete_simply` meets its contract: the flags made are those of the two complete functions, and the one of larger degree is handed back.
-- Assumes nothing.
use mathlib.Core.Path.{◌≡◌, sym, ap, ◌∙◌, subst}
use mathlib.Core.Bool.{Bool, ◌||◌, or_comm}
use mathlib.Core.List.{List}
use Prim.Native.Nat.{ℕ, ◌^◌, ◌≤◌, ◌<◌}
use native.Mathlib.Nat.{lt_of_lt_of_le}
use lib.ListN.{length}
use lib.Pow.{pow_mono}
use Rattle.gf2.specs.Finite.{holds, In}
use Rattle.basis.specs.declared.Basis.{Basis}
use Rattle.basis.specs.Reduced.{vectors_of, basis_of, Built}
use Rattle.basis.proofs.Values.{vectors-back}
use Rattle.table.specs.Table.{Accepted}
use Rattle.table.specs.Flags.{marked, flags_of}
use Rattle.table.proofs.Table.{on-flags, free-flags}
use Rattle.table.proofs.Flags.{length-flags, flags-at, marked-at}
use Rattle.space.specs.Closure.{closed, linear_space, degree}
use Rattle.space.specs.Witness.{flagged}
use Rattle.space.specs.declared.Completed.{Completed}
use Rattle.space.specs.Completion.{all_off, all_on, k0, k1, simply_completed, CompletedTo}
use Rattle.space.proofs.Closure.{linear-span, linear-ext}
use Rattle.space.proofs.Completion.{simply-off, simply-on}
use Rattle.space.proofs.complete_simply.Goals as goal

-- The basis is the linear space of the function.
abbrev SpaceOf : ℕ → (ℕ → Bool) → Basis → Type 0
SpaceOf n f b = Built b (linear_space n f) (In n (closed n f))

-- So it is of any function that agrees with it at the points of n variables.
module _ (n : ℕ) (b : Basis) (f g : ℕ → Bool) (u : SpaceOf n f b) (h : (w : ℕ) → w < 2 ^ n → f w ≡ g w) where
  space-of : SpaceOf n g b
  space-of = record { value = u.value ∙ ap basis_of (linear-ext n f g h); basis = u.basis; spans = linear-span n g }

  degree-of : (k : ℕ) → k ≡ length (vectors_of b) → k ≡ degree n g
  unfolding degree
  degree-of k e = e ∙ ap (λ (x : Basis). length (vectors_of x)) space-of.value ∙ ap length (vectors-back (linear_space n g))

-- The flags of the two complete functions, their linear spaces and degrees, and the completion chosen.
module _ {n : ℕ} {on free : List ℕ} (k : Accepted n on free) {off full : List Bool} (e : off ≡ flags_of on) (q : full ≡ marked free off)
    {a b : Basis} (u : SpaceOf n (flagged off) a) (v : SpaceOf n (flagged full) b)
    {low high : ℕ} (l : low ≡ length (vectors_of a)) (h : high ≡ length (vectors_of b)) where
  off_at : (w : ℕ) → w < 2 ^ n → flagged off w ≡ all_off on w
  off_at w m = rw e (flags-at on w (lt_of_lt_of_le m (pow_mono k.few)))

  on-at : (w : ℕ) → w < 2 ^ n → flagged full w ≡ all_on on free w
  unfolding all_on
  on-at w m =
      let room : w < length off = rw (e, length-flags on) (lt_of_lt_of_le m (pow_mono k.few)) in
      rw q (marked-at free off w room ∙ ap (λ (t : Bool). holds free w || t) (off_at w m) ∙ or_comm (holds free w) (holds on w))

  -- The table completed in the simple way.
  abbrev IsSimple : Completed → Type 0
  IsSimple r = CompletedTo n on free (simply_completed n on free) r

  low-is : low ≡ k0 n on
  low-is = degree-of n a (flagged off) (all_off on) u off_at low l

  high_is : high ≡ k1 n on free
  high_is = degree-of n b (flagged full) (all_on on free) v on-at high h

  chosen : (flags : List Bool) (c : Basis) (f : ℕ → Bool) → simply_completed n on free ≡ f → ((w : ℕ) → w < 2 ^ n → flagged flags w ≡ f w)
      → SpaceOf n f c → IsSimple (record { flags = flags; basis = c; k0 = low; k1 = high })
  chosen flags c f z t x = record {
    flags = λ w m. t w m ∙ sym (ap (λ (g : ℕ → Bool). g w) z);
    basis = subst (λ (g : ℕ → Bool). SpaceOf n g c) (sym z) x;
    k0 = low-is;
    k1 = high_is;
  }

  larger : low < high → IsSimple (record { flags = full; basis = b; k0 = low; k1 = high })
  larger m = chosen full b (all_on on free) (simply-on n on free (rw (low-is, high_is) at m)) on-at (space-of n b (flagged full) (all_on on free) v on-at)

  otherwise : high ≤ low → IsSimple (record { flags = off; basis = a; k0 = low; k1 = high })
  otherwise m = chosen off a (all_off on) (simply-off n on free (rw (low-is, high_is) at m)) off_at (space-of n a (flagged off) (all_off on) u off_at)

pub flags_of-all_off-requires : goal.flags_of-all_off-requires
flags_of-all_off-requires c = on-flags c.requires

pub mark-all_on-requires : goal.mark-all_on-requires
mark-all_on-requires c = free-flags c.requires

pub returns-then-k0-k1 : goal.returns-then-k0-k1
returns-then-k0-k1 c =
    larger c.requires c.flags_of-all_off.ensures c.mark-all_on.ensures c.linear_space-space_off.ensures
    c.linear_space-space_on.ensures c.degree-k0.ensures c.degree-k1.ensures c.if-k0-k1.true

pub returns : goal.returns
returns c =
    otherwise c.requires c.flags_of-all_off.ensures c.mark-all_on.ensures c.linear_space-space_off.ensures
    c.linear_space-space_on.ensures c.degree-k0.ensures c.degree-k1.ensures c.if-k0-k1.false
