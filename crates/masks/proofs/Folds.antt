-- Laws of the fold over an entry's vectors, and of the mask of a list of points. Read next: PrimeTest.
use mathlib.Core.Path.{◌≡◌, sym, ap, ◌∙◌, fun_ext}
use mathlib.Core.Bool.{Bool, ◌&&◌, ◌||◌}
use mathlib.Core.List.{List}
use Prim.Native.Nat.{ℕ, ◌+◌, ◌-◌, ◌*◌, ◌/◌, ◌%◌, ◌^◌, ◌≤◌, ◌<◌}
use native.Mathlib.Omega.{arith}
use lib.Dec.{eqb}
use lib.Bits.{bit_and, bit_or}
use lib.ListN.{length, drop, get_or}
use Rattle.gf2.specs.Bits.{bit}
use Rattle.gf2.specs.Finite.{holds}
use Rattle.gf2.proofs.Finite.{holds-next}
use Rattle.gf2.proofs.Xor.{bit-and}
use Rattle.moves.specs.Moves.{mask_size, Moved}
use Rattle.moves.proofs.Bits.{bit-put}
use Rattle.cubes.specs.Primes.{every_point}
use Rattle.cubes.proofs.Spaces.{every-step}
use Rattle.bases.specs.Bases.{vectors_of}
use Rattle.bases.proofs.Entry.{vectors-step}

-- ---- the vectors of an entry one after the other

pub every-on : (l e g m : ℕ) → 0 < l → Moved (e % 256) g m → every_point (λ y. bit y (bit_and g m)) (vectors_of (l - 1) (e / 256)) ≡ every_point (λ y. bit y g) (vectors_of l e)
every-on l e g m h v =
    ap (λ (f : ℕ → Bool). every_point f (vectors_of (l - 1) (e / 256))) (fun_ext (λ y. bit-and y g m ∙ ap (λ (t : Bool). bit y g && t) (v y)))
    ∙ fun_ext (λ x. sym (every-step (λ y. bit y g) (e % 256) (vectors_of (l - 1) (e / 256)) x))
    ∙ ap (every_point (λ y. bit y g)) (sym (vectors-step l e h))

-- No vector is left.
pub every-end : (f : ℕ → Bool) (l e x : ℕ) → l ≤ 0 → every_point f (vectors_of l e) x ≡ f x
unfolding vectors_of every_point
every-end f l e x h = let q : l ≡ 0 = omega arith in ap (λ (z : ℕ). every_point f (vectors_of z e) x) q

-- ---- the mask of a list of points

-- The point at place i put into the mask.
pub mask_next : (ps : List ℕ) (m i p : ℕ) → i < length ps → p ≡ get_or ps i 0 → p < mask_size → (x : ℕ)
    → bit x (bit_or m (1 * 2 ^ p % 18446744073709551616)) || holds (drop (i + 1) ps) x ≡ bit x m || holds (drop i ps) x
mask_next ps m i p h e l x =
    ap (λ (t : Bool). t || holds (drop (i + 1) ps) x) (bit-put mask_size x m p l ∙ ap (λ (z : ℕ). bit x m || eqb z x) e) ∙ holds-next (bit x m) ps i x h
