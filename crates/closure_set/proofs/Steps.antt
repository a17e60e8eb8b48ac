-- The definitions as a loop meets them: one on point more, one vector of the basis more.
use mathlib.Core.Path.{◌≡◌, sym, ap, ◌∙◌, fun_ext}
use mathlib.Core.Bool.{Bool, ◌&&◌, ◌||◌}
use mathlib.Core.List.{List, [], ◌∷◌, ◌++◌}
use Prim.Native.Nat.{ℕ, ◌+◌, ◌<◌}
use native.Mathlib.Numerals.{add-one}
use lib.ListN.{length, take, get_or}
use lib.Seq.{take-suc}
use lib.Bits.{xor_comm}
use Rattle.gf2.specs.Bits.{◌⊕◌}
use Rattle.gf2.specs.Finite.{every}
use Rattle.gf2.proofs.Logic.{and-true}
use Rattle.gf2.proofs.Finite.{every_append}
use Rattle.cubes.specs.Primes.{some_point}
use Rattle.cubes.proofs.Spaces.{some-step}

-- The on point at place i: t says of a point that it is allowed.
pub every-next : (t : ℕ → Bool) (on : List ℕ) (i a : ℕ) → i < length on
    → every (λ w. t (w ⊕ a)) (take i on) && t (a ⊕ get_or on i 0) ≡ every (λ w. t (w ⊕ a)) (take (i + 1) on)
every-next t on i a h =
    let p = get_or on i 0 in
    let next : take (i + 1) on ≡ take i on ++ (p ∷ []) = rw add-one (take-suc on i 0 h) in
    ap (λ (x : ℕ). every (λ w. t (w ⊕ a)) (take i on) && t x) (xor_comm a p)
    ∙ ap (λ (b : Bool). every (λ w. t (w ⊕ a)) (take i on) && b) (sym (and-true (t (p ⊕ a))))
    ∙ sym (every_append (λ w. t (w ⊕ a)) (take i on) (p ∷ []))
    ∙ ap (every (λ w. t (w ⊕ a))) (sym next)

-- The vector b put in: g and m are the points so far, and those moved by b.
pub spread-next : (f g m : ℕ → Bool) (b : ℕ) (bs : List ℕ) → ((x : ℕ) → m x ≡ g (x ⊕ b)) → ((x : ℕ) → f x ≡ g x || m x) → (w : ℕ)
    → some_point f bs w ≡ some_point g (b ∷ bs) w
spread-next f g m b bs p q w =
    ap (λ (h : ℕ → Bool). some_point h bs w) (fun_ext (λ x. q x ∙ ap (λ (t : Bool). g x || t) (p x))) ∙ sym (some-step g b bs w)
