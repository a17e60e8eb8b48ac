-- Primes of a table (document 01, "Primes"): of sets, and the test on least point and reduced basis. `on` and `free` tell the on
-- and the free points. Read next: Records.
use Rattle.std.specs.Prelude.{◌≡◌, Bool, true, not, ◌&&◌, ◌||◌, ◌⊎◌, List, [], ◌∷◌, ℕ, ◌^◌, ◌<◌}
use Rattle.gf2.specs.Bits.{◌⊕◌}
use Rattle.gf2.specs.Finite.{all, In}
use Rattle.gf2.specs.Span.{Pseudocube}
use Rattle.cubes.specs.Cubes.{Candidate, Within, spans, points_of}

-- The set lies inside on plus free.
abbrev pub Inside : ℕ → (ℕ → Bool) → (ℕ → Bool) → (ℕ → Bool) → Type 0
Inside n on free C = (x : ℕ) → In n C x → (on x ≡ true) ⊎ (free x ≡ true)

-- A prime: a pseudocube inside on plus free that holds an on point and lies in no larger pseudocube inside on plus free.
pub record Prime (n : ℕ) (on free C : ℕ → Bool) : Type 0 where
  pub cube : Pseudocube n C
  pub inside : Inside n on free C
  pub held : (x : ℕ) × In n C x × (on x ≡ true)
  pub largest : (D : ℕ → Bool) → Pseudocube n D → Inside n on free D → Within n C D → Within n D C

-- ---- the test

-- Every point, or some point, of p XOR the span of the vectors passes the test f. That it is so is `every-point` and `some-point`.
unfoldable pub every_point : (ℕ → Bool) → List ℕ → ℕ → Bool
every_point f [] p = f p
every_point f (b ∷ bs) p = every_point f bs p && every_point f bs (p ⊕ b)

unfoldable pub some_point : (ℕ → Bool) → List ℕ → ℕ → Bool
some_point f [] p = f p
some_point f (b ∷ bs) p = some_point f bs p || some_point f bs (p ⊕ b)

-- The point is on or free.
abbrev pub allowed : (ℕ → Bool) → (ℕ → Bool) → ℕ → Bool
allowed on free x = on x || free x

-- No pseudocube with one direction v more, v a vector outside the span, lies inside on plus free.
unfoldable pub cannot_grow : ℕ → (ℕ → Bool) → (ℕ → Bool) → Candidate → Bool
cannot_grow n on free c = all (λ v. spans c.vectors v || not (every_point (allowed on free) (v ∷ c.vectors) c.point)) (2 ^ n)

-- The test for a prime: inside on plus free, holds an on point, cannot grow. That it is the definition over sets is `prime-is`.
unfoldable pub is_prime : ℕ → (ℕ → Bool) → (ℕ → Bool) → Candidate → Bool
is_prime n on free c =
    every_point (allowed on free) c.vectors c.point && (some_point on c.vectors c.point && cannot_grow n on free c)

-- No other coset of the same space lies inside on plus free. That a prime is what lies inside, holds an on point and is alone so is `prime-alone`;
-- so a space has at most one prime, which is `one-prime`.
abbrev pub Alone : ℕ → (ℕ → Bool) → (ℕ → Bool) → Candidate → Type 0
Alone n on free c = (q : ℕ) → q < 2 ^ n → every_point (allowed on free) c.vectors q ≡ true → points_of c q ≡ true
