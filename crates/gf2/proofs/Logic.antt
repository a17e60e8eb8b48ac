-- Truth values: what a test that came out true or false says of its parts. Read next: Finite.
use mathlib.Core.Path.{◌≡◌, refl, sym, ◌∙◌}
use mathlib.Core.Bool.{Bool, true, false, cond, ◌&&◌, ◌||◌, true≢false, beq}
use mathlib.Core.Logic.{◌⊎◌, inl, inr}
use Prim.Native.Nat.{ℕ, ◌<◌}
use lib.Dec.{ltb}
use borrow.Author.Tests.{ltb-true, lt-ltb}
use Rattle.gf2.specs.Bits.{◌⊻◌}

-- One test with two answers proves anything.
pub clash : {A : Type 0} {t : Bool} → t ≡ true → t ≡ false → A
clash p q = absurd (true≢false (sym p ∙ q))

-- Two tests are equal when each gives the other.
pub same : (p q : Bool) → (p ≡ true → q ≡ true) → (q ≡ true → p ≡ true) → p ≡ q
same true q f g = sym (f refl)
same false true f g = g refl
same false false f g = refl

pub ltb-same : (a b c d : ℕ) → (a < b → c < d) → (c < d → a < b) → ltb a b ≡ ltb c d
ltb-same a b c d f g = same (ltb a b) (ltb c d) (λ e. lt-ltb c d (f (ltb-true a b e))) (λ e. lt-ltb a b (g (ltb-true c d e)))

-- What holds of both branches holds of the one taken.
pub cond_cases : {A : Type 0} (Q : A → Type 0) (t : Bool) (a b : A) → (t ≡ true → Q a) → (t ≡ false → Q b) → Q (cond t a b)
cond_cases Q true a b f g = f refl
cond_cases Q false a b f g = g refl

-- Conjunction.
pub and_l : (a b : Bool) → a && b ≡ true → a ≡ true
and_l true b e = refl
and_l false b e = e

pub and_r : (a b : Bool) → a && b ≡ true → b ≡ true
and_r true b e = e
and_r false b e = clash e refl

pub and_i : (a b : Bool) → a ≡ true → b ≡ true → a && b ≡ true
and_i a b p q = rw (p, q)

pub and-exchange : (a b c d : Bool) → (a && b) && (c && d) ≡ (a && c) && (b && d)
and-exchange false b c d = refl
and-exchange true false true d = refl
and-exchange true false false d = refl
and-exchange true true c d = refl

-- Disjunction.
pub or_l : (a b : Bool) → a ≡ true → a || b ≡ true
or_l true b e = refl
or_l false b e = clash refl (sym e)

pub or-exchange : (a b c d : Bool) → (a || b) || (c || d) ≡ (a || c) || (b || d)
or-exchange true b c d = refl
or-exchange false true true d = refl
or-exchange false true false d = refl
or-exchange false false c d = refl

pub or_r : (a b : Bool) → b ≡ true → a || b ≡ true
or_r true b e = refl
or_r false b e = e

pub or_cases : (a b : Bool) → a || b ≡ true → (a ≡ true) ⊎ (b ≡ true)
or_cases true b e = inl refl
or_cases false b e = inr e

pub or-none : (a b : Bool) → a || b ≡ false → (a ≡ false) × (b ≡ false)
or-none true b e = clash refl e
or-none false b e = (refl, e)

-- XOR.
pub ⊻-assoc : (a b c : Bool) → (a ⊻ b) ⊻ c ≡ a ⊻ (b ⊻ c)
⊻-assoc false b c = refl
⊻-assoc true false c = refl
⊻-assoc true true false = refl
⊻-assoc true true true = refl

pub ⊻-comm : (a b : Bool) → a ⊻ b ≡ b ⊻ a
⊻-comm true true = refl
⊻-comm true false = refl
⊻-comm false true = refl
⊻-comm false false = refl

pub ⊻-false : (a : Bool) → a ⊻ false ≡ a
⊻-false true = refl
⊻-false false = refl

pub and-⊻ : (a b c : Bool) → a && (b ⊻ c) ≡ (a && b) ⊻ (a && c)
and-⊻ true b c = refl
and-⊻ false b c = refl

-- More of AND, OR and XOR.
pub and-false : (a : Bool) → a && false ≡ false
and-false true = refl
and-false false = refl

pub and-true : (a : Bool) → a && true ≡ a
and-true true = refl
and-true false = refl

pub or-false : (a b : Bool) → a ≡ false → b ≡ false → a || b ≡ false
or-false a b p q = rw (p, q)

pub ⊻-same : (a b : Bool) → a ⊻ b ≡ false → a ≡ b
⊻-same true true e = refl
⊻-same true false e = e
⊻-same false true e = sym e
⊻-same false false e = refl

-- The test that two truth values are equal.
pub beq-eq : (a b : Bool) → beq a b ≡ true → a ≡ b
beq-eq true true e = refl
beq-eq true false e = sym e
beq-eq false true e = e
beq-eq false false e = refl

pub eq-beq : (a b : Bool) → a ≡ b → beq a b ≡ true
eq-beq true b e = rw (← e)
eq-beq false b e = rw (← e)

pub beq-true : (a : Bool) → beq true a ≡ a
beq-true true = refl
beq-true false = refl
