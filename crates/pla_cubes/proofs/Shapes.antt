-- Laws of specs.Cubes: the symbols of a cube one by one, and how many they are. Read next: Covering.
use mathlib.Core.Path.{◌≡◌, refl, sym, ◌∙◌}
use mathlib.Core.Bool.{Bool, true, false, ◌&&◌}
use mathlib.Core.List.{List, [], ◌∷◌}
use Prim.Native.Nat.{ℕ, zero, suc, ◌+◌, ◌-◌, ◌≤◌, ◌<◌}
use native.Mathlib.Omega.{arith}
use lib.Dec.{eqb}
use native.Mathlib.Numerals.{add-one}
use lib.ListN.{length, drop, get_or, length-drop, get_or-eq_default, drop_of_length-le}
use lib.Seq.{get_or-drop, drop-cons}
use borrow.Author.Tests.{ne_eqb}
use Rattle.pla_text.specs.Text.{is_blank, symbols_of}
use Rattle.pla_cubes.specs.Cubes.{is_input, is_output, is_cube, takes, row_of, tilde}

-- ---- the symbols of a line one by one

pub symbols-blank : (l : List ℕ) (i : ℕ) → i < length l → is_blank (get_or l i 0) ≡ true → symbols_of (drop i l) ≡ symbols_of (drop (i + 1) l)
symbols-blank l i h e = rw (add-one, drop-cons l i 0 h, e)

pub symbols-byte : (l : List ℕ) (i : ℕ) → i < length l → is_blank (get_or l i 0) ≡ false → symbols_of (drop i l) ≡ get_or l i 0 ∷ symbols_of (drop (i + 1) l)
symbols-byte l i h e = rw (add-one, drop-cons l i 0 h, e)

pub symbols-end : (l : List ℕ) (i : ℕ) → length l ≤ i → symbols_of (drop i l) ≡ []
symbols-end l i h = rw (drop_of_length-le l {i = i} h)

-- ---- which symbols make a cube

-- An input, or an output once no input is to come, is taken.
pub cube-input : (n o b : ℕ) (bs : List ℕ) → 0 < n → takes n o b ≡ true → is_cube n o (b ∷ bs) ≡ is_cube (n - 1) o bs
unfolding is_cube
cube-input zero o b bs h e = absurd (omega arith)
cube-input (suc n) o b bs h e = let k : suc n - 1 ≡ n = omega arith in rw (e, k)

pub cube-output : (n o b : ℕ) (bs : List ℕ) → n ≤ 0 → takes n o b ≡ true → (0 < o) × (is_cube n o (b ∷ bs) ≡ is_cube n (o - 1) bs)
unfolding is_cube
cube-output zero zero b bs h e = let z : ◌≡◌ {A = ℕ} 0 1 = cc in absurd (omega arith)
cube-output zero (suc o) b bs h e = let k : suc o - 1 ≡ o = omega arith in (omega arith, rw (e, k))
cube-output (suc n) o b bs h e = absurd (omega arith)

-- A symbol that isn't taken makes it no cube.
pub cube-wrong : (n o b : ℕ) (bs : List ℕ) → takes n o b ≡ false → is_cube n o (b ∷ bs) ≡ false
unfolding is_cube
cube-wrong zero zero b bs e = refl
cube-wrong zero (suc o) b bs e = rw e
cube-wrong (suc n) o b bs e = rw e

-- At the end nothing may be to come.
pub cube-end : (n o : ℕ) → is_cube n o [] ≡ eqb n 0 && eqb o 0
unfolding is_cube
cube-end zero zero = refl
cube-end zero (suc o) = sym (ne_eqb (suc o) 0 (λ e. omega arith))
cube-end (suc n) o = rw (ne_eqb (suc n) 0 (λ e. omega arith))

-- A cube has as many symbols as inputs and outputs.
pub cube-length : (n o : ℕ) (symbols : List ℕ) → is_cube n o symbols ≡ true → length symbols ≡ n + o
unfolding is_cube
cube-length zero zero [] e = refl
cube-length zero (suc o) [] e = let z : ◌≡◌ {A = ℕ} 0 1 = cc in absurd (omega arith)
cube-length (suc n) o [] e = let z : ◌≡◌ {A = ℕ} 0 1 = cc in absurd (omega arith)
cube-length zero zero (b ∷ bs) e = let z : ◌≡◌ {A = ℕ} 0 1 = cc in absurd (omega arith)
cube-length zero (suc o) (b ∷ bs) e = go (is_output b) e (cube-length zero o bs)
  where
    go : (t : Bool) → t && is_cube zero o bs ≡ true → (is_cube zero o bs ≡ true → length bs ≡ zero + o) → length (b ∷ bs) ≡ zero + suc o
    go true e k = omega (arith, k e)
    go false e k = let z : ◌≡◌ {A = ℕ} 0 1 = cc in absurd (omega arith)
cube-length (suc n) o (b ∷ bs) e = go (is_input b) e (cube-length n o bs)
  where
    go : (t : Bool) → t && is_cube n o bs ≡ true → (is_cube n o bs ≡ true → length bs ≡ n + o) → length (b ∷ bs) ≡ suc n + o
    go true e k = omega (arith, k e)
    go false e k = let z : ◌≡◌ {A = ℕ} 0 1 = cc in absurd (omega arith)

-- ---- the symbol of the chosen output

-- Inside a list it doesn't matter what stands for none.
inside : (l : List ℕ) (i d e : ℕ) → i < length l → get_or l i d ≡ get_or l i e
inside [] i d e h = absurd (omega arith)
inside (x ∷ l) zero d e h = refl
inside (x ∷ l) (suc i) d e h = inside l i d e (omega arith)

pub row-symbol : (n output : ℕ) (symbols : List ℕ) → 0 < output → n + (output - 1) < length symbols
    → get_or symbols (n + (output - 1)) 0 ≡ (row_of n output symbols).output
row-symbol n zero symbols h k = absurd (omega arith)
row-symbol n (suc output) symbols h k =
    let e : suc output - 1 ≡ output = omega arith in
    inside symbols (n + (suc output - 1)) 0 tilde k ∙ (rw (e, ← get_or-drop n symbols output tilde))

pub row-none : (n output : ℕ) (symbols : List ℕ) → 0 < output → length symbols < n + output → (row_of n output symbols).output ≡ tilde
row-none n output symbols some h = get_or-eq_default (tilde ∷ drop n symbols) tilde {n = output} (omega (arith, length-drop n symbols, some))

-- ---- which symbol is taken

pub takes-input : (n o b : ℕ) → 0 < n → takes n o b ≡ is_input b
takes-input zero o b h = absurd (omega arith)
takes-input (suc n) o b h = refl

pub takes-output : (n o b : ℕ) → n ≤ 0 → 0 < o → takes n o b ≡ is_output b
takes-output zero zero b h k = absurd (omega arith)
takes-output zero (suc o) b h k = refl
takes-output (suc n) o b h k = absurd (omega arith)

pub takes_none : (n o b : ℕ) → n ≤ 0 → o ≤ 0 → takes n o b ≡ false
takes_none zero zero b h k = refl
takes_none zero (suc o) b h k = absurd (omega arith)
takes_none (suc n) o b h k = absurd (omega arith)
