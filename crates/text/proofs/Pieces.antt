-- A text made of pieces, one for each place of a list, and that the texts of specs.Pieces are made so. Read next: Writing.
use mathlib.Core.Path.{◌≡◌, refl, sym, ap, ◌∙◌}
use mathlib.Core.List.{List, [], ◌∷◌, ◌++◌, append_assoc, append-nil, flat_map}
use Prim.Native.Nat.{ℕ, zero, suc, ◌≤◌, ◌<◌}
use native.Mathlib.Decide.{ℕ_discrete}
use native.Mathlib.Omega.{arith}
use lib.ListN.{length, get_or, length-append}
use Rattle.text.specs.Pieces.{spaced_number, spaced, name, names}

-- The first k pieces, one after the other.
abbrev pub pieces : (ℕ → List ℕ) → ℕ → List ℕ
pieces piece zero = []
pieces piece (suc k) = pieces piece k ++ piece k

-- Pieces that are equal at each place below k.
pub pieces-same : (f g : ℕ → List ℕ) (k : ℕ) → ((i : ℕ) → f i ≡ g i) → pieces f k ≡ pieces g k
pieces-same f g zero e = refl
pieces-same f g (suc k) e = rw (pieces-same f g k e, e k)

-- The first piece, and those after it.
pub pieces-front : (f : ℕ → List ℕ) (k : ℕ) → pieces f (suc k) ≡ f 0 ++ pieces (λ i. f (suc i)) k
pieces-front f zero = sym (append-nil (f 0))
pieces-front f (suc k) = ap (λ (l : List ℕ). l ++ f (suc k)) (pieces-front f k) ∙ append_assoc (f 0) (pieces (λ i. f (suc i)) k) (f (suc k))

-- A part of the pieces is no longer than all of them.
pub pieces-less : (f : ℕ → List ℕ) (i k : ℕ) → i ≤ k → length (pieces f i) ≤ length (pieces f k)
pieces-less f i zero h = ap-length (omega arith)
  where
    ap-length : i ≡ 0 → length (pieces f i) ≤ 0
    ap-length e = rw e (omega arith)
pieces-less f i (suc k) h = elim (ℕ_discrete i (suc k)) [ yes e ↦ rw e (omega arith) | no ne ↦ omega (arith, pieces-less f i k (omega arith), length-append (pieces f k) (f k)) ]

pub pieces-part : (f : ℕ → List ℕ) (i k : ℕ) → i < k → length (pieces f i ++ f i) ≤ length (pieces f k)
pieces-part f i k h = pieces-less f (suc i) k (omega arith)

-- The texts of the elements of a list are such pieces.
pub flat-pieces : {A : Type 0} (f : A → List ℕ) (d : A) (l : List A) → flat_map f l ≡ pieces (λ i. f (get_or l i d)) (length l)
unfolding flat_map
flat-pieces f d [] = refl
flat-pieces f d (a ∷ l) = ap (λ (r : List ℕ). f a ++ r) (flat-pieces f d l) ∙ sym (pieces-front (λ i. f (get_or (a ∷ l) i d)) (length l))

-- The number at a place of a list, after its blank.
abbrev pub spaced_at : List ℕ → ℕ → List ℕ
spaced_at ps i = spaced_number (get_or ps i 0)

pub spaced-pieces : (ps : List ℕ) → spaced ps ≡ pieces (spaced_at ps) (length ps)
unfolding spaced
spaced-pieces ps = flat-pieces spaced_number 0 ps

-- The name at a place of a list, after the text between two.
abbrev pub next_name : List ℕ → List ℕ → ℕ → List ℕ
next_name between rest i = between ++ name (get_or rest i 0)

pub names-pieces : (between : List ℕ) (index : ℕ) (rest : List ℕ) → names between (index ∷ rest) ≡ name index ++ pieces (next_name between rest) (length rest)
unfolding names
names-pieces between index rest = ap (λ (r : List ℕ). name index ++ r) (flat-pieces (λ other. between ++ name other) 0 rest)
