-- Laws of specs.Flagging: flags set one by one, one row more, and all of those below a bound tested.
use mathlib.Core.Path.{◌≡◌, refl, ap, ◌∙◌}
use mathlib.Core.Bool.{Bool, true, false, cond, not, ◌&&◌, ◌||◌, and-true, and-false}
use mathlib.Core.List.{List, [], ◌∷◌, ◌++◌}
use Prim.Native.Nat.{ℕ, zero, suc, ◌+◌, ◌≤◌, ◌<◌}
use native.Mathlib.Decide.{ℕ_discrete}
use native.Mathlib.Omega.{arith}
use lib.Dec.{eqb}
use lib.ListN.{length, take, get_or, set}
use lib.Seq.{get_or-set_same, get_or-set_other, take-suc}
use Rattle.std.specs.List.{list_any}
use Rattle.gf2.specs.Finite.{all}
use Rattle.table.specs.Flags.{max_points}
use Rattle.pla_cubes.specs.declared.PointFlags.{PointFlags}
use Rattle.pla_cubes.specs.Cubes.{Row, covers, says, is_input}
use Rattle.pla_cubes.specs.Flagging.{Flagged, marked, said_at, unsaid}

-- ---- flags set one by one

-- What is said of a point after a row, by what was said before.
abbrev pub said_with : List ℕ → ℕ → List PointFlags → ℕ → PointFlags
said_with inputs symbol old p = cond (covers inputs p) (marked (get_or old p unsaid) symbol) (get_or old p unsaid)

-- The flags below i are those after the row; the others are as they were.
pub record Marking (inputs : List ℕ) (symbol : ℕ) (old flags : List PointFlags) (i : ℕ) : Type 0 where
  pub done : (p : ℕ) → p < i → get_or flags p unsaid ≡ said_with inputs symbol old p
  pub rest : (p : ℕ) → i ≤ p → get_or flags p unsaid ≡ get_or old p unsaid

pub marking-start : (inputs : List ℕ) (symbol : ℕ) (old : List PointFlags) → Marking inputs symbol old old 0
marking-start inputs symbol old = record { done = λ p h. absurd (omega arith); rest = λ p h. refl }

pub marking-next : {inputs : List ℕ} {symbol : ℕ} {old flags : List PointFlags} {i : ℕ} (v : PointFlags) → i < length flags → v ≡ said_with inputs symbol flags i
    → Marking inputs symbol old flags i → Marking inputs symbol old (set flags i v) (i + 1)
marking-next {inputs} {symbol} {old} {flags} {i} v h e m =
    record {
      done = λ p k. go p k (ℕ_discrete p i);
      rest = λ p k. get_or-set_other flags i p v unsaid (λ z. omega arith) ∙ m.rest p (omega arith);
    }
  where
    go : (p : ℕ) → p < i + 1 → Dec (p ≡ i) → get_or (set flags i v) p unsaid ≡ said_with inputs symbol old p
    go p k (yes z) = rw (z, get_or-set_same flags i v unsaid h, e, m.rest i (omega arith)) refl
    go p k (no z) = get_or-set_other flags i p v unsaid z ∙ m.done p (omega (arith, z))

-- By whether the row covers the point.
pub said-covered : (inputs : List ℕ) (symbol i : ℕ) (flags : List PointFlags) (v : PointFlags) → covers inputs i ≡ true → v ≡ marked (get_or flags i unsaid) symbol → v ≡ said_with inputs symbol flags i
said-covered inputs symbol i flags v t e = rw (t, e) refl

pub said-left : (inputs : List ℕ) (symbol i : ℕ) (flags : List PointFlags) → covers inputs i ≡ false → get_or flags i unsaid ≡ said_with inputs symbol flags i
said-left inputs symbol i flags t = rw t refl

-- ---- one row more

-- What the rows say of a point after a row, by whether it covers the point.
said-next : (row : Row) (rows : List Row) (p : ℕ) → cond (covers row.inputs p) (marked (said_at rows p) row.output) (said_at rows p) ≡ said_at (row ∷ rows) p
unfolding says marked
said-next row rows p = go (covers row.inputs p) (eqb row.output 49) (eqb row.output 48) (eqb row.output 45)
  where
    go : (t a b d : Bool) → cond t (record { one = a || says 49 rows p; zero = b || says 48 rows p; dash = d || says 45 rows p }) (said_at rows p)
        ≡ record { one = (a && t) || says 49 rows p; zero = (b && t) || says 48 rows p; dash = (d && t) || says 45 rows p }
    go true a b d = rw (and-true a, and-true b, and-true d) refl
    go false a b d = rw (and-false a, and-false b, and-false d) refl

pub flagged-next : (inputs : List ℕ) (symbol : ℕ) (rows : List Row) (old flags : List PointFlags) → Flagged old rows → Marking inputs symbol old flags max_points
    → Flagged flags (record { inputs = inputs; output = symbol } ∷ rows)
flagged-next inputs symbol rows old flags f m = record {
  points = λ p h.
      m.done p h
      ∙ ap (λ (said : PointFlags). cond (covers inputs p) (marked said symbol) said) (f.points p h)
      ∙ said-next (record { inputs = inputs; output = symbol }) rows p;
}

-- A row with a tilde, or any other byte, says nothing.
pub flagged-same : (inputs : List ℕ) (symbol : ℕ) (rows : List Row) (old : List PointFlags) → is_input symbol ≡ false → Flagged old rows → Flagged old (record { inputs = inputs; output = symbol } ∷ rows)
unfolding says
flagged-same inputs symbol rows old e f = record { points = λ p h. f.points p h ∙ go p (eqb symbol 48) (eqb symbol 49) (eqb symbol 45) e }
  where
    go : (p : ℕ) (z o d : Bool) → z || o || d ≡ false
        → said_at rows p ≡ record { one = (o && covers inputs p) || says 49 rows p; zero = (z && covers inputs p) || says 48 rows p; dash = (d && covers inputs p) || says 45 rows p }
    go p false false false e = refl
    go p false false true e = let no : ◌≡◌ {A = ℕ} 0 1 = cc in absurd (omega arith)
    go p false true d e = let no : ◌≡◌ {A = ℕ} 0 1 = cc in absurd (omega arith)
    go p true o d e = let no : ◌≡◌ {A = ℕ} 0 1 = cc in absurd (omega arith)

-- ---- all below a bound

any-snoc : {A : Type 0} (t : A → Bool) (l : List A) (x : A) → list_any t (l ++ (x ∷ [])) ≡ list_any t l || t x
any-snoc t [] x = go (t x)
  where
    go : (b : Bool) → b || false ≡ b
    go true = refl
    go false = refl
any-snoc t (y ∷ l) x = go (t y) (any-snoc t l x)
  where
    go : (b : Bool) → list_any t (l ++ (x ∷ [])) ≡ list_any t l || t x → b || list_any t (l ++ (x ∷ [])) ≡ (b || list_any t l) || t x
    go true e = refl
    go false e = e

-- None of the first k passes exactly if all below k fail.
pub none-below : {A : Type 0} (t : A → Bool) (l : List A) (d : A) (k : ℕ) → k ≤ length l → not (list_any t (take k l)) ≡ all (λ p. not (t (get_or l p d))) k
unfolding all
none-below t l d zero h = refl
none-below t l d (suc k) h = rw (take-suc l k d (omega arith), any-snoc t (take k l) (get_or l k d)) (go (list_any t (take k l)) (t (get_or l k d)) (none-below t l d k (omega arith)))
  where
    go : (a b : Bool) → not a ≡ all (λ p. not (t (get_or l p d))) k → not (a || b) ≡ not b && all (λ p. not (t (get_or l p d))) k
    go true true e = refl
    go true false e = e
    go false true e = refl
    go false false e = e
