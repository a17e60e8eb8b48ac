-- Document 02, No. 4: how free points are used, said of what the public calls return and hand over, of every table and with any rooms. Up to eight
-- variables the reported space is the first of the largest spaces inside the closure set, and the completed function is on at every on point XOR every
-- vector of that space; from nine on document 01's rule stays, and the report says so. Read next: Bits.
use Rattle.std.specs.Prelude.{◌≡◌, Bool, true, ◌⊎◌, ◌↔◌, List, ◌++◌, ℕ, ◌^◌, ◌≤◌, ◌<◌, max, length}
use Rattle.gf2.specs.Bits.{◌⊕◌}
use Rattle.gf2.specs.Finite.{Mem, In, select}
use Rattle.gf2.specs.Span.{Span, Space}
use Rattle.gf2.specs.Basis.{Reduced, reduced_basis}
use Rattle.basis.specs.Reduced.{vectors_of}
use Rattle.cubes.specs.Cubes.{size}
use Rattle.cubes.specs.Candidates.{Lexicographic}
use Rattle.space.specs.Completion.{simply_completed}
use Rattle.analysis.specs.Spaces.{linear_space_answer}
use Rattle.lines.specs.Words.{variables_word}
use Rattle.lines.specs.Lines.{number_line, counts_line}
use Rattle.table_report.specs.Text.{is_simple, space_text, form_text, table_text}
use Rattle.claims.specs.Demand2.{Reported, is_on}

-- A vector a of n variables is in the closure set when w XOR a is on or free for each on point w.
abbrev pub InClosureSet : ℕ → List ℕ → List ℕ → ℕ → Type 0
InClosureSet n on free a = (a < 2 ^ n) × ((w : ℕ) → Mem w on → Mem (w ⊕ a) on ⊎ Mem (w ⊕ a) free)

-- A space inside the closure set: any set of vectors of n variables, given by a test, that is a space and lies there.
pub record SpaceInside (n : ℕ) (on free : List ℕ) (Q : ℕ → Bool) : Type 0 where
  pub space : Space (In n Q)
  pub inside : (a : ℕ) → In n Q a → InClosureSet n on free a

-- A basis and a degree that are reported of a completed table.
pub record LargestSays (n : ℕ) (on free : List ℕ) (r : Reported) (basis : List ℕ) (degree : ℕ) : Type 0 where
  pub reduced : Reduced basis
  pub dimension : degree ≡ length basis
  -- The space lies inside the closure set.
  pub inside : (a : ℕ) → Span basis a → InClosureSet n on free a
  -- No space inside the closure set is larger, by its number of vectors and by its dimension; of those of the same dimension none has an earlier reduced
  -- basis.
  pub none-larger : (Q : ℕ → Bool) → SpaceInside n on free Q → size n Q ≤ 2 ^ length basis
  pub none-wider : (Q : ℕ → Bool) → SpaceInside n on free Q → length (reduced_basis n Q) ≤ length basis
  pub none-earlier : (Q : ℕ → Bool) → SpaceInside n on free Q → length (reduced_basis n Q) ≡ length basis → Lexicographic (reduced_basis n Q) basis → ⊥
  -- The completed function is on exactly at every on point XOR every vector of the space.
  pub spread : (w : ℕ) → w < 2 ^ n → (is_on r w ≡ true) ↔ ((u : ℕ) × Mem u on × Span basis (u ⊕ w))
  -- Its linear space is that space and no more.
  pub exactly : (a : ℕ) → Span basis a ↔ ((a < 2 ^ n) × ((w : ℕ) → w < 2 ^ n → is_on r (w ⊕ a) ≡ is_on r w))

-- What is said of a table that `complete` accepted.
pub record FreePoints (n : ℕ) (on free : List ℕ) (r : Reported) : Type 0 where
  -- Up to eight variables: of the space that `linear_space` returns for the points handed over, and of the one that `analyse` returns.
  pub space : n ≤ 8 → LargestSays n on free r (vectors_of r.space.basis) r.completion.degree
  pub analysis : n ≤ 8 → r.analysis.refusal ≡ 0 → LargestSays n on free r (vectors_of r.analysis.basis) r.analysis.degree
  -- No completion has a larger degree: of any function that is on at the on points, and elsewhere only at free points, `linear_space` returns at most it.
  pub none-better : n ≤ 8 → (g : ℕ → Bool) → ((w : ℕ) → Mem w on → g w ≡ true) → ((w : ℕ) → g w ≡ true → Mem w on ⊎ Mem w free)
      → (linear_space_answer n (select g (2 ^ n))).degree ≤ r.completion.degree
  -- The degree is never below the old one, which is the larger of k0 and k1 (`simply-degree`); what these two are is said by `CompleteSays`.
  pub no_less : max r.completion.k0 r.completion.k1 ≤ r.completion.degree
  -- From nine variables the old rule stays.
  pub old-rule : 8 < n → r.points ≡ select (simply_completed n on free) (2 ^ n)
  pub old-degree : 8 < n → r.completion.degree ≡ max r.completion.k0 r.completion.k1
  -- The report prints the space and the restriction that `analyse` returns, and its degree line is marked exactly from nine variables on if free points
  -- exist.
  pub report : r.analysis.refusal ≡ 0 → table_text n on free ≡ number_line variables_word n ++ (counts_line (length on) (length free)
      ++ (space_text n (is_simple n free) (vectors_of r.analysis.basis) r.restriction ++ form_text n on free))
  pub marked : (is_simple n free ≡ true) ↔ ((8 < n) × (0 < length free))
