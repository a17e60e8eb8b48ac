-- Every fault of a table stands inside the longest table or right after it, and is decided by the bytes up to one more (`table-inside`); so a program need
-- not read further (`walked_start`). Read next: Encodings.
use mathlib.Core.Path.{◌≡◌, refl, ap, ◌∙◌}
use mathlib.Core.Bool.{Bool, true, false, cond}
use mathlib.Core.List.{List, [], ◌∷◌, ◌++◌}
use Prim.Native.Nat.{ℕ, zero, suc, ◌+◌, ◌-◌, ◌*◌, ◌≤◌, ◌<◌}
use native.Mathlib.Nat.{not-suc-le-zero, le_refl}
use native.Mathlib.Omega.{arith}
use lib.Dec.{eqb, leb}
use lib.ListN.{length, get_or, take, drop, length-drop}
use lib.Seq.{take-append-add}
use borrow.Author.Tests.{eqb-false, eqb-true, leb-true, leb-false}
use Rattle.table.specs.Flags.{max_points}
use Rattle.records.specs.declared.Kind.{Kind}
use Rattle.records.specs.declared.Kind.TheVariants.{Variables, Product, Factor, End, On, Free}
use Rattle.records.specs.Kinds.{body_length, head_of, word_of}
use Rattle.records.specs.Walks.{head_step, body_step, after_end, end_step, go_on, walk_by, bytes_missing, fault_number, fault_place}
use Rattle.records.specs.Faults.{records_bytes, fault_end}
use Rattle.records.proofs.KindBytes.{head-cases}
use Rattle.records.proofs.Walking.{pass}
use Rattle.records.proofs.Paths.{Found, broken, missing, laid}
use Rattle.stored.specs.Layout.{first_table_kind, first_table_step, later_table_kind, table_step, count_passed, walk_table_from, walked, longest_table}
use Rattle.stored.specs.Faults.{table_rules}
use Rattle.stored.proofs.Walking.{record-whole}
use Rattle.stored.proofs.Ruling.{table-ruled, table-first}
use Rattle.stored.proofs.Laying.{laid as Laid-by, laid-length, laid-few}
use Rattle.table.specs.declared.BytesFault.TheVariants.{WrongKind, Missing, WrongCount, After}
use Rattle.records.specs.Walks.{Walk, Step}
use Rattle.std.specs.Prelude.{Err}
use Rattle.std.specs.declared.ops.ControlFlow.TheVariants.{Continue, Break}

-- What is found stands at the end of the longest table at the latest, and the bytes up to one more decide it.
pub record Inside (w : Walk) : Type 0 where
  pub placed : fault_place w ≤ longest_table
  pub reached : fault_end (fault_number w) (fault_place w) ≤ longest_table + 1

-- What a step finds is so; and a record of points, which is passed, ends no later.
abbrev InsideStep : ℕ → Step → Type 0
InsideStep place (Break w) = Inside w
InsideStep place (Continue l) = (l ≡ 2) × (place + 3 ≤ longest_table)

at : (place : ℕ) → place ≤ longest_table → Inside (Err (WrongKind place))
at place h = record { placed = h; reached = omega arith }

module _ (count byte place : ℕ) (rest : List ℕ) (h : place + 3 ≤ longest_table) where
  body-inside : InsideStep place (body_step 2 place rest)
  body-inside = go (leb 2 (length rest)) refl
    where
      go : (t : Bool) → leb 2 (length rest) ≡ t → InsideStep place (cond t (Continue 2) (Break (Err (Missing (place + 1 + length rest)))))
      go true q = (refl, h)
      go false q = let short = leb-false 2 (length rest) q in record { placed = omega (arith, short); reached = omega (arith, short) }

  end-inside : (s : Step) → InsideStep place s → InsideStep place (end_step s count place rest)
  end-inside (Break w) i = i
  end-inside (Continue l) i = go (eqb (word_of (get_or rest 0 0) (get_or rest 1 0)) count) (drop l rest)
    where
      go : (t : Bool) (left : List ℕ) → Inside (cond t (after_end count (place + 1 + l) left) (Err (WrongCount (place + 1))))
      go true [] = record { placed = omega arith; reached = omega arith }
      go true (b ∷ bs) = record { placed = omega (arith, i.0); reached = omega (arith, i.0) }
      go false left = record { placed = omega arith; reached = omega arith }

  kind-inside : InsideStep place (head_step (head_of byte place) (λ kind l. later_table_kind kind l count place rest))
  kind-inside = head-cases (λ head. InsideStep place (head_step head (λ kind l. later_table_kind kind l count place rest))) byte place (λ kind q. kinds kind) (at place (omega arith))
    where
      kinds : (kind : Kind) → InsideStep place (later_table_kind kind (body_length kind) count place rest)
      kinds Variables = at place (omega arith)
      kinds Product = at place (omega arith)
      kinds Factor = at place (omega arith)
      kinds On = body-inside
      kinds Free = body-inside
      kinds End = end-inside (body_step 2 place rest) body-inside

-- A record of a table: it begins where the longest one ends, or it ends no later.
step-inside : (count byte place : ℕ) (rest : List ℕ) → place ≡ 2 + 3 * count → count ≤ max_points + 1 → InsideStep place (table_step count byte place rest)
step-inside count byte place rest e few = go (eqb place longest_table) refl
  where
    go : (t : Bool) → eqb place longest_table ≡ t → InsideStep place (cond t (Break (Err (After place))) (head_step (head_of byte place) (λ kind l. later_table_kind kind l count place rest)))
    go true q = let same = eqb-true place longest_table q in record { placed = omega (arith, same); reached = omega (arith, same) }
    go false q = let away = eqb-false place longest_table q in kind-inside count byte place rest (omega (arith, away))

-- Where no byte is left.
inside-end : (count place : ℕ) → place ≡ 2 + 3 * count → count ≤ max_points + 1 → Inside (walk_table_from 0 count place [])
unfolding walk_by
inside-end count place e few = record { placed = omega arith; reached = omega arith }

-- The same of the records from a place on.
inside-next : (fuel : ℕ) → ((rest : List ℕ) (count place : ℕ) → length rest ≤ fuel → place ≡ 2 + 3 * count → count ≤ max_points + 1 → Inside (walk_table_from 0 count place rest))
    → (rest : List ℕ) (count place : ℕ) → length rest ≤ suc fuel → place ≡ 2 + 3 * count → count ≤ max_points + 1 → Inside (walk_table_from 0 count place rest)
unfolding walk_by
inside-next fuel later [] count place h e few = inside-end count place e few
inside-next fuel later (byte ∷ rest) count place h e few = go (table_step count byte place rest) refl (step-inside count byte place rest e few)
  where
    go : (s : Step) → table_step count byte place rest ≡ s → InsideStep place s → Inside (go_on s (λ l. walk_table_from l (count + 1) (place + 1) rest))
    go (Break w) q i = i
    go (Continue l) q i =
        rw (pass table_step count_passed bytes_missing l (count + 1) (place + 1) rest (record-whole count byte place rest l q))
        (later (drop l rest) (count + 1) (place + 1 + l) (omega (arith, h, length-drop l rest)) (omega (arith, e, i.0)) (omega (arith, e, i.1)))

inside-in : (fuel : ℕ) (rest : List ℕ) (count place : ℕ) → length rest ≤ fuel → place ≡ 2 + 3 * count → count ≤ max_points + 1 → Inside (walk_table_from 0 count place rest)
inside-in zero [] count place h e few = inside-end count place e few
inside-in zero (b ∷ rest) count place h e few = absurd (not-suc-le-zero h)
inside-in (suc fuel) rest count place h e few = inside-next fuel (inside-in fuel) rest count place h e few

-- The first record.
abbrev FirstStep : List ℕ → Step → Type 0
FirstStep rest (Break w) = Inside w
FirstStep rest (Continue l) = (l ≡ 1) × (1 ≤ length rest)

first-inside : (byte : ℕ) (rest : List ℕ) → FirstStep rest (first_table_step byte rest)
first-inside byte rest = head-cases (λ head. FirstStep rest (head_step head (λ kind l. first_table_kind kind l rest))) byte 0 (λ kind q. kinds kind) (at 0 (omega arith))
  where
    body : (t : Bool) → leb 1 (length rest) ≡ t → FirstStep rest (cond t (Continue 1) (Break (Err (Missing (0 + 1 + length rest)))))
    body true q = (refl, leb-true 1 (length rest) q)
    body false q = let short = leb-false 1 (length rest) q in record { placed = omega (arith, short); reached = omega (arith, short) }

    kinds : (kind : Kind) → FirstStep rest (first_table_kind kind (body_length kind) rest)
    kinds Variables = body (leb 1 (length rest)) refl
    kinds Product = at 0 (omega arith)
    kinds Factor = at 0 (omega arith)
    kinds End = at 0 (omega arith)
    kinds On = at 0 (omega arith)
    kinds Free = at 0 (omega arith)

pub table-inside : (bytes : List ℕ) → Inside (walked bytes)
unfolding walked
table-inside [] = record { placed = omega arith; reached = omega arith }
table-inside (byte ∷ rest) = go (first_table_step byte rest) (first-inside byte rest)
  where
    go : (s : Step) → FirstStep rest s → Inside (go_on s (λ l. walk_table_from l 0 1 rest))
    go (Break w) i = i
    go (Continue l) i =
        rw i.0
        (rw (pass table_step count_passed bytes_missing 1 0 1 rest i.1) (inside-in (length (drop 1 rest)) (drop 1 rest) 0 2 (le_refl (length (drop 1 rest))) refl (omega arith)))

-- ---- bytes that are not read

-- Of an input that is longer than the longest table the bytes up to one more decide what is found.
pub walked_start : (bytes : List ℕ) → longest_table < length bytes → walked (take (longest_table + 1) bytes) ≡ walked bytes
unfolding records_bytes
walked_start bytes long = go (table-first bytes)
  where
    i : Inside (walked bytes)
    i = table-inside bytes

    go : Found table_rules [] bytes (walked bytes) → walked (take (longest_table + 1) bytes) ≡ walked bytes
    go (laid count e none after) = absurd (omega (arith, long, laid-length (Laid-by bytes count e), laid-few (Laid-by bytes count e)))
    go (missing e first) = absurd (omega (arith, long, i.placed, ap fault_place e))
    go (broken front more e all end known some inside first) =
        let short : length front ≤ longest_table + 1 = omega (arith, i.reached, end) in
        let split : longest_table + 1 ≡ length front + (longest_table + 1 - length front) = omega (arith, short) in
        ap walked (ap (take (longest_table + 1)) e ∙ ap (λ (k : ℕ). take k (front ++ more)) split ∙ take-append-add front more (longest_table + 1 - length front))
        ∙ table-ruled (front ++ take (longest_table + 1 - length front) more) ∙ all (take (longest_table + 1 - length front) more)
