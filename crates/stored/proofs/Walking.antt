-- Laws of specs.Layout: what a whole record says of the bytes that are left. Read next: Ruling.
use mathlib.Core.Path.{◌≡◌, refl, ap, ◌∙◌}
use mathlib.Core.Bool.{Bool, true, false, cond}
use mathlib.Core.List.{List, [], ◌∷◌}
use Prim.Native.Nat.{ℕ, ◌≤◌, ◌<◌, ◌+◌}
use native.Mathlib.Nat.{not-suc-le-zero}
use native.Mathlib.Omega.{arith}
use lib.Dec.{eqb}
use lib.ListN.{length, drop, get_or}
use lib.Seq.{drop-drop}
use Rattle.records.specs.declared.Kind.{Kind}
use Rattle.records.specs.declared.Kind.TheVariants.{Variables, Product, Factor, End, On, Free}
use Rattle.records.specs.Kinds.{body_length, head_of}
use Rattle.records.specs.Walks.{head_step, body_step, end_step, bytes_missing}
use Rattle.records.proofs.Whole.{not-whole, body-length, head-whole}
use Rattle.records.proofs.Walking.{pass}
use Rattle.stored.specs.Layout.{first_table_kind, first_table_step, later_table_kind, table_step, count_passed, walk_table_from, walked, longest_table}
use Rattle.table.specs.declared.BytesFault.TheVariants.{Missing, After}
use Rattle.records.specs.Walks.{Walk, Step}
use Rattle.std.specs.Prelude.{Err}
use Rattle.std.specs.declared.ops.ControlFlow.TheVariants.{Continue, Break}

-- A body that is whole is there.
body-there : (m place : ℕ) (rest : List ℕ) (l : ℕ) → body_step m place rest ≡ Continue l → l ≤ length rest
body-there m place rest l e = let h = body-length m place rest l e in omega (arith, h.0, h.1)

-- A later record that is whole leaves its body behind.
later-whole : (k : Kind) (m count place : ℕ) (rest : List ℕ) (l : ℕ) → later_table_kind k m count place rest ≡ Continue l → l ≤ length rest
later-whole Variables m count place rest l e = not-whole e
later-whole Product m count place rest l e = not-whole e
later-whole Factor m count place rest l e = not-whole e
later-whole On m count place rest l e = body-there m place rest l e
later-whole Free m count place rest l e = body-there m place rest l e
later-whole End m count place rest l e = ended (body_step m place rest) e
  where
    ended : (s : Step) → end_step s count place rest ≡ Continue l → l ≤ length rest
    ended (Continue k) q = not-whole q
    ended (Break w) q = not-whole q

pub record-whole : (count byte place : ℕ) (rest : List ℕ) (l : ℕ) → table_step count byte place rest ≡ Continue l → l ≤ length rest
record-whole count byte place rest l = go (eqb place longest_table)
  where
    go : (t : Bool) → cond t (Break (Err (After place))) (head_step (head_of byte place) (λ k m. later_table_kind k m count place rest)) ≡ Continue l → l ≤ length rest
    go true e = not-whole e
    go false e = let h = head-whole byte place (λ k m. later_table_kind k m count place rest) e in later-whole h.0 (body_length h.0) count place rest l h.2

-- The walk over a whole input: it ends at the first record, or goes on after it.
pub walk_none : (s : List ℕ) → length s ≡ 0 → walked s ≡ Err (Missing 0)
unfolding walked
walk_none [] h = refl
walk_none (b ∷ rest) h = absurd (omega arith)

first_kind : (k : Kind) (m : ℕ) (rest : List ℕ) (l : ℕ) → first_table_kind k m rest ≡ Continue l → l ≤ length rest
first_kind Variables m rest l e = body-there m 0 rest l e
first_kind Product m rest l e = not-whole e
first_kind Factor m rest l e = not-whole e
first_kind End m rest l e = not-whole e
first_kind On m rest l e = not-whole e
first_kind Free m rest l e = not-whole e

pub first-whole : (byte : ℕ) (rest : List ℕ) (l : ℕ) → first_table_step byte rest ≡ Continue l → l ≤ length rest
first-whole byte rest l e = let h = head-whole byte 0 (λ k m. first_table_kind k m rest) e in first_kind h.0 (body_length h.0) rest l h.2

pub first_ends : (s : List ℕ) (w : Walk) → 0 < length s → first_table_step (get_or s 0 0) (drop 1 s) ≡ Break w → walked s ≡ w
unfolding walked
first_ends [] w h e = absurd (not-suc-le-zero h)
first_ends (b ∷ rest) w h e = rw e

pub first_goes : (s : List ℕ) (l : ℕ) → 0 < length s → first_table_step (get_or s 0 0) (drop 1 s) ≡ Continue l → walked s ≡ walk_table_from 0 0 (1 + l) (drop (1 + l) s)
unfolding walked
first_goes [] l h e = absurd (not-suc-le-zero h)
first_goes (b ∷ rest) l h e =
    rw e (pass table_step count_passed bytes_missing l 0 1 rest (first-whole b rest l e) ∙ ap (walk_table_from 0 0 (1 + l)) (drop-drop l 1 (b ∷ rest)))
