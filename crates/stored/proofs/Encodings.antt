-- Reading is exact: the walk finds a table exactly in the bytes that encode one, and the marks and n read there are those that were
-- written (`laid-exactly`, `encoded-marks`). Read next: Points.
use mathlib.Core.Path.{◌≡◌, refl, sym, ap, ◌∙◌, subst}
use mathlib.Core.Bool.{Bool, true, false}
use mathlib.Core.Logic.{inl, inr, ◌↔◌}
use mathlib.Core.List.{List, [], ◌∷◌, ◌++◌}
use Prim.Native.Nat.{ℕ, ◌≤◌, ◌<◌, ◌+◌, ◌*◌}
use native.Mathlib.Omega.{arith}
use lib.ListN.{length}
use Rattle.gf2.specs.Finite.{Mem}
use Rattle.table.specs.Flags.{max_points}
use Rattle.records.specs.Kinds.{end_kind, word_of, low_byte, high_byte, Bytes, encode_end}
use Rattle.records.proofs.KindBytes.{word-of-bytes, low-of-word, high-of-word, end-bytes}
use Rattle.records.specs.Walks.{is_fault}
use Rattle.stored.specs.Layout.{walked, longest_table}
use Rattle.stored.specs.Marks.{Mark, record_marks, marks, stored_variables}
use Rattle.stored.specs.Encoding.{mark_kind, encode_marks, encode_table, Encoded}
use Rattle.stored.specs.Stored.{LaidOut}
use Rattle.stored.proofs.Laying.{Laying, end, point, LaidAs, table, walk-laid, laid-few, laid-marks, laid_as, marks-point, marks-end}
use Rattle.std.specs.Prelude.{Ok}

-- ---- what is written is read

encoded-laying : (ms : List Mark) (place count all : ℕ) → count + length ms ≡ all → place + 3 * length ms < longest_table → Laying (encode_marks ms ++ encode_end all) place count all
unfolding encode_marks
encoded-laying [] place count all e h =
    let same : all ≡ count = omega arith in
    end (λ (p : place ≡ longest_table). omega arith) refl (word-of-bytes all ∙ same) (sym same)
encoded-laying (m ∷ ms) place count all e h =
    point m.is_on (λ (p : place ≡ longest_table). omega arith) refl (encoded-laying ms (place + 3) (count + 1) all (omega arith) (omega arith))

encoded-as : (n : ℕ) (ms : List Mark) → length ms ≤ max_points → LaidAs (encode_table n ms) (length ms)
unfolding encode_table
encoded-as n ms h = table refl (encoded-laying ms 2 0 (length ms) (omega arith) (omega arith))

-- The walk accepts an encoding, and n and the marks are read back.
pub encoded-laid : (n : ℕ) (ms : List Mark) → length ms ≤ max_points → walked (encode_table n ms) ≡ Ok (length ms)
encoded-laid n ms h = walk-laid (encoded-as n ms h)

pub encoded-variables : (n : ℕ) (ms : List Mark) → stored_variables (encode_table n ms) ≡ n
unfolding encode_table
encoded-variables n ms = refl

read-marks : (ms : List Mark) (all : ℕ) → record_marks (encode_marks ms ++ encode_end all) ≡ ms
unfolding encode_marks
read-marks [] all = marks-end end_kind (low_byte all) (high_byte all) refl
read-marks (m ∷ ms) all =
    marks-point (mark_kind m.is_on) (low_byte m.point) (high_byte m.point) (encode_marks ms ++ encode_end all) m.is_on refl
    ∙ (rw (word-of-bytes m.point, read-marks ms all))

pub encoded-marks : (n : ℕ) (ms : List Mark) → marks (encode_table n ms) ≡ ms
unfolding encode_table
encoded-marks n ms = read-marks ms (length ms)

-- ---- what is read was written

laying-encoded : {rest : List ℕ} {place count all : ℕ} → Bytes rest → Laying rest place count all → rest ≡ encode_marks (record_marks rest) ++ encode_end all
unfolding encode_marks
laying-encoded {all = all} b (end {byte} {low} {high} o q w a) =
    let second : low ≡ low_byte all = sym (low-of-word low high (b low (inr (inl refl)))) ∙ ap low_byte (w ∙ a) in
    let third : high ≡ high_byte all = sym (high-of-word low high (b low (inr (inl refl)))) ∙ ap high_byte (w ∙ a) in
    rw (marks-end byte low high q) (cc)
laying-encoded {all = all} b (point {byte} {low} {high} {rest} is_on o q r) =
    let second : low ≡ low_byte (word_of low high) = sym (low-of-word low high (b low (inr (inl refl)))) in
    let third : high ≡ high_byte (word_of low high) = sym (high-of-word low high (b low (inr (inl refl)))) in
    let others = laying-encoded (λ x m. b x (inr (inr (inr m)))) r in
    rw (marks-point byte low high rest is_on q) (cc)

laying-words : {rest : List ℕ} {place count all : ℕ} → Bytes rest → Laying rest place count all → (m : Mark) → Mem m (record_marks rest) → m.point < 65536
laying-words b (end {byte} {low} {high} o q w a) m k = absurd (rw (marks-end byte low high q) at k)
laying-words b (point {byte} {low} {high} {rest} is_on o q r) m k =
    elim (rw (marks-point byte low high rest is_on q) at k) [
      | inl e ↦ let w : m.point ≡ word_of low high = ap (λ (x : Mark). x.point) e in omega (arith, b low (inr (inl refl)), b high (inr (inr (inl refl))))
      | inr l ↦ laying-words (λ x i. b x (inr (inr (inr i)))) r m l
    ]

-- ---- exactly the encodings are laid out

as-encoded : {bytes : List ℕ} {all : ℕ} → Bytes bytes → LaidAs bytes all → bytes ≡ encode_table (stored_variables bytes) (marks bytes)
unfolding encode_table
as-encoded b (table {byte} {n} {rest} {all} q r) =
    let number : length (record_marks rest) ≡ all = laid-marks (table {n = n} q r) in
    let others = laying-encoded (λ x m. b x (inr (inr m))) r in
    rw number (cc)

as-words : {bytes : List ℕ} {all : ℕ} → Bytes bytes → LaidAs bytes all → (stored_variables bytes < 256) × ((m : Mark) → Mem m (marks bytes) → m.point < 65536)
as-words b (table {byte} {n} q r) = (b n (inr (inl refl)), laying-words (λ x m. b x (inr (inr m))) r)

encoded-bytes : (ms : List Mark) (rest : List ℕ) → ((m : Mark) → Mem m ms → m.point < 65536) → Bytes rest → Bytes (encode_marks ms ++ rest)
unfolding encode_marks
encoded-bytes [] rest w b x k = b x k
encoded-bytes (m ∷ ms) rest w b x (inl e) = rw e (kind-byte m.is_on)
  where
    kind-byte : (is_on : Bool) → mark_kind is_on < 256
    kind-byte true = omega arith
    kind-byte false = omega arith
encoded-bytes (m ∷ ms) rest w b x (inr (inl e)) = omega arith
encoded-bytes (m ∷ ms) rest w b x (inr (inr (inl e))) = omega (arith, w m (inl refl))
encoded-bytes (m ∷ ms) rest w b x (inr (inr (inr k))) = encoded-bytes ms rest (λ y i. w y (inr i)) b x k

pub table-bytes : (n : ℕ) (ms : List Mark) → n < 256 → ((m : Mark) → Mem m ms → m.point < 65536) → length ms ≤ max_points → Bytes (encode_table n ms)
unfolding encode_table
table-bytes n ms h w few x (inl e) = omega arith
table-bytes n ms h w few x (inr (inl e)) = omega arith
table-bytes n ms h w few x (inr (inr k)) = encoded-bytes ms (encode_end (length ms)) w (end-bytes (length ms) (omega arith)) x k

-- Bytes that are laid out as a table are the encoding of what is read of them.
pub stored_same : (bytes : List ℕ) → Bytes bytes → LaidOut bytes → bytes ≡ encode_table (stored_variables bytes) (marks bytes)
stored_same bytes b h = as-encoded b (laid_as bytes h)

-- A list of bytes is laid out as a table exactly if it is the encoding of one.
pub laid-exactly : (bytes : List ℕ) → (Bytes bytes × LaidOut bytes) ↔ Encoded bytes
laid-exactly bytes = (
  λ h.
      let a = laid_as bytes h.1 in
      record {
        variables = stored_variables bytes;
        listed = marks bytes;
        one_byte = (as-words h.0 a).0;
        two_bytes = (as-words h.0 a).1;
        few = laid-few a;
        same = stored_same bytes h.0 h.1;
      },
  λ e. subst (λ (l : List ℕ). Bytes l × LaidOut l) (sym e.same) (table-bytes e.variables e.listed e.one_byte e.two_bytes e.few, ap is_fault (encoded-laid e.variables e.listed e.few)),
)
