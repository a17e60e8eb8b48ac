-- Laws of specs.Kinds: what the decision over the kind byte says of that byte, and that a number of two bytes and its bytes give each other.
-- Read next: Whole.
use mathlib.Core.Path.{◌≡◌, refl, subst}
use mathlib.Core.Bool.{Bool, true, false, cond}
use mathlib.Core.Logic.{inl, inr}
use mathlib.Core.List.{List, ◌∷◌}
use Prim.Native.Nat.{ℕ, ◌<◌}
use native.Mathlib.Omega.{arith}
use lib.Dec.{eqb}
use borrow.Author.Tests.{eqb-true}
use Rattle.records.specs.declared.Kind.{Kind}
use Rattle.records.specs.declared.Kind.TheVariants.{Variables, Product, Factor, End, On, Free}
use Rattle.records.specs.Kinds.{variables_kind, product_kind, factor_kind, end_kind, on_kind, free_kind, kind_byte, body_length, known, head_of, word_of, low_byte, high_byte, Bytes, encode_end}
use Rattle.table.specs.declared.BytesFault.TheVariants.{WrongKind}
use Rattle.records.specs.Kinds.{RecordHead}
use Rattle.std.specs.Prelude.{Ok, Err}

-- That byte is decided as that kind, wherever it stands.
pub head_byte : (kind : Kind) (place : ℕ) → head_of (kind_byte kind) place ≡ known kind
unfolding head_of
head_byte Variables place = refl
head_byte Product place = refl
head_byte Factor place = refl
head_byte End place = refl
head_byte On place = refl
head_byte Free place = refl

-- What is decided: a kind that has this byte, with the length of its body, or that the kind at the place is wrong.
abbrev Decided : ℕ → ℕ → RecordHead → Type 0
Decided byte place (Ok (kind, l)) = (byte ≡ kind_byte kind) × (l ≡ body_length kind)
Decided byte place (Err fault) = fault ≡ WrongKind place

decided : (byte place : ℕ) → Decided byte place (head_of byte place)
unfolding head_of
decided byte place =
    tested (eqb byte variables_kind) Variables _ (eqb-true byte variables_kind)
    (tested (eqb byte product_kind) Product _ (eqb-true byte product_kind)
    (tested (eqb byte factor_kind) Factor _ (eqb-true byte factor_kind)
    (tested (eqb byte end_kind) End _ (eqb-true byte end_kind)
    (tested (eqb byte on_kind) On _ (eqb-true byte on_kind)
    (tested (eqb byte free_kind) Free _ (eqb-true byte free_kind) refl)))))
  where
    tested : (t : Bool) (kind : Kind) (other : RecordHead) → (t ≡ true → byte ≡ kind_byte kind) → Decided byte place other → Decided byte place (cond t (known kind) other)
    tested true kind other p q = (p refl, refl)
    tested false kind other p q = q

pub head-known : (byte place : ℕ) {kind : Kind} {l : ℕ} → head_of byte place ≡ Ok (kind, l) → (byte ≡ kind_byte kind) × (l ≡ body_length kind)
head-known byte place e = subst (Decided byte place) e (decided byte place)

-- Whatever holds of each known kind that has the byte, and of the refusal, holds of the decision.
pub head-cases : (Q : RecordHead → Type 0) (byte place : ℕ) → ((kind : Kind) → byte ≡ kind_byte kind → Q (known kind)) → Q (Err (WrongKind place)) → Q (head_of byte place)
head-cases Q byte place f g = go (head_of byte place) (decided byte place)
  where
    go : (h : RecordHead) → Decided byte place h → Q h
    go (Ok (kind, l)) d = rw d.1 (f kind d.0)
    go (Err fault) d = rw d g

-- The two bytes of a number give it back, and two bytes are those of their number.
pub word-of-bytes : (word : ℕ) → word_of (low_byte word) (high_byte word) ≡ word
word-of-bytes word = omega arith

pub low-of-word : (low high : ℕ) → low < 256 → low_byte (word_of low high) ≡ low
low-of-word low high h = omega arith

pub high-of-word : (low high : ℕ) → low < 256 → high_byte (word_of low high) ≡ high
high-of-word low high h = omega arith

-- The bytes of the end record.
pub end-bytes : (count : ℕ) → count < 65536 → Bytes (encode_end count)
end-bytes count h x (inl e) = omega arith
end-bytes count h x (inr (inl e)) = omega arith
end-bytes count h x (inr (inr (inl e))) = omega arith
end-bytes count h x (inr (inr (inr e))) = absurd e

-- The shortest table, which is the shortest form too: of one variable, without points or products.
abbrev pub shortest : List ℕ
shortest = variables_kind ∷ 1 ∷ encode_end 0

pub shortest-bytes : Bytes shortest
shortest-bytes x (inl e) = omega arith
shortest-bytes x (inr (inl e)) = omega arith
shortest-bytes x (inr (inr m)) = end-bytes 0 (omega arith) x m
