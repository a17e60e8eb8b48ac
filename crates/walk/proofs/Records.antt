-- A record as it is put into the room: its candidate's degree and point, the six bytes of the vectors, and the count.
use mathlib.Core.Path.{◌≡◌, refl, sym, ap, ap₂, ◌∙◌}
use mathlib.Core.List.{List, [], ◌∷◌, ◌++◌, append_assoc}
use Prim.Native.Nat.{ℕ, suc, ◌+◌, ◌-◌, ◌/◌, ◌≤◌}
use native.Mathlib.Omega.{arith}
use lib.ListN.{length, set, take, drop, length-set}
use lib.Seq.{sets, sets-eq, drop-drop}
use borrow.Rule.Slice.PartMut.{put_mid}
use Rattle.std.specs.Int.{to_le_bytes, w64}
use Rattle.bases.specs.Bases.{vectors_of}

-- An entry's vectors are its lowest bytes.
pub vectors-bytes : (e : ℕ) → take 6 (to_le_bytes w64 e) ≡ vectors_of 6 e
unfolding vectors_of
vectors-bytes e =
    let q : e / 65536 ≡ e / 256 / 256 = omega arith in
    let r : e / 16777216 ≡ e / 256 / 256 / 256 = omega arith in
    let s : e / 4294967296 ≡ e / 256 / 256 / 256 / 256 = omega arith in
    let t : e / 1099511627776 ≡ e / 256 / 256 / 256 / 256 / 256 = omega arith in
    rw (q, r, s, t) refl

-- A part that is written is so many stores.
pub part-stored : (i k : ℕ) (xs vs : List ℕ) → length vs ≡ k → i + k ≤ length xs → put_mid i k xs vs ≡ sets xs i vs
part-stored i k xs vs e h =
    ap (λ l. take i xs ++ (vs ++ l)) (drop-drop k i xs ∙ ap (λ (z : ℕ). drop (i + z) xs) (sym e))
    ∙ sym (append_assoc (take i xs) vs (drop (i + length vs) xs)) ∙ sym (sets-eq vs xs i (omega arith))

stored-append : (vs ws xs : List ℕ) (i : ℕ) → sets xs i (vs ++ ws) ≡ sets (sets xs i vs) (i + length vs) ws
stored-append [] ws xs i = let q : i ≡ i + 0 = omega arith in ap (λ (z : ℕ). sets xs z ws) q
stored-append (v ∷ vs) ws xs i = let q : suc i + length vs ≡ i + suc (length vs) = omega arith in stored-append vs ws (set xs i v) (suc i) ∙ ap (λ (z : ℕ). sets (sets (set xs i v) (suc i) vs) z ws) q

module _ (room : List ℕ) (i d p e count : ℕ) (vs : List ℕ) (same : vs ≡ vectors_of 6 e) (six : length vs ≡ 6) (h : i + 9 ≤ length room) where
  pub record-stored : set (put_mid (i + 2) (i + 8 - (i + 2)) (set (set room i d) (i + 1) p) vs) (i + 8) count ≡ sets room i ((d ∷ p ∷ vectors_of 6 e) ++ (count ∷ []))
  record-stored =
      let base = set (set room i d) (i + 1) p in
      let q : i + 8 - (i + 2) ≡ 6 = omega arith in
      let r : i + 2 ≡ suc (suc i) = omega arith in
      let s : i + 1 ≡ suc i = omega arith in
      let t : i + 8 ≡ i + 2 + length vs = omega arith in
      ap (λ l. set l (i + 8) count) (ap (λ (k : ℕ). put_mid (i + 2) k base vs) q ∙ part-stored (i + 2) 6 base vs six (simp length-set (omega arith)))
      ∙ ap (λ (z : ℕ). set (sets base (i + 2) vs) z count) t ∙ sym (stored-append vs (count ∷ []) base (i + 2))
      ∙ ap (λ l. sets base (i + 2) (l ++ (count ∷ []))) same
      ∙ ap₂ (λ (a b : ℕ). sets (set (set room i d) a p) b (vectors_of 6 e ++ (count ∷ []))) s r
