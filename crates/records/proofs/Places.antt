-- Laws of whole records, one after the other, and of the rules at one place: where a record more begins, and that every rule speaks of a place that is not
-- further left. Read next: Ruling.
use mathlib.Core.Path.{◌≡◌, refl, sym, ap, ◌∙◌}
use mathlib.Core.Bool.{Bool, true, false, cond, ◌||◌}
use mathlib.Core.Logic.{inl, inr}
use mathlib.Core.List.{List, [], ◌∷◌, ◌++◌, append_assoc, append-nil}
use Prim.Native.Nat.{ℕ, ◌+◌, ◌≤◌, ◌<◌}
use native.Mathlib.Omega.{arith}
use lib.Dec.{leb}
use lib.ListN.{length, length-append, take, drop}
use lib.Seq.{take_at, drop_at}
use Rattle.gf2.specs.Finite.{Mem}
use Rattle.gf2.proofs.Finite.{append-mem}
use Rattle.table.specs.Refusal.{Test, wrong_kind_fault, too_many_products_fault}
use Rattle.records.specs.declared.Kind.{Kind}
use Rattle.records.specs.declared.Kind.TheVariants.{Variables, Product, Factor, End, On, Free}
use Rattle.records.specs.Kinds.{kind_byte, body_length, known, head_of}
use Rattle.records.proofs.KindBytes.{head_byte}
use Rattle.records.specs.Faults.{Record, record_of, IsWhole, record_bytes, records_bytes, place_after, is_end, ended, record_count, Rules, kind_faults, body_faults, missing_faults, body_or_missing, faults_after}
use Rattle.records.specs.Kinds.{RecordHead}
use Rattle.std.specs.Prelude.{Ok, Err}

-- ---- one record more

pub bytes-snoc : (before : List Record) (r : Record) → records_bytes (before ++ (r ∷ [])) ≡ records_bytes before ++ record_bytes r
unfolding records_bytes
bytes-snoc [] r = append-nil (record_bytes r)
bytes-snoc (b ∷ before) r = ap (λ (l : List ℕ). record_bytes b ++ l) (bytes-snoc before r) ∙ sym (append_assoc (record_bytes b) (records_bytes before) (record_bytes r))

pub place-snoc : (before : List Record) (r : Record) → place_after (before ++ (r ∷ [])) ≡ place_after before + (1 + length r.body)
place-snoc before r = ap length (bytes-snoc before r) ∙ length-append (records_bytes before) (record_bytes r) ∙ omega arith

-- Records more lie further right.
pub place-longer : (before : List Record) (r : Record) (rs : List Record) → place_after before + (1 + length r.body) ≤ place_after (before ++ (r ∷ rs))
unfolding records_bytes
place-longer [] r rs = omega (arith, length-append (record_bytes r) (records_bytes rs))
place-longer (b ∷ before) r rs =
    omega (arith, place-longer before r rs, length-append (record_bytes b) (records_bytes before), length-append (record_bytes b) (records_bytes (before ++ (r ∷ rs))))

pub ended-snoc : (before : List Record) (r : Record) → ended (before ++ (r ∷ [])) ≡ ended before || is_end r.kind
unfolding ended
ended-snoc [] r = or_off (is_end r.kind)
  where
    or_off : (t : Bool) → t || false ≡ t
    or_off true = refl
    or_off false = refl
ended-snoc (b ∷ before) r = go (is_end b.kind) (ended-snoc before r)
  where
    go : (t : Bool) → ended (before ++ (r ∷ [])) ≡ ended before || is_end r.kind → t || ended (before ++ (r ∷ [])) ≡ (t || ended before) || is_end r.kind
    go true e = refl
    go false e = e

pub counted-snoc : (is_counted : Kind → Bool) (before : List Record) (r : Record) → record_count is_counted (before ++ (r ∷ [])) ≡ record_count is_counted before + cond (is_counted r.kind) 1 0
unfolding record_count
counted-snoc is_counted [] r = omega arith
counted-snoc is_counted (b ∷ before) r = omega (arith, counted-snoc is_counted before r)

-- ---- two ways to split bytes agree

-- The byte of a kind says which it is.
same_kind : (k l : Kind) → kind_byte k ≡ kind_byte l → k ≡ l
same_kind k l e = let same : known k ≡ known l = sym (head_byte k 0) ∙ ap (λ (b : ℕ). head_of b 0) e ∙ head_byte l 0 in ap kind_in same
  where
    kind_in : RecordHead → Kind
    kind_in (Ok (kind, l)) = kind
    kind_in (Err fault) = k

-- Two lists with fronts of one length have the same front and the same rest.
same-front : (a b c d : List ℕ) → length a ≡ length b → a ++ c ≡ b ++ d → (a ≡ b) × (c ≡ d)
same-front a b c d h e = (
  sym (take_at a c (length a) refl) ∙ ap (take (length a)) e ∙ take_at b d (length a) (sym h),
  sym (drop_at a c (length a) refl) ∙ ap (drop (length a)) e ∙ drop_at b d (length a) (sym h),
)

-- A whole record at the front of some bytes is the only one there.
pub record-unique : (r s : Record) (c d : List ℕ) → IsWhole r → IsWhole s → record_bytes r ++ c ≡ record_bytes s ++ d → (r ≡ s) × (c ≡ d)
record-unique r s c d v w e =
    let kinds : r.kind ≡ s.kind = same_kind r.kind s.kind cc in
    let bodies : r.body ++ c ≡ s.body ++ d = cc in
    let h = same-front r.body s.body c d (v ∙ ap body_length kinds ∙ sym w) bodies in
    (ap (λ (k : Kind). record_of k r.body) kinds ∙ ap (record_of s.kind) h.0, h.1)

-- A record whose body is cut isn't whole.
pub cut-whole : (kind : Kind) (rest : List ℕ) (r : Record) (more : List ℕ) → length rest < body_length kind → IsWhole r → kind_byte kind ∷ rest ≡ record_bytes r ++ more → ⊥
cut-whole kind rest r more short w e =
    let kinds : kind ≡ r.kind = same_kind kind r.kind cc in
    let rests : rest ≡ r.body ++ more = cc in
    let long : body_length kind ≡ body_length r.kind = ap body_length kinds in
    omega (arith, short, w, long, ap length rests, length-append r.body more)

-- No bytes are no record.
pub no_record : {A : Type 0} (r : Record) (c : List ℕ) → [] ≡ record_bytes r ++ c → A
no_record r c e = absurd (omega (arith, ap length e))

-- ---- the places of the rules

-- Every number of a rule is one of a fault of bytes, and its place is not before that of the record.
pub record NotBefore (place : ℕ) (t : Test) : Type 0 where
  pub there : place ≤ t.place
  pub numbered : wrong_kind_fault ≤ t.number
  pub few : t.number ≤ too_many_products_fault

module _ (rules : Rules) (before : List Record) where
  kind-place : (place : ℕ) (head : RecordHead) (t : Test) → Mem t (kind_faults rules before place head) → NotBefore place t
  kind-place place head t (inl e) = rw e (record { there = omega arith; numbered = omega arith; few = omega arith })
  kind-place place head t (inr (inl e)) = rw e (record { there = omega arith; numbered = omega arith; few = omega arith })
  kind-place place head t (inr (inr (inl e))) = rw e (record { there = omega arith; numbered = omega arith; few = omega arith })
  kind-place place head t (inr (inr (inr e))) = absurd e

  pub body-place : (place : ℕ) (kind : Kind) (body : List ℕ) (t : Test) → Mem t (body_faults rules before place kind body) → NotBefore place t
  body-place place Variables body t (inl e) = rw e (record { there = omega arith; numbered = omega arith; few = omega arith })
  body-place place Variables body t (inr e) = absurd e
  body-place place Product body t e = absurd e
  body-place place Factor body t (inl e) = rw e (record { there = omega arith; numbered = omega arith; few = omega arith })
  body-place place Factor body t (inr (inl e)) = rw e (record { there = omega arith; numbered = omega arith; few = omega arith })
  body-place place Factor body t (inr (inr e)) = absurd e
  body-place place End body t (inl e) = rw e (record { there = omega arith; numbered = omega arith; few = omega arith })
  body-place place End body t (inr e) = absurd e
  body-place place On body t e = absurd e
  body-place place Free body t e = absurd e

  pub rest-place : (place : ℕ) (head : RecordHead) (rest : List ℕ) (t : Test) → Mem t (body_or_missing rules before place head rest) → NotBefore (place + 1) t
  rest-place place (Err fault) rest t m = absurd m
  rest-place place (Ok (kind, l)) rest t m = go (leb l (length rest)) m
    where
      go : (b : Bool) → Mem t (cond b (body_faults rules before (place + 1) kind (take l rest)) (missing_faults place rest)) → NotBefore (place + 1) t
      go true m = body-place (place + 1) kind (take l rest) t m
      go false (inl e) = rw e (record { there = omega arith; numbered = omega arith; few = omega arith })
      go false (inr e) = absurd e

  pub fault-place : (rest : List ℕ) (t : Test) → Mem t (faults_after rules before rest) → NotBefore (place_after before) t
  fault-place [] t (inl e) = rw e (record { there = omega arith; numbered = omega arith; few = omega arith })
  fault-place [] t (inr e) = absurd e
  fault-place (byte ∷ rest) t m =
      let head = head_of byte (place_after before) in
      elim (append-mem (kind_faults rules before (place_after before) head) (body_or_missing rules before (place_after before) head rest) t m) [
        | inl k ↦ kind-place (place_after before) head t k
        | inr k ↦ let h = rest-place (place_after before) head rest t k in record { there = omega (arith, h.there); numbered = h.numbered; few = h.few }
      ]
