-- What is claimed of the refusals 20 to 27 holds of any call that says what a walk by the rules found (`tells`). Read next: FaultCalls.
use mathlib.Core.Path.{◌≡◌, refl, sym, ap, ◌∙◌, subst}
use mathlib.Core.Bool.{Bool, true, false}
use mathlib.Core.Logic.{inl, inr, ◌⊎◌, ◌≢◌, ◌↔◌}
use mathlib.Core.List.{List, [], ◌∷◌, ◌++◌, append_assoc}
use Prim.Native.Nat.{ℕ, ◌≤◌, ◌<◌}
use native.Mathlib.Decide.{ℕ_discrete, dec_lt}
use native.Mathlib.Omega.{arith}
use lib.ListN.{length, take, drop, length-append, take-append-drop}
use lib.Seq.{take-append_seam}
use Rattle.gf2.specs.Finite.{Mem}
use Rattle.gf2.proofs.Logic.{clash}
use Rattle.table.specs.Refusal.{Fault}
use Rattle.table.specs.Refusal.{has_place, fault_at, bytes_missing_fault, bytes_after_fault}
use Rattle.records.specs.Kinds.{Bytes}
use Rattle.records.specs.Walks.{fault_number, fault_place, fault_found, is_fault}
use Rattle.records.specs.Faults.{records_bytes, Rules, fault_end}
use Rattle.records.proofs.Numbers.{is-fault}
use Rattle.records.proofs.Places.{fault-place}
use Rattle.records.proofs.Ruling.{walk_rules, rank}
use Rattle.records.proofs.Paths.{FirstAt, Found, broken, missing, laid}
use Rattle.cubes.proofs.Lists.{mem-append}
use Rattle.claims.specs.Faults.{FaultOf, FirstFault, Begun, Tells}
use Rattle.table.specs.declared.BytesFault.TheVariants.{WrongKind, Missing, WrongVariables, WrongFactor, NotCanonical, WrongCount, After, TooMany}
use Rattle.records.specs.Walks.{Walk}
use Rattle.std.specs.Prelude.{Ok, Err}

-- Every fault of a walk has a number with a place.
fault-has-place : (w : Walk) → is_fault w ≡ true → has_place (fault_number w) ≡ true
unfolding has_place
fault-has-place (Ok count) e = clash e refl
fault-has-place (Err (WrongKind place)) e = refl
fault-has-place (Err (Missing place)) e = refl
fault-has-place (Err (WrongVariables place)) e = refl
fault-has-place (Err (WrongFactor place)) e = refl
fault-has-place (Err (NotCanonical place)) e = refl
fault-has-place (Err (WrongCount place)) e = refl
fault-has-place (Err (After place)) e = refl
fault-has-place (Err (TooMany place)) e = refl

-- The order by rank, in its two parts.
by_rank : (number place number₁ place₁ : ℕ) → number₁ ≤ 27 → rank number place ≤ rank number₁ place₁ → (place < place₁) ⊎ ((place ≡ place₁) × (number ≤ number₁))
by_rank number place number₁ place₁ few h = go (dec_lt place place₁) (ℕ_discrete place place₁)
  where
    go : Dec (place < place₁) → Dec (place ≡ place₁) → (place < place₁) ⊎ ((place ≡ place₁) × (number ≤ number₁))
    go (yes l) d = inl l
    go (no l) (yes e) = inr (e, omega arith)
    go (no l) (no n) = absurd (omega arith)

-- ---- any call that says what a walk by the rules found

module _ (rules : Rules) (Encodes : List ℕ → Type 0) (walk : List ℕ → Walk) (goes : (bytes : List ℕ) → walk bytes ≡ walk_rules rules 0 [] 0 bytes)
    (found : (bytes : List ℕ) → Found rules [] bytes (walk bytes)) (encodes : (bytes : List ℕ) → (Bytes bytes × (is_fault (walk bytes) ≡ false)) ↔ Encodes bytes)
    (call : List ℕ → Fault) (told : (bytes : List ℕ) → is_fault (walk bytes) ≡ true → call bytes ≡ fault_found (walk bytes))
    (others : (bytes : List ℕ) → is_fault (walk bytes) ≡ false → (has_place (call bytes).number ≡ false) × ((call bytes).place ≡ 0)) where
  -- The number has a place exactly where the walk met a fault.
  met : (bytes : List ℕ) → has_place (call bytes).number ≡ true → is_fault (walk bytes) ≡ true
  met bytes h = go (is_fault (walk bytes)) refl
    where
      go : (t : Bool) → is_fault (walk bytes) ≡ t → t ≡ true
      go true e = refl
      go false e = clash h (others bytes e).0

  placed : (bytes : List ℕ) → is_fault (walk bytes) ≡ true → has_place (call bytes).number ≡ true
  placed bytes e = ap (λ (f : Fault). has_place f.number) (told bytes e) ∙ fault-has-place (walk bytes) e

  not-met : (bytes : List ℕ) → has_place (call bytes).number ≡ false → is_fault (walk bytes) ≡ false
  not-met bytes h = go (is_fault (walk bytes)) refl
    where
      go : (t : Bool) → is_fault (walk bytes) ≡ t → t ≡ false
      go false e = refl
      go true e = clash (placed bytes e) h

  -- ---- the first fault

  abbrev as-fault : {bytes : List ℕ} {number place : ℕ} → FirstAt rules [] bytes number place → FaultOf rules bytes number place
  as-fault f = record { before = f.lead; rest = f.rest; whole = f.whole; split = f.split; broken = f.broken }

  as_first : {bytes : List ℕ} {number place : ℕ} → FirstAt rules [] bytes number place → FirstFault rules bytes number place
  as_first {number = number} {place} f = record {
    fault = as-fault f;
    first = λ n p o.
        let t = o.broken.found in
        let few = (fault-place rules o.before o.rest t o.broken.listed).few in
        let h = f.least o.before o.rest o.whole o.split t o.broken.listed o.broken.applies in
        by_rank number place n p (subst (λ (k : ℕ). k ≤ 27) o.broken.numbered few)
        (omega (arith, h, o.broken.numbered, o.broken.placed));
  }

  -- What the walk found is the first fault, or there is none.
  first_found : (bytes : List ℕ) → is_fault (walk bytes) ≡ true → FirstAt rules [] bytes (fault_number (walk bytes)) (fault_place (walk bytes))
  unfolding records_bytes
  first_found bytes e = go (found bytes)
    where
      go : Found rules [] bytes (walk bytes) → FirstAt rules [] bytes (fault_number (walk bytes)) (fault_place (walk bytes))
      go (broken front more q all end known some inside f) = f
      go (missing q f) = subst (λ (w : Walk). FirstAt rules [] bytes (fault_number w) (fault_place w)) (sym q) f
      go (laid count q none after) = clash e (ap is_fault q)

  none_found : (bytes : List ℕ) → is_fault (walk bytes) ≡ false → (number place : ℕ) → FaultOf rules bytes number place → ⊥
  none_found bytes e number place o = go (found bytes)
    where
      go : Found rules [] bytes (walk bytes) → ⊥
      go (broken front more q all end known some inside f) = clash (is-fault (walk bytes) some) e
      go (missing q f) = clash (ap is_fault q) e
      go (laid count q none after) = none o.before o.rest o.whole o.split o.broken.found o.broken.listed o.broken.applies

  first-same : (bytes : List ℕ) (number place : ℕ) → is_fault (walk bytes) ≡ true → FirstFault rules bytes number place → fault_found (walk bytes) ≡ fault_at number place
  first-same bytes number place e f =
      let mine = as_first (first_found bytes e) in
      let a = mine.first number place f.fault in
      let b = f.first (fault_number (walk bytes)) (fault_place (walk bytes)) mine.fault in
      let same_place : fault_place (walk bytes) ≡ place = elim a [ inl l ↦ elim b [ inl k ↦ absurd (omega arith) | inr k ↦ sym k.0 ] | inr l ↦ l.0 ] in
      let same_number : fault_number (walk bytes) ≡ number =
      elim a [
        | inl l ↦ absurd (omega (arith, same_place))
        | inr l ↦ elim b [ inl k ↦ absurd (omega (arith, same_place)) | inr k ↦ omega (arith, l.1, k.1) ]
      ] in
      cc (same_place, same_number)

  exactly : (bytes : List ℕ) (number place : ℕ) → ((has_place number ≡ true) × (call bytes ≡ fault_at number place)) ↔ FirstFault rules bytes number place
  exactly bytes number place = (
    λ h.
        let e = met bytes (ap (λ (f : Fault). has_place f.number) h.1 ∙ h.0) in
        let same : fault_found (walk bytes) ≡ fault_at number place = sym (told bytes e) ∙ h.1 in
        subst (λ (f : Fault). FirstFault rules bytes f.number f.place) same (as_first (first_found bytes e)),
    λ f. go f (is_fault (walk bytes)) refl,
  )
    where
      go : FirstFault rules bytes number place → (t : Bool) → is_fault (walk bytes) ≡ t → (has_place number ≡ true) × (call bytes ≡ fault_at number place)
      go f false e = absurd (none_found bytes e number place f.fault)
      go f true e =
          let same = first-same bytes number place e f in
          (sym (ap (λ (x : Fault). has_place x.number) same) ∙ fault-has-place (walk bytes) e, told bytes e ∙ same)

  -- ---- where it stands

  -- A fault that the bytes up to its end decide stands before their end; missing bytes stand at it.
  record Standing (bytes : List ℕ) : Type 0 where
    inside : fault_place (walk bytes) ≤ length bytes
    at : (fault_place (walk bytes) ≡ length bytes) ↔ (fault_number (walk bytes) ≡ bytes_missing_fault)

  standing : (bytes : List ℕ) → is_fault (walk bytes) ≡ true → Standing bytes
  unfolding records_bytes
  standing bytes e = go (found bytes)
    where
      go : Found rules [] bytes (walk bytes) → Standing bytes
      go (broken front more q all end known some inside f) =
          let before : fault_place (walk bytes) < length bytes = omega (arith, inside, ap length q, length-append front more) in
          record { inside = omega (arith, before); at = (λ z. absurd (omega (arith, before)), λ z. absurd (known z)) }
      go (missing q f) =
          let place : fault_place (walk bytes) ≡ length bytes = ap fault_place q ∙ omega arith in
          record { inside = omega (arith, place); at = ((λ z. ap fault_number q), λ z. place) }
      go (laid count q none after) = clash e (ap is_fault q)

  -- ---- what stands before it, and what after it

  front_bytes : (front rest bytes : List ℕ) → bytes ≡ front ++ rest → Bytes bytes → Bytes front
  front_bytes front rest bytes e b x m = b x (subst (Mem x) (sym e) (mem-append front rest x (inl m)))

  both_bytes : (front more : List ℕ) → Bytes front → Bytes more → Bytes (front ++ more)
  both_bytes [] more a b x m = b x m
  both_bytes (y ∷ front) more a b x (inl q) = a x (inl q)
  both_bytes (y ∷ front) more a b x (inr m) = both_bytes front more (λ z i. a z (inr i)) b x m

  begun : (bytes : List ℕ) → Bytes bytes → is_fault (walk bytes) ≡ true → Begun rules Encodes bytes (fault_found (walk bytes))
  unfolding records_bytes
  begun bytes b e = go (first_found bytes e)
    where
      go : FirstAt rules [] bytes (fault_number (walk bytes)) (fault_place (walk bytes)) → Begun rules Encodes bytes (fault_found (walk bytes))
      go f = record {
        known = as-fault f;
        begins = elim f.begins [
          | inl h ↦
              let input = records_bytes f.lead ++ h.0 in
              inl (h.0, (encodes input).0 (both_bytes (records_bytes f.lead) h.0 (front_bytes (records_bytes f.lead) f.rest bytes f.split b) h.1, ap is_fault (goes input ∙ h.3)))
          | inr l ↦ inr l
        ];
      }

  decided : (bytes other : List ℕ) → is_fault (walk bytes) ≡ true → fault_number (walk bytes) ≢ bytes_missing_fault
      → take (fault_end (fault_number (walk bytes)) (fault_place (walk bytes))) other ≡ take (fault_end (fault_number (walk bytes)) (fault_place (walk bytes))) bytes → walk other ≡ walk bytes
  unfolding records_bytes
  decided bytes other e n same = go (found bytes)
    where
      go : Found rules [] bytes (walk bytes) → walk other ≡ walk bytes
      go (broken front more q all end known some inside f) =
          let long : fault_end (fault_number (walk bytes)) (fault_place (walk bytes)) ≡ length front = end ∙ omega arith in
          let fronts : take (length front) other ≡ front =
          ap (λ (k : ℕ). take k other) (sym long) ∙ same ∙ ap (λ (k : ℕ). take k bytes) long ∙ ap (take (length front)) q ∙ take-append_seam front more in
          let split : other ≡ front ++ drop (length front) other = sym (take-append-drop (length front) other) ∙ ap (λ (l : List ℕ). l ++ drop (length front) other) fronts in
          ap walk split ∙ goes (front ++ drop (length front) other) ∙ all (drop (length front) other)
      go (missing q f) = absurd (n (ap fault_number q))
      go (laid count q none after) = clash e (ap is_fault q)

  -- ---- encodings that are cut or have bytes after them

  longer-walk : (bytes : List ℕ) → is_fault (walk bytes) ≡ false → (byte : ℕ) (more : List ℕ) → walk (bytes ++ (byte ∷ more)) ≡ Err (After (length bytes))
  unfolding records_bytes
  longer-walk bytes e byte more = go (found bytes)
    where
      go : Found rules [] bytes (walk bytes) → walk (bytes ++ (byte ∷ more)) ≡ Err (After (length bytes))
      go (broken front rest q all end known some inside f) = clash (is-fault (walk bytes) some) e
      go (missing q f) = clash (ap is_fault q) e
      go (laid count q none after) = goes (bytes ++ (byte ∷ more)) ∙ after byte more ∙ ap (λ (p : ℕ). Err (After p)) (omega arith)

  shorter-walk : (front : List ℕ) (byte : ℕ) (more : List ℕ) → is_fault (walk (front ++ (byte ∷ more))) ≡ false → walk front ≡ Err (Missing (length front))
  unfolding records_bytes
  shorter-walk front byte more e = go (found front)
    where
      bytes : List ℕ
      bytes = front ++ (byte ∷ more)

      go : Found rules [] front (walk front) → walk front ≡ Err (Missing (length front))
      go (broken part rest q all end known some inside f) =
          let same : walk bytes ≡ walk front =
          ap (λ (l : List ℕ). walk (l ++ (byte ∷ more))) q ∙ ap walk (append_assoc part rest (byte ∷ more)) ∙ goes (part ++ (rest ++ (byte ∷ more))) ∙ all (rest ++ (byte ∷ more)) in
          clash (ap is_fault same ∙ is-fault (walk front) some) e
      go (missing q f) = q ∙ ap (λ (p : ℕ). Err (Missing p)) (omega arith)
      go (laid count q none after) = clash (ap is_fault (longer-walk front (ap is_fault q) byte more)) e

  extended : (bytes : List ℕ) (byte : ℕ) (more : List ℕ) → Encodes bytes → call (bytes ++ (byte ∷ more)) ≡ fault_at bytes_after_fault (length bytes)
  extended bytes byte more o =
      let w = longer-walk bytes ((encodes bytes).1 o).1 byte more in
      told (bytes ++ (byte ∷ more)) (ap is_fault w) ∙ ap fault_found w

  cut : (front : List ℕ) (byte : ℕ) (more : List ℕ) → Encodes (front ++ (byte ∷ more)) → call front ≡ fault_at bytes_missing_fault (length front)
  cut front byte more o =
      let w = shorter-walk front byte more ((encodes (front ++ (byte ∷ more))).1 o).1 in
      told front (ap is_fault w) ∙ ap fault_found w

  -- ---- all of it

  pub tells : Tells rules Encodes call
  tells = record {
    refused = λ bytes b. (
      (λ h o. clash (met bytes h) ((encodes bytes).1 o).1),
      λ n. placed bytes (go (is_fault (walk bytes)) (λ e. n ((encodes bytes).0 (b, e)))),
    );
    accepted = λ bytes b. ((λ h. (encodes bytes).0 (b, not-met bytes h)), λ o. (others bytes ((encodes bytes).1 o).1).0);
    cut = cut;
    extended = extended;
    exactly = exactly;
    without = λ bytes h. let e = not-met bytes h in ((others bytes e).1, none_found bytes e);
    inside = λ bytes. within bytes (is_fault (walk bytes)) refl;
    at_length = λ bytes h.
        let e = met bytes h in
        subst (λ (f : Fault). (f.place ≡ length bytes) ↔ (f.number ≡ bytes_missing_fault)) (sym (told bytes e)) (standing bytes e).at;
    begun = λ bytes b h. let e = met bytes h in subst (Begun rules Encodes bytes) (sym (told bytes e)) (begun bytes b e);
    decided = λ bytes other h n same.
        let e = met bytes h in
        let t = told bytes e in
        let w = decided bytes other e (λ z. n (ap (λ (f : Fault). f.number) t ∙ z))
        (subst (λ (f : Fault). take (fault_end f.number f.place) other ≡ take (fault_end f.number f.place) bytes) t same) in
        told other (ap is_fault w ∙ e) ∙ ap fault_found w ∙ sym t;
  }
    where
      go : (t : Bool) → (t ≡ false → ⊥) → t ≡ true
      go true n = refl
      go false n = absurd (n refl)

      within : (bytes : List ℕ) (t : Bool) → is_fault (walk bytes) ≡ t → (call bytes).place ≤ length bytes
      within bytes true e = subst (λ (f : Fault). f.place ≤ length bytes) (sym (told bytes e)) (standing bytes e).inside
      within bytes false e = omega (arith, (others bytes e).1)
