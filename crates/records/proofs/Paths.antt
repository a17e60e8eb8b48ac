-- What a walk by the rules finds: it passes whole records that break no rule, and then ends. The fault that it reports is one by the rules, no fault stands
-- further left, and of those at its place none has a smaller number; what stands after the record at fault doesn't matter; and the records before it begin
-- some input without a fault. `ruled` says all of it.
use mathlib.Core.Path.{◌≡◌, refl, sym, ap, ◌∙◌, subst}
use mathlib.Core.Bool.{Bool, true, false, not, ◌&&◌}
use mathlib.Core.Logic.{inl, inr, ◌≢◌, ◌⊎◌}
use mathlib.Core.List.{List, [], ◌∷◌, ◌++◌, map, append_assoc, append-nil}
use Prim.Native.Nat.{ℕ, zero, suc, ◌+◌, ◌≤◌, ◌<◌}
use native.Mathlib.Nat.{le_of_suc-le-suc, not-suc-le-zero, le_refl}
use native.Mathlib.Omega.{arith}
use lib.Dec.{leb}
use lib.ListN.{length, take, drop, length-append, length-drop, take-append-drop}
use lib.Seq.{take_at, drop_at, length-take-le}
use borrow.Author.Tests.{eq-eqb, le-leb, lt-leb, leb-true, leb-false}
use Rattle.gf2.specs.Finite.{Mem}
use Rattle.gf2.proofs.Logic.{clash}
use Rattle.gf2.proofs.Finite.{mem-map, map-mem, append-mem}
use Rattle.table.specs.Refusal.{Test, test_at, bytes_missing_fault, bytes_after_fault}
use Rattle.records.specs.declared.Kind.{Kind}
use Rattle.records.specs.declared.Kind.TheVariants.{Variables, Product, Factor, End, On, Free}
use Rattle.records.specs.Kinds.{kind_byte, body_length, known, head_of, Bytes, encode_end}
use Rattle.records.specs.Walks.{after_end, walk_by, bytes_missing, fault_number, fault_place}
use Rattle.records.specs.Faults.{Record, record_of, IsWhole, AllWhole, record_bytes, records_bytes, place_after, is_end, ended, Rules, counted_in, is_closed, kind_faults, body_faults, missing_faults, body_or_missing, faults_after, Applies, fault_end}
use Rattle.records.proofs.KindBytes.{head_byte, head-cases, word-of-bytes}
use Rattle.records.proofs.Walking.{pass}
use Rattle.records.proofs.Places.{cut-whole, place-snoc, place-longer, ended-snoc, record-unique, no_record, rest-place, fault-place}
use Rattle.records.proofs.Ruling.{Flag, test_of, first_stop, kind_flags, body_flags, passed_step, rule_step, pushed, walk_rules, rank, walk_rank, Told, stops, passes, told, kind-ranked, body-ranked}
use Rattle.table.specs.declared.BytesFault.{BytesFault}
use Rattle.table.specs.declared.BytesFault.TheVariants.{WrongKind, Missing, WrongVariables, WrongFactor, NotCanonical, WrongCount, After, TooMany}
use Rattle.records.specs.Kinds.{RecordHead}
use Rattle.records.specs.Walks.{Walk, Step}
use Rattle.std.specs.Prelude.{Ok, Err}
use Rattle.std.specs.declared.ops.ControlFlow.TheVariants.{Continue, Break}

-- No number of a fault is above 27.
number-few : (w : Walk) → fault_number w ≤ 27
number-few (Ok count) = omega arith
number-few (Err (WrongKind place)) = omega arith
number-few (Err (Missing place)) = omega arith
number-few (Err (WrongVariables place)) = omega arith
number-few (Err (WrongFactor place)) = omega arith
number-few (Err (NotCanonical place)) = omega arith
number-few (Err (WrongCount place)) = omega arith
number-few (Err (After place)) = omega arith
number-few (Err (TooMany place)) = omega arith

module _ (rules : Rules) where
  -- The walk from the place after some records on.
  abbrev pub walk_after : List Record → List ℕ → Walk
  walk_after before left = walk_rules rules 0 before (place_after before) left

  -- The bytes of these records begin some bytes that the walk, with the records before them behind it, finds without a fault; or they end right where the
  -- longest input does, without an end record.
  abbrev pub Begins : List Record → List Record → Type 0
  Begins before lead =
      ((more : List ℕ) × Bytes more × (count : ℕ) × (walk_after before (records_bytes lead ++ more) ≡ Ok count)) ⊎ ((ended (before ++ lead) ≡ false) × (rules.is_longest (place_after (before ++ lead)) ≡ true))

  -- Of all faults of the bytes that are left, this one comes first.
  pub record FirstAt (before : List Record) (left : List ℕ) (number place : ℕ) : Type 0 where
    pub lead : List Record
    pub rest : List ℕ
    pub whole : AllWhole lead
    pub split : left ≡ records_bytes lead ++ rest
    pub broken : Applies (faults_after rules (before ++ lead) rest) number place
    pub begins : Begins before lead
    pub least : (others : List Record) (more : List ℕ) → AllWhole others → left ≡ records_bytes others ++ more → (t : Test) → Mem t (faults_after rules (before ++ others) more)
        → t.applies ≡ true → rank number place ≤ rank t.number t.place

  -- They have none.
  abbrev pub NoFault : List Record → List ℕ → Type 0
  NoFault before left = (others : List Record) (more : List ℕ) → AllWhole others → left ≡ records_bytes others ++ more → (t : Test) → Mem t (faults_after rules (before ++ others) more)
      → t.applies ≡ true → ⊥

  -- What the walk finds: a fault that the bytes up to its end decide, bytes that are missing, or what was asked for, after which any byte is one too many.
  pub data Found (before : List Record) (left : List ℕ) (w : Walk) : Type 0 where
    broken : (front more : List ℕ) → left ≡ front ++ more → ((y : List ℕ) → walk_after before (front ++ y) ≡ w)
        → fault_end (fault_number w) (fault_place w) ≡ place_after before + length front → fault_number w ≢ bytes_missing_fault → fault_number w ≢ 0
        → fault_place w < place_after before + length front → FirstAt before left (fault_number w) (fault_place w) → Found before left w
    missing : w ≡ Err (Missing (place_after before + length left)) → FirstAt before left bytes_missing_fault (place_after before + length left) → Found before left w
    laid : (count : ℕ) → w ≡ Ok count → NoFault before left → ((byte : ℕ) (more : List ℕ) → walk_after before (left ++ (byte ∷ more)) ≡ Err (After (place_after before + length left)))
        → Found before left w

  -- The end record, where it may stand, with the number of the records that it counts.
  pub end-laid : (before : List Record) → ended before ≡ false → rules.is_longest (place_after before) ≡ false → rules.admits before End ≡ true → rules.is_surplus before End ≡ false
      → walk_after before (encode_end (counted_in rules before)) ≡ Ok (counted_in rules before)
  unfolding walk_by first_stop
  end-laid before e l a s =
      rw (head_byte End (place_after before), e, l, a, s, eq-eqb _ (counted_in rules before) (word-of-bytes (counted_in rules before)))

  -- ---- a whole record

  module _ (before : List Record) (r : Record) (whole : IsWhole r) where
    abbrev place : ℕ
    place = place_after before

    -- The flags of its kind, and those of its body.
    abbrev at_kind : List Flag
    at_kind = kind_flags rules before place (known r.kind)

    abbrev at_body : List Flag
    at_body = body_flags rules before (place + 1) r.kind r.body

    there : (y : List ℕ) → leb (body_length r.kind) (length (r.body ++ y)) ≡ true
    there y = le-leb (body_length r.kind) (length (r.body ++ y)) (omega (arith, length-append r.body y, whole))

    step-record : (y : List ℕ)
        → rule_step rules before (kind_byte r.kind) place (r.body ++ y) ≡ first_stop at_kind (first_stop at_body (passed_step rules before place r.kind y))
    step-record y =
        rw (head_byte r.kind place, there y, take_at r.body y (body_length r.kind) whole, drop_at r.body y (body_length r.kind) whole)

    body-tests : (kind : Kind) (body : List ℕ) → body_faults rules before (place + 1) kind body ≡ map test_of (body_flags rules before (place + 1) kind body)
    body-tests Variables body = refl
    body-tests Product body = refl
    body-tests Factor body = refl
    body-tests End body = refl
    body-tests On body = refl
    body-tests Free body = refl

    tests-record : (y : List ℕ) → faults_after rules before (record_bytes r ++ y) ≡ map test_of at_kind ++ map test_of at_body
    tests-record y =
        rw (head_byte r.kind place, there y, take_at r.body y (body_length r.kind) whole, body-tests r.kind r.body)

    -- Where no flag applies, no test does.
    none-record : ((f : Flag) → Mem f at_kind → f.applies ≡ false) → ((f : Flag) → Mem f at_body → f.applies ≡ false) → (y : List ℕ)
        → (t : Test) → Mem t (faults_after rules before (record_bytes r ++ y)) → t.applies ≡ true → ⊥
    none-record k b y t m a =
        elim (append-mem (map test_of at_kind) (map test_of at_body) t (subst (Mem t) (tests-record y) m)) [
          | inl i ↦ let h = map-mem test_of at_kind t i in clash a (ap (λ (u : Test). u.applies) h.2 ∙ k h.0 h.1)
          | inr i ↦ let h = map-mem test_of at_body t i in clash a (ap (λ (u : Test). u.applies) h.2 ∙ b h.0 h.1)
        ]

    -- It is passed, and lies behind.
    walk-record : ((s : Step) → first_stop at_kind s ≡ s) → ((s : Step) → first_stop at_body s ≡ s) → is_end r.kind ≡ false → (y : List ℕ)
        → walk_after before (record_bytes r ++ y) ≡ walk_after (before ++ (r ∷ [])) y
    unfolding walk_by
    walk-record k b e y =
        let l = body_length r.kind in
        let step : rule_step rules before (kind_byte r.kind) place (r.body ++ y) ≡ Continue l = step-record y ∙ k _ ∙ b _ ∙ rw e in
        let behind : pushed before (kind_byte r.kind) (r.body ++ y) ≡ before ++ (r ∷ []) =
        rw (head_byte r.kind 0, take_at r.body y l whole) in
        let long : l ≤ length (r.body ++ y) = omega (arith, length-append r.body y, whole) in
        let next : place_after before + 1 + l ≡ place_after (before ++ (r ∷ [])) = omega (arith, place-snoc before r, whole) in
        rw (step, behind)
        (pass (rule_step rules) pushed bytes_missing l (before ++ (r ∷ [])) (place + 1) (r.body ++ y) long
        ∙ rw (drop_at r.body y l whole, next))

  -- ---- the walk at one place

  -- A fault right after the records behind, and the bytes from there on: it comes first if no rule there gives an earlier one, and the records after one that
  -- stands there are too far right.
  first-here : (before : List Record) (left : List ℕ) (number place : ℕ) → number ≤ 27 → Begins before []
      → Applies (faults_after rules before left) number place
      → ((t : Test) → Mem t (faults_after rules before left) → t.applies ≡ true → rank number place ≤ rank t.number t.place)
      → ((r : Record) (more : List ℕ) → IsWhole r → left ≡ record_bytes r ++ more → place < place_after before + (1 + length r.body))
      → FirstAt before left number place
  unfolding records_bytes
  first-here before left number place few begins given least later = record {
    lead = [];
    rest = left;
    whole = λ r m. absurd m;
    split = refl;
    broken = subst (λ (b : List Record). Applies (faults_after rules b left) number place) (sym (append-nil before)) given;
    begins = begins;
    least = others;
  }
    where
      others : (others : List Record) (more : List ℕ) → AllWhole others → left ≡ records_bytes others ++ more → (t : Test) → Mem t (faults_after rules (before ++ others) more)
          → t.applies ≡ true → rank number place ≤ rank t.number t.place
      others [] more w e t m a = least t (subst (Mem t) (ap (λ (b : List Record). faults_after rules b more) (append-nil before) ∙ ap (faults_after rules before) (sym e)) m) a
      others (r ∷ rs) more w e t m a =
          let near = later r (records_bytes rs ++ more) (w r (inl refl)) (e ∙ append_assoc (record_bytes r) (records_bytes rs) more) in
          let far = fault-place rules (before ++ (r ∷ rs)) more t m in
          omega (arith, near, far.there, far.numbered, place-longer before r rs)

  -- The first tests of a list are tests of it, and so are the others.
  mem-left : (ts us : List Test) (t : Test) → Mem t ts → Mem t (ts ++ us)
  mem-left [] us t h = elim h [ ]
  mem-left (u ∷ ts) us t (inl e) = inl e
  mem-left (u ∷ ts) us t (inr m) = inr (mem-left ts us t m)

  mem-right : (ts us : List Test) (t : Test) → Mem t us → Mem t (ts ++ us)
  mem-right [] us t m = m
  mem-right (u ∷ ts) us t m = inr (mem-right ts us t m)

  module _ (before : List Record) (awaits : ended before ≡ false) (begins : Begins before []) where
    abbrev here : ℕ
    here = place_after before

    -- No byte is left.
    found_none : Found before [] (walk_after before [])
    unfolding walk_by
    found_none =
        let same : here ≡ here + 0 = omega arith in
        let given : Applies (faults_after rules before []) bytes_missing_fault (here + 0) =
        record { found = test_at bytes_missing_fault here (not (ended before)); listed = inl refl; applies = rw awaits refl; numbered = refl; placed = same } in
        missing (ap (λ (p : ℕ). Err (Missing p)) same)
        (first-here before [] bytes_missing_fault (here + 0) (omega arith) begins given
        (λ t m a. elim m [ inl e ↦ rw e (omega arith) | inr e ↦ absurd e ])
        (λ r more w e. no_record r more e))

    -- ---- a fault at the byte of a kind

    module _ (byte : ℕ) where
      abbrev head : RecordHead
      head = head_of byte here

      kind-facts : (f : Flag) → Mem f (kind_flags rules before here head)
          → (fault_place f.walk ≡ here) × (fault_end (fault_number f.walk) (fault_place f.walk) ≡ here + 1) × (fault_number f.walk ≢ bytes_missing_fault) × (fault_number f.walk ≢ 0)
      kind-facts f (inl e) = rw e (refl, refl, (λ z. omega arith), (λ z. omega arith))
      kind-facts f (inr (inl e)) = rw e (refl, refl, (λ z. omega arith), (λ z. omega arith))
      kind-facts f (inr (inr (inl e))) = rw e (refl, refl, (λ z. omega arith), (λ z. omega arith))
      kind-facts f (inr (inr (inr e))) = absurd e

      found-kind : (rest : List ℕ) (f : Flag) → Mem f (kind_flags rules before here head) → f.applies ≡ true
          → ((s : Step) → first_stop (kind_flags rules before here head) s ≡ Break f.walk)
          → ((g : Flag) → Mem g (kind_flags rules before here head) → g.applies ≡ true → walk_rank f.walk ≤ walk_rank g.walk)
          → Found before (byte ∷ rest) (walk_after before (byte ∷ rest))
      unfolding walk_by
      found-kind rest f m a s l =
          let facts = kind-facts f m in
          let w = f.walk in
          let few = number-few w in
          let ts = kind_faults rules before here head in
          let us = body_or_missing rules before here head rest in
          let given : Applies (faults_after rules before (byte ∷ rest)) (fault_number w) (fault_place w) =
          record { found = test_of f; listed = mem-left ts us (test_of f) (mem-map test_of (kind_flags rules before here head) f m); applies = a; numbered = refl; placed = refl } in
          let least : (t : Test) → Mem t (ts ++ us) → t.applies ≡ true → walk_rank w ≤ rank t.number t.place =
          λ t k b. elim (append-mem ts us t k) [
            | inl i ↦ let g = map-mem test_of (kind_flags rules before here head) t i in subst (λ (u : Test). walk_rank w ≤ rank u.number u.place) (sym g.2) (l g.0 g.1 (sym (ap (λ (u : Test). u.applies) g.2) ∙ b))
            | inr i ↦ let h = rest-place rules before here head rest t i in omega (arith, few, facts.0, h.there, h.numbered)
          ] in
          rw (s _)
          (broken (byte ∷ []) rest refl (λ y. rw (s _) refl) facts.1 facts.2 facts.3 (omega (arith, facts.0))
          (first-here before (byte ∷ rest) (fault_number w) (fault_place w) few begins given least (λ r more v e. omega (arith, facts.0))))

    -- ---- a body that is cut

    found-cut : (kind : Kind) (rest : List ℕ) → length rest < body_length kind
        → ((g : Flag) → Mem g (kind_flags rules before here (known kind)) → g.applies ≡ false) → ((s : Step) → first_stop (kind_flags rules before here (known kind)) s ≡ s)
        → Found before (kind_byte kind ∷ rest) (walk_after before (kind_byte kind ∷ rest))
    unfolding walk_by
    found-cut kind rest short none s =
        let byte = kind_byte kind in
        let ends : here + 1 + length rest ≡ here + length (byte ∷ rest) = omega arith in
        let cut : leb (body_length kind) (length rest) ≡ false = lt-leb (body_length kind) (length rest) short in
        let ts = map test_of (kind_flags rules before here (known kind)) in
        let us = missing_faults here rest in
        let tests : faults_after rules before (byte ∷ rest) ≡ ts ++ us = rw (head_byte kind here, cut) in
        let given : Applies (ts ++ us) bytes_missing_fault (here + length (byte ∷ rest)) =
        record { found = test_at bytes_missing_fault (here + 1 + length rest) true; listed = mem-right ts us _ (inl refl); applies = refl; numbered = refl; placed = ends } in
        let least : (t : Test) → Mem t (ts ++ us) → t.applies ≡ true → rank bytes_missing_fault (here + length (byte ∷ rest)) ≤ rank t.number t.place =
        λ t m a. elim (append-mem ts us t m) [
          | inl i ↦ let g = map-mem test_of (kind_flags rules before here (known kind)) t i in clash a (ap (λ (u : Test). u.applies) g.2 ∙ none g.0 g.1)
          | inr (inl e) ↦ rw e (omega arith)
          | inr (inr e) ↦ absurd e
        ] in
        rw (head_byte kind here, s _, cut)
        (missing (ap (λ (p : ℕ). Err (Missing p)) ends)
        (first-here before (byte ∷ rest) bytes_missing_fault (here + length (byte ∷ rest)) (omega arith) begins
        (subst (λ (l : List Test). Applies l bytes_missing_fault (here + length (byte ∷ rest))) (sym tests) given)
        (λ t m a. least t (subst (Mem t) tests m) a)
        (λ r more v e. absurd (cut-whole kind rest r more short v e))))

    -- ---- a whole record whose kind breaks no rule

    module _ (r : Record) (v : IsWhole r) (none : (g : Flag) → Mem g (at_kind before r v) → g.applies ≡ false) (goes : (s : Step) → first_stop (at_kind before r v) s ≡ s) where
      -- Any whole record there is this one.
      same-record : (more : List ℕ) (s : Record) (rest : List ℕ) → IsWhole s → record_bytes r ++ more ≡ record_bytes s ++ rest → (r ≡ s) × (more ≡ rest)
      same-record more s rest w e = record-unique r s more rest v w e

      body-facts : (f : Flag) → Mem f (at_body before r v)
          → (fault_place f.walk ≡ here + 1) × (fault_end (fault_number f.walk) (fault_place f.walk) ≡ here + 1 + body_length r.kind) × (1 ≤ body_length r.kind)
          × (fault_number f.walk ≢ bytes_missing_fault) × (fault_number f.walk ≢ 0)
      body-facts f m = go r.kind m
        where
          go : (kind : Kind) → Mem f (body_flags rules before (here + 1) kind r.body)
              → (fault_place f.walk ≡ here + 1) × (fault_end (fault_number f.walk) (fault_place f.walk) ≡ here + 1 + body_length kind) × (1 ≤ body_length kind)
              × (fault_number f.walk ≢ bytes_missing_fault) × (fault_number f.walk ≢ 0)
          go Variables (inl e) = rw e (refl, refl, omega arith, (λ z. omega arith), (λ z. omega arith))
          go Variables (inr e) = absurd e
          go Product e = absurd e
          go Factor (inl e) = rw e (refl, refl, omega arith, (λ z. omega arith), (λ z. omega arith))
          go Factor (inr (inl e)) = rw e (refl, refl, omega arith, (λ z. omega arith), (λ z. omega arith))
          go Factor (inr (inr e)) = absurd e
          go End (inl e) = rw e (refl, refl, omega arith, (λ z. omega arith), (λ z. omega arith))
          go End (inr e) = absurd e
          go On e = absurd e
          go Free e = absurd e

      -- A fault in its body.
      found-body : (more : List ℕ) (f : Flag) → Mem f (at_body before r v) → f.applies ≡ true → ((s : Step) → first_stop (at_body before r v) s ≡ Break f.walk)
          → ((g : Flag) → Mem g (at_body before r v) → g.applies ≡ true → walk_rank f.walk ≤ walk_rank g.walk)
          → Found before (record_bytes r ++ more) (walk_after before (record_bytes r ++ more))
      unfolding walk_by
      found-body more f m a s l =
          let facts = body-facts f m in
          let w = f.walk in
          let ts = map test_of (at_kind before r v) in
          let us = map test_of (at_body before r v) in
          let tests = tests-record before r v more in
          let given : Applies (ts ++ us) (fault_number w) (fault_place w) =
          record { found = test_of f; listed = mem-right ts us (test_of f) (mem-map test_of (at_body before r v) f m); applies = a; numbered = refl; placed = refl } in
          let least : (t : Test) → Mem t (ts ++ us) → t.applies ≡ true → walk_rank w ≤ rank t.number t.place =
          λ t k b. elim (append-mem ts us t k) [
            | inl i ↦ let g = map-mem test_of (at_kind before r v) t i in clash b (ap (λ (u : Test). u.applies) g.2 ∙ none g.0 g.1)
            | inr i ↦ let g = map-mem test_of (at_body before r v) t i in subst (λ (u : Test). walk_rank w ≤ rank u.number u.place) (sym g.2) (l g.0 g.1 (sym (ap (λ (u : Test). u.applies) g.2) ∙ b))
          ] in
          let step : (y : List ℕ) → rule_step rules before (kind_byte r.kind) here (r.body ++ y) ≡ Break w = λ y. step-record before r v y ∙ goes _ ∙ s _ in
          let end : fault_end (fault_number w) (fault_place w) ≡ here + length (record_bytes r) = omega (arith, facts.1, v) in
          rw (step more)
          (broken (record_bytes r) more refl (λ y. rw (step y) refl) end facts.3 facts.4 (omega (arith, facts.0, facts.2, v))
          (first-here before (record_bytes r ++ more) (fault_number w) (fault_place w) (number-few w) begins
          (subst (λ (t : List Test). Applies t (fault_number w) (fault_place w)) (sym tests) given)
          (λ t k b. least t (subst (Mem t) tests k) b)
          (λ q rest u e. let h = same-record more q rest u e in omega (arith, facts.0, facts.2, v, ap (λ (x : Record). length x.body) h.0))))

      module _ (clear : (g : Flag) → Mem g (at_body before r v) → g.applies ≡ false) (on : (s : Step) → first_stop (at_body before r v) s ≡ s) where
        -- No rule is broken here.
        none_here : (more : List ℕ) (t : Test) → Mem t (faults_after rules before (record_bytes r ++ more)) → t.applies ≡ true → ⊥
        none_here more t m a = none-record before r v none clear more t m a

        -- ---- the end record

        module _ (last : is_end r.kind ≡ true) where
          closed : ended (before ++ (r ∷ [])) ≡ true
          closed = ended-snoc before r ∙ rw (awaits, last)

          ends : (y : List ℕ) → walk_after before (record_bytes r ++ y) ≡ after_end (counted_in rules before) (here + 1 + body_length r.kind) y
          unfolding walk_by
          ends y =
              let step : rule_step rules before (kind_byte r.kind) here (r.body ++ y) ≡ Break (after_end (counted_in rules before) (here + 1 + body_length r.kind) y) =
              step-record before r v y ∙ goes _ ∙ on _ ∙ rw last in
              rw step

          place-next : here + 1 + body_length r.kind ≡ place_after (before ++ (r ∷ []))
          place-next = omega (arith, place-snoc before r, v)

          over : (t : Test) → Mem t (faults_after rules (before ++ (r ∷ [])) []) → t.applies ≡ false
          over t (inl e) = ap (λ (u : Test). u.applies) e ∙ rw closed
          over t (inr e) = absurd e

          -- The tests at the place of these records, said of the same records written otherwise.
          moved : (t : Test) (s : Record) (more rest : List ℕ) → r ≡ s → more ≡ rest → Mem t (faults_after rules (before ++ (s ∷ [])) rest) → Mem t (faults_after rules (before ++ (r ∷ [])) more)
          moved t s more rest e q m = subst (Mem t) (ap (λ (x : Record). faults_after rules (before ++ (x ∷ [])) rest) (sym e) ∙ ap (faults_after rules (before ++ (r ∷ []))) (sym q)) m

          back : (t : Test) (left more : List ℕ) → left ≡ more → Mem t (faults_after rules (before ++ []) more) → Mem t (faults_after rules before left)
          back t left more e m = subst (Mem t) (ap (λ (b : List Record). faults_after rules b more) (append-nil before) ∙ ap (faults_after rules before) (sym e)) m

          silent : NoFault before (record_bytes r ++ [])
          unfolding records_bytes
          silent [] more w e t m a = none_here [] t (back t (record_bytes r ++ []) more e m) a
          silent (s ∷ []) more w e t m a =
              let h = same-record [] s more (w s (inl refl)) (e ∙ append_assoc (record_bytes s) [] more) in
              clash a (over t (moved t s [] more h.0 h.1 m))
          silent (s ∷ q ∷ rs) more w e t m a =
              let h = same-record [] s (records_bytes (q ∷ rs) ++ more) (w s (inl refl)) (e ∙ append_assoc (record_bytes s) (records_bytes (q ∷ rs)) more) in
              no_record q (records_bytes rs ++ more) (h.1 ∙ append_assoc (record_bytes q) (records_bytes rs) more)

          found-laid : Found before (record_bytes r ++ []) (walk_after before (record_bytes r ++ []))
          found-laid = laid (counted_in rules before) (ends []) silent later
            where
              long : here + 1 + body_length r.kind ≡ here + length (record_bytes r ++ [])
              long = omega (arith, v, length-append r.body [])

              later : (byte : ℕ) (more : List ℕ) → walk_after before ((record_bytes r ++ []) ++ (byte ∷ more)) ≡ Err (After (here + length (record_bytes r ++ [])))
              later byte more = ap (λ (l : List ℕ). walk_after before (l ++ (byte ∷ more))) (append-nil (record_bytes r)) ∙ ends (byte ∷ more) ∙ ap (λ (p : ℕ). Err (After p)) long

          -- A byte after it.
          module _ (b : ℕ) (bs : List ℕ) where
            abbrev next : ℕ
            next = here + 1 + body_length r.kind

            after-least : (t : Test) → Mem t (faults_after rules (before ++ (r ∷ [])) (b ∷ bs)) → t.applies ≡ true → rank bytes_after_fault next ≤ rank t.number t.place
            after-least t m a =
                let now = before ++ (r ∷ []) in
                let top = head_of b (place_after now) in
                elim (append-mem (kind_faults rules now (place_after now) top) (body_or_missing rules now (place_after now) top bs) t m) [
                  | inl (inl e) ↦ clash a (ap (λ (u : Test). u.applies) e ∙ rw closed)
                  | inl (inr (inl e)) ↦ rw e (omega (arith, place-next))
                  | inl (inr (inr (inl e))) ↦ rw e (omega (arith, place-next))
                  | inl (inr (inr (inr e))) ↦ absurd e
                  | inr i ↦ let h = rest-place rules now (place_after now) top bs t i in omega (arith, h.there, h.numbered, place-next)
                ]

            after_first : (others : List Record) (more : List ℕ) → AllWhole others → record_bytes r ++ (b ∷ bs) ≡ records_bytes others ++ more → (t : Test)
                → Mem t (faults_after rules (before ++ others) more) → t.applies ≡ true → rank bytes_after_fault next ≤ rank t.number t.place
            unfolding records_bytes
            after_first [] more w e t m a = absurd (none_here (b ∷ bs) t (back t (record_bytes r ++ (b ∷ bs)) more e m) a)
            after_first (s ∷ []) more w e t m a =
                let h = same-record (b ∷ bs) s more (w s (inl refl)) (e ∙ append_assoc (record_bytes s) [] more) in
                after-least t (moved t s (b ∷ bs) more h.0 h.1 m) a
            after_first (s ∷ q ∷ rs) more w e t m a =
                let h = same-record (b ∷ bs) s (records_bytes (q ∷ rs) ++ more) (w s (inl refl)) (e ∙ append_assoc (record_bytes s) (records_bytes (q ∷ rs)) more) in
                let far = fault-place rules (before ++ (s ∷ q ∷ rs)) more t m in
                let split : before ++ (s ∷ q ∷ rs) ≡ (before ++ (s ∷ [])) ++ (q ∷ rs) = sym (append_assoc before (s ∷ []) (q ∷ rs)) in
                omega (
                  arith,
                  far.there,
                  far.numbered,
                  ap place_after split,
                  place-longer (before ++ (s ∷ [])) q rs,
                  place-snoc before s,
                  v,
                  ap (λ (x : Record). length x.body) h.0,
                )

            found_after : Found before (record_bytes r ++ (b ∷ bs)) (walk_after before (record_bytes r ++ (b ∷ bs)))
            unfolding records_bytes
            found_after =
                let now = before ++ (r ∷ []) in
                let alone : records_bytes (r ∷ []) ≡ record_bytes r = append-nil (record_bytes r) in
                let given : Applies (faults_after rules now (b ∷ bs)) bytes_after_fault next =
                record { found = test_at bytes_after_fault (place_after now) (is_closed rules now (place_after now)); listed = inr (inl refl); applies = rw closed refl; numbered = refl; placed = sym place-next } in
                let first : FirstAt before (record_bytes r ++ (b ∷ bs)) bytes_after_fault next =
                record {
                  lead = r ∷ [];
                  rest = b ∷ bs;
                  whole = λ s m. elim m [ inl e ↦ subst IsWhole (sym e) v | inr e ↦ absurd e ];
                  split = ap (λ (l : List ℕ). l ++ (b ∷ bs)) (sym alone);
                  broken = given;
                  begins = inl ([], (λ x m. absurd m), counted_in rules before, ap (λ (l : List ℕ). walk_after before (l ++ [])) alone ∙ ends []);
                  least = after_first;
                } in
                let end : next + 1 ≡ here + length (record_bytes r ++ (b ∷ [])) = omega (arith, v, length-append r.body (b ∷ [])) in
                rw (ends (b ∷ bs))
                (broken (record_bytes r ++ (b ∷ [])) bs (sym (append_assoc (record_bytes r) (b ∷ []) bs))
                (λ y. ap (walk_after before) (append_assoc (record_bytes r) (b ∷ []) y) ∙ ends (b ∷ y)) end (λ z. omega arith) (λ z. omega arith) (omega (arith, end)) first)

  -- ---- a record that is passed

  module _ (before : List Record) (r : Record) (v : IsWhole r) (silent : (y : List ℕ) (t : Test) → Mem t (faults_after rules before (record_bytes r ++ y)) → t.applies ≡ true → ⊥)
      (goes : (y : List ℕ) → walk_after before (record_bytes r ++ y) ≡ walk_after (before ++ (r ∷ [])) y) where
    -- What lies behind, with it and others.
    joined : (others : List Record) → (before ++ (r ∷ [])) ++ others ≡ before ++ (r ∷ others)
    joined others = append_assoc before (r ∷ []) others

    -- Faults from there on are those after it, so the first of the ones is the first of the others.
    after-record : (more : List ℕ) (P : Test → Type 0)
        → ((others : List Record) (rest : List ℕ) → AllWhole others → more ≡ records_bytes others ++ rest → (t : Test) → Mem t (faults_after rules ((before ++ (r ∷ [])) ++ others) rest) → t.applies ≡ true → P t)
        → (others : List Record) (rest : List ℕ) → AllWhole others → record_bytes r ++ more ≡ records_bytes others ++ rest → (t : Test) → Mem t (faults_after rules (before ++ others) rest) → t.applies ≡ true → P t
    unfolding records_bytes
    after-record more P h [] rest w e t m a =
        absurd (silent more t (subst (Mem t) (ap (λ (b : List Record). faults_after rules b rest) (append-nil before) ∙ ap (faults_after rules before) (sym e)) m) a)
    after-record more P h (s ∷ others) rest w e t m a =
        let u = record-unique r s more (records_bytes others ++ rest) v (w s (inl refl)) (e ∙ append_assoc (record_bytes s) (records_bytes others) rest) in
        h others rest (λ q k. w q (inr k)) u.1 t
        (subst (λ (b : List Record). Mem t (faults_after rules b rest)) (ap (λ (x : Record). before ++ (x ∷ others)) (sym u.0) ∙ sym (joined others)) m) a

    first-after : (more : List ℕ) (number place : ℕ) → FirstAt (before ++ (r ∷ [])) more number place → FirstAt before (record_bytes r ++ more) number place
    unfolding records_bytes
    first-after more number place f = record {
      lead = r ∷ f.lead;
      rest = f.rest;
      whole = λ q m. elim m [ inl e ↦ subst IsWhole (sym e) v | inr k ↦ f.whole q k ];
      split = ap (λ (l : List ℕ). record_bytes r ++ l) f.split ∙ sym (append_assoc (record_bytes r) (records_bytes f.lead) f.rest);
      broken = subst (λ (b : List Record). Applies (faults_after rules b f.rest) number place) (joined f.lead) f.broken;
      begins = elim f.begins [
        | inl h ↦ inl (h.0, h.1, h.2, ap (walk_after before) (append_assoc (record_bytes r) (records_bytes f.lead) h.0) ∙ goes (records_bytes f.lead ++ h.0) ∙ h.3)
        | inr l ↦ inr (ap ended (sym (joined f.lead)) ∙ l.0, ap (λ (b : List Record). rules.is_longest (place_after b)) (sym (joined f.lead)) ∙ l.1)
      ];
      least = after-record more (λ t. rank number place ≤ rank t.number t.place) f.least;
    }

    found-later : (more : List ℕ) (w : Walk) → Found (before ++ (r ∷ [])) more w → Found before (record_bytes r ++ more) w
    found-later more w (broken front rest e all end known some inside first) =
        let long : place_after (before ++ (r ∷ [])) + length front ≡ place_after before + length (record_bytes r ++ front) =
        omega (arith, place-snoc before r, length-append r.body front) in
        broken (record_bytes r ++ front) rest (ap (λ (l : List ℕ). record_bytes r ++ l) e ∙ sym (append_assoc (record_bytes r) front rest))
        (λ y. ap (walk_after before) (append_assoc (record_bytes r) front y) ∙ goes (front ++ y) ∙ all y) (end ∙ long) known some (omega (arith, inside, long))
        (first-after more (fault_number w) (fault_place w) first)
    found-later more w (missing e first) =
        let long : place_after (before ++ (r ∷ [])) + length more ≡ place_after before + length (record_bytes r ++ more) =
        omega (arith, place-snoc before r, length-append r.body more) in
        missing (e ∙ ap (λ (p : ℕ). Err (Missing p)) long) (subst (FirstAt before (record_bytes r ++ more) bytes_missing_fault) long (first-after more bytes_missing_fault _ first))
    found-later more w (laid count e none after) =
        let long : place_after (before ++ (r ∷ [])) + length more ≡ place_after before + length (record_bytes r ++ more) =
        omega (arith, place-snoc before r, length-append r.body more) in
        laid count e (after-record more (λ t. ⊥) none)
        (λ byte rest. ap (walk_after before) (append_assoc (record_bytes r) more (byte ∷ rest)) ∙ goes (more ++ (byte ∷ rest)) ∙ after byte rest ∙ ap (λ (p : ℕ). Err (After p)) long)

  -- ---- the whole walk

  -- What the walk keeps of the records behind, whatever records it passes, lets it be brought to an end without a fault.
  module _ (Kept : List Record → Type 0)
      (keeps : (before : List Record) (r : Record) → Kept before → IsWhole r → rules.is_longest (place_after before) ≡ false → rules.admits before r.kind ≡ true
      → rules.is_surplus before r.kind ≡ false → is_end r.kind ≡ false → Kept (before ++ (r ∷ [])))
      (completes : (before : List Record) → Kept before → ended before ≡ false → rules.is_longest (place_after before) ≡ false
      → (more : List ℕ) × Bytes more × (count : ℕ) × (walk_after before more ≡ Ok count)) where
    begun : (before : List Record) → Kept before → ended before ≡ false → Begins before []
    unfolding records_bytes
    begun before k e = go (rules.is_longest (place_after before)) refl
      where
        go : (t : Bool) → rules.is_longest (place_after before) ≡ t → Begins before []
        go true q = inr (ap ended (append-nil before) ∙ e, ap (λ (b : List Record). rules.is_longest (place_after b)) (append-nil before) ∙ q)
        go false q = inl (completes before k e q)

    -- No rule of a kind is broken: what that says of the kind.
    kind-right : (before : List Record) (kind : Kind) → ended before ≡ false → ((g : Flag) → Mem g (kind_flags rules before (place_after before) (known kind)) → g.applies ≡ false)
        → (rules.is_longest (place_after before) ≡ false) × (rules.admits before kind ≡ true) × (rules.is_surplus before kind ≡ false)
    kind-right before kind e none =
        let longest : rules.is_longest (place_after before) ≡ false = sym (rw e) ∙ none _ (inr (inl refl)) in
        let wrong : not (is_closed rules before (place_after before)) && not (rules.admits before kind) ≡ false = none _ (inl refl) in
        (longest, admitted (rules.admits before kind) (rw (e, longest) at wrong), rw (e, longest) at none _ (inr (inr (inl refl))))
      where
        admitted : (t : Bool) → not t ≡ false → t ≡ true
        admitted true q = refl
        admitted false q = clash refl q

    -- An unknown kind breaks a rule.
    unknown-wrong : (before : List Record) (place : ℕ) (fault : BytesFault) → ((g : Flag) → Mem g (kind_flags rules before place (Err fault)) → g.applies ≡ false) → ⊥
    unknown-wrong before place fault none = go (is_closed rules before place) (none _ (inl refl)) (none _ (inr (inl refl)))
      where
        go : (t : Bool) → not t && true ≡ false → t ≡ false → ⊥
        go true p q = clash refl q
        go false p q = clash refl p

    -- One record, and then the walk over those after it.
    module _ (fuel : ℕ) (later : (before : List Record) (left : List ℕ) → length left ≤ fuel → Kept before → ended before ≡ false → Found before left (walk_after before left)) where
      module _ (before : List Record) (k : Kept before) (e : ended before ≡ false) where
        whole-record : (r : Record) (v : IsWhole r) (more : List ℕ) → length more ≤ fuel → ((g : Flag) → Mem g (at_kind before r v) → g.applies ≡ false) → ((s : Step) → first_stop (at_kind before r v) s ≡ s)
            → Found before (record_bytes r ++ more) (walk_after before (record_bytes r ++ more))
        whole-record r v more short none goes = body (told (at_body before r v) (body-ranked rules before (place_after before + 1) r.kind r.body))
          where
            b : Begins before []
            b = begun before k e

            kept : is_end r.kind ≡ false → Kept (before ++ (r ∷ []))
            kept q = let h = kind-right before r.kind e none in keeps before r k v h.0 h.1 h.2 q

            behind : is_end r.kind ≡ false → ended (before ++ (r ∷ [])) ≡ false
            behind q = ended-snoc before r ∙ rw (e, q)

            last : (clear : (g : Flag) → Mem g (at_body before r v) → g.applies ≡ false) (on : (s : Step) → first_stop (at_body before r v) s ≡ s) → is_end r.kind ≡ true
                → (more : List ℕ) → Found before (record_bytes r ++ more) (walk_after before (record_bytes r ++ more))
            last clear on q [] = found-laid before e b r v none goes clear on q
            last clear on q (x ∷ xs) = found_after before e b r v none goes clear on q x xs

            ended-or : (clear : (g : Flag) → Mem g (at_body before r v) → g.applies ≡ false) (on : (s : Step) → first_stop (at_body before r v) s ≡ s) (t : Bool) → is_end r.kind ≡ t
                → Found before (record_bytes r ++ more) (walk_after before (record_bytes r ++ more))
            ended-or clear on true q = last clear on q more
            ended-or clear on false q =
                let on-record = walk-record before r v goes on q in
                subst (Found before (record_bytes r ++ more)) (sym (on-record more))
                (found-later before r v (none_here before e b r v none goes clear on) on-record more _ (later (before ++ (r ∷ [])) more short (kept q) (behind q)))

            body : Told (at_body before r v) → Found before (record_bytes r ++ more) (walk_after before (record_bytes r ++ more))
            body (stops f m a s l) = found-body before e b r v none goes more f m a s l
            body (passes clear on) = ended-or clear on (is_end r.kind) refl

        known-kind : (kind : Kind) (rest : List ℕ) → length rest ≤ fuel → ((g : Flag) → Mem g (kind_flags rules before (place_after before) (known kind)) → g.applies ≡ false)
            → ((s : Step) → first_stop (kind_flags rules before (place_after before) (known kind)) s ≡ s) → Found before (kind_byte kind ∷ rest) (walk_after before (kind_byte kind ∷ rest))
        known-kind kind rest short none goes = go (leb (body_length kind) (length rest)) refl
          where
            go : (t : Bool) → leb (body_length kind) (length rest) ≡ t → Found before (kind_byte kind ∷ rest) (walk_after before (kind_byte kind ∷ rest))
            go false q = found-cut before e (begun before k e) kind rest (leb-false (body_length kind) (length rest) q) none goes
            go true q =
                let l = body_length kind in
                let there : l ≤ length rest = leb-true l (length rest) q in
                let v : IsWhole (record_of kind (take l rest)) = length-take-le l rest there in
                let same : kind_byte kind ∷ (take l rest ++ drop l rest) ≡ kind_byte kind ∷ rest = ap (λ (x : List ℕ). kind_byte kind ∷ x) (take-append-drop l rest) in
                subst (λ (x : List ℕ). Found before x (walk_after before x)) same
                (whole-record (record_of kind (take l rest)) v (drop l rest) (omega (arith, short, length-drop l rest)) none goes)

        one-record : (byte : ℕ) (rest : List ℕ) → length rest ≤ fuel → Found before (byte ∷ rest) (walk_after before (byte ∷ rest))
        one-record byte rest short = go (told (kind_flags rules before (place_after before) (head_of byte (place_after before))) (kind-ranked rules before (place_after before) (head_of byte (place_after before))))
          where
            go : Told (kind_flags rules before (place_after before) (head_of byte (place_after before))) → Found before (byte ∷ rest) (walk_after before (byte ∷ rest))
            go (stops f m a s l) = found-kind before e (begun before k e) byte rest f m a s l
            go (passes none s) =
                head-cases
                (λ head. ((g : Flag) → Mem g (kind_flags rules before (place_after before) head) → g.applies ≡ false)
                → ((s : Step) → first_stop (kind_flags rules before (place_after before) head) s ≡ s) → Found before (byte ∷ rest) (walk_after before (byte ∷ rest)))
                byte (place_after before)
                (λ kind q none s. subst (λ (b : ℕ). Found before (b ∷ rest) (walk_after before (b ∷ rest))) (sym q) (known-kind kind rest short none s))
                (λ none s. absurd (unknown-wrong before (place_after before) (WrongKind (place_after before)) none))
                none s

        all_left : (left : List ℕ) → length left ≤ suc fuel → Found before left (walk_after before left)
        all_left [] h = found_none before e (begun before k e)
        all_left (byte ∷ rest) h = one-record byte rest (le_of_suc-le-suc h)

    none_left : (before : List Record) (left : List ℕ) → length left ≤ 0 → Kept before → ended before ≡ false → Found before left (walk_after before left)
    none_left before [] h k e = found_none before e (begun before k e)
    none_left before (byte ∷ rest) h k e = absurd (not-suc-le-zero h)

    ruled-in : (fuel : ℕ) (before : List Record) (left : List ℕ) → length left ≤ fuel → Kept before → ended before ≡ false → Found before left (walk_after before left)
    ruled-in zero before left h k e = none_left before left h k e
    ruled-in (suc fuel) before left h k e = all_left fuel (ruled-in fuel) before k e left h

    -- What the walk finds in a whole input.
    pub ruled : Kept [] → (bytes : List ℕ) → Found [] bytes (walk_rules rules 0 [] 0 bytes)
    unfolding records_bytes ended
    ruled k bytes = ruled-in (length bytes) [] bytes (le_refl (length bytes)) k refl
