-- The walk over a stored table goes by the rules of specs.Faults (`table-ruled`), so what it reports is the first fault by these rules (`table-first`).
-- Read next: Laying.
use mathlib.Core.Path.{◌≡◌, refl, sym, ap, ◌∙◌, subst}
use mathlib.Core.Bool.{Bool, true, false, cond, not, ◌&&◌, ◌||◌}
use mathlib.Core.Logic.{inl, inr, ◌⊎◌, ◌≢◌}
use mathlib.Core.List.{List, [], ◌∷◌, ◌++◌}
use Prim.Native.Nat.{ℕ, ◌+◌, ◌*◌, ◌≤◌}
use native.Mathlib.Omega.{arith}
use lib.Dec.{eqb, leb}
use lib.ListN.{length, take}
use lib.Seq.{length-take-le}
use borrow.Author.Tests.{eqb-false}
use Rattle.gf2.specs.Finite.{Mem}
use Rattle.gf2.proofs.Logic.{clash, and-false}
use Rattle.gf2.proofs.Finite.{append-mem}
use Rattle.table.specs.Refusal.{Test}
use Rattle.table.specs.Flags.{max_points}
use Rattle.records.specs.declared.Kind.{Kind}
use Rattle.records.specs.declared.Kind.TheVariants.{Variables, Product, Factor, End, On, Free}
use Rattle.records.specs.Kinds.{body_length, known, head_of, Bytes, encode_end}
use Rattle.records.specs.Walks.{head_step, body_step, end_step, go_on, walk_by, fault_number, is_fault}
use Rattle.records.specs.Faults.{Record, record_of, IsWhole, records_bytes, place_after, is_end, ended, record_count, counted_in, is_closed, begins_surplus, kind_faults, body_faults, missing_faults, body_or_missing, faults_after}
use Rattle.records.proofs.KindBytes.{head-cases, end-bytes, shortest, shortest-bytes}
use Rattle.records.proofs.Whole.{not-whole, body-length, head-whole}
use Rattle.records.proofs.Walking.{walk-alike}
use Rattle.records.proofs.Places.{place-snoc, ended-snoc, counted-snoc}
use Rattle.records.proofs.Ruling.{first_stop, kind_flags, head_rule, rule_step, pushed, pushed-kind, walk_rules, end-ruled}
use Rattle.records.proofs.Paths.{walk_after, FirstAt, Found, broken, missing, laid, end-laid, ruled}
use Rattle.stored.specs.Layout.{first_table_kind, first_table_step, later_table_kind, table_step, count_passed, walk_table_from, walked, longest_table}
use Rattle.stored.specs.Faults.{is_point, table_admits, table_rules}
use Rattle.stored.specs.Stored.{table_faults}
use Rattle.table.specs.declared.BytesFault.TheVariants.{After}
use Rattle.records.specs.Kinds.{RecordHead}
use Rattle.records.specs.Walks.{Step}
use Rattle.std.specs.Prelude.{Ok, Err}
use Rattle.std.specs.declared.ops.ControlFlow.TheVariants.{Continue, Break}

-- ---- the two walks agree

-- What lies behind the walk over a table, and the records behind the walk by the rules.
record Alike (count : ℕ) (before : List Record) (place : ℕ) : Type 0 where
  here : place ≡ place_after before
  counted : counted_in table_rules before ≡ count
  awaits : ended before ≡ false
  admitted : (kind : Kind) → table_admits before kind ≡ is_point kind || is_end kind

-- After a record more, the first record is not the last.
admits-later : (before : List Record) (r : Record) (kind : Kind) → table_admits (before ++ (r ∷ [])) kind ≡ is_point kind || is_end kind
admits-later [] r kind = refl
admits-later (b ∷ before) r kind = refl

later_same : (count : ℕ) (before : List Record) (byte place : ℕ) (rest : List ℕ) → Alike count before place → table_step count byte place rest ≡ rule_step table_rules before byte place rest
unfolding first_stop
later_same count before byte place rest a = go (eqb place longest_table) refl
  where
    kinds : eqb place longest_table ≡ false → (kind : Kind)
        → later_table_kind kind (body_length kind) count place rest ≡ first_stop (kind_flags table_rules before place (known kind)) (head_rule table_rules before place (known kind) rest)
    kinds p Variables = rw (p, a.awaits, a.admitted Variables)
    kinds p Product = rw (p, a.awaits, a.admitted Product)
    kinds p Factor = rw (p, a.awaits, a.admitted Factor)
    kinds p On = rw (p, a.awaits, a.admitted On)
    kinds p Free = rw (p, a.awaits, a.admitted Free)
    kinds p End = rw (p, a.awaits, a.admitted End) (end-ruled table_rules before count place rest a.counted)

    go : (t : Bool) → eqb place longest_table ≡ t → table_step count byte place rest ≡ rule_step table_rules before byte place rest
    go true p = rw (p, a.awaits)
    go false p =
        let on : table_step count byte place rest ≡ head_step (head_of byte place) (λ kind l. later_table_kind kind l count place rest) = rw p in
        on
        ∙ head-cases (λ h. head_step h (λ kind l. later_table_kind kind l count place rest) ≡ first_stop (kind_flags table_rules before place h) (head_rule table_rules before place h rest)) byte place
        (λ kind q. kinds p kind) (rw (p, a.awaits))

-- A point that is passed lies behind both walks.
again : (count : ℕ) (before : List Record) (byte place : ℕ) (rest : List ℕ) (l : ℕ) → Alike count before place → table_step count byte place rest ≡ Continue l
    → Alike (count_passed count byte rest) (pushed before byte rest) (place + 1 + l)
again count before byte place rest l a e = go (eqb place longest_table) e
  where
    -- A point of this kind.
    passed : (kind : Kind) → is_point kind ≡ true → body_length kind ≡ 2 → is_end kind ≡ false → body_step 2 place rest ≡ Continue l
        → Alike (count + 1) (before ++ (record_of kind (take (body_length kind) rest) ∷ [])) (place + 1 + l)
    passed kind p two n q =
        let b = body-length 2 place rest l q in
        let r = record_of kind (take (body_length kind) rest) in
        let long : length (take (body_length kind) rest) ≡ 2 = ap (λ (k : ℕ). length (take k rest)) two ∙ length-take-le 2 rest b.1 in
        record {
          here = omega (arith, a.here, b.0, place-snoc before r, long);
          counted = counted-snoc is_point before r ∙ rw p (omega (arith, a.counted));
          awaits = ended-snoc before r ∙ rw (a.awaits, n);
          admitted = admits-later before r;
        }

    kinds : (kind : Kind) → later_table_kind kind (body_length kind) count place rest ≡ Continue l → Alike (count + 1) (before ++ (record_of kind (take (body_length kind) rest) ∷ [])) (place + 1 + l)
    kinds Variables q = not-whole q
    kinds Product q = not-whole q
    kinds Factor q = not-whole q
    kinds On q = passed On refl refl refl q
    kinds Free q = passed Free refl refl refl q
    kinds End q = ended-not (body_step 2 place rest) q
      where
        ended-not : {A : Type 0} (s : Step) → end_step s count place rest ≡ Continue l → A
        ended-not (Continue k) q = not-whole q
        ended-not (Break w) q = not-whole q

    go : (t : Bool) → cond t (Break (Err (After place))) (head_step (head_of byte place) (λ k m. later_table_kind k m count place rest)) ≡ Continue l → Alike (count + 1) (pushed before byte rest) (place + 1 + l)
    go true q = not-whole q
    go false q =
        let h = head-whole byte place (λ k m. later_table_kind k m count place rest) q in
        let same : pushed before byte rest ≡ before ++ (record_of h.0 (take (body_length h.0) rest) ∷ []) =
        ap (λ (b : ℕ). pushed before b rest) h.1 ∙ pushed-kind before h.0 rest in
        subst (λ (b : List Record). Alike (count + 1) b (place + 1 + l)) (sym same) (kinds h.0 h.2)

-- The first record.
first-same : (byte : ℕ) (rest : List ℕ) → first_table_step byte rest ≡ rule_step table_rules [] byte 0 rest
unfolding first_stop ended
first-same byte rest =
    head-cases (λ h. head_step h (λ kind l. first_table_kind kind l rest) ≡ first_stop (kind_flags table_rules [] 0 h) (head_rule table_rules [] 0 h rest)) byte 0
    (λ kind q. kinds kind) refl
  where
    kinds : (kind : Kind) → first_table_kind kind (body_length kind) rest ≡ first_stop (kind_flags table_rules [] 0 (known kind)) (head_rule table_rules [] 0 (known kind) rest)
    kinds Variables = refl
    kinds Product = refl
    kinds Factor = refl
    kinds End = refl
    kinds On = refl
    kinds Free = refl

begins-alike : (byte : ℕ) (rest : List ℕ) (l : ℕ) → first_table_step byte rest ≡ Continue l → Alike 0 (pushed [] byte rest) (1 + l)
unfolding records_bytes ended record_count
begins-alike byte rest l e =
    let h = head-whole byte 0 (λ k m. first_table_kind k m rest) e in
    let same : pushed [] byte rest ≡ record_of h.0 (take (body_length h.0) rest) ∷ [] = ap (λ (b : ℕ). pushed [] b rest) h.1 ∙ pushed-kind [] h.0 rest in
    subst (λ (b : List Record). Alike 0 b (1 + l)) (sym same) (kinds h.0 h.2)
  where
    kinds : (kind : Kind) → first_table_kind kind (body_length kind) rest ≡ Continue l → Alike 0 (record_of kind (take (body_length kind) rest) ∷ []) (1 + l)
    kinds Variables q =
        let b = body-length 1 0 rest l q in
        let r = record_of Variables (take 1 rest) in
        record {
          here = omega (arith, b.0, length-take-le 1 rest b.1, place-snoc [] r);
          counted = refl;
          awaits = refl;
          admitted = λ kind. refl;
        }
    kinds Product q = not-whole q
    kinds Factor q = not-whole q
    kinds End q = not-whole q
    kinds On q = not-whole q
    kinds Free q = not-whole q

pub table-ruled : (bytes : List ℕ) → walked bytes ≡ walk_rules table_rules 0 [] 0 bytes
unfolding walked walk_by
table-ruled [] = refl
table-ruled (byte ∷ rest) = rw (sym (first-same byte rest)) (go (first_table_step byte rest) refl)
  where
    go : (s : Step) → first_table_step byte rest ≡ s → go_on s (λ l. walk_table_from l 0 1 rest) ≡ go_on s (λ l. walk_rules table_rules l (pushed [] byte rest) 1 rest)
    go (Break w) e = refl
    go (Continue l) e = walk-alike table_step count_passed (rule_step table_rules) pushed Alike later_same again l 0 (pushed [] byte rest) 1 rest (begins-alike byte rest l e)

-- ---- what the walk keeps

-- Nothing lies behind, or n and some points, of which one more than the most at most.
record Kept (before : List Record) : Type 0 where
  some : (kind : Kind) → table_admits before kind ≡ is_point kind || is_end kind
  here : place_after before ≡ 2 + 3 * counted_in table_rules before
  few : counted_in table_rules before ≤ max_points + 1

abbrev Behind : List Record → Type 0
Behind before = (before ≡ []) ⊎ Kept before

keeps : (before : List Record) (r : Record) → Behind before → IsWhole r → eqb (place_after before) longest_table ≡ false → table_admits before r.kind ≡ true → false ≡ false
    → is_end r.kind ≡ false → Behind (before ++ (r ∷ []))
unfolding records_bytes record_count
keeps before r (inl e) w l a s n = inr (subst (λ (b : List Record). Kept (b ++ (r ∷ []))) (sym e) (first r.kind refl (subst (λ (b : List Record). table_admits b r.kind ≡ true) e a)))
  where
    first : (kind : Kind) → r.kind ≡ kind → table_admits [] kind ≡ true → Kept (r ∷ [])
    first Variables q t =
        let body : length r.body ≡ 1 = w ∙ ap body_length q in
        record { some = λ kind. refl; here = omega (arith, place-snoc [] r, body, none q); few = omega (arith, none q) }
      where
        none : r.kind ≡ Variables → cond (is_point r.kind) 1 0 + 0 ≡ 0
        none q = rw q
    first Product q t = clash t refl
    first Factor q t = clash t refl
    first End q t = clash t refl
    first On q t = clash t refl
    first Free q t = clash t refl
keeps before r (inr k) w l a s n = inr (next r.kind refl (sym (k.some r.kind) ∙ a) n)
  where
    away : place_after before ≢ longest_table
    away = eqb-false (place_after before) longest_table l

    point : (kind : Kind) → r.kind ≡ kind → is_point kind ≡ true → body_length kind ≡ 2 → Kept (before ++ (r ∷ []))
    point kind q p two =
        let more : counted_in table_rules (before ++ (r ∷ [])) ≡ counted_in table_rules before + 1 = counted-snoc is_point before r ∙ rw (ap is_point q ∙ p) in
        let few : counted_in table_rules before ≤ max_points = omega (arith, k.here, k.few, away) in
        record {
          some = admits-later before r;
          here = omega (arith, place-snoc before r, w ∙ ap body_length q ∙ two, more, k.here);
          few = omega (arith, more, few);
        }

    next : (kind : Kind) → r.kind ≡ kind → is_point r.kind || is_end r.kind ≡ true → is_end r.kind ≡ false → Kept (before ++ (r ∷ []))
    next On q t u = point On q refl refl
    next Free q t u = point Free q refl refl
    next Variables q t u = clash t (ap (λ (x : Kind). is_point x || is_end x) q)
    next Product q t u = clash t (ap (λ (x : Kind). is_point x || is_end x) q)
    next Factor q t u = clash t (ap (λ (x : Kind). is_point x || is_end x) q)
    next End q t u = clash (ap is_end q) u

-- The shortest input is a table.
shortest-laid : walked shortest ≡ Ok 0
unfolding walked walk_by head_of
shortest-laid = refl

-- Any such records can be followed by the end; before all of them stands n.
completes : (before : List Record) → Behind before → ended before ≡ false → eqb (place_after before) longest_table ≡ false
    → (more : List ℕ) × Bytes more × (count : ℕ) × (walk_after table_rules before more ≡ Ok count)
unfolding records_bytes
completes before (inl e) a l = (shortest, shortest-bytes, 0, subst (λ (b : List Record). walk_after table_rules b shortest ≡ Ok 0) (sym e) (sym (table-ruled shortest) ∙ shortest-laid))
completes before (inr k) a l =
    let count = counted_in table_rules before in
    (encode_end count, end-bytes count (omega (arith, k.few)), count, end-laid table_rules before a l (k.some End) refl)

-- ---- the walk reports the first fault

pub table-first : (bytes : List ℕ) → Found table_rules [] bytes (walked bytes)
table-first bytes = subst (Found table_rules [] bytes) (sym (table-ruled bytes)) (ruled table_rules Behind keeps completes (inl refl) bytes)

-- ---- which numbers a table can have

-- Of a table's records none is a product too many, and no body but that of the end is judged.
numbers : (before : List Record) (rest : List ℕ) (t : Test) → Mem t (faults_after table_rules before rest) → t.applies ≡ true → Mem t.number table_faults
numbers before [] t (inl e) a = rw e (inr (inl refl))
numbers before [] t (inr e) a = absurd e
numbers before (byte ∷ rest) t m a =
    elim (append-mem (kind_faults table_rules before here head) (body_or_missing table_rules before here head rest) t m) [
      | inl (inl e) ↦ rw e (inl refl)
      | inl (inr (inl e)) ↦ rw e (inr (inr (inr (inl refl))))
      | inl (inr (inr (inl e))) ↦ clash a (ap (λ (u : Test). u.applies) e ∙ no-surplus (not (is_closed table_rules before here)) head)
      | inl (inr (inr (inr e))) ↦ absurd e
      | inr k ↦ bodies head k
    ]
  where
    here : ℕ
    here = place_after before

    head : RecordHead
    head = head_of byte here

    no-surplus : (t : Bool) (h : RecordHead) → t && begins_surplus table_rules before h ≡ false
    no-surplus t (Ok (kind, l)) = and-false t
    no-surplus t (Err fault) = and-false t

    judged : (kind : Kind) (body : List ℕ) → Mem t (body_faults table_rules before (here + 1) kind body) → Mem t.number table_faults
    judged Variables body (inl e) = clash a (ap (λ (u : Test). u.applies) e)
    judged Variables body (inr e) = absurd e
    judged Product body e = absurd e
    judged Factor body (inl e) = clash a (ap (λ (u : Test). u.applies) e)
    judged Factor body (inr (inl e)) = clash a (ap (λ (u : Test). u.applies) e)
    judged Factor body (inr (inr e)) = absurd e
    judged End body (inl e) = rw e (inr (inr (inl refl)))
    judged End body (inr e) = absurd e
    judged On body e = absurd e
    judged Free body e = absurd e

    bodies : (h : RecordHead) → Mem t (body_or_missing table_rules before here h rest) → Mem t.number table_faults
    bodies (Err fault) k = absurd k
    bodies (Ok (kind, l)) k = go (leb l (length rest)) k
      where
        go : (b : Bool) → Mem t (cond b (body_faults table_rules before (here + 1) kind (take l rest)) (missing_faults here rest)) → Mem t.number table_faults
        go true k = judged kind (take l rest) k
        go false (inl e) = rw e (inr (inl refl))
        go false (inr e) = absurd e

pub table-number : (bytes : List ℕ) → is_fault (walked bytes) ≡ true → Mem (fault_number (walked bytes)) table_faults
table-number bytes f = go (table-first bytes)
  where
    named : {number place : ℕ} → FirstAt table_rules [] bytes number place → Mem number table_faults
    named first = let b = first.broken in rw (sym b.numbered) (numbers first.lead first.rest b.found b.listed b.applies)

    go : Found table_rules [] bytes (walked bytes) → Mem (fault_number (walked bytes)) table_faults
    go (broken front more e all end known some inside first) = named first
    go (missing e first) = rw e (named first)
    go (laid count e none after) = clash f (ap is_fault e)
