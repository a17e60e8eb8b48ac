-- A walk by the rules of specs.Faults, of tables and forms alike: what it does with one record, and what the rules say of that record. That the walks
-- over tables and over forms are such walks is `table-ruled` of crate `stored` and `form-ruled` of crate `form`. Read next: Paths.
use mathlib.Core.Path.{◌≡◌, refl}
use mathlib.Core.Bool.{Bool, true, false, cond, not, ◌&&◌}
use mathlib.Core.Logic.{inl, inr}
use mathlib.Core.List.{List, [], ◌∷◌, ◌++◌}
use Prim.Native.Nat.{ℕ, ◌+◌, ◌*◌, ◌≤◌}
use native.Mathlib.Omega.{arith}
use lib.Dec.{eqb, leb}
use lib.ListN.{length, get_or, take, drop}
use lib.Seq.{get_or-take}
use Rattle.gf2.specs.Finite.{Mem}
use Rattle.gf2.proofs.Logic.{clash}
use Rattle.table.specs.Refusal.{Test, test_at}
use Rattle.records.specs.declared.Kind.{Kind}
use Rattle.records.specs.declared.Kind.TheVariants.{Variables, Product, Factor, End, On, Free}
use Rattle.records.specs.Kinds.{kind_byte, body_length, known, head_of, word_of}
use Rattle.records.specs.Walks.{body_step, after_end, end_step, fault_number, fault_place, walk_by, bytes_missing}
use Rattle.records.specs.Faults.{Record, record_of, is_end, Rules, counted_in, is_closed, is_admitted, begins_surplus, wrong_count}
use Rattle.records.proofs.KindBytes.{head_byte}
use Rattle.table.specs.declared.BytesFault.TheVariants.{WrongKind, Missing, WrongVariables, WrongFactor, NotCanonical, WrongCount, After, TooMany}
use Rattle.records.specs.Kinds.{RecordHead}
use Rattle.records.specs.Walks.{Walk, Step}
use Rattle.std.specs.Prelude.{Ok, Err}
use Rattle.std.specs.declared.ops.ControlFlow.TheVariants.{Continue, Break}

-- ---- the walk by the rules

-- What a rule finds, and whether it applies.
pub record Flag : Type 0 where
  pub walk : Walk
  pub applies : Bool

abbrev pub flag : Walk → Bool → Flag
flag walk applies = record { walk = walk; applies = applies }

-- The test of it.
abbrev pub test_of : Flag → Test
test_of f = test_at (fault_number f.walk) (fault_place f.walk) f.applies

-- The first rule that applies ends the walk.
unfoldable pub first_stop : List Flag → Step → Step
first_stop [] s = s
first_stop (f ∷ fs) s = cond f.applies (Break f.walk) (first_stop fs s)

module _ (rules : Rules) (before : List Record) where
  abbrev pub kind_flags : ℕ → RecordHead → List Flag
  kind_flags place head =
      flag (Err (WrongKind place)) (not (is_closed rules before place) && not (is_admitted rules before head)) ∷
      flag (Err (After place)) (is_closed rules before place) ∷
      flag (Err (TooMany place)) (not (is_closed rules before place) && begins_surplus rules before head) ∷
      []

  abbrev pub body_flags : ℕ → Kind → List ℕ → List Flag
  body_flags place Variables body = flag (Err (WrongVariables place)) (rules.wrong_variables body) ∷ []
  body_flags place Product body = []
  body_flags place Factor body = flag (Err (WrongFactor place)) (rules.wrong_factor before body) ∷ flag (Err (NotCanonical place)) (rules.disagrees before body) ∷ []
  body_flags place End body = flag (Err (WrongCount place)) (wrong_count rules before body) ∷ []
  body_flags place On body = []
  body_flags place Free body = []

  -- A whole record that breaks no rule is passed, but for the end record, which ends the walk.
  abbrev pub passed_step : ℕ → Kind → List ℕ → Step
  passed_step place kind rest = cond (is_end kind) (Break (after_end (counted_in rules before) (place + 1 + body_length kind) rest)) (Continue (body_length kind))

  abbrev pub head_rule : ℕ → RecordHead → List ℕ → Step
  head_rule place (Ok (kind, l)) rest =
      cond (leb l (length rest)) (first_stop (body_flags (place + 1) kind (take l rest)) (passed_step place kind (drop l rest))) (Break (Err (Missing (place + 1 + length rest))))
  head_rule place (Err fault) rest = Break (Err fault)

  abbrev pub rule_step : ℕ → ℕ → List ℕ → Step
  rule_step byte place rest = first_stop (kind_flags place (head_of byte place)) (head_rule place (head_of byte place) rest)

-- The records behind once one is passed too.
abbrev pub pushed_head : List Record → RecordHead → List ℕ → List Record
pushed_head before (Ok (kind, l)) rest = before ++ (record_of kind (take l rest) ∷ [])
pushed_head before (Err fault) rest = before

abbrev pub pushed : List Record → ℕ → List ℕ → List Record
pushed before byte rest = pushed_head before (head_of byte 0) rest

pub pushed-kind : (before : List Record) (kind : Kind) (rest : List ℕ) → pushed before (kind_byte kind) rest ≡ before ++ (record_of kind (take (body_length kind) rest) ∷ [])
pushed-kind before kind rest = rw (head_byte kind 0)

-- The walk, whose state is the records behind.
abbrev pub walk_rules : Rules → ℕ → List Record → ℕ → List ℕ → Walk
walk_rules rules = walk_by (rule_step rules) pushed bytes_missing

-- ---- the first of some flags

-- Place and number as one number, which orders faults from the left, and of two at one byte the smaller number first.
abbrev pub rank : ℕ → ℕ → ℕ
rank number place = 32 * place + number

abbrev pub walk_rank : Walk → ℕ
walk_rank w = rank (fault_number w) (fault_place w)

-- Each flag is of a lower rank than those after it.
unfoldable pub Ranked : List Flag → Type 0
Ranked [] = Unit {0}
Ranked (f ∷ fs) = ((g : Flag) → Mem g fs → walk_rank f.walk ≤ walk_rank g.walk) × Ranked fs

-- What the flags do to a step: one of them ends the walk, and none that applies has a lower rank; or none applies, and the step is as it was.
pub data Told (fs : List Flag) : Type 0 where
  stops : (f : Flag) → Mem f fs → f.applies ≡ true → ((s : Step) → first_stop fs s ≡ Break f.walk)
      → ((g : Flag) → Mem g fs → g.applies ≡ true → walk_rank f.walk ≤ walk_rank g.walk) → Told fs
  passes : ((g : Flag) → Mem g fs → g.applies ≡ false) → ((s : Step) → first_stop fs s ≡ s) → Told fs

pub told : (fs : List Flag) → Ranked fs → Told fs
unfolding first_stop Ranked
told [] r = passes (λ g m. absurd m) (λ s. refl)
told (f ∷ fs) r = go f.applies refl (told fs r.1)
  where
    go : (b : Bool) → f.applies ≡ b → Told fs → Told (f ∷ fs)
    go true e t = stops f (inl refl) e (λ s. rw e) (λ g m a. elim m [ inl q ↦ rw q (omega arith) | inr k ↦ r.0 g k ])
    go false e (stops h m a s l) =
        stops h (inr m) a (λ x. rw e (s x)) (λ g k b. elim k [ inl q ↦ clash b (rw q e) | inr i ↦ l g i b ])
    go false e (passes n s) = passes (λ g m. elim m [ inl q ↦ rw q e | inr k ↦ n g k ]) (λ x. rw e (s x))

-- The flags of a kind and those of a body are ranked so.
pub kind-ranked : (rules : Rules) (before : List Record) (place : ℕ) (head : RecordHead) → Ranked (kind_flags rules before place head)
unfolding Ranked
kind-ranked rules before place head = (
  (λ g m. elim m [ inl q ↦ rw q (omega arith) | inr (inl q) ↦ rw q (omega arith) | inr (inr e) ↦ absurd e ]),
  ((λ g m. elim m [ inl q ↦ rw q (omega arith) | inr e ↦ absurd e ]), ((λ g m. absurd m), tt)),
)

pub body-ranked : (rules : Rules) (before : List Record) (place : ℕ) (kind : Kind) (body : List ℕ) → Ranked (body_flags rules before place kind body)
unfolding Ranked
body-ranked rules before place Variables body = ((λ g m. absurd m), tt)
body-ranked rules before place Product body = tt
body-ranked rules before place Factor body = ((λ g m. elim m [ inl q ↦ rw q (omega arith) | inr e ↦ absurd e ]), ((λ g m. absurd m), tt))
body-ranked rules before place End body = ((λ g m. absurd m), tt)
body-ranked rules before place On body = tt
body-ranked rules before place Free body = tt

-- ---- the end record, by its rule

pub end-ruled : (rules : Rules) (before : List Record) (count place : ℕ) (rest : List ℕ) → counted_in rules before ≡ count
    → end_step (body_step (body_length End) place rest) count place rest ≡ head_rule rules before place (known End) rest
unfolding first_stop
end-ruled rules before count place rest e = go (leb 2 (length rest)) (eqb (word_of (get_or rest 0 0) (get_or rest 1 0)) count) refl refl
  where
    word : word_of (get_or (take 2 rest) 0 0) (get_or (take 2 rest) 1 0) ≡ word_of (get_or rest 0 0) (get_or rest 1 0)
    word = rw (get_or-take 2 rest 0 0 (omega arith), get_or-take 2 rest 1 0 (omega arith))

    go : (t c : Bool) → leb 2 (length rest) ≡ t → eqb (word_of (get_or rest 0 0) (get_or rest 1 0)) count ≡ c
        → end_step (body_step (body_length End) place rest) count place rest ≡ head_rule rules before place (known End) rest
    go true true p q = rw (p, word, e, q)
    go true false p q = rw (p, word, e, q)
    go false c p q = rw p
