-- An index built for a form and handed from call to call is that of the form so far (document 02, No. 5). One step of the invariant `Holding` for each call,
-- accepted or refused; all that is claimed of the list follows from it. Read next: PrimeCounts.
use mathlib.Core.Path.{◌≡◌, refl, sym, ap, ap₂, ◌∙◌, subst}
use mathlib.Core.Bool.{Bool, true, false, cond}
use mathlib.Core.Logic.{◌≢◌, inl, inr, ◌↔◌}
use mathlib.Core.List.{List, [], ◌∷◌, ◌++◌}
use Prim.Native.Nat.{ℕ, zero, suc, ◌+◌, ◌-◌, ◌≤◌, ◌<◌, ◌^◌}
use native.Mathlib.Decide.{ℕ_discrete}
use native.Mathlib.Omega.{arith}
use lib.ListN.{length, get_or, take, drop, length-append, length-drop, get_or-append}
use lib.Seq.{take-append_seam, drop_at, take_at}
use borrow.Author.Tests.{eq-eqb, ne_eqb}
use Rattle.gf2.specs.Finite.{Mem, select}
use Rattle.table.specs.Decision.{front}
use Rattle.records.specs.Kinds.{Bytes}
use Rattle.product.specs.Product.{Factor, product_at}
use Rattle.product.proofs.Count.{one, count, count-suc}
use Rattle.product.proofs.Points.{canonical-points}
use Rattle.form.specs.Form.{max_products, Form}
use Rattle.form.specs.Encoding.{encode_form}
use Rattle.form.specs.Decoding.{form_variables, form_products, decode_form, decode_product}
use Rattle.form.specs.Refusal.{IsForm}
use Rattle.form.proofs.Encodings.{form-valid, rewritten-same}
use Rattle.form.proofs.Accepting.{accepted-form}
use Rattle.form.proofs.Alone.{accepted-product}
use Rattle.cubes.specs.Lists.{keep}
use Rattle.index.specs.declared.PointRecord.{PointRecord}
use Rattle.index.specs.declared.Indexed.{Indexed}
use Rattle.index.specs.Records.{no_product, no_record, holders, first_from, point_record_of, tabulate, form_index, is_index}
use Rattle.index.specs.Changes.{add_holder, drop_holder, map_first}
use Rattle.index.specs.Answers.{index_accepted, build_answer, appended_form, appended_bytes, removed_form, removed_bytes}
use Rattle.index.proofs.Records.{unheld-first, first_holds, first-before, last-counted}
use Rattle.index.proofs.InPlace.{first-changed}
use Rattle.index.proofs.Lists.{tabulate-next, index-length, index_at, index_is, appended-index, removed-index}
use Rattle.index.proofs.Accepting.{build-exactly, build-left, append-exactly, append-told, append-room, append-counted, append-refused, appended-sound, appended-read, appended-again, remove-exactly, remove-told, remove-room, remove-counted, remove-refused, removed-sound, removed-read, removed-again}
use Rattle.claims.specs.Demand3.{sum_of}
use Rattle.claims.specs.Indexed.{Kept, Changing, appending, removing, numbers_returned, room_left, list_left, was_taken, kept_after, touched, CountMoved, CanBeMade, built, kept_by, changed_products, products_kept, record_at, CallKeeps, Says, form_left, index_left, products_left, IndexKept}

-- ---- what a record says

counted : (ps : List (List Factor)) (w : ℕ) → holders ps w ≡ length (keep (λ p. product_at p w) ps)
unfolding holders keep
counted [] w = refl
counted (p ∷ ps) w = go (product_at p w) (counted ps w)
  where
    go : (t : Bool) → holders ps w ≡ length (keep (λ q. product_at q w) ps)
        → cond t (suc (holders ps w)) (holders ps w) ≡ length (cond t (p ∷ keep (λ q. product_at q w) ps) (keep (λ q. product_at q w) ps))
    go true e = ap suc e
    go false e = e

record-says : (ps : List (List Factor)) (w : ℕ) → length ps ≤ max_products → Says ps w (point_record_of ps w)
record-says ps w few = record {
  count = counted ps w;
  none = (λ e. go e (ℕ_discrete (holders ps w) 0), unheld-first 0 ps w);
  within = λ n. let r = first_holds 0 ps w n in omega (arith, r.1, r.2);
  holds = λ n. let r = first_holds 0 ps w n in let e : first_from 0 ps w ≡ r.0 = omega (arith, r.2) in ap (λ (k : ℕ). product_at (get_or ps k []) w) e ∙ r.3;
  first = λ k h l. first-before 0 ps w k h (omega arith);
}
  where
    go : first_from 0 ps w ≡ no_product → Dec (holders ps w ≡ 0) → holders ps w ≡ 0
    go e (yes z) = z
    go e (no n) = let r = first_holds 0 ps w n in absurd (omega (arith, r.1, r.2))

-- ---- sums

sum-append : {A : Type 0} (g : A → ℕ) (l m : List A) → sum_of g (l ++ m) ≡ sum_of g l + sum_of g m
unfolding sum_of
sum-append g [] m = omega arith
sum-append g (a ∷ l) m = omega (arith, sum-append g l m)

sum_same : {A : Type 0} (g h : A → ℕ) (l : List A) → ((a : A) → Mem a l → g a ≡ h a) → sum_of g l ≡ sum_of h l
unfolding sum_of
sum_same g h [] e = refl
sum_same g h (a ∷ l) e = ap₂ ◌+◌ (e a (inl refl)) (sum_same g h l (λ b m. e b (inr m)))

-- One point more: it is counted once for each product that holds it.
sizes-none : (ps : List (List Factor)) → sum_of (λ p. count (product_at p) 0) ps ≡ 0
unfolding sum_of select
sizes-none [] = refl
sizes-none (p ∷ ps) = omega (arith, sizes-none ps)

sizes-next : (ps : List (List Factor)) (k : ℕ) → sum_of (λ p. count (product_at p) (suc k)) ps ≡ sum_of (λ p. count (product_at p) k) ps + holders ps k
unfolding sum_of holders
sizes-next [] k = refl
sizes-next (p ∷ ps) k = omega (arith, count-suc (product_at p) k, sizes-next ps k, go (product_at p k))
  where
    go : (t : Bool) → cond t (suc (holders ps k)) (holders ps k) ≡ holders ps k + one t
    go true = omega arith
    go false = omega arith

counts-sum : (ps : List (List Factor)) (k : ℕ) → sum_of (λ r. r.count) (tabulate (point_record_of ps) k) ≡ sum_of (λ p. count (product_at p) k) ps
unfolding sum_of tabulate
counts-sum ps zero = sym (sizes-none ps)
counts-sum ps (suc k) =
    let next = ap (sum_of (λ (r : PointRecord). r.count)) (tabulate-next (point_record_of ps) k) ∙ sum-append (λ (r : PointRecord). r.count) (tabulate (point_record_of ps) k) (point_record_of ps k ∷ []) in
    omega (arith, next, counts-sum ps k, sizes-next ps k)

-- ---- what every call is given

-- A form that is accepted, of the n of the first one and with these products, and a list that begins with its index and ends with this rest.
record Holding (first : List ℕ) (ps : List (List Factor)) (rest : List PointRecord) (s : Kept) : Type 0 where
  sound : IsForm s.form
  variables : form_variables s.form ≡ form_variables first
  products : form_products s.form ≡ ps
  list : s.list ≡ form_index (decode_form s.form) ++ rest
  written : Bytes first → encode_form (decode_form s.form) ≡ s.form

module _ {first : List ℕ} {ps : List (List Factor)} {rest : List PointRecord} {s : Kept} (h : Holding first ps rest s) where
  held-take : take (2 ^ form_variables s.form) s.list ≡ form_index (decode_form s.form)
  held-take = ap (take (2 ^ form_variables s.form)) h.list ∙ take_at (form_index (decode_form s.form)) rest (2 ^ form_variables s.form) (index-length (decode_form s.form))

  held-drop : drop (2 ^ form_variables s.form) s.list ≡ rest
  held-drop = ap (drop (2 ^ form_variables s.form)) h.list ∙ drop_at (form_index (decode_form s.form)) rest (2 ^ form_variables s.form) (index-length (decode_form s.form))

  held-length : length s.list ≡ 2 ^ form_variables s.form + length rest
  held-length = ap length h.list ∙ length-append (form_index (decode_form s.form)) rest ∙ ap (λ (k : ℕ). k + length rest) (index-length (decode_form s.form))

  held-long : 2 ^ form_variables s.form ≤ length s.list
  held-long = omega (arith, held-length)

  held-index : is_index s.form s.list ≡ true
  held-index = (index_is s.form s.list held-long).1 held-take

  held_at : (w : ℕ) → w < 2 ^ form_variables s.form → record_at s.list w ≡ point_record_of (form_products s.form) w
  held_at w l =
      ap (λ (t : List PointRecord). record_at t w) h.list
      ∙ get_or-append (form_index (decode_form s.form)) rest no_record w (omega (arith, index-length (decode_form s.form))) ∙ index_at (decode_form s.form) w l

-- Built, the list is that of the form.
held-built : (form : List ℕ) (list : List PointRecord) → (build_answer form list).refusal ≡ 0 → Holding form (form_products form) (drop (2 ^ form_variables form) list) (built form list)
held-built form list z =
    let a = (build-exactly form list).0 z in
    record {
      sound = a.0;
      variables = refl;
      products = refl;
      list = build-left form list z ∙ ap (λ (k : ℕ). form_index (decode_form form) ++ drop k list) (index-length (decode_form form));
      written = λ b. rewritten-same form b a.0;
    }

-- ---- one call

-- The form that an accepted call makes, its bytes, and what the call does to the record of a point of the product.
abbrev form_made : Kept → Changing → Form
form_made s (appending product room) = appended_form s.form product
form_made s (removing room) = removed_form s.form

abbrev bytes_made : Kept → Changing → List ℕ
bytes_made s (appending product room) = appended_bytes s.form product
bytes_made s (removing room) = removed_bytes s.form

abbrev counted_by : Kept → Changing → PointRecord → PointRecord
counted_by s (appending product room) r = add_holder (length (form_products s.form)) r
counted_by s (removing room) r = drop_holder r

abbrev room_lent : Changing → List ℕ
room_lent (appending product room) = room
room_lent (removing room) = room

abbrev changed_by : Kept → Changing → ℕ → PointRecord → PointRecord
changed_by s c w r = cond (product_at (touched s c) w) (counted_by s c r) r

record Taken (s : Kept) (c : Changing) : Type 0 where
  told : numbers_returned s c ≡ index_accepted (form_made s c) (length (bytes_made s c))
  room : room_left s c ≡ front (bytes_made s c) (room_lent c)
  list : list_left s c ≡ map_first (changed_by s c) (2 ^ form_variables s.form) s.list
  sound : IsForm (bytes_made s c)
  read : decode_form (bytes_made s c) ≡ form_made s c
  written : encode_form (decode_form (bytes_made s c)) ≡ bytes_made s c
  variables : (form_made s c).variables ≡ form_variables s.form
  products : (form_made s c).products ≡ changed_products c (form_products s.form)
  index : (rest : List PointRecord) → map_first (changed_by s c) (2 ^ form_variables s.form) (form_index (decode_form s.form) ++ rest) ≡ form_index (form_made s c) ++ rest
  moved : (w : ℕ) → product_at (touched s c) w ≡ true → (r : PointRecord) → r.count ≡ holders (form_products s.form) w → CountMoved c r.count (counted_by s c r).count

taken : (s : Kept) (c : Changing) → (numbers_returned s c).refusal ≡ 0 → Taken s c
taken s (appending product room) z =
    let a = ((append-exactly s.form product s.list room).0 z).0 in record {
      told = append-told s.form product s.list room z;
      room = append-room s.form product s.list room z;
      list = append-counted s.form product s.list room z;
      sound = appended-sound s.form product a.form-sound a.product-sound a.few;
      read = appended-read s.form product;
      written = appended-again s.form product;
      variables = refl;
      products = refl;
      index = appended-index (form_variables s.form) (form_products s.form) (decode_product product);
      moved = λ w e r q. refl;
    }
taken s (removing room) z =
    let a = ((remove-exactly s.form s.list room).0 z).0 in record {
      told = remove-told s.form s.list room z;
      room = remove-room s.form s.list room z;
      list = remove-counted s.form s.list room z;
      sound = removed-sound s.form a.form-sound a.some;
      read = removed-read s.form;
      written = removed-again s.form;
      variables = refl;
      products = refl;
      index = λ rest. removed-index (form_variables s.form) (form_products s.form) rest a.some;
      moved = λ w e r q. let some = last-counted (form_products s.form) w a.some e in omega (arith, q, some);
    }

-- The bytes at the front of the room, as many as are told, are those of the form that is made.
form-taken : (s : Kept) (c : Changing) → (numbers_returned s c).refusal ≡ 0 → (kept_after s c).form ≡ bytes_made s c
form-taken s c z =
    let t = taken s c z in
    let chosen : (kept_after s c).form ≡ take (numbers_returned s c).length (room_left s c) = rw (eq-eqb (numbers_returned s c).refusal 0 z) in
    chosen ∙ ap₂ take (ap (λ (a : Indexed). a.length) t.told) t.room ∙ take-append_seam (bytes_made s c) (drop (length (bytes_made s c)) (room_lent c))

-- A refused call leaves form and list.
list-refused : (s : Kept) (c : Changing) → (numbers_returned s c).refusal ≢ 0 → list_left s c ≡ s.list
list-refused s (appending product room) n = append-refused s.form product s.list room n
list-refused s (removing room) n = remove-refused s.form s.list room n

abbrev kept : List ℕ → List PointRecord → Kept
kept form list = record { form = form; list = list }

kept-refused : (s : Kept) (c : Changing) → (numbers_returned s c).refusal ≢ 0 → kept_after s c ≡ s
kept-refused s c n =
    ap (λ (b : Bool). kept (cond b (take (numbers_returned s c).length (room_left s c)) s.form) (list_left s c)) (ne_eqb (numbers_returned s c).refusal 0 n)
    ∙ ap (kept s.form) (list-refused s c n)

module _ {first : List ℕ} {ps : List (List Factor)} {rest : List PointRecord} (s : Kept) (c : Changing) (h : Holding first ps rest s) where
  -- Accepted or refused, a call leaves what the next one is given.
  step : Holding first (cond (was_taken s c) (changed_products c ps) ps) rest (kept_after s c)
  step = go (ℕ_discrete (numbers_returned s c).refusal 0)
    where
      made : (numbers_returned s c).refusal ≡ 0 → Holding first (changed_products c ps) rest (kept (bytes_made s c) (list_left s c))
      made z =
          let t = taken s c z in record {
            sound = t.sound;
            variables = ap (λ (f : Form). f.variables) t.read ∙ t.variables ∙ h.variables;
            products = ap (λ (f : Form). f.products) t.read ∙ t.products ∙ ap (changed_products c) h.products;
            list = t.list ∙ ap (map_first (changed_by s c) (2 ^ form_variables s.form)) h.list ∙ t.index rest ∙ ap (λ (f : Form). form_index f ++ rest) (sym t.read);
            written = λ b. t.written;
          }

      go : Dec ((numbers_returned s c).refusal ≡ 0) → Holding first (cond (was_taken s c) (changed_products c ps) ps) rest (kept_after s c)
      go (yes z) =
          subst (λ (b : Bool). Holding first (cond b (changed_products c ps) ps) rest (kept_after s c)) (sym (eq-eqb (numbers_returned s c).refusal 0 z))
          (subst (λ (bytes : List ℕ). Holding first (changed_products c ps) rest (kept bytes (list_left s c))) (sym (form-taken s c z)) (made z))
      go (no n) =
          subst (λ (b : Bool). Holding first (cond b (changed_products c ps) ps) rest (kept_after s c)) (sym (ne_eqb (numbers_returned s c).refusal 0 n))
          (subst (Holding first ps rest) (sym (kept-refused s c n)) h)

  call-told : (numbers_returned s c).refusal ≡ 0
      → numbers_returned s c
      ≡ record { refusal = 0; place = 0; variables = form_variables first; length = length (kept_after s c).form; products = length (form_products (kept_after s c).form) }
  call-told z =
      let t = taken s c z in
      let e = form-taken s c z in
      let f = ap (λ (l : List ℕ). length (form_products l)) e ∙ ap (λ (f : Form). length f.products) t.read in
      t.told ∙ numbers (t.variables ∙ h.variables) (ap length (sym e)) (sym f)
    where
      numbers : {n m a b k l : ℕ} → n ≡ m → a ≡ b → k ≡ l
          → ◌≡◌ {A = Indexed} (record { refusal = 0; place = 0; variables = n; length = a; products = k }) (record { refusal = 0; place = 0; variables = m; length = b; products = l })
      numbers e f g = cc

  -- The record of a point after an accepted call is the change of the one before it.
  record-changed : (numbers_returned s c).refusal ≡ 0 → (w : ℕ) → w < 2 ^ form_variables first → record_at (list_left s c) w ≡ changed_by s c w (record_at s.list w)
  record-changed z w l =
      ap (λ (t : List PointRecord). record_at t w) (taken s c z).list
      ∙ first-changed (changed_by s c) (2 ^ form_variables s.form) s.list w no_record (subst (λ (n : ℕ). w < 2 ^ n) (sym h.variables) l) (held-long h)

  record-by : {b : Bool} → (numbers_returned s c).refusal ≡ 0 → (w : ℕ) → w < 2 ^ form_variables first → product_at (touched s c) w ≡ b
      → record_at (list_left s c) w ≡ cond b (counted_by s c (record_at s.list w)) (record_at s.list w)
  record-by z w l e = record-changed z w l ∙ ap (λ (t : Bool). cond t (counted_by s c (record_at s.list w)) (record_at s.list w)) e

  call-inside : (numbers_returned s c).refusal ≡ 0 → (w : ℕ) → w < 2 ^ form_variables first → product_at (touched s c) w ≡ true
      → CountMoved c (record_at s.list w).count (record_at (list_left s c) w).count
  call-inside z w l e =
      let below = subst (λ (n : ℕ). w < 2 ^ n) (sym h.variables) l in
      let before = ap (λ (r : PointRecord). r.count) (held_at h w below) in
      subst (λ (r : PointRecord). CountMoved c (record_at s.list w).count r.count) (sym (record-by z w l e)) ((taken s c z).moved w e (record_at s.list w) before)

-- The form, the list and the index in it are never at fault.
can-be-made : {first : List ℕ} {ps : List (List Factor)} {rest : List PointRecord} (s : Kept) (c : Changing) → Holding first ps rest s
    → ((numbers_returned s c).refusal ≡ 0) ↔ CanBeMade s.form c
can-be-made s (appending product room) h =
    let e = append-exactly s.form product s.list room in
    let f = accepted-product (form_variables s.form) product in (
      λ z. let a = e.0 z in (f.1 a.0.product-sound, a.0.few, a.1),
      λ m. e.1 (record { form-sound = h.sound; product-sound = f.0 m.0; long = held-long h; right = held-index h; few = m.1 }, m.2),
    )
can-be-made s (removing room) h =
    let e = remove-exactly s.form s.list room in (
      λ z. let a = e.0 z in (a.0.some, a.1),
      λ m. e.1 (record { form-sound = h.sound; long = held-long h; right = held-index h; some = m.0 }, m.1),
    )

call-keeps : {first : List ℕ} {ps : List (List Factor)} {rest : List PointRecord} (s : Kept) (c : Changing) → Holding first ps rest s → CallKeeps (form_variables first) s c
call-keeps s c h =
    record { accepts = can-be-made s c h; told = call-told s c h; outside = record-by s c h; inside = call-inside s c h; refused = kept-refused s c }

-- ---- lists of calls

run : {first : List ℕ} {rest : List PointRecord} (cs : List Changing) (ps : List (List Factor)) (s : Kept) → Holding first ps rest s → Holding first (products_kept s cs ps) rest (kept_by s cs)
unfolding kept_by products_kept
run [] ps s h = h
run (c ∷ cs) ps s h = run cs (cond (was_taken s c) (changed_products c ps) ps) (kept_after s c) (step s c h)

-- ---- the claim

pub index_kept : (form : List ℕ) (list : List PointRecord) → (build_answer form list).refusal ≡ 0 → (calls : List Changing) → IndexKept form list calls
unfolding form_index
index_kept form list z calls = record {
  accepted = (accepted-form now).1 held.sound;
  variables = held.variables;
  products = held.products;
  bytes = λ b. sym (held.written b) ∙ ap₂ (λ (n : ℕ) (ps : List (List Factor)). encode_form (record { variables = n; products = ps })) held.variables held.products;
  index = first-records;
  afresh = (
    (build-exactly now left).1 (held.sound, held-long held),
    build-left now left ((build-exactly now left).1 (held.sound, held-long held)) ∙ ap (λ (k : ℕ). form_index (decode_form now) ++ drop k left) (index-length (decode_form now))
        ∙ ap (λ (t : List PointRecord). form_index (decode_form now) ++ t) (held-drop held) ∙ sym held.list,
  );
  elsewhere = λ other l.
      let y = (build-exactly now other).1 (held.sound, subst (λ (n : ℕ). 2 ^ n ≤ length other) (sym held.variables) l) in (
        y,
        ap (take (2 ^ form_variables form)) (build-left now other y)
            ∙ take_at (form_index (decode_form now)) (drop (length (form_index (decode_form now))) other) (2 ^ form_variables form) (index-length (decode_form now) ∙ same) ∙ sym first-records,
      );
  says = λ w l.
      subst (Says (form_products now) w) (sym (held_at held w (subst (λ (n : ℕ). w < 2 ^ n) (sym held.variables) l))) (record-says (form_products now) w (form-valid now held.sound).short);
  rest = ap (λ (k : ℕ). drop k left) (sym same) ∙ held-drop held;
  long = omega (arith, held-length held, same, length-drop (2 ^ form_variables form) list, ((build-exactly form list).0 z).1);
  counts = sums;
  sizes = sums ∙ sum_same (λ p. length (select (product_at p) (2 ^ form_variables form))) (λ p. 2 ^ (form_variables form - length p)) (form_products now)
      (λ p m. subst (λ (n : ℕ). length (select (product_at p) (2 ^ n)) ≡ 2 ^ (n - length p)) held.variables
      (canonical-points (form_variables now) p ((form-valid now held.sound).canonicals p m) ((form-valid now held.sound).fitting p m)));
  each = λ before c after e. call-keeps (kept_by (built form list) before) c (run before (form_products form) (built form list) (held-built form list z));
}
  where
    now : List ℕ
    now = form_left form list calls

    left : List PointRecord
    left = index_left form list calls

    held : Holding form (products_left form list calls) (drop (2 ^ form_variables form) list) (kept_by (built form list) calls)
    held = run calls (form_products form) (built form list) (held-built form list z)

    same : 2 ^ form_variables now ≡ 2 ^ form_variables form
    same = ap (λ (n : ℕ). 2 ^ n) held.variables

    first-records : take (2 ^ form_variables form) left ≡ form_index (decode_form now)
    first-records = ap (λ (k : ℕ). take k left) (sym same) ∙ held-take held

    sums : sum_of (λ r. r.count) (take (2 ^ form_variables form) left) ≡ sum_of (λ p. length (select (product_at p) (2 ^ form_variables form))) (form_products now)
    sums = ap (sum_of (λ (r : PointRecord). r.count)) first-records ∙ counts-sum (form_products now) (2 ^ form_variables now)
        ∙ ap (λ (k : ℕ). sum_of (λ p. length (select (product_at p) k)) (form_products now)) same
