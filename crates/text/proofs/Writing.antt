-- Texts written one after the other (specs.Writing). Every function that writes a text of several parts cites these.
use mathlib.Core.Path.{◌≡◌, refl, sym, ap, ap₂, ◌∙◌, subst}
use mathlib.Core.List.{List, [], ◌∷◌, ◌++◌, append_assoc}
use Prim.Native.Nat.{ℕ, ◌+◌, ◌-◌, ◌≤◌, ◌<◌}
use native.Mathlib.Nat.{add-zero}
use native.Mathlib.Numerals.{add-one}
use native.Mathlib.Omega.{arith}
use lib.ListN.{length, take, drop, length-append}
use lib.Seq.{sets, sets-eq, length-sets, take_at}
use borrow.Rule.Slice.PartMut.{put_mid, post_of, Post-is}
use Rattle.table.specs.Decision.{front}
use Rattle.table.proofs.Fill.{sets-append}
use Rattle.text.specs.declared.Writer.{Writer}
use Rattle.text.specs.Writing.{Wrote, Fits, with_text}
use Rattle.text.proofs.Pieces.{pieces, pieces-part}

-- Nothing is written.
pub with-none : (out : Writer) → out ≡ with_text out []
unfolding with_text
with-none out = ap (λ (k : ℕ). record { room = out.room; place = k }) (sym (add-zero out.place))

-- A text and the one after it.
pub with-both : (out : Writer) (first second : List ℕ) → with_text (with_text out first) second ≡ with_text out (first ++ second)
unfolding with_text
with-both out first second =
    ap₂ (λ (bytes : List ℕ) (place : ℕ). record { room = record out.room { now = bytes }; place = place }) (sets-append out.room.now out.place first second _ refl)
    (omega (arith, length-append first second))

-- What is written by a copy of the word to its place.
pub word-copied : (room : List ℕ) (place : ℕ) (word copied : List ℕ) → place + length word ≤ length room → copied ≡ word → put_mid place (place + length word - place) room copied ≡ sets room place word
word-copied room place word copied h e =
    let rest : post_of place (place + length word - place) room ≡ drop (place + length word) room = Post-is place (place + length word) room (omega arith) in
    rw (e, rest) (sym (sets-eq word room place h ∙ append_assoc (take place room) word (drop (place + length word) room)))

-- Room for both is room for the first, and after it for the second.
pub fits-first : {out : Writer} (first second : List ℕ) → Fits out (first ++ second) → Fits out first
fits-first first second h = record { fits = omega (arith, h.fits, length-append first second) }

pub fits-then : {out : Writer} (first second : List ℕ) → Fits out (first ++ second) → Fits (with_text out first) second
unfolding with_text
fits-then {out} first second h = record { fits = omega (arith, h.fits, length-append first second, length-sets out.room.now out.place first) }

-- Where the next text goes, and that what is written keeps the number of bytes.
pub with-place : (out : Writer) (text : List ℕ) → (with_text out text).place ≡ out.place + length text
unfolding with_text
with-place out text = refl

pub with-length : (out : Writer) (text : List ℕ) → length (with_text out text).room.now ≡ length out.room.now
unfolding with_text
with-length out text = length-sets out.room.now out.place text

-- What a function that writes a text of several parts goes by.
pub ruleset parts = (with-both, with-place, with-length, append_assoc, length-append)

-- Room for a text, as an equal text, and so of what is written.
pub fits-same : {out : Writer} {first second : List ℕ} → first ≡ second → Fits out first → Fits out second
fits-same {out} e h = subst (Fits out) e h

pub wrote-same : (out : Writer) {after : Writer} {first second : List ℕ} → first ≡ second → after ≡ with_text out first → after ≡ with_text out second
wrote-same out e w = w ∙ ap (with_text out) e

-- ---- a text of k pieces, written one at a time

module _ (out : Writer) (piece : ℕ → List ℕ) (i : ℕ) {after : Writer} (w : after ≡ with_text out (pieces piece i)) where
  -- Room for the whole text is room for the next piece.
  pub fits-piece : (k : ℕ) {text : List ℕ} → text ≡ pieces piece k → Fits out text → i < k → Fits after (piece i)
  unfolding with_text
  fits-piece k e h less =
      rw w (record { fits = omega (arith, h.fits, ap length e, length-sets out.room.now out.place (pieces piece i), pieces-part piece i k less, length-append (pieces piece i) (piece i)) })

  -- One piece more, and all of them.
  pub wrote-piece : {last : Writer} → last ≡ with_text after (piece i) → last ≡ with_text out (pieces piece (i + 1))
  wrote-piece v = v ∙ ap (λ (o : Writer). with_text o (piece i)) w ∙ with-both out (pieces piece i) (piece i) ∙ ap (λ (j : ℕ). with_text out (pieces piece j)) (sym (add-one i))

  pub wrote-pieces : (k : ℕ) {text : List ℕ} → text ≡ pieces piece k → i ≡ k → after ≡ with_text out text
  wrote-pieces k e q = w ∙ ap (with_text out) (ap (pieces piece) q ∙ sym e)

-- ---- a writer of which the bytes are taken back

-- What a writer has written is written into its bytes.
pub wrote : (out : Writer) (text : List ℕ) {after : Writer} → after ≡ with_text out text → Wrote out.room.now out.place text after.room.now after.place
unfolding with_text
wrote out text e = rw e (record { bytes = refl; place = refl })

-- What is written keeps the number of bytes.
pub wrote-length : {before text after : List ℕ} {at next : ℕ} → Wrote before at text after next → length after ≡ length before
wrote-length {before} {text} {after} {at} w = ap length w.bytes ∙ length-sets before at text

-- A text and the one after it, by bytes and places.
pub wrote-both : {before : List ℕ} {at : ℕ} {first after : List ℕ} {next : ℕ} {second last : List ℕ} {end : ℕ} → Wrote before at first after next → Wrote after next second last end → Wrote before at (first ++ second) last end
wrote-both {before} {at} {first} {after} {next} {second} {last} {end} w v = record {
  bytes = v.bytes ∙ ap (λ (b : List ℕ). sets b next second) w.bytes ∙ ap (λ (k : ℕ). sets (sets before at first) k second) w.place
      ∙ sets-append before at first second _ refl;
  place = omega (arith, w.place, v.place, length-append first second);
}

-- ---- a text at the front of lent bytes

module _ {before text after : List ℕ} {next : ℕ} (h : length text ≤ length before) (w : Wrote before 0 text after next) where
  pub wrote-front : after ≡ front text before
  wrote-front =
      let z : 0 + length text ≡ length text = omega arith in
      w.bytes ∙ sets-eq text before 0 (omega arith) ∙ ap (λ (k : ℕ). text ++ drop k before) z

  pub wrote-fits : next ≤ length after
  wrote-fits = omega (arith, w.place, wrote-length w)

  pub wrote-part : take next after ≡ text
  wrote-part =
      let n : length text ≡ next = omega (arith, w.place) in
      rw wrote-front (take_at text (drop (length text) before) next n)
