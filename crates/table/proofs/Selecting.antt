-- The numbers below a bound that pass a test, counted and written into lent room one by one. Every loop that goes through points so cites these.
-- Read next: Table.
use mathlib.Core.Path.{◌≡◌, sym, ap, ◌∙◌}
use mathlib.Core.Bool.{Bool, true, false, cond}
use mathlib.Core.List.{List, [], ◌∷◌, ◌++◌, map}
use Prim.Native.Nat.{ℕ, suc, ◌+◌, ◌≤◌, ◌<◌}
use native.Mathlib.Numerals.{add-one}
use native.Mathlib.Omega.{arith}
use lib.ListN.{length, set, length-append, length-map}
use Rattle.gf2.specs.Finite.{select}
use Rattle.gf2.proofs.Finite.{map_snoc, select-on, select-off, select-grows}
use Rattle.table.specs.Decision.{front}
use Rattle.table.proofs.Fill.{fill-push, fill-length}

-- One number more, where it passes and where not.
pub count-step : (t : ℕ → Bool) (k count next : ℕ) → count ≡ length (select t k) → (b : Bool) → t k ≡ b → next ≡ cond b (count + 1) count
    → next ≡ length (select t (k + 1))
count-step t k count next c true e q = rw (add-one, select-on t k e) (omega (arith, length-append (select t k) (k ∷ [])))
count-step t k count next c false e q = rw (add-one, select-off t k e) (q ∙ c)

-- Each number that passes is put through a map and written behind those before it.
pub write_step : {A : Type 0} (g : ℕ → A) (t : ℕ → Bool) (k count : ℕ) (room done later : List A)
    → count ≡ length (select t k) → done ≡ front (map g (select t k)) room → (t k ≡ true → count < length room)
    → (b : Bool) → t k ≡ b → later ≡ cond b (set done count (g k)) done → later ≡ front (map g (select t (k + 1))) room
write_step g t k count room done later c d r false e q = rw (add-one, select-off t k e) (q ∙ d)
write_step {A} g t k count room done later c d r true e q =
    let written = map g (select t k) in
    let l : count ≡ length written = c ∙ sym (length-map (select t k) g) in
    let next : map g (select t (k + 1)) ≡ written ++ (g k ∷ []) = rw (add-one, select-on t k e) (map_snoc g (select t k) k) in
    q ∙ rw (d, l) (fill-push written room (g k) (rw l at (r e)))
    ∙ ap (λ (w : List A). front w room) (sym next)

-- Where the room is enough for all of them below m, it is while k of these are passed, and one more has its place.
module _ {A : Type 0} (g : ℕ → A) (t : ℕ → Bool) (k m : ℕ) (room : List A) (enough : length (map g (select t m)) ≤ length room) where
  pub written-length : k ≤ m → length (front (map g (select t k)) room) ≡ length room
  written-length h = fill-length (map g (select t k)) room (omega (arith, select-grows t k m h, length-map (select t k) g, length-map (select t m) g))

  pub written-room : k < m → t k ≡ true → length (select t k) < length room
  written-room h e = omega (arith, select-grows t (suc k) m h, ap length (select-on t k e), length-append (select t k) (k ∷ []), length-map (select t m) g)
