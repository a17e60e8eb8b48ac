-- The words of the vectors that may follow one of a given lead: what they hold, computed once over all of them, and that it says what `narrowed` asks.
use mathlib.Core.Path.{◌≡◌, refl}
use mathlib.Core.Bool.{Bool, true, false, not, beq, ◌&&◌}
use Prim.Native.Nat.{ℕ, suc, ◌/◌, ◌%◌, ◌^◌, ◌≤◌, ◌<◌}
use native.Mathlib.Omega.{arith}
use lib.Dec.{ltb, leb}
use lib.Pow.{pow_mono}
use borrow.Author.Tests.{ltb-true, leb-true, lt-ltb, le-leb, not-true}
use Rattle.gf2.specs.Bits.{bit, lead, has_lead}
use Rattle.gf2.specs.Finite.{all}
use Rattle.gf2.proofs.Logic.{same, and_l, and_r, and_i, beq-eq}
use Rattle.gf2.proofs.Finite.{all-at}
use Rattle.gf2.proofs.Leads.{lead_is, lead_low, lead_high, lead-rise}
use Rattle.moves.specs.Moves.{mask_size}
use Rattle.point_sets.specs.Sets.{set_variables, set_size}
use Rattle.subspace_search.specs.Search.{following_words, following_word}

-- The word of x has its bit exactly where x has a higher lead than the place and that bit clear.
right_at : ℕ → ℕ → Bool
right_at place x = beq (bit (x % mask_size) (following_word place (x / mask_size))) (leb (2 ^ suc place) x && not (bit place x))

all_right : all (λ place. all (right_at place) set_size) set_variables ≡ true
unfolding all bit following_words right_at
all_right = refl

pub following-word : (place x : ℕ) → place < set_variables → x < set_size
    → bit (x % mask_size) (following_word place (x / mask_size)) ≡ leb (2 ^ suc place) x && not (bit place x)
unfolding right_at
following-word place x h l =
    beq-eq (bit (x % mask_size) (following_word place (x / mask_size))) (leb (2 ^ suc place) x && not (bit place x))
    (all-at (right_at place) set_size (all-at (λ place. all (right_at place) set_size) set_variables all_right place h) x l)

-- To be above b without its lead bit is to have a higher lead, with that bit clear.
pub following-lead : (b x : ℕ) → 0 < b → ltb b x && not (has_lead b x) ≡ leb (2 ^ suc (lead b)) x && not (has_lead b x)
following-lead b x p = same (ltb b x && not (has_lead b x)) (leb (2 ^ suc (lead b)) x && not (has_lead b x))
    (λ e. let c = and_r (ltb b x) (not (has_lead b x)) e in
    and_i (leb (2 ^ suc (lead b)) x) (not (has_lead b x)) (le-leb (2 ^ suc (lead b)) x (above (ltb-true b x (and_l (ltb b x) (not (has_lead b x)) e)) (not-true (has_lead b x) c))) c)
    (λ e. let c = and_r (leb (2 ^ suc (lead b)) x) (not (has_lead b x)) e in
    and_i (ltb b x) (not (has_lead b x)) (lt-ltb b x (omega (arith, lead_high (lead b) b (lead_is b p), leb-true (2 ^ suc (lead b)) x (and_l (leb (2 ^ suc (lead b)) x) (not (has_lead b x)) e)))) c)
  where
    above : b < x → has_lead b x ≡ false → 2 ^ suc (lead b) ≤ x
    above l e = omega (arith, lead_low (lead x) x (lead_is x (omega arith)), pow_mono (lead-rise b x p l e))
