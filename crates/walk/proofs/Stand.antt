-- Where a walk over the table of bases stands: each way that an entry, a point and a degree can go, as one law.
use mathlib.Core.Path.{◌≡◌, refl, sym, ap, ◌∙◌, subst}
use mathlib.Core.Bool.{true, false}
use mathlib.Core.Logic.{◌≢◌}
use mathlib.Core.List.{List, [], ◌∷◌, ◌++◌, map, flat_map, append_assoc, append-nil}
use Prim.Native.Nat.{ℕ, zero, suc, ◌+◌, ◌-◌, ◌*◌, ◌^◌, ◌≤◌, ◌<◌}
use native.Mathlib.Numerals.{add-one}
use native.Mathlib.Omega.{arith}
use lib.ListN.{length, get_or, drop, drop_of_length-le}
use lib.Seq.{drop-nil, slice_empty}
use Rattle.cubes.specs.Lists.{keep}
use Rattle.cubes.specs.Cubes.{Candidate}
use Rattle.cubes.specs.Candidates.{points, candidates_at}
use Rattle.cubes.specs.Records.{record_length}
use Rattle.bases.specs.Entries.{entries}
use Rattle.bases.specs.Bases.{start, stop, entries_of, takes_point}
use Rattle.bases.proofs.Table.{entries_at}
use Rattle.walk.specs.declared.Progress.{Progress}
use Rattle.walk.specs.declared.Tally.{Tally}
use Rattle.masks.specs.Points.{prime_by, record_by}
use Rattle.bases.specs.Entry.{candidate_at, EntryAt}
use Rattle.bases.proofs.Bounds.{entry-mem}
use Rattle.walk.specs.Places.{lower_degrees, of_degree_from, from_point, taken_from, placed}
use Rattle.walk.specs.Walk.{State, going_on, stopping, walk, pass_masked, walk_masked, Reaches, Stops}
use Rattle.walk.proofs.Points.{points-length, points-cons, point-first}
use Rattle.walk.proofs.Rows.{placed-next, placed-taken, drop-one}
use Rattle.walk.proofs.Steps.{pass_kept, walk-on, walk-stop}

-- ---- one part of the candidates after the other

module _ (n on free : ℕ) (cs : List Candidate) (from : Progress) (lent : List ℕ) where
  pub reaches-start : record_length * from.tally.written ≤ length lent → Reaches n on free cs cs from lent from lent
  reaches-start h = record { same = λ rest. refl; wrote = h }

  module _ (es ds : List Candidate) (q : Progress) (middle : List ℕ) (a : Reaches n on free cs (es ++ ds) from lent q middle) where
    parted : (rest : List Candidate) → drop q.skip ((es ++ ds) ++ rest) ≡ drop q.skip (es ++ (ds ++ rest))
    parted rest = ap (drop q.skip) (append_assoc es ds rest)

    pub reaches-next : (r : Progress) (room : List ℕ) → Reaches n on free es [] q middle r room → Reaches n on free cs ds from lent r room
    reaches-next r room b = record {
      same = λ rest. a.same rest ∙ ap (λ l. walk_masked n on free l (going_on q.tally middle)) (parted rest) ∙ b.same (ds ++ rest);
      wrote = b.wrote;
    }

    pub stops-next : (t : Tally) (room : List ℕ) → Stops n on free es q middle t room → Stops n on free cs from lent t room
    stops-next t room b rest = a.same rest ∙ ap (λ l. walk_masked n on free l (going_on q.tally middle)) (parted rest) ∙ b (ds ++ rest)

-- ---- the entries of a point

-- The candidates of the entries from place i on.
abbrev pub ahead : ℕ → ℕ → ℕ → ℕ → List Candidate
ahead n d p i = map (candidate_at d p) (taken_from n d p i)

pub ahead-all : (n d p : ℕ) → n ≤ 6 → d ≤ 6 → candidates_at n d p ≡ ahead n d p (start d)
unfolding entries_of
ahead-all n d p hn hd = entries_at n d p hn hd

pub ahead-none : (n d p : ℕ) → ahead n d p (stop d) ≡ []
unfolding keep
ahead-none n d p = ap (λ l. map (candidate_at d p) (keep (takes_point n p) l)) (slice_empty (stop d) entries)

module _ (n on free d p i j : ℕ) (cs : List Candidate) (from : Progress) (lent : List ℕ) (r : Progress) (room : List ℕ)
    (a : Reaches n on free cs (ahead n d p i) from lent r room) (six : d ≤ 6) (h : i < stop d) (e : i + 1 ≡ j) where
  next : (t : Progress) (after : List ℕ) → Reaches n on free cs (ahead n d p (i + 1)) from lent t after → Reaches n on free cs (ahead n d p j) from lent t after
  next t after = subst (λ (k : ℕ). Reaches n on free cs (ahead n d p k) from lent t after) e

  pub entry-off : takes_point n p (get_or entries i 0) ≡ false → Reaches n on free cs (ahead n d p j) from lent r room
  entry-off o = next r room (record {
    same = λ rest. a.same rest ∙ ap (λ l. walk_masked n on free (drop r.skip l) (going_on r.tally room)) (placed-next n d p i six h rest o);
    wrote = a.wrote;
  })

  module _ (x : ℕ) (own : x ≡ get_or entries i 0) (o : takes_point n p (get_or entries i 0) ≡ true) where
    front : (rest : List Candidate) → walk_masked n on free (drop from.skip (cs ++ rest)) (going_on from.tally lent)
        ≡ walk_masked n on free (drop r.skip (candidate_at d p x ∷ placed n d p (i + 1) rest)) (going_on r.tally room)
    front rest =
        a.same rest
        ∙ ap (λ l. walk_masked n on free (drop r.skip l) (going_on r.tally room))
        (placed-taken n d p i six h rest o ∙ ap (λ (z : ℕ). candidate_at d p z ∷ placed n d p (i + 1) rest) (sym own))

    pub entry-skipped : r.skip ≢ 0 → Reaches n on free cs (ahead n d p j) from lent (record { skip = r.skip - 1; tally = r.tally }) room
    entry-skipped z = next (record { skip = r.skip - 1; tally = r.tally }) room (record {
      same = λ rest. front rest ∙ ap (λ l. walk_masked n on free l (going_on r.tally room)) (drop-one r.skip (candidate_at d p x) (placed n d p (i + 1) rest) z);
      wrote = a.wrote;
    })

    module _ (z : r.skip ≡ 0) where
      met : (rest : List Candidate) → walk_masked n on free (drop from.skip (cs ++ rest)) (going_on from.tally lent)
          ≡ walk_masked n on free (candidate_at d p x ∷ placed n d p (i + 1) rest) (going_on r.tally room)
      met rest = front rest ∙ ap (λ (k : ℕ). walk_masked n on free (drop k (candidate_at d p x ∷ placed n d p (i + 1) rest)) (going_on r.tally room)) z

      pub entry-passed : (t : Tally) (after : List ℕ) → going_on t after ≡ pass_masked n on free (candidate_at d p x) (going_on r.tally room)
          → Reaches n on free cs (ahead n d p j) from lent (record { skip = r.skip; tally = t }) after
      entry-passed t after v =
          let k = pass_kept (prime_by n on free) (record_by n on) (candidate_at d p x) (length room) (going_on r.tally room) (record { keeps = refl; wrote = a.wrote }) in
          next (record { skip = r.skip; tally = t }) after (record {
            same = λ rest. met rest
                ∙ walk-on (prime_by n on free) (record_by n on) (candidate_at d p x) (placed n d p (i + 1) rest) (going_on r.tally room) (going_on t after) v refl
                ∙ ap (λ (k : ℕ). walk_masked n on free (drop k (placed n d p (i + 1) rest)) (going_on t after)) (sym z);
            wrote = omega (arith, k.keeps, k.wrote, ap (λ (s : State). s.tally.written) v, ap (λ (s : State). length s.room) v);
          })

      pub entry-stopped : (t : Tally) (after : List ℕ) → stopping t after ≡ pass_masked n on free (candidate_at d p x) (going_on r.tally room)
          → Stops n on free cs from lent t after
      entry-stopped t after v rest =
          met rest ∙ walk-stop (prime_by n on free) (record_by n on) (candidate_at d p x) (placed n d p (i + 1) rest) (going_on r.tally room) (stopping t after) v refl

-- The entry at a place that the walk comes to.
pub entry-stands : (n d p i : ℕ) → n ≤ 6 → d ≤ n → p < 2 ^ n → start d ≤ i → i < stop d → takes_point n p (get_or entries i 0) ≡ true → EntryAt n d p (get_or entries i 0)
entry-stands n d p i few short below low high t = record {
  few = few;
  short = short;
  point = below;
  listed = entry-mem d i (omega arith) low high;
  taken = t;
}

-- ---- the points of a degree

pub degree-cons : (n d p : ℕ) → p < 2 ^ n → of_degree_from n d p ≡ candidates_at n d p ++ of_degree_from n d (p + 1)
unfolding of_degree_from flat_map
degree-cons n d p h = rw (add-one) (ap (flat_map (candidates_at n d)) (points-cons n p h))

pub degree-none : (n d p : ℕ) → 2 ^ n ≤ p → of_degree_from n d p ≡ []
unfolding of_degree_from flat_map
degree-none n d p h = ap (flat_map (candidates_at n d)) (drop_of_length-le (points n) {i = p} (omega (arith, points-length (2 ^ n))))

-- ---- the degrees

-- The candidates of less than degree k, of which those of the highest degree are from a point on.
unfoldable pub remaining : ℕ → ℕ → ℕ → List Candidate
remaining n zero point = []
remaining n (suc d) point = of_degree_from n d point ++ lower_degrees n d

pub remaining-cons : (n d point : ℕ) → remaining n (d + 1) point ≡ of_degree_from n d point ++ remaining n d 0
unfolding remaining lower_degrees from_point of_degree_from
remaining-cons n zero point = refl
remaining-cons n (suc d) point = rw (add-one) (ap (λ l. of_degree_from n (suc d) point ++ l) (point-first n d))

pub remaining-all : (n degree point : ℕ) → remaining n (degree + 1) point ≡ from_point n degree point
unfolding remaining from_point of_degree_from
remaining-all n degree point = rw (add-one) refl

pub remaining-none : (n point : ℕ) → remaining n 0 point ≡ []
unfolding remaining
remaining-none n point = refl

-- At the end nothing is left, and the walk has ended as it goes on.
module _ {n on free : ℕ} {cs : List Candidate} {from : Progress} {lent : List ℕ} {r : Progress} {room : List ℕ} (a : Reaches n on free cs [] from lent r room) where
  pub walk-ended : going_on r.tally room ≡ walk_masked n on free (drop from.skip cs) (going_on from.tally lent)
  unfolding walk
  walk-ended =
      sym (ap (λ l. walk_masked n on free l (going_on r.tally room)) (drop-nil r.skip))
      ∙ sym (a.same []) ∙ ap (λ l. walk_masked n on free (drop from.skip l) (going_on from.tally lent)) (append-nil cs)

pub walk-stopped : (n on free : ℕ) (cs : List Candidate) (from : Progress) (lent : List ℕ) (t : Tally) (room : List ℕ) → Stops n on free cs from lent t room
    → stopping t room ≡ walk_masked n on free (drop from.skip cs) (going_on from.tally lent)
walk-stopped n on free cs from lent t room s = sym (s []) ∙ ap (λ l. walk_masked n on free (drop from.skip l) (going_on from.tally lent)) (append-nil cs)
