-- `subspace_search::search` meets its contract: what the loop has found after the first vectors below k, and where it may stop. Assumes nothing.
use mathlib.Core.Path.{◌≡◌, sym, ap, ◌∙◌, fun_ext}
use mathlib.Core.Bool.{Bool, true, false}
use mathlib.Core.List.{List, [], ◌∷◌, ◌++◌, append-nil}
use Prim.Native.Nat.{ℕ, suc, ◌+◌, ◌-◌, ◌^◌, ◌≤◌, ◌<◌}
use native.Mathlib.Numerals.{add-one}
use native.Mathlib.Nat.{lt_of_lt_of_le, le_of_lt}
use native.Mathlib.Omega.{arith}
use lib.ListN.{length, length-append}
use lib.Pow.{pow_mono, pow_pos}
use Rattle.gf2.specs.Bits.{lead}
use Rattle.gf2.proofs.Leads.{lead-fits}
use Rattle.basis.specs.declared.ShortList.{ShortList}
use Rattle.basis.specs.Short.{listed, short}
use Rattle.basis.proofs.Values.{short-listed, short-len}
use Rattle.point_sets.specs.Sets.{set_variables, set_size, member, LeastFrom}
use Rattle.subspace_search.specs.Search.{narrowed, longer, longest}
use Rattle.subspace_search.proofs.Steps.{longer-old, longer-whole, longer-again, longest-none, found_below, found-start, found-end, found-jump, found-next, found-stop}
use Rattle.subspace_search.proofs.+search.Goals as goal

-- `first` is what was found before the loop: the longer one of `best` and the prefix.
module _ (n left : ℕ) (best first prefix : ShortList) (set : List ℕ) (e : first ≡ short (longer (listed best) (listed prefix))) where
  abbrev below : ℕ → List ℕ
  below k = found_below n (left - 1) (listed first) (listed prefix) (member set) k

  begins : (k : ℕ) → LeastFrom set 1 k → first ≡ short (below k)
  begins k m =
      e ∙ ap short (sym (
      found-jump n (left - 1) (listed first) (listed prefix) (member set) 1 k m.above m.none
      ∙ found-start n (left - 1) (listed first) (listed prefix) (member set)
      ∙ ap (λ l. longer l (listed prefix)) (short-listed first (longer (listed best) (listed prefix)) e) ∙ longer-again (listed best) (listed prefix)
      ))

  -- With all first vectors done, it is what the contract says.
  whole : 0 < left → short (below (2 ^ n)) ≡ short (longer (listed best) (listed prefix ++ longest n left (member set)))
  whole h =
      let l : suc (left - 1) ≡ left = omega arith in
      ap short (
      found-end n (left - 1) (listed first) (listed prefix) (member set)
      ∙ ap (λ (d : ℕ). longer (listed first) (listed prefix ++ longest n d (member set))) l
      ∙ ap (λ f. longer f (listed prefix ++ longest n left (member set))) (short-listed first (longer (listed best) (listed prefix)) e)
      ∙ longer-whole (listed best) (listed prefix) (longest n left (member set))
      )

  -- No later vector can win, or there is none.
  stops : 0 < left → (k : ℕ) → 0 < k → k ≤ 2 ^ n → (found : ShortList) → found ≡ short (below k) → prefix ≡ short (listed prefix)
      → prefix.len + n ≤ found.len + lead k → found ≡ short (longer (listed best) (listed prefix ++ longest n left (member set)))
  stops h k p l found q r g =
      q ∙ ap short (sym (found-stop n (left - 1) (listed first) (listed prefix) (member set) k p
      (omega (arith, g, short-len found (below k) q, short-len prefix (listed prefix) r)) l)) ∙ whole h

  ends : 0 < left → (k : ℕ) → 2 ^ n ≤ k → (found : ShortList) → found ≡ short (below k) → ((x : ℕ) → 2 ^ n ≤ x → x < k → member set x ≡ false)
      → found ≡ short (longer (listed best) (listed prefix ++ longest n left (member set)))
  ends h k l found q g = q ∙ ap short (found-jump n (left - 1) (listed first) (listed prefix) (member set) (2 ^ n) k l g) ∙ whole h

  -- One vector more, and the next one of the set is k'.
  module _ (k k' : ℕ) (p : 0 < k) (i : member set k ≡ true) (found : ShortList) (next : List ℕ) (q : found ≡ short (below k))
      (f : (x : ℕ) → member next x ≡ narrowed (member set) k x) (m : LeastFrom set (k + 1) k') where
    goes_on : longer (below k) ((listed prefix ++ (k ∷ [])) ++ longest n (left - 1) (member next)) ≡ below k'
    goes_on =
        let d = left - 1 in
        ap (λ (g : ℕ → Bool). longer (below k) ((listed prefix ++ (k ∷ [])) ++ longest n d g)) (fun_ext f)
        ∙ sym (found-next n d (listed first) (listed prefix) (member set) k p i)
        ∙ sym (found-jump n d (listed first) (listed prefix) (member set) (suc k) k' (rw add-one at m.above) (rw add-one at m.none))

    -- What begins with the prefix and k is searched.
    turns : (begun after : ShortList) → begun ≡ short (listed prefix ++ (k ∷ []))
        → after ≡ short (longer (listed found) (listed begun ++ longest n (left - 1) (member next))) → after ≡ short (below k')
    turns begun after b r =
        let rest = longest n (left - 1) (member next) in
        r ∙ ap short (
        ap (λ l. longer l (listed begun ++ rest)) (short-listed found (below k) q)
        ∙ ap (λ l. longer (below k) (l ++ rest)) (short-listed begun (listed prefix ++ (k ∷ [])) b)
        ∙ goes_on
        )

    -- It can come to nothing longer.
    skips : (most : ℕ) → ((d : ℕ) → (prefix.len + 1) + length (longest n d (member next)) ≤ most) → most ≤ found.len → prefix ≡ short (listed prefix)
        → found ≡ short (below k')
    skips most r g e =
        let rest = longest n (left - 1) (member next) in
        let p = listed prefix in
        let all = (p ++ (k ∷ [])) ++ rest in
        let room : length all ≤ length (below k) = omega (
          arith,
          r (left - 1),
          short-len found (below k) q,
          short-len prefix p e,
          length-append (p ++ (k ∷ [])) rest,
          length-append p (k ∷ []),
        ) in
        q ∙ ap short (sym (longer-old (below k) all room) ∙ goes_on)

-- In a turn k is a vector of n variables, and so one of the set.
k-below : (n size k : ℕ) → size ≡ 2 ^ n → k < size → k < 2 ^ n
k-below n size k e h = omega (arith, e)

k-few : (n k : ℕ) → n ≤ set_variables → k < 2 ^ n → k < set_size
k-few n k h l = lt_of_lt_of_le l (pow_mono h)

-- ---- the answers

pub returns-then-left-eq0 : goal.returns-then-left-eq0
returns-then-left-eq0 t c =
    let p = listed c.args.prefix in
    let none = longest-none c.args.n c.args.left (member c.args.set.now) c.if-left-eq0.true in
    c.longer-found.ensures ∙ ap (λ l. short (longer (listed c.args.best) l)) (sym (append-nil p) ∙ ap (λ l. p ++ l) (sym none))

pub loop-k-init : goal.loop-k-init
loop-k-init t c =
    let m = c.least_from-k.ensures in (
      omega arith,
      c.point_count-size.ensures,
      omega (arith, m.above),
      m.most,
      begins c.args.n c.args.left c.args.best c.longer-found.result c.args.prefix c.args.set.now c.longer-found.ensures c.least_from-k.result m,
      λ x h l. m.none x (omega (arith, pow_pos c.args.n)) l,
      m.held,
    )

pub overflow_sub-prefix : goal.overflow_sub-prefix
overflow_sub-prefix t c =
    let l = c.loop-k in
    omega (arith, c.lead.ensures, lead-fits c.args.n l.k l.invariant.2 (k-below c.args.n c.point_count-size.result l.k l.invariant.1 c.loop-k-test.true))

pub returns-then-prefix-n : goal.returns-then-prefix-n
returns-then-prefix-n t c =
    let l = c.loop-k in
    let n = c.args.n in
    let b = k-below n c.point_count-size.result l.k l.invariant.1 c.loop-k-test.true in
    let h = lead-fits n l.k l.invariant.2 b in
    stops n c.args.left c.args.best c.longer-found.result c.args.prefix c.args.set.now c.longer-found.ensures
    l.invariant.0 l.k l.invariant.2 (le_of_lt b) l.found l.invariant.4 c.requires.prefix_value
    (omega (arith, h, c.if-prefix-n.true, c.lead.ensures))

pub loop-k-preserved-then-reach-found : goal.loop-k-preserved-then-reach-found
loop-k-preserved-then-reach-found t c =
    let o = c.loop-k in
    let i = o.invariant in
    let m = c.least_from-k-in-loop-k.ensures in
    let b = k-below c.args.n c.point_count-size.result o.k i.1 c.loop-k-test.true in
    let held = i.6 (k-few c.args.n o.k c.requires.n_le_set_variables.0 b) in (
      i.0,
      i.1,
      omega (arith, m.above),
      m.most,
      skips c.args.n c.args.left c.args.best c.longer-found.result c.args.prefix c.args.set.now c.longer-found.ensures
          o.k c.least_from-k-in-loop-k.result i.2 held o.found c.narrow-next.result i.4 c.narrow-next.ensures m
          c.reach.result c.reach.ensures c.if-reach-found.true c.requires.prefix_value,
      λ x h g. m.none x (omega (arith, b)) g,
      m.held,
    )

pub loop-k-preserved : goal.loop-k-preserved
loop-k-preserved t c =
    let o = c.loop-k in
    let i = o.invariant in
    let m = c.least_from-k-in-loop-k.ensures in
    let b = k-below c.args.n c.point_count-size.result o.k i.1 c.loop-k-test.true in
    let held = i.6 (k-few c.args.n o.k c.requires.n_le_set_variables.0 b) in (
      i.0,
      i.1,
      omega (arith, m.above),
      m.most,
      turns c.args.n c.args.left c.args.best c.longer-found.result c.args.prefix c.args.set.now c.longer-found.ensures
          o.k c.least_from-k-in-loop-k.result i.2 held o.found c.narrow-next.result i.4 c.narrow-next.ensures m
          c.push.result c.search-found.result c.push.ensures c.search-found.ensures,
      λ x h g. m.none x (omega (arith, b)) g,
      m.held,
    )

pub returns : goal.returns
returns t c =
    let l = c.loop-k in
    ends c.args.n c.args.left c.args.best c.longer-found.result c.args.prefix c.args.set.now c.longer-found.ensures
    l.invariant.0 l.k (omega (arith, l.invariant.1)) l.found l.invariant.4 l.invariant.5
