-- `basis::Basis::join` meets its contract: what is written, then the carried vector placed among those not passed yet, is the whole result.
-- Assumes nothing.
use mathlib.Core.Path.{◌≡◌, sym, ap, ◌∙◌, subst}
use mathlib.Core.List.{List, [], ◌∷◌, ◌++◌, map, append_assoc}
use Prim.Native.Nat.{ℕ, ◌+◌, ◌≤◌, ◌<◌, min, max}
use native.Mathlib.Omega.{arith}
use lib.ListN.{length, drop, get_or, length-append}
use Rattle.gf2.specs.Limits.{max_variables}
use Rattle.gf2.specs.Finite.{Mem}
use Rattle.gf2.specs.Basis.{Reduced, clear, place, join}
use Rattle.gf2.proofs.Finite.{drop-mem}
use Rattle.gf2.proofs.Reduce.{reduced-drop, reduced-length}
use Rattle.gf2.proofs.Insert.{clear-reduced, place-step, join-reduced, join-length, join-below}
use Rattle.basis.specs.declared.Basis.{Basis}
use Rattle.basis.specs.declared.ShortList.{ShortList}
use Rattle.basis.specs.Short.{listed, short}
use Rattle.basis.specs.Reduced.{vectors_of, basis_of, Joins}
use Rattle.basis.proofs.Values.{short-listed, short-again, short-len, items-next, items-end}
use Rattle.basis.proofs.Basis.join.Goals as goal

module _ (b : Basis) (r : ℕ) (j : Joins b r) (vs : List ℕ) (e : vs ≡ vectors_of b) where
  -- One vector passed: the smaller of two is written, the larger carried on.
  step : (done : List ℕ) (carried i : ℕ) → i < length vs
      → (done ++ (min carried (clear r (get_or vs i 0)) ∷ [])) ++ place (max carried (clear r (get_or vs i 0))) (map (clear r) (drop (i + 1) vs))
      ≡ done ++ place carried (map (clear r) (drop i vs))
  step done carried i h =
      let v = get_or vs i 0 in
      let rest = drop (i + 1) vs in
      let next : drop i vs ≡ v ∷ rest = items-next vs i h in
      let tail : Reduced (map (clear r) (v ∷ rest)) = clear-reduced r j.some (v ∷ rest)
      (λ c m. j.reduced c (subst (Mem c) e (drop-mem i vs c (subst (Mem c) (sym next) m)))) (subst Reduced next (reduced-drop i vs (rw e j.basis.reduced))) in
      append_assoc done (min carried (clear r v) ∷ []) (place (max carried (clear r v)) (map (clear r) rest))
      ∙ ap (λ l. done ++ l) (sym (ap (λ l. place carried (map (clear r) l)) next
      ∙ place-step carried (clear r v) (map (clear r) rest) (λ c m. (tail.1 c m).rises)))

  -- There is room for one more.
  room : length vs < max_variables
  room = omega (
    arith,
    ap length e,
    join-length r (vectors_of b),
    reduced-length max_variables (join r (vectors_of b)) (join-reduced r j.some (vectors_of b) j.reduced j.basis.reduced)
        (join-below max_variables r (vectors_of b) j.basis.below j.few),
  )

  -- All vectors passed: what is carried stands last.
  last : (out whole : ShortList) (carried i : ℕ) → length vs ≤ i → whole ≡ short (listed out ++ (carried ∷ []))
      → listed out ++ place carried (map (clear r) (drop i vs)) ≡ place r (map (clear r) vs)
      → ◌≡◌ {A = Basis} (record { vectors = whole.values; len = whole.len }) (basis_of (join r (vectors_of b)))
  unfolding join place
  last out whole carried i h w q =
      ap (λ (s : ShortList). record { vectors = s.values; len = s.len }) w
      ∙ ap basis_of (sym (ap (λ l. listed out ++ place carried (map (clear r) l)) (items-end vs i h)) ∙ q ∙ ap (join r) e)

pub loop-b-preserved : goal.loop-b-preserved
loop-b-preserved c =
    let l = c.loop-b in
    let p = c.push-out in
    let s = c.as_slice-b-items in
    let x = c.min.result in
    let f = listed l.out ++ (x ∷ []) in
    record {
      count = omega (arith, short-len p.result f p.ensures, length-append (listed l.out) (x ∷ []), short-len l.out (listed l.out) l.invariant.packed);
      packed = short-again p.result f p.ensures;
      rest = rw (short-listed p.result f p.ensures, c.max-carried.ensures, c.min.ensures, c.clear_lead-cleared.ensures)
          (step c.args.self c.args.r c.requires s.result.now s.ensures (listed l.out) l.carried l.b-index (omega arith) ∙ l.invariant.rest);
    }

pub push-len-requires-clause-len_lt_max_variables :
    goal.push-len-requires-clause-len_lt_max_variables
push-len-requires-clause-len_lt_max_variables c =
    let s = c.as_slice-b-items in
    omega (arith, room c.args.self c.args.r c.requires s.result.now s.ensures)

pub returns : goal.returns
returns c =
    let l = c.loop-b in
    let s = c.as_slice-b-items in
    last c.args.self c.args.r c.requires s.result.now s.ensures l.out c.push-len.result l.carried l.b-index (omega arith) c.push-len.ensures l.invariant.rest
