-- Laws of the passes over blocks: one block crossed after another. Read next: Transforming.
use mathlib.Core.Path.{◌≡◌, refl, sym, ap, ap₂, ◌∙◌, subst}
use mathlib.Core.List.{List, ◌++◌}
use Prim.Native.Nat.{ℕ, suc, ◌+◌, ◌-◌, ◌*◌, ◌≤◌, ◌<◌}
use native.Mathlib.Nat.{le_of_suc-le-suc, lt_of_not-le, mul-le-mul_right, suc-mul}
use borrow.Rule.Slice.PartMut.{post_of, put_mid, same_len_mid, take_put, drop_put}
use native.Mathlib.Decide.{dec_le, ℕ_discrete}
use native.Mathlib.Omega.{arith}
use lib.ListN.{length, take, drop, length-take, length-drop, get_or-append, get_or-eq_default}
use lib.Seq.{get_or-take, get_or-drop, get_or-append-add}
use lib.IntN.{ℤ, pos, ◌+ℤ◌, ◌-ℤ◌}
use Rattle.walsh.specs.Numbers.{at, from, Summand, Summable, FourCross, Quartered, Blocks, Passed}

-- ---- a list with a part of it put anew: the part, and what stands before and behind it

module _ (s e : ℕ) (xs part : List ℤ) (order : s ≤ e) (room : e ≤ length xs) (long : length part ≡ e - s) where
  abbrev put : List ℤ
  put = put_mid s (e - s) xs part

  pub put-before : (p : ℕ) → p < s → at put p ≡ at xs p
  put-before p h = sym (get_or-take s put p (pos 0) h) ∙ ap (λ (l : List ℤ). at l p) (take_put s (e - s) xs part (omega arith)) ∙ get_or-take s xs p (pos 0) h

  pub put-behind : (p : ℕ) → e ≤ p → at put p ≡ at xs p
  put-behind p h =
      let q : e + (p - e) ≡ p = omega arith in
      subst (λ (j : ℕ). at put j ≡ at xs j) q
      (sym (get_or-drop e put (p - e) (pos 0)) ∙ ap (λ (l : List ℤ). at l (p - e)) (drop_put s e xs part order room long) ∙ get_or-drop e xs (p - e) (pos 0))

  pub put-part : (v : ℕ) → v < e - s → at put (s + v) ≡ at part v
  put-part v h =
      let l : length (take s xs) ≡ s = simp length-take (omega arith) in
      subst (λ (j : ℕ). at put (j + v) ≡ at part v) l
      (get_or-append-add (take s xs) (part ++ post_of s (e - s) xs) v (pos 0) ∙ get_or-append part (post_of s (e - s) xs) (pos 0) v (omega (arith, long)))

-- ---- the loop over the blocks

-- Numbers that are crossed stay so by other names, at the places of a block of four quarters.
cross-same : {q u : ℕ} {g g' k k' : ℕ → ℤ} → FourCross q g k u → ((v : ℕ) → v < 4 * q → g v ≡ g' v) → ((v : ℕ) → v < 4 * q → k v ≡ k' v) → u < q → FourCross q g' k' u
cross-same {q} {u} x g k h =
    let e₁ = g u (omega arith) in
    let e₂ = g (u + q) (omega arith) in
    let e₃ = g (u + q + q) (omega arith) in
    let e₄ = g (u + q + q + q) (omega arith) in
    record {
      first = sym (k u (omega arith)) ∙ x.first ∙ ap₂ ◌+ℤ◌ (ap₂ ◌+ℤ◌ e₁ e₃) (ap₂ ◌+ℤ◌ e₂ e₄);
      second = sym (k (u + q) (omega arith)) ∙ x.second ∙ ap₂ ◌-ℤ◌ (ap₂ ◌+ℤ◌ e₁ e₃) (ap₂ ◌+ℤ◌ e₂ e₄);
      third = sym (k (u + q + q) (omega arith)) ∙ x.third ∙ ap₂ ◌+ℤ◌ (ap₂ ◌-ℤ◌ e₁ e₃) (ap₂ ◌-ℤ◌ e₂ e₄);
      fourth = sym (k (u + q + q + q) (omega arith)) ∙ x.fourth ∙ ap₂ ◌-ℤ◌ (ap₂ ◌-ℤ◌ e₁ e₃) (ap₂ ◌-ℤ◌ e₂ e₄);
    }

-- The blocks before the one that begins at s are crossed, the numbers from s on are as they were.
pub record Passing (q : ℕ) (xs : List ℤ) (s : ℕ) (ys : List ℤ) : Type 0 where
  pub long : length ys ≡ length xs
  pub behind : ℕ
  pub start : s ≡ behind * (4 * q)
  pub done : (b : ℕ) → b < behind → (u : ℕ) → u < q → FourCross q (from (b * (4 * q)) xs) (from (b * (4 * q)) ys) u
  pub left : (p : ℕ) → s ≤ p → at ys p ≡ at xs p

-- Where one block begins inside the list, it ends there, too.
fits_whole : (b c m : ℕ) → b * m < c * m → b * m + m ≤ c * m
fits_whole b c m h = go (dec_le (suc b) c)
  where
    go : Dec (suc b ≤ c) → b * m + m ≤ c * m
    go (yes l) = omega (arith, suc-mul b m, mul-le-mul_right m l)
    go (no l) = absurd (omega (arith, h, mul-le-mul_right m (le_of_suc-le-suc (lt_of_not-le l))))

module _ (q : ℕ) (xs : List ℤ) (blocks : Blocks q xs) (s : ℕ) (ys : List ℤ) (inside : s < length ys) (so_far : Passing q xs s ys) where
  pub passing-room : s + 4 * q ≤ length ys
  passing-room =
      let c = blocks.blocks in
      let b = so_far.behind in
      let h : b * (4 * q) < c * (4 * q) = omega (arith, so_far.long, blocks.whole, so_far.start) in
      omega (arith, so_far.long, blocks.whole, so_far.start, fits_whole b c (4 * q) h)

  pub passing-small : Summable 4 (take (s + 4 * q - s) (drop s ys))
  passing-small w = go (dec_le (4 * q) w)
    where
      k : s + 4 * q - s ≡ 4 * q
      k = omega arith

      go : Dec (4 * q ≤ w) → Summand 4 (at (take (s + 4 * q - s) (drop s ys)) w)
      go (yes l) = rw (get_or-eq_default (take (s + 4 * q - s) (drop s ys)) (pos 0) {n = w} (simp length-take (omega arith))) (omega arith)
      go (no l) =
          rw (get_or-take (s + 4 * q - s) (drop s ys) w (pos 0) (omega arith), get_or-drop s ys w (pos 0), so_far.left (s + w) (omega arith)) (blocks.small (s + w))

  pub passing-long : length (take (s + 4 * q - s) (drop s ys)) ≡ 4 * q
  passing-long = simp (length-take, length-drop) (omega (arith, passing-room))

  module _ (part : List ℤ) (made : Quartered q (take (s + 4 * q - s) (drop s ys)) part) where
    zs : List ℤ
    zs = put_mid s (s + 4 * q - s) ys part

    part-long : length part ≡ s + 4 * q - s
    part-long = omega (arith, made.long, passing-long)

    -- The numbers of the block: those of the start before, and those of the part after.
    was : (v : ℕ) → v < 4 * q → at (take (s + 4 * q - s) (drop s ys)) v ≡ from s xs v
    was v h = get_or-take (s + 4 * q - s) (drop s ys) v (pos 0) (omega arith) ∙ get_or-drop s ys v (pos 0) ∙ so_far.left (s + v) (omega arith)

    is : (v : ℕ) → v < 4 * q → from s zs v ≡ at part v
    unfolding zs
    is v h = put-part s (s + 4 * q) ys part (omega arith) passing-room part-long v (omega arith)

    new : (u : ℕ) → u < q → FourCross q (from s xs) (from s zs) u
    new u h = cross-same (made.each u h) (λ v l. was v l) (λ v l. sym (is v l)) h

    pub passing-next : Passing q xs (s + 4 * q) (put_mid s (s + 4 * q - s) ys part)
    unfolding zs
    passing-next = record {
      long = same_len_mid s (s + 4 * q - s) ys part made.long ∙ so_far.long;
      behind = suc so_far.behind;
      start = omega (arith, so_far.start, suc-mul so_far.behind (4 * q));
      done = λ b h. go b (ℕ_discrete b so_far.behind) h;
      left = λ p h. put-behind s (s + 4 * q) ys part (omega arith) passing-room part-long p h ∙ so_far.left p (omega arith);
    }
      where
        go : (b : ℕ) → Dec (b ≡ so_far.behind) → b < suc so_far.behind → (u : ℕ) → u < q → FourCross q (from (b * (4 * q)) xs) (from (b * (4 * q)) zs) u
        go b (yes e) h u l = subst (λ (j : ℕ). FourCross q (from j xs) (from j zs) u) (so_far.start ∙ ap (λ (j : ℕ). j * (4 * q)) (sym e)) (new u l)
        go b (no e) h u l =
            let before : suc b ≤ so_far.behind = omega (arith, e) in
            let ends : b * (4 * q) + 4 * q ≤ s = omega (arith, so_far.start, suc-mul b (4 * q), mul-le-mul_right (4 * q) before) in
            cross-same (so_far.done b before u l) (λ v i. refl)
            (λ v i. sym (put-before s (s + 4 * q) ys part (omega arith) passing-room part-long (b * (4 * q) + v) (omega arith))) l

pub passing-end : (q : ℕ) (xs : List ℤ) (s : ℕ) (ys : List ℤ) → length ys ≤ s → Passing q xs s ys → Passed q xs ys
passing-end q xs s ys end so_far = record { long = so_far.long; each = λ b h u l. so_far.done b (before b h (dec_le so_far.behind b)) u l }
  where
    before : (b : ℕ) → b * (4 * q) < length xs → Dec (so_far.behind ≤ b) → b < so_far.behind
    before b h (yes l) = absurd (omega (arith, h, so_far.start, so_far.long, mul-le-mul_right (4 * q) l))
    before b h (no l) = lt_of_not-le l
