-- The search as its loop meets it: what was found before, or something longer that begins with the prefix, after the first vectors below k.
-- Read next: Words.
use mathlib.Core.Path.{◌≡◌, refl, sym, ap, ◌∙◌, subst}
use mathlib.Core.Bool.{Bool, true, false}
use mathlib.Core.Logic.{inl, inr}
use mathlib.Core.List.{List, [], ◌∷◌, ◌++◌, append-nil, append_assoc}
use Prim.Native.Nat.{ℕ, zero, suc, ◌+◌, ◌^◌, ◌≤◌, ◌<◌}
use native.Mathlib.Nat.{lt_of_not-le, eq-or-lt_of_le, le_of_suc-le-suc, lt-suc_self, le_refl}
use native.Mathlib.Decide.{dec_le}
use native.Mathlib.Omega.{arith}
use lib.ListN.{length, length-append}
use lib.Dec.{ltb}
use borrow.Author.Tests.{lt-ltb, le-ltb}
use Rattle.gf2.specs.Bits.{lead}
use Rattle.gf2.proofs.Logic.{and-false}
use Rattle.gf2.proofs.Leads.{lead-mono}
use Rattle.subspace_search.specs.Search.{narrowed, longer, longest_below, longest}
use Rattle.subspace_search.proofs.Longest.{begun-passes, passes-length, longest-passes}

-- ---- the longer of two lists

pub longer-new : (l m : List ℕ) → length l < length m → longer l m ≡ m
unfolding longer
longer-new l m h = rw (lt-ltb (length l) (length m) h)

pub longer-old : (l m : List ℕ) → length m ≤ length l → longer l m ≡ l
unfolding longer
longer-old l m h = rw (le-ltb (length l) (length m) h)

-- Either it is the second, which is longer, or the first, which isn't shorter.
longer-cases : (P : List ℕ → Type 0) (l m : List ℕ) → (length l < length m → P m) → (length m ≤ length l → P l) → P (longer l m)
longer-cases P l m f g = elim (dec_le (length m) (length l)) [
  | yes h ↦ subst P (sym (longer-old l m h)) (g h)
  | no h ↦ subst P (sym (longer-new l m (lt_of_not-le h))) (f (lt_of_not-le h))
]

longer-assoc : (k l m : List ℕ) → longer (longer k l) m ≡ longer k (longer l m)
longer-assoc k l m = longer-cases (λ x. longer (longer k l) m ≡ longer k x) l m
    (λ h. longer-cases (λ x. longer x m ≡ longer k m) k l (λ i. longer-new l m h ∙ sym (longer-new k m (omega arith))) (λ i. refl))
    (λ h. longer-cases (λ x. longer x m ≡ longer k l) k l (λ i. longer-old l m h ∙ sym (longer-new k l i))
    (λ i. longer-old k m (omega arith) ∙ sym (longer-old k l i)))

-- Two lists with the same beginning.
longer-prefix : (p l m : List ℕ) → longer (p ++ l) (p ++ m) ≡ p ++ longer l m
longer-prefix p l m = longer-cases (λ x. longer (p ++ l) (p ++ m) ≡ p ++ x) l m
    (λ h. longer-new (p ++ l) (p ++ m) (omega (arith, length-append p l, length-append p m)))
    (λ h. longer-old (p ++ l) (p ++ m) (omega (arith, length-append p l, length-append p m)))

pub longer-none : (m : List ℕ) → longer [] m ≡ m
longer-none [] = longer-old [] [] (omega arith)
longer-none (b ∷ m) = longer-new [] (b ∷ m) (omega arith)

-- What is longer than the first of the two, and begins with the second.
pub longer-whole : (l p m : List ℕ) → longer (longer l p) (p ++ m) ≡ longer l (p ++ m)
longer-whole l p m =
    longer-assoc l p (p ++ m)
    ∙ ap (longer l) (ap (λ q. longer q (p ++ m)) (sym (append-nil p)) ∙ longer-prefix p [] m ∙ ap (λ q. p ++ q) (longer-none m))

pub longer-again : (l p : List ℕ) → longer (longer l p) p ≡ longer l p
longer-again l p = subst (λ q. longer (longer l p) q ≡ longer l q) (append-nil p) (longer-whole l p [])

-- With no vector to be put in.
pub longest-none : (n d : ℕ) (set : ℕ → Bool) → d ≡ 0 → longest n d set ≡ []
unfolding longest
longest-none n d set e = ap (λ (k : ℕ). longest n k set) e

-- ---- what the loop has found

module _ (n d : ℕ) (best prefix : List ℕ) (set : ℕ → Bool) where
  -- After the first vectors below k.
  abbrev pub found_below : ℕ → List ℕ
  found_below k = longer best (prefix ++ longest_below (longest n d) set k)

  pub found-start : found_below 1 ≡ longer best prefix
  unfolding longest_below
  found-start = ap (longer best) (append-nil prefix)

  pub found-end : found_below (2 ^ n) ≡ longer best (prefix ++ longest n (suc d) set)
  unfolding longest
  found-end = refl

  -- One vector more that isn't in the set.
  found-pass : (k : ℕ) → set k ≡ false → found_below (suc k) ≡ found_below k
  unfolding longest_below
  found-pass k e = rw (e, and-false (ltb 0 k))

  -- Many of them.
  pub found-jump : (j k : ℕ) → j ≤ k → ((x : ℕ) → j ≤ x → x < k → set x ≡ false) → found_below k ≡ found_below j
  found-jump j zero l h = let e : 0 ≡ j = omega arith in ap found_below e
  found-jump j (suc k) l h = elim (eq-or-lt_of_le l) [
    | inl e ↦ ap found_below (sym e)
    | inr m ↦ found-pass k (h k (le_of_suc-le-suc m) (lt-suc_self k)) ∙ found-jump j k (le_of_suc-le-suc m) (λ x a b. h x a (omega arith))
  ]

  -- One that is.
  pub found-next : (k : ℕ) → 0 < k → set k ≡ true → found_below (suc k) ≡ longer (found_below k) ((prefix ++ (k ∷ [])) ++ longest n d (narrowed set k))
  unfolding longest_below
  found-next k p e =
      let known = longest_below (longest n d) set k in
      let rest = longest n d (narrowed set k) in
      rw (e, lt-ltb 0 k p, append_assoc prefix (k ∷ []) rest)
      (ap (longer best) (sym (longer-prefix prefix known (k ∷ rest))) ∙ sym (longer-assoc best (prefix ++ known) (prefix ++ (k ∷ rest))))

  -- Where a basis that goes on with k can be no longer than what was found, none that goes on with a later vector is.
  module _ (k : ℕ) (p : 0 < k) (stop : length prefix + n ≤ length (found_below k) + lead k) where
    found-late : (j : ℕ) → k ≤ j → j ≤ 2 ^ n → found_below j ≡ found_below k
    found-late zero h l = absurd (omega arith)
    found-late (suc j) h l = elim (eq-or-lt_of_le h) [
      | inl e ↦ ap found_below (sym e)
      | inr m ↦ go (set j) refl (le_of_suc-le-suc m) (found-late j (le_of_suc-le-suc m) (omega arith))
    ]
      where
        go : (t : Bool) → set j ≡ t → k ≤ j → found_below j ≡ found_below k → found_below (suc j) ≡ found_below k
        go false e m q = found-pass j e ∙ q
        go true e m q =
            let rest = longest n d (narrowed set j) in
            let whole = begun-passes n (longest n d) set (λ b. longest-passes n d (narrowed set b)) j l (rw (e, lt-ltb 0 j (omega arith))) in
            found-next j (omega arith) e ∙ ap (λ l. longer l ((prefix ++ (j ∷ [])) ++ rest)) q
            ∙ longer-old (found_below k) ((prefix ++ (j ∷ [])) ++ rest)
            (omega (
              arith,
              stop,
              lead-mono k j p m,
              passes-length n set j rest whole,
              length-append (prefix ++ (j ∷ [])) rest,
              length-append prefix (j ∷ []),
            ))

    pub found-stop : k ≤ 2 ^ n → found_below (2 ^ n) ≡ found_below k
    found-stop l = found-late (2 ^ n) l (le_refl (2 ^ n))
