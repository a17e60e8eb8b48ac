-- Laws of the products of a choice, one prime after the other.
use mathlib.Core.Path.{◌≡◌, refl, ap, ◌∙◌}
use mathlib.Core.List.{List, [], ◌∷◌, ◌++◌}
use Prim.Native.Nat.{ℕ, zero, suc, ◌<◌}
use native.Mathlib.Omega.{arith}
use lib.ListN.{length, get_or, length-append, length-take}
use lib.Seq.{get_or-take}
use Rattle.gf2.proofs.Finite.{map_snoc}
use Rattle.product.specs.Product.{Factor}
use Rattle.cover.specs.WrittenForm.{product_by}
use Rattle.choice.specs.declared.Choice.{Choice}
use Rattle.choice.specs.declared.Prime.{Prime}
use Rattle.choice.specs.Chosen.{primes_in, no_prime, prime_in, chosen_at, chosen_by, products_by}

module _ (es : List ℕ) (m : ℕ) (r : Choice) where
  -- The product of the prime at a place.
  abbrev pub product_at : ℕ → List Factor
  product_at i = product_by es m (chosen_at r i)

  -- One product more.
  pub products-next : (i : ℕ) → products_by es m r (suc i) ≡ products_by es m r i ++ (product_at i ∷ [])
  unfolding products_by chosen_by
  products-next i = map_snoc (product_by es m) (chosen_by r i) (chosen_at r i)

  pub products-count : (k : ℕ) → length (products_by es m r k) ≡ k
  unfolding products_by chosen_by
  products-count zero = refl
  products-count (suc k) = ap length (products-next k) ∙ omega (arith, length-append (products_by es m r k) (product_at k ∷ []), products-count k)

-- ---- the primes of a choice, as the list that `Choice::as_slice` gives

module _ (r : Choice) (items : List Prime) (e : items ≡ primes_in r) (i : ℕ) where
  pub item-below : i < length items → i < r.count
  item-below h = omega (arith, ap length e, length-take r.count r.primes)

  pub item-at : i < length items → get_or items i no_prime ≡ prime_in r i
  item-at h = ap (λ l. get_or l i no_prime) e ∙ get_or-take r.count r.primes i no_prime (item-below h)
