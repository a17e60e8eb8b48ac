-- How many bytes the products of a choice take (document 01, "The written form"). Read next: Writing.
use Rattle.std.specs.Prelude.{List, ℕ, zero, suc, ◌+◌, ◌*◌, ◌-◌, get_or}
use Rattle.form.specs.Counting.{factor_length}
use Rattle.choice.specs.declared.Choice.{Choice}
use Rattle.choice.specs.declared.Prime.{Prime}
use Rattle.choice.specs.Chosen.{no_prime}

-- The bytes of a product of as many factors: its kind, and four bytes for each factor.
abbrev pub product_length : ℕ → ℕ
product_length factors = 1 + factor_length * factors

-- The bytes of the first k products: a candidate of m variables and degree d has m - d factors. That it is so is `products-length`.
unfoldable pub products_length : ℕ → List Prime → ℕ → ℕ
products_length m primes zero = 0
products_length m primes (suc k) = products_length m primes k + product_length (m - (get_or primes k no_prime).degree)

-- The bytes of the whole form: 4E and n, the products, 45 and their number. That it is so is `form-bytes-length`.
abbrev pub form_length : ℕ → Choice → ℕ
form_length m r = 2 + products_length m r.primes r.count + 3
