-- The elements of a list that pass a test. Read next: Cubes.
use Rattle.std.specs.Prelude.{Bool, cond, List, [], ◌∷◌}

-- The elements of the list that pass the test, in their order.
unfoldable pub keep : {A : Type 0} → (A → Bool) → List A → List A
keep f [] = []
keep f (a ∷ l) = cond (f a) (a ∷ keep f l) (keep f l)
