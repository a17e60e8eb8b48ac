-- `subspace_search::largest_in` meets its contract: the search from nothing finds the largest space. Assumes nothing.
use mathlib.Core.Path.{refl, ap, ◌∙◌}
use native.Mathlib.Omega.{arith}
use Rattle.basis.specs.declared.Basis.{Basis}
use Rattle.basis.specs.declared.ShortList.{ShortList}
use Rattle.basis.specs.Reduced.{basis_of}
use Rattle.point_sets.specs.Sets.{member}
use Rattle.subspace_search.specs.Search.{longest}
use Rattle.subspace_search.proofs.Longest.{longest-largest}
use Rattle.subspace_search.proofs.Steps.{longer-none}
use Rattle.subspace_search.proofs.largest_in.Goals as goal

pub search-len-requires : goal.search-len-requires
search-len-requires c = record {
  best_value = refl;
  prefix_value = refl;
  n_le_set_variables = (c.requires.n_le_set_variables, omega arith);
}

pub returns : goal.returns
returns c =
    let n = c.args.n in
    let set = member c.args.set.now in
    let taken : ShortList → Basis = λ l. record { vectors = l.values; len = l.len } in
    ap taken c.search-len.ensures ∙ ap basis_of (longer-none (longest n n set) ∙ longest-largest n set c.requires.set_value)
