-- `factors::product_of` meets its contract: the equations of the candidate's basis are the masks of its canonical product. Assumes nothing.
use mathlib.Core.Path.{◌≡◌, sym, ap, ◌∙◌, subst}
use mathlib.Core.List.{List}
use Prim.Native.Nat.{ℕ, ◌≤◌}
use native.Mathlib.Omega.{arith}
use lib.Pow.{pow_mono}
use Rattle.gf2.specs.Limits.{max_variables}
use Rattle.basis.specs.declared.Basis.{Basis}
use Rattle.basis.specs.declared.ShortList.{ShortList}
use Rattle.basis.specs.Short.{listed, short}
use Rattle.basis.specs.Reduced.{basis_of, IsBasis, vectors_of as vectors_in}
use Rattle.basis.proofs.Values.{short-listed, short-again, vectors-back, is-basis}
use Rattle.space.specs.Restriction.{equations}
use Rattle.cubes.specs.Cubes.{IsCandidate}
use Rattle.cubes.specs.Records.{max_listed}
use Rattle.cubes.proofs.Cubes.{vectors-below, degree-most}
use Rattle.bases.specs.Bases.{vectors_of}
use Rattle.bases.specs.Entry.{candidate_at}
use Rattle.bases.proofs.Entry.{vectors-length}
use Rattle.cover.specs.WrittenForm.{product_by}
use Rattle.factors.specs.Factors.{factors_of, factors_at}
use Rattle.factors.proofs.Products.{factors-product}
use Rattle.factors.proofs.product_of.Goals as goal

-- The masks in the y's are known by their numbers.
known : (es : List ℕ) (m d point entry : ℕ) (b : Basis) → b ≡ basis_of (vectors_of d entry) → (ys : ShortList) → ys ≡ short (equations m (vectors_in b))
    → (ys ≡ short (listed ys)) × (factors_at es (listed ys) point ≡ factors_of (product_by es m (candidate_at d point entry)))
known es m d point entry b e ys q = (
  short-again ys (equations m (vectors_in b)) q,
  ap (λ (l : List ℕ). factors_at es l point) (short-listed ys (equations m (vectors_in b)) q ∙ ap (equations m) (ap vectors_in e ∙ vectors-back (vectors_of d entry)))
      ∙ factors-product es m point (vectors_of d entry),
)

module _ (m d point entry : ℕ) (few : m ≤ max_listed) (k : IsCandidate m (candidate_at d point entry)) where
  few-vectors : d ≤ max_variables
  few-vectors = omega (arith, degree-most m (candidate_at d point entry) k, vectors-length d entry)

  a-basis : (b : Basis) → b ≡ basis_of (vectors_of d entry) → IsBasis b
  a-basis b e = subst IsBasis (sym e) (is-basis (vectors_of d entry) k.reduced
      (λ v i. omega (arith, vectors-below m (candidate_at d point entry) k v i, pow_mono few)))

pub basis_of-basis-requires : goal.basis_of-basis-requires
basis_of-basis-requires c = few-vectors c.args.m c.args.prime.degree c.args.prime.point c.args.prime.entry c.requires.m_le_max_listed c.requires.candidate

pub equations-masks-requires : goal.equations-masks-requires
equations-masks-requires c =
    record {
      basis = a-basis c.args.m c.args.prime.degree c.args.prime.point c.args.prime.entry c.requires.m_le_max_listed c.requires.candidate c.basis_of-basis.result c.basis_of-basis.ensures;
      n_le_max_variables = omega (arith, c.requires.m_le_max_listed);
    }

pub factors_at-requires : goal.factors_at-requires
factors_at-requires c =
    let b = c.basis_of-basis in
    record {
      equations_value = c.requires.equations_value;
      masks_value = (known (listed c.args.equations) c.args.m c.args.prime.degree c.args.prime.point c.args.prime.entry b.result b.ensures c.equations-masks.result c.equations-masks.ensures).0;
    }

pub returns : goal.returns
returns c =
    let b = c.basis_of-basis in
    let y = c.equations-masks in
    c.factors_at.ensures
    ∙ (known (listed c.args.equations) c.args.m c.args.prime.degree c.args.prime.point c.args.prime.entry b.result b.ensures y.result y.ensures).1
