-- `table_report::form_lines` meets its contract: `refused 5`, or the products of the primes chosen. Assumes nothing.
use mathlib.Core.Path.{sym}
use Rattle.basis.specs.Reduced.{vectors_of}
use Rattle.basis.proofs.Values.{short-again}
use Rattle.space.specs.Restriction.{equations}
use Rattle.projection.proofs.Restrictions.{spans-few}
use Rattle.text.proofs.Writing.{fits-same, wrote-same}
use Rattle.table_report.proofs.Parts.{basis-refused, basis-chosen}
use Rattle.table_report.proofs.form_lines.Goals as goal

pub overflow_sub-m : goal.overflow_sub-m
overflow_sub-m c = spans-few c.requires.restricts.spans

pub number_line-requires : goal.number_line-requires
number_line-requires c = rw c.number.ensures (fits-same (sym (basis-refused c.requires.restricts.spans c.args.points.now c.if-m-gt-MAX_LISTED.true)) c.requires.fits)

pub returns-then-m-gt-MAX_LISTED : goal.returns-then-m-gt-MAX_LISTED
returns-then-m-gt-MAX_LISTED c = wrote-same _ (basis-refused c.requires.restricts.spans c.args.points.now c.if-m-gt-MAX_LISTED.true) (rw c.number.ensures at c.number_line.ensures)

-- The primes are chosen and the equations found: their text is the form's.
pub choice_text-requires : goal.choice_text-requires
choice_text-requires c =
    let a = c.args in
    let k = c.choose-choice in
    let q = c.equations-equations in
    record {
      n_le_max_variables = c.requires.restricts.spans.few;
      equations_value = short-again q.result (equations a.n (vectors_of a.basis)) q.ensures;
      choice = k.ensures.valid;
      fits = fits-same (sym (basis-chosen c.requires.restricts.spans a.points.now c.if-m-gt-MAX_LISTED.false k.result k.ensures q.result q.ensures)) c.requires.fits;
    }

pub returns : goal.returns
returns c =
    let k = c.choose-choice in
    let q = c.equations-equations in
    wrote-same _ (basis-chosen c.requires.restricts.spans c.args.points.now c.if-m-gt-MAX_LISTED.false k.result k.ensures q.result q.ensures) c.choice_text.ensures
