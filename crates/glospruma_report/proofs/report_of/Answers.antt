-- `write_report` has room for every report (`report-whole`), so what it gives for the start of an input is the report of the whole input.
use Rattle.report.proofs.Answering.{answer-fits}
use Rattle.glospruma_report.proofs.Printing.{whole-report}
use Rattle.glospruma_report.proofs.report_of.Goals as goal

pub returns : goal.returns
returns c =
    let w = c.write_report-written in
    record {
      by_index = whole-report c.args.input.now _ _ c.args.count w.result c.requires.input_len c.requires.text_len w.ensures.value w.ensures.room_after;
      upper_bound = answer-fits _ _ w.result _ w.ensures.value w.ensures.room_after;
    }
