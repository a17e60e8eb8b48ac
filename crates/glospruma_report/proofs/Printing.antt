-- What `write_report` gives for the start of an input is the whole report of the whole input.
use mathlib.Core.Path.{◌≡◌, ap, ◌∙◌}
use mathlib.Core.List.{List}
use Prim.Native.Nat.{ℕ}
use native.Mathlib.Omega.{arith}
use lib.ListN.{length, take}
use Rattle.report.specs.declared.ReportWritten.{ReportWritten}
use Rattle.report.specs.Report.{report_text}
use Rattle.report.specs.Answer.{text_room, report_answer, report_after}
use Rattle.report.proofs.Answering.{report-start, report-whole}
use Rattle.streams.specs.Reading.{StartOf}
use Rattle.glospruma_report.specs.Printing.{stored_room, WholeReport}

module _ (input room after : List ℕ) (count : ℕ) (r : ReportWritten) (all : length input ≡ stored_room) (long : length room ≡ text_room)
    (answered : r ≡ report_answer (take count input) room) (left : after ≡ report_after (take count input) room) where
  pub whole-report : (whole : List ℕ) → StartOf whole input count → WholeReport whole after r.length
  whole-report whole start =
      let same : report_text (take count input) ≡ report_text whole = ap report_text (start ∙ ap (λ (k : ℕ). take k whole) all) ∙ report-start whole in
      let k = report-whole (take count input) room (omega arith) in
      let n : r.length ≡ length (report_text (take count input)) = ap (λ (x : ReportWritten). x.length) (answered ∙ k.0) in
      record {
        counted = n ∙ ap length same;
        printed = ap (λ (m : ℕ). take m after) n ∙ ap (take (length (report_text (take count input)))) left ∙ k.1 ∙ same;
      }
