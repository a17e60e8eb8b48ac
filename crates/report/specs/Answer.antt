-- The call that gives the report: its one refusal, its answer and its lent room (document 01, "Refusal numbers"). Read next: crate `glospruma`.
use Rattle.std.specs.Prelude.{List, ℕ, length}
use Rattle.table.specs.declared.Refusal.{Refusal}
use Rattle.table.specs.Refusal.{Test}
use Rattle.table.specs.Answers.{number_of}
use Rattle.table.specs.Decision.{Decision, answer_of, after_of, room_test}
use Rattle.report.specs.declared.ReportWritten.{ReportWritten}
use Rattle.report.specs.Report.{report_text}

-- Room enough for every report. That it is, is `report-fits`.
abbrev pub text_room : ℕ
text_room = 24576

-- Refusal 7: the text is longer than the lent room. A refused table has a text too.
abbrev pub report_tests : List ℕ → List ℕ → List Test
report_tests bytes room = room_test (report_text bytes) room

-- The number of bytes of the text.
abbrev pub report_accepted : List ℕ → ReportWritten
report_accepted bytes = record { refusal = 0; length = length (report_text bytes) }

-- A refusal returns its number with all other numbers 0.
abbrev pub report_refused : ℕ → ReportWritten
report_refused number = record { refusal = number; length = 0 }

abbrev pub refused_report : Refusal → ReportWritten
refused_report refusal = report_refused (number_of refusal)

-- The call, and the numbers that it returns.
abbrev pub report_call : List ℕ → List ℕ → Decision ReportWritten
report_call bytes room = record { tests = report_tests bytes room; accepted = report_accepted bytes; refused = report_refused }

unfoldable pub report_answer : List ℕ → List ℕ → ReportWritten
report_answer bytes room = answer_of (report_call bytes room)

-- The room after the call: the text at its front and the rest as lent, or all as lent.
unfoldable pub report_after : List ℕ → List ℕ → List ℕ
report_after bytes room = after_of (report_call bytes room) (report_text bytes) room
