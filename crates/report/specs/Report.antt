-- The printed report: the whole output for the bytes of a stored table (document 01, "The printed report"). The report of a table without fault is
-- `table_text` of crate `table_report`. Read next: Answer.
use Rattle.std.specs.Prelude.{List, ℕ}
use Rattle.table.specs.Decision.{decide}
use Rattle.stored.specs.Marks.{stored_variables, stored_on, stored_free}
use Rattle.stored.specs.Stored.{stored_tests, stored_place}
use Rattle.lines.specs.Lines.{fault_line}
use Rattle.table_report.specs.Text.{table_text}

-- The whole output for the bytes of a stored table. A table refused prints only `refused N`, or `refused N at P` where its number has a place (document 02,
-- No. 3).
unfoldable pub report_text : List ℕ → List ℕ
report_text bytes =
    decide (stored_tests bytes) (table_text (stored_variables bytes) (stored_on bytes) (stored_free bytes)) (λ number. fault_line number (stored_place bytes))
