-- What is printed for an input of any length, by the first bytes of it that are read (document 01, "The printed report"). Read next: `main`.
use Rattle.std.specs.Prelude.{◌≡◌, List, ℕ, ◌+◌, length, take}
use Rattle.stored.specs.Layout.{longest_table}
use Rattle.report.specs.Report.{report_text}

-- How many bytes are read at most: one more than the longest table has, so that a longer input is seen as one.
abbrev pub stored_room : ℕ
stored_room = longest_table + 1

-- The first `count` bytes of the text are the report of the whole input, and all of it.
pub record WholeReport (whole text : List ℕ) (count : ℕ) : Type 0 where
  pub counted : count ≡ length (report_text whole)
  pub printed : take count text ≡ report_text whole
