-- Which output the arguments choose (docs/PLA.md). Read next: Messages.
use Rattle.std.specs.Prelude.{cond, List, ℕ, ltb}
use Rattle.std.specs.Option.{unwrap_or}
use Rattle.pla_text.specs.Numbers.{number_of, number_limit}

-- The output, counted from 1, by how many words started the program, its own name among them, and by the first after the name: without one the
-- first output, otherwise the number that it stands for. An empty one stands for 0 and one that is no number for a number above all outputs, so
-- that both are refused.
unfoldable pub chosen_output : ℕ → List ℕ → ℕ
chosen_output words argument = cond (ltb words 2) 1 (unwrap_or (number_of argument) number_limit)
