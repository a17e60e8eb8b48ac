-- The rules of a stored table: which records may stand where, and what its end record counts (document 01, "The written form"; document 02, No. 3). The
-- faults of its bytes are those of crate `records` by these rules; that the walk reports the first of them is `table-first`. Read next: Marks.
use Rattle.std.specs.Prelude.{Bool, true, false, ◌||◌, List, [], ◌∷◌, eqb}
use Rattle.records.specs.declared.Kind.{Kind}
use Rattle.records.specs.declared.Kind.TheVariants.{Variables, Product, Factor, End, On, Free}
use Rattle.records.specs.Faults.{Record, is_variables, is_end, Rules}
use Rattle.stored.specs.Layout.{longest_table}

-- A kind is that of a point, on or free.
abbrev pub is_point : Kind → Bool
is_point Variables = false
is_point Product = false
is_point Factor = false
is_point End = false
is_point On = true
is_point Free = true

-- The first record gives n; then points follow, and the end.
abbrev pub table_admits : List Record → Kind → Bool
table_admits [] kind = is_variables kind
table_admits (r ∷ before) kind = is_point kind || is_end kind

-- The end counts the points. No byte is awaited where the longest table ends. Of a table's bodies only that of the end is judged.
abbrev pub table_rules : Rules
table_rules =
    record {
      admits = table_admits;
      is_surplus = λ before kind. false;
      is_counted = is_point;
      wrong_variables = λ body. false;
      wrong_factor = λ before body. false;
      disagrees = λ before body. false;
      is_longest = λ place. eqb place longest_table;
    }
