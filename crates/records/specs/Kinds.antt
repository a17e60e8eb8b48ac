-- The kinds of records, the length of the body that each fixes, and numbers of two bytes (document 01, "The written form").
-- Read next: Walks.
use Rattle.std.specs.Prelude.{cond, Result, Ok, Err, List, [], ◌∷◌, ℕ, ◌+◌, ◌*◌, ◌/◌, ◌%◌, ◌<◌, eqb}
use Rattle.gf2.specs.Finite.{Mem}
use Rattle.records.specs.declared.Kind.{Kind}
use Rattle.records.specs.declared.Kind.TheVariants.{Variables, Product, Factor, End, On, Free}
use Rattle.table.specs.declared.BytesFault.{BytesFault}
use Rattle.table.specs.declared.BytesFault.TheVariants.{WrongKind}

-- The kind bytes: n, a product begins, a factor, the end with its number, an on point, a free point (document 01, "The written form").
abbrev pub variables_kind : ℕ
variables_kind = 0x4E

abbrev pub product_kind : ℕ
product_kind = 0x50

abbrev pub factor_kind : ℕ
factor_kind = 0x58

abbrev pub end_kind : ℕ
end_kind = 0x45

abbrev pub on_kind : ℕ
on_kind = 0x4F

abbrev pub free_kind : ℕ
free_kind = 0x44

-- The byte of a kind.
abbrev pub kind_byte : Kind → ℕ
kind_byte Variables = variables_kind
kind_byte Product = product_kind
kind_byte Factor = factor_kind
kind_byte End = end_kind
kind_byte On = on_kind
kind_byte Free = free_kind

-- The length of the body that a kind fixes.
abbrev pub body_length : Kind → ℕ
body_length Variables = 1
body_length Product = 0
body_length Factor = 3
body_length End = 2
body_length On = 2
body_length Free = 2

-- What the kind byte of a record decides: its kind with the length of its body, or the fault of an unknown kind.
abbrev pub RecordHead : Type 0
RecordHead = Result (Kind × ℕ) BytesFault

-- A known kind with the length of its body.
abbrev pub known : Kind → RecordHead
known kind = Ok (kind, body_length kind)

-- The decision over the kind byte, which stands at the place: it gives the kind with the length of its body, or the refusal of an unknown
-- kind (document 01, "Forms and where they belong"). What a table or a form makes of a known kind is decided after it.
unfoldable pub head_of : ℕ → ℕ → RecordHead
head_of byte place =
    cond (eqb byte variables_kind) (known Variables)
    (cond (eqb byte product_kind) (known Product)
    (cond (eqb byte factor_kind) (known Factor)
    (cond (eqb byte end_kind) (known End)
    (cond (eqb byte on_kind) (known On)
    (cond (eqb byte free_kind) (known Free)
    (Err (WrongKind place)))))))

-- The number that two bytes stand for: wider numbers are low byte first (document 01, "The written form").
abbrev pub word_of : ℕ → ℕ → ℕ
word_of low high = low + 256 * high

-- The low and the high byte of a number of two bytes.
abbrev pub low_byte : ℕ → ℕ
low_byte word = word % 256

abbrev pub high_byte : ℕ → ℕ
high_byte word = word / 256

-- A list of bytes.
abbrev pub Bytes : List ℕ → Type 0
Bytes bytes = (byte : ℕ) → Mem byte bytes → byte < 256

-- A record of a kind and a number of two bytes.
abbrev pub encode_record : ℕ → ℕ → List ℕ
encode_record kind word = kind ∷ low_byte word ∷ high_byte word ∷ []

-- Its length: one byte of kind, and the body of a point or of the end.
abbrev pub word_record_length : ℕ
word_record_length = 1 + body_length End

-- The end record with the number of points of a table, or of products of a form.
abbrev pub encode_end : ℕ → List ℕ
encode_end count = encode_record end_kind count
