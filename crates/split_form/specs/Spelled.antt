-- A column in bytes.
use Rattle.std.specs.Prelude.{ℕ, ◌-◌, Bool, true, false, List, [], ◌∷◌, ◌++◌, length, map}
use Rattle.std.specs.List.{flat_map}
use Rattle.byte_fields.specs.Spelling.{varint, eight}
use Rattle.doc_value.specs.declared.doc.Value.{Value}
use Rattle.doc_value.specs.declared.doc.Value.TheVariants as values
use Rattle.doc_value.specs.declared.schema.Kind.{Kind}
use Rattle.fast_fields.specs.declared.rows.ColumnRow.{ColumnRow}
use Rattle.fast_fields.specs.declared.entries.Entry.{Entry}
use Rattle.fast_fields.specs.Columns.{Cell, cells, numbers, least_of, greatest_of, has_texts, texts_bytes, documents_bytes}
use Rattle.doc_value.specs.Terms.{turned}
use Rattle.split_bundle.specs.Documents.{place_among}
use Rattle.split_form.specs.Sorted.{sorted}
use Rattle.split_form.specs.Packing.{width_of, packed}

-- a value's text, if it is one
abbrev pub text_of : Value → List (List ℕ)
text_of (values.Text t) = t ∷ []
text_of (values.I64 z) = []
text_of (values.U64 n) = []
text_of (values.Bool b) = []
text_of (values.Datetime z) = []

-- the distinct texts of cells, rising
abbrev pub texts_of : List Cell → List (List ℕ)
texts_of cs = sorted (flat_map (λ c. text_of c.value) cs)

-- the number that a value stands for: a text for its place among the texts
abbrev pub number_of : List (List ℕ) → Value → ℕ
number_of texts (values.Text t) = place_among texts t
number_of texts (values.I64 z) = turned z
number_of texts (values.U64 n) = n
number_of texts (values.Bool false) = 0
number_of texts (values.Bool true) = 1
number_of texts (values.Datetime z) = turned z

-- the entries of cells, one by one
abbrev pub entries_of : List (List ℕ) → List Cell → List Entry
entries_of texts cs = map (λ c. record { document = c.document; number = number_of texts c.value }) cs

-- each of some numbers less the least
abbrev pub above_least : List ℕ → List ℕ
above_least ns = map (λ n. n - least_of ns) ns

-- the least number, the width of the greatest one less the least, and each less the least, packed
abbrev pub numbers_bytes : List ℕ → List ℕ
numbers_bytes ns = eight (least_of ns) ++ (width_of (greatest_of ns - least_of ns) ∷ packed (width_of (greatest_of ns - least_of ns)) (above_least ns))

-- the count of the entries, the texts, the documents and the numbers
abbrev pub spelled : Bool → List (List ℕ) → List Entry → List ℕ
spelled texted texts es = varint (length es) ++ (texts_bytes texted texts ++ (documents_bytes es ++ numbers_bytes (numbers es)))

-- the column of these rows
unfoldable pub column_bytes : Kind → List ColumnRow → List ℕ
column_bytes kind rows = spelled (has_texts kind) (texts_of (cells rows)) (entries_of (texts_of (cells rows)) (cells rows))
