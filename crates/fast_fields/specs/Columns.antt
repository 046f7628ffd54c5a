-- What the bytes of a column stand for.
use Rattle.std.specs.Prelude.{◌≡◌, ℕ, ℤ, pos, negsuc, ◌+◌, ◌-◌, ◌^◌, ◌<◌, ◌≤◌, Bool, true, false, List, [], ◌∷◌, ◌++◌, length, map, slice_get, Some, min, max, IsUtf8, ⊤, ◌⊎◌}
use Rattle.std.specs.List.{flat_map, AllByRecursion}
use Rattle.std.specs.Ordering.{is_lt, nat_cmp}
use Rattle.std.specs.Cmp.Lexicographic.{slice_cmp}
use Rattle.byte_fields.specs.Spelling.{varint, byte_string, four, eight}
use Rattle.doc_value.specs.Terms.{turned}
use Rattle.doc_value.specs.declared.doc.Value.{Value}
use Rattle.doc_value.specs.declared.doc.Value.TheVariants as values
use Rattle.doc_value.specs.declared.schema.Kind.{Kind}
use Rattle.doc_value.specs.declared.schema.Kind.TheVariants as kinds
use Rattle.doc_value.specs.Documents.{IsOfKind}
use Rattle.fast_fields.specs.declared.rows.ColumnRow.{ColumnRow}
use Rattle.fast_fields.specs.declared.entries.Entry.{Entry}
use Rattle.fast_fields.specs.Packed.{IsPacked, IsWidth}

-- a value of a document
pub record Cell : Type 0 where
  pub document : ℕ
  pub value : Value

-- each value of a document
abbrev pub cells_of : ℕ → List Value → List Cell
cells_of document vs = map (λ v. record { document = document; value = v }) vs

-- each value of each document, in order
abbrev pub cells : List ColumnRow → List Cell
cells rows = flat_map (λ r. cells_of r.document r.values) rows

-- a value stands for a number: a text for its place among the texts
abbrev pub IsNumber : List (List ℕ) → Value → ℕ → Type 0
IsNumber texts (values.Text t) n = slice_get texts n ≡ Some t
IsNumber texts (values.I64 z) n = n ≡ turned z
IsNumber texts (values.U64 m) n = n ≡ m
IsNumber texts (values.Bool false) n = n ≡ 0
IsNumber texts (values.Bool true) n = n ≡ 1
IsNumber texts (values.Datetime z) n = n ≡ turned z

-- the entries are those of the cells, one by one
abbrev pub AreEntries : List (List ℕ) → List Cell → List Entry → Type 0
AreEntries texts [] [] = ⊤
AreEntries texts [] (e ∷ es) = ⊥
AreEntries texts (c ∷ cs) [] = ⊥
AreEntries texts (c ∷ cs) (e ∷ es) = (e.document ≡ c.document) × IsNumber texts c.value e.number × AreEntries texts cs es

abbrev pub is_below : List ℕ → List ℕ → Bool
is_below a b = is_lt (slice_cmp nat_cmp a b)

-- each text stands before those behind it
abbrev pub TextsRise : List (List ℕ) → Type 0
TextsRise [] = ⊤
TextsRise (t ∷ ts) = AllByRecursion (λ u. is_below t u ≡ true) ts × TextsRise ts

-- some cell has this text
abbrev pub SomeText : List Cell → List ℕ → Type 0
SomeText [] t = ⊥
SomeText (c ∷ cs) t = (c.value ≡ values.Text t) ⊎ SomeText cs t

-- the distinct texts of the cells, rising
pub record AreTexts (cs : List Cell) (texts : List (List ℕ)) : Type 0 where
  pub rise : TextsRise texts
  pub utf8 : AllByRecursion IsUtf8 texts
  pub used : AllByRecursion (SomeText cs) texts

abbrev pub numbers : List Entry → List ℕ
numbers es = map (λ e. e.number) es

-- the least of some numbers, and 0 where there are none
abbrev pub least_of : List ℕ → ℕ
least_of [] = 0
least_of (n ∷ []) = n
least_of (n ∷ m ∷ ns) = min n (least_of (m ∷ ns))

-- the greatest of some numbers, and 0 where there are none
abbrev pub greatest_of : List ℕ → ℕ
greatest_of [] = 0
greatest_of (n ∷ ns) = max n (greatest_of ns)

-- whether the values of a kind are texts
abbrev pub has_texts : Kind → Bool
has_texts kinds.Text = true
has_texts kinds.TextList = true
has_texts kinds.I64 = false
has_texts kinds.U64 = false
has_texts kinds.Bool = false
has_texts kinds.Datetime = false

-- where the values are texts, the count of the distinct ones, and these
abbrev pub texts_bytes : Bool → List (List ℕ) → List ℕ
texts_bytes true texts = varint (length texts) ++ flat_map byte_string texts
texts_bytes false texts = []

abbrev pub documents_bytes : List Entry → List ℕ
documents_bytes es = flat_map (λ e. four e.document) es

-- the entries and the texts of a column in bytes
pub record IsSpelled (texted : Bool) (texts : List (List ℕ)) (es : List Entry) (bytes : List ℕ) : Type 0 where
  pub width : ℕ
  pub packed : List ℕ
  pub bytes_are : bytes ≡ varint (length es) ++ (texts_bytes texted texts ++ (documents_bytes es ++ (eight (least_of (numbers es)) ++ (width ∷ packed))))
  pub width_is : IsWidth (greatest_of (numbers es) - least_of (numbers es)) width
  pub packed_are : IsPacked width (map (λ n. n - least_of (numbers es)) (numbers es)) packed

-- documents never fall
abbrev pub DocumentsRise : List Entry → Type 0
DocumentsRise [] = ⊤
DocumentsRise (e ∷ es) = AllByRecursion (λ f. e.document ≤ f.document) es × DocumentsRise es

-- entries that can be spelled
pub record Fits (es : List Entry) : Type 0 where
  pub few : length es < 2 ^ 32
  pub rise : DocumentsRise es
  pub small_documents : AllByRecursion (λ e. e.document < 2 ^ 32) es
  pub small_numbers : AllByRecursion (λ e. e.number < 2 ^ 64) es

-- entries of cells whose documents don't fall and are not above a document
pub record AreGrown (texts : List (List ℕ)) (document : ℕ) (cs : List Cell) (es : List Entry) : Type 0 where
  pub are_entries : AreEntries texts cs es
  pub rise : DocumentsRise es
  pub not_above : AllByRecursion (λ e. e.document ≤ document) es
  pub small_documents : AllByRecursion (λ e. e.document < 2 ^ 32) es
  pub small_numbers : AllByRecursion (λ e. e.number < 2 ^ 64) es

-- the bytes stand for these documents and their values
pub record IsColumn (kind : Kind) (bytes : List ℕ) (rows : List ColumnRow) : Type 0 where
  pub texts : List (List ℕ)
  pub entries : List Entry
  pub are_texts : AreTexts (cells rows) texts
  pub few_texts : length texts < 2 ^ 64
  pub no_texts : has_texts kind ≡ false → texts ≡ []
  pub are_entries : AreEntries texts (cells rows) entries
  pub fits : Fits entries
  pub spelled : IsSpelled (has_texts kind) texts entries bytes

-- the documents rise
abbrev pub RowsRise : List ColumnRow → Type 0
RowsRise [] = ⊤
RowsRise (r ∷ rs) = AllByRecursion (λ s. r.document < s.document) rs × RowsRise rs

-- rows that a column can have: the documents rise, each has values of the field's kind, and there are fewer than 2 ^ 32 in all
pub record AreRows (kind : Kind) (rows : List ColumnRow) : Type 0 where
  pub rise : RowsRise rows
  pub some : AllByRecursion (λ r. 0 < length r.values) rows
  pub of_kind : AllByRecursion (λ c. IsOfKind kind c.value) (cells rows)
  pub few : length (cells rows) < 2 ^ 32
