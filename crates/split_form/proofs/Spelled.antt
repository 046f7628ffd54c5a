-- A column's bytes are those of its rows.
use Rattle.std.proofs.Common.{◌≡◌, ℕ, zero, suc, ◌-◌, ◌^◌, ◌<◌, Bool, true, false, List, [], ◌∷◌, ◌++◌, length, Some, refl, sym, ◌∙◌, ap, ap₂, subst, arith, inl, inr}
use Rattle.std.specs.Prelude.{Contains, slice_get}
use Rattle.std.specs.List.{AllByRecursion, flat_map}
use Rattle.std.specs.Str.{bytes_eq}
use Rattle.std.proofs.lemmas.Bool.{false_from_ne_true}
use Rattle.std.proofs.lemmas.List.Elements.{Contains-append_left, Contains-append_right, Contains-append_cases}
use Rattle.std.proofs.lemmas.Slice.Eq.{bytes_eq-Decides}
use Rattle.byte_fields.specs.Spelling.{varint, eight}
use Rattle.doc_value.specs.declared.doc.Value.{Value}
use Rattle.doc_value.specs.declared.doc.Value.TheVariants as values
use Rattle.doc_value.specs.declared.schema.Kind.{Kind}
use Rattle.fast_fields.specs.declared.rows.ColumnRow.{ColumnRow}
use Rattle.fast_fields.specs.declared.entries.Entry.{Entry}
use Rattle.fast_fields.specs.Columns.{AreEntries, AreTexts, Cell, IsColumn, IsNumber, IsSpelled, SomeText, cells, numbers, least_of, greatest_of, has_texts, texts_bytes, documents_bytes, is_below}
use Rattle.fast_fields.proofs.Below.{below_itself}
use Rattle.fast_fields.proofs.Places.{greatest_small}
use Rattle.split_bundle.specs.Documents.{place_among}
use Rattle.split_bundle.specs.Splits.{AreRising}
use Rattle.split_form.specs.Packing.{width_of, packed}
use Rattle.split_form.specs.Spelled.{text_of, texts_of, number_of, entries_of, above_least, spelled, column_bytes}
use Rattle.split_form.proofs.Rising.{here, later, first_or, none_in, all_in, sorted_one}
use Rattle.split_form.proofs.Packing.{width_one, packed_one}

-- ---- the texts

abbrev said : List Cell → List (List ℕ)
said cs = flat_map (λ c. text_of c.value) cs

some_said : (cs : List Cell) (t : List ℕ) → SomeText cs t → Contains (said cs) t
some_said [] t h = absurd h
some_said (c ∷ cs) t (inl is) =
    let own : Contains (text_of c.value) t = subst (λ (v : Value). Contains (text_of v) t) (sym is) (here t []) in
    Contains-append_left (text_of c.value) (said cs) t own
some_said (c ∷ cs) t (inr more) = Contains-append_right (text_of c.value) (said cs) t (some_said cs t more)

get_in : (ts : List (List ℕ)) (n : ℕ) (t : List ℕ) → slice_get ts n ≡ Some t → Contains ts t
get_in [] n t e = absurd cc
get_in (x ∷ xs) zero t e =
    let same : x ≡ t = cc in
    subst (λ (u : List ℕ). Contains (x ∷ xs) u) same (here x xs)
get_in (x ∷ xs) (suc n) t e = later x xs t (get_in xs n t e)

number_in : (texts : List (List ℕ)) (v : Value) (n : ℕ) (t : List ℕ) → IsNumber texts v n → Contains (text_of v) t → Contains texts t
number_in texts (values.Text u) n t h c = elim (first_or u [] t c) [
  | inl same ↦ subst (λ (x : List ℕ). Contains texts x) same (get_in texts n u h)
  | inr none ↦ absurd (none_in t none)
]
number_in texts (values.I64 z) n t h c = absurd (none_in t c)
number_in texts (values.U64 m) n t h c = absurd (none_in t c)
number_in texts (values.Bool b) n t h c = absurd (none_in t c)
number_in texts (values.Datetime z) n t h c = absurd (none_in t c)

said_in : (texts : List (List ℕ)) (cs : List Cell) (es : List Entry) (t : List ℕ) → AreEntries texts cs es → Contains (said cs) t → Contains texts t
said_in texts [] es t h c = absurd (none_in t c)
said_in texts (c ∷ cs) [] t h d = absurd h
said_in texts (c ∷ cs) (e ∷ es) t h d = elim (Contains-append_cases (text_of c.value) (said cs) t d) [
  | inl this ↦ number_in texts c.value e.number t h.1 this
  | inr more ↦ said_in texts cs es t h.2 more
]

texts_one : (cs : List Cell) (texts : List (List ℕ)) (es : List Entry) → AreTexts cs texts → AreEntries texts cs es → texts ≡ texts_of cs
texts_one cs texts es h entries =
    sorted_one texts (said cs) h.rise (λ t. (λ c. some_said cs t (all_in (SomeText cs) texts t h.used c), λ c. said_in texts cs es t entries c))

-- ---- the entries

place_one : (ts : List (List ℕ)) (t : List ℕ) (n : ℕ) → AreRising ts → slice_get ts n ≡ Some t → n ≡ place_among ts t
place_one [] t n rising e = absurd cc
place_one (x ∷ xs) t zero rising e =
    let same : x ≡ t = cc in
    rw ((bytes_eq-Decides x t).1 same) refl
place_one (x ∷ xs) t (suc n) rising e =
    let below = all_in (λ u. is_below x u ≡ true) xs t rising.0 (get_in xs n t e) in
    let other : bytes_eq x t ≡ false = false_from_ne_true (bytes_eq x t) (λ same. below_itself x (subst (λ (u : List ℕ). is_below x u ≡ true) (sym ((bytes_eq-Decides x t).0 same)) below)) in
    ap (λ (m : ℕ). suc m) (place_one xs t n rising.1 e) ∙ rw other refl

number_one : (texts : List (List ℕ)) (v : Value) (n : ℕ) → AreRising texts → IsNumber texts v n → n ≡ number_of texts v
number_one texts (values.Text t) n rising h = place_one texts t n rising h
number_one texts (values.I64 z) n rising h = h
number_one texts (values.U64 m) n rising h = h
number_one texts (values.Bool false) n rising h = h
number_one texts (values.Bool true) n rising h = h
number_one texts (values.Datetime z) n rising h = h

abbrev entry : ℕ → ℕ → Entry
entry document number = record { document = document; number = number }

entries_one : (texts : List (List ℕ)) (cs : List Cell) (es : List Entry) → AreRising texts → AreEntries texts cs es → es ≡ entries_of texts cs
entries_one texts [] [] rising h = refl
entries_one texts [] (e ∷ es) rising h = absurd h
entries_one texts (c ∷ cs) [] rising h = absurd h
entries_one texts (c ∷ cs) (e ∷ es) rising h =
    let this : e ≡ entry c.document (number_of texts c.value) = ap₂ entry h.0 (number_one texts c.value e.number rising h.1) in
    ap₂ (λ (x : Entry) (xs : List Entry). x ∷ xs) this (entries_one texts cs es rising h.2)

-- ---- the bytes

pub all_front : (P : ℕ → Type 0) (xs ys : List ℕ) → AllByRecursion P (xs ++ ys) → AllByRecursion P xs
all_front P [] ys h = tt
all_front P (x ∷ xs) ys h = (h.0, all_front P xs ys h.1)

pub all_back : (P : ℕ → Type 0) (xs ys : List ℕ) → AllByRecursion P (xs ++ ys) → AllByRecursion P ys
all_back P [] ys h = h
all_back P (x ∷ xs) ys h = all_back P xs ys h.1

spelled_one : (texted : Bool) (texts : List (List ℕ)) (es : List Entry) (bytes : List ℕ) → IsSpelled texted texts es bytes → AllByRecursion (λ e. e.number < 2 ^ 64) es → AllByRecursion (λ b. b < 256) bytes → bytes ≡ spelled texted texts es
spelled_one texted texts es bytes h numbers_small small =
    let ns = numbers es in
    let all : AllByRecursion (λ b. b < 256) (varint (length es) ++ (texts_bytes texted texts ++ (documents_bytes es ++ (eight (least_of ns) ++ (h.width ∷ h.packed))))) = subst (λ (l : List ℕ). AllByRecursion (λ b. b < 256) l) h.bytes_are small in
    let behind = all_back (λ b. b < 256) (eight (least_of ns)) (h.width ∷ h.packed)
    (all_back (λ b. b < 256) (documents_bytes es) (eight (least_of ns) ++ (h.width ∷ h.packed))
    (all_back (λ b. b < 256) (texts_bytes texted texts) (documents_bytes es ++ (eight (least_of ns) ++ (h.width ∷ h.packed)))
    (all_back (λ b. b < 256) (varint (length es)) (texts_bytes texted texts ++ (documents_bytes es ++ (eight (least_of ns) ++ (h.width ∷ h.packed)))) all))) in
    let width_is : h.width ≡ width_of (greatest_of ns - least_of ns) = width_one (greatest_of ns - least_of ns) h.width h.width_is (omega (arith, greatest_small es numbers_small)) in
    let packed_is : h.packed ≡ packed h.width (above_least ns) = packed_one h.width (above_least ns) h.packed h.packed_are behind.1 in
    h.bytes_are
    ∙ ap (λ (l : List ℕ). varint (length es) ++ (texts_bytes texted texts ++ (documents_bytes es ++ (eight (least_of ns) ++ (h.width ∷ l))))) packed_is
    ∙ ap (λ (w : ℕ). varint (length es) ++ (texts_bytes texted texts ++ (documents_bytes es ++ (eight (least_of ns) ++ (w ∷ packed w (above_least ns)))))) width_is

pub column_one : (kind : Kind) (bytes : List ℕ) (rows : List ColumnRow) → IsColumn kind bytes rows → AllByRecursion (λ b. b < 256) bytes → bytes ≡ column_bytes kind rows
unfolding column_bytes
column_one kind bytes rows h small =
    let texts_are = texts_one (cells rows) h.texts h.entries h.are_texts h.are_entries in
    spelled_one (has_texts kind) h.texts h.entries bytes h.spelled h.fits.small_numbers small
    ∙ ap (λ (es : List Entry). spelled (has_texts kind) h.texts es) (entries_one h.texts (cells rows) h.entries h.are_texts.rise h.are_entries)
    ∙ ap (λ (ts : List (List ℕ)). spelled (has_texts kind) ts (entries_of ts (cells rows))) texts_are
