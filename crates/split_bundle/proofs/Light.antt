-- What documents have that are light together: few documents, few values and short texts.
use Rattle.std.proofs.Common.{◌≡◌, ℕ, ◌+◌, ◌*◌, ◌<◌, ◌≤◌, ◌^◌, Bool, true, false, List, [], ◌∷◌, ◌++◌, length, refl, arith, length-append}
use Rattle.std.specs.Prelude.{◌==◌}
use Rattle.std.specs.List.{flat_map, AllByRecursion}
use Rattle.byte_fields.specs.Spelling.{varint}
use Rattle.doc_value.specs.declared.doc.DocField.{DocField}
use Rattle.doc_value.specs.declared.doc.Value.{Value}
use Rattle.doc_value.specs.declared.doc.Value.TheVariants as values
use Rattle.doc_value.specs.declared.schema.Field.{Field}
use Rattle.doc_value.specs.declared.schema.Schema.{Schema}
use Rattle.query_ast.specs.Meaning.{tokens_in}
use Rattle.doc_value.specs.Documents.{values_in}
use Rattle.term_dict.proofs.Areas.{varint_some}
use Rattle.split_bundle.specs.declared.placed.Placed.{Placed}
use Rattle.split_bundle.specs.Documents.{value_bytes, field_bytes, doc_bytes, weight, total_weight}
use Rattle.split_bundle.specs.Held.{IsHeldValue, AreHeld, IsHeld}
use Rattle.split_bundle.specs.Splits.{AreDocumentsOf, max_weight}
use Rattle.split_bundle.proofs.DocsAgain.{value_some, many}
use Rattle.split_bundle.proofs.TokenPlaces.{AreBelow, tokens_below}

-- ---- of many documents

pub weighs : (documents : List Placed) → 257 * length documents ≤ total_weight documents
weighs [] = omega arith
weighs (d ∷ ds) = omega (arith, weighs ds)

pub few_documents : (s : Schema) (documents : List Placed) → AreDocumentsOf s documents → length documents < 2 ^ 32
few_documents s documents are = omega (arith, weighs documents, are.light)

-- none is heavier than all together
pub each_light : (documents : List Placed) (limit : ℕ) → total_weight documents ≤ limit → AllByRecursion (λ d. weight d ≤ limit) documents
each_light [] limit le = tt
each_light (d ∷ ds) limit le = (omega (arith, le), each_light ds limit (omega (arith, le)))

-- ---- of a document

abbrev pub bytes_in : List Value → ℕ
bytes_in vs = length (flat_map value_bytes vs)

pub field_long : (f : DocField) → 2 + bytes_in f.values ≤ length (field_bytes f)
field_long f =
    omega (
      arith,
      varint_some f.number,
      varint_some (length f.values),
      length-append (varint f.number) (varint (length f.values) ++ flat_map value_bytes f.values),
      length-append (varint (length f.values)) (flat_map value_bytes f.values),
    )

pub values_within : (doc : List DocField) (n : ℕ) → bytes_in (values_in doc n) ≤ length (flat_map field_bytes doc)
values_within [] n = omega arith
values_within (f ∷ fs) n = by (f.number == n) refl (values_within fs n)
  where
    by : (b : Bool) → (f.number == n) ≡ b → bytes_in (values_in fs n) ≤ length (flat_map field_bytes fs) → bytes_in (values_in (f ∷ fs) n) ≤ length (flat_map field_bytes (f ∷ fs))
    by true is rest = rw is (omega (arith, field_long f, length-append (field_bytes f) (flat_map field_bytes fs)))
    by false is rest = rw is (omega (arith, rest, length-append (field_bytes f) (flat_map field_bytes fs)))

-- a document's fields have at least 257 bytes fewer than it weighs
pub doc_light : (d : Placed) → length (flat_map field_bytes d.doc) + 257 ≤ weight d
doc_light d =
    omega (arith, length-append (varint d.offset) (doc_bytes d.doc), length-append (varint (length d.doc)) (flat_map field_bytes d.doc))

values_light : (d : Placed) (n : ℕ) → weight d ≤ max_weight → bytes_in (values_in d.doc n) < max_weight
values_light d n le = omega (arith, values_within d.doc n, doc_light d, le)

-- ---- of its values

-- a text is shorter than the limit of a split's weight
abbrev pub IsShortText : Value → Type 0
IsShortText (values.Text t) = length t < max_weight
IsShortText _ = Unit {0}

short_text : (v : Value) → length (value_bytes v) < max_weight → IsShortText v
short_text (values.Text t) lt = omega (arith, lt, length-append (varint (length t)) t)
short_text (values.I64 z) lt = tt
short_text (values.U64 n) lt = tt
short_text (values.Bool b) lt = tt
short_text (values.Datetime z) lt = tt

short_texts : (vs : List Value) → bytes_in vs < max_weight → AllByRecursion IsShortText vs
short_texts [] lt = tt
short_texts (v ∷ vs) lt =
    let all = length-append (value_bytes v) (flat_map value_bytes vs) in
    (short_text v (omega (arith, lt, all)), short_texts vs (omega (arith, lt, all)))

-- the values of a field in a document of a split
pub record AreLight (vs : List Value) : Type 0 where
  pub few : length vs < max_weight
  pub short : AllByRecursion IsShortText vs

all_to : {X : Type 0} (P Q : X → Type 0) (xs : List X) → ((x : X) → P x → Q x) → AllByRecursion P xs → AllByRecursion Q xs
all_to P Q [] to all = tt
all_to P Q (x ∷ xs) to all = (to x all.0, all_to P Q xs to all.1)

pub are_light : (d : Placed) (n : ℕ) → weight d ≤ max_weight → AreLight (values_in d.doc n)
are_light d n le =
    let less = values_light d n le in
    record { few = omega (arith, less, many value_bytes value_some (values_in d.doc n)); short = short_texts (values_in d.doc n) less }

pub light_values : (s : Schema) (documents : List Placed) → AreDocumentsOf s documents → (n : ℕ) → AllByRecursion (λ d. AreLight (values_in d.doc n)) documents
light_values s documents are n =
    all_to (λ (d : Placed). weight d ≤ max_weight) (λ d. AreLight (values_in d.doc n)) documents (λ d le. are_light d n le) (each_light documents max_weight are.light)

-- the tokens of a value stand near its first one
tokens_near : (f : Field) (v : Value) → IsShortText v → AreBelow max_weight (tokens_in f v)
tokens_near f (values.Text t) short = tokens_below f t max_weight short
tokens_near f (values.I64 z) short = tt
tokens_near f (values.U64 n) short = tt
tokens_near f (values.Bool b) short = tt
tokens_near f (values.Datetime z) short = tt

pub near_tokens : (s : Schema) (documents : List Placed) → AreDocumentsOf s documents → (n : ℕ) (f : Field)
    → AllByRecursion (λ d. AllByRecursion (λ v. AreBelow max_weight (tokens_in f v)) (values_in d.doc n)) documents
near_tokens s documents are n f =
    all_to (λ (d : Placed). AreLight (values_in d.doc n)) (λ d. AllByRecursion (λ v. AreBelow max_weight (tokens_in f v)) (values_in d.doc n)) documents
    (λ d light. all_to IsShortText (λ v. AreBelow max_weight (tokens_in f v)) (values_in d.doc n) (λ v short. tokens_near f v short) light.short) (light_values s documents are n)

-- each value is held
values_held : (doc : List DocField) (n : ℕ) → AreHeld doc → AllByRecursion IsHeldValue (values_in doc n)
values_held [] n held = tt
values_held (f ∷ fs) n held = by (f.number == n) refl (values_held fs n held.1)
  where
    by : (b : Bool) → (f.number == n) ≡ b → AllByRecursion IsHeldValue (values_in fs n) → AllByRecursion IsHeldValue (values_in (f ∷ fs) n)
    by true is rest = rw is held.0
    by false is rest = rw is rest

pub held_values : (s : Schema) (documents : List Placed) → AreDocumentsOf s documents → (n : ℕ) → AllByRecursion (λ d. AllByRecursion IsHeldValue (values_in d.doc n)) documents
held_values s documents are n = all_to IsHeld (λ d. AllByRecursion IsHeldValue (values_in d.doc n)) documents (λ d held. values_held d.doc n held.doc) are.held
