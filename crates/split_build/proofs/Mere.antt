-- What has one proof at most, so that it comes out of what is merely known.
use Rattle.std.proofs.Common.{◌≡◌, ℕ, ◌+◌, ◌≤◌, ◌<◌, ◌^◌, Bool, true, false, List, [], ◌∷◌, length, Option, Some, None}
use Rattle.std.proofs.Props.{props}
use Rattle.std.specs.Coded.{×_prop, Unit-prop}
use Rattle.std.specs.Prelude.{slice_get, slice_index, MatchOption, IfSome}
use Rattle.std.specs.List.{AllByRecursion}
use base.Stored.{Coded-set}
use Rattle.doc_value.specs.Documents.{IsBefore, PathsRise, IsTimestamp, IsDynamic, IsSchema, max_fields, values_in}
use Rattle.doc_value.specs.contracts.schema.Kind as kind_row
use Rattle.doc_value.specs.contracts.schema.Tokenizer as tokenizer_row
use Rattle.doc_value.specs.declared.doc.DocField.{DocField}
use Rattle.doc_value.specs.declared.doc.Value.{Value}
use Rattle.doc_value.specs.declared.doc.Value.TheVariants as values
use Rattle.doc_value.specs.declared.schema.Field.{Field}
use Rattle.doc_value.specs.declared.schema.Kind.{Kind}
use Rattle.doc_value.specs.declared.schema.Kind.TheVariants as kinds
use Rattle.doc_value.specs.declared.schema.Schema.{Schema}
use Rattle.doc_value.specs.declared.schema.Tokenizer.{Tokenizer}
use Rattle.doc_value.specs.declared.schema.Tokenizer.TheVariants as tokenizers
use Rattle.fast_fields.specs.Columns.{DocumentsRise, Fits, TextsRise}
use Rattle.fast_fields.specs.declared.entries.Entry.{Entry}
use Rattle.term_dict.specs.Keys.{is_below}
use Rattle.term_postings.specs.declared.list.Posting.{Posting}
use Rattle.term_postings.specs.Postings.{AreRising, MayHave}
use Rattle.split_build.specs.declared.key_groups.KeyGroups.{KeyGroups}
use Rattle.split_build.specs.KeyGroups.{HasGroup}
use Rattle.split_build.specs.Walks.{AreShort, IsShort, IsShortDoc}
use Rattle.split_build.proofs.TermLemmas.{CanPost}

pub lt_prop : (a b : ℕ) → IsProp (a < b)
lt_prop a b = hlevel props

pub nat_set : (a b : ℕ) → IsProp (a ≡ b)
nat_set a b = hlevel props

pub le_prop : (a b : ℕ) → IsProp (a ≤ b)
le_prop a b = hlevel props

pub all_prop : {X : Type 0} (P : X → Type 0) → ((x : X) → IsProp (P x)) → (xs : List X) → IsProp (AllByRecursion P xs)
all_prop P one [] = Unit-prop
all_prop P one (x ∷ xs) = ×_prop (one x) (all_prop P one xs)

-- ---- lists of documents and places

pub rising_prop : (ns : List ℕ) → IsProp (AreRising ns)
rising_prop [] = Unit-prop
rising_prop (n ∷ ns) = ×_prop (all_prop (λ m. n < m) (λ m. lt_prop n m) ns) (rising_prop ns)

may_prop : (kept : Bool) (ns : List ℕ) → IsProp (MayHave kept ns)
may_prop true ns = Unit-prop
may_prop false ns = hlevel props

pub post_prop : (kept : Bool) (ps : List Posting) → IsProp (CanPost kept ps)
post_prop kept ps = all_prop (λ (p : Posting). AreRising p.positions × MayHave kept p.positions) (λ p. ×_prop (rising_prop p.positions) (may_prop kept p.positions)) ps

pub group_prop : (n : ℕ) (g : KeyGroups) → IsProp (HasGroup n g)
group_prop n g a b = λ i. record {
  within = lt_prop (n + 1) (length g.starts.items) a.within b.within i;
  order = le_prop (slice_index g.starts.items n) (slice_index g.starts.items (n + 1)) a.order b.order i;
  end = le_prop (slice_index g.starts.items (n + 1)) (length g.spots.items) a.end b.end i;
}

-- ---- columns

below_prop : (t u : List ℕ) → IsProp (is_below t u ≡ true)
below_prop t u = hlevel props

pub texts_prop : (ts : List (List ℕ)) → IsProp (TextsRise ts)
texts_prop [] = Unit-prop
texts_prop (t ∷ ts) = ×_prop (all_prop (λ u. is_below t u ≡ true) (λ u. below_prop t u) ts) (texts_prop ts)

documents_prop : (es : List Entry) → IsProp (DocumentsRise es)
documents_prop [] = Unit-prop
documents_prop (e ∷ es) = ×_prop (all_prop (λ (f : Entry). e.document ≤ f.document) (λ f. le_prop e.document f.document) es) (documents_prop es)

pub fits_prop : (es : List Entry) → IsProp (Fits es)
fits_prop es a b = λ i. record {
  few = lt_prop (length es) (2 ^ 32) a.few b.few i;
  rise = documents_prop es a.rise b.rise i;
  small_documents = all_prop (λ (e : Entry). e.document < 2 ^ 32) (λ e. lt_prop e.document (2 ^ 32)) es a.small_documents b.small_documents i;
  small_numbers = all_prop (λ (e : Entry). e.number < 2 ^ 64) (λ e. lt_prop e.number (2 ^ 64)) es a.small_numbers b.small_numbers i;
}

-- ---- documents

short_value : (v : Value) → IsProp (IsShort v)
short_value (values.Text t) = lt_prop (length t) (2 ^ 32)
short_value (values.I64 z) = Unit-prop
short_value (values.U64 n) = Unit-prop
short_value (values.Bool b) = Unit-prop
short_value (values.Datetime z) = Unit-prop

short_values : (vs : List Value) → IsProp (AreShort vs)
short_values vs a b = λ i. record { each = all_prop IsShort short_value vs a.each b.each i; few = lt_prop (length vs) (2 ^ 32) a.few b.few i }

pub short_prop : (doc : List DocField) → IsProp (IsShortDoc doc)
short_prop doc a b = λ i n. short_values (values_in doc n) (a n) (b n) i

-- ---- a schema

Kind-set : IsSet Kind
Kind-set = Coded-set kind_row.the_row.coded

Tokenizer-set : IsSet Tokenizer
Tokenizer-set = Coded-set tokenizer_row.the_row.coded

before_prop : (a b : List ℕ) → IsProp (IsBefore a b)
before_prop a b = hlevel props

paths_prop : (fields : List Field) → IsProp (PathsRise fields)
paths_prop [] = Unit-prop
paths_prop (f ∷ []) = Unit-prop
paths_prop (f ∷ g ∷ fields) = ×_prop (before_prop f.path g.path) (paths_prop (g ∷ fields))

stamp_prop : (o : Option Field) → IsProp (MatchOption o ⊥ (λ f. (f.kind ≡ kinds.Datetime) × (f.fast ≡ true)))
stamp_prop None = hlevel props
stamp_prop (Some f) = hlevel (Kind-set, props)

timestamp_prop : (fields : List Field) (o : Option ℕ) → IsProp (IfSome o (IsTimestamp fields))
timestamp_prop fields None = hlevel props
timestamp_prop fields (Some number) = stamp_prop (slice_get fields number)

unmapped_prop : (o : Option Field) → IsProp (MatchOption o ⊥ (λ f.
    (f.kind ≡ kinds.TextList) × (f.tokenizer ≡ tokenizers.Raw) × (f.indexed ≡ true) × (f.fast ≡ false) × (f.tag ≡ false) × (f.positions ≡ false)))
unmapped_prop None = hlevel props
unmapped_prop (Some f) = hlevel (Kind-set, Tokenizer-set, props)

dynamic_prop : (fields : List Field) (o : Option ℕ) → IsProp (IfSome o (IsDynamic fields))
dynamic_prop fields None = hlevel props
dynamic_prop fields (Some number) = unmapped_prop (slice_get fields number)

pub schema_prop : (s : Schema) → IsProp (IsSchema s)
schema_prop s a b = λ i. record {
  few = le_prop (length s.fields) max_fields a.few b.few i;
  rise = paths_prop s.fields a.rise b.rise i;
  timestamp = timestamp_prop s.fields s.timestamp a.timestamp b.timestamp i;
  dynamic = dynamic_prop s.fields s.dynamic a.dynamic b.dynamic i;
}
