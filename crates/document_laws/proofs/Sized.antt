-- The texts of a document's mapped fields are together no longer than its record, and those of the leaves are few and short.
use Rattle.std.proofs.Common.{◌≡◌, ◌≢◌, ℕ, suc, ◌+◌, ◌*◌, ◌==◌, ◌≤◌, nat_lt, leb-true, Bool, List, [], ◌∷◌, ◌++◌, length, slice_get, Option, Some, None, Ok, refl, ap, sym, ◌∙◌, subst, arith, true, false, if◌then◌else◌}
use Rattle.std.specs.Str.{is_utf8}
use Rattle.serde_json.specs.Data.{Data, null, boolean, number, string, array, object, Items, no_items, item}
use Rattle.serde_json.specs.Find.{as_bool, as_str}
use Rattle.serde_json.specs.Read.{read}
use Rattle.doc_value.specs.Documents.{PathsRise}
use Rattle.doc_value.specs.Printed.{names_of}
use Rattle.doc_value.specs.declared.schema.Field.{Field}
use Rattle.doc_value.specs.declared.schema.Kind.{Kind}
use Rattle.doc_value.specs.declared.schema.Kind.TheVariants as kinds
use Rattle.doc_value.specs.declared.doc.Value.{Value}
use Rattle.doc_value.specs.declared.doc.DocField.{DocField}
use Rattle.index_config.specs.declared.config.IndexConfig.{IndexConfig}
use Rattle.doc_mapping.specs.Answer.{answer, leaf_fault, leaf_fault_by, value_of}
use Rattle.doc_mapping.specs.Documents.{value_at, text_values, i64_values, u64_values, truth_values, date_values, second_of, texts_in, values_of, found_values, part_of, leaf_values, leaves_for, values_from, doc_from, doc_of}
use Rattle.doc_mapping.specs.Faults.{i64_of, u64_of}
use Rattle.std.specs.Prelude.{ℤ, map}
use Rattle.std.specs.Cmp.{unsigned_Decides}
use Rattle.std.proofs.lemmas.Bool.Decides.{nat_tests}
use Rattle.doc_value.specs.declared.schema.Schema.{Schema}
use Rattle.doc_value.specs.declared.doc.Value.TheVariants as values
use Rattle.dynamic_paths.specs.LeafTexts.{Leaf, leaf_text, max_leaf_text, fits, fitting_texts}
use Rattle.dynamic_paths.specs.Leaves.{is_number, leaf_list, max_leaves}
use Rattle.doc_mapping.specs.Held.{values_at}
use Rattle.doc_mapping.specs.Walk.{RiseFrom}
use Rattle.doc_mapping.proofs.Numbering.{doc_rises, values_below, values_past}
use Rattle.doc_mapping.proofs.Recorded.{its_number, not_its_number, values_dynamic as document_dynamic}
use Rattle.document_laws.specs.ReadBack.{IsApartFrom, AllApart, paths_of}
use Rattle.document_laws.specs.Sizes.{values_size, doc_size, mapped_size, max_leaf_size}
use Rattle.document_laws.proofs.Cut.{cut, cut_size, cut_other}
use Rattle.document_laws.proofs.Parsed.{data_size, items_size, read_size}
use Rattle.document_laws.proofs.Recorded.{StandFrom, stand_next, stands_here, same_place, nothing_for, IsFrom, made_from, mapped_apart}

-- ---- the values of a field

i64_none : (o : Option ℤ) → values_size (i64_values o) ≡ 0
i64_none None = refl
i64_none (Some n) = refl

u64_none : (o : Option ℕ) → values_size (u64_values o) ≡ 0
u64_none None = refl
u64_none (Some n) = refl

truth_none : (o : Option Bool) → values_size (truth_values o) ≡ 0
truth_none None = refl
truth_none (Some b) = refl

date_none : (o : Option ℤ) → values_size (date_values o) ≡ 0
date_none None = refl
date_none (Some s) = refl

values-append : (vs ws : List Value) → values_size (vs ++ ws) ≡ values_size vs + values_size ws
values-append [] ws = omega arith
values-append (v ∷ vs) ws = let again = values-append vs ws in omega (arith, again)

text_size : (d : Data) → values_size (text_values (as_str d)) ≤ data_size d
text_size null = omega arith
text_size (boolean b) = omega arith
text_size (number n) = omega arith
text_size (string s) = omega arith
text_size (array ds) = omega arith
text_size (object ms) = omega arith

texts_size : (ds : Items) → values_size (texts_in ds) ≤ items_size ds
texts_size no_items = omega arith
texts_size (item d ds) =
    let here = text_size d in
    let more = texts_size ds in
    let both = values-append (text_values (as_str d)) (texts_in ds) in
    omega (arith, here, more, both)

list_size : (d : Data) → values_size (values_of kinds.TextList d) ≤ data_size d
list_size null = omega arith
list_size (boolean b) = omega arith
list_size (number n) = omega arith
list_size (string s) = omega arith
list_size (array ds) = texts_size ds
list_size (object ms) = omega arith

kind_size : (kind : Kind) (d : Data) → values_size (values_of kind d) ≤ data_size d
kind_size kinds.Text d = text_size d
kind_size kinds.I64 d = let none = i64_none (i64_of d) in omega (arith, none)
kind_size kinds.U64 d = let none = u64_none (u64_of d) in omega (arith, none)
kind_size kinds.Bool d = let none = truth_none (as_bool d) in omega (arith, none)
kind_size kinds.Datetime d = let none = date_none (second_of (as_str d) (i64_of d)) in omega (arith, none)
kind_size kinds.TextList d = list_size d

-- ---- the fields of a document

-- a field's values are of what stands at its path
record SitsAt (whole : List Field) (d : Data) (part : DocField) : Type 0 where
  field : Field
  found : Data
  here : slice_get whole part.number ≡ Some field
  stands : value_at (names_of field.path) d ≡ Some found
  size : values_size part.values ≤ data_size found

abbrev Sit : List Field → Data → List DocField → Type 0
Sit whole d [] = Unit {0}
Sit whole d (part ∷ parts) = SitsAt whole d part × Sit whole d parts

sits_apart : (whole : List Field) (d : Data) (ns : List (List ℕ)) (parts : List DocField) → IsApartFrom ns (paths_of whole parts) → Sit whole d parts → Sit whole (cut ns d) parts
sits_apart whole d ns [] a s = tt
sits_apart whole d ns (part ∷ parts) a s =
    let r = s.0 in
    let b : IsApartFrom ns (names_of r.field.path ∷ paths_of whole parts) = rw r.here at a in
    (record { field = r.field; found = r.found; here = r.here; stands = cut_other ns (names_of r.field.path) d b.0 ∙ r.stands; size = r.size }, sits_apart whole d ns parts b.1 s.1)

sizes : (whole : List Field) (parts : List DocField) (d : Data) → AllApart (paths_of whole parts) → Sit whole d parts → doc_size parts ≤ data_size d
sizes whole [] d a s = omega arith
sizes whole (part ∷ parts) d a s =
    let r = s.0 in
    let b : AllApart (names_of r.field.path ∷ paths_of whole parts) = rw r.here at a in
    let left = sizes whole parts (cut (names_of r.field.path) d) b.1 (sits_apart whole d (names_of r.field.path) parts b.0 s.1) in
    let less = cut_size (names_of r.field.path) d r.found r.stands in
    let here = r.size in
    omega (arith, left, less, here)

module _ (o : Option ℕ) (whole : List Field) (d : Data) where
  sit_from : (n : ℕ) (fs : List Field) → StandFrom whole n fs → Sit whole d (doc_from o [] n fs d)
  sit_from n [] at = tt
  sit_from n (f ∷ fs) at = dynamic (is_number o n) refl (sit_from (suc n) fs (stand_next whole n f fs at))
    where
      Rest : Type 0
      Rest = Sit whole d (doc_from o [] (suc n) fs d)

      with : (x : Data) → value_at (names_of f.path) d ≡ Some x → (vs : List Value) → values_size vs ≤ data_size x → Rest → Sit whole d (part_of n vs ++ doc_from o [] (suc n) fs d)
      with x e [] l rest = rest
      with x e (v ∷ vs) l rest = (record { field = f; found = x; here = stands_here whole n f fs at; stands = e; size = l }, rest)

      none : (vs : List Value) → vs ≡ [] → Rest → Sit whole d (part_of n vs ++ doc_from o [] (suc n) fs d)
      none [] e rest = rest
      none (v ∷ vs) e rest = absurd (cc)

      go : (x : Option Data) → value_at (names_of f.path) d ≡ x → Rest → Sit whole d (part_of n (found_values f.kind x) ++ doc_from o [] (suc n) fs d)
      go None e rest = rest
      go (Some x) e rest = with x e (values_of f.kind x) (kind_size f.kind x) rest

      dynamic : (b : Bool) → is_number o n ≡ b → Rest → Sit whole d (doc_from o [] n (f ∷ fs) d)
      dynamic true e rest = rw e (none (leaves_for f.kind []) (nothing_for f.kind) rest)
      dynamic false e rest = rw e (go (value_at (names_of f.path) d) refl rest)

values_dynamic : (o : Option ℕ) (ls : List Value) (n : ℕ) (f : Field) (d : Data) → is_number o n ≡ true → values_from o ls n f d ≡ leaves_for f.kind ls
values_dynamic o ls n f d e = rw e refl

values_mapped : (o : Option ℕ) (ls : List Value) (n : ℕ) (f : Field) (d : Data) → is_number o n ≡ false → values_from o ls n f d ≡ found_values f.kind (value_at (names_of f.path) d)
values_mapped o ls n f d e = rw e refl

-- the mapped fields have what they have without leaves
module _ (o : Option ℕ) (ls : List Value) (d : Data) where
  mapped_part : (n : ℕ) (vs : List Value) (parts : List DocField) → is_number o n ≡ false → mapped_size o (part_of n vs ++ parts) ≡ values_size vs + mapped_size o parts
  mapped_part n [] parts e = omega arith
  mapped_part n (v ∷ vs) parts e = rw e refl

  dynamic_part : (n : ℕ) (vs : List Value) (parts : List DocField) → is_number o n ≡ true → mapped_size o (part_of n vs ++ parts) ≡ mapped_size o parts
  dynamic_part n [] parts e = refl
  dynamic_part n (v ∷ vs) parts e = rw e (omega arith)

  plain_part : (n : ℕ) (vs : List Value) (parts : List DocField) → doc_size (part_of n vs ++ parts) ≡ values_size vs + doc_size parts
  plain_part n [] parts = omega arith
  plain_part n (v ∷ vs) parts = refl

  mapped_only : (n : ℕ) (fs : List Field) → mapped_size o (doc_from o ls n fs d) ≡ doc_size (doc_from o [] n fs d)
  mapped_only n [] = refl
  mapped_only n (f ∷ fs) = by (is_number o n) refl (mapped_only (suc n) fs)
    where
      Goal : Type 0
      Goal = mapped_size o (doc_from o ls n (f ∷ fs) d) ≡ doc_size (doc_from o [] n (f ∷ fs) d)

      found : List Value
      found = found_values f.kind (value_at (names_of f.path) d)

      by : (b : Bool) → is_number o n ≡ b → mapped_size o (doc_from o ls (suc n) fs d) ≡ doc_size (doc_from o [] (suc n) fs d) → Goal
      by true e rest =
          dynamic_part n (values_from o ls n f d) (doc_from o ls (suc n) fs d) e ∙ rest
          ∙ ap (λ (vs : List Value). doc_size (part_of n vs ++ doc_from o [] (suc n) fs d)) (sym (values_dynamic o [] n f d e ∙ nothing_for f.kind))
      by false e rest =
          mapped_part n (values_from o ls n f d) (doc_from o ls (suc n) fs d) e
          ∙ ap (λ (k : ℕ). values_size (values_from o ls n f d) + k) rest
          ∙ ap (λ (vs : List Value). values_size vs + doc_size (doc_from o [] (suc n) fs d)) (values_mapped o ls n f d e ∙ sym (values_mapped o [] n f d e))
          ∙ sym (plain_part n (values_from o [] n f d) (doc_from o [] (suc n) fs d))

-- ---- the record

value_size : (bytes : List ℕ) (d : Data) → value_of bytes ≡ Some d → data_size d ≤ length bytes
value_size bytes d e = by (is_utf8 bytes) e
  where
    by : (b : Bool) → (if b then read bytes else None) ≡ Some d → data_size d ≤ length bytes
    by true h = read_size bytes d h
    by false h = absurd (let z : ◌≡◌ {A = Option Data} None (Some d) = h in cc)

pub record_size : (config : IndexConfig) (bytes : List ℕ) (doc : List DocField) → PathsRise config.schema.fields → answer config bytes ≡ Ok doc
    → mapped_size config.schema.dynamic doc ≤ length bytes
record_size config bytes doc r e =
    let m = made_from config bytes doc e in
    let schema = config.schema in
    let mapped = doc_from schema.dynamic [] 0 schema.fields m.0 in
    let only : mapped_size schema.dynamic doc ≡ doc_size mapped =
    ap (mapped_size schema.dynamic) (sym m.3) ∙ mapped_only schema.dynamic (leaf_values schema m.0) m.0 0 schema.fields in
    let within = sizes schema.fields mapped m.0 (mapped_apart schema m.0 r) (sit_from schema.dynamic schema.fields m.0 0 schema.fields (same_place schema.fields)) in
    let whole = value_size bytes m.0 m.1 in
    omega (arith, only, within, whole)

-- ---- the leaves of a record

-- texts of at most 255 bytes
abbrev pub AreShortTexts : List Value → Type 0
AreShortTexts [] = Unit {0}
AreShortTexts (values.Text t ∷ vs) = (length t ≤ 255) × AreShortTexts vs
AreShortTexts (_ ∷ vs) = ⊥

short_texts : (leaves : List Leaf) → AreShortTexts (map values.Text (fitting_texts leaves))
short_texts [] = tt
short_texts (leaf ∷ leaves) = by (fits (leaf_text leaf.0 leaf.1)) refl (short_texts leaves)
  where
    by : (b : Bool) → fits (leaf_text leaf.0 leaf.1) ≡ b → AreShortTexts (map values.Text (fitting_texts leaves)) → AreShortTexts (map values.Text (fitting_texts (leaf ∷ leaves)))
    by true e rest = rw e (leb-true (length (leaf_text leaf.0 leaf.1)) max_leaf_text e, rest)
    by false e rest = rw e rest

few_texts : (leaves : List Leaf) → length (map values.Text (fitting_texts leaves)) ≤ length leaves
few_texts [] = omega arith
few_texts (leaf ∷ leaves) = by (fits (leaf_text leaf.0 leaf.1)) refl (few_texts leaves)
  where
    by : (b : Bool) → fits (leaf_text leaf.0 leaf.1) ≡ b → length (map values.Text (fitting_texts leaves)) ≤ length leaves
        → length (map values.Text (fitting_texts (leaf ∷ leaves))) ≤ suc (length leaves)
    by true e rest = rw e (omega (arith, rest))
    by false e rest = rw e (omega (arith, rest))

-- few texts, each of them short
pub record AreFewShort (vs : List Value) : Type 0 where
  pub few : length vs ≤ 65536
  pub short : AreShortTexts vs

none_few : AreFewShort []
none_few = record { few = omega arith; short = tt }

for_kind : (kind : Kind) (vs : List Value) → AreFewShort vs → AreFewShort (leaves_for kind vs)
for_kind kinds.Text vs h = none_few
for_kind kinds.I64 vs h = none_few
for_kind kinds.U64 vs h = none_few
for_kind kinds.Bool vs h = none_few
for_kind kinds.Datetime vs h = none_few
for_kind kinds.TextList vs h = h

few_leaves : (schema : Schema) (d : Data) (n : ℕ) → schema.dynamic ≡ Some n → leaf_fault schema d ≡ None → AreFewShort (leaf_values schema d)
few_leaves schema d n its none = by (nat_lt max_leaves (length leaves)) refl
  where
    leaves : List Leaf
    leaves = leaf_list schema d

    counted_none : leaf_fault_by (Some n) leaves ≡ None
    counted_none = subst (λ (o : Option ℕ). leaf_fault_by o leaves ≡ None) its none

    by : (b : Bool) → nat_lt max_leaves (length leaves) ≡ b → AreFewShort (leaf_values schema d)
    by true e = absurd (let refused = rw e at counted_none in cc)
    by false e =
        let few : length leaves ≤ 65536 = grind (e, arith, nat_tests) in
        record { few = omega (arith, few, few_texts leaves); short = short_texts leaves }

pub record_leaves : (config : IndexConfig) (bytes : List ℕ) (doc : List DocField) (n : ℕ) → answer config bytes ≡ Ok doc → config.schema.dynamic ≡ Some n
    → AreFewShort (values_at doc n)
record_leaves config bytes doc n e its = by (slice_get config.schema.fields n) refl
  where
    m : IsFrom config (value_of bytes) doc
    m = made_from config bytes doc e

    own : doc_of config.schema m.0 ≡ doc
    own = m.3

    by : (o : Option Field) → slice_get config.schema.fields n ≡ o → AreFewShort (values_at doc n)
    by None a =
        subst (λ (x : List DocField). AreFewShort (values_at x n)) own
        (subst AreFewShort (sym (values_past config.schema.dynamic (leaf_values config.schema m.0) config.schema.fields 0 n n m.0 a (omega arith))) none_few)
    by (Some f) a =
        subst (λ (x : List DocField). AreFewShort (values_at x n)) own
        (subst AreFewShort (sym (document_dynamic config.schema (leaf_values config.schema m.0) m.0 n f a (its_number config.schema.dynamic n its)))
        (for_kind f.kind (leaf_values config.schema m.0) (few_leaves config.schema m.0 n its m.4)))

short_size : (vs : List Value) → AreShortTexts vs → values_size vs ≤ 256 * length vs
short_size [] h = omega arith
short_size (values.Text t ∷ vs) h = omega (arith, h.0, short_size vs h.1)
short_size (values.I64 z ∷ vs) h = absurd h
short_size (values.U64 n ∷ vs) h = absurd h
short_size (values.Bool b ∷ vs) h = absurd h
short_size (values.Datetime z ∷ vs) h = absurd h

pub leaves_size : (config : IndexConfig) (bytes : List ℕ) (doc : List DocField) (n : ℕ) → answer config bytes ≡ Ok doc → config.schema.dynamic ≡ Some n
    → values_size (values_at doc n) ≤ max_leaf_size
leaves_size config bytes doc n e its =
    let kept = record_leaves config bytes doc n e its in
    omega (arith, kept.few, short_size (values_at doc n) kept.short)

-- ---- the whole document

-- a field's values, and those of all other fields
size_by : (o : Option ℕ) (n : ℕ) → o ≡ Some n → (doc : List DocField) (least : ℕ) → RiseFrom least doc → doc_size doc ≤ mapped_size o doc + values_size (values_at doc n)
size_by o n its [] least h = omega arith
size_by o n its (part ∷ parts) least h = by (part.number == n) refl (size_by o n its parts (suc part.number) h.2)
  where
    Goal : Type 0
    Goal = doc_size (part ∷ parts) ≤ mapped_size o (part ∷ parts) + values_size (values_at (part ∷ parts) n)

    by : (b : Bool) → (part.number == n) ≡ b → doc_size parts ≤ mapped_size o parts + values_size (values_at parts n) → Goal
    by true e rest =
        let same : part.number ≡ n = (unsigned_Decides part.number n).0 e in
        let own : is_number o part.number ≡ true = its_number o part.number (its ∙ ap Some (sym same)) in
        let below : values_at parts n ≡ [] = values_below parts (suc part.number) n h.2 (omega (arith, same)) in
        let none : values_size (values_at parts n) ≡ 0 = ap values_size below in
        rw (own, e) (omega (arith, rest, none))
    by false e rest =
        let other : n ≢ part.number = λ same. let yes = (unsigned_Decides part.number n).1 (sym same) in let wrong : true ≡ false = sym yes ∙ e in cc in
        let mapped : is_number o part.number ≡ false = not_its_number o n part.number its (λ same. other (sym same)) in
        rw (mapped, e) (omega (arith, rest))

same_size : (o : Option ℕ) → o ≡ None → (doc : List DocField) → doc_size doc ≡ mapped_size o doc
same_size o none [] = refl
same_size o none (part ∷ parts) =
    let mapped : is_number o part.number ≡ false = ap (λ (x : Option ℕ). is_number x part.number) none in
    rw mapped (ap (λ (k : ℕ). values_size part.values + k) (same_size o none parts))

-- a whole document's texts, those of the leaves among them
pub whole_size : (config : IndexConfig) (bytes : List ℕ) (doc : List DocField) → PathsRise config.schema.fields → answer config bytes ≡ Ok doc
    → doc_size doc ≤ length bytes + max_leaf_size
whole_size config bytes doc r e = by config.schema.dynamic refl
  where
    m : IsFrom config (value_of bytes) doc
    m = made_from config bytes doc e

    rises : RiseFrom 0 doc
    rises = subst (RiseFrom 0) m.3 (doc_rises config.schema.dynamic (leaf_values config.schema m.0) 0 0 config.schema.fields m.0 (omega arith))

    by : (o : Option ℕ) → config.schema.dynamic ≡ o → doc_size doc ≤ length bytes + max_leaf_size
    by None none = omega (arith, record_size config bytes doc r e, same_size config.schema.dynamic none doc)
    by (Some n) its =
        omega (arith, record_size config bytes doc r e, leaves_size config bytes doc n e its, size_by config.schema.dynamic n its doc 0 rises)
