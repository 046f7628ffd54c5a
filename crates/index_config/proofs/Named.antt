-- Each path of an accepted configuration is a text with at least one byte.
use Rattle.std.proofs.Common.{◌≡◌, ◌≢◌, ℕ, zero, suc, ◌<◌, ◌==◌, slice_get, nat_le, Bool, true, false, not, ◌&&◌, List, [], ◌∷◌, ◌++◌, length, Option, Some, None, is_some, refl, subst, arith, inl, inr}
use Rattle.std.specs.Prelude.{codes, unwrap_or}
use Rattle.std.specs.List.{list_all}
use Rattle.std.specs.Str.{IsUtf8, IsAscii}
use Rattle.std.specs.Ordering.{nat_cmp, is_lt}
use Rattle.std.specs.Cmp.Lexicographic.{slice_cmp}
use Rattle.std.proofs.lemmas.Bool.{cases_Bool, and_parts}
use Rattle.std.proofs.lemmas.Bool.Decides.{nat_tests}
use Rattle.std.proofs.lemmas.Str.{IsUtf8-nil, IsUtf8-from_ascii, IsUtf8-append}
use Rattle.toml.specs.Data.{Data, string, integer, float, boolean, datetime, array, table, Items, no_items, item, get, as_str, as_array, as_table}
use Rattle.doc_value.specs.declared.schema.Field.{Field}
use Rattle.doc_value.specs.declared.schema.Kind.{Kind}
use Rattle.index_config.specs.declared.raw.RawField.{RawField}
use Rattle.index_config.specs.declared.rule.FieldType.{FieldType}
use Rattle.index_config.specs.declared.rule.Rule.TheVariants as rules
use Rattle.index_config.specs.declared.rule.RulePlace.TheVariants as places
use Rattle.index_config.specs.declared.config.Mode.{Mode}
use Rattle.index_config.specs.declared.config.Mode.TheVariants as modes
use Rattle.index_config.specs.declared.config_error.ConfigError.{ConfigError}
use Rattle.index_config.specs.Rules.{under, member_path, is_name_byte, is_name_start, begins_as_name, is_field_name, wrong_unless, text_faults, scalar_faults, items_faults, list_faults}
use Rattle.index_config.specs.Tables.{unknown_faults, members_in, asked, asked_value, required, optional, list_of, mappings_ask, text_in, items_in, type_of, is_object, field_faults, field_value_faults, field_note_faults, each_fault, inner_fields, member_at, fields_faults, where_table, optional_table, top_faults, mapping_faults, mapping_path, indexing_faults, indexing_path, search_faults, search_path, retention_faults, retention_path, upkeep_faults, upkeep_path, table_faults}
use Rattle.index_config.specs.Fields.{name_of, each_raw, inner_raws, raws_with, raw_member, in_option, in_mapping, mode_of, dynamic_path, dynamic_raws, mapped_raws, all_raws, placed, sorted_by, in_order, field_of, fields_of}
use Rattle.index_config.specs.Accepted.{BeginsPlain, BeginPlain}
use Rattle.doc_value.specs.Documents.{AreNamed}
use Rattle.index_config.proofs.Distinct.{both-empty}

abbrev IsNamed : List ℕ → Type 0
IsNamed path = IsUtf8 path × (path ≢ []) × BeginsPlain path

-- the path of an object, or none
abbrev IsStart : List ℕ → Type 0
IsStart path = IsUtf8 path × BeginsPlain path

-- what holds of each path
abbrev pub HavePaths : (List ℕ → Type 0) → List RawField → Type 0
HavePaths P [] = Unit {0}
HavePaths P (raw ∷ raws) = P raw.path × HavePaths P raws

pub paths-append : (P : List ℕ → Type 0) (xs ys : List RawField) → HavePaths P xs → HavePaths P ys → HavePaths P (xs ++ ys)
paths-append P [] ys h k = k
paths-append P (x ∷ xs) ys h k = (h.0, paths-append P xs ys h.1 k)

abbrev AreNamedRaws : List RawField → Type 0
AreNamedRaws raws = HavePaths IsNamed raws

-- a name is of ASCII bytes
name-byte : (c : ℕ) → is_name_byte c ≡ true → c < 128
name-byte c e = grind (arith, nat_tests)

name-bytes : (cs : List ℕ) → list_all is_name_byte cs ≡ true → IsAscii cs
name-bytes [] e i = omega arith
name-bytes (c ∷ cs) e zero = name-byte c (and_parts (is_name_byte c) (list_all is_name_byte cs) e).0
name-bytes (c ∷ cs) e (suc i) = name-bytes cs (and_parts (is_name_byte c) (list_all is_name_byte cs) e).1 i

start-plain : (c : ℕ) → is_name_start c ≡ true → (c == 46) ≡ false
start-plain c e = grind (arith, nat_tests)

named-text : (text : List ℕ) → is_field_name text ≡ true → IsNamed text
named-text [] e = absurd (cc)
named-text (c ∷ cs) e =
    let few = and_parts (begins_as_name (c ∷ cs) && list_all is_name_byte (c ∷ cs)) (nat_le (length (c ∷ cs)) 255) e in
    let all = and_parts (begins_as_name (c ∷ cs)) (list_all is_name_byte (c ∷ cs)) few.0 in
    (IsUtf8-from_ascii (c ∷ cs) (name-bytes (c ∷ cs) all.1), λ empty. cc, start-plain c all.0)

dot : IsAscii (46 ∷ [])
dot zero = omega arith
dot (suc i) = omega arith

under-named : (path name : List ℕ) → IsStart path → IsNamed name → IsNamed (under path name)
under-named [] name u h = h
under-named (c ∷ cs) name u h =
    (IsUtf8-append (c ∷ cs) (46 ∷ name) u.0 (IsUtf8-append (46 ∷ []) name (IsUtf8-from_ascii (46 ∷ []) dot) h.0), λ empty. cc, u.1)

passed : (b : Bool) (path : List ℕ) → wrong_unless b path ≡ [] → b ≡ true
passed true path e = refl
passed false path e = absurd (cc)

-- the name that is asked for
name-text : (path : List ℕ) (o : Option (List ℕ)) → text_faults rules.FieldName path o ≡ [] → is_field_name (unwrap_or o []) ≡ true
name-text path None e = absurd (cc)
name-text path (Some text) e = passed (is_field_name text) path e

name-value : (path : List ℕ) (o : Option Data) → asked_value (required rules.FieldName) path o ≡ [] → is_field_name (unwrap_or (text_in o) []) ≡ true
name-value path None e = absurd (cc)
name-value path (Some d) e = name-text path (as_str d) e

name-asked : (place : List ℕ) (d : Data) → asked (required rules.FieldName) place (codes "name") d ≡ [] → is_field_name (name_of d) ≡ true
unfolding asked
name-asked place d e = name-value (under place (codes "name")) (get (codes "name") d) e

-- the tables that are asked for
abbrev AreTables : Items → Type 0
AreTables no_items = Unit {0}
AreTables (item d ds) = (is_some (as_table d) ≡ true) × AreTables ds

tables-in : (path : List ℕ) (n : ℕ) (items : Items) → items_faults rules.AnyTable path n items ≡ [] → AreTables items
tables-in path n no_items e = tt
tables-in path n (item d ds) e =
    let parts = both-empty (scalar_faults rules.AnyTable (member_path path n) d) (items_faults rules.AnyTable path (suc n) ds) e in
    (passed (is_some (as_table d)) (member_path path n) parts.0, tables-in path (suc n) ds parts.1)

tables-list : (path : List ℕ) (o : Option Items) → list_faults rules.AnyTable path o ≡ [] → AreTables (unwrap_or o no_items)
tables-list path None e = tt
tables-list path (Some items) e = tables-in path 0 items e

tables-value : (b : Bool) (path : List ℕ) (o : Option Data) → asked_value (mappings_ask b) path o ≡ [] → AreTables (items_in o)
tables-value b path None e = tt
tables-value b path (Some d) e = tables-list path (as_array d) e

tables-asked : (b : Bool) (place : List ℕ) (d : Data) → asked (mappings_ask b) place (codes "field_mappings") d ≡ []
    → AreTables (items_in (get (codes "field_mappings") d))
unfolding asked
tables-asked b place d e = tables-value b (under place (codes "field_mappings")) (get (codes "field_mappings") d) e

-- what two of the parts are where the whole is empty
parts-of-six : {A : Type 0} (a b c d e f : List A) → a ++ b ++ c ++ d ++ e ++ f ≡ [] → (b ≡ []) × (e ≡ []) × (f ≡ [])
parts-of-six a b c d e f h =
    let five = both-empty (a ++ b ++ c ++ d ++ e) f h in
    let four = both-empty (a ++ b ++ c ++ d) e five.0 in
    let three = both-empty (a ++ b ++ c) d four.0 in
    let two = both-empty (a ++ b) c three.0 in
    ((both-empty a b two.0).1, four.1, five.1)

parts-of-eight : {A : Type 0} (a b c d e f g i : List A) → a ++ b ++ c ++ d ++ e ++ f ++ g ++ i ≡ [] → (c ≡ []) × (i ≡ [])
parts-of-eight a b c d e f g i h =
    let seven = both-empty (a ++ b ++ c ++ d ++ e ++ f ++ g) i h in
    let six = both-empty (a ++ b ++ c ++ d ++ e ++ f) g seven.0 in
    let five = both-empty (a ++ b ++ c ++ d ++ e) f six.0 in
    let four = both-empty (a ++ b ++ c ++ d) e five.0 in
    let three = both-empty (a ++ b ++ c) d four.0 in
    ((both-empty (a ++ b) c three.0).1, seven.1)

-- what a field's own keys give: its name, and the tables of its list
field-parts : (deepest : Bool) (place : List ℕ) (d : Data) (t : Option FieldType) → field_faults deepest place d t ≡ []
    → (is_field_name (name_of d) ≡ true) × AreTables (items_in (get (codes "field_mappings") d))
field-parts deepest place d t e =
    let own =
    parts-of-six (unknown_faults (places.OfField t) place (members_in d)) (asked (required rules.FieldName) place (codes "name") d)
    (asked (required rules.TypeName) place (codes "type") d) (wrong_unless (not (deepest && is_object t)) (under place (codes "type")))
    (field_value_faults (is_object t) place d) (field_note_faults place d) e in
    let values =
    parts-of-six (asked (optional rules.Truth) place (codes "fast") d) (asked (optional rules.Truth) place (codes "indexed") d)
    (asked (optional rules.TokenizerName) place (codes "tokenizer") d) (asked (optional rules.RecordName) place (codes "record") d)
    (asked (list_of rules.FormatName) place (codes "input_formats") d) (asked (mappings_ask (is_object t)) place (codes "field_mappings") d) own.1 in
    (name-asked place d own.0, tables-asked (is_object t) place d values.2)

-- fields within an object, where those of the inner list are named
abbrev AreNamedBy : (List ℕ → Items → List ConfigError) → (List ℕ → List ℕ → Items → List RawField) → Type 0
AreNamedBy f g = (place path : List ℕ) (items : Items) → IsStart path → AreTables items → f place items ≡ [] → AreNamedRaws (g place path items)

inner-named : (b : Bool) (f : List ℕ → Items → List ConfigError) (g : List ℕ → List ℕ → Items → List RawField) (place path : List ℕ) (d : Data)
    → AreNamedBy f g → IsStart (under path (name_of d)) → AreTables (items_in (get (codes "field_mappings") d))
    → inner_fields b f place d ≡ [] → AreNamedRaws (inner_raws b g place path d)
inner-named false f g place path d by u t e = tt
inner-named true f g place path d by u t e =
    by (under place (codes "field_mappings")) (under path (name_of d)) (items_in (get (codes "field_mappings") d)) u t e

member-named : (deepest : Bool) (f : List ℕ → Items → List ConfigError) (g : List ℕ → List ℕ → Items → List RawField) (place path : List ℕ) (d : Data)
    → AreNamedBy f g → IsStart path → field_faults deepest place d (type_of d) ++ inner_fields (is_object (type_of d)) f place d ≡ []
    → AreNamedRaws (raws_with g place path d)
member-named deepest f g place path d by u e =
    let parts = both-empty (field_faults deepest place d (type_of d)) (inner_fields (is_object (type_of d)) f place d) e in
    let own = field-parts deepest place d (type_of d) parts.0 in
    let named = under-named path (name_of d) u (named-text (name_of d) own.0) in
    (named, inner-named (is_object (type_of d)) f g place path d by (named.0, named.2) own.1 parts.1)

each-named : (f : ℕ → Data → List ConfigError) (g : ℕ → Data → List RawField)
    → ((n : ℕ) (d : Data) → is_some (as_table d) ≡ true → f n d ≡ [] → AreNamedRaws (g n d))
    → (n : ℕ) (items : Items) → AreTables items → each_fault f n items ≡ [] → AreNamedRaws (each_raw g n items)
each-named f g by n no_items t e = tt
each-named f g by n (item d ds) t e =
    let parts = both-empty (f n d) (each_fault f (suc n) ds) e in
    paths-append IsNamed (g n d) (each_raw g (suc n) ds) (by n d t.0 parts.0) (each-named f g by (suc n) ds t.1 parts.1)

member-at : (levels : ℕ) (list_place path : List ℕ) (n : ℕ) (d : Data) → IsStart path → is_some (as_table d) ≡ true
    → member_at levels list_place n d ≡ [] → AreNamedRaws (raw_member levels (member_path list_place n) path d)
member-at zero list_place path n d u tab e =
    member-named true (λ p i. []) (λ p q i. []) (member_path list_place n) path d (λ p q i v t f. tt) u (rw tab at e)
member-at (suc levels) list_place path n d u tab e =
    member-named false (λ p i. each_fault (member_at levels p) 0 i) (λ p q i. each_raw (λ m x. raw_member levels (member_path p m) q x) 0 i)
    (member_path list_place n) path d
    (λ p q i v t f. each-named (member_at levels p) (λ m x. raw_member levels (member_path p m) q x) (λ m x there g. member-at levels p q m x v there g) 0 i t f)
    u (rw tab at e)

-- what is no table has no keys
pub no-key : (key : List ℕ) (d : Data) → is_some (as_table d) ≡ false → get key d ≡ None
no-key key (string s) e = refl
no-key key (integer z) e = refl
no-key key (float x) e = refl
no-key key (boolean b) e = refl
no-key key (datetime t) e = refl
no-key key (array ds) e = refl
no-key key (table ms) e = absurd (cc)

abbrev list_path : List ℕ
list_path = under mapping_path (codes "field_mappings")

-- the fields of the mapping are tables with which nothing is wrong
abbrev AreListed : Items → Type 0
AreListed items = AreTables items × (fields_faults 16 list_path items ≡ [])

mapping-listed : (d : Data) → mapping_faults mapping_path d ≡ [] → AreListed (items_in (get (codes "field_mappings") d))
mapping-listed d e =
    let parts =
    parts-of-eight (unknown_faults places.Mapping mapping_path (members_in d)) (asked (optional rules.ModeName) mapping_path (codes "mode") d)
    (asked (list_of rules.AnyTable) mapping_path (codes "field_mappings") d) (asked (optional rules.AnyText) mapping_path (codes "timestamp_field") d)
    (asked (list_of rules.AnyText) mapping_path (codes "tag_fields") d) (asked (optional rules.Truth) mapping_path (codes "store_source") d)
    (asked (optional rules.Truth) mapping_path (codes "index_field_presence") d)
    (fields_faults 16 list_path (items_in (get (codes "field_mappings") d))) e in
    (tables-asked false mapping_path d parts.0, parts.1)

where-listed : (o : Option Data) → where_table (mapping_faults mapping_path) o ≡ [] → AreListed (items_in (in_option (codes "field_mappings") o))
where-listed None e = (tt, refl)
where-listed (Some d) e =
    elim (cases_Bool (is_some (as_table d))) [
      | inl there ↦ mapping-listed d (rw there at e)
      | inr lacks ↦ rw (no-key (codes "field_mappings") d lacks) (tt, refl)
    ]

root-listed : (root : Data) → table_faults root ≡ [] → AreListed (items_in (in_mapping (codes "field_mappings") root))
root-listed root e =
    where-listed (get mapping_path root)
    (second (top_faults [] root) (where_table (mapping_faults mapping_path) (get mapping_path root))
    (optional_table indexing_path (indexing_faults indexing_path) (get indexing_path root))
    (optional_table search_path (search_faults search_path) (get search_path root))
    (optional_table retention_path (retention_faults retention_path) (get retention_path root))
    (optional_table upkeep_path (upkeep_faults upkeep_path) (get upkeep_path root)) e)
  where
    second : (a b c d f g : List ConfigError) → a ++ b ++ c ++ d ++ f ++ g ≡ [] → b ≡ []
    second a b c d f g h =
        let five = both-empty (a ++ b ++ c ++ d ++ f) g h in
        let four = both-empty (a ++ b ++ c ++ d) f five.0 in
        let three = both-empty (a ++ b ++ c) d four.0 in
        (both-empty a b (both-empty (a ++ b) c three.0).0).1

mapped-named : (root : Data) → table_faults root ≡ [] → AreNamedRaws (mapped_raws root)
mapped-named root e =
    let listed = root-listed root e in
    each-named (member_at 16 list_path) (λ n x. raw_member 16 (member_path list_path n) [] x)
    (λ n x there f. member-at 16 list_path [] n x (IsUtf8-nil, tt) there f) 0 (items_in (in_mapping (codes "field_mappings") root)) listed.0 listed.1

dynamic-named : (mode : Mode) → AreNamedRaws (dynamic_raws mode)
dynamic-named modes.Strict = tt
dynamic-named modes.Lenient = tt
dynamic-named modes.Dynamic = (named-text dynamic_path refl, tt)

pub all-named : (root : Data) → table_faults root ≡ [] → AreNamedRaws (all_raws root)
all-named root e = paths-append IsNamed (dynamic_raws (mode_of root)) (mapped_raws root) (dynamic-named (mode_of root)) (mapped-named root e)

-- each member of a list has the name of a field
abbrev pub HaveNames : Items → Type 0
HaveNames no_items = Unit {0}
HaveNames (item d ds) = (is_field_name (name_of d) ≡ true) × HaveNames ds

member-name : (levels : ℕ) (path : List ℕ) (n : ℕ) (d : Data) → is_some (as_table d) ≡ true → member_at levels path n d ≡ [] → is_field_name (name_of d) ≡ true
member-name zero path n d there e =
    (field-parts true (member_path path n) d (type_of d)
    (both-empty (field_faults true (member_path path n) d (type_of d)) (inner_fields (is_object (type_of d)) (λ p i. []) (member_path path n) d) (rw there at e)).0).0
member-name (suc levels) path n d there e =
    (field-parts false (member_path path n) d (type_of d)
    (both-empty (field_faults false (member_path path n) d (type_of d))
    (inner_fields (is_object (type_of d)) (λ p i. each_fault (member_at levels p) 0 i) (member_path path n) d) (rw there at e)).0).0

each-name : (levels : ℕ) (path : List ℕ) (n : ℕ) (items : Items) → AreTables items → each_fault (member_at levels path) n items ≡ [] → HaveNames items
each-name levels path n no_items t e = tt
each-name levels path n (item d ds) t e =
    let parts = both-empty (member_at levels path n d) (each_fault (member_at levels path) (suc n) ds) e in
    (member-name levels path n d t.0 parts.0, each-name levels path (suc n) ds t.1 parts.1)

pub mapping-names : (root : Data) → table_faults root ≡ [] → HaveNames (items_in (in_mapping (codes "field_mappings") root))
mapping-names root e =
    let listed = root-listed root e in each-name 16 list_path 0 (items_in (in_mapping (codes "field_mappings") root)) listed.0 listed.1

-- paths stay where fields are put in order
module _ (P : List ℕ → Type 0) where
  placed-paths : (raw : RawField) (rs : List RawField) → P raw.path → HavePaths P rs → HavePaths P (placed raw rs)
  placed-paths raw [] own h = (own, tt)
  placed-paths raw (r ∷ rs) own h =
      elim (cases_Bool (is_lt (slice_cmp nat_cmp r.path raw.path))) [
        | inl before ↦ rw before (h.0, placed-paths raw rs own h.1)
        | inr after ↦ rw after (own, h)
      ]

  sorted-paths : (kind : Option Kind) (raw : RawField) (rs : List RawField) → P raw.path → HavePaths P rs → HavePaths P (sorted_by kind raw rs)
  sorted-paths None raw rs own h = h
  sorted-paths (Some kind) raw rs own h = placed-paths raw rs own h

  ordered-paths : (raws : List RawField) → HavePaths P raws → HavePaths P (in_order raws)
  ordered-paths [] h = tt
  ordered-paths (raw ∷ raws) h = sorted-paths raw.kind raw (in_order raws) h.0 (ordered-paths raws h.1)

  path-at : (tags : Items) (rs : List RawField) → HavePaths P rs → (n : ℕ) (f : Field) → slice_get (fields_of tags rs) n ≡ Some f → P f.path
  path-at tags [] h n f e = absurd (cc)
  path-at tags (r ∷ rs) h zero f e =
      let here : field_of tags r ≡ f = cc in
      subst (λ (x : Field). P x.path) here h.0
  path-at tags (r ∷ rs) h (suc n) f e = path-at tags rs h.1 n f e

  -- so of the schema's fields too
  pub fields-paths : (tags : Items) (raws : List RawField) → HavePaths P raws → (n : ℕ) (f : Field) → slice_get (fields_of tags (in_order raws)) n ≡ Some f → P f.path
  fields-paths tags raws h = path-at tags (in_order raws) (ordered-paths raws h)

field-named : (tags : Items) (root : Data) → table_faults root ≡ [] → (n : ℕ) (f : Field) → slice_get (fields_of tags (in_order (all_raws root))) n ≡ Some f
    → IsNamed f.path
field-named tags root e = fields-paths IsNamed tags (all_raws root) (all-named root e)

pub fields-named : (tags : Items) (root : Data) → table_faults root ≡ [] → AreNamed (fields_of tags (in_order (all_raws root)))
fields-named tags root e = λ n f a. let h = field-named tags root e n f a in (h.0, h.1)

pub fields-plain : (tags : Items) (root : Data) → table_faults root ≡ [] → BeginPlain (fields_of tags (in_order (all_raws root)))
fields-plain tags root e = λ n f a. (field-named tags root e n f a).2
