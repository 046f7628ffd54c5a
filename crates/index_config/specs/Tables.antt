-- What each table of the configuration asks of its keys, and all that is wrong with a configuration, in order.
use Rattle.std.specs.Prelude.{ℕ, suc, zero, ◌||◌, ◌&&◌, Bool, true, false, not, List, [], ◌∷◌, ◌++◌, Option, Some, None, is_some, unwrap_or, ℤ, pos, negsuc, codes, if◌then◌else◌}
use Rattle.std.specs.Str.{bytes_eq}
use Rattle.toml.specs.Data.{Data, Items, no_items, item, Members, no_members, member, get, as_str, as_integer, as_array, as_table}
use Rattle.index_config.specs.declared.rule.Rule.{Rule}
use Rattle.index_config.specs.declared.rule.Rule.TheVariants as rules
use Rattle.index_config.specs.declared.rule.Ask.{Ask}
use Rattle.index_config.specs.declared.rule.FieldType.{FieldType}
use Rattle.index_config.specs.declared.rule.FieldType.TheVariants as types
use Rattle.index_config.specs.declared.rule.PolicyType.{PolicyType}
use Rattle.index_config.specs.declared.rule.PolicyType.TheVariants as policies
use Rattle.index_config.specs.declared.rule.RulePlace.{RulePlace}
use Rattle.index_config.specs.declared.rule.RulePlace.TheVariants as places
use Rattle.index_config.specs.declared.config_error.ConfigError.{ConfigError}
use Rattle.index_config.specs.declared.config_error.ConfigError.TheVariants.{UnknownKey, MissingKey}
use Rattle.index_config.specs.Rules.{under, member_path, value_faults, wrong_unless}

-- a key is one of these
abbrev pub is_top_key : List ℕ → Bool
is_top_key k =
    bytes_eq k (codes "version") || bytes_eq k (codes "index_id") || bytes_eq k (codes "index_uri") || bytes_eq k (codes "doc_mapping")
    || bytes_eq k (codes "indexing_settings") || bytes_eq k (codes "search_settings") || bytes_eq k (codes "retention")
    || bytes_eq k (codes "upkeep")

abbrev pub is_mapping_key : List ℕ → Bool
is_mapping_key k =
    bytes_eq k (codes "mode") || bytes_eq k (codes "field_mappings") || bytes_eq k (codes "timestamp_field")
    || bytes_eq k (codes "tag_fields") || bytes_eq k (codes "store_source") || bytes_eq k (codes "index_field_presence")

abbrev pub is_indexing_key : List ℕ → Bool
is_indexing_key k =
    bytes_eq k (codes "commit_timeout_secs") || bytes_eq k (codes "split_num_docs_target") || bytes_eq k (codes "resources")
    || bytes_eq k (codes "merge_policy")

abbrev pub is_search_key : List ℕ → Bool
is_search_key k = bytes_eq k (codes "default_search_fields")

abbrev pub is_retention_key : List ℕ → Bool
is_retention_key k = bytes_eq k (codes "period") || bytes_eq k (codes "schedule")

abbrev pub is_upkeep_key : List ℕ → Bool
is_upkeep_key k = bytes_eq k (codes "staged_grace_secs") || bytes_eq k (codes "deletion_grace_secs")

-- keys that every field has, that all but objects have, that text fields have
abbrev pub is_shared_key : List ℕ → Bool
is_shared_key k = bytes_eq k (codes "name") || bytes_eq k (codes "type") || bytes_eq k (codes "description")

abbrev pub is_value_key : List ℕ → Bool
is_value_key k =
    bytes_eq k (codes "fast") || bytes_eq k (codes "indexed") || bytes_eq k (codes "stored") || bytes_eq k (codes "fieldnorms")
    || bytes_eq k (codes "output_format") || bytes_eq k (codes "fast_precision")

abbrev pub is_text_key : List ℕ → Bool
is_text_key k = bytes_eq k (codes "tokenizer") || bytes_eq k (codes "record")

abbrev pub is_date_key : List ℕ → Bool
is_date_key k = bytes_eq k (codes "input_formats")

abbrev pub is_object_key : List ℕ → Bool
is_object_key k = bytes_eq k (codes "field_mappings")

-- the keys of a field by its type; where that is none of the list, all of them
abbrev pub is_field_key : Option FieldType → List ℕ → Bool
is_field_key (Some types.Text) k = is_shared_key k || is_value_key k || is_text_key k
is_field_key (Some types.TextList) k = is_shared_key k || is_value_key k || is_text_key k
is_field_key (Some types.I64) k = is_shared_key k || is_value_key k
is_field_key (Some types.U64) k = is_shared_key k || is_value_key k
is_field_key (Some types.Bool) k = is_shared_key k || is_value_key k
is_field_key (Some types.Datetime) k = is_shared_key k || is_value_key k || is_date_key k
is_field_key (Some types.Object) k = is_shared_key k || is_object_key k
is_field_key None k = is_shared_key k || is_value_key k || is_text_key k || is_date_key k || is_object_key k

abbrev pub is_merging_key : List ℕ → Bool
is_merging_key k = bytes_eq k (codes "merge_factor") || bytes_eq k (codes "max_merge_factor") || bytes_eq k (codes "maturation_period")

-- the keys of a merge policy by its type; where that is none of the list, all of them
abbrev pub is_policy_key : Option PolicyType → List ℕ → Bool
is_policy_key (Some policies.StableLog) k = bytes_eq k (codes "type") || is_merging_key k || bytes_eq k (codes "min_level_num_docs")
is_policy_key (Some policies.LimitMerge) k = bytes_eq k (codes "type") || is_merging_key k || bytes_eq k (codes "max_merge_ops")
is_policy_key (Some policies.NoMerge) k = bytes_eq k (codes "type")
is_policy_key None k = bytes_eq k (codes "type") || is_merging_key k || bytes_eq k (codes "min_level_num_docs") || bytes_eq k (codes "max_merge_ops")

abbrev pub is_known : RulePlace → List ℕ → Bool
is_known places.Top k = is_top_key k
is_known places.Mapping k = is_mapping_key k
is_known places.Indexing k = is_indexing_key k
is_known places.Search k = is_search_key k
is_known places.Retention k = is_retention_key k
is_known places.Upkeep k = is_upkeep_key k
is_known (places.OfField t) k = is_field_key t k
is_known (places.OfPolicy t) k = is_policy_key t k

abbrev pub unknown_unless : Bool → List ℕ → List ConfigError
unknown_unless true path = []
unknown_unless false path = UnknownKey path ∷ []

-- the keys that a table doesn't know, in byte order
abbrev pub unknown_faults : RulePlace → List ℕ → Members → List ConfigError
unknown_faults place prefix no_members = []
unknown_faults place prefix (member k d ms) = unknown_unless (is_known place k) (under prefix k) ++ unknown_faults place prefix ms

abbrev pub members_in : Data → Members
members_in d = unwrap_or (as_table d) no_members

abbrev pub list_items : Data → Items
list_items d = unwrap_or (as_array d) no_items

abbrev pub items_in : Option Data → Items
items_in None = no_items
items_in (Some d) = list_items d

abbrev pub missing_faults : Bool → List ℕ → List ConfigError
missing_faults true path = MissingKey path ∷ []
missing_faults false path = []

-- a key of a table
abbrev pub asked_value : Ask → List ℕ → Option Data → List ConfigError
asked_value ask path None = missing_faults ask.required path
asked_value ask path (Some d) = value_faults ask.list ask.rule path d

unfoldable pub asked : Ask → List ℕ → List ℕ → Data → List ConfigError
asked ask prefix key d = asked_value ask (under prefix key) (get key d)

abbrev pub optional : Rule → Ask
optional rule = record { required = false; list = false; rule = rule }

abbrev pub required : Rule → Ask
required rule = record { required = true; list = false; rule = rule }

abbrev pub list_of : Rule → Ask
list_of rule = record { required = false; list = true; rule = rule }

abbrev pub type_named : List ℕ → Option FieldType
type_named w =
    if bytes_eq w (codes "text") then Some types.Text
    else (if bytes_eq w (codes "i64") then Some types.I64
    else (if bytes_eq w (codes "u64") then Some types.U64
    else (if bytes_eq w (codes "bool") then Some types.Bool
    else (if bytes_eq w (codes "datetime") then Some types.Datetime
    else (if bytes_eq w (codes "object") then Some types.Object
    else (if bytes_eq w (codes "array<text>") then Some types.TextList
    else None))))))

abbrev pub text_in : Option Data → Option (List ℕ)
text_in None = None
text_in (Some d) = as_str d

abbrev pub text_at : List ℕ → Data → Option (List ℕ)
text_at key d = text_in (get key d)

abbrev pub type_in : Option (List ℕ) → Option FieldType
type_in None = None
type_in (Some w) = type_named w

abbrev pub type_of : Data → Option FieldType
type_of d = type_in (text_at (codes "type") d)

abbrev pub is_object : Option FieldType → Bool
is_object (Some types.Object) = true
is_object (Some types.Text) = false
is_object (Some types.I64) = false
is_object (Some types.U64) = false
is_object (Some types.Bool) = false
is_object (Some types.Datetime) = false
is_object (Some types.TextList) = false
is_object None = false

-- the list of an object's fields is required
abbrev pub mappings_ask : Bool → Ask
mappings_ask required = record { required = required; list = true; rule = rules.AnyTable }

-- the keys of a field behind its type: what its values are, and what has no effect
abbrev pub field_value_faults : Bool → List ℕ → Data → List ConfigError
field_value_faults object place d =
    asked (optional rules.Truth) place (codes "fast") d
    ++ asked (optional rules.Truth) place (codes "indexed") d
    ++ asked (optional rules.TokenizerName) place (codes "tokenizer") d
    ++ asked (optional rules.RecordName) place (codes "record") d
    ++ asked (list_of rules.FormatName) place (codes "input_formats") d
    ++ asked (mappings_ask object) place (codes "field_mappings") d

abbrev pub field_note_faults : List ℕ → Data → List ConfigError
field_note_faults place d =
    asked (optional rules.Truth) place (codes "stored") d
    ++ asked (optional rules.Truth) place (codes "fieldnorms") d
    ++ asked (optional rules.AnyText) place (codes "description") d
    ++ asked (optional rules.AnyText) place (codes "output_format") d
    ++ asked (optional rules.AnyText) place (codes "fast_precision") d

-- the keys of a field; an object that lies too deep is of the wrong kind by its type
abbrev pub field_faults : Bool → List ℕ → Data → Option FieldType → List ConfigError
field_faults deepest place d t =
    unknown_faults (places.OfField t) place (members_in d)
    ++ asked (required rules.FieldName) place (codes "name") d
    ++ asked (required rules.TypeName) place (codes "type") d
    ++ wrong_unless (not (deepest && is_object t)) (under place (codes "type"))
    ++ field_value_faults (is_object t) place d
    ++ field_note_faults place d

-- what each member of a list gives, from place n on
abbrev pub each_fault : (ℕ → Data → List ConfigError) → ℕ → Items → List ConfigError
each_fault f n no_items = []
each_fault f n (item d ds) = f n d ++ each_fault f (suc n) ds

-- a member of a list of fields, and behind it the fields of an object
abbrev pub inner_fields : Bool → (List ℕ → Items → List ConfigError) → List ℕ → Data → List ConfigError
inner_fields false inner place d = []
inner_fields true inner place d = inner (under place (codes "field_mappings")) (items_in (get (codes "field_mappings") d))

abbrev pub member_by : Bool → Bool → (List ℕ → Items → List ConfigError) → List ℕ → Data → List ConfigError
member_by false deepest inner place d = []
member_by true deepest inner place d = field_faults deepest place d (type_of d) ++ inner_fields (is_object (type_of d)) inner place d

abbrev pub member_faults : Bool → (List ℕ → Items → List ConfigError) → List ℕ → ℕ → Data → List ConfigError
member_faults deepest inner path n d = member_by (is_some (as_table d)) deepest inner (member_path path n) d

-- a member of a list of fields in which objects may nest to so many levels
abbrev pub member_at : ℕ → List ℕ → ℕ → Data → List ConfigError
member_at zero path n d = member_faults true (λ p i. []) path n d
member_at (suc levels) path n d = member_faults false (λ p i. each_fault (member_at levels p) 0 i) path n d

-- such a list
abbrev pub fields_faults : ℕ → List ℕ → Items → List ConfigError
fields_faults levels path items = each_fault (member_at levels path) 0 items

abbrev pub max_levels : ℕ
max_levels = 16

-- a table that is there
abbrev pub table_by : Bool → (Data → List ConfigError) → Data → List ConfigError
table_by true f d = f d
table_by false f d = []

abbrev pub where_table : (Data → List ConfigError) → Option Data → List ConfigError
where_table f None = []
where_table f (Some d) = table_by (is_some (as_table d)) f d

-- a table that may be absent, and is of the wrong kind where it is no table
abbrev pub optional_table : List ℕ → (Data → List ConfigError) → Option Data → List ConfigError
optional_table path f None = []
optional_table path f (Some d) = wrong_unless (is_some (as_table d)) path ++ table_by (is_some (as_table d)) f d

abbrev pub mapping_path : List ℕ
mapping_path = codes "doc_mapping"

abbrev pub mapping_faults : List ℕ → Data → List ConfigError
mapping_faults path d =
    unknown_faults places.Mapping path (members_in d)
    ++ asked (optional rules.ModeName) path (codes "mode") d
    ++ asked (list_of rules.AnyTable) path (codes "field_mappings") d
    ++ asked (optional rules.AnyText) path (codes "timestamp_field") d
    ++ asked (list_of rules.AnyText) path (codes "tag_fields") d
    ++ asked (optional rules.Truth) path (codes "store_source") d
    ++ asked (optional rules.Truth) path (codes "index_field_presence") d
    ++ fields_faults max_levels (under path (codes "field_mappings")) (items_in (get (codes "field_mappings") d))

abbrev pub indexing_path : List ℕ
indexing_path = codes "indexing_settings"

abbrev pub policy_path : List ℕ
policy_path = codes "indexing_settings.merge_policy"

abbrev pub whole : ℕ → ℕ → Ask
whole least most = optional (rules.Whole least most)

abbrev pub natural : ℤ → Option ℕ
natural (pos n) = Some n
natural (negsuc n) = None

abbrev pub natural_in : Option ℤ → Option ℕ
natural_in None = None
natural_in (Some z) = natural z

abbrev pub number_in : Option Data → Option ℕ
number_in None = None
number_in (Some d) = natural_in (as_integer d)

abbrev pub number_at : List ℕ → Data → Option ℕ
number_at key d = number_in (get key d)

abbrev pub merge_factor : Data → ℕ
merge_factor d = unwrap_or (number_at (codes "merge_factor") d) 10

abbrev pub policy_named : List ℕ → Option PolicyType
policy_named w =
    if bytes_eq w (codes "stable_log") then Some policies.StableLog
    else (if bytes_eq w (codes "limit_merge") then Some policies.LimitMerge
    else (if bytes_eq w (codes "no_merge") then Some policies.NoMerge
    else None))

abbrev pub policy_in_word : Option (List ℕ) → Option PolicyType
policy_in_word None = None
policy_in_word (Some w) = policy_named w

abbrev pub policy_of : Data → Option PolicyType
policy_of d = policy_in_word (as_str d)

-- the policy's type, which is `stable_log` where it is absent
abbrev pub policy_by : Option Data → Option PolicyType
policy_by None = Some policies.StableLog
policy_by (Some d) = policy_of d

abbrev pub policy_type : Data → Option PolicyType
policy_type d = policy_by (get (codes "type") d)

abbrev pub policy_faults : List ℕ → Data → List ConfigError
policy_faults path d =
    unknown_faults (places.OfPolicy (policy_type d)) path (members_in d)
    ++ asked (optional rules.PolicyName) path (codes "type") d
    ++ asked (whole 1 16777216) path (codes "min_level_num_docs") d
    ++ asked (whole 2 100) path (codes "merge_factor") d
    ++ asked (whole (merge_factor d) 100) path (codes "max_merge_factor") d
    ++ asked (whole 1 100) path (codes "max_merge_ops") d
    ++ asked (optional (rules.Duration 0)) path (codes "maturation_period") d

-- the indexing settings' own keys
abbrev pub indexing_key_faults : List ℕ → Data → List ConfigError
indexing_key_faults path d =
    unknown_faults places.Indexing path (members_in d)
    ++ asked (whole 1 86400) path (codes "commit_timeout_secs") d
    ++ asked (whole 1 16777216) path (codes "split_num_docs_target") d
    ++ asked (optional rules.AnyTable) path (codes "resources") d

-- those, and behind them the merge policy
abbrev pub indexing_faults : List ℕ → Data → List ConfigError
indexing_faults path d =
    indexing_key_faults path d ++ optional_table policy_path (policy_faults policy_path) (get (codes "merge_policy") d)

abbrev pub search_path : List ℕ
search_path = codes "search_settings"

abbrev pub search_faults : List ℕ → Data → List ConfigError
search_faults path d =
    unknown_faults places.Search path (members_in d)
    ++ asked (list_of rules.AnyText) path (codes "default_search_fields") d

abbrev pub retention_path : List ℕ
retention_path = codes "retention"

abbrev pub retention_faults : List ℕ → Data → List ConfigError
retention_faults path d =
    unknown_faults places.Retention path (members_in d)
    ++ asked (required (rules.Duration 1)) path (codes "period") d
    ++ asked (optional rules.AnyText) path (codes "schedule") d

abbrev pub upkeep_path : List ℕ
upkeep_path = codes "upkeep"

abbrev pub upkeep_faults : List ℕ → Data → List ConfigError
upkeep_faults path d =
    unknown_faults places.Upkeep path (members_in d)
    ++ asked (whole 1 2147483647) path (codes "staged_grace_secs") d
    ++ asked (whole 1 2147483647) path (codes "deletion_grace_secs") d

abbrev pub top_faults : List ℕ → Data → List ConfigError
top_faults path d =
    unknown_faults places.Top path (members_in d)
    ++ asked (optional rules.AnyText) path (codes "version") d
    ++ asked (required rules.IndexId) path (codes "index_id") d
    ++ asked (optional rules.AnyText) path (codes "index_uri") d
    ++ asked (required rules.AnyTable) path (codes "doc_mapping") d

-- all that is wrong with the tables, in the order in which they are visited
abbrev pub table_faults : Data → List ConfigError
table_faults d =
    top_faults [] d
    ++ where_table (mapping_faults mapping_path) (get mapping_path d)
    ++ optional_table indexing_path (indexing_faults indexing_path) (get indexing_path d)
    ++ optional_table search_path (search_faults search_path) (get search_path d)
    ++ optional_table retention_path (retention_faults retention_path) (get retention_path d)
    ++ optional_table upkeep_path (upkeep_faults upkeep_path) (get upkeep_path d)
