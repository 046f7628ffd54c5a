-- What is asked of the keys of a table, one behind the other.
use Rattle.std.proofs.Common.{◌≡◌, ℕ, Bool, List, [], ◌++◌, append_assoc, append-nil, ap, ◌∙◌, Option}
use Rattle.std.specs.Prelude.{codes}
use Rattle.toml.specs.Data.{Data}
use Rattle.index_config.specs.declared.config_error.ConfigError.{ConfigError}
use Rattle.index_config.specs.declared.rule.FieldType.{FieldType}
use Rattle.index_config.specs.declared.rule.PolicyType.{PolicyType}
use Rattle.index_config.specs.declared.rule.RulePlace.TheVariants as places
use Rattle.index_config.specs.declared.rule.Rule.TheVariants as rules
use Rattle.index_config.specs.Tables.{asked, optional, required, list_of, whole, unknown_faults, members_in, field_note_faults, field_value_faults, mappings_ask, is_object, top_faults, indexing_key_faults, upkeep_faults, search_faults, retention_faults, policy_faults, policy_type, merge_factor}
use Rattle.index_config.proofs.Nesting.{chain}

two : (old new a b : List ConfigError) → new ≡ old ++ (a ++ (b ++ [])) → new ≡ old ++ (a ++ b)
two old new a b h = simp append-nil at h

three : (old new a b c : List ConfigError) → new ≡ old ++ (a ++ (b ++ (c ++ []))) → new ≡ old ++ (a ++ b ++ c)
three old new a b c h = simp append_assoc (simp append-nil at h)

four : (old new a b c d : List ConfigError) → new ≡ old ++ (a ++ (b ++ (c ++ (d ++ [])))) → new ≡ old ++ (a ++ b ++ c ++ d)
four old new a b c d h = simp append_assoc (simp append-nil at h)

five : (old new a b c d e : List ConfigError) → new ≡ old ++ (a ++ (b ++ (c ++ (d ++ (e ++ []))))) → new ≡ old ++ (a ++ b ++ c ++ d ++ e)
five old new a b c d e h = simp append_assoc (simp append-nil at h)

six : (old new a b c d e f : List ConfigError) → new ≡ old ++ (a ++ (b ++ (c ++ (d ++ (e ++ (f ++ []))))))
    → new ≡ old ++ (a ++ b ++ c ++ d ++ e ++ f)
six old new a b c d e f h = simp append_assoc (simp append-nil at h)

seven : (old new a b c d e f g : List ConfigError) → new ≡ old ++ (a ++ (b ++ (c ++ (d ++ (e ++ (f ++ (g ++ []))))))) → new ≡ old ++ (a ++ b ++ c ++ d ++ e ++ f ++ g)
seven old new a b c d e f g h = simp append_assoc (simp append-nil at h)

behind-seven : (old mid new a b c d e f g x : List ConfigError) → mid ≡ old ++ (a ++ (b ++ (c ++ (d ++ (e ++ (f ++ (g ++ []))))))) → new ≡ mid ++ x
    → new ≡ old ++ (a ++ b ++ c ++ d ++ e ++ f ++ g ++ x)
behind-seven old mid new a b c d e f g x m n = simp append_assoc (simp append_assoc at (chain old mid new _ _ m n))

pub top-keys : (old new : List ConfigError) (path : List ℕ) (d : Data) → new ≡ old ++ (unknown_faults places.Top path (members_in d)
    ++ (asked (optional rules.AnyText) path (codes "version") d
    ++ (asked (required rules.IndexId) path (codes "index_id") d
    ++ (asked (optional rules.AnyText) path (codes "index_uri") d
    ++ (asked (required rules.AnyTable) path (codes "doc_mapping") d ++ [])))))
    → new ≡ old ++ top_faults path d
top-keys old new path d h = five old new (unknown_faults places.Top path (members_in d))
    (asked (optional rules.AnyText) path (codes "version") d)
    (asked (required rules.IndexId) path (codes "index_id") d)
    (asked (optional rules.AnyText) path (codes "index_uri") d)
    (asked (required rules.AnyTable) path (codes "doc_mapping") d) h

pub note-keys : (old new : List ConfigError) (path : List ℕ) (d : Data) → new ≡ old ++ (asked (optional rules.Truth) path (codes "stored") d
    ++ (asked (optional rules.Truth) path (codes "fieldnorms") d
    ++ (asked (optional rules.AnyText) path (codes "description") d
    ++ (asked (optional rules.AnyText) path (codes "output_format") d
    ++ (asked (optional rules.AnyText) path (codes "fast_precision") d ++ [])))))
    → new ≡ old ++ field_note_faults path d
note-keys old new path d h = five old new (asked (optional rules.Truth) path (codes "stored") d)
    (asked (optional rules.Truth) path (codes "fieldnorms") d)
    (asked (optional rules.AnyText) path (codes "description") d)
    (asked (optional rules.AnyText) path (codes "output_format") d)
    (asked (optional rules.AnyText) path (codes "fast_precision") d) h

pub indexing-keys : (old new : List ConfigError) (path : List ℕ) (d : Data) → new ≡ old ++ (unknown_faults places.Indexing path (members_in d)
    ++ (asked (whole 1 86400) path (codes "commit_timeout_secs") d
    ++ (asked (whole 1 16777216) path (codes "split_num_docs_target") d
    ++ (asked (optional rules.AnyTable) path (codes "resources") d ++ []))))
    → new ≡ old ++ indexing_key_faults path d
indexing-keys old new path d h = four old new (unknown_faults places.Indexing path (members_in d))
    (asked (whole 1 86400) path (codes "commit_timeout_secs") d)
    (asked (whole 1 16777216) path (codes "split_num_docs_target") d)
    (asked (optional rules.AnyTable) path (codes "resources") d) h

pub upkeep-keys : (old new : List ConfigError) (path : List ℕ) (d : Data) → new ≡ old ++ (unknown_faults places.Upkeep path (members_in d)
    ++ (asked (whole 1 2147483647) path (codes "staged_grace_secs") d
    ++ (asked (whole 1 2147483647) path (codes "deletion_grace_secs") d ++ [])))
    → new ≡ old ++ upkeep_faults path d
upkeep-keys old new path d h = three old new (unknown_faults places.Upkeep path (members_in d))
    (asked (whole 1 2147483647) path (codes "staged_grace_secs") d)
    (asked (whole 1 2147483647) path (codes "deletion_grace_secs") d) h

pub retention-keys : (old new : List ConfigError) (path : List ℕ) (d : Data) → new ≡ old ++ (unknown_faults places.Retention path (members_in d)
    ++ (asked (required (rules.Duration 1)) path (codes "period") d
    ++ (asked (optional rules.AnyText) path (codes "schedule") d ++ [])))
    → new ≡ old ++ retention_faults path d
retention-keys old new path d h = three old new (unknown_faults places.Retention path (members_in d))
    (asked (required (rules.Duration 1)) path (codes "period") d)
    (asked (optional rules.AnyText) path (codes "schedule") d) h

pub search-keys : (old new : List ConfigError) (path : List ℕ) (d : Data) → new ≡ old ++ (unknown_faults places.Search path (members_in d)
    ++ (asked (list_of rules.AnyText) path (codes "default_search_fields") d ++ []))
    → new ≡ old ++ search_faults path d
search-keys old new path d h = two old new (unknown_faults places.Search path (members_in d))
    (asked (list_of rules.AnyText) path (codes "default_search_fields") d) h

pub policy-keys : (old new : List ConfigError) (path : List ℕ) (d : Data) (t : Option PolicyType) (m : ℕ) → t ≡ policy_type d → m ≡ merge_factor d
    → new ≡ old ++ (unknown_faults (places.OfPolicy t) path (members_in d)
    ++ (asked (optional rules.PolicyName) path (codes "type") d
    ++ (asked (whole 1 16777216) path (codes "min_level_num_docs") d
    ++ (asked (whole 2 100) path (codes "merge_factor") d
    ++ (asked (whole m 100) path (codes "max_merge_factor") d
    ++ (asked (whole 1 100) path (codes "max_merge_ops") d
    ++ (asked (optional (rules.Duration 0)) path (codes "maturation_period") d ++ [])))))))
    → new ≡ old ++ policy_faults path d
policy-keys old new path d t m e f h = seven old new (unknown_faults (places.OfPolicy (policy_type d)) path (members_in d))
    (asked (optional rules.PolicyName) path (codes "type") d)
    (asked (whole 1 16777216) path (codes "min_level_num_docs") d)
    (asked (whole 2 100) path (codes "merge_factor") d)
    (asked (whole (merge_factor d) 100) path (codes "max_merge_factor") d)
    (asked (whole 1 100) path (codes "max_merge_ops") d)
    (asked (optional (rules.Duration 0)) path (codes "maturation_period") d)
    (rw (e, f) at h)

pub field-keys : (old new : List ConfigError) (path : List ℕ) (d : Data) (t : Option FieldType) → new ≡ old ++ (unknown_faults (places.OfField t) path (members_in d)
    ++ (asked (required rules.FieldName) path (codes "name") d
    ++ (asked (required rules.TypeName) path (codes "type") d ++ [])))
    → new ≡ old ++ (unknown_faults (places.OfField t) path (members_in d) ++ asked (required rules.FieldName) path (codes "name") d ++ asked (required rules.TypeName) path (codes "type") d)
field-keys old new path d t h = three old new (unknown_faults (places.OfField t) path (members_in d))
    (asked (required rules.FieldName) path (codes "name") d)
    (asked (required rules.TypeName) path (codes "type") d) h

pub value-keys : (old new : List ConfigError) (path : List ℕ) (d : Data) (t : Option FieldType) (object : Bool) → object ≡ is_object t
    → new ≡ old ++ (asked (optional rules.Truth) path (codes "fast") d
    ++ (asked (optional rules.Truth) path (codes "indexed") d
    ++ (asked (optional rules.TokenizerName) path (codes "tokenizer") d
    ++ (asked (optional rules.RecordName) path (codes "record") d
    ++ (asked (list_of rules.FormatName) path (codes "input_formats") d
    ++ (asked (mappings_ask object) path (codes "field_mappings") d ++ []))))))
    → new ≡ old ++ field_value_faults (is_object t) path d
value-keys old new path d t object e h =
    six old new (asked (optional rules.Truth) path (codes "fast") d)
    (asked (optional rules.Truth) path (codes "indexed") d)
    (asked (optional rules.TokenizerName) path (codes "tokenizer") d)
    (asked (optional rules.RecordName) path (codes "record") d)
    (asked (list_of rules.FormatName) path (codes "input_formats") d)
    (asked (mappings_ask (is_object t)) path (codes "field_mappings") d) (h ∙ ap (λ b. old ++ (asked (optional rules.Truth) path (codes "fast") d
    ++ (asked (optional rules.Truth) path (codes "indexed") d
    ++ (asked (optional rules.TokenizerName) path (codes "tokenizer") d
    ++ (asked (optional rules.RecordName) path (codes "record") d
    ++ (asked (list_of rules.FormatName) path (codes "input_formats") d
    ++ (asked (mappings_ask b) path (codes "field_mappings") d ++ []))))))) e)

-- with what stands behind them
pub mapping-keys : (old mid new x : List ConfigError) (path : List ℕ) (d : Data) → mid ≡ old ++ (unknown_faults places.Mapping path (members_in d)
    ++ (asked (optional rules.ModeName) path (codes "mode") d
    ++ (asked (list_of rules.AnyTable) path (codes "field_mappings") d
    ++ (asked (optional rules.AnyText) path (codes "timestamp_field") d
    ++ (asked (list_of rules.AnyText) path (codes "tag_fields") d
    ++ (asked (optional rules.Truth) path (codes "store_source") d
    ++ (asked (optional rules.Truth) path (codes "index_field_presence") d ++ [])))))))
    → new ≡ mid ++ x
    → new ≡ old ++ (unknown_faults places.Mapping path (members_in d) ++ asked (optional rules.ModeName) path (codes "mode") d ++ asked (list_of rules.AnyTable) path (codes "field_mappings") d ++ asked (optional rules.AnyText) path (codes "timestamp_field") d ++ asked (list_of rules.AnyText) path (codes "tag_fields") d ++ asked (optional rules.Truth) path (codes "store_source") d ++ asked (optional rules.Truth) path (codes "index_field_presence") d ++ x)
mapping-keys old mid new x path d m n = behind-seven old mid new (unknown_faults places.Mapping path (members_in d))
    (asked (optional rules.ModeName) path (codes "mode") d)
    (asked (list_of rules.AnyTable) path (codes "field_mappings") d)
    (asked (optional rules.AnyText) path (codes "timestamp_field") d)
    (asked (list_of rules.AnyText) path (codes "tag_fields") d)
    (asked (optional rules.Truth) path (codes "store_source") d)
    (asked (optional rules.Truth) path (codes "index_field_presence") d) x m n
