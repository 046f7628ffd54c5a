-- The tables that may be left out: where each stands, its path, and what is wrong with it.
use Rattle.std.specs.Prelude.{ℕ, List, Option, codes}
use Rattle.toml.specs.Data.{Data, get}
use Rattle.index_config.specs.declared.rule.Section.{Section}
use Rattle.index_config.specs.declared.rule.Section.TheVariants as sections
use Rattle.index_config.specs.declared.config_error.ConfigError.{ConfigError}
use Rattle.index_config.specs.Tables.{optional_table, indexing_key_faults, indexing_path, policy_faults, policy_path, search_faults, search_path, retention_faults, retention_path, upkeep_faults, upkeep_path}
use Rattle.index_config.specs.Fields.{in_option}

abbrev pub section_in : Section → Data → Option Data
section_in sections.Indexing root = get indexing_path root
section_in sections.Policy root = in_option (codes "merge_policy") (get indexing_path root)
section_in sections.Search root = get search_path root
section_in sections.Retention root = get retention_path root
section_in sections.Upkeep root = get upkeep_path root

abbrev pub section_path : Section → List ℕ
section_path sections.Indexing = indexing_path
section_path sections.Policy = policy_path
section_path sections.Search = search_path
section_path sections.Retention = retention_path
section_path sections.Upkeep = upkeep_path

-- the keys of a section; those of the policy are not the indexing settings' own
abbrev pub key_faults : Section → List ℕ → Data → List ConfigError
key_faults sections.Indexing path d = indexing_key_faults path d
key_faults sections.Policy path d = policy_faults path d
key_faults sections.Search path d = search_faults path d
key_faults sections.Retention path d = retention_faults path d
key_faults sections.Upkeep path d = upkeep_faults path d

abbrev pub section_faults : Section → Data → List ConfigError
section_faults section root = optional_table (section_path section) (key_faults section (section_path section)) (section_in section root)
