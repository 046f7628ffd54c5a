-- The numbers of an accepted configuration lie within their ranges.
use Rattle.std.proofs.Common.{◌≡◌, ℕ, max, ◌≤◌, nat_le, Bool, true, false, ◌&&◌, List, [], ◌++◌, Option, Some, None, Ok, is_some, refl, subst, arith}
use Rattle.std.specs.Prelude.{ℤ, pos, negsuc, codes, unwrap_or, IfSome}
use Rattle.std.proofs.lemmas.Bool.{and_parts, leb-true}
use Rattle.toml.specs.Data.{Data, get, as_str, as_integer, as_table}
use Rattle.index_config.specs.declared.config.IndexConfig.{IndexConfig}
use Rattle.index_config.specs.declared.config_error.ConfigError.{ConfigError}
use Rattle.index_config.specs.declared.rule.PolicyType.{PolicyType}
use Rattle.index_config.specs.declared.rule.PolicyType.TheVariants as policies
use Rattle.index_config.specs.declared.rule.Rule.TheVariants as rules
use Rattle.index_config.specs.declared.rule.RulePlace.TheVariants as places
use Rattle.index_config.specs.Accepted.{IsBetween, HasPolicyRanges, HasRanges}
use Rattle.index_config.specs.Rules.{under, range_faults, whole_faults, seconds_faults, duration_faults, duration_of, max_seconds, wrong_unless}
use Rattle.index_config.specs.Tables.{asked, asked_value, optional, required, whole, text_at, retention_faults, retention_path, number_in, number_at, merge_factor, policy_type, policy_faults, policy_path, indexing_key_faults, indexing_faults, indexing_path, search_faults, search_path, upkeep_faults, upkeep_path, unknown_faults, members_in, table_by, optional_table, where_table, mapping_faults, mapping_path, top_faults, table_faults, text_in}
use Rattle.index_config.specs.Fields.{period_of, retention_in, number_or, in_option, seconds_in, seconds_at, greatest_factor, stable_log, policy_by_type, policy_in, config_of}
use Rattle.index_config.proofs.Distinct.{both-empty}
use Rattle.index_config.specs.Answer.{config_answer}
use Rattle.index_config.proofs.Accepted.{accepted-root}

in_range : (b : Bool) (path : List ℕ) → range_faults b path ≡ [] → b ≡ true
in_range true path e = refl
in_range false path e = absurd (cc)

is_table : (b : Bool) (path : List ℕ) → wrong_unless b path ≡ [] → b ≡ true
is_table true path e = refl
is_table false path e = absurd (cc)

both-le : (least most n : ℕ) → (nat_le least n && nat_le n most) ≡ true → IsBetween least most n
both-le least most n e =
    let parts = and_parts (nat_le least n) (nat_le n most) e in
    (leb-true least n parts.0, leb-true n most parts.1)

module _ (least most : ℕ) (path : List ℕ) (default : ℕ) (fits : IsBetween least most default) where
  whole-between : (o : Option ℤ) (d : Data) → as_integer d ≡ o → whole_faults least most path o ≡ [] → IsBetween least most (unwrap_or (number_in (Some d)) default)
  whole-between None d e h = absurd (cc)
  whole-between (Some (pos n)) d e h = rw e (both-le least most n (in_range (nat_le least n && nat_le n most) path h))
  whole-between (Some (negsuc n)) d e h = absurd (cc)

  value-between : (o : Option Data) → asked_value (whole least most) path o ≡ [] → IsBetween least most (unwrap_or (number_in o) default)
  value-between None h = fits
  value-between (Some d) h = whole-between (as_integer d) d refl h

asked-between : (least most : ℕ) (path key : List ℕ) (d : Data) (default : ℕ) → IsBetween least most default → asked (whole least most) path key d ≡ []
    → IsBetween least most (unwrap_or (number_at key d) default)
unfolding asked
asked-between least most path key d default fits h = value-between least most (under path key) default fits (get key d) h

seconds-between : (least : ℕ) (path : List ℕ) (o : Option ℕ) → seconds_faults least path o ≡ [] → IfSome o (IsBetween least 2147483647)
seconds-between least path None h = tt
seconds-between least path (Some n) h = both-le least max_seconds n (in_range (nat_le least n && nat_le n max_seconds) path h)

seconds-few : (path : List ℕ) (o : Option ℕ) → seconds_faults 0 path o ≡ [] → unwrap_or o 172800 ≤ 2147483647
seconds-few path None h = absurd (cc)
seconds-few path (Some n) h = (seconds-between 0 path (Some n) h).1

period-text : (path : List ℕ) (o : Option (List ℕ)) → duration_faults 0 path o ≡ [] → seconds_in 172800 o ≤ 2147483647
period-text path None h = absurd (cc)
period-text path (Some text) h = seconds-few path (duration_of text) h

period-value : (path : List ℕ) (o : Option Data) → asked_value (optional (rules.Duration 0)) path o ≡ [] → seconds_in 172800 (text_in o) ≤ 2147483647
period-value path None h = omega arith
period-value path (Some d) h = period-text path (as_str d) h

period-asked : (path : List ℕ) (d : Data) → asked (optional (rules.Duration 0)) path (codes "maturation_period") d ≡ []
    → seconds_at (codes "maturation_period") 172800 d ≤ 2147483647
unfolding asked
period-asked path d h = period-value (under path (codes "maturation_period")) (get (codes "maturation_period") d) h

-- the factors, of which the greatest has the other as its least
greatest-between : (factor : ℕ) → IsBetween 2 100 factor → IsBetween factor 100 (max factor 12)
greatest-between factor h = (omega (arith, h.0), omega (arith, h.1))

policy-ranges : (path : List ℕ) (d : Data) (t : Option PolicyType) → asked (whole 1 16777216) path (codes "min_level_num_docs") d ≡ []
    → asked (whole 2 100) path (codes "merge_factor") d ≡ [] → asked (whole (merge_factor d) 100) path (codes "max_merge_factor") d ≡ []
    → asked (whole 1 100) path (codes "max_merge_ops") d ≡ [] → asked (optional (rules.Duration 0)) path (codes "maturation_period") d ≡ []
    → HasPolicyRanges (policy_by_type t d)
policy-ranges path d t a b c e f = by t
  where
    factor : IsBetween 2 100 (merge_factor d)
    factor = asked-between 2 100 path (codes "merge_factor") d 10 (omega arith, omega arith) b

    greatest : IsBetween (merge_factor d) 100 (greatest_factor d)
    greatest = asked-between (merge_factor d) 100 path (codes "max_merge_factor") d (max (merge_factor d) 12) (greatest-between (merge_factor d) factor) c

    stable : HasPolicyRanges (stable_log d)
    stable = (asked-between 1 16777216 path (codes "min_level_num_docs") d 100000 (omega arith, omega arith) a, factor, greatest, period-asked path d f)

    by : (t : Option PolicyType) → HasPolicyRanges (policy_by_type t d)
    by (Some policies.NoMerge) = tt
    by (Some policies.LimitMerge) = (factor, greatest, asked-between 1 100 path (codes "max_merge_ops") d 4 (omega arith, omega arith) e, period-asked path d f)
    by (Some policies.StableLog) = stable
    by None = stable

-- the parts of what is wrong, where nothing is
four : {A : Type 0} (a b c d : List A) → a ++ b ++ c ++ d ≡ [] → (b ≡ []) × (c ≡ [])
four a b c d h =
    let three = both-empty (a ++ b ++ c) d h in
    let two = both-empty (a ++ b) c three.0 in
    ((both-empty a b two.0).1, two.1)

policy-table : (path : List ℕ) (d : Data) → policy_faults path d ≡ [] → HasPolicyRanges (policy_by_type (policy_type d) d)
policy-table path d h =
    let u = unknown_faults (places.OfPolicy (policy_type d)) path (members_in d) in
    let t = asked (optional rules.PolicyName) path (codes "type") d in
    let a = asked (whole 1 16777216) path (codes "min_level_num_docs") d in
    let b = asked (whole 2 100) path (codes "merge_factor") d in
    let c = asked (whole (merge_factor d) 100) path (codes "max_merge_factor") d in
    let e = asked (whole 1 100) path (codes "max_merge_ops") d in
    let f = asked (optional (rules.Duration 0)) path (codes "maturation_period") d in
    let six = both-empty (u ++ t ++ a ++ b ++ c ++ e) f h in
    let five = both-empty (u ++ t ++ a ++ b ++ c) e six.0 in
    let c4 = both-empty (u ++ t ++ a ++ b) c five.0 in
    let b3 = both-empty (u ++ t ++ a) b c4.0 in
    let a2 = both-empty (u ++ t) a b3.0 in
    policy-ranges path d (policy_type d) a2.1 b3.1 c4.1 five.1 six.1

-- of a table that is there the own faults, and none of one that isn't
table-own : (path : List ℕ) (f : Data → List ConfigError) (d : Data) → optional_table path f (Some d) ≡ [] → f d ≡ []
table-own path f d h =
    let parts = both-empty (wrong_unless (is_some (as_table d)) path) (table_by (is_some (as_table d)) f d) h in
    subst (λ (b : Bool). table_by b f d ≡ []) (is_table (is_some (as_table d)) path parts.0) parts.1

policy-option : (o : Option Data) → optional_table policy_path (policy_faults policy_path) o ≡ [] → HasPolicyRanges (policy_in o)
policy-option None h = ((omega arith, omega arith), (omega arith, omega arith), (omega arith, omega arith), omega arith)
policy-option (Some d) h = policy-table policy_path d (table-own policy_path (policy_faults policy_path) d h)

abbrev AreIndexing : Option Data → Type 0
AreIndexing o =
    IsBetween 1 86400 (number_or (codes "commit_timeout_secs") 60 o) × IsBetween 1 16777216 (number_or (codes "split_num_docs_target") 10000000 o)
    × HasPolicyRanges (policy_in (in_option (codes "merge_policy") o))

indexing-option : (o : Option Data) → optional_table indexing_path (indexing_faults indexing_path) o ≡ [] → AreIndexing o
indexing-option None h = ((omega arith, omega arith), (omega arith, omega arith), policy-option None refl)
indexing-option (Some d) h =
    let own = both-empty (indexing_key_faults indexing_path d) (optional_table policy_path (policy_faults policy_path) (get (codes "merge_policy") d))
    (table-own indexing_path (indexing_faults indexing_path) d h) in
    let keys = four (unknown_faults places.Indexing indexing_path (members_in d)) (asked (whole 1 86400) indexing_path (codes "commit_timeout_secs") d)
    (asked (whole 1 16777216) indexing_path (codes "split_num_docs_target") d) (asked (optional rules.AnyTable) indexing_path (codes "resources") d) own.0 in (
      asked-between 1 86400 indexing_path (codes "commit_timeout_secs") d 60 (omega arith, omega arith) keys.0,
      asked-between 1 16777216 indexing_path (codes "split_num_docs_target") d 10000000 (omega arith, omega arith) keys.1,
      policy-option (get (codes "merge_policy") d) own.1,
    )

abbrev AreGraces : Option Data → Type 0
AreGraces o =
    IsBetween 1 2147483647 (number_or (codes "staged_grace_secs") 3600 o) × IsBetween 1 2147483647 (number_or (codes "deletion_grace_secs") 1800 o)

upkeep-option : (o : Option Data) → optional_table upkeep_path (upkeep_faults upkeep_path) o ≡ [] → AreGraces o
upkeep-option None h = ((omega arith, omega arith), (omega arith, omega arith))
upkeep-option (Some d) h =
    let u = unknown_faults places.Upkeep upkeep_path (members_in d) in
    let a = asked (whole 1 2147483647) upkeep_path (codes "staged_grace_secs") d in
    let b = asked (whole 1 2147483647) upkeep_path (codes "deletion_grace_secs") d in
    let last = both-empty (u ++ a) b (table-own upkeep_path (upkeep_faults upkeep_path) d h) in (
      asked-between 1 2147483647 upkeep_path (codes "staged_grace_secs") d 3600 (omega arith, omega arith) (both-empty u a last.0).1,
      asked-between 1 2147483647 upkeep_path (codes "deletion_grace_secs") d 1800 (omega arith, omega arith) last.1,
    )

-- how long splits are kept
kept-text : (path : List ℕ) (o : Option (List ℕ)) → duration_faults 1 path o ≡ [] → IfSome (period_of o) (IsBetween 1 2147483647)
kept-text path None h = tt
kept-text path (Some text) h = seconds-between 1 path (duration_of text) h

kept-value : (path : List ℕ) (o : Option Data) → asked_value (required (rules.Duration 1)) path o ≡ [] → IfSome (period_of (text_in o)) (IsBetween 1 2147483647)
kept-value path None h = tt
kept-value path (Some d) h = kept-text path (as_str d) h

kept-asked : (path : List ℕ) (d : Data) → asked (required (rules.Duration 1)) path (codes "period") d ≡ []
    → IfSome (period_of (text_at (codes "period") d)) (IsBetween 1 2147483647)
unfolding asked
kept-asked path d h = kept-value (under path (codes "period")) (get (codes "period") d) h

retention-option : (o : Option Data) → optional_table retention_path (retention_faults retention_path) o ≡ [] → IfSome (retention_in o) (IsBetween 1 2147483647)
retention-option None h = tt
retention-option (Some d) h =
    let u = unknown_faults places.Retention retention_path (members_in d) in
    let a = asked (required (rules.Duration 1)) retention_path (codes "period") d in
    let b = asked (optional rules.AnyText) retention_path (codes "schedule") d in
    let last = both-empty (u ++ a) b (table-own retention_path (retention_faults retention_path) d h) in
    kept-asked retention_path d (both-empty u a last.0).1

root-ranges : (root : Data) → table_faults root ≡ [] → HasRanges (config_of root)
root-ranges root h =
    let t = top_faults [] root in
    let m = where_table (mapping_faults mapping_path) (get mapping_path root) in
    let i = optional_table indexing_path (indexing_faults indexing_path) (get indexing_path root) in
    let s = optional_table search_path (search_faults search_path) (get search_path root) in
    let r = optional_table retention_path (retention_faults retention_path) (get retention_path root) in
    let u = optional_table upkeep_path (upkeep_faults upkeep_path) (get upkeep_path root) in
    let upkeep = both-empty (t ++ m ++ i ++ s ++ r) u h in
    let kept = both-empty (t ++ m ++ i ++ s) r upkeep.0 in
    let search_part = both-empty (t ++ m ++ i) s kept.0 in
    let indexing = indexing-option (get indexing_path root) (both-empty (t ++ m) i search_part.0).1 in
    let graces = upkeep-option (get upkeep_path root) upkeep.1 in
    record {
      commit_timeout = indexing.0;
      docs_target = indexing.1;
      policy = indexing.2;
      staged_grace = graces.0;
      deletion_grace = graces.1;
      retention = retention-option (get retention_path root) kept.1;
    }

pub accepted-ranges : (text : List ℕ) (config : IndexConfig) → config_answer text ≡ Ok config → HasRanges config
accepted-ranges text config e =
    let found = accepted-root text config e in
    subst HasRanges found.1.2 (root-ranges found.0 found.1.0)
