use Rattle.std.proofs.Common.{◌≡◌, ℕ, ◌&&◌, ◌≤◌, true, nat_le, refl}
use Rattle.std.proofs.lemmas.Bool.{and_from, le-leb}
use Rattle.index_config.specs.Accepted.{IsBetween, HasPolicyRanges, HasRanges}
use Rattle.index_config.specs.declared.config.IndexConfig.{IndexConfig}
use Rattle.index_config.specs.declared.config.Policy.{Policy}
use Rattle.index_config.specs.declared.config.Policy.TheVariants.{StableLog, LimitMerge, NoMerge}
use Rattle.meta_store.specs.Planning.{is_within, policy_fits, config_fits}
use Rattle.meta_store.proofs.laws.ranges_fit.Goals as goal

within : (least most n : ℕ) → IsBetween least most n → is_within least most n ≡ true
within least most n h = and_from (nat_le least n) (nat_le n most) (le-leb least n h.0) (le-leb n most h.1)

policy : (p : Policy) → HasPolicyRanges p → policy_fits p ≡ true
policy (StableLog least factor greatest period) h =
    and_from (is_within 1 16777216 least) (is_within 2 100 factor && (is_within factor 100 greatest && nat_le period 2147483647)) (within 1 16777216 least h.0)
    (and_from (is_within 2 100 factor) (is_within factor 100 greatest && nat_le period 2147483647) (within 2 100 factor h.1)
    (and_from (is_within factor 100 greatest) (nat_le period 2147483647) (within factor 100 greatest h.2) (le-leb period 2147483647 h.3)))
policy (LimitMerge factor greatest ops period) h =
    and_from (is_within 2 100 factor) (is_within factor 100 greatest && (is_within 1 100 ops && nat_le period 2147483647)) (within 2 100 factor h.0)
    (and_from (is_within factor 100 greatest) (is_within 1 100 ops && nat_le period 2147483647) (within factor 100 greatest h.1)
    (and_from (is_within 1 100 ops) (nat_le period 2147483647) (within 1 100 ops h.2) (le-leb period 2147483647 h.3)))
policy NoMerge h = refl

pub returns : goal.returns
returns c config h = and_from (policy_fits config.policy) (is_within 1 16777216 config.docs_target) (policy config.policy h.policy) (within 1 16777216 config.docs_target h.docs_target)
