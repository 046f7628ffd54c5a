use Rattle.std.proofs.Common.{◌∙◌, ℕ, true, false, List, Vec, sym, subst}
use Rattle.std.proofs.Math.Logic.{∥∥₁_elim, ∥∥₁_map}
use Rattle.std.specs.declared.alloc.Global.{Global}
use Rattle.split_build.specs.HeldKeys.{key_bytes}
use Rattle.split_build.specs.HeldTerms.{said_with}
use Rattle.split_build.specs.KeyGroups.{AreGroups}
use Rattle.split_build.specs.Said.{said_from}
use Rattle.split_build.specs.WrittenTerms.{AreGrouped}
use Rattle.split_build.proofs.KeyGroupLemmas.{are_grouped, documents_size, numbers_small}
use Rattle.split_build.proofs.Mere.{all_prop, lt_prop, nat_set}
use Rattle.split_build.proofs.term_parts.write_terms.Goals as goal

pub groups_of-requires-clause-numbers : goal.groups_of-requires-clause-numbers
groups_of-requires-clause-numbers c =
    ∥∥₁_elim c.requires (all_prop _ (λ n. lt_prop n c.len.result) _)
    (λ r. numbers_small c.args.log.keys.keys c.len.result false (said_with false c.args.schema.now (said_from c.args.schema.now 0 r.0)) c.args.log.plain c.len.ensures.len r.1.said.plain)

pub groups_of-requires-clause-documents : goal.groups_of-requires-clause-documents
groups_of-requires-clause-documents c =
    ∥∥₁_elim c.requires (nat_set _ _) (λ r. documents_size (key_bytes c.args.log.keys.keys) false (said_with false c.args.schema.now (said_from c.args.schema.now 0 r.0)) c.args.log.plain r.1.said.plain)

pub groups_of-requires-2-clause-numbers : goal.groups_of-requires-2-clause-numbers
groups_of-requires-2-clause-numbers c =
    ∥∥₁_elim c.requires (all_prop _ (λ n. lt_prop n c.len-2.result) _)
    (λ r. numbers_small c.args.log.keys.keys c.len-2.result true (said_with true c.args.schema.now (said_from c.args.schema.now 0 r.0)) c.args.log.placed c.len-2.ensures.len r.1.said.placed)

pub groups_of-requires-2-clause-documents : goal.groups_of-requires-2-clause-documents
groups_of-requires-2-clause-documents c =
    ∥∥₁_elim c.requires (nat_set _ _) (λ r. documents_size (key_bytes c.args.log.keys.keys) true (said_with true c.args.schema.now (said_from c.args.schema.now 0 r.0)) c.args.log.placed r.1.said.placed)

pub write_groups-requires : goal.write_groups-requires
write_groups-requires c =
    let plain : AreGroups c.len-2.result c.args.log.plain c.in_ok-plain.plain = subst (λ (n : ℕ). AreGroups n c.args.log.plain c.in_ok-plain.plain) (c.len.ensures.len ∙ sym c.len-2.ensures.len) c.in_ok-plain.ensures in
    ∥∥₁_map c.requires (λ r. (
      r.0,
      subst (λ (ks : List (Vec ℕ Global)). AreGrouped c.args.schema.now r.0 (key_bytes ks) c.in_ok-placed.placed c.in_ok-plain.plain) (sym c.as_slice.ensures.keys)
          (are_grouped c.args.schema.now r.0 c.args.log c.len-2.result c.in_ok-placed.placed c.in_ok-plain.plain r.1 c.len.ensures.unique c.len-2.ensures.len c.in_ok-placed.ensures plain),
    ))

pub returns : goal.returns
returns c = λ ds h.
    let plain : AreGroups c.len-2.result c.args.log.plain c.in_ok-plain.plain = subst (λ (n : ℕ). AreGroups n c.args.log.plain c.in_ok-plain.plain) (c.len.ensures.len ∙ sym c.len-2.ensures.len) c.in_ok-plain.ensures in
    c.write_groups.ensures ds
    (subst (λ (ks : List (Vec ℕ Global)). AreGrouped c.args.schema.now ds (key_bytes ks) c.in_ok-placed.placed c.in_ok-plain.plain) (sym c.as_slice.ensures.keys)
    (are_grouped c.args.schema.now ds c.args.log c.len-2.result c.in_ok-placed.placed c.in_ok-plain.plain h c.len.ensures.unique c.len-2.ensures.len c.in_ok-placed.ensures plain))
