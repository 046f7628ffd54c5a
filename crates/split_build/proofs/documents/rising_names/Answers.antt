use Rattle.std.proofs.Common.{◌∙◌, List, ℕ, ap, sym, subst}
use Rattle.std.specs.List.{AllByRecursion}
use Rattle.std.proofs.lemmas.List.{nil_from_length}
use Rattle.source_checkpoint.specs.Names.{IsPartition}
use Rattle.split_build.specs.HeldDocuments.{with_names}
use Rattle.split_build.proofs.RisingLemmas.{all_with}
use Rattle.split_build.proofs.PartitionLemmas.{are_partitions}
use Rattle.split_build.proofs.documents.rising_names.Goals as goal

pub loop-name-preserved : goal.loop-name-preserved
loop-name-preserved c = record {
  order =
      ap (λ (l : List (List ℕ)). with_names l c.in-Some.behind.now) c.in_ok-insert_name.ensures.put ∙ ap (λ (l : List (List ℕ)). with_names c.loop-name.sorted.items l) (sym c.in-Some.ensures.cases.0) ∙ c.loop-name.invariant.order;
  good = subst (λ (l : List (List ℕ)). AllByRecursion IsPartition l) (sym c.in_ok-insert_name.ensures.put) (all_with IsPartition c.in-Some.name.now c.loop-name.sorted.items c.in_ok-insert_name.ensures.good c.loop-name.invariant.good);
}

pub returns : goal.returns
returns c = λ ds h.
    let none = nil_from_length c.loop-name.rest.now c.in_default.ensures.cases in
    are_partitions c.args.names.now ds c.loop-name.sorted.items (ap (λ (l : List (List ℕ)). with_names c.loop-name.sorted.items l) (sym none) ∙ c.loop-name.invariant.order) c.loop-name.invariant.good h
