use Rattle.std.proofs.Common.{◌∷◌, ◌++◌, [], List, sym, subst}
use Rattle.std.specs.List.{AllByRecursion}
use Rattle.doc_value.specs.Documents.{IsOfSchema}
use Rattle.split_bundle.specs.declared.placed.Placed.{Placed}
use Rattle.split_rows.proofs.builds.answers.one_by_one.Goals as goal

pub loop-placed-init : goal.loop-placed-init
loop-placed-init c = record {
  taken = ([], c.in_ok-builder.ensures);
  left = subst (λ (ds : List Placed). AllByRecursion (λ (d : Placed). IsOfSchema c.args.config.now.schema d.doc) ds) (sym c.as_slice-rest.ensures) c.requires.documents;
}

pub add-requires : goal.add-requires
add-requires c =
    let left = subst (λ (ds : List Placed). AllByRecursion (λ (d : Placed). IsOfSchema c.args.config.now.schema d.doc) ds) c.in-Some.ensures.cases.0 c.loop-placed.invariant.left in
    ∣ (c.args.config.now.schema, c.loop-placed.invariant.taken.0, c.loop-placed.invariant.taken.1, left.0) ∣₁

pub loop-placed-preserved : goal.loop-placed-preserved
loop-placed-preserved c =
    let left = subst (λ (ds : List Placed). AllByRecursion (λ (d : Placed). IsOfSchema c.args.config.now.schema d.doc) ds) c.in-Some.ensures.cases.0 c.loop-placed.invariant.left in
    record {
      taken = (c.loop-placed.invariant.taken.0 ++ c.in-Some.placed.now ∷ [], c.in_ok-add.ensures c.args.config.now.schema c.loop-placed.invariant.taken.0 c.loop-placed.invariant.taken.1 left.0);
      left = left.1;
    }

pub finish-requires : goal.finish-requires
finish-requires c = ∣ (c.args.config.now.schema, c.loop-placed.invariant.taken.0, c.loop-placed.invariant.taken.1) ∣₁
