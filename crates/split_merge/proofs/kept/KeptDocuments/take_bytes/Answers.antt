use Rattle.std.proofs.Common.{◌≡◌, ◌∙◌, ◌++◌, ◌∷◌, [], ℕ, Ok, ap, refl, arith}
use Rattle.std.specs.Prelude.{⊤}
use Rattle.doc_value.specs.Documents.{IsOfSchema}
use Rattle.split_bundle.specs.Held.{IsHeld}
use Rattle.split_build.specs.Bodies.{body_of}
use Rattle.split_build.proofs.TakenLemmas.{all_push}
use Rattle.split_merge.specs.Reading.{alone, behind}
use Rattle.split_merge.specs.Scanning.{placed_at}
use Rattle.split_merge.proofs.FiledLemmas.{weighs_more}
use Rattle.split_merge.proofs.InPlaceLemmas.{document_read, keeps_one, keeps_partition, keeps_scan, read_fits}
use Rattle.split_merge.proofs.kept.KeptDocuments.take_bytes.Goals as goal

pub returns-in_ok-add-in-Ok-partition_at-clause-places : goal.returns-in_ok-add-in-Ok-partition_at-clause-places
returns-in_ok-add-in-Ok-partition_at-clause-places c = λ before h known part.
    let scan = c.in-Ok.ensures.exact c.args.schema.now before h.facts in
    c.in-Ok-partition_at.ensures.places known (scan.0.1, document_read c.args.schema.now c.args.view.now c.args.doc c.args.bytes.now c.in-Ok.place scan.0 part scan.1 scan.2.place)

pub returns-in_ok-add-in-Ok-partition_at-clause-exact : goal.returns-in_ok-add-in-Ok-partition_at-clause-exact
returns-in_ok-add-in-Ok-partition_at-clause-exact c = λ before h known part.
    let scan = c.in-Ok.ensures.exact c.args.schema.now before h.facts in
    let read = document_read c.args.schema.now c.args.view.now c.args.doc c.args.bytes.now c.in-Ok.place scan.0 part scan.1 scan.2.place in
    let name = c.in-Ok-partition_at.partition in
    let is = keeps_one c.args.schema.now c.args.view.now c.args.doc c.in-Ok.place name scan.0.1 read (c.in-Ok-partition_at.ensures.exact known (scan.0.1, read)) in
    let body : c.split_at.result.1.now ≡ body_of (placed_at name scan.0.1) = c.split_at.ensures.back ∙ scan.2.body name in (
      before ++ placed_at name scan.0.1 ∷ [],
      ap (λ r. behind (Ok before) (alone r)) is,
      record {
        of_schema = all_push (λ x. IsOfSchema c.args.schema.now x.doc) before (placed_at name scan.0.1) h.of_schema (read_fits c.args.schema.now c.args.view.now c.args.doc (placed_at name scan.0.1) is);
        held = all_push IsHeld before (placed_at name scan.0.1) h.held (scan.2.held name);
        weight = weighs_more before (placed_at name scan.0.1) c.split_at.result.1.now c.args.self.now.weight c.saturating_add-self.result body h.weight (omega (arith, c.saturating_add-self.ensures));
        bodies = c.in_ok-add-in-Ok-partition_at.ensures before (placed_at name scan.0.1) refl body h.bodies;
        facts = scan.2.facts name;
      },
    )

pub returns-in-Err-partition_at-clause-exact : goal.returns-in-Err-partition_at-clause-exact
returns-in-Err-partition_at-clause-exact c = λ before h known part.
    let scan = c.in-Ok.ensures.exact c.args.schema.now before h.facts in
    let read = document_read c.args.schema.now c.args.view.now c.args.doc c.args.bytes.now c.in-Ok.place scan.0 part scan.1 scan.2.place in
    keeps_partition ⊤ c.args.self.now c.args.schema.now c.args.view.now c.args.doc c.in-Ok.place scan.0.1 c.in-Err-partition_at.fault before read (c.in-Err-partition_at.ensures.exact known (scan.0.1, read))

pub returns-in-Err-clause-exact : goal.returns-in-Err-clause-exact
returns-in-Err-clause-exact c = λ before h known part.
    keeps_scan ⊤ ℕ (λ n r. Unit {0}) c.args.self.now c.args.schema.now c.args.view.now c.args.doc c.args.bytes.now c.in-Err.fault before part (c.in-Err.ensures.exact c.args.schema.now before h.facts)
