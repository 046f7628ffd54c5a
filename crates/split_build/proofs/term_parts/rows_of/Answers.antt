use Rattle.std.proofs.Common.{◌∙◌, List, ap}
use Rattle.std.proofs.lemmas.List.{map_push}
use Rattle.term_postings.specs.declared.list.Row.{Row}
use Rattle.term_postings.specs.Rows.{lent, lent_one}
use Rattle.split_build.proofs.GroupedLemmas.{sizes_step, rows_step}
use Rattle.split_build.proofs.term_parts.rows_of.Goals as goal

pub loop-document-preserved : goal.loop-document-preserved
loop-document-preserved c =
    let is = c.in-Some.ensures.cases.0 in
    record {
      sizes = sizes_step c.args.kept c.run_length-count.result c.places_of.result c.loop-document.left.now c.split_at.result.1.now c.loop-document.rest.now c.split_at-in-Some.result.1.now c.places_of.ensures c.split_at.ensures.back c.split_at-in-Some.ensures.back c.loop-document.invariant.sizes;
      rows =
          rows_step c.args.kept c.in-Some.document.now c.run_length-count.result c.places_of.result _ c.loop-document.left.now c.split_at.result.1.now c.loop-document.rest.now c.split_at-in-Some.result.0.now c.split_at-in-Some.result.1.now
          (lent c.loop-document.rows.items) (lent c.push.new.self.items) _ is c.run_length-count.ensures.run c.places_of.ensures c.loop-document.invariant.sizes c.split_at.ensures.back c.split_at-in-Some.ensures.front c.split_at-in-Some.ensures.back
          (ap (λ (l : List Row). lent l) c.in_ok-push.ensures.items ∙ map_push lent_one c.loop-document.rows.items _) c.loop-document.invariant.rows;
    }
