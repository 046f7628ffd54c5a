use Rattle.split_merge.proofs.InPlaceLemmas.{partition_fault, partition_read}
use Rattle.split_merge.proofs.PlaceListLemmas.{places_more}
use Rattle.split_merge.proofs.kept.partition_at.Goals as goal

pub returns-in_ok-push-in-Ok-clause-places : goal.returns-in_ok-push-in-Ok-clause-places
returns-in_ok-push-in-Ok-clause-places c = λ known has.
    places_more c.args.view.now c.args.known.now.items c.push.new.self.items _ c.in_ok-push-in-Ok.ensures.items known (partition_read c.args.schema.now c.args.view.now c.args.doc c.args.place has c.in-Ok.placed c.in-Ok.ensures.exact)

pub returns-in_ok-push-in-Ok-clause-exact : goal.returns-in_ok-push-in-Ok-clause-exact
returns-in_ok-push-in-Ok-clause-exact c = λ known has. partition_read c.args.schema.now c.args.view.now c.args.doc c.args.place has c.in-Ok.placed c.in-Ok.ensures.exact

pub returns-in-Err-clause-exact : goal.returns-in-Err-clause-exact
returns-in-Err-clause-exact c = λ known has. partition_fault c.args.schema.now c.args.view.now c.args.doc c.args.place has c.in-Err.fault c.in-Err.ensures.exact
