use Rattle.split_bundle.specs.Documents.{place_among}
use Rattle.split_build.proofs.DocumentLemmas.{mapped_more}
use Rattle.split_build.proofs.documents.places_of.Goals as goal

pub loop-name-preserved : goal.loop-name-preserved
loop-name-preserved c =
    mapped_more (place_among c.args.partitions.now) c.args.names.now c.loop-name.name-index c.name-item.result c.loop-name.places.items c.push.new.self.items c.place_of.result c.loop-name-test.true c.name-item.is c.in_ok-push.ensures.items c.place_of.ensures c.loop-name.invariant
