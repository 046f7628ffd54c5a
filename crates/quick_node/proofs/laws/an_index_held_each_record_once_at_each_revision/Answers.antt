use Rattle.quick_node.proofs.Onces.{covers_at, are_left}
use Rattle.quick_node.proofs.laws.an_index_held_each_record_once_at_each_revision.Goals as goal

pub returns : goal.returns
returns c = λ kept revision entries log is index. (covers_at revision entries log is index.stands.legal, are_left kept entries log index revision)
