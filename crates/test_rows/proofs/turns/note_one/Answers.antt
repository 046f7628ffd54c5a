use Rattle.turn_lock.proofs.Places.{rests_new}
use Rattle.test_rows.proofs.turns.note_one.Goals as goal

pub done-requires-clause-rests : goal.done-requires-clause-rests
done-requires-clause-rests g c = rests_new _ _ _
