use Rattle.std.proofs.Common.{true, [], refl, arith}
use Rattle.doc_sets.proofs.SeekLaws.{can_first}
use Rattle.doc_sets.proofs.places.vacant_cursor.Goals as goal

pub returns : goal.returns
returns c = can_first [] c.over.result
    (c.over.ensures.only true [] [] [] (record { rising = tt; fits = tt; size = omega arith; positions_size = omega arith }) refl refl (λ told. refl)) c.over.ensures.given
