use Rattle.std.proofs.Common.{◌≡◌, Ok, Err, refl}
use Rattle.std.specs.Result.{IsOk}
use Rattle.meta_store.specs.Answers.{Answer, handed}
use Rattle.meta_store.specs.Said.{Said}
use Rattle.model_rows.proofs.histories.questions.take.Goals as goal

-- what is handed back is what was handed in, and the entry may come
is_handed : (reading back : Said) (answer : Answer) → Ok back ≡ handed reading answer → (back ≡ reading) × IsOk answer
is_handed reading back (Ok u) e = ((cc), refl)
is_handed reading back (Err refusal) e = cc e

pub apply-requires-clause-may : goal.apply-requires-clause-may
apply-requires-clause-may c =
    let given = is_handed _ _ _ c.in-Ok.ensures in
    rw (given.0, c.in-Ok-reserve.ensures.same) given.1
