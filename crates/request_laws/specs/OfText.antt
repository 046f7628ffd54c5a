-- What is refused for what a text asks or counts.
use Rattle.std.specs.Prelude.{Result, Ok, Err}
use Rattle.search_api.specs.declared.reply.Refusal.{Refusal}
use Rattle.search_api.specs.declared.reply.Refusal.TheVariants as refusals
use Rattle.search_api.specs.declared.unanswered.Unanswered.{Unanswered}
use Rattle.search_api.specs.declared.unanswered.Unanswered.TheVariants.{Refused, Memory}

-- what a text asks is refused, or what it counts has too many buckets: nothing failed
abbrev pub IsOfText : Refusal → Type 0
IsOfText refusals.NotJson = Unit {0}
IsOfText (refusals.UnknownKey name) = Unit {0}
IsOfText (refusals.WrongKind name) = Unit {0}
IsOfText (refusals.MissingKey name) = Unit {0}
IsOfText (refusals.TooManyHits wanted) = Unit {0}
IsOfText (refusals.UnknownField name) = Unit {0}
IsOfText (refusals.NotFast field) = Unit {0}
IsOfText refusals.NoTimestampField = Unit {0}
IsOfText (refusals.Syntax place) = Unit {0}
IsOfText (refusals.TooDeep place) = Unit {0}
IsOfText (refusals.NotIndexed place) = Unit {0}
IsOfText (refusals.BadValue place) = Unit {0}
IsOfText (refusals.NoDefaultField place) = Unit {0}
IsOfText (refusals.NoPositions place) = Unit {0}
IsOfText (refusals.BadInterval name) = Unit {0}
IsOfText (refusals.TooManyBuckets count) = Unit {0}
IsOfText (refusals.Expired planned_at now) = ⊥
IsOfText (refusals.StoreFault before after) = ⊥
IsOfText (refusals.Missing key) = ⊥
IsOfText (refusals.Corrupt key) = ⊥
IsOfText (refusals.Foreign key) = ⊥
IsOfText (refusals.TooManyTasks count) = ⊥
IsOfText refusals.Full = ⊥

-- where nothing came of it, it was refused for that, or there was no memory
abbrev pub OfText : {A : Type 0} → Result A Unanswered → Type 0
OfText (Ok x) = Unit {0}
OfText (Err (Refused refusal)) = IsOfText refusal
OfText (Err (Memory e)) = Unit {0}
