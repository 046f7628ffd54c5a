use Rattle.root_search.proofs.Unread.{said_of_all}
use Rattle.root_search.proofs.Wholes.{said_over_found}
use Rattle.root_search.proofs.part_answers.answer_over.Goals as goal

pub returns-in-Ok-clause-only : goal.returns-in-Ok-clause-only
returns-in-Ok-clause-only g c = λ search lists documents asks asked files few found.
    said_over_found c.args.schema.now search c.args.ask.now lists documents c.in-Ok.answer c.shown.result found (c.in-Ok.ensures.only lists files few asked) (c.shown.ensures.only search documents asks)

pub returns-in-Ok-clause-said : goal.returns-in-Ok-clause-said
returns-in-Ok-clause-said g c = said_of_all c.args.schema.now c.args.ask.now c.args.parts c.in-Ok.answer c.shown.result c.in-Ok.ensures.answered c.shown.ensures.said
