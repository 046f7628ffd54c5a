use Rattle.std.specs.Prelude.{⊤}
use Rattle.split_merge.specs.Reading.{document_of}
use Rattle.split_merge.proofs.KeepLemmas.{none_read, unless_not}
use Rattle.split_merge.proofs.keeping.take_next.Goals as goal

pub returns-then-dropped-clause-exact : goal.returns-then-dropped-clause-exact
returns-then-dropped-clause-exact c = λ before h known. (before, none_read c.args.dropped before _ c.if-dropped.true, h)

pub returns-clause-exact : goal.returns-clause-exact
returns-clause-exact c = λ before h known. unless_not {X = ⊤} c.take.new.self c.args.schema.now c.take.result c.args.dropped before (document_of c.args.schema.now c.args.view.now c.args.doc) c.if-dropped.false (c.take.ensures.exact before h known)
