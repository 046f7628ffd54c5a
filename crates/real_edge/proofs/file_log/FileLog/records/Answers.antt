use Rattle.std.proofs.Common.{◌∙◌, sym}
use Rattle.real_edge.specs.Growing.{bytes_of}
use Rattle.real_edge.specs.Lines.{IsMark}
use Rattle.real_edge.proofs.Logs.{some_from, some_at}
use Rattle.real_edge.proofs.file_log.FileLog.records.Goals as goal

pub invariant_of-self : goal.invariant_of-self
invariant_of-self g c = record { places = λ grown told. c.args.self.now.places grown (sym c.settle.ensures.same ∙ told) }

pub invariant_of-self-in_default : goal.invariant_of-self-in_default
invariant_of-self-in_default g c = record { places = λ grown told. c.args.self.now.places grown (sym c.in_ok-size.ensures.same ∙ told) }

pub read_records-requires-clause-start : goal.read_records-requires-clause-start
read_records-requires-clause-start g c =
    some_from (λ files. IsMark (bytes_of files c.args.partition.now) c.before-start.result) (g.G.GrowingFiles.told c.settle.new.self)
    (λ grown told. c.before-start.ensures.mark grown (c.args.self.now.places grown (sym c.in_ok-size.ensures.same ∙ told)))

pub invariant_of-self-in-Break-branch-3 : goal.invariant_of-self-in-Break-branch-3
invariant_of-self-in-Break-branch-3 g c = record { places = λ grown told. c.args.self.now.places grown (sym c.in_ok-size.ensures.same ∙ (sym c.read_records.ensures.same ∙ told)) }

pub invariant_of-self-2 : goal.invariant_of-self-2
invariant_of-self-2 g c = record {
  places = λ grown told.
      let before = sym c.in_ok-records.ensures.same ∙ told in
      c.keep.ensures grown (c.args.self.now.places grown (sym c.in_ok-size.ensures.same ∙ before))
      (some_at (λ files. IsMark (bytes_of files c.args.partition.now) c.in_ok-records.behind) (g.G.GrowingFiles.told c.settle.new.self) grown before c.in_ok-records.ensures.mark);
}
