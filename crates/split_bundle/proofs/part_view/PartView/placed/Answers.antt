use Rattle.std.proofs.Common.{sym}
use Rattle.std.specs.Prelude.{length}
use Rattle.split_bundle.specs.Documents.{placed_bytes}
use Rattle.split_bundle.specs.Files.{file_bytes}
use Rattle.split_bundle.specs.DocLending.{starts_place, doc_place}
use Rattle.split_bundle.proofs.DocsLent.{doc_within, placed_lent}
use Rattle.split_bundle.proofs.DocsFit.{placed_fits}
use Rattle.split_bundle.proofs.WholeFiles.{placed_there}
use Rattle.split_bundle.proofs.part_view.PartView.placed.Goals as goal

pub returns-clause-only : goal.returns-clause-only
returns-clause-only c documents p d part here =
    placed_lent c.args.schema.now documents p part.is_split c.args.self.now.footer.layout part.footer.layout c.args.self.now.pieces part.pieces c.args.doc d here c.args.self.now.footer.bytes part.footer.bytes c.placed_in.result
    (rw (sym c.as_slice-pieces.ensures, sym c.bytes-footer.ensures) c.placed_in.ensures)

pub returns-clause-there : goal.returns-clause-there
returns-clause-there c documents p d part all here =
    let within = doc_within c.args.schema.now documents p part.is_split c.args.self.now.footer.layout part.footer.layout c.args.self.now.pieces part.pieces c.args.doc d here in
    placed_there (file_bytes p) c.args.self.now.pieces (starts_place c.args.doc) (doc_place p documents c.args.doc) (length (placed_bytes p.partitions d)) d c.placed_in.result within.0 within.1 all
    (returns-clause-only c documents p d part here)

pub returns-clause-of_schema : goal.returns-clause-of_schema
returns-clause-of_schema c = placed_fits c.args.schema.now c.args.self.now.footer.layout c.bytes-footer.result.now c.as_slice-pieces.result.now c.args.doc c.placed_in.result c.placed_in.ensures
