use Rattle.std.proofs.Common.{sym}
use Rattle.std.specs.Prelude.{length}
use Rattle.split_bundle.specs.Documents.{placed_bytes}
use Rattle.split_bundle.specs.Files.{file_bytes}
use Rattle.split_bundle.specs.DocLending.{starts_place, doc_place}
use Rattle.split_bundle.proofs.DocsLent.{address_lent, doc_within}
use Rattle.split_bundle.proofs.WholeFiles.{address_there}
use Rattle.split_bundle.proofs.part_view.PartView.address.Goals as goal

pub returns-clause-only : goal.returns-clause-only
returns-clause-only c s documents p d part here =
    address_lent s documents p part.is_split c.args.self.now.footer.layout part.footer.layout c.args.self.now.pieces part.pieces c.args.doc d here c.args.self.now.footer.bytes part.footer.bytes c.address_in.result
    (rw (sym c.as_slice-pieces.ensures, sym c.bytes-footer.ensures) c.address_in.ensures)

pub returns-clause-there : goal.returns-clause-there
returns-clause-there c s documents p d part all here =
    let within = doc_within s documents p part.is_split c.args.self.now.footer.layout part.footer.layout c.args.self.now.pieces part.pieces c.args.doc d here in
    address_there (file_bytes p) c.args.self.now.pieces (starts_place c.args.doc) (doc_place p documents c.args.doc) (length (placed_bytes p.partitions d)) d c.address_in.result within.0 within.1 all
    (returns-clause-only c s documents p d part here)
