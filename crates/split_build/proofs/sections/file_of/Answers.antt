use Rattle.std.proofs.Common.{◌∙◌, arith}
use Rattle.std.proofs.lemmas.Result.{IfOk-weaker}
use Rattle.split_build.specs.Filed.{parts_of, IsFileOf}
use Rattle.split_build.proofs.BuiltLemmas.{is_split}
use Rattle.split_build.proofs.sections.file_of.Goals as goal

pub write_parts-requires : goal.write_parts-requires
write_parts-requires c = c.requires

pub returns : goal.returns
returns c = λ ds logs many.
    let parts = c.in_ok-parts.ensures.parts ds logs in
    IfOk-weaker c.write_file.result (λ f. IsFileOf (parts_of c.in_ok-parts.parts parts.terms.keys) f.items) _
    (λ f is. is_split c.args.schema.now ds c.in_ok-parts.parts f.items parts logs.are_documents (c.in_ok-parts.ensures.count ∙ many) is (omega (arith, f.ok.0, f.small))) (c.write_file.ensures parts.terms.keys parts.terms.count)
