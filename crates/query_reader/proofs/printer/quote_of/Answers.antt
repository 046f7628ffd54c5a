use Rattle.std.proofs.Common.{rules, ◌≡◌, ◌∙◌, IsUtf8, subst, sym}
use Rattle.std.proofs.lemmas.Result.{IfOk-weaker}
use Rattle.query_reader.specs.Printed.{quote_text}
use Rattle.query_reader.proofs.Utf8.{quote_utf8}
use Rattle.query_reader.proofs.printer.quote_of.Goals as goal

pub returns : goal.returns
returns c =
    let bytes : c.as_slice.result.now ≡ quote_text c.args.text.now = search rules in
    IfOk-weaker c.as_text.result _ _ (λ t same. same (subst IsUtf8 (sym bytes) (quote_utf8 c.args.text.now c.utf8.text)) ∙ bytes) c.as_text.ensures.same
