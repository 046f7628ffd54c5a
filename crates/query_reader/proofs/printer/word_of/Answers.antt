use Rattle.std.proofs.Common.{rules, ◌≡◌, ◌∙◌, IsUtf8, subst, sym}
use Rattle.std.proofs.lemmas.Result.{IfOk-weaker}
use Rattle.query_reader.specs.Printed.{word_text}
use Rattle.query_reader.proofs.Utf8.{word_utf8}
use Rattle.query_reader.proofs.printer.word_of.Goals as goal

pub returns : goal.returns
returns c =
    let bytes : c.as_slice.result.now ≡ word_text c.args.text.now = search rules in
    IfOk-weaker c.as_text.result _ _ (λ t same. same (subst IsUtf8 (sym bytes) (word_utf8 c.args.text.now c.utf8.text)) ∙ bytes) c.as_text.ensures.same
