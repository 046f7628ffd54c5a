use Rattle.std.proofs.Common.{rules, ◌≡◌, ◌∙◌, ap, subst, sym}
use Rattle.std.proofs.lemmas.Result.{IfOk-weaker}
use Rattle.std.specs.Fmt.{signed_decimal}
use Rattle.clock_time.specs.Datetimes.{IsTimestampSecond, IsShownAt}
use Rattle.query_reader.specs.Printed.{IsPlainSecond, IsSecondText, plain_second, dated_second, other_second, quote_text}
use Rattle.query_reader.proofs.printer.second_of.Goals as goal

pub returns-then-is_plain : goal.returns-then-is_plain
returns-then-is_plain c =
    let plain : IsPlainSecond c.args.seconds = search rules in
    let same : c.from_string.result ≡ signed_decimal c.args.seconds = search rules in
    subst (IsSecondText c.args.seconds) (sym same) (plain_second plain)

pub returns-then-is_dated : goal.returns-then-is_dated
returns-then-is_dated c =
    let wide : IsPlainSecond c.args.seconds → ⊥ = search rules in
    let dated : IsTimestampSecond c.args.seconds = search rules in
    let t = c.in_ok-date.ensures.text in
    let shown : IsShownAt c.args.seconds t.0 = search rules in
    IfOk-weaker c.quote_of.result _ _ (λ q is. subst (IsSecondText c.args.seconds) (sym (is ∙ ap quote_text (c.as_str.ensures.value ∙ t.2))) (dated_second wide t.0 shown dated)) c.quote_of.ensures

pub returns : goal.returns
returns c =
    let none : IsTimestampSecond c.args.seconds → ⊥ = search rules in
    let same : c.from_string-2.result ≡ signed_decimal c.args.seconds = search rules in
    subst (IsSecondText c.args.seconds) (sym same) (other_second none)
