use Rattle.std.proofs.Common.{◌≡◌, ◌∷◌, [], ◌++◌, Some, None, arith, rules, ◌∙◌, sym, ap}
use Rattle.std.proofs.lemmas.Str.Pattern.{split_parts}
use Rattle.search_api.specs.Kinds.{cut}
use Rattle.search_api.proofs.Cutting.{cut_step, cut-one}
use Rattle.search_api.proofs.kinds.cut.Goals as goal

pub loop-path-preserved : goal.loop-path-preserved
loop-path-preserved c =
    let parts = split_parts 44 c.loop-path.left.now (Some (c.in-Some.path, c.in-Some.rest)) c.in-Some.ensures.cases (omega arith) in
    let step = cut_step c.args.text.now c.loop-path.left.now c.in-Some.path.now c.in-Some.rest.now c.loop-path.paths parts.0 parts.1 c.loop-path.invariant.cuts in
    let pushed : c.push.new.self ≡ c.loop-path.paths ++ c.in-Some.path.now ∷ [] = cc (c.in_ok-push.ensures.ok, c.in_ok-from_str.ensures) in
    record { cuts = step ∙ sym (ap (λ ps. ps ++ cut c.in-Some.rest.now) pushed); is_text = search rules }

pub returns : goal.returns
returns c =
    let lacks = split_parts 44 c.loop-path.left.now None c.in_default.ensures.cases (omega arith) in
    let one = cut-one c.loop-path.left.now lacks in
    let cuts = c.loop-path.invariant.cuts in
    cc (c.in_ok-push-2.ensures.ok, c.in_ok-from_str-2.ensures)
