use Rattle.std.proofs.Common.{◌≡◌, ◌∙◌, [], ap, replicate, List, ℕ}
use Rattle.agg_nested.specs.Spots.{spots_in}
use Rattle.agg_nested.specs.declared.answer.NamedAnswer.{NamedAnswer}
use Rattle.agg_nested.proofs.NothingNested.{none_each, some_nested, if_ok}
use Rattle.agg_nested.proofs.nested_finishing.each_inner.Goals as goal

no_buckets : {a b : ℕ} → a ≡ b → ◌≡◌ {A = List (List NamedAnswer)} (replicate a []) (replicate b [])
no_buckets e = ap (λ n. replicate n []) e

pub inner_answers-requires-clause-known : goal.inner_answers-requires-clause-known
inner_answers-requires-clause-known c =
    (c.requires.known.0, c.requires.known.1.groups (some_nested c.is_empty.result c.args.asked.now.nested c.is_empty.ensures.1 c.if-is_empty.false), c.requires.known.2)

pub returns-then-is_empty : goal.returns-then-is_empty
returns-then-is_empty c =
    if_ok c.no_answers.result
    (λ inner is documents h few. (is ∙ no_buckets c.buckets_in.ensures) ∙ (
    none_each c.args.asked.now.agg c.args.asked.now.nested documents (spots_in c.args.answer.now) (c.is_empty.ensures.0 c.if-is_empty.true)))
    c.no_answers.ensures

pub returns : goal.returns
returns c =
    if_ok c.inner_answers.result
    (λ inner is documents h few. is documents (h.groups (some_nested c.is_empty.result c.args.asked.now.nested c.is_empty.ensures.1 c.if-is_empty.false)) few)
    c.inner_answers.ensures
