use Rattle.std.proofs.Common.{arith, ◌≡◌, [], ◌∷◌, subst, sym, length}
use Rattle.std.proofs.lemmas.Result.{IfOk-weaker}
use Rattle.agg_model.specs.Partials.{IsPart, CountsFor}
use Rattle.agg_model.specs.declared.counts.Counts.{Counts}
use Rattle.agg_model.specs.declared.request.NamedAgg.{NamedAgg}
use Rattle.agg_model.proofs.Parts.{all_zip_at, all_zip_long}
use Rattle.agg_model.proofs.finishing.full_answer.Goals as goal

pub index-requires : goal.index-requires
index-requires c =
    let named : NamedAgg = record { name = c.requires.partial.0; agg = c.args.agg.now } in
    let long : length c.args.partial.now.parts.items ≡ 1 = all_zip_long (λ (n : NamedAgg) (p : Counts). IsPart c.args.partial.now.documents n.agg p) (named ∷ []) c.args.partial.now.parts.items c.requires.partial.1.parts in
    omega arith

pub answer-requires-clause-part : goal.answer-requires-clause-part
answer-requires-clause-part c =
    let named : NamedAgg = record { name = c.requires.partial.0; agg = c.args.agg.now } in (
      c.args.partial.now.documents,
      subst (λ (p : Counts). IsPart c.args.partial.now.documents c.args.agg.now p) (sym c.index.ensures)
          (all_zip_at (λ (n : NamedAgg) (p : Counts). IsPart c.args.partial.now.documents n.agg p) (named ∷ []) c.args.partial.now.parts.items 0 named c.index.result.now c.requires.partial.1.parts (omega arith)),
    )

pub returns : goal.returns
returns c =
    IfOk-weaker c.answer.result _ _
    (λ r h name documents stands.
    let named : NamedAgg = record { name = name; agg = c.args.agg.now } in
    h documents (subst (λ (p : Counts). CountsFor c.args.agg.now p documents) (sym c.index.ensures)
    (all_zip_at (λ (n : NamedAgg) (p : Counts). CountsFor n.agg p documents) (named ∷ []) c.args.partial.now.parts.items 0 named c.index.result.now stands.parts (omega arith))))
    c.answer.ensures
