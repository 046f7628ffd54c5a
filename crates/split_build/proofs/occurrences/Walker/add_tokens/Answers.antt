use Rattle.std.proofs.Common.{◌≡◌, ◌∙◌, ◌<◌, ◌^◌, ℕ, List, [], ◌∷◌, ap, subst}
use Rattle.std.specs.List.{AllByRecursion}
use Rattle.std.proofs.lemmas.List.{nil_from_length}
use Rattle.text_tokens.specs.declared.tokens.Token.{Token}
use Rattle.split_bundle.specs.Keys.{field_key, value_place, of_tokens}
use Rattle.split_build.specs.Said.{in_document}
use Rattle.split_build.proofs.WalkLemmas.{walked_start, walked_step, walked_end, adds_said}
use Rattle.split_build.proofs.occurrences.Walker.add_tokens.Goals as goal

pub loop-token-init : goal.loop-token-init
loop-token-init c = record { positions = c.requires.positions; walked = λ s kept. walked_start c.args.terms.now s (in_document c.args.document (of_tokens c.args.number c.args.value c.args.tokens.now)) }

pub loop-token-preserved : goal.loop-token-preserved
loop-token-preserved c =
    let is = c.in-Some.ensures.cases.0 in
    let token = c.in-Some.token.now in
    let key : c.deref.result.now ≡ field_key c.args.number c.in-Some.token.now.text = c.deref.ensures.value ∙ c.in_ok-put_key.ensures ∙ ap (λ (t : List ℕ). field_key c.args.number t) c.as_slice.ensures in
    record {
      positions = (subst (λ (ts : List Token). AllByRecursion (λ (t : Token). t.position < 2 ^ 32) ts) c.in-Some.ensures.cases.0 c.loop-token.invariant.positions).1;
      walked = λ s kept.
          walked_step c.args.terms.now c.loop-token.terms c.add.new.self s
          (record { key = field_key c.args.number c.in-Some.token.now.text; document = c.args.document; place = value_place c.args.value c.in-Some.token.now.position } ∷ [])
          (in_document c.args.document (of_tokens c.args.number c.args.value c.in-Some.behind.now)) (in_document c.args.document (of_tokens c.args.number c.args.value c.loop-token.rest.now))
          (in_document c.args.document (of_tokens c.args.number c.args.value c.args.tokens.now)) (ap (λ (ts : List Token). in_document c.args.document (of_tokens c.args.number c.args.value ts)) c.in-Some.ensures.cases.0)
          (c.loop-token.invariant.walked s kept)
          (adds_said c.loop-token.terms c.add.new.self s c.args.kept c.deref.result.now (field_key c.args.number c.in-Some.token.now.text) c.args.document c.place_of-place.result (value_place c.args.value c.in-Some.token.now.position)
          key c.place_of-place.ensures (kept c.in-Some.token.now.text) (c.in_ok-add.ensures s));
    }

pub returns : goal.returns
returns c = λ s kept.
    walked_end c.args.terms.now c.loop-token.terms s (in_document c.args.document (of_tokens c.args.number c.args.value c.loop-token.rest.now)) (in_document c.args.document (of_tokens c.args.number c.args.value c.args.tokens.now))
    (ap (λ (ts : List Token). in_document c.args.document (of_tokens c.args.number c.args.value ts)) (nil_from_length c.loop-token.rest.now c.in_default.ensures.cases)) (c.loop-token.invariant.walked s kept)
