use Rattle.std.proofs.Common.{◌≡◌, ◌∙◌, ℕ, ◌<◌, ◌⊎◌, List, inl, inr, ap, length, sym, subst, arith}
use Rattle.std.specs.List.{All}
use Rattle.query_ast.specs.Sought.{view}
use Rattle.doc_sets.specs.Asking.{AsksLookups}
use Rattle.doc_sets.specs.Faults.{LacksPart}
use Rattle.doc_sets.specs.declared.dictionary_lookup.Lookup.{Lookup}
use Rattle.doc_sets.proofs.Causes.{cause_wider}
use Rattle.doc_tallies.specs.Causes.{AsksField}
use Rattle.doc_tallies.specs.Near.{shown}
use Rattle.doc_tallies.specs.Orders.{sort_field}
use Rattle.leaf_search.specs.Answers.{AsksTimes, passes}
use Rattle.leaf_search.specs.Asks.{lookups_of}
use Rattle.leaf_search.specs.Numbers.{numbers_of}
use Rattle.leaf_search.specs.Shown.{TellsShown, shown_of}
use Rattle.leaf_search.proofs.LeafSteps.{faulted, handed, positive}
use Rattle.leaf_search.proofs.ShownParts.{Says, few_false, few_true, lookups_all, many_false, none_shown, when_true}
use Rattle.leaf_search.proofs.shown.shown_documents.Goals as goal

pub returns-then-request-eq0 : goal.returns-then-request-eq0
returns-then-request-eq0 c = record {
  only = λ documents p part ask.
      let s = c.args.schema.now in
      let r = c.args.request.now in
      few_true s r documents c.new.result.items (c.new.ensures.items ∙ sym (none_shown s r documents c.if-request-eq0.true)) (omega (arith, ap length c.new.ensures.items));
}

pub returns-in_err-numbers : goal.returns-in_err-numbers
returns-in_err-numbers c = record {
  only = λ documents p part ask.
      let s = c.args.schema.now in
      let r = c.args.request.now in
      let v = c.args.view.now in
      let e = c.in_err-numbers.field-0.0 in
      let asked : ℕ → ℕ → Type 0 = λ at len. AsksLookups v s documents p (lookups_of v.footer s (view r.query)) at len ⊎ AsksTimes v p s r.times at len in
      handed (Says s r documents) (LacksPart (TellsShown v s documents p r) v.pieces) c.from_residual.result e c.from_residual.ensures.1
      (cause_wider asked (TellsShown v s documents p r) v.pieces e
      (λ at len h. elim h [
        | inl x ↦ inl (subst (λ (ls : List Lookup). AsksLookups v s documents p ls at len) (sym (lookups_all v.footer s r c.if-request-eq0.false)) x)
        | inr y ↦ inr (inl y)
      ]) (c.in_err-numbers.ensures.only documents p part ask));
}

pub returns-then-are_many : goal.returns-then-are_many
returns-then-are_many c = record {
  only = λ documents p part ask.
      let s = c.args.schema.now in
      let r = c.args.request.now in
      let found = c.in_ok-numbers.ensures.only documents p part ask in
      let same = c.as_slice.ensures.value ∙ found in
      let many = when_true c.are_many.result ((256 < r.wanted) × (256 < length c.as_slice.result.now)) c.if-are_many.true c.are_many.ensures in
      let counted = part.footer.layout.docs ∙ part.is_split.docs in
      let below : All (λ n. n < length documents) (numbers_of (passes s r) documents) =
      subst (λ (ns : List ℕ). All (λ n. n < length documents) ns) found (subst (λ (k : ℕ). All (λ n. n < k) c.in_ok-numbers.numbers.items) counted c.in_ok-numbers.ensures.below) in
      many_false s r documents below many.0 (subst (λ (ns : List ℕ). 256 < length ns) same many.1);
}

pub returns-in_err-shown : goal.returns-in_err-shown
returns-in_err-shown c = record {
  only = λ documents p part ask.
      let s = c.args.schema.now in
      let r = c.args.request.now in
      let v = c.args.view.now in
      faulted (Says s r documents) (AsksField v p (sort_field r.order)) (TellsShown v s documents p r) v.pieces c.in_err-shown.field-0.0 c.from_residual-in_err-shown.result c.from_residual-in_err-shown.ensures.1
      (λ at len h. inr (inr (positive r.wanted c.if-request-eq0.false, h))) (c.in_err-shown.ensures.only documents p part ask.order);
}

pub returns-then-len-gt-MOST_APART : goal.returns-then-len-gt-MOST_APART
returns-then-len-gt-MOST_APART c = record {
  only = λ documents p part ask.
      let s = c.args.schema.now in
      let r = c.args.request.now in
      let items = c.in_ok-shown.shown.items in
      let same : items ≡ shown_of s r documents = c.in_ok-shown.ensures.only documents p part ask.order ∙ ap (λ (ns : List ℕ). shown r.order r.wanted documents ns) (c.as_slice-2.ensures.value ∙ c.in_ok-numbers.ensures.only documents p part ask) in
      few_false s r documents items same (omega (arith, c.len.ensures, c.in_ok-shown.shown.ok.0, c.if-len-gt-MOST_APART.true));
}

pub returns : goal.returns
returns c = record {
  only = λ documents p part ask.
      let s = c.args.schema.now in
      let r = c.args.request.now in
      let items = c.in_ok-shown.shown.items in
      let same : items ≡ shown_of s r documents = c.in_ok-shown.ensures.only documents p part ask.order ∙ ap (λ (ns : List ℕ). shown r.order r.wanted documents ns) (c.as_slice-2.ensures.value ∙ c.in_ok-numbers.ensures.only documents p part ask) in
      few_true s r documents items same (omega (arith, c.len.ensures, c.in_ok-shown.shown.ok.0, c.if-len-gt-MOST_APART.false));
}
