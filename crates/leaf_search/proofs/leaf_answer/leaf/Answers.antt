use Rattle.leaf_search.proofs.ReadQueries.{evaluated_read, if_evaluated, if_read, key_read}
use Rattle.std.proofs.Common.{◌≡◌, ◌∙◌, [], Some, None, IfOk, length, ap, sym, subst}
use Rattle.agg_nested.specs.Buckets.{IsNestedPartial, documents_counted}
use Rattle.split_bundle.specs.Lists.{posting_list}
use Rattle.doc_sets.specs.Faults.{LacksPart, IsMemory}
use Rattle.doc_sets.specs.Needed.{IsBlockFor}
use Rattle.doc_sets.proofs.Searched.{searched}
use Rattle.leaf_search.specs.Answers.{AsksLeaf, IsAnswerOf}
use Rattle.leaf_search.specs.Counts.{counted_key, read_lookups}
use Rattle.leaf_search.proofs.KeyCounts.{block_memory, by_parts, counted_cause, counts, is_counted, uncounted}
use Rattle.leaf_search.proofs.ShownSuffices.{paged_result}
use Rattle.leaf_search.proofs.Suffices.{needed_result}
use Rattle.leaf_search.proofs.leaf_answer.leaf.Goals as goal

pub returns-in-Some-clause-only : goal.returns-in-Some-clause-only
returns-in-Some-clause-only c = λ documents p part ask.
    let s = c.args.schema.now in
    let r = c.args.request.now in
    let v = c.args.view.now in
    let key = c.as_slice.result.now in
    let same = c.in_ok-key.ensures in
    let some = c.in-Some.is in
    let is : counted_key s r ≡ Some c.in-Some.key = cc in
    let it : counted_key s r ≡ Some key = is ∙ ap Some (sym c.as_slice.ensures) in
    by_parts (λ a. (a.count ≡ length (posting_list s documents key)) × (a.hits ≡ []) × (documents_counted a.partial ≡ a.count)) (IsAnswerOf s r documents) (LacksPart (IsBlockFor v s documents p key) v.pieces) (LacksPart (AsksLeaf v s documents p r) v.pieces)
    c.counted.result
    (λ a e h. is_counted s r documents key a part.is_split.are_documents c.requires.fields ask (counts s r key it) h.0 h.1 h.2 (subst (λ x. IfOk x (λ y. IsNestedPartial r.aggs y.partial)) e c.counted.ensures.partial))
    (λ e cause. counted_cause v s documents p r key e it cause)
    (c.counted.ensures.only s documents p (searched v s documents p part))

pub returns-in-Some-clause-there : goal.returns-in-Some-clause-there
returns-in-Some-clause-there c = λ documents p part all ask.
    let s = c.args.schema.now in
    let r = c.args.request.now in
    let v = c.args.view.now in
    let key = c.as_slice.result.now in
    let same = c.in_ok-key.ensures in
    let some = c.in-Some.is in
    let is : counted_key s r ≡ Some c.in-Some.key = cc in
    let it : counted_key s r ≡ Some key = is ∙ ap Some (sym c.as_slice.ensures) in
    by_parts (λ a. (a.count ≡ length (posting_list s documents key)) × (a.hits ≡ []) × (documents_counted a.partial ≡ a.count)) (IsAnswerOf s r documents) (LacksPart (IsBlockFor v s documents p key) v.pieces) IsMemory
    c.counted.result
    (λ a e h. is_counted s r documents key a part.is_split.are_documents c.requires.fields ask (counts s r key it) h.0 h.1 h.2 (subst (λ x. IfOk x (λ y. IsNestedPartial r.aggs y.partial)) e c.counted.ensures.partial))
    (λ e cause. block_memory v s documents p r key e part all cause)
    (c.counted.ensures.only s documents p (searched v s documents p part))

pub returns-in-None-clause-only : goal.returns-in-None-clause-only
returns-in-None-clause-only c = λ documents p part ask.
    let s = c.args.schema.now in
    let r = c.args.request.now in
    let same = c.in_ok-key.ensures in
    let none = c.in-None.is in
    let is : counted_key s r ≡ None = cc in
    uncounted c.args.view.now s documents p r (IsAnswerOf s r documents) c.evaluated.result is (c.evaluated.ensures.only documents p part ask)

pub returns-in-Some-clause-needed : goal.returns-in-Some-clause-needed
returns-in-Some-clause-needed c = λ documents p blocks lists part ask b l held_blocks held_lists.
    needed_result c.args.view.now c.args.schema.now documents p part (IsAnswerOf c.args.schema.now c.args.request.now documents) c.counted.result c.args.request.now blocks lists b l held_blocks held_lists
    (returns-in-Some-clause-only c documents p part ask)

pub returns-in-None-clause-needed : goal.returns-in-None-clause-needed
returns-in-None-clause-needed c = λ documents p blocks lists part ask b l held_blocks held_lists.
    needed_result c.args.view.now c.args.schema.now documents p part (IsAnswerOf c.args.schema.now c.args.request.now documents) c.evaluated.result c.args.request.now blocks lists b l held_blocks held_lists
    (returns-in-None-clause-only c documents p part ask)

pub returns-in-Some-clause-pages : goal.returns-in-Some-clause-pages
returns-in-Some-clause-pages c = λ documents p blocks listed starts shown part ask b l st sh in_blocks in_listed in_starts in_shown.
    paged_result c.args.view.now c.args.schema.now documents p part c.args.request.now blocks listed starts shown b l st sh (IsAnswerOf c.args.schema.now c.args.request.now documents) c.counted.result in_blocks in_listed in_starts in_shown
    (returns-in-Some-clause-only c documents p part ask)

pub returns-in-None-clause-pages : goal.returns-in-None-clause-pages
returns-in-None-clause-pages c = λ documents p blocks listed starts shown part ask b l st sh in_blocks in_listed in_starts in_shown.
    paged_result c.args.view.now c.args.schema.now documents p part c.args.request.now blocks listed starts shown b l st sh (IsAnswerOf c.args.schema.now c.args.request.now documents) c.evaluated.result in_blocks in_listed in_starts in_shown
    (returns-in-None-clause-only c documents p part ask)

pub returns-in-Some-clause-read : goal.returns-in-Some-clause-read
returns-in-Some-clause-read c =
    let s = c.args.schema.now in
    let r = c.args.request.now in
    let v = c.args.view.now in
    let same = c.in_ok-key.ensures in
    let some = c.in-Some.is in
    let is : counted_key s r ≡ Some c.in-Some.key = cc in
    if_read v (read_lookups v.footer s r) c.counted.result (key_read v s r c.as_slice.result.now c.counted.result (is ∙ ap Some (sym c.as_slice.ensures)) c.counted.ensures.reads)

pub returns-in-Some-clause-faults : goal.returns-in-Some-clause-faults
returns-in-Some-clause-faults c = λ only.
    let s = c.args.schema.now in
    let r = c.args.request.now in
    let v = c.args.view.now in
    let same = c.in_ok-key.ensures in
    let some = c.in-Some.is in
    let is : counted_key s r ≡ Some c.in-Some.key = cc in
    key_read v s r c.as_slice.result.now c.counted.result (is ∙ ap Some (sym c.as_slice.ensures)) c.counted.ensures.reads

pub returns-in-None-clause-read : goal.returns-in-None-clause-read
returns-in-None-clause-read c =
    let s = c.args.schema.now in
    let r = c.args.request.now in
    let same = c.in_ok-key.ensures in
    let none = c.in-None.is in
    let is : counted_key s r ≡ None = cc in
    if_evaluated c.args.view.now s r c.evaluated.result is c.evaluated.ensures.read

pub returns-in-None-clause-faults : goal.returns-in-None-clause-faults
returns-in-None-clause-faults c = λ only.
    let s = c.args.schema.now in
    let r = c.args.request.now in
    let same = c.in_ok-key.ensures in
    let none = c.in-None.is in
    let is : counted_key s r ≡ None = cc in
    evaluated_read c.args.view.now s r c.evaluated.result is (c.evaluated.ensures.faults only)
