use Rattle.leaf_search.proofs.ReadQueries.{key_plain, set_plain}
use Rattle.std.proofs.Common.{◌≡◌, ◌∙◌, ℕ, Some, length, filter, ap, sym, None}
use Rattle.query_ast.specs.Meaning.{meaning}
use Rattle.query_ast.specs.Sought.{view}
use Rattle.split_bundle.specs.Lists.{posting_list}
use Rattle.doc_sets.specs.Asking.{AsksLookups, LacksLookups}
use Rattle.doc_sets.specs.Faults.{LacksPart}
use Rattle.doc_sets.specs.Needed.{IsBlockFor}
use Rattle.doc_sets.proofs.Causes.{cause_wider}
use Rattle.leaf_search.specs.Asks.{lookups_of}
use Rattle.leaf_search.specs.Counts.{one_key}
use Rattle.leaf_search.proofs.KeyCounts.{by_parts}
use Rattle.leaf_search.proofs.QueryCounts.{block_asked, key_counted}
use Rattle.leaf_search.proofs.query_counts.plain_count.Goals as goal

pub returns-in-Some-clause-only : goal.returns-in-Some-clause-only
returns-in-Some-clause-only c = λ documents p is can.
    let s = c.args.schema.now in
    let v = c.args.part.now in
    let q = view c.args.query.now in
    let key = c.as_slice.result.now in
    let same = c.in_ok-key.ensures in
    let some = c.in-Some.is in
    let at : one_key s q ≡ Some c.in-Some.key = cc in
    let it : one_key s q ≡ Some key = at ∙ ap Some (sym c.as_slice.ensures) in
    by_parts (λ (n : ℕ). n ≡ length (posting_list s documents key)) (λ (n : ℕ). n ≡ length (filter (λ d. meaning s d.doc q) documents)) (LacksPart (IsBlockFor v s documents p key) v.pieces) (LacksLookups v s documents p (lookups_of v.footer s q))
    c.key_count.result
    (λ n e h. h ∙ key_counted s q key documents c.requires is.part.is_split.are_documents it can)
    (λ e cause. cause_wider (IsBlockFor v s documents p key) (AsksLookups v s documents p (lookups_of v.footer s q)) v.pieces e (λ at len b. block_asked v s documents p q key at len it b) cause)
    (c.key_count.ensures.only s documents p is)

pub returns-in-Some-clause-reads : goal.returns-in-Some-clause-reads
returns-in-Some-clause-reads c =
    let s = c.args.schema.now in
    let q = view c.args.query.now in
    let key = c.as_slice.result.now in
    let same = c.in_ok-key.ensures in
    let some = c.in-Some.is in
    let at : one_key s q ≡ Some c.in-Some.key = cc in
    key_plain c.args.part.now s q key c.key_count.result (at ∙ ap Some (sym c.as_slice.ensures)) c.key_count.ensures.reads

pub returns-in-None-clause-reads : goal.returns-in-None-clause-reads
returns-in-None-clause-reads c =
    let s = c.args.schema.now in
    let q = view c.args.query.now in
    let same = c.in_ok-key.ensures in
    let none = c.in-None.is in
    let at : one_key s q ≡ None = cc in
    set_plain c.args.part.now s q c.set_count.result at c.set_count.ensures.reads
