use Rattle.std.proofs.Common.{◌≡◌, ◌∙◌, [], ◌∷◌, Bool, false, MatchResult, ap, if◌then◌else◌, sym, subst}
use Rattle.query_ast.specs.Meaning.{between}
use Rattle.doc_value.specs.Documents.{values_in}
use Rattle.split_bundle.specs.Keys.{field_key}
use Rattle.doc_sets.specs.Asking.{LacksLookups}
use Rattle.doc_sets.specs.Faults.{LacksPart}
use Rattle.doc_sets.specs.Ranged.{by_column}
use Rattle.doc_sets.specs.Sets.{IsSetOf}
use Rattle.doc_sets.specs.Walks.{AsksWalk, range_of}
use Rattle.doc_sets.specs.declared.dictionary_lookup.Lookup.TheVariants.{Values, Walk}
use Rattle.doc_sets.specs.declared.wanted.Wanted.TheVariants.{Within}
use Rattle.doc_sets.proofs.Looked.{walk_lacks_looked, wider_result}
use Rattle.doc_sets.proofs.value_columns.range_documents.Goals as goal

pub returns-else-goes_by_column-clause-only : goal.returns-else-goes_by_column-clause-only
returns-else-goes_by_column-clause-only c = λ documents p is on ordered.
    let v = c.args.part.now in
    let s = c.args.schema.now in
    let n = c.args.number in
    let f = c.args.field.now in
    let range = range_of f.kind c.args.low.now c.args.high.now in
    let key = field_key n [] in
    let found = IsSetOf (λ d. between c.args.low.now c.args.high.now (values_in d n)) documents in
    let by : by_column v.footer n f ≡ false = ap (λ x. by_column x n f) (sym c.footer.ensures) ∙ (sym c.goes_by_column.ensures ∙ c.if-goes_by_column.false) in
    subst (λ (b : Bool). MatchResult c.walked_range.result found (LacksLookups v s documents p ((if b then Values n range else Walk key (Within range)) ∷ []))) (sym by)
    (wider_result found (LacksPart (AsksWalk v s documents p key (Within range)) v.pieces) (LacksLookups v s documents p (Walk key (Within range) ∷ [])) c.walked_range.result
    (walk_lacks_looked v s documents p key (Within range)) (c.walked_range.ensures.only s documents p is c.requires.field on ordered))
