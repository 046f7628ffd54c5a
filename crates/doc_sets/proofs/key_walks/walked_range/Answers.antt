use Rattle.std.proofs.Common.{◌≡◌, ◌∙◌, ◌∷◌, ℕ, List, [], true, subst, nat_eq}
use Rattle.std.specs.List.{starts_with}
use Rattle.split_bundle.specs.Keys.{field_key}
use Rattle.doc_sets.specs.Reads.{ReadsAll}
use Rattle.doc_sets.specs.Walks.{range_of}
use Rattle.doc_sets.specs.declared.dictionary_lookup.Lookup.TheVariants.{Walk}
use Rattle.doc_sets.specs.declared.wanted.NumberRange.{NumberRange}
use Rattle.doc_sets.specs.declared.wanted.Wanted.TheVariants.{Within}
use Rattle.doc_sets.proofs.ReadLookups.{no_memory}
use Rattle.doc_sets.proofs.ReadWalks.{walked_reads}
use Rattle.doc_sets.proofs.TermWalks.{begun_keeps}
use Rattle.doc_sets.proofs.WalkLaws.{range_walk}
use Rattle.doc_sets.proofs.key_walks.walked_range.Goals as goal

pub returns-clause-only : goal.returns-clause-only
returns-clause-only c = λ s documents p is got on ordered.
    let n = c.args.number in
    let f = c.args.field.now in
    let key : c.deref.result.now ≡ field_key n [] = c.deref.ensures.value ∙ c.in_ok-prefix.ensures in
    range_walk c.args.part.now s documents p is n f c.requires.number got on c.args.low.now c.args.high.now c.deref.result.now c.between-range.result c.walk_documents.result ordered c.edge_has_64.ensures c.edge_has_64-2.ensures key c.between-range.ensures
    (c.walk_documents.ensures.only s documents p is (λ k h. begun_keeps s n f [] k got (subst (λ pre. starts_with nat_eq k pre ≡ true) key h)))

pub returns-clause-reads : goal.returns-clause-reads
returns-clause-reads c =
    let v = c.args.part.now in
    let f = c.args.field.now in
    let range = range_of f.kind c.args.low.now c.args.high.now in
    let key : c.deref.result.now ≡ field_key c.args.number [] = c.deref.ensures.value ∙ c.in_ok-prefix.ensures in
    let walked = walked_reads v f.positions c.deref.result.now (Within c.between-range.result) c.walk_documents.result c.walk_documents.ensures.exact in
    subst (λ (r : NumberRange). ReadsAll v (Walk (field_key c.args.number []) (Within r) ∷ []) c.walk_documents.result) c.between-range.ensures
    (subst (λ (k : List ℕ). ReadsAll v (Walk k (Within c.between-range.result) ∷ []) c.walk_documents.result) key walked)

pub returns-in_err-prefix-clause-reads : goal.returns-in_err-prefix-clause-reads
returns-in_err-prefix-clause-reads c = no_memory c.args.part.now (Walk (field_key c.args.number []) (Within (range_of c.args.field.now.kind c.args.low.now c.args.high.now)) ∷ []) c.from_residual.result c.in_err-prefix.field-0.0 c.from_residual.ensures.1
