use Rattle.std.proofs.Common.{◌≡◌, ◌∙◌, ◌∷◌, ℕ, List, [], true, ap, subst, nat_eq}
use Rattle.std.specs.List.{starts_with}
use Rattle.query_ast.specs.FieldTokens.{prefix_text}
use Rattle.split_bundle.specs.Keys.{field_key}
use Rattle.doc_sets.specs.Reads.{ReadsAll}
use Rattle.doc_sets.specs.declared.dictionary_lookup.Lookup.TheVariants.{Walk}
use Rattle.doc_sets.specs.declared.wanted.Wanted.TheVariants.{Each}
use Rattle.doc_sets.proofs.ReadLookups.{no_memory}
use Rattle.doc_sets.proofs.ReadWalks.{walked_reads}
use Rattle.doc_sets.proofs.TermWalks.{begun_keeps}
use Rattle.doc_sets.proofs.WalkLaws.{prefix_walk}
use Rattle.doc_sets.proofs.key_walks.prefix_documents.Goals as goal

pub returns-clause-only : goal.returns-clause-only
returns-clause-only c = λ s documents p is got on kind.
    let n = c.args.number in
    let f = c.args.field.now in
    let u = prefix_text f c.args.text.now in
    let key : c.deref.result.now ≡ field_key n u = c.deref.ensures.value ∙ (c.in_ok-prefix.ensures ∙ ap (field_key n) (c.as_slice.ensures ∙ c.in_ok-folded.ensures)) in
    prefix_walk c.args.part.now s documents p is n f c.requires.number got on u c.deref.result.now c.walk_documents.result kind key
    (c.walk_documents.ensures.only s documents p is (λ k h. begun_keeps s n f u k got (subst (λ pre. starts_with nat_eq k pre ≡ true) key h)))

pub returns-clause-reads : goal.returns-clause-reads
returns-clause-reads c =
    let v = c.args.part.now in
    let n = c.args.number in
    let f = c.args.field.now in
    let u = prefix_text f c.args.text.now in
    let key : c.deref.result.now ≡ field_key n u = c.deref.ensures.value ∙ (c.in_ok-prefix.ensures ∙ ap (field_key n) (c.as_slice.ensures ∙ c.in_ok-folded.ensures)) in
    subst (λ (k : List ℕ). ReadsAll v (Walk k Each ∷ []) c.walk_documents.result) key (walked_reads v f.positions c.deref.result.now Each c.walk_documents.result c.walk_documents.ensures.exact)

pub returns-in_err-folded-clause-reads : goal.returns-in_err-folded-clause-reads
returns-in_err-folded-clause-reads c = no_memory c.args.part.now (Walk (field_key c.args.number (prefix_text c.args.field.now c.args.text.now)) Each ∷ []) c.from_residual.result c.in_err-folded.field-0.0 c.from_residual.ensures.1

pub returns-in_err-prefix-clause-reads : goal.returns-in_err-prefix-clause-reads
returns-in_err-prefix-clause-reads c = no_memory c.args.part.now (Walk (field_key c.args.number (prefix_text c.args.field.now c.args.text.now)) Each ∷ []) c.from_residual-in_err-prefix.result c.in_err-prefix.field-0.0 c.from_residual-in_err-prefix.ensures.1
