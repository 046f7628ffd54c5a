use Rattle.std.proofs.Common.{◌∙◌, ℕ, List, sym, subst, arith}
use Rattle.doc_value.specs.Documents.{IsOfSchema, values_in}
use Rattle.query_ast.specs.Meaning.{each_stands, phrase_holds}
use Rattle.split_bundle.specs.Keys.{keys_of}
use Rattle.doc_sets.specs.Asked.{AllNear, has_each, has_run}
use Rattle.doc_sets.specs.Faults.{IsMemory}
use Rattle.doc_sets.specs.Needed.{AsksOneOf, AsksPlaces, LacksPlaces, token_keys}
use Rattle.doc_sets.specs.Seeking.{ArePassing}
use Rattle.doc_sets.specs.Sets.{IsSetOf}
use Rattle.doc_sets.proofs.Causes.{handed_on, keys_lack_places}
use Rattle.doc_sets.proofs.Runs.{all_both, run_holds}
use Rattle.doc_sets.proofs.SeekLaws.{memory_lacks}
use Rattle.doc_sets.proofs.SetLemmas.{gives_same, set_same}
use Rattle.doc_sets.proofs.Steps.{places_kept, texts_in}
use Rattle.doc_sets.proofs.phrases.several_documents.Goals as goal

pub returns-clause-only : goal.returns-clause-only
returns-clause-only c = λ s documents p is got on kind kept behind close many.
    let n = c.args.number in
    let f = c.args.field.now in
    let v = c.args.part.now in
    let phrase = c.args.phrase.now in
    let lacks = LacksPlaces v s documents p (token_keys n phrase) in
    let of_schema = is.part.is_split.are_documents.of_schema in
    let candidates = set_same (λ d. IsOfSchema s d.doc) c.in_ok-candidates.candidates (λ d. each_stands f phrase (values_in d n)) (λ d. has_each n phrase (keys_of s d)) documents of_schema
    (λ d h. c.each_by_keys.ensures s n f phrase d.doc got (omega (arith, c.requires.number)) on (texts_in s n f d.doc got kind h)) (c.in_ok-candidates.ensures.only s documents p is got on kind) in
    let keeps = λ (term : List ℕ). places_kept s n f term got ∙ kept in
    let passing = subst (λ cs. ArePassing s documents n phrase cs 0 0) (sym c.deref_mut.ensures.value) (c.in_ok-cursors.ensures.only s documents p is keeps) in
    gives_same (λ d. IsOfSchema s d.doc × AllNear f (values_in d.doc n)) IsMemory lacks c.run_documents.result (λ d. has_run n phrase (keys_of s d)) (λ d. phrase_holds f phrase (values_in d n)) documents
    (all_both (λ d. IsOfSchema s d.doc) (λ d. AllNear f (values_in d.doc n)) documents of_schema (is.near n f got))
    (λ d h. run_holds n f phrase (values_in d.doc n) (keys_of s d.doc) many behind close
    (λ t ts short. c.phrase_by_keys.ensures s n f t ts d.doc got (omega (arith, c.requires.number)) on (texts_in s n f d.doc got kind h.0) h.1 short))
    (λ e h. memory_lacks (AsksOneOf (AsksPlaces v s documents p) (token_keys n phrase)) v.pieces e h)
    (c.run_documents.ensures.only s documents n passing keeps candidates)

pub returns-in_err-candidates-clause-only : goal.returns-in_err-candidates-clause-only
returns-in_err-candidates-clause-only c = λ s documents p is got on kind kept behind close many.
    let n = c.args.number in
    let v = c.args.part.now in
    let phrase = c.args.phrase.now in
    let keys = token_keys n phrase in
    let e = c.in_err-candidates.field-0.0 in
    handed_on (IsSetOf (λ d. phrase_holds c.args.field.now phrase (values_in d n)) documents) (LacksPlaces v s documents p keys) c.from_residual.result e c.from_residual.ensures.1
    (keys_lack_places v s documents p keys e (c.in_err-candidates.ensures.only s documents p is got on kind))

pub returns-in_err-cursors-clause-only : goal.returns-in_err-cursors-clause-only
returns-in_err-cursors-clause-only c = λ s documents p is got on kind kept behind close many.
    let n = c.args.number in
    let f = c.args.field.now in
    let phrase = c.args.phrase.now in
    handed_on (IsSetOf (λ d. phrase_holds f phrase (values_in d n)) documents) (LacksPlaces c.args.part.now s documents p (token_keys n phrase)) c.from_residual-in_err-cursors.result c.in_err-cursors.field-0.0 c.from_residual-in_err-cursors.ensures.1
    (c.in_err-cursors.ensures.only s documents p is (λ term. places_kept s n f term got ∙ kept))
