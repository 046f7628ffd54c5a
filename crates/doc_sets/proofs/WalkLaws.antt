-- What a walk finds is what a prefix or a range asks for.
use Rattle.std.proofs.Common.{◌≡◌, ℕ, ◌<◌, Bool, true, false, ◌&&◌, List, [], nat_eq, slice_get, Some, Result, MatchResult, refl, sym, ◌∙◌, subst, arith}
use Rattle.std.specs.List.{starts_with}
use Rattle.doc_value.specs.declared.schema.Field.{Field}
use Rattle.doc_value.specs.declared.schema.Schema.{Schema}
use Rattle.doc_value.specs.Documents.{IsOfSchema, values_in}
use Rattle.query_ast.specs.declared.query.Edge.{Edge}
use Rattle.query_ast.specs.Meaning.{is_text, some_has_prefix, between}
use Rattle.query_ast.specs.Queries.{has_order}
use Rattle.split_bundle.specs.declared.placed.Placed.{Placed}
use Rattle.split_bundle.specs.declared.part_view.PartView.{PartView}
use Rattle.split_bundle.specs.Files.{Parts}
use Rattle.split_bundle.specs.Keys.{Occurrence, field_key, keys_of}
use Rattle.doc_sets.specs.declared.bits.DocBits.{DocBits}
use Rattle.doc_sets.specs.declared.leaf_error.LeafError.{LeafError}
use Rattle.doc_sets.specs.declared.wanted.NumberRange.{NumberRange}
use Rattle.doc_sets.specs.declared.wanted.Wanted.{Wanted}
use Rattle.doc_sets.specs.declared.wanted.Wanted.TheVariants.{Each, Within}
use Rattle.doc_sets.specs.Asked.{such, begins}
use Rattle.doc_sets.specs.Faults.{LacksPart}
use Rattle.doc_sets.specs.Needed.{IsSearched}
use Rattle.doc_sets.specs.Sets.{IsSetOf}
use Rattle.doc_sets.specs.Values.{AllHave64, EdgeHas64}
use Rattle.doc_sets.specs.Walks.{AsksWalk, is_walked, range_of}
use Rattle.doc_sets.proofs.FieldKeys.{such_alike}
use Rattle.doc_sets.proofs.Prefixes.{prefix_is_begins}
use Rattle.doc_sets.proofs.Ranges.{range_is_such}
use Rattle.doc_sets.proofs.Runs.{all_both}
use Rattle.doc_sets.proofs.SetLemmas.{gives_same}
use Rattle.doc_sets.proofs.Steps.{kinds_in, texts_in}

and_true : (a : Bool) → a && true ≡ a
and_true true = refl
and_true false = refl

each_walked : (prefix : List ℕ) (os : List Occurrence) → such (is_walked prefix Each) os ≡ begins prefix os
each_walked prefix os = such_alike (is_walked prefix Each) (λ key. starts_with nat_eq key prefix) os (λ key. and_true (starts_with nat_eq key prefix))

module _ (v : PartView) (s : Schema) (ds : List Placed) (p : Parts) (is : IsSearched v s ds p) (n : ℕ) (f : Field) (lt : n < 256) (got : slice_get s.fields n ≡ Some f) (on : f.indexed ≡ true) where
  abbrev Found : List ℕ → Wanted → Result DocBits LeafError → Type 0
  Found prefix w r = MatchResult r (IsSetOf (λ d. such (is_walked prefix w) (keys_of s d)) ds) (LacksPart (AsksWalk v s ds p prefix w) v.pieces)

  pub prefix_walk : (u prefix : List ℕ) (r : Result DocBits LeafError) → is_text f.kind ≡ true → prefix ≡ field_key n u → Found prefix Each r
      → MatchResult r (IsSetOf (λ d. some_has_prefix f u (values_in d n)) ds) (LacksPart (AsksWalk v s ds p (field_key n u) Each) v.pieces)
  prefix_walk u prefix r kind same h =
      let P : LeafError → Type 0 = LacksPart (AsksWalk v s ds p (field_key n u) Each) v.pieces in
      gives_same (λ d. IsOfSchema s d.doc) P P r (λ d. such (is_walked (field_key n u) Each) (keys_of s d)) (λ d. some_has_prefix f u (values_in d n)) ds is.part.is_split.are_documents.of_schema
      (λ d of_schema. each_walked (field_key n u) (keys_of s d.doc) ∙ sym (prefix_is_begins s n f u d.doc got (omega (arith, lt)) on (texts_in s n f d.doc got kind of_schema)))
      (λ e cause. cause) (subst (λ k. Found k Each r) same h)

  pub range_walk : (low high : Edge) (prefix : List ℕ) (range : NumberRange) (r : Result DocBits LeafError) → has_order f.kind ≡ true → EdgeHas64 low → EdgeHas64 high → prefix ≡ field_key n [] → range ≡ range_of f.kind low high → Found prefix (Within range) r
      → MatchResult r (IsSetOf (λ d. between low high (values_in d n)) ds) (LacksPart (AsksWalk v s ds p (field_key n []) (Within (range_of f.kind low high))) v.pieces)
  range_walk low high prefix range r ordered low_fits high_fits same is_range h =
      let w : Wanted = Within (range_of f.kind low high) in
      let P : LeafError → Type 0 = LacksPart (AsksWalk v s ds p (field_key n []) w) v.pieces in
      gives_same (λ d. IsOfSchema s d.doc × AllHave64 (values_in d.doc n)) P P r (λ d. such (is_walked (field_key n []) w) (keys_of s d)) (λ d. between low high (values_in d n)) ds
      (all_both (λ d. IsOfSchema s d.doc) (λ d. AllHave64 (values_in d.doc n)) ds is.part.is_split.are_documents.of_schema (is.typed n))
      (λ d known. range_is_such f.kind low high n (omega (arith, lt)) ordered low_fits high_fits s f d.doc got on (kinds_in s n f d.doc got known.0) known.1)
      (λ e cause. cause) (subst (λ k. Found k w r) same (subst (λ x. Found prefix (Within x) r) is_range h))
