-- A view of a split can be searched.
use Rattle.std.proofs.Common.{ℤ, pos, negsuc, ◌^◌, ◌<◌, List, [], ◌∷◌, arith, w64}
use Rattle.std.specs.List.{AllByRecursion}
use Rattle.std.specs.Int.RustNames.{FitsSigned}
use Rattle.byte_fields.specs.Spelling.{zigzag}
use Rattle.doc_value.specs.declared.schema.Field.{Field}
use Rattle.doc_value.specs.declared.schema.Schema.{Schema}
use Rattle.doc_value.specs.declared.doc.Value.{Value}
use Rattle.doc_value.specs.declared.doc.Value.TheVariants as values
use Rattle.query_ast.specs.Meaning.{tokens_in}
use Rattle.doc_value.specs.Documents.{values_in}
use Rattle.split_bundle.specs.declared.placed.Placed.{Placed}
use Rattle.split_bundle.specs.declared.part_view.PartView.{PartView}
use Rattle.split_bundle.specs.Files.{Parts}
use Rattle.split_bundle.specs.Held.{IsHeldValue}
use Rattle.split_bundle.specs.Lending.{IsPartOf}
use Rattle.split_bundle.specs.Splits.{max_weight}
use Rattle.split_bundle.proofs.KeyCounts.{few_blocks}
use Rattle.split_bundle.proofs.Light.{near_tokens, held_values}
use Rattle.split_bundle.proofs.TokenPlaces.{AreBelow}
use Rattle.doc_sets.specs.Asked.{AllNear}
use Rattle.doc_sets.specs.Needed.{IsSearched}
use Rattle.doc_sets.specs.Values.{AllHave64}
use Rattle.doc_sets.proofs.TermWalks.{all_map}

near_of : (f : Field) (vs : List Value) → AllByRecursion (λ v. AreBelow max_weight (tokens_in f v)) vs → AllNear f vs
near_of f [] h = tt
near_of f (v ∷ vs) h = (all_map (λ t. t.position < max_weight) (λ t. t.position < 2147483648) (tokens_in f v) (λ t lt. omega (arith, lt)) h.0, near_of f vs h.1)

signed_fits : (z : ℤ) → zigzag z < 2 ^ 64 → FitsSigned w64 z
signed_fits (pos n) h = omega (arith, h)
signed_fits (negsuc n) h = omega (arith, h)

typed_of : (vs : List Value) → AllByRecursion IsHeldValue vs → AllHave64 vs
typed_of [] h = tt
typed_of (values.Text t ∷ vs) h = (tt, typed_of vs h.1)
typed_of (values.I64 z ∷ vs) h = (signed_fits z h.0, typed_of vs h.1)
typed_of (values.U64 n ∷ vs) h = (h.0, typed_of vs h.1)
typed_of (values.Bool b ∷ vs) h = (tt, typed_of vs h.1)
typed_of (values.Datetime z ∷ vs) h = (signed_fits z h.0, typed_of vs h.1)

pub searched : (v : PartView) (s : Schema) (ds : List Placed) (p : Parts) → IsPartOf v s ds p → IsSearched v s ds p
searched v s ds p part = record {
  part = part;
  near = λ n f got. all_map (λ d. AllByRecursion (λ v. AreBelow max_weight (tokens_in f v)) (values_in d.doc n)) (λ d. AllNear f (values_in d.doc n)) ds (λ d h. near_of f (values_in d.doc n) h) (near_tokens s ds part.is_split.are_documents n f);
  typed = λ n. all_map (λ d. AllByRecursion IsHeldValue (values_in d.doc n)) (λ d. AllHave64 (values_in d.doc n)) ds (λ d h. typed_of (values_in d.doc n) h) (held_values s ds part.is_split.are_documents n);
  few_blocks = few_blocks v s ds p part;
}
