-- Parts that stand for documents which are read from columns.
use Rattle.std.proofs.Common.{◌≡◌, ℕ, ◌+◌, ◌<◌, List, [], ◌∷◌, ◌++◌, length, take, get_or, slice_get, Some, refl, sym, ◌∙◌, ap, subst, arith, length-append}
use Rattle.std.specs.List.{AllZip}
use Rattle.doc_value.specs.declared.doc.DocField.{DocField}
use Rattle.doc_value.specs.declared.schema.Schema.{Schema}
use Rattle.doc_value.specs.Documents.{IsOfSchema}
use Rattle.agg_nested.specs.Buckets.{PartStands, IsPartFor}
use Rattle.agg_nested.specs.declared.nested_partial.NestedPart.{NestedPart}
use Rattle.agg_nested.specs.declared.request.NestedAgg.{NestedAgg}
use Rattle.split_bundle.specs.Held.{IsHeld}
use Rattle.split_bundle.specs.Splits.{AreDocumentsOf}
use Rattle.split_bundle.specs.declared.placed.Placed.{Placed}
use Rattle.doc_tallies.specs.AggColumns.{AreColumnsFor, HasValuesOf, fields_of}
use Rattle.doc_tallies.specs.Picked.{AllBelow, docs_of, picked}
use Rattle.doc_tallies.specs.declared.field_column.FieldColumn.{FieldColumn}
use Rattle.doc_tallies.proofs.Alike.{part_alike}
use Rattle.doc_tallies.proofs.FieldValues.{each_at}
use Rattle.doc_tallies.proofs.PickedLists.{docs_push, picked_more}
use Rattle.doc_tallies.proofs.TimeValues.{stands}

-- a part stands for so many documents, which have the values that the documents of some numbers have, where all of them are there
pub record IsShown (asked : NestedAgg) (columns : List FieldColumn) (all numbers : List ℕ) (many : ℕ) (part : NestedPart) : Type 0 where
  pub shown : List (List DocField)
  pub stands : PartStands asked part shown
  pub long : length shown ≡ many
  pub alike : (s : Schema) (documents : List Placed) → AreDocumentsOf s documents → AreColumnsFor s documents (fields_of asked) columns → AllBelow (length documents) all
      → AllZip (HasValuesOf (fields_of asked)) (docs_of (picked numbers documents)) shown

pub shown_none : (asked : NestedAgg) (columns : List FieldColumn) (all : List ℕ) (part : NestedPart) → PartStands asked part [] → IsShown asked columns all [] 0 part
shown_none asked columns all part h = record { shown = []; stands = h; long = refl; alike = λ s documents of are below. tt }

-- what a document shows by columns
abbrev pub ShowsAt : List FieldColumn → ℕ → List DocField → Type 0
ShowsAt columns n doc = (s : Schema) (documents : List Placed) (fields : List ℕ) (d : Placed) → AreColumnsFor s documents fields columns → slice_get documents n ≡ Some d → IsOfSchema s d.doc → IsHeld d
    → HasValuesOf fields d.doc doc

zip_push : {A B : Type 0} (P : A → B → Type 0) (xs : List A) (ys : List B) (x : A) (y : B) → AllZip P xs ys → P x y → AllZip P (xs ++ x ∷ []) (ys ++ y ∷ [])
zip_push P [] [] x y h one = (one, tt)
zip_push P [] (b ∷ ys) x y h one = absurd h
zip_push P (a ∷ xs) [] x y h one = absurd h
zip_push P (a ∷ xs) (b ∷ ys) x y h one = (h.0, zip_push P xs ys x y h.1 one)

pub shown_more : (asked : NestedAgg) (columns : List FieldColumn) (numbers : List ℕ) (i : ℕ) (doc : List DocField) (old new : NestedPart) → i < length numbers
    → IsShown asked columns numbers (take i numbers) i old → ShowsAt columns (get_or numbers i 0) doc
    → ((docs : List (List DocField)) → length docs ≡ i → PartStands asked old docs → PartStands asked new (docs ++ doc ∷ []))
    → IsShown asked columns numbers (take (i + 1) numbers) (i + 1) new
shown_more asked columns numbers i doc old new lt h shows step =
    let l : length (h.shown ++ doc ∷ []) ≡ length h.shown + 1 = length-append h.shown (doc ∷ []) in
    record {
      shown = h.shown ++ doc ∷ [];
      stands = step h.shown h.long h.stands;
      long = (let m = h.long in omega (arith, l, m));
      alike = λ s documents of are below.
          let n : ℕ = get_or numbers i 0 in
          let at = stands documents n (below i 0 lt) in
          let d = at.document in
          let fits = each_at (λ (x : Placed). IsOfSchema s x.doc) documents n d of.of_schema at.here in
          let held = each_at IsHeld documents n d of.held at.here in
          let both = zip_push (HasValuesOf (fields_of asked)) (docs_of (picked (take i numbers) documents)) h.shown d.doc doc (h.alike s documents of are below) (shows s documents (fields_of asked) d are at.here fits held) in
          subst (λ (ds : List (List DocField)). AllZip (HasValuesOf (fields_of asked)) ds (h.shown ++ doc ∷ [])) (sym (ap docs_of (picked_more numbers i documents d lt at.here) ∙ docs_push (picked (take i numbers) documents) d)) both;
    }

pub shown_stands : (asked : NestedAgg) (columns : List FieldColumn) (numbers : List ℕ) (many : ℕ) (part : NestedPart) → IsShown asked columns numbers numbers many part
    → (s : Schema) (documents : List Placed) → AreDocumentsOf s documents → AreColumnsFor s documents (fields_of asked) columns → AllBelow (length documents) numbers → PartStands asked part (docs_of (picked numbers documents))
shown_stands asked columns numbers many part h s documents of are below =
    part_alike asked part (docs_of (picked numbers documents)) h.shown (h.alike s documents of are below) h.stands

pub shown_known : (asked : NestedAgg) (columns : List FieldColumn) (numbers : List ℕ) (many : ℕ) (part : NestedPart) → IsShown asked columns numbers numbers many part → IsPartFor asked many part
shown_known asked columns numbers many part h = record { documents = h.shown; stands = h.stands; many = h.long }
