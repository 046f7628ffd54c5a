-- What is read of fetched files, whatever their bytes are.
use Rattle.std.specs.Prelude.{◌≡◌, ◌⊎◌, ℕ, zero, suc, ◌+◌, Bool, true, false, List, [], ◌∷◌, Option, Some, None, IsErr, Result, Ok, Err, slice_get, ⊤}
use Rattle.doc_value.specs.declared.schema.Schema.{Schema}
use Rattle.meta_store.specs.declared.planning.PlanRow.{PlanRow}
use Rattle.meta_store.specs.declared.planning.RowWork.{RowWork}
use Rattle.split_build.specs.declared.builder.BuiltSplit.{BuiltSplit}
use Rattle.split_bundle.specs.DocReading.{weight_of}
use Rattle.split_bundle.specs.SplitViews.{laid, pieces_of, split_of}
use Rattle.split_bundle.specs.Splits.{IsSplit}
use Rattle.split_bundle.specs.declared.placed.Placed.{Placed}
use Rattle.split_bundle.specs.declared.split_error.SplitError.{SplitError}
use Rattle.split_bundle.specs.declared.split_view.SplitView.{SplitView}
use Rattle.split_merge.specs.Merging.{MergesAs, fault_of}
use Rattle.split_merge.specs.Reading.{read_kept}
use Rattle.split_merge.specs.declared.merge_error.MergeError.{MergeError}
use Rattle.split_merge.specs.declared.merge_error.MergeError.TheVariants.{Build, Memory, Split}

-- the view is one of these bytes, of which a footer is read
pub record IsRead (bytes : List ℕ) (v : SplitView) : Type 0 where
  pub bytes_are : v.bytes.now ≡ bytes
  pub footer : split_of bytes ≡ Ok (laid v)

abbrev pub more : Result ℕ SplitError → Option ℕ → Option ℕ
more (Ok weight) (Some weights) = Some (weight + weights)
more (Ok weight) None = None
more (Err e) weights = None

-- what so many documents of a view weigh, from one on; none where one of them doesn't read
abbrev pub weights_of : SplitView → (doc left : ℕ) → Option ℕ
weights_of v doc zero = Some 0
weights_of v doc (suc left) = more (weight_of v.layout (pieces_of v) doc) (weights_of v (suc doc) left)

-- ---- one file, against what is known of its row

-- it has as many documents as the row, and they weigh as much
abbrev pub AgreesWith : SplitView → Option RowWork → Type 0
AgreesWith v None = ⊥
AgreesWith v (Some work) = (v.layout.docs ≡ work.docs) × (weights_of v 0 v.layout.docs ≡ Some work.weight)

-- Whether these bytes are taken for the file of a row. They are not where no footer is read, or where what is read is another count of
-- documents or another weight than the row's.
abbrev pub IsJudged : List ℕ → PlanRow → Bool → Type 0
IsJudged bytes row true = (v : SplitView) × IsRead bytes v × AgreesWith v row.work
IsJudged bytes row false = (row.work ≡ None) ⊎ IsErr (split_of bytes) ⊎ ((v : SplitView) × IsRead bytes v × (AgreesWith v row.work → ⊥))

-- ---- files that are merged

abbrev pub AreRead : List (List ℕ) → List SplitView → Type 0
AreRead [] [] = ⊤
AreRead [] (v ∷ views) = ⊥
AreRead (bytes ∷ files) [] = ⊥
AreRead (bytes ∷ files) (v ∷ views) = IsRead bytes v × AreRead files views

-- each of these bytes is a split of the documents at its place
abbrev pub AreSplits : Schema → List (List ℕ) → List (List Placed) → Type 0
AreSplits s [] [] = ⊤
AreSplits s [] (ds ∷ lists) = ⊥
AreSplits s (bytes ∷ files) [] = ⊥
AreSplits s (bytes ∷ files) (ds ∷ lists) = IsSplit s bytes ds × AreSplits s files lists

-- a file that is named is a split of no documents
abbrev pub HasNoSplit : Schema → List (List ℕ) → MergeError → Type 0
HasNoSplit s files (Memory a) = ⊤
HasNoSplit s files (Split number e) = (bytes : List ℕ) × (slice_get files number ≡ Some bytes) × ((documents : List Placed) → IsSplit s bytes documents → ⊥)
HasNoSplit s files (Build e) = ⊤

-- of the file with a number no footer is read
pub record IsUnread (files : List (List ℕ)) (number : ℕ) (e : SplitError) : Type 0 where
  pub bytes : List ℕ
  pub there : slice_get files number ≡ Some bytes
  pub fault : SplitError
  pub footer : split_of bytes ≡ Err fault
  pub told : fault_of number fault ≡ Split number e

-- what is merged of views of these files, without the documents whose places are dropped
abbrev pub MergesViews : Schema → (dropped : List ℕ) → List (List ℕ) → Result BuiltSplit MergeError → Type 0
MergesViews s dropped files result = (views : List SplitView) × AreRead files views × MergesAs s (read_kept s dropped views) result

abbrev pub MergesFiles : Schema → (dropped : List ℕ) → List (List ℕ) → Result BuiltSplit MergeError → Type 0
MergesFiles s dropped files (Ok built) = MergesViews s dropped files (Ok built)
MergesFiles s dropped files (Err (Memory e)) = ⊤
MergesFiles s dropped files (Err (Split number e)) = IsUnread files number e ⊎ MergesViews s dropped files (Err (Split number e))
MergesFiles s dropped files (Err (Build e)) = MergesViews s dropped files (Err (Build e))
