-- Documents that are taken as they are read.
use Rattle.std.proofs.Common.{◌≡◌, ℕ, Bool, true, false, List, [], ◌∷◌, Result, Ok, Err, ap}
use Rattle.std.proofs.lemmas.List.{append-nil}
use Rattle.std.specs.Prelude.{⊤}
use Rattle.doc_value.specs.declared.schema.Schema.{Schema}
use Rattle.split_bundle.specs.declared.placed.Placed.{Placed}
use Rattle.split_bundle.specs.declared.split_view.SplitView.{SplitView}
use Rattle.split_bundle.specs.declared.split_error.SplitError.{SplitError}
use Rattle.split_bundle.specs.declared.split_error.SplitError.TheVariants as split
use Rattle.split_bundle.specs.Reading.{MayGive}
use Rattle.split_merge.specs.declared.kept.KeptDocuments.{KeptDocuments}
use Rattle.split_merge.specs.declared.merge_error.MergeError.{MergeError}
use Rattle.split_merge.specs.declared.merge_error.MergeError.TheVariants.{Memory, Split, Build}
use Rattle.split_merge.specs.Faults.{IsWant}
use Rattle.split_merge.specs.Keeping.{ViewsSplit}
use Rattle.split_merge.specs.Kept.{Keeps, KeepsAll}
use Rattle.split_merge.specs.Merging.{fault_of}
use Rattle.split_merge.specs.Reading.{MayFind, alone, behind, documents_of, read_from, unless}
use Rattle.split_merge.proofs.PlacedLemmas.{documents_are}
use Rattle.split_merge.proofs.ReadLemmas.{read_fault}

-- ---- the next document

-- it is dropped
pub none_read : (dropped : Bool) (before : List Placed) (read : Result Placed SplitError) → dropped ≡ true → behind (Ok before) (unless dropped read) ≡ Ok before
none_read true before read e = ap (λ (l : List Placed). ok l) (append-nil before)
  where
    ok : List Placed → Result (List Placed) SplitError
    ok l = Ok l
none_read false before read e = absurd cc

-- it is not
pub unless_not : {X : Type 0} (k : KeptDocuments) (s : Schema) (r : Result X SplitError) (dropped : Bool) (before : List Placed) (read : Result Placed SplitError) → dropped ≡ false → Keeps k s r (behind (Ok before) (alone read)) → Keeps k s r (behind (Ok before) (unless dropped read))
unless_not k s r true before read e keeps = absurd cc
unless_not k s r false before read e keeps = keeps

-- ---- faults

-- the faults of one reading are those of another
pub keeps_more : (X Y : Type 0) (k n : KeptDocuments) (s : Schema) (e : SplitError) (read whole : Result (List Placed) SplitError) → ((f : SplitError) → read ≡ Err f → whole ≡ Err f) → Keeps {X = X} k s (Err e) read → Keeps {X = Y} n s (Err e) whole
keeps_more X Y k n s (split.Memory a) read whole more keeps = tt
keeps_more X Y k n s split.BadMagic read whole more keeps = more split.BadMagic keeps
keeps_more X Y k n s (split.Truncated at) read whole more keeps = more (split.Truncated at) keeps
keeps_more X Y k n s (split.BadSection number) read whole more keeps = more (split.BadSection number) keeps
keeps_more X Y k n s (split.BadVersion version) read whole more keeps = more (split.BadVersion version) keeps

-- where all reads it is want of memory
keeps_want : (X : Type 0) (k : KeptDocuments) (s : Schema) (e : SplitError) (read : Result (List Placed) SplitError) (documents : List Placed) → read ≡ Ok documents → Keeps {X = X} k s (Err e) read → IsWant e
keeps_want X k s (split.Memory a) read documents is keeps = tt
keeps_want X k s split.BadMagic read documents is keeps = absurd cc
keeps_want X k s (split.Truncated at) read documents is keeps = absurd cc
keeps_want X k s (split.BadSection number) read documents is keeps = absurd cc
keeps_want X k s (split.BadVersion version) read documents is keeps = absurd cc

-- of the view of a split
pub view_want : (X : Type 0) (k : KeptDocuments) (s : Schema) (v : SplitView) (documents before : List Placed) (rest : List ℕ) (first : ℕ) (e : SplitError) → ViewsSplit s v documents
    → Keeps {X = X} k s (Err e) (behind (Ok before) (documents_of s rest v first 0 v.layout.docs)) → IsWant e
view_want X k s v documents before rest first e views keeps =
    keeps_want X k s e (behind (Ok before) (documents_of s rest v first 0 v.layout.docs)) _ (ap (λ (r : Result (List Placed) SplitError). behind (Ok before) r) (documents_are v s documents views.0 views.1 rest first)) keeps

keeps_gives : (X : Type 0) (k : KeptDocuments) (s : Schema) (e : SplitError) (read : Result (List Placed) SplitError) → Keeps {X = X} k s (Err e) read → MayGive {X = ⊤} {Y = List Placed} (λ _. []) (Err e) read
keeps_gives X k s (split.Memory a) read keeps = tt
keeps_gives X k s split.BadMagic read keeps = keeps
keeps_gives X k s (split.Truncated at) read keeps = keeps
keeps_gives X k s (split.BadSection number) read keeps = keeps
keeps_gives X k s (split.BadVersion version) read keeps = keeps

found_keeps : (s : Schema) (e : MergeError) (read : Result (List Placed) MergeError) → MayFind (Err e) read → KeepsAll s (Err e) read
found_keeps s (Memory a) read found = tt
found_keeps s (Split number e) read found = found
found_keeps s (Build e) read found = found

-- a document of a view did not read
pub view_fault : (X : Type 0) (k : KeptDocuments) (s : Schema) (e : SplitError) (rest : List ℕ) (before : List Placed) (number place : ℕ) (left : List SplitView) (v : SplitView) (vs : List SplitView) (whole : Result (List Placed) MergeError)
    → left ≡ v ∷ vs → behind (Ok before) (read_from s rest number place left) ≡ whole → Keeps {X = X} k s (Err e) (behind (Ok before) (documents_of s rest v place 0 v.layout.docs)) → KeepsAll s (Err (fault_of number e)) whole
view_fault X k s e rest before number place left v vs whole left_is so_far keeps =
    found_keeps s (fault_of number e) whole (read_fault s {X = ⊤} (λ _. []) e rest before number place left v vs whole left_is so_far (keeps_gives X k s e (behind (Ok before) (documents_of s rest v place 0 v.layout.docs)) keeps))
