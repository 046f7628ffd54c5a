-- What is read of views of any bytes, document by document, up to the first one that does not read.
use Rattle.std.specs.Prelude.{◌≡◌, ℕ, zero, suc, ◌+◌, Bool, List, [], ◌∷◌, ◌++◌, Result, Ok, Err, ⊤, if◌then◌else◌}
use Rattle.doc_value.specs.declared.schema.Schema.{Schema}
use Rattle.split_bundle.specs.declared.placed.Placed.{Placed}
use Rattle.split_bundle.specs.declared.split_error.SplitError.{SplitError}
use Rattle.split_bundle.specs.declared.split_view.SplitView.{SplitView}
use Rattle.split_bundle.specs.DocReading.{placed_in}
use Rattle.split_bundle.specs.SplitViews.{pieces_of}
use Rattle.split_merge.specs.declared.merge_error.MergeError.{MergeError}
use Rattle.split_merge.specs.declared.merge_error.MergeError.TheVariants.{Memory, Split, Build}
use Rattle.split_merge.specs.Keeping.{is_named}
use Rattle.split_merge.specs.Merging.{fault_of}

-- the document of a view with a number, or the fault of its bytes
abbrev pub document_of : Schema → SplitView → ℕ → Result Placed SplitError
document_of s v doc = placed_in s.fields v.layout v.footer.now (pieces_of v) doc

-- what was read, and then what was read behind it, or the first fault
abbrev pub behind : {E : Type 0} → Result (List Placed) E → Result (List Placed) E → Result (List Placed) E
behind (Ok documents) (Ok more) = Ok (documents ++ more)
behind (Ok documents) (Err e) = Err e
behind (Err e) more = Err e

abbrev pub alone : Result Placed SplitError → Result (List Placed) SplitError
alone (Ok d) = Ok (d ∷ [])
alone (Err e) = Err e

-- a document that is dropped is not read
abbrev pub unless : Bool → Result Placed SplitError → Result (List Placed) SplitError
unless dropped read = if dropped then Ok [] else alone read

-- so many documents of a view, of which the first has this place and this number, without those whose places are named
abbrev pub documents_of : Schema → List ℕ → SplitView → ℕ → ℕ → ℕ → Result (List Placed) SplitError
documents_of s dropped v place doc zero = Ok []
documents_of s dropped v place doc (suc left) =
    behind (unless (is_named place dropped) (document_of s v doc)) (documents_of s dropped v (suc place) (suc doc) left)

-- what is read of the view with a number
abbrev pub of_view : ℕ → Result (List Placed) SplitError → Result (List Placed) MergeError
of_view number (Ok documents) = Ok documents
of_view number (Err e) = Err (fault_of number e)

-- the documents of views, of which the first has this number and its first document this place
abbrev pub read_from : Schema → List ℕ → ℕ → ℕ → List SplitView → Result (List Placed) MergeError
read_from s dropped number place [] = Ok []
read_from s dropped number place (v ∷ vs) =
    behind (of_view number (documents_of s dropped v place 0 v.layout.docs)) (read_from s dropped (suc number) (place + v.layout.docs) vs)

-- the documents of views without those that are dropped, or the first fault with the number of its view
abbrev pub read_kept : Schema → List ℕ → List SplitView → Result (List Placed) MergeError
read_kept s dropped views = read_from s dropped 0 0 views

-- what a function found is what is read, unless memory ran out
abbrev pub MayFind : Result (List Placed) MergeError → Result (List Placed) MergeError → Type 0
MayFind (Ok found) read = read ≡ Ok found
MayFind (Err (Memory a)) read = ⊤
MayFind (Err (Split number e)) read = read ≡ Err (Split number e)
MayFind (Err (Build e)) read = ⊥
