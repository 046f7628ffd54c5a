-- What is found in splits together, and which of them is refused.
use Rattle.std.specs.Prelude.{◌≡◌, ◌⊎◌, ℕ, List, ◌∷◌, ◌++◌, IsPermutation, Some, Result, Ok, Err, drop, slice_get, take}
use Rattle.std.specs.List.{AllZip}
use Rattle.doc_value.specs.declared.doc.DocField.{DocField}
use Rattle.doc_value.specs.declared.schema.Schema.{Schema}
use Rattle.agg_model.specs.declared.agg_error.AggError.{AggError}
use Rattle.agg_nested.specs.Answers.{nested}
use Rattle.agg_nested.specs.Buckets.{NestedStands}
use Rattle.agg_nested.specs.declared.answer.NestedAnswer.{NestedAnswer}
use Rattle.agg_nested.specs.declared.nested_partial.NestedPartial.{NestedPartial}
use Rattle.agg_nested.specs.declared.request.NestedAgg.{NestedAgg}
use Rattle.split_bundle.specs.declared.part_view.PartView.{PartView}
use Rattle.split_bundle.specs.declared.placed.Placed.{Placed}
use Rattle.doc_sets.specs.Faults.{IsMemory}
use Rattle.doc_sets.specs.declared.leaf_error.LeafError.{LeafError}
use Rattle.leaf_search.specs.Answers.{IsAsked, found}
use Rattle.leaf_search.specs.declared.request.LeafAnswer.{LeafAnswer}
use Rattle.leaf_search.specs.declared.request.LeafRequest.{LeafRequest}
use Rattle.meta_journal.specs.Places.{split_key}
use Rattle.search_api.specs.Unanswered.{of_aggs}
use Rattle.search_api.specs.declared.reply.Refusal.TheVariants as refusals
use Rattle.search_api.specs.declared.reply.Said.{Said}
use Rattle.search_api.specs.declared.reply.Said.TheVariants.{Found, Deleted, Refused}
use Rattle.search_api.specs.declared.unanswered.Unanswered.TheVariants as reasons
use Rattle.root_search.specs.Answer.{printed}
use Rattle.root_search.specs.Leaves.{AreJoined, IsLeafAnswer, all_of}
use Rattle.root_search.specs.Places.{OneAtEach}
use Rattle.root_search.specs.FetchedSplits.{HasNeeded, IsLentOf}
use Rattle.root_search.specs.declared.fetched_splits.FetchedPieces.{FetchedPieces}
use Rattle.root_search.specs.declared.fetched_splits.FetchedSplit.{FetchedSplit}
use Rattle.root_search.specs.declared.join_fault.JoinFault.{JoinFault}
use Rattle.root_search.specs.declared.join_fault.JoinFault.TheVariants as errors
use Rattle.root_search.specs.declared.leaf_asks.LeafAsk.{LeafAsk}
use Rattle.root_search.specs.declared.part_answers.AnswerError.{AnswerError}
use Rattle.root_search.specs.declared.part_answers.AnswerError.TheVariants.{Memory, Corrupt}

-- What is found in the lists together is what is found in all of some documents, each at a place of its own, and these are
-- those in another order.
pub record AreFound (s : Schema) (r : LeafRequest) (lists : List (List Placed)) (documents : List Placed) : Type 0 where
  pub all : List Placed
  pub same : found s r (all_of lists) ≡ found s r all
  pub one : OneAtEach all
  pub moved : IsPermutation all documents

-- nothing but want of memory
abbrev pub WantsRoom : AnswerError → Type 0
WantsRoom (Memory e) = Unit {0}
WantsRoom (Corrupt number) = ⊥

-- ---- over any bytes

-- the view lends what was kept of a split
pub record IsViewOfPart (part : FetchedSplit) (view : PartView) : Type 0 where
  pub footer : view.footer ≡ part.footer
  pub pieces : AllZip IsLentOf part.pieces view.pieces

-- what the leaf answers over what was kept of a split
pub record LeafOver (s : Schema) (r : LeafRequest) (part : FetchedSplit) (answer : Result LeafAnswer LeafError) : Type 0 where
  pub view : PartView
  pub lends : IsViewOfPart part view
  pub is_leaf : IsLeafAnswer s r view answer

abbrev pub PartGives : Schema → LeafRequest → FetchedSplit → LeafAnswer → Type 0
PartGives s r part answer = LeafOver s r part (Ok answer)

-- The leaf over each part answered the request, and their answers are joined.
pub record AreAnswered (s : Schema) (r : LeafRequest) (parts : List FetchedSplit) (all : LeafAnswer) : Type 0 where
  pub answers : List LeafAnswer
  pub are_leaves : AllZip (PartGives s r) parts answers
  pub joined : AreJoined r answers all

-- The leaf over what was kept of the split with a number met a fault that is not want of memory, and none before it did. What was kept is not
-- what the request needs of a split, of whatever documents.
pub record IsBroken (s : Schema) (r : LeafRequest) (parts : List FetchedSplit) (number : ℕ) : Type 0 where
  pub front : List FetchedSplit
  pub part : FetchedSplit
  pub rest : List FetchedSplit
  pub parts_are : parts ≡ front ++ part ∷ rest
  pub number_is : part.number ≡ number
  pub answers : List LeafAnswer
  pub before : AllZip (PartGives s r) front answers
  pub fault : LeafError
  pub failed : LeafOver s r part (Err fault)
  pub other : IsMemory fault → ⊥
  pub none : (documents : List Placed) → IsAsked s r → HasNeeded s r part documents → ⊥

abbrev pub IsRefusedPart : Schema → LeafRequest → List FetchedSplit → AnswerError → Type 0
IsRefusedPart s r parts (Memory e) = Unit {0}
IsRefusedPart s r parts (Corrupt number) = IsBroken s r parts number

-- the split at a place is the one that is refused, if one is
abbrev pub IsCorruptAt : List FetchedPieces → ℕ → AnswerError → Type 0
IsCorruptAt splits place (Memory e) = Unit {0}
IsCorruptAt splits place (Corrupt number) = (split : FetchedPieces) × (slice_get splits place ≡ Some split) × (split.number ≡ number)

abbrev pub IsFaultAt : List FetchedPieces → JoinFault → AnswerError → Type 0
IsFaultAt splits (errors.Memory e) fault = WantsRoom fault
IsFaultAt splits (errors.Missing place at) fault = IsCorruptAt splits place fault
IsFaultAt splits (errors.Corrupt place section) fault = IsCorruptAt splits place fault
IsFaultAt splits errors.TooMany fault = WantsRoom fault

-- a corrupt split is replied as such, with its key
abbrev pub IsSaidOf : AnswerError → Said → Type 0
IsSaidOf (Memory e) said = ⊥
IsSaidOf (Corrupt number) said = said ≡ Refused (refusals.Corrupt (split_key number))

-- ---- what is said

-- this is answered of a partial, of whatever documents it is
abbrev pub Finishes : List NestedAgg → NestedPartial → Result (List NestedAnswer) AggError → Type 0
Finishes aggs partial result = (documents : List (List DocField)) → NestedStands aggs partial documents → nested aggs documents ≡ result

-- What is said of an answer: how many match, those of its hits that stand on the page, as they are printed, and what its partial counts, or why it is
-- refused.
abbrev pub IsShownOf : Schema → LeafAsk → LeafAnswer → Said → Type 0
IsShownOf s ask all (Found many lines results) =
    (many ≡ all.count) × (lines ≡ printed s (take ask.page.shown (drop ask.page.passed all.hits))) × Finishes ask.request.aggs all.partial (Ok results)
IsShownOf s ask all (Refused refusal) = (error : AggError) × (of_aggs error ≡ reasons.Refused refusal) × Finishes ask.request.aggs all.partial (Err error)
IsShownOf s ask all (Deleted opstamp) = ⊥

-- What is said over what was kept of splits: that of their answers, where the leaf over each of them answered; or that the first one is
-- corrupt over which it met a fault, with its key.
abbrev pub IsSaidOver : Schema → LeafAsk → List FetchedSplit → Said → Type 0
IsSaidOver s ask parts said =
    ((all : LeafAnswer) × AreAnswered s ask.request parts all × IsShownOf s ask all said)
    ⊎ ((number : ℕ) × (said ≡ Refused (refusals.Corrupt (split_key number))) × IsBroken s ask.request parts number)
