-- The answers of many splits.
use Rattle.std.specs.Prelude.{◌≡◌, ◌≢◌, ◌⊎◌, ℕ, ◌^◌, ◌<◌, ◌≤◌, true, List, ◌∷◌, ◌++◌, flat_map, length, map, sum_by, slice_get, Some, None, Result, Ok, Err, IfOk, IsPermutation, MatchResult}
use Rattle.std.specs.List.{AllZip}
use Rattle.doc_value.specs.declared.schema.Schema.{Schema}
use Rattle.query_ast.specs.Sought.{view}
use Rattle.agg_nested.specs.Buckets.{IsNestedPartial, NestedStands, documents_counted}
use Rattle.split_bundle.specs.Files.{Parts, file_bytes}
use Rattle.split_bundle.specs.Lending.{IsPartOf}
use Rattle.split_bundle.specs.Wholes.{HaveAll}
use Rattle.split_bundle.specs.Pieces.{held_in}
use Rattle.split_bundle.specs.declared.part_view.PartView.{PartView}
use Rattle.split_bundle.specs.declared.placed.Placed.{Placed}
use Rattle.doc_sets.specs.Faults.{LacksPart, IsMemory}
use Rattle.doc_sets.specs.Reads.{AreRead, ReadsAll}
use Rattle.doc_sets.specs.declared.leaf_error.LeafError.{LeafError}
use Rattle.doc_sets.specs.declared.leaf_error.LeafError.TheVariants as leaf
use Rattle.doc_tallies.specs.Orders.{firsts}
use Rattle.doc_tallies.specs.Picked.{docs_of}
use Rattle.leaf_search.specs.Answers.{AsksLeaf, IsAnswerOf, IsAsked}
use Rattle.leaf_search.specs.Counts.{only_counts, read_lookups}
use Rattle.leaf_search.specs.declared.request.LeafAnswer.{LeafAnswer}
use Rattle.leaf_search.specs.declared.request.LeafRequest.{LeafRequest}
use Rattle.root_search.specs.FetchedSplits.{HasDocuments}
use Rattle.root_search.specs.Shares.{IsWhole}
use Rattle.root_search.specs.declared.join_fault.JoinFault.{JoinFault}
use Rattle.root_search.specs.declared.join_fault.JoinFault.TheVariants.{Corrupt, Memory, Missing, TooMany}
use Rattle.root_search.specs.declared.shares.SplitShare.{SplitShare}

-- the documents of some lists, one list after the other
abbrev pub all_of : List (List Placed) → List Placed
all_of lists = flat_map (λ documents. documents) lists

-- an answer whose partial is one of the request and counts as many documents
pub record IsCounted (r : LeafRequest) (a : LeafAnswer) : Type 0 where
  pub partial : IsNestedPartial r.aggs a.partial
  pub many : documents_counted a.partial ≡ a.count

-- the view is one of a split of these documents
pub record IsViewOf (s : Schema) (v : PartView) (documents : List Placed) : Type 0 where
  pub parts : Parts
  pub is_part : IsPartOf v s documents parts

-- the same, and its pieces have every part of the file
pub record IsWholeViewOf (s : Schema) (v : PartView) (documents : List Placed) : Type 0 where
  pub parts : Parts
  pub is_part : IsPartOf v s documents parts
  pub all : HaveAll (file_bytes parts) v.pieces

-- the same, and its pieces have each part that a request asks for
pub record HasAsked (s : Schema) (r : LeafRequest) (v : PartView) (documents : List Placed) : Type 0 where
  pub parts : Parts
  pub is_part : IsPartOf v s documents parts
  pub held : (at len : ℕ) → AsksLeaf v s documents parts r at len → held_in v.pieces at len ≢ None

-- what a leaf answers over a view
pub record IsLeafAnswer (s : Schema) (r : LeafRequest) (v : PartView) (answer : Result LeafAnswer LeafError) : Type 0 where
  pub only : (documents : List Placed) (p : Parts) → IsPartOf v s documents p → IsAsked s r
      → MatchResult answer (IsAnswerOf s r documents) (LacksPart (AsksLeaf v s documents p r) v.pieces)
  pub there : (documents : List Placed) (p : Parts) → IsPartOf v s documents p → HaveAll (file_bytes p) v.pieces → IsAsked s r → MatchResult answer (IsAnswerOf s r documents) IsMemory
  pub counted : IfOk answer (IsCounted r)
  pub read : IfOk answer (λ a. AreRead v (read_lookups v.footer s r))
  pub faults : only_counts r ≡ true → ReadsAll v (read_lookups v.footer s r) answer

-- how many documents an answer counts
abbrev pub count_in : Result LeafAnswer LeafError → ℕ
count_in (Ok a) = a.count
count_in (Err fault) = 0

-- each of some splits answered
abbrev pub all_ok : List LeafAnswer → List (Result LeafAnswer LeafError)
all_ok answers = map (λ a. Ok a) answers

-- the answer at a place is this fault, and there is none before it
pub record FailsFirst (answers : List (Result LeafAnswer LeafError)) (place : ℕ) (fault : LeafError) : Type 0 where
  pub front : List LeafAnswer
  pub rest : List (Result LeafAnswer LeafError)
  pub answers_are : answers ≡ all_ok front ++ Err fault ∷ rest
  pub place_is : place ≡ length front

-- the fault is that of the answer at a place, the first, or the answers count too many documents together
abbrev pub IsFaultIn : List (Result LeafAnswer LeafError) → JoinFault → Type 0
IsFaultIn answers (Memory a) = Unit {0}
IsFaultIn answers (Missing place at) = FailsFirst answers place (leaf.Missing at)
IsFaultIn answers (Corrupt place section) = FailsFirst answers place (leaf.Corrupt section)
IsFaultIn answers TooMany = 2 ^ 62 ≤ sum_by count_in answers

-- want of memory, or so many documents that they are not counted
abbrev pub IsFull : ℕ → JoinFault → Type 0
IsFull many (Memory a) = Unit {0}
IsFull many TooMany = 2 ^ 62 ≤ many
IsFull many (Missing place at) = ⊥
IsFull many (Corrupt place section) = ⊥

-- the fault of the split at a place
abbrev pub placed_fault : ℕ → LeafError → JoinFault
placed_fault place (leaf.Memory a) = Memory a
placed_fault place (leaf.Missing at) = Missing place at
placed_fault place (leaf.Corrupt section) = Corrupt place section

-- of the view at a place, which is one of a split of the documents at that place, a part is asked for that no piece has
pub record IsLacking (s : Schema) (r : LeafRequest) (views : List PartView) (lists : List (List Placed)) (place at : ℕ) : Type 0 where
  pub view : PartView
  pub documents : List Placed
  pub parts : Parts
  pub seen : slice_get views place ≡ Some view
  pub listed : slice_get lists place ≡ Some documents
  pub is_part : IsPartOf view s documents parts
  pub len : ℕ
  pub asks : AsksLeaf view s documents parts r at len
  pub none : held_in view.pieces at len ≡ None

-- want of memory, or a view that lacks a part, by its place, and where the part starts
abbrev pub HasCauseIn : Schema → LeafRequest → List PartView → List (List Placed) → JoinFault → Type 0
HasCauseIn s r views lists (Memory a) = Unit {0}
HasCauseIn s r views lists (Missing place at) = IsLacking s r views lists place at
HasCauseIn s r views lists (Corrupt place section) = ⊥
HasCauseIn s r views lists TooMany = ⊥

-- nothing but want of memory
abbrev pub WantsMemory : JoinFault → Type 0
WantsMemory (Memory a) = Unit {0}
WantsMemory (Missing place at) = ⊥
WantsMemory (Corrupt place section) = ⊥
WantsMemory TooMany = ⊥

-- ---- over any bytes

-- the hits of some answers, one after the other
abbrev pub all_hits : List LeafAnswer → List Placed
all_hits answers = flat_map (λ a. a.hits) answers

-- some of these documents, in some order
abbrev pub AreSomeOf : List Placed → List Placed → Type 0
AreSomeOf hits documents = (others : List Placed) × IsPermutation (hits ++ others) documents

-- Answers are joined. As many documents are counted as they count together. The hits are some of theirs: the first of all documents, wherever each
-- answer has the first of some. The partial is that of all documents, wherever that of each answer is of some.
pub record AreJoined (r : LeafRequest) (answers : List LeafAnswer) (all : LeafAnswer) : Type 0 where
  pub count : all.count ≡ sum_by (λ a. a.count) answers
  pub drawn : AreSomeOf all.hits (all_hits answers)
  pub hits : (lists : List (List Placed)) → AllZip (λ a own. a.hits ≡ firsts r.wanted r.order own) answers lists → all.hits ≡ firsts r.wanted r.order (all_of lists)
  pub partial : (lists : List (List Placed)) → AllZip (λ a own. NestedStands r.aggs a.partial (docs_of own)) answers lists → NestedStands r.aggs all.partial (docs_of (all_of lists))

-- each answer is one, and these are joined
abbrev pub AllJoined : LeafRequest → List (Result LeafAnswer LeafError) → LeafAnswer → Type 0
AllJoined r answers all = (given : List LeafAnswer) × (answers ≡ all_ok given) × AreJoined r given all

-- the leaf answers this over a view
abbrev pub LeafGives : Schema → LeafRequest → PartView → LeafAnswer → Type 0
LeafGives s r view answer = IsLeafAnswer s r view (Ok answer)

-- What splits answer is joined: the leaf of each of them answered the request.
pub record IsJoinOf (s : Schema) (r : LeafRequest) (views : List PartView) (all : LeafAnswer) : Type 0 where
  pub answers : List LeafAnswer
  pub are_leaves : AllZip (LeafGives s r) views answers
  pub joined : AreJoined r answers all

-- ---- where each split is asked for a share of the hits

-- a request asks what another one does, but for how many hits are wanted
pub record AsksAlike (r other : LeafRequest) : Type 0 where
  pub query : view other.query ≡ view r.query
  pub times : other.times ≡ r.times
  pub order : other.order ≡ r.order
  pub aggs : other.aggs ≡ r.aggs

-- the leaf answers this over a view to the same request, where so many hits are wanted: some, and at most as many as are wanted of all splits
pub record GivesShare (s : Schema) (r : LeafRequest) (v : PartView) (share : SplitShare) : Type 0 where
  pub asked : LeafRequest
  pub alike : AsksAlike r asked
  pub wanted : asked.wanted ≡ share.wanted
  pub some : 0 < share.wanted
  pub few : share.wanted ≤ r.wanted
  pub is_leaf : LeafGives s asked v share.answer

-- a split answered this where so many hits were wanted of it
abbrev pub IsShareOf : ℕ → Result LeafAnswer LeafError → SplitShare → Type 0
IsShareOf wanted answer share = (answer ≡ Ok share.answer) × (share.wanted ≡ wanted)

-- the answers of some shares
abbrev pub answers_in : List SplitShare → List LeafAnswer
answers_in shares = map (λ share. share.answer) shares

-- A share tells what its split answers to the whole request: it has as many hits as are wanted of all, as far as the split has so many, or the
-- others stand among the documents that the view has.
abbrev pub IsSure : LeafRequest → PartView → SplitShare → Type 0
IsSure r v share = IsWhole r.order r.wanted share ⊎ HasDocuments v

-- the share at a place does
abbrev pub IsSureAt : LeafRequest → List PartView → List SplitShare → ℕ → Type 0
IsSureAt r views shares place = (v : PartView) (share : SplitShare) → slice_get views place ≡ Some v → slice_get shares place ≡ Some share → IsSure r v share

-- each share does
abbrev pub AreSure : LeafRequest → List PartView → List SplitShare → Type 0
AreSure r views shares = (place : ℕ) → place < length shares → IsSureAt r views shares place

-- ---- which split is refused

-- The leaf of the view at a place is at fault, and there is none before it. This view has not all that the request asks for of a split, of
-- whatever documents.
pub record IsNoLeaf (s : Schema) (r : LeafRequest) (views : List PartView) (place : ℕ) (fault : LeafError) : Type 0 where
  pub front : List PartView
  pub view : PartView
  pub rest : List PartView
  pub views_are : views ≡ front ++ view ∷ rest
  pub place_is : place ≡ length front
  pub answers : List LeafAnswer
  pub before : AllZip (LeafGives s r) front answers
  pub failed : IsLeafAnswer s r view (Err fault)
  pub none : (documents : List Placed) → IsAsked s r → HasAsked s r view documents → ⊥

-- the split at a place is refused only where its view is none of a split, the first
abbrev pub IsRefusedIn : Schema → LeafRequest → List PartView → JoinFault → Type 0
IsRefusedIn s r views (Memory a) = Unit {0}
IsRefusedIn s r views (Missing place at) = IsNoLeaf s r views place (leaf.Missing at)
IsRefusedIn s r views (Corrupt place section) = IsNoLeaf s r views place (leaf.Corrupt section)
IsRefusedIn s r views TooMany = Unit {0}
