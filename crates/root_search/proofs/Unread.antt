-- Which split is refused where what was fetched of some is read together, and what is said of the answers of all.
use Rattle.std.proofs.Common.{◌≡◌, ℕ, suc, List, [], ◌∷◌, ◌++◌, map, length, inl, inr, refl, sym, ap, ◌∙◌, subst, Option, Some, Result, Ok, Err, IfOk}
use Rattle.std.specs.List.{AllZip}
use Rattle.std.specs.Prelude.{slice_get}
use Rattle.std.specs.declared.alloc.AllocError.{AllocError}
use Rattle.doc_value.specs.declared.schema.Schema.{Schema}
use Rattle.doc_sets.specs.Faults.{IsMemory}
use Rattle.doc_sets.specs.declared.leaf_error.LeafError.{LeafError}
use Rattle.doc_sets.specs.declared.leaf_error.LeafError.TheVariants as leaf
use Rattle.leaf_search.specs.declared.request.LeafAnswer.{LeafAnswer}
use Rattle.leaf_search.specs.declared.request.LeafRequest.{LeafRequest}
use Rattle.search_api.specs.declared.reply.Said.{Said}
use Rattle.split_bundle.specs.declared.part_view.PartView.{PartView}
use Rattle.root_search.specs.Leaves.{IsJoinOf, IsNoLeaf, IsRefusedIn, LeafGives}
use Rattle.root_search.specs.PartAnswers.{AreAnswered, IsCorruptAt, IsFaultAt, IsRefusedPart, IsSaidOf, IsSaidOver, IsShownOf, IsViewOfPart, PartGives, WantsRoom}
use Rattle.root_search.specs.FetchedSplits.{beside_footer}
use Rattle.root_search.specs.declared.fetched_splits.FetchedPieces.{FetchedPieces}
use Rattle.root_search.specs.declared.fetched_splits.FetchedSplit.{FetchedSplit}
use Rattle.root_search.specs.declared.join_fault.JoinFault.{JoinFault}
use Rattle.root_search.specs.declared.join_fault.JoinFault.TheVariants as errors
use Rattle.root_search.specs.declared.leaf_asks.LeafAsk.{LeafAsk}
use Rattle.root_search.specs.declared.part_answers.AnswerError.{AnswerError}
use Rattle.root_search.specs.declared.part_answers.AnswerError.TheVariants.{Memory, Corrupt}
use Rattle.root_search.proofs.PartViews.{has_asked}

-- ---- each part answers

-- what the leaves over views answer, those over their parts do
pub over_parts : (s : Schema) (r : LeafRequest) (parts : List FetchedSplit) (views : List PartView) (answers : List LeafAnswer) → AllZip IsViewOfPart parts views → AllZip (LeafGives s r) views answers → AllZip (PartGives s r) parts answers
over_parts s r [] [] [] seen give = tt
over_parts s r [] [] (a ∷ answers) seen give = absurd give
over_parts s r [] (v ∷ views) answers seen give = absurd seen
over_parts s r (p ∷ parts) [] answers seen give = absurd seen
over_parts s r (p ∷ parts) (v ∷ views) [] seen give = absurd give
over_parts s r (p ∷ parts) (v ∷ views) (a ∷ answers) seen give = (record { view = v; lends = seen.0; is_leaf = give.0 }, over_parts s r parts views answers seen.1 give.1)

pub parts_answered : (s : Schema) (r : LeafRequest) (parts : List FetchedSplit) (views : List PartView) (all : LeafAnswer) → AllZip IsViewOfPart parts views → IsJoinOf s r views all → AreAnswered s r parts all
parts_answered s r parts views all seen j = record { answers = j.answers; are_leaves = over_parts s r parts views j.answers seen j.are_leaves; joined = j.joined }

-- ---- the part that is refused

-- the parts of the views before one, and that of the one
record Viewed (parts : List FetchedSplit) (front : List PartView) (view : PartView) : Type 0 where
  before : List FetchedSplit
  part : FetchedSplit
  rest : List FetchedSplit
  parts_are : parts ≡ before ++ part ∷ rest
  long : length before ≡ length front
  seen : AllZip IsViewOfPart before front
  here : IsViewOfPart part view

viewed : (parts : List FetchedSplit) (front : List PartView) (view : PartView) (rest : List PartView) → AllZip IsViewOfPart parts (front ++ view ∷ rest) → Viewed parts front view
viewed [] [] view rest h = absurd h
viewed [] (v ∷ front) view rest h = absurd h
viewed (p ∷ parts) [] view rest h = record { before = []; part = p; rest = parts; parts_are = refl; long = refl; seen = tt; here = h.0 }
viewed (p ∷ parts) (v ∷ front) view rest h =
    let more = viewed parts front view rest h.1 in
    record { before = p ∷ more.before; part = more.part; rest = more.rest; parts_are = ap (λ (l : List FetchedSplit). p ∷ l) more.parts_are; long = ap suc more.long; seen = (h.0, more.seen); here = more.here }

beside_at : (before : List FetchedSplit) (part : FetchedSplit) (rest : List FetchedSplit) → slice_get (map beside_footer (before ++ part ∷ rest)) (length before) ≡ Some (beside_footer part)
beside_at [] part rest = refl
beside_at (p ∷ before) part rest = beside_at before part rest

some_is : {k m : FetchedPieces} → ◌≡◌ {A = Option FetchedPieces} (Some k) (Some m) → k ≡ m
some_is e = cc

module _ (s : Schema) (r : LeafRequest) (parts : List FetchedSplit) (splits : List FetchedPieces) (views : List PartView) (same : splits ≡ map beside_footer parts) (are : AllZip IsViewOfPart parts views) where
  no_part : (place : ℕ) (fault : LeafError) (error : AnswerError) → (IsMemory fault → ⊥) → IsNoLeaf s r views place fault → IsCorruptAt splits place error → IsRefusedPart s r parts error
  no_part place fault (Memory e) other n h = tt
  no_part place fault (Corrupt number) other n h =
      let v = viewed parts n.front n.view n.rest (subst (λ (l : List PartView). AllZip IsViewOfPart parts l) n.views_are are) in
      let beside = ap (λ (l : List FetchedSplit). slice_get (map beside_footer l) (length v.before)) v.parts_are ∙ beside_at v.before v.part v.rest in
      let split : h.0 ≡ beside_footer v.part =
      some_is (sym h.1 ∙ (ap (λ (l : List FetchedPieces). slice_get l place) same ∙ (ap (slice_get (map beside_footer parts)) (n.place_is ∙ sym v.long) ∙ beside))) in
      record {
        front = v.before;
        part = v.part;
        rest = v.rest;
        parts_are = v.parts_are;
        number_is = ap (λ (k : FetchedPieces). k.number) (sym split) ∙ h.2;
        answers = n.answers;
        before = over_parts s r v.before n.front n.answers v.seen n.before;
        fault = fault;
        failed = record { view = n.view; lends = v.here; is_leaf = n.failed };
        other = other;
        none = λ documents asked needed. n.none documents asked (has_asked s r v.part documents n.view asked needed v.here.footer v.here.pieces);
      }

  want : (fault : AnswerError) → WantsRoom fault → IsRefusedPart s r parts fault
  want (Memory e) h = tt
  want (Corrupt number) h = absurd h

  pub part_refused : (error : JoinFault) (fault : AnswerError) → IsRefusedIn s r views error → IsFaultAt splits error fault → IsRefusedPart s r parts fault
  part_refused (errors.Memory e) fault n h = want fault h
  part_refused (errors.Missing place at) fault n h = no_part place (leaf.Missing at) fault (λ never. never) n h
  part_refused (errors.Corrupt place section) fault n h = no_part place (leaf.Corrupt section) fault (λ never. never) n h
  part_refused errors.TooMany fault n h = want fault h

-- ---- what is said

pub said_of_all : (s : Schema) (ask : LeafAsk) (parts : List FetchedSplit) (all : LeafAnswer) (said : Result Said AllocError) → AreAnswered s ask.request parts all → IfOk said (IsShownOf s ask all) → IfOk said (IsSaidOver s ask parts)
said_of_all s ask parts all (Ok said) answered h = inl (all, answered, h)
said_of_all s ask parts all (Err e) answered h = tt

-- the fault of parts is that of the first split that was not read
pub said_of_broken : (s : Schema) (ask : LeafAsk) (parts : List FetchedSplit) (fault : AnswerError) (said : Result Said AllocError) → IsRefusedPart s ask.request parts fault → IfOk said (IsSaidOf fault) → IfOk said (IsSaidOver s ask parts)
said_of_broken s ask parts fault (Err e) refused h = tt
said_of_broken s ask parts (Memory e) (Ok said) refused h = absurd h
said_of_broken s ask parts (Corrupt number) (Ok said) refused h = inr (number, h, refused)

-- and there is none where nothing but memory wants
pub only_room : (P : Said → Type 0) (fault : AnswerError) (said : Result Said AllocError) → WantsRoom fault → IfOk said (IsSaidOf fault) → IfOk said P
only_room P fault (Err e) room h = tt
only_room P (Memory e) (Ok said) room h = absurd h
only_room P (Corrupt number) (Ok said) room h = absurd room
