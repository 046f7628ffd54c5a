-- Walks and what is written up to the key that they stand behind.
use Rattle.std.proofs.Common.{◌≡◌, ℕ, suc, ◌+◌, ◌≤◌, Bool, true, List, [], ◌∷◌, Option, Some, None, length, refl, ap, subst, inl, inr}
use Rattle.std.specs.List.{AllByRecursion}
use Rattle.doc_value.specs.declared.schema.Schema.{Schema}
use Rattle.term_postings.specs.declared.list.Posting.{Posting}
use Rattle.split_bundle.specs.declared.placed.Placed.{Placed}
use Rattle.split_bundle.specs.declared.split_view.SplitView.{SplitView}
use Rattle.split_build.specs.declared.term_parts.TermParts.{TermParts}
use Rattle.split_build.specs.WrittenTerms.{AreTermParts}
use Rattle.split_bundle.specs.Splits.{AreKeys}
use Rattle.split_merge.specs.declared.key_walks.KeyWalk.{KeyWalk}
use Rattle.split_merge.specs.declared.lists.KeyList.{KeyList}
use Rattle.split_merge.specs.declared.terms.JoinedTerms.{JoinedTerms}
use Rattle.split_merge.specs.Joining.{Holds, joined_list}
use Rattle.split_merge.specs.Keeping.{AreViewsOf, joined, kept}
use Rattle.split_merge.specs.Numbering.{kept_count, kept_in, no_number, tables_of}
use Rattle.split_merge.specs.Terms.{HasJoined, IsJoinedUpTo, IsNext}
use Rattle.split_merge.specs.Walking.{AreEnded, AreWalks, IsNotBelow, SomeAt, is_past}
use Rattle.split_merge.proofs.JoinLemmas.{list_joined}
use Rattle.split_merge.proofs.UpToLemmas.{least_said, none_said, up_to_all, up_to_none}
use Rattle.split_bundle.specs.Lists.{posting_list}

-- the key that some walk stands at is past the last one
pub past_of : (s : Schema) (last : Option (List ℕ)) (views : List SplitView) (walks : List KeyWalk) (key : List ℕ) → AreWalks s last views walks → SomeAt key walks → is_past last key ≡ true
past_of s last views [] key are some = absurd some
past_of s last [] (w ∷ ws) key are some = absurd are
past_of s last (v ∷ vs) (w ∷ ws) key are (inl here) = are.0.ahead key here
past_of s last (v ∷ vs) (w ∷ ws) key are (inr there) = past_of s last vs ws key are.1 there

pub tables_length : (dropped : List ℕ) (place next : ℕ) (views : List SplitView) → length (tables_of dropped place next views) ≡ length views
tables_length dropped place next [] = refl
tables_length dropped place next (v ∷ vs) = ap suc (tables_length dropped (place + v.layout.docs) (next + kept_count dropped place v.layout.docs) vs)

module _ (s : Schema) (numbers : List (List ℕ)) (views : List SplitView) where
  -- what is to be known of documents that are kept
  pub record AreKept (dropped : List ℕ) (lists : List (List Placed)) : Type 0 where
    pub tables : numbers ≡ tables_of dropped 0 0 views
    pub few : kept_in dropped 0 views ≤ no_number
    pub of : AreViewsOf s views lists

  -- the walks stand behind a last key, and what is written goes up to it
  pub record StandsBehind (walks : List KeyWalk) (terms : JoinedTerms) : Type 0 where
    pub last : Option (List ℕ)
    pub walks_are : AreWalks s last views walks
    pub only : (dropped : List ℕ) (lists : List (List Placed)) → AreKept dropped lists → IsJoinedUpTo terms s (kept dropped (joined lists)) last

  pub stands_first : (walks : List KeyWalk) (terms : JoinedTerms) → AreWalks s None views walks → ((ds : List Placed) → HasJoined terms s ds []) → StandsBehind walks terms
  stands_first walks terms are none = record { last = None; walks_are = are; only = λ dropped lists h. record { keys = []; are = up_to_none s (kept dropped (joined lists)); written = none (kept dropped (joined lists)) } }

  pub held_of : (key : List ℕ) (dropped : List ℕ) (lists : List (List Placed)) (counted : Bool) (l : KeyList) → AreKept dropped lists → Holds counted l (joined_list s key lists numbers) → Holds counted l (posting_list s (kept dropped (joined lists)) key)
  held_of key dropped lists counted l h holds =
      subst (λ (ps : List Posting). Holds counted l ps) (list_joined s key dropped views lists h.of h.few) (subst (λ (ts : List (List ℕ)). Holds counted l (joined_list s key lists ts)) h.tables holds)

  pub stands_next : (walks now : List KeyWalk) (terms next : JoinedTerms) (key : List ℕ) (counted : Bool) (l : KeyList) (h : StandsBehind walks terms) → AllByRecursion (IsNotBelow key) walks → AreWalks s (Some key) views now
      → ((lists : List (List Placed)) → AreViewsOf s views lists → Holds counted l (joined_list s key lists numbers))
      → ((ds : List Placed) → Holds counted l (posting_list s ds key) → IsNext s ds h.last key → IsJoinedUpTo terms s ds h.last → IsJoinedUpTo next s ds (Some key)) → StandsBehind now next
  stands_next walks now terms next key counted l h least are holds taken = record {
    last = Some key;
    walks_are = are;
    only = λ dropped lists k. taken (kept dropped (joined lists)) (held_of key dropped lists counted l k (holds lists k.of))
        (λ other past stands. least_said s dropped h.last views walks lists h.walks_are k.of key other least past stands) (h.only dropped lists k);
  }

  pub stands_last : (walks : List KeyWalk) (terms : JoinedTerms) (parts : TermParts) → StandsBehind walks terms → AreEnded walks
      → ((ds : List Placed) (keys : List (List ℕ)) → HasJoined terms s ds keys → AreKeys s ds keys → AreTermParts s ds parts) → (dropped : List ℕ) (lists : List (List Placed)) → AreKept dropped lists → AreTermParts s (kept dropped (joined lists)) parts
  stands_last walks terms parts h ended finish dropped lists k =
      let so_far = h.only dropped lists k in
      finish (kept dropped (joined lists)) so_far.keys so_far.written
      (up_to_all s (kept dropped (joined lists)) h.last so_far.keys so_far.are (λ key past stands. none_said s dropped h.last views walks lists h.walks_are k.of key ended past stands))
