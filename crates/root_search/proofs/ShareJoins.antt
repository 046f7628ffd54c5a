-- Shares of splits, joined.
use Rattle.std.proofs.Common.{◌≡◌, ℕ, ◌<◌, ◌≤◌, List, [], ◌∷◌, ◌++◌, Result, Ok, Err, IfOk, IfSome, Option, Some, None, refl, ap, sym, subst, ◌∙◌, arith, append_assoc, append-nil}
use Rattle.std.specs.List.{All, AllByRecursion, AllZip}
use Rattle.std.proofs.lemmas.List.Elements.{All-from_recursion}
use Rattle.std.specs.declared.alloc.AllocError.{AllocError}
use Rattle.doc_value.specs.declared.schema.Schema.{Schema}
use Rattle.agg_nested.specs.Buckets.{IsNestedPartial}
use Rattle.agg_nested.specs.declared.request.NestedAgg.{NestedAgg}
use Rattle.split_bundle.specs.declared.part_view.PartView.{PartView}
use Rattle.split_bundle.specs.declared.placed.Placed.{Placed}
use Rattle.doc_tallies.specs.Shares.{joined}
use Rattle.doc_sets.specs.declared.leaf_error.LeafError.{LeafError}
use Rattle.leaf_search.specs.declared.request.LeafAnswer.{LeafAnswer}
use Rattle.leaf_search.specs.declared.request.LeafRequest.{LeafRequest}
use Rattle.root_search.specs.Leaves.{AsksAlike, GivesShare, IsCounted, IsLeafAnswer, IsShareOf, LeafGives, all_of, all_ok, answers_in}
use Rattle.root_search.specs.Shares.{IsPart}
use Rattle.root_search.specs.declared.shares.SplitShare.{SplitShare}
use Rattle.root_search.proofs.Zipped.{zip_last}

pub some_is : {X : Type 0} (P : X → Type 0) (o : Option X) (x : X) → IfSome o P → o ≡ Some x → P x
some_is {X = X} P o x h e = subst (λ (p : Option X). IfSome p P) e h

-- ---- shares

-- what splits answered, where so many hits were wanted of each
pub shares_give : (s : Schema) (r asked : LeafRequest) (wanted : ℕ) (views : List PartView) (answers : List (Result LeafAnswer LeafError)) (shares : List SplitShare) → AsksAlike r asked → asked.wanted ≡ wanted → 0 < wanted → wanted ≤ r.wanted
    → AllZip (IsLeafAnswer s asked) views answers → AllZip (IsShareOf wanted) answers shares → AllZip (GivesShare s r) views shares
shares_give s r asked wanted [] [] [] alike e some few leaves are = tt
shares_give s r asked wanted [] [] (g ∷ shares) alike e some few leaves are = absurd are
shares_give s r asked wanted [] (a ∷ answers) shares alike e some few leaves are = absurd leaves
shares_give s r asked wanted (v ∷ views) [] shares alike e some few leaves are = absurd leaves
shares_give s r asked wanted (v ∷ views) (a ∷ answers) [] alike e some few leaves are = absurd are
shares_give s r asked wanted (v ∷ views) (a ∷ answers) (g ∷ shares) alike e some few leaves are =
    let same : g.wanted ≡ wanted = are.0.1 in
    let here : LeafGives s asked v g.answer = subst (IsLeafAnswer s asked v) are.0.0 leaves.0 in
    (record { asked = asked; alike = alike; wanted = e ∙ sym same; some = omega (arith, same, some); few = omega (arith, same, few); is_leaf = here }, shares_give s r asked wanted views answers shares alike e some few leaves.1 are.1)

pub shares_given : (s : Schema) (r asked : LeafRequest) (wanted : ℕ) (views : List PartView) (answers : List (Result LeafAnswer LeafError)) (result : Result (Option (List SplitShare)) AllocError) → AsksAlike r asked → asked.wanted ≡ wanted → 0 < wanted → wanted ≤ r.wanted
    → AllZip (IsLeafAnswer s asked) views answers → IfOk result (λ o. IfSome o (AllZip (IsShareOf wanted) answers)) → IfOk result (λ o. IfSome o (AllZip (GivesShare s r) views))
shares_given s r asked wanted views answers (Ok (Some shares)) alike e some few leaves are = shares_give s r asked wanted views answers shares alike e some few leaves are
shares_given s r asked wanted views answers (Ok None) alike e some few leaves are = tt
shares_given s r asked wanted views answers (Err refused) alike e some few leaves are = tt

-- the shares of the first answers
pub record IsSharing (wanted : ℕ) (answers left : List (Result LeafAnswer LeafError)) (shares : List SplitShare) : Type 0 where
  pub front : List (Result LeafAnswer LeafError)
  pub parts : front ++ left ≡ answers
  pub are : AllZip (IsShareOf wanted) front shares

pub sharing_begun : (wanted : ℕ) (answers left : List (Result LeafAnswer LeafError)) (shares : List SplitShare) → left ≡ answers → shares ≡ [] → IsSharing wanted answers left shares
sharing_begun wanted answers left shares e none = record { front = []; parts = e; are = subst (λ (l : List SplitShare). AllZip (IsShareOf wanted) [] l) (sym none) tt }

pub sharing_more : (wanted : ℕ) (answers left left' : List (Result LeafAnswer LeafError)) (shares shares' : List SplitShare) (a : LeafAnswer) → IsSharing wanted answers left shares → left ≡ Ok a ∷ left'
    → shares' ≡ shares ++ record { wanted = wanted; answer = a } ∷ [] → IsSharing wanted answers left' shares'
sharing_more wanted answers left left' shares shares' a h e more =
    record {
      front = h.front ++ Ok a ∷ [];
      parts = append_assoc h.front (Ok a ∷ []) left' ∙ (ap (λ (l : List (Result LeafAnswer LeafError)). h.front ++ l) (sym e) ∙ h.parts);
      are = subst (λ (l : List SplitShare). AllZip (IsShareOf wanted) (h.front ++ Ok a ∷ []) l) (sym more) (zip_last (IsShareOf wanted) h.front shares (Ok a) (record { wanted = wanted; answer = a }) h.are (refl, refl));
    }

pub sharing_done : (wanted : ℕ) (answers left : List (Result LeafAnswer LeafError)) (shares : List SplitShare) → IsSharing wanted answers left shares → left ≡ [] → AllZip (IsShareOf wanted) answers shares
sharing_done wanted answers left shares h none =
    subst (λ (l : List (Result LeafAnswer LeafError)). AllZip (IsShareOf wanted) l shares) (sym (append-nil h.front) ∙ (ap (λ (l : List (Result LeafAnswer LeafError)). h.front ++ l) (sym none) ∙ h.parts)) h.are

-- the answers of the first shares
abbrev pub IsAnswering : List SplitShare → List SplitShare → List (Result LeafAnswer LeafError) → Type 0
IsAnswering shares left answers = answers ++ all_ok (answers_in left) ≡ all_ok (answers_in shares)

pub answering_begun : (shares left : List SplitShare) (answers : List (Result LeafAnswer LeafError)) → left ≡ shares → answers ≡ [] → IsAnswering shares left answers
answering_begun shares left answers e none = ap (λ (l : List (Result LeafAnswer LeafError)). l ++ all_ok (answers_in left)) none ∙ ap (λ (l : List SplitShare). all_ok (answers_in l)) e

pub answering_more : (shares left left' : List SplitShare) (answers answers' : List (Result LeafAnswer LeafError)) (g : SplitShare) → IsAnswering shares left answers → left ≡ g ∷ left' → answers' ≡ answers ++ Ok g.answer ∷ [] → IsAnswering shares left' answers'
answering_more shares left left' answers answers' g h e more =
    ap (λ (l : List (Result LeafAnswer LeafError)). l ++ all_ok (answers_in left')) more
    ∙ (append_assoc answers (Ok g.answer ∷ []) (all_ok (answers_in left')) ∙ (ap (λ (l : List SplitShare). answers ++ all_ok (answers_in l)) (sym e) ∙ h))

pub answering_done : (shares left : List SplitShare) (answers : List (Result LeafAnswer LeafError)) → IsAnswering shares left answers → left ≡ [] → answers ≡ all_ok (answers_in shares)
answering_done shares left answers h none = sym (append-nil answers) ∙ (ap (λ (l : List SplitShare). answers ++ all_ok (answers_in l)) (sym none) ∙ h)

pub share_counted : (s : Schema) (r : LeafRequest) (v : PartView) (g : SplitShare) → GivesShare s r v g → IsCounted r g.answer
share_counted s r v g gives =
    let counted = gives.is_leaf.counted in
    record { partial = subst (λ (aggs : List NestedAgg). IsNestedPartial aggs g.answer.partial) gives.alike.aggs counted.partial; many = counted.many }

pub shares_counted : (s : Schema) (r : LeafRequest) (views : List PartView) (shares : List SplitShare) (answers : List (Result LeafAnswer LeafError)) → AllZip (GivesShare s r) views shares → answers ≡ all_ok (answers_in shares)
    → All (λ answer. IfOk answer (IsCounted r)) answers
shares_counted s r views shares answers give e = subst (λ (l : List (Result LeafAnswer LeafError)). All (λ answer. IfOk answer (IsCounted r)) l) (sym e) (All-from_recursion (λ answer. IfOk answer (IsCounted r)) (all_ok (answers_in shares)) (go views shares give))
  where
    go : (views : List PartView) (shares : List SplitShare) → AllZip (GivesShare s r) views shares → AllByRecursion (λ answer. IfOk answer (IsCounted r)) (all_ok (answers_in shares))
    go [] [] give = tt
    go [] (g ∷ shares) give = absurd give
    go (v ∷ views) [] give = absurd give
    go (v ∷ views) (g ∷ shares) give = (share_counted s r v g give.0, go views shares give.1)

pub are_parts : (s : Schema) (r : LeafRequest) (views : List PartView) (shares : List SplitShare) → AllZip (GivesShare s r) views shares → AllByRecursion (IsPart r.wanted) shares
are_parts s r [] [] give = tt
are_parts s r [] (g ∷ shares) give = absurd give
are_parts s r (v ∷ views) [] give = absurd give
are_parts s r (v ∷ views) (g ∷ shares) give = (give.0.few, are_parts s r views shares give.1)

pub ok_same : (xs ys : List LeafAnswer) → all_ok xs ≡ all_ok ys → xs ≡ ys
ok_same [] [] e = refl
ok_same [] (y ∷ ys) e = absurd (cc)
ok_same (x ∷ xs) [] e = absurd (cc)
ok_same (x ∷ xs) (y ∷ ys) e =
    let one : x ≡ y = cc in
    let rest : all_ok xs ≡ all_ok ys = cc in
    ap (λ (a : LeafAnswer). a ∷ xs) one ∙ ap (λ (l : List LeafAnswer). y ∷ l) (ok_same xs ys rest)

pub joined_are : (lists : List (List Placed)) → joined lists ≡ all_of lists
joined_are [] = refl
joined_are (own ∷ lists) = ap (λ (l : List Placed). own ++ l) (joined_are lists)
