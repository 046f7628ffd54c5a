-- Footers part from what else is kept of their splits, and each goes into the view of its split.
use Rattle.std.proofs.Common.{◌≡◌, ◌<◌, ◌≤◌, ◌+◌, ℕ, List, [], ◌∷◌, ◌++◌, map, drop, get_or, length, refl, sym, ap, ◌∙◌, subst, append_assoc, append-nil}
use Rattle.std.specs.List.{AllZip}
use Rattle.std.proofs.lemmas.List.{drop_more, drop_all}
use Rattle.doc_value.specs.declared.schema.Schema.{Schema}
use Rattle.leaf_search.specs.Answers.{IsAsked}
use Rattle.leaf_search.specs.declared.request.LeafRequest.{LeafRequest}
use Rattle.split_bundle.specs.declared.footer.Footer.{Footer}
use Rattle.split_bundle.specs.declared.part_view.PartView.{PartView}
use Rattle.split_bundle.specs.declared.placed.Placed.{Placed}
use Rattle.root_search.specs.Leaves.{HasAsked}
use Rattle.root_search.specs.PartAnswers.{IsViewOfPart}
use Rattle.root_search.specs.FetchedSplits.{HasNeeded, IsLentBy, IsParted, beside_footer}
use Rattle.root_search.specs.declared.fetched_splits.FetchedPieces.{FetchedPieces}
use Rattle.root_search.specs.declared.fetched_splits.FetchedSplit.{FetchedSplit}
use Rattle.root_search.proofs.PartViews.{has_asked}
use Rattle.root_search.proofs.Zipped.{zip_last}

-- ---- parting

-- so many have parted, and these are left
pub record IsParting (parts : List FetchedSplit) (footers : List Footer) (splits : List FetchedPieces) (left : List FetchedSplit) : Type 0 where
  pub footers_are : map (λ (part : FetchedSplit). part.footer) parts ≡ footers ++ map (λ (part : FetchedSplit). part.footer) left
  pub splits_are : map beside_footer parts ≡ splits ++ map beside_footer left

pub parting_begun : (parts : List FetchedSplit) (footers : List Footer) (splits : List FetchedPieces) (left : List FetchedSplit) → left ≡ parts → footers ≡ [] → splits ≡ [] → IsParting parts footers splits left
parting_begun parts footers splits left e f k =
    let fs : List Footer = map (λ (part : FetchedSplit). part.footer) left in
    let ks : List FetchedPieces = map beside_footer left in
    record {
      footers_are = ap (map (λ (part : FetchedSplit). part.footer)) (sym e) ∙ ap (λ (l : List Footer). l ++ fs) (sym f);
      splits_are = ap (map beside_footer) (sym e) ∙ ap (λ (l : List FetchedPieces). l ++ ks) (sym k);
    }

pub parting_more : (parts : List FetchedSplit) (footers new_footers : List Footer) (splits new_splits : List FetchedPieces) (left rest : List FetchedSplit) (part : FetchedSplit) → IsParting parts footers splits left → left ≡ part ∷ rest
    → new_footers ≡ footers ++ part.footer ∷ [] → new_splits ≡ splits ++ beside_footer part ∷ [] → IsParting parts new_footers new_splits rest
parting_more parts footers new_footers splits new_splits left rest part h e f k =
    let fs : List Footer = map (λ (part : FetchedSplit). part.footer) rest in
    let ks : List FetchedPieces = map beside_footer rest in
    record {
      footers_are = h.footers_are ∙ (ap (λ (l : List FetchedSplit). footers ++ map (λ (part : FetchedSplit). part.footer) l) e ∙ (sym (append_assoc footers (part.footer ∷ []) fs) ∙ ap (λ (l : List Footer). l ++ fs) (sym f)));
      splits_are = h.splits_are ∙ (ap (λ (l : List FetchedSplit). splits ++ map beside_footer l) e ∙ (sym (append_assoc splits (beside_footer part ∷ []) ks) ∙ ap (λ (l : List FetchedPieces). l ++ ks) (sym k)));
    }

pub parting_done : (parts : List FetchedSplit) (footers : List Footer) (splits : List FetchedPieces) (left : List FetchedSplit) → IsParting parts footers splits left → left ≡ [] → IsParted parts footers splits
parting_done parts footers splits left h e = (
  sym (h.footers_are ∙ (ap (λ (l : List FetchedSplit). footers ++ map (λ (part : FetchedSplit). part.footer) l) e ∙ append-nil footers)),
  sym (h.splits_are ∙ (ap (λ (l : List FetchedSplit). splits ++ map beside_footer l) e ∙ append-nil splits)),
)

pub parted_at : (parts : List FetchedSplit) (footers : List Footer) (splits at : List FetchedPieces) → at ≡ splits → IsParted parts footers splits → IsParted parts footers at
parted_at parts footers splits at e h = (h.0, e ∙ h.1)

-- ---- views of parts

-- so many views are those of the first parts, and the footers and splits that are left are those of the others
pub record AreSeen (parts : List FetchedSplit) (splits : List FetchedPieces) (place : ℕ) (left : List Footer) (views : List PartView) : Type 0 where
  pub front : List FetchedSplit
  pub rest : List FetchedSplit
  pub parts_are : front ++ rest ≡ parts
  pub seen : AllZip IsViewOfPart front views
  pub footers_left : left ≡ map (λ (part : FetchedSplit). part.footer) rest
  pub splits_left : drop place splits ≡ map beside_footer rest

pub seeing_begun : (parts : List FetchedSplit) (footers left : List Footer) (splits : List FetchedPieces) (views : List PartView) → left ≡ footers → views ≡ [] → IsParted parts footers splits → AreSeen parts splits 0 left views
seeing_begun parts footers left splits views e none parted =
    record { front = []; rest = parts; parts_are = refl; seen = subst (λ (vs : List PartView). AllZip IsViewOfPart [] vs) (sym none) tt; footers_left = e ∙ parted.0; splits_left = parted.1 }

-- the next part that is viewed
pub record IsNextSeen (parts : List FetchedSplit) (splits : List FetchedPieces) (place : ℕ) (footer : Footer) (split : FetchedPieces) (left : List Footer) (views : List PartView) : Type 0 where
  pub part : FetchedSplit
  pub footer_is : part.footer ≡ footer
  pub pieces_are : part.pieces ≡ split.pieces
  pub then : (view : PartView) → IsViewOfPart part view → AreSeen parts splits (place + 1) left (views ++ view ∷ [])

mapped_none : {A B : Type 0} (f : A → B) (xs : List A) → [] ≡ map f xs → xs ≡ []
mapped_none f [] e = refl
mapped_none f (x ∷ xs) e = absurd (cc)

front_only : (parts : List FetchedSplit) (views : List PartView) (front rest : List FetchedSplit) → front ++ rest ≡ parts → AllZip IsViewOfPart front views → rest ≡ [] → AllZip IsViewOfPart parts views
front_only parts views front rest e seen none =
    subst (λ (ps : List FetchedSplit). AllZip IsViewOfPart ps views) (sym (append-nil front) ∙ (ap (λ (l : List FetchedSplit). front ++ l) (sym none) ∙ e)) seen

next_of : (parts : List FetchedSplit) (splits : List FetchedPieces) (place : ℕ) (footer : Footer) (split : FetchedPieces) (left : List Footer) (views : List PartView) (front rest : List FetchedSplit) → front ++ rest ≡ parts → AllZip IsViewOfPart front views
    → footer ∷ left ≡ map (λ (part : FetchedSplit). part.footer) rest → split ∷ drop (place + 1) splits ≡ map beside_footer rest → IsNextSeen parts splits place footer split left views
next_of parts splits place footer split left views front [] e seen fl sl = absurd (cc)
next_of parts splits place footer split left views front (p ∷ ps) e seen fl sl =
    let same : beside_footer p ≡ split = cc in
    record {
      part = p;
      footer_is = cc;
      pieces_are = ap (λ (k : FetchedPieces). k.pieces) same;
      then = λ view is. record {
        front = front ++ p ∷ [];
        rest = ps;
        parts_are = append_assoc front (p ∷ []) ps ∙ e;
        seen = zip_last IsViewOfPart front views p view seen is;
        footers_left = cc;
        splits_left = cc;
      };
    }

pub seeing_next : (parts : List FetchedSplit) (splits : List FetchedPieces) (place : ℕ) (left rest : List Footer) (views : List PartView) (footer : Footer) (split : FetchedPieces) → AreSeen parts splits place left views → left ≡ footer ∷ rest → place < length splits → split ≡ get_or splits place split
    → IsNextSeen parts splits place footer split rest views
seeing_next parts splits place left rest views footer split h e lt is =
    let here : split ∷ drop (place + 1) splits ≡ drop place splits = ap (λ (k : FetchedPieces). k ∷ drop (place + 1) splits) is ∙ sym (drop_more splits place split lt) in
    next_of parts splits place footer split rest views h.front h.rest h.parts_are h.seen (sym e ∙ h.footers_left) (here ∙ h.splits_left)

-- all parts are viewed, where no footer or no split is left
pub all_footers_seen : (parts : List FetchedSplit) (splits : List FetchedPieces) (place : ℕ) (left : List Footer) (views : List PartView) → AreSeen parts splits place left views → left ≡ [] → AllZip IsViewOfPart parts views
all_footers_seen parts splits place left views h none = front_only parts views h.front h.rest h.parts_are h.seen (mapped_none (λ (part : FetchedSplit). part.footer) h.rest (sym none ∙ h.footers_left))

pub all_splits_seen : (parts : List FetchedSplit) (splits : List FetchedPieces) (place : ℕ) (left : List Footer) (views : List PartView) → AreSeen parts splits place left views → length splits ≤ place → AllZip IsViewOfPart parts views
all_splits_seen parts splits place left views h over = front_only parts views h.front h.rest h.parts_are h.seen (mapped_none beside_footer h.rest (sym (drop_all place splits over) ∙ h.splits_left))

-- the view of each part lends what is kept of it
pub all_lent : (parts : List FetchedSplit) (splits : List FetchedPieces) (views : List PartView) → splits ≡ map beside_footer parts → AllZip IsViewOfPart parts views → AllZip IsLentBy splits views
all_lent parts splits views same seen = subst (λ (l : List FetchedPieces). AllZip IsLentBy l views) (sym same) (go parts views seen)
  where
    go : (parts : List FetchedSplit) (views : List PartView) → AllZip IsViewOfPart parts views → AllZip IsLentBy (map beside_footer parts) views
    go [] [] seen = tt
    go [] (v ∷ views) seen = absurd seen
    go (p ∷ parts) [] seen = absurd seen
    go (p ∷ parts) (v ∷ views) seen = (seen.0.pieces, go parts views seen.1)

-- a view of each part has what is asked of it
pub all_asked : (s : Schema) (r : LeafRequest) (parts : List FetchedSplit) (views : List PartView) (lists : List (List Placed)) → IsAsked s r → AllZip IsViewOfPart parts views → AllZip (HasNeeded s r) parts lists → AllZip (HasAsked s r) views lists
all_asked s r [] [] [] ask seen needed = tt
all_asked s r [] [] (ds ∷ lists) ask seen needed = absurd needed
all_asked s r [] (v ∷ views) lists ask seen needed = absurd seen
all_asked s r (p ∷ parts) [] lists ask seen needed = absurd seen
all_asked s r (p ∷ parts) (v ∷ views) [] ask seen needed = absurd needed
all_asked s r (p ∷ parts) (v ∷ views) (ds ∷ lists) ask seen needed = (has_asked s r p ds v ask needed.0 seen.0.footer seen.0.pieces, all_asked s r parts views lists ask seen.1 needed.1)
