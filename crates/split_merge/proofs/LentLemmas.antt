-- Documents in the bytes of their splits.
use Rattle.std.proofs.Common.{◌≡◌, ℕ, zero, suc, ◌+◌, ◌<◌, ◌≤◌, List, [], ◌∷◌, ◌++◌, map, length, drop, get_or, Some, refl, sym, ◌∙◌, ap, subst, arith, append_assoc}
use Rattle.std.specs.Prelude.{slice_get}
use Rattle.std.specs.List.{AllByRecursion, flat_map}
use Rattle.std.proofs.lemmas.List.{append-nil, length-map}
use Rattle.std.proofs.lemmas.Option.{slice_get_within}
use Rattle.byte_fields.specs.Spelling.{varint, eight}
use Rattle.split_bundle.specs.declared.placed.Placed.{Placed}
use Rattle.split_bundle.specs.Documents.{documents_section, each_in_bytes, joined, place_among, placed_bytes, starts}
use Rattle.split_bundle.specs.Splits.{names_of}
use Rattle.split_build.specs.Bodies.{body_of}
use Rattle.split_build.specs.HeldDocuments.{AreNamesOf}
use Rattle.split_build.specs.Members.{IsAmong}
use Rattle.split_build.proofs.DocumentLemmas.{all_more, all_new, get_more, names_push}
use Rattle.split_build.proofs.PartitionLemmas.{get_among}
use Rattle.split_merge.specs.declared.lent_documents.LentDocument.{LentDocument}
use Rattle.split_merge.specs.declared.lent_documents.LentDocuments.{LentDocuments}
use Rattle.split_merge.specs.LentDocuments.{AreLent, HasLent, IsNumbered, in_bytes}
use Rattle.split_merge.proofs.GatherLemmas.{drop_is}

-- ---- one more document

lent_grown : (ns more : List (List ℕ)) (bs : List LentDocument) (ds : List Placed) → AreLent ns bs ds → AreLent (ns ++ more) bs ds
lent_grown ns more [] [] h = tt
lent_grown ns more [] (d ∷ ds) h = absurd h
lent_grown ns more (b ∷ bs) [] h = absurd h
lent_grown ns more (b ∷ bs) (d ∷ ds) h = (get_more ns more b.name d.partition h.0, h.1, lent_grown ns more bs ds h.2)

lent_push : (ns : List (List ℕ)) (bs : List LentDocument) (ds : List Placed) (b : LentDocument) (d : Placed) → AreLent ns bs ds → slice_get ns b.name ≡ Some d.partition → b.body.now ≡ body_of d
    → AreLent ns (bs ++ b ∷ []) (ds ++ d ∷ [])
lent_push ns [] [] b d h at body = (at, body, tt)
lent_push ns [] (x ∷ ds) b d h at body = absurd h
lent_push ns (x ∷ bs) [] b d h at body = absurd h
lent_push ns (x ∷ bs) (y ∷ ds) b d h at body = (h.0, h.1, lent_push ns bs ds b d h.2 at body)

pub lent_more : (old new : LentDocuments) (ds : List Placed) (d : Placed) (b : LentDocument) (more : List (List ℕ)) → HasLent old ds → new.names.items ≡ old.names.items ++ more → AllByRecursion (λ m. m ≡ d.partition) more
    → slice_get new.names.items b.name ≡ Some d.partition → b.body.now ≡ body_of d → new.documents.items ≡ old.documents.items ++ b ∷ [] → HasLent new (ds ++ d ∷ [])
lent_more old new ds d b more h grown new_ones at body pushed = record {
  lent =
      let first : AreLent new.names.items old.documents.items ds = subst (λ (l : List (List ℕ)). AreLent l old.documents.items ds) (sym grown) (lent_grown old.names.items more old.documents.items ds h.lent) in
      subst (λ (l : List LentDocument). AreLent new.names.items l (ds ++ d ∷ [])) (sym pushed) (lent_push new.names.items old.documents.items ds b d first at body);
  names =
      let all = all_new (names_of ds) d.partition old.names.items more (all_more (names_of ds) d.partition old.names.items h.names) new_ones in
      subst (λ (l : List (List ℕ)). AllByRecursion (IsAmong l) new.names.items) (sym (names_push ds d)) (subst (λ (l : List (List ℕ)). AllByRecursion (IsAmong (names_of ds ++ d.partition ∷ [])) l) (sym grown) all);
}

-- ---- the partitions

lent_among : (names : List (List ℕ)) (bs : List LentDocument) (ds : List Placed) → AreLent names bs ds → AllByRecursion (IsAmong names) (names_of ds)
lent_among names [] [] h = tt
lent_among names [] (d ∷ ds) h = absurd h
lent_among names (b ∷ bs) [] h = tt
lent_among names (b ∷ bs) (d ∷ ds) h = (get_among names b.name d.partition h.0, lent_among names bs ds h.2)

pub are_names : (l : LentDocuments) (ds : List Placed) → HasLent l ds → AreNamesOf ds l.names.items
are_names l ds h = record { known = h.names; all = lent_among l.names.items l.documents.items ds h.lent }

-- ---- the section

numbered : (names places : List (List ℕ)) (bs : List LentDocument) (ds : List Placed) → length places ≡ length names → AreLent names bs ds → AllByRecursion (IsNumbered places) bs
numbered names places [] ds size h = tt
numbered names places (b ∷ bs) [] size h = absurd h
numbered names places (b ∷ bs) (d ∷ ds) size h = (omega (arith, size, slice_get_within names b.name d.partition h.0), numbered names places bs ds size h.2)

pub all_numbered : (l : LentDocuments) (ds : List Placed) (partitions places : List (List ℕ)) → places ≡ map varint (map (place_among partitions) l.names.items) → HasLent l ds → AllByRecursion (IsNumbered places) l.documents.items
all_numbered l ds partitions places is h =
    numbered l.names.items places l.documents.items ds (ap (λ (ps : List (List ℕ)). length ps) is ∙ length-map (map (place_among partitions) l.names.items) varint ∙ length-map l.names.items (place_among partitions)) h.lent

place_at : (partitions names : List (List ℕ)) (i : ℕ) (x : List ℕ) → slice_get names i ≡ Some x → get_or (map varint (map (place_among partitions) names)) i [] ≡ varint (place_among partitions x)
place_at partitions [] i x e = absurd cc
place_at partitions (n ∷ ns) zero x e =
    let same : n ≡ x = cc in
    ap (λ (l : List ℕ). varint (place_among partitions l)) same
place_at partitions (n ∷ ns) (suc i) x e = place_at partitions ns i x e

each_lent : (partitions names places : List (List ℕ)) (bs : List LentDocument) (ds : List Placed) → places ≡ map varint (map (place_among partitions) names) → AreLent names bs ds → in_bytes places bs ≡ each_in_bytes partitions ds
each_lent partitions names places [] [] is h = refl
each_lent partitions names places [] (d ∷ ds) is h = absurd h
each_lent partitions names places (b ∷ bs) [] is h = absurd h
each_lent partitions names places (b ∷ bs) (d ∷ ds) is h =
    let place : get_or places b.name [] ≡ varint (place_among partitions d.partition) = ap (λ (ps : List (List ℕ)). get_or ps b.name []) is ∙ place_at partitions names b.name d.partition h.0 in
    let one : get_or places b.name [] ++ b.body.now ≡ placed_bytes partitions d = ap (λ (l : List ℕ). l ++ b.body.now) place ∙ ap (λ (l : List ℕ). varint (place_among partitions d.partition) ++ l) h.1 in
    ap (λ (l : List ℕ). l ∷ in_bytes places bs) one ∙ ap (λ (ls : List (List ℕ)). placed_bytes partitions d ∷ ls) (each_lent partitions names places bs ds is h.2)

pub section_lent : (l : LentDocuments) (ds : List Placed) (partitions places : List (List ℕ)) (before begun whole : List ℕ) → places ≡ map varint (map (place_among partitions) l.names.items) → HasLent l ds
    → begun ≡ before ++ flat_map eight (starts 0 (in_bytes places l.documents.items)) → whole ≡ begun ++ joined (in_bytes places l.documents.items) → whole ≡ before ++ documents_section partitions ds
section_lent l ds partitions places before begun whole is h begun_is whole_is =
    let each = each_lent partitions l.names.items places l.documents.items ds is h.lent in
    whole_is ∙ ap (λ (b : List ℕ). b ++ joined (in_bytes places l.documents.items)) begun_is
    ∙ append_assoc before (flat_map eight (starts 0 (in_bytes places l.documents.items))) (joined (in_bytes places l.documents.items))
    ∙ ap (λ (ls : List (List ℕ)). before ++ (flat_map eight (starts 0 ls) ++ joined ls)) each

-- ---- one document after the other

pub got_again : {X : Type 0} (xs : List X) (i : ℕ) (d : X) → get_or xs i d ≡ get_or xs i (get_or xs i d)
got_again [] i d = refl
got_again (y ∷ ys) zero d = refl
got_again (y ∷ ys) (suc i) d = got_again ys i d

got : (xs : List (List ℕ)) (i : ℕ) (x : List ℕ) → i < length xs → x ≡ get_or xs i x → get_or xs i [] ≡ x
got [] i x lt is = absurd (omega (arith, lt))
got (y ∷ ys) zero x lt is = sym is
got (y ∷ ys) (suc i) x lt is = got ys i x (omega (arith, lt)) is

none_past : {X : Type 0} (xs : List X) (i : ℕ) → length xs ≤ i → drop i xs ≡ []
none_past [] zero le = refl
none_past [] (suc i) le = refl
none_past (x ∷ xs) zero le = absurd (omega (arith, le))
none_past (x ∷ xs) (suc i) le = none_past xs i (omega (arith, le))

module _ (places : List (List ℕ)) (bs : List LentDocument) (i : ℕ) where
  module _ (d : LentDocument) where
    abbrev first : LentDocument
    first = get_or bs i d

    module _ (lt : i < length bs) (all_are : AllByRecursion (IsNumbered places) (drop i bs)) where
      front : drop i bs ≡ first ∷ drop (i + 1) bs
      front = drop_is bs i first d lt refl

      here : AllByRecursion (IsNumbered places) (first ∷ drop (i + 1) bs)
      here = subst (λ (l : List LentDocument). AllByRecursion (IsNumbered places) l) front all_are

      pub numbered_at : first.name < length places
      numbered_at = here.0

      in_front : (place : List ℕ) → place ≡ get_or places first.name place → in_bytes places (drop i bs) ≡ (place ++ first.body.now) ∷ in_bytes places (drop (i + 1) bs)
      in_front place is =
          ap (λ (l : List LentDocument). in_bytes places l) front ∙ ap (λ (p : List ℕ). (p ++ first.body.now) ∷ in_bytes places (drop (i + 1) bs)) (got places first.name place here.0 is)

  pub start_step : (d : LentDocument) (out out1 before all : List ℕ) (start next : ℕ) (place : List ℕ) → i < length bs → AllByRecursion (IsNumbered places) (drop i bs) → place ≡ get_or places (get_or bs i d).name place
      → out1 ≡ out ++ eight start → next ≡ start + length (place ++ (get_or bs i d).body.now) → out ++ flat_map eight (starts start (in_bytes places (drop i bs))) ≡ before ++ all
      → AllByRecursion (IsNumbered places) (drop (i + 1) bs) × (out1 ++ flat_map eight (starts next (in_bytes places (drop (i + 1) bs))) ≡ before ++ all)
  start_step d out out1 before all start next place lt all_are is out_is next_is put = (
    (here d lt all_are).1,
    ap (λ (l : List ℕ). l ++ flat_map eight (starts next (in_bytes places (drop (i + 1) bs)))) out_is ∙ append_assoc out (eight start) (flat_map eight (starts next (in_bytes places (drop (i + 1) bs))))
        ∙ ap (λ (n : ℕ). out ++ (eight start ++ flat_map eight (starts n (in_bytes places (drop (i + 1) bs))))) next_is
        ∙ ap (λ (ls : List (List ℕ)). out ++ flat_map eight (starts start ls)) (sym (in_front d lt all_are place is)) ∙ put,
  )

  pub start_end : (out out1 before all : List ℕ) (start : ℕ) → length bs ≤ i → out ++ flat_map eight (starts start (in_bytes places (drop i bs))) ≡ before ++ all → out1 ≡ out ++ eight start → out1 ≡ before ++ all
  start_end out out1 before all start le put out_is =
      out_is ∙ ap (λ (l : List ℕ). out ++ l) (sym (append-nil (eight start))) ∙ ap (λ (l : List LentDocument). out ++ flat_map eight (starts start (in_bytes places l))) (sym (none_past bs i le)) ∙ put

  pub document_step : (d : LentDocument) (out out1 out2 before all place : List ℕ) → i < length bs → AllByRecursion (IsNumbered places) (drop i bs) → place ≡ get_or places (get_or bs i d).name place
      → out1 ≡ out ++ place → out2 ≡ out1 ++ (get_or bs i d).body.now → out ++ joined (in_bytes places (drop i bs)) ≡ before ++ all
      → AllByRecursion (IsNumbered places) (drop (i + 1) bs) × (out2 ++ joined (in_bytes places (drop (i + 1) bs)) ≡ before ++ all)
  document_step d out out1 out2 before all place lt all_are is one two put = (
    (here d lt all_are).1,
    ap (λ (l : List ℕ). l ++ joined (in_bytes places (drop (i + 1) bs))) (two ∙ ap (λ (l : List ℕ). l ++ (get_or bs i d).body.now) one ∙ append_assoc out place (get_or bs i d).body.now)
        ∙ append_assoc out (place ++ (get_or bs i d).body.now) (joined (in_bytes places (drop (i + 1) bs)))
        ∙ ap (λ (ls : List (List ℕ)). out ++ joined ls) (sym (in_front d lt all_are place is)) ∙ put,
  )

  pub document_end : (out before all : List ℕ) → length bs ≤ i → out ++ joined (in_bytes places (drop i bs)) ≡ before ++ all → out ≡ before ++ all
  document_end out before all le put = sym (append-nil out) ∙ ap (λ (l : List LentDocument). out ++ joined (in_bytes places l)) (sym (none_past bs i le)) ∙ put
