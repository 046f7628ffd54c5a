-- Documents in bytes, one after the other.
use Rattle.std.proofs.Common.{◌≡◌, ℕ, zero, suc, ◌+◌, ◌<◌, ◌≤◌, List, [], ◌∷◌, ◌++◌, map, length, take, drop, get_or, Some, refl, sym, ◌∙◌, ap, subst, arith, append_assoc, length-append, inl, inr}
use Rattle.std.specs.Prelude.{slice_get}
use Rattle.std.specs.List.{AllByRecursion, flat_map}
use Rattle.std.proofs.lemmas.List.{append-nil, map_push, take_more}
use Rattle.std.proofs.lemmas.Option.{slice_get_within}
use Rattle.byte_fields.specs.Spelling.{varint, eight}
use Rattle.split_bundle.specs.declared.placed.Placed.{Placed}
use Rattle.split_bundle.specs.Documents.{place_among, placed_bytes, starts, each_in_bytes, joined, documents_section}
use Rattle.split_bundle.specs.Splits.{names_of}
use Rattle.split_build.specs.declared.documents.Piece.{Piece}
use Rattle.split_build.specs.declared.documents.DocumentLog.{DocumentLog}
use Rattle.split_build.specs.Bodies.{body_of}
use Rattle.split_build.specs.Members.{IsAmong}
use Rattle.split_build.specs.HeldDocuments.{ArePieces, HasDocuments}

-- ---- one more element

pub mapped_more : {X Y : Type 0} (f : X → Y) (xs : List X) (i : ℕ) (x : X) (ys new : List Y) (y : Y) → i < length xs → x ≡ get_or xs i x → new ≡ ys ++ y ∷ [] → y ≡ f x → ys ≡ map f (take i xs) → new ≡ map f (take (i + 1) xs)
mapped_more {X} {Y} f xs i x ys new y lt is pushed at before =
    pushed ∙ ap (λ (l : List Y). l ++ y ∷ []) before ∙ ap (λ (z : Y). map f (take i xs) ++ z ∷ []) (at ∙ ap f is) ∙ sym (map_push f (take i xs) (get_or xs i x)) ∙ ap (λ (l : List X). map f l) (sym (take_more xs i x lt))

-- ---- one more document

pub get_more : (ns more : List (List ℕ)) (i : ℕ) (x : List ℕ) → slice_get ns i ≡ Some x → slice_get (ns ++ more) i ≡ Some x
get_more [] more i x e = absurd cc
get_more (n ∷ ns) more zero x e = e
get_more (n ∷ ns) more (suc i) x e = get_more ns more i x e

pieces_more : (ns more : List (List ℕ)) (bs : List Piece) (ds : List Placed) → ArePieces ns bs ds → ArePieces (ns ++ more) bs ds
pieces_more ns more [] [] h = tt
pieces_more ns more [] (d ∷ ds) h = absurd h
pieces_more ns more (b ∷ bs) [] h = absurd h
pieces_more ns more (b ∷ bs) (d ∷ ds) h = (get_more ns more b.name d.partition h.0, h.1, pieces_more ns more bs ds h.2)

pieces_push : (ns : List (List ℕ)) (bs : List Piece) (ds : List Placed) (b : Piece) (d : Placed) → ArePieces ns bs ds → slice_get ns b.name ≡ Some d.partition → b.len ≡ length (body_of d)
    → ArePieces ns (bs ++ b ∷ []) (ds ++ d ∷ [])
pieces_push ns [] [] b d h at len = (at, len, tt)
pieces_push ns [] (x ∷ ds) b d h at len = absurd h
pieces_push ns (x ∷ bs) [] b d h at len = absurd h
pieces_push ns (x ∷ bs) (y ∷ ds) b d h at len = (h.0, h.1, pieces_push ns bs ds b d h.2 at len)

bodies_push : (ds : List Placed) (d : Placed) → flat_map body_of (ds ++ d ∷ []) ≡ flat_map body_of ds ++ body_of d
bodies_push [] d = append-nil (body_of d)
bodies_push (x ∷ xs) d = ap (λ (l : List ℕ). body_of x ++ l) (bodies_push xs d) ∙ sym (append_assoc (body_of x) (flat_map body_of xs) (body_of d))

pub names_push : (ds : List Placed) (d : Placed) → names_of (ds ++ d ∷ []) ≡ names_of ds ++ d.partition ∷ []
names_push [] d = refl
names_push (x ∷ xs) d = ap (λ (l : List (List ℕ)). x.partition ∷ l) (names_push xs d)

pub among_more : (ns : List (List ℕ)) (p x : List ℕ) → IsAmong ns x → IsAmong (ns ++ p ∷ []) x
among_more [] p x h = absurd h
among_more (n ∷ ns) p x (inl same) = inl same
among_more (n ∷ ns) p x (inr later) = inr (among_more ns p x later)

pub among_end : (ns : List (List ℕ)) (p : List ℕ) → IsAmong (ns ++ p ∷ []) p
among_end [] p = inl refl
among_end (n ∷ ns) p = inr (among_end ns p)

pub all_more : (ns : List (List ℕ)) (p : List ℕ) (xs : List (List ℕ)) → AllByRecursion (IsAmong ns) xs → AllByRecursion (IsAmong (ns ++ p ∷ [])) xs
all_more ns p [] h = tt
all_more ns p (x ∷ xs) h = (among_more ns p x h.0, all_more ns p xs h.1)

pub all_new : (ns : List (List ℕ)) (p : List ℕ) (xs more : List (List ℕ)) → AllByRecursion (IsAmong (ns ++ p ∷ [])) xs → AllByRecursion (λ m. m ≡ p) more → AllByRecursion (IsAmong (ns ++ p ∷ [])) (xs ++ more)
all_new ns p [] [] h new = tt
all_new ns p [] (m ∷ more) h new = (subst (λ (y : List ℕ). IsAmong (ns ++ p ∷ []) y) (sym new.0) (among_end ns p), all_new ns p [] more h new.1)
all_new ns p (x ∷ xs) more h new = (h.0, all_new ns p xs more h.1 new)

pub document_more : (old new : DocumentLog) (ds : List Placed) (d : Placed) (b : Piece) (more : List (List ℕ)) → HasDocuments old ds → new.names.items ≡ old.names.items ++ more → AllByRecursion (λ m. m ≡ d.partition) more
    → slice_get new.names.items b.name ≡ Some d.partition → b.len ≡ length (body_of d) → new.pieces.items ≡ old.pieces.items ++ b ∷ [] → new.bodies.items ≡ old.bodies.items ++ body_of d → HasDocuments new (ds ++ d ∷ [])
document_more old new ds d b more h grown new_ones at len pieces bodies = record {
  bodies = bodies ∙ ap (λ (l : List ℕ). l ++ body_of d) h.bodies ∙ sym (bodies_push ds d);
  pieces =
      let first : ArePieces new.names.items old.pieces.items ds = subst (λ (l : List (List ℕ)). ArePieces l old.pieces.items ds) (sym grown) (pieces_more old.names.items more old.pieces.items ds h.pieces) in
      subst (λ (l : List Piece). ArePieces new.names.items l (ds ++ d ∷ [])) (sym pieces) (pieces_push new.names.items old.pieces.items ds b d first at len);
  names =
      let all = all_new (names_of ds) d.partition old.names.items more (all_more (names_of ds) d.partition old.names.items h.names) new_ones in
      subst (λ (l : List (List ℕ)). AllByRecursion (IsAmong l) new.names.items) (sym (names_push ds d)) (subst (λ (l : List (List ℕ)). AllByRecursion (IsAmong (names_of ds ++ d.partition ∷ [])) l) (sym grown) all);
}

-- ---- the section

-- the section is written up to some documents that are left
pub record IsPut (names partitions : List (List ℕ)) (pieces : List Piece) (rest area out before : List ℕ) (all : List Placed) : Type 0 where
  pub left : List Placed
  pub are_pieces : ArePieces names pieces left
  pub rest_is : rest ≡ flat_map body_of left
  pub starts_are : out ++ flat_map eight (starts (length area) (each_in_bytes partitions left)) ≡ before ++ flat_map eight (starts 0 (each_in_bytes partitions all))
  pub area_is : area ++ joined (each_in_bytes partitions left) ≡ joined (each_in_bytes partitions all)

-- the first of the documents that are left
pub record IsFirst (names : List (List ℕ)) (b : Piece) (bs : List Piece) (rest : List ℕ) (left : List Placed) : Type 0 where
  pub d : Placed
  pub ds : List Placed
  pub left_is : left ≡ d ∷ ds
  pub at : slice_get names b.name ≡ Some d.partition
  pub len : b.len ≡ length (body_of d)
  pub later : ArePieces names bs ds
  pub rest_is : rest ≡ body_of d ++ flat_map body_of ds

pub first_of : (names : List (List ℕ)) (pieces : List Piece) (b : Piece) (bs : List Piece) (rest : List ℕ) (left : List Placed) → pieces ≡ b ∷ bs → ArePieces names pieces left → rest ≡ flat_map body_of left → IsFirst names b bs rest left
first_of names pieces b bs rest left is h rest_is = at left (subst (λ (l : List Piece). ArePieces names l left) is h) rest_is
  where
    at : (left : List Placed) → ArePieces names (b ∷ bs) left → rest ≡ flat_map body_of left → IsFirst names b bs rest left
    at [] h r = absurd h
    at (d ∷ ds) h r = record { d = d; ds = ds; left_is = refl; at = h.0; len = h.1; later = h.2; rest_is = r }

take_front : (xs ys : List ℕ) → take (length xs) (xs ++ ys) ≡ xs
take_front [] ys = refl
take_front (x ∷ xs) ys = ap (λ (l : List ℕ). x ∷ l) (take_front xs ys)

drop_front : (xs ys : List ℕ) → drop (length xs) (xs ++ ys) ≡ ys
drop_front [] ys = refl
drop_front (x ∷ xs) ys = drop_front xs ys

pub piece_within : (names : List (List ℕ)) (b : Piece) (bs : List Piece) (rest : List ℕ) (left : List Placed) → IsFirst names b bs rest left → b.len ≤ length rest
piece_within names b bs rest left h = omega (arith, h.len, ap (λ (l : List ℕ). length l) h.rest_is, length-append (body_of h.d) (flat_map body_of h.ds))

pub name_within : (names : List (List ℕ)) (b : Piece) (bs : List Piece) (rest : List ℕ) (left : List Placed) → IsFirst names b bs rest left → b.name < length names
name_within names b bs rest left h = slice_get_within names b.name h.d.partition h.at

place_at : (partitions names : List (List ℕ)) (i : ℕ) (x : List ℕ) (d : ℕ) → slice_get names i ≡ Some x → get_or (map (place_among partitions) names) i d ≡ place_among partitions x
place_at partitions [] i x d e = absurd cc
place_at partitions (n ∷ ns) zero x d e =
    let same : n ≡ x = cc in
    ap (place_among partitions) same
place_at partitions (n ∷ ns) (suc i) x d e = place_at partitions ns i x d e

pub put_one : (names partitions : List (List ℕ)) (pieces : List Piece) (b : Piece) (bs : List Piece) (rest area out before body others more_out more_area places : List ℕ) (place : ℕ) (all : List Placed) → pieces ≡ b ∷ bs
    → IsPut names partitions pieces rest area out before all → body ≡ take b.len rest → others ≡ drop b.len rest → places ≡ map (place_among partitions) names → place ≡ get_or places b.name place
    → more_out ≡ out ++ eight (length area) → more_area ≡ (area ++ varint place) ++ body → IsPut names partitions bs others more_area more_out before all
put_one names partitions pieces b bs rest area out before body others more_out more_area places place all is h body_is others_are places_are place_is out_is area_is =
    let f = first_of names pieces b bs rest h.left is h.are_pieces h.rest_is in
    let own : body ≡ body_of f.d =
    body_is ∙ ap (λ (n : ℕ). take n rest) f.len ∙ ap (λ (l : List ℕ). take (length (body_of f.d)) l) f.rest_is ∙ take_front (body_of f.d) (flat_map body_of f.ds) in
    let spelled : varint place ≡ varint (place_among partitions f.d.partition) =
    ap varint (place_is ∙ ap (λ (l : List ℕ). get_or l b.name place) places_are ∙ place_at partitions names b.name f.d.partition place f.at) in
    let first : (area ++ varint place) ++ body ≡ area ++ placed_bytes partitions f.d =
    append_assoc area (varint place) body ∙ ap (λ (l : List ℕ). area ++ (l ++ body)) spelled ∙ ap (λ (l : List ℕ). area ++ (varint (place_among partitions f.d.partition) ++ l)) own in
    let whole : more_area ≡ area ++ placed_bytes partitions f.d = area_is ∙ first in
    let size : length more_area ≡ length area + length (placed_bytes partitions f.d) = ap (λ (l : List ℕ). length l) whole ∙ length-append area (placed_bytes partitions f.d) in
    record {
      left = f.ds;
      are_pieces = f.later;
      rest_is = others_are ∙ ap (λ (n : ℕ). drop n rest) f.len ∙ ap (λ (l : List ℕ). drop (length (body_of f.d)) l) f.rest_is ∙ drop_front (body_of f.d) (flat_map body_of f.ds);
      starts_are =
          ap (λ (l : List ℕ). l ++ flat_map eight (starts (length more_area) (each_in_bytes partitions f.ds))) out_is
          ∙ ap (λ (n : ℕ). (out ++ eight (length area)) ++ flat_map eight (starts n (each_in_bytes partitions f.ds))) size
          ∙ append_assoc out (eight (length area)) (flat_map eight (starts (length area + length (placed_bytes partitions f.d)) (each_in_bytes partitions f.ds)))
          ∙ ap (λ (l : List Placed). out ++ flat_map eight (starts (length area) (each_in_bytes partitions l))) (sym f.left_is) ∙ h.starts_are;
      area_is =
          ap (λ (l : List ℕ). l ++ joined (each_in_bytes partitions f.ds)) whole ∙ append_assoc area (placed_bytes partitions f.d) (joined (each_in_bytes partitions f.ds))
          ∙ ap (λ (l : List Placed). area ++ joined (each_in_bytes partitions l)) (sym f.left_is) ∙ h.area_is;
    }

pub put_start : (names partitions : List (List ℕ)) (l : DocumentLog) (out : List ℕ) (all : List Placed) → l.names.items ≡ names → HasDocuments l all → IsPut names partitions l.pieces.items l.bodies.items [] out out all
put_start names partitions l out all is h = record {
  left = all;
  are_pieces = subst (λ (n : List (List ℕ)). ArePieces n l.pieces.items all) is h.pieces;
  rest_is = h.bodies;
  starts_are = refl;
  area_is = refl;
}

pub put_end : (names partitions : List (List ℕ)) (pieces : List Piece) (rest area out before last whole : List ℕ) (all : List Placed) → pieces ≡ [] → IsPut names partitions pieces rest area out before all
    → last ≡ out ++ eight (length area) → whole ≡ last ++ area → whole ≡ before ++ documents_section partitions all
put_end names partitions pieces rest area out before last whole all none h last_is whole_is =
    let left : h.left ≡ [] = none_left h.left (subst (λ (l : List Piece). ArePieces names l h.left) none h.are_pieces) in
    let first : out ++ eight (length area) ≡ before ++ flat_map eight (starts 0 (each_in_bytes partitions all)) =
    ap (λ (l : List ℕ). out ++ l) (sym (append-nil (eight (length area)))) ∙ ap (λ (l : List Placed). out ++ flat_map eight (starts (length area) (each_in_bytes partitions l))) (sym left) ∙ h.starts_are in
    let second : area ≡ joined (each_in_bytes partitions all) = sym (append-nil area) ∙ ap (λ (l : List Placed). area ++ joined (each_in_bytes partitions l)) (sym left) ∙ h.area_is in
    whole_is ∙ ap (λ (l : List ℕ). l ++ area) (last_is ∙ first) ∙ append_assoc before (flat_map eight (starts 0 (each_in_bytes partitions all))) area
    ∙ ap (λ (l : List ℕ). before ++ (flat_map eight (starts 0 (each_in_bytes partitions all)) ++ l)) second
  where
    none_left : (ds : List Placed) → ArePieces names [] ds → ds ≡ []
    none_left [] h = refl
    none_left (d ∷ ds) h = absurd h
