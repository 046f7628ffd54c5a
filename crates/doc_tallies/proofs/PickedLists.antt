-- Documents that are picked one after another.
use Rattle.std.proofs.Common.{◌≡◌, ℕ, ◌+◌, ◌<◌, List, [], ◌∷◌, ◌++◌, length, take, get_or, slice_get, Some, refl, ap, sym, ◌∙◌, append_assoc}
use Rattle.std.proofs.lemmas.List.{take_more}
use Rattle.std.specs.Option.{option_to_list}
use Rattle.split_bundle.specs.declared.placed.Placed.{Placed}
use Rattle.doc_value.specs.declared.doc.DocField.{DocField}
use Rattle.doc_tallies.specs.Picked.{docs_of, picked}

pub picked_append : (xs ys : List ℕ) (documents : List Placed) → picked (xs ++ ys) documents ≡ picked xs documents ++ picked ys documents
picked_append [] ys documents = refl
picked_append (x ∷ xs) ys documents =
    ap (λ (ds : List Placed). option_to_list (slice_get documents x) ++ ds) (picked_append xs ys documents) ∙ sym (append_assoc (option_to_list (slice_get documents x)) (picked xs documents) (picked ys documents))

pub picked_one : (n : ℕ) (documents : List Placed) (d : Placed) → slice_get documents n ≡ Some d → picked (n ∷ []) documents ≡ d ∷ []
picked_one n documents d got = rw got refl

pub picked_more : (numbers : List ℕ) (i : ℕ) (documents : List Placed) (d : Placed) → i < length numbers → slice_get documents (get_or numbers i 0) ≡ Some d
    → picked (take (i + 1) numbers) documents ≡ picked (take i numbers) documents ++ d ∷ []
picked_more numbers i documents d lt got =
    ap (λ (ns : List ℕ). picked ns documents) (take_more numbers i 0 lt)
    ∙ (picked_append (take i numbers) (get_or numbers i 0 ∷ []) documents
    ∙ ap (λ (ds : List Placed). picked (take i numbers) documents ++ ds) (picked_one (get_or numbers i 0) documents d got))

pub docs_push : (ds : List Placed) (d : Placed) → docs_of (ds ++ d ∷ []) ≡ docs_of ds ++ d.doc ∷ []
docs_push [] d = refl
docs_push (x ∷ xs) d = ap (λ (zs : List (List DocField)). x.doc ∷ zs) (docs_push xs d)
