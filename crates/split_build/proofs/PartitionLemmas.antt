-- The partitions of documents, rising.
use Rattle.std.proofs.Common.{◌≡◌, ℕ, zero, suc, List, [], ◌∷◌, Some, sym, subst, inl, inr}
use Rattle.std.specs.Prelude.{◌⊎◌, slice_get}
use Rattle.std.specs.List.{AllByRecursion}
use Rattle.source_checkpoint.specs.Names.{IsPartition}
use Rattle.split_bundle.specs.declared.placed.Placed.{Placed}
use Rattle.split_bundle.specs.Splits.{AreRising, ArePartitions, names_of}
use Rattle.split_build.specs.declared.documents.DocumentLog.{DocumentLog}
use Rattle.split_build.specs.declared.documents.Piece.{Piece}
use Rattle.split_build.specs.HeldDocuments.{AreNamesOf, ArePieces, HasDocuments, with_name, with_names}
use Rattle.split_build.specs.Members.{IsAmong}
use Rattle.split_build.proofs.KeysLemmas.{contains_among, among_contains}
use Rattle.split_build.proofs.RisingLemmas.{with_among, among_with, among_new, with_rises}

names_rise : (sorted names : List (List ℕ)) → AreRising sorted → AreRising (with_names sorted names)
names_rise sorted [] h = h
names_rise sorted (n ∷ ns) h = names_rise (with_name n sorted) ns (with_rises n sorted h)

names_among : (sorted names : List (List ℕ)) (x : List ℕ) → IsAmong (with_names sorted names) x → IsAmong sorted x ⊎ IsAmong names x
names_among sorted [] x h = inl h
names_among sorted (n ∷ ns) x h = elim (names_among (with_name n sorted) ns x h) [
  | inl here ↦ elim (with_among n sorted x here) [ inl same ↦ inr (inl same) | inr there ↦ inl there ]
  | inr later ↦ inr (inr later)
]

among_sorted : (sorted names : List (List ℕ)) (x : List ℕ) → IsAmong sorted x → IsAmong (with_names sorted names) x
among_sorted sorted [] x h = h
among_sorted sorted (n ∷ ns) x h = among_sorted (with_name n sorted) ns x (among_with n sorted x h)

among_names : (sorted names : List (List ℕ)) (x : List ℕ) → IsAmong names x → IsAmong (with_names sorted names) x
among_names sorted [] x h = absurd h
among_names sorted (n ∷ ns) x (inl same) = among_sorted (with_name n sorted) ns x (subst (λ (y : List ℕ). IsAmong (with_name n sorted) y) same (among_new n sorted))
among_names sorted (n ∷ ns) x (inr later) = among_names (with_name n sorted) ns x later

all_among : (P : List ℕ → Type 0) (xs : List (List ℕ)) (x : List ℕ) → AllByRecursion P xs → IsAmong xs x → P x
all_among P [] x h among = absurd among
all_among P (y ∷ ys) x h (inl same) = subst P same h.0
all_among P (y ∷ ys) x h (inr later) = all_among P ys x h.1 later

pub get_among : (xs : List (List ℕ)) (i : ℕ) (x : List ℕ) → slice_get xs i ≡ Some x → IsAmong xs x
get_among [] i x e = absurd cc
get_among (y ∷ ys) zero x e = inl (cc)
get_among (y ∷ ys) (suc i) x e = inr (get_among ys i x e)

pieces_among : (names : List (List ℕ)) (bs : List Piece) (ds : List Placed) → ArePieces names bs ds → AllByRecursion (IsAmong names) (names_of ds)
pieces_among names [] [] h = tt
pieces_among names [] (d ∷ ds) h = absurd h
pieces_among names (b ∷ bs) [] h = tt
pieces_among names (b ∷ bs) (d ∷ ds) h = (get_among names b.name d.partition h.0, pieces_among names bs ds h.2)

pub are_names : (l : DocumentLog) (ds : List Placed) → HasDocuments l ds → AreNamesOf ds l.names.items
are_names l ds h = record { known = h.names; all = pieces_among l.names.items l.pieces.items ds h.pieces }

pub are_partitions : (names : List (List ℕ)) (ds : List Placed) (sorted : List (List ℕ)) → sorted ≡ with_names [] names → AllByRecursion IsPartition sorted → AreNamesOf ds names → ArePartitions ds sorted
are_partitions names ds sorted is good h = record {
  rising = subst (λ (xs : List (List ℕ)). AreRising xs) (sym is) (names_rise [] names tt);
  names = good;
  exact = λ x. (
    λ c. contains_among (names_of ds) x (of_names x (subst (λ (xs : List (List ℕ)). IsAmong xs x) is (among_contains sorted x c))),
    λ c. contains_among sorted x (subst (λ (xs : List (List ℕ)). IsAmong xs x) (sym is) (among_names [] names x (all_among (IsAmong names) (names_of ds) x h.all (among_contains (names_of ds) x c)))),
  );
}
  where
    of_names : (x : List ℕ) → IsAmong (with_names [] names) x → IsAmong (names_of ds) x
    of_names x here = elim (names_among [] names x here) [
      | inl none ↦ absurd none
      | inr there ↦ all_among (IsAmong (names_of ds)) names x h.known there
    ]
