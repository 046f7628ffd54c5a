-- Faults that are handed on.
use Rattle.std.proofs.Common.{◌≡◌, ℕ, zero, suc, List, [], ◌∷◌, Some, Result, Ok, Err, IfOk, IsErrAnd, MatchResult, Contains, length, slice_get, refl, sym, subst, inl, inr, arith}
use Rattle.split_bundle.specs.declared.pieces.FilePiece.{FilePiece}
use Rattle.split_bundle.specs.declared.split_error.SplitError.{SplitError}
use Rattle.split_bundle.specs.declared.split_error.SplitError.TheVariants.{Memory, BadMagic, BadSection, BadVersion, Truncated}
use Rattle.split_bundle.specs.declared.part_view.PartView.{PartView}
use Rattle.split_bundle.specs.declared.placed.Placed.{Placed}
use Rattle.split_bundle.specs.DocLending.{LendsPlaced, doc_place, starts_place}
use Rattle.split_bundle.specs.Documents.{placed_bytes}
use Rattle.split_bundle.specs.Files.{Parts}
use Rattle.split_bundle.specs.Lending.{IsMissing}
use Rattle.doc_tallies.specs.Causes.{AsksDocuments, LacksPart, LacksDocument}

-- a cause among some parts is one among more
pub cause_wider : (A B : ℕ → ℕ → Type 0) (pieces : List FilePiece) (e : SplitError) → ((at len : ℕ) → A at len → B at len) → LacksPart A pieces e → LacksPart B pieces e
cause_wider A B pieces (Memory a) wider h = tt
cause_wider A B pieces BadMagic wider h = absurd h
cause_wider A B pieces (Truncated at) wider h = (h.0, wider at h.0 h.1, h.2)
cause_wider A B pieces (BadSection number) wider h = absurd h
cause_wider A B pieces (BadVersion number) wider h = absurd h

-- a part that no piece has
pub missing : (A : ℕ → ℕ → Type 0) (pieces : List FilePiece) (at len : ℕ) (e : SplitError) → IsMissing pieces at len e → A at len → LacksPart A pieces e
missing A pieces at len e is asked = subst (λ (x : SplitError). LacksPart A pieces x) (sym is.0) (len, asked, is.1)

-- an error that is handed on as it is
pub handed_on : {X : Type 0} (good : X → Type 0) (P : SplitError → Type 0) (r : Result X SplitError) (e : SplitError) → IsErrAnd r (λ y. y ≡ e) → P e → MatchResult r good P
handed_on good P (Ok x) e h cause = absurd h
handed_on good P (Err y) e h cause = subst P (sym h) cause

-- a document that is asked for lacks a part
pub placed_lacks : (v : PartView) (p : Parts) (documents : List Placed) (numbers : List ℕ) (n : ℕ) (d : Placed) (e : SplitError) → Contains numbers n → slice_get documents n ≡ Some d
    → LendsPlaced v.pieces (starts_place n) (doc_place p documents n) (length (placed_bytes p.partitions d)) d (Err e) → LacksPart (AsksDocuments p documents numbers) v.pieces e
placed_lacks v p documents numbers n d (Memory a) among got h = tt
placed_lacks v p documents numbers n d BadMagic among got h = absurd h
placed_lacks v p documents numbers n d (Truncated at) among got (inl h) =
    missing (AsksDocuments p documents numbers) v.pieces (starts_place n) 16 (Truncated at) h (record { number = n; among = among; document = inl (refl, refl) })
placed_lacks v p documents numbers n d (Truncated at) among got (inr h) =
    missing (AsksDocuments p documents numbers) v.pieces (doc_place p documents n) (length (placed_bytes p.partitions d)) (Truncated at) h (record { number = n; among = among; document = inr (d, got, refl, refl) })
placed_lacks v p documents numbers n d (BadSection number) among got h = absurd h
placed_lacks v p documents numbers n d (BadVersion number) among got h = absurd h

pub address_lacks : (v : PartView) (p : Parts) (documents : List Placed) (numbers : List ℕ) (n : ℕ) (d : Placed) (e : SplitError) → Contains numbers n → slice_get documents n ≡ Some d → LacksDocument v.pieces p documents n d e
    → LacksPart (AsksDocuments p documents numbers) v.pieces e
address_lacks v p documents numbers n d e among got (inl h) = missing (AsksDocuments p documents numbers) v.pieces (starts_place n) 16 e h (record { number = n; among = among; document = inl (refl, refl) })
address_lacks v p documents numbers n d e among got (inr h) =
    missing (AsksDocuments p documents numbers) v.pieces (doc_place p documents n) (length (placed_bytes p.partitions d)) e h (record { number = n; among = among; document = inr (d, got, refl, refl) })

pub here_alone : (n : ℕ) → Contains (n ∷ []) n
here_alone n = (zero, omega arith, refl)

-- one of the numbers
one_among : (ns : List ℕ) (n m : ℕ) → Contains ns n → Contains (n ∷ []) m → Contains ns m
one_among ns n m has (zero, lt, is) = subst (λ (k : ℕ). Contains ns k) is has
one_among ns n m has (suc k, lt, is) = absurd (omega arith)

pub cause_of_one : (v : PartView) (p : Parts) (documents : List Placed) (ns : List ℕ) (n : ℕ) (e : SplitError) → Contains ns n → LacksPart (AsksDocuments p documents (n ∷ [])) v.pieces e
    → LacksPart (AsksDocuments p documents ns) v.pieces e
cause_of_one v p documents ns n e has h = cause_wider (AsksDocuments p documents (n ∷ [])) (AsksDocuments p documents ns) v.pieces e
    (λ at len asked. record { number = asked.number; among = one_among ns n asked.number has asked.among; document = asked.document }) h

-- another answer and another cause of the same result
pub result_wider : {X : Type 0} (P Q : X → Type 0) (C D : SplitError → Type 0) (r : Result X SplitError) → ((x : X) → P x → Q x) → ((e : SplitError) → C e → D e) → MatchResult r P C → MatchResult r Q D
result_wider P Q C D (Ok x) good bad h = good x h
result_wider P Q C D (Err e) good bad h = bad e h

-- another answer where there is one
pub ok_wider : {X E : Type 0} (P Q : X → Type 0) (r : Result X E) → ((x : X) → P x → Q x) → IfOk r P → IfOk r Q
ok_wider P Q (Ok x) good h = good x h
ok_wider P Q (Err e) good h = tt
