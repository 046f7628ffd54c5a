-- Faults that are handed on.
use Rattle.std.proofs.Common.{◌≡◌, ℕ, zero, suc, ◌+◌, ◌<◌, inl, inr, List, [], ◌∷◌, length, get_or, Some, Result, Ok, Err, IsErrAnd, MatchResult, refl, ap, sym, ◌∙◌, subst, arith}
use Rattle.doc_value.specs.declared.schema.Schema.{Schema}
use Rattle.split_bundle.specs.declared.placed.Placed.{Placed}
use Rattle.split_bundle.specs.declared.part_view.PartView.{PartView}
use Rattle.split_bundle.specs.declared.pieces.FilePiece.{FilePiece}
use Rattle.split_bundle.specs.declared.split_error.SplitError.{SplitError}
use Rattle.split_bundle.specs.Files.{Parts}
use Rattle.split_bundle.specs.Lending.{IsMissing}
use Rattle.split_bundle.specs.Lists.{terms_of}
use Rattle.term_dict.specs.Terms.{lookup}
use Rattle.term_dict.specs.declared.term.TermInfo.{TermInfo}
use Rattle.split_bundle.specs.Keys.{field_key}
use Rattle.text_tokens.specs.declared.tokens.Token.{Token}
use Rattle.doc_sets.specs.declared.leaf_error.LeafError.{LeafError}
use Rattle.doc_sets.specs.declared.leaf_error.LeafError.TheVariants as faults
use Rattle.doc_sets.specs.Faults.{LacksPart, fault_of}
use Rattle.doc_sets.specs.Needed.{AsksKey, AsksOneOf, AsksPlaces, IsBlockFor, IsListFor, LacksKeys, LacksPlaces, token_keys, postings_start}

-- a cause among some parts is one among more
pub cause_wider : (A B : ℕ → ℕ → Type 0) (pieces : List FilePiece) (e : LeafError) → ((at len : ℕ) → A at len → B at len) → LacksPart A pieces e → LacksPart B pieces e
cause_wider A B pieces (faults.Memory a) wider h = tt
cause_wider A B pieces (faults.Missing at) wider h = (h.0, wider at h.0 h.1, h.2)
cause_wider A B pieces (faults.Corrupt section) wider h = absurd h

-- an error that is handed on as it is
pub handed_on : {X : Type 0} (good : X → Type 0) (P : LeafError → Type 0) (r : Result X LeafError) (e : LeafError) → IsErrAnd r (λ y. y ≡ e) → P e → MatchResult r good P
handed_on good P (Ok x) e h cause = absurd h
handed_on good P (Err y) e h cause = subst P (sym h) cause

-- a part that no piece has
pub missing : (A : ℕ → ℕ → Type 0) (pieces : List FilePiece) (at len : ℕ) (fault : SplitError) (e : LeafError) → IsMissing pieces at len fault → A at len → e ≡ fault_of fault → LacksPart A pieces e
missing A pieces at len fault e is asked same =
    let this : e ≡ faults.Missing at = same ∙ ap fault_of is.0 in
    subst (λ (z : LeafError). LacksPart A pieces z) (sym this) (len, asked, is.1)

-- what is asked for of a token is asked for of the tokens
token_asked : (asked : List ℕ → ℕ → ℕ → Type 0) (n i : ℕ) (x : Token) (ts : List Token) → i < length ts → x ≡ get_or ts i x → (at len : ℕ) → AsksOneOf asked (field_key n x.text ∷ []) at len → AsksOneOf asked (token_keys n ts) at len
token_asked asked n i x [] lt e at len h = absurd (omega arith)
token_asked asked n zero x (t ∷ ts) lt e at len (inl h) = inl (subst (λ (y : Token). asked (field_key n y.text) at len) e h)
token_asked asked n zero x (t ∷ ts) lt e at len (inr none) = absurd none
token_asked asked n (suc i) x (t ∷ ts) lt e at len h = inr (token_asked asked n i x ts (omega arith) e at len h)

pub token_lacks : (asked : List ℕ → ℕ → ℕ → Type 0) (pieces : List FilePiece) (n i : ℕ) (x : Token) (ts : List Token) (e : LeafError) → i < length ts → x ≡ get_or ts i x → LacksPart (AsksOneOf asked (field_key n x.text ∷ [])) pieces e
    → LacksPart (AsksOneOf asked (token_keys n ts)) pieces e
token_lacks asked pieces n i x ts e lt is h = cause_wider (AsksOneOf asked (field_key n x.text ∷ [])) (AsksOneOf asked (token_keys n ts)) pieces e (token_asked asked n i x ts lt is) h

-- a fault of a reader that lacks a part which is asked for
pub part_lacks : {X : Type 0} (good : X → Type 0) (asked : ℕ → ℕ → Type 0) (pieces : List FilePiece) (at len : ℕ) (fault : SplitError) (r : Result X LeafError) → IsErrAnd r (λ f. f ≡ fault_of fault) → IsMissing pieces at len fault → asked at len
    → MatchResult r good (LacksPart asked pieces)
part_lacks good asked pieces at len fault (Ok x) h is part = absurd h
part_lacks good asked pieces at len fault (Err y) h is part = missing asked pieces at len fault y is part h

module _ (v : PartView) (s : Schema) (ds : List Placed) (p : Parts) where
  the_list : (key : List ℕ) (info : TermInfo) → lookup key (terms_of s ds p.keys) ≡ Some info → IsListFor v s ds p key (postings_start v.footer.layout.sections + info.postings) info.postings_len
  the_list key info found = record { info = info; is_term = found; at_is = refl; len_is = refl }

  -- a fault of a cursor that gives no positions
  pub list_lacks : {X : Type 0} (good : X → Type 0) (key : List ℕ) (info : TermInfo) (fault : SplitError) (r : Result X LeafError) → lookup key (terms_of s ds p.keys) ≡ Some info → IsErrAnd r (λ f. f ≡ fault_of fault)
      → IsMissing v.pieces (postings_start v.footer.layout.sections + info.postings) info.postings_len fault → MatchResult r good (LacksPart (IsListFor v s ds p key) v.pieces)
  list_lacks good key info fault r found h m = part_lacks good (IsListFor v s ds p key) v.pieces (postings_start v.footer.layout.sections + info.postings) info.postings_len fault r h m (the_list key info found)

  pub documents_lack : {X : Type 0} (good : X → Type 0) (key : List ℕ) (info : TermInfo) (fault : SplitError) (r : Result X LeafError) → lookup key (terms_of s ds p.keys) ≡ Some info → IsErrAnd r (λ f. f ≡ fault_of fault)
      → IsMissing v.pieces (postings_start v.footer.layout.sections + info.postings) info.postings_len fault → MatchResult r good (LacksKeys v s ds p (key ∷ []))
  documents_lack good key info fault r found h m =
      part_lacks good (AsksOneOf (AsksKey v s ds p) (key ∷ [])) v.pieces (postings_start v.footer.layout.sections + info.postings) info.postings_len fault r h m (inl (inr (the_list key info found)))

  -- who looks up places asks for what who looks up documents does
  one_wider : (key : List ℕ) (at len : ℕ) → AsksKey v s ds p key at len → AsksPlaces v s ds p key at len
  one_wider key at len (inl b) = inl b
  one_wider key at len (inr l) = inr (inl l)

  pub places_wider : (keys : List (List ℕ)) (at len : ℕ) → AsksOneOf (AsksKey v s ds p) keys at len → AsksOneOf (AsksPlaces v s ds p) keys at len
  places_wider [] at len h = h
  places_wider (key ∷ keys) at len (inl h) = inl (one_wider key at len h)
  places_wider (key ∷ keys) at len (inr h) = inr (places_wider keys at len h)

  pub keys_lack_places : (keys : List (List ℕ)) (e : LeafError) → LacksKeys v s ds p keys e → LacksPlaces v s ds p keys e
  keys_lack_places keys e h = cause_wider (AsksOneOf (AsksKey v s ds p) keys) (AsksOneOf (AsksPlaces v s ds p) keys) v.pieces e (places_wider keys) h

  -- a block that no piece has is lacked by who looks up documents
  pub block_lacks : (key : List ℕ) (e : LeafError) → LacksPart (IsBlockFor v s ds p key) v.pieces e → LacksKeys v s ds p (key ∷ []) e
  block_lacks key e h = cause_wider (IsBlockFor v s ds p key) (AsksOneOf (AsksKey v s ds p) (key ∷ [])) v.pieces e (λ at len b. inl (inl b)) h
