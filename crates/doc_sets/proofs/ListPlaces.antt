-- The places of a document in a posting list.
use Rattle.std.proofs.Common.{◌≡◌, ℕ, ◌-◌, ◌/◌, Bool, List, [], ◌∷◌, drop, Some, None, Result, Ok, Err, ◌++◌, refl, ap, sym, ◌∙◌}
use Rattle.term_postings.specs.Cursors.{first_number}
use Rattle.term_dict.specs.declared.term.TermInfo.{TermInfo}
use Rattle.byte_fields.specs.declared.corrupt.Corrupt.{Corrupt}
use Rattle.term_postings.specs.Reading.{Walk, walk, begun, over_of, heads_behind}
use Rattle.term_postings.specs.declared.cursor.Cursor.{Cursor}
use Rattle.split_bundle.specs.Lending.{cursor_in}
use Rattle.split_bundle.specs.Reading.{Gives, and_then}
use Rattle.split_bundle.specs.declared.layout.Sections.{Sections}
use Rattle.split_bundle.specs.declared.pieces.FilePiece.{FilePiece}
use Rattle.split_bundle.specs.declared.split_error.SplitError.{SplitError}

-- the first of some numbers, and those behind it
pub number_taken : (n : ℕ) (ns : List ℕ) → first_number ns ≡ Some n → ns ≡ (n ∷ []) ++ drop 1 ns
number_taken n [] e = absurd (cc)
number_taken n (m ∷ ms) e = let same : m ≡ n = cc in ap (λ x. x ∷ ms) same

pub none_taken : (ns : List ℕ) → first_number ns ≡ None → ns ≡ []
none_taken [] e = refl
none_taken (m ∷ ms) e = absurd (cc)

abbrev walked : Walk → Result Walk SplitError
walked w = Ok w

walk_is : (a b : Walk) → walked a ≡ walked b → a ≡ b
walk_is a b e = cc

given_at_first : (postings positions : List ℕ) (docs : ℕ) (counted : Bool) (heads : Result ℕ Corrupt) → (begun postings positions docs counted heads).given ≡ None
given_at_first postings positions docs counted (Ok at) = refl
given_at_first postings positions docs counted (Err fault) = refl

given_by : (a b : Result (List ℕ) SplitError) (docs : ℕ) (counted : Bool) (w : Walk) → and_then a (λ lists. and_then b (λ places. Ok (over_of lists places docs counted))) ≡ Ok w → w.given ≡ None
given_by (Ok lists) (Ok places) docs counted w e =
    sym (ap (λ (x : Walk). x.given) (walk_is (over_of lists places docs counted) w e)) ∙ given_at_first lists places docs counted (heads_behind ((docs - 1) / 128) lists 0)
given_by (Ok lists) (Err fault) docs counted w e = absurd (cc)
given_by (Err fault) b docs counted w e = absurd (cc)

-- a cursor over a term has given no document yet
pub none_given : (sections : Sections) (pieces : List FilePiece) (info : TermInfo) (positions : Bool) (c : Cursor) → Gives walk (Ok c) (cursor_in sections pieces info positions) → c.given ≡ None
unfolding cursor_in
none_given sections pieces info positions c h = given_by _ _ info.docs positions (walk c) h
