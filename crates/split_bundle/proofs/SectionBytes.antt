-- The parts of a file's sections in pieces of it.
use Rattle.std.proofs.Common.{◌≡◌, ℕ, ◌+◌, ◌-◌, ◌≤◌, Bool, true, false, cond, List, [], ◌∷◌, ◌++◌, length, take, drop, Option, Some, None, refl, sym, ap, ◌∙◌, inl, inr, ◌⊎◌, arith, append_assoc, length-append}
use Rattle.std.proofs.Math.Dec.{ltb}
use Rattle.std.proofs.Math.Seq.{drop-append-add}
use Rattle.std.proofs.lemmas.Bool.{ltb-false, le-ltb}
use Rattle.std.proofs.lemmas.List.{length-drop, length-take-le, drop-append-le, take-append-le}
use Rattle.split_bundle.specs.declared.pieces.FilePiece.{FilePiece}
use Rattle.split_bundle.specs.declared.pieces.Section.{Section}
use Rattle.split_bundle.specs.declared.pieces.Section.TheVariants.{Documents, Dictionary, Postings, Positions, Columns}
use Rattle.split_bundle.specs.Files.{Parts, head, ending, footer_bytes, file_bytes}
use Rattle.split_bundle.specs.Views.{sections_of}
use Rattle.split_bundle.specs.Pieces.{part_in, or_else, held_in, held_or, section_part, size_of, start_of, bytes_of, IsPieceOf, ArePieces, LendsPart}

-- so many bytes from a place of what stands in the middle
pub in_middle : (before s behind : List ℕ) (a len : ℕ) → a + len ≤ length s → take len (drop (length before + a) (before ++ (s ++ behind))) ≡ take len (drop a s)
in_middle before s behind a len le =
    let one : drop (length before + a) (before ++ (s ++ behind)) ≡ drop a (s ++ behind) = drop-append-add before (s ++ behind) a in
    let two : drop a (s ++ behind) ≡ drop a s ++ behind = drop-append-le a s behind (omega arith) in
    ap (λ (l : List ℕ). take len l) (one ∙ two) ∙ take-append-le len (drop a s) behind (omega (arith, length-drop a s))

abbrev some : List ℕ → Option (List ℕ)
some l = Some l

some_is : (x y : List ℕ) → some x ≡ some y → x ≡ y
some_is x y e = cc

guard_some : (b : Bool) (r : Option (List ℕ)) (y : List ℕ) → cond b None r ≡ some y → (b ≡ false) × (r ≡ some y)
guard_some true r y e = absurd cc
guard_some false r y e = (refl, e)

part_right : (file : List ℕ) (p : FilePiece) (start len : ℕ) (bytes : List ℕ) → IsPieceOf file p → part_in p start len ≡ some bytes → bytes ≡ take len (drop start file)
part_right file p start len bytes is e =
    let a = guard_some (ltb start p.start) (cond (ltb (length p.bytes.now) (start - p.start)) None (cond (ltb (length p.bytes.now - (start - p.start)) len) None (some (take len (drop (start - p.start) p.bytes.now))))) bytes e in
    let b = guard_some (ltb (length p.bytes.now) (start - p.start)) (cond (ltb (length p.bytes.now - (start - p.start)) len) None (some (take len (drop (start - p.start) p.bytes.now)))) bytes a.1 in
    let c = guard_some (ltb (length p.bytes.now - (start - p.start)) len) (some (take len (drop (start - p.start) p.bytes.now))) bytes b.1 in
    let above : p.start ≤ start = ltb-false _ _ a.0 in
    let inside : start - p.start ≤ length p.bytes.now = ltb-false _ _ b.0 in
    let fits : len ≤ length p.bytes.now - (start - p.start) = ltb-false _ _ c.0 in
    let place : length is.before + (start - p.start) ≡ start = omega (arith, is.start) in
    let middle = in_middle is.before p.bytes.now is.behind (start - p.start) len (omega arith) in
    sym (some_is (take len (drop (start - p.start) p.bytes.now)) bytes c.1) ∙ sym middle
    ∙ ap (λ (i : ℕ). take len (drop i (is.before ++ (p.bytes.now ++ is.behind)))) place ∙ ap (λ (l : List ℕ). take len (drop start l)) (sym is.parts)

or_cases : (o other : Option (List ℕ)) (bytes : List ℕ) → or_else o other ≡ some bytes → (o ≡ some bytes) ⊎ (other ≡ some bytes)
or_cases (Some x) other bytes e = inl e
or_cases None other bytes e = inr e

-- what the pieces of a file have is the file's
pub held_right : (file : List ℕ) (ps : List FilePiece) (start len : ℕ) (bytes : List ℕ) → ArePieces file ps → held_in ps start len ≡ some bytes → bytes ≡ take len (drop start file)
held_right file [] start len bytes are e = absurd cc
held_right file (p ∷ ps) start len bytes are e = elim (or_cases (part_in p start len) (held_in ps start len) bytes e) [
  | inl here ↦ part_right file p start len bytes are.0 here
  | inr there ↦ held_right file ps start len bytes are.1 there
]

-- ---- the sections in the file

-- where a section stands in the file
pub record Within (section : Section) (p : Parts) : Type 0 where
  pub before : List ℕ
  pub behind : List ℕ
  pub parts : file_bytes p ≡ before ++ (bytes_of section p ++ behind)
  pub start : start_of section (sections_of p) ≡ length before

pub within : (section : Section) (p : Parts) → Within section p
unfolding file_bytes
within Documents p = record {
  before = head;
  behind = (p.dictionary ++ (p.postings ++ (p.positions ++ p.columns))) ++ ending (footer_bytes p);
  parts = ap (λ (l : List ℕ). head ++ l) (append_assoc p.documents (p.dictionary ++ (p.postings ++ (p.positions ++ p.columns))) (ending (footer_bytes p)));
  start = refl;
}
within Dictionary p = record {
  before = head ++ p.documents;
  behind = (p.postings ++ (p.positions ++ p.columns)) ++ ending (footer_bytes p);
  parts = simp append_assoc refl;
  start = omega (arith, length-append head p.documents);
}
within Postings p = record {
  before = head ++ (p.documents ++ p.dictionary);
  behind = (p.positions ++ p.columns) ++ ending (footer_bytes p);
  parts = simp append_assoc refl;
  start = omega (arith, length-append head (p.documents ++ p.dictionary), length-append p.documents p.dictionary);
}
within Positions p = record {
  before = head ++ (p.documents ++ (p.dictionary ++ p.postings));
  behind = p.columns ++ ending (footer_bytes p);
  parts = simp append_assoc refl;
  start = omega (arith, length-append head (p.documents ++ (p.dictionary ++ p.postings)), length-append p.documents (p.dictionary ++ p.postings), length-append p.dictionary p.postings);
}
within Columns p = record {
  before = head ++ (p.documents ++ (p.dictionary ++ (p.postings ++ p.positions)));
  behind = ending (footer_bytes p);
  parts = simp append_assoc refl;
  start = omega (arith, length-append head (p.documents ++ (p.dictionary ++ (p.postings ++ p.positions))), length-append p.documents (p.dictionary ++ (p.postings ++ p.positions)), length-append p.dictionary (p.postings ++ p.positions), length-append p.postings p.positions);
}

-- a section stands in the file
pub section_within : (section : Section) (p : Parts) → start_of section (sections_of p) + length (bytes_of section p) ≤ length (file_bytes p)
section_within section p =
    let w = within section p in
    omega (arith, ap (λ (l : List ℕ). length l) w.parts, w.start, length-append w.before (bytes_of section p ++ w.behind), length-append (bytes_of section p) w.behind)

pub size_is : (section : Section) (p : Parts) → size_of section (sections_of p) ≡ length (bytes_of section p)
size_is Documents p = refl
size_is Dictionary p = refl
size_is Postings p = refl
size_is Positions p = refl
size_is Columns p = refl

-- so many bytes of a section, of which the file's pieces have some
pub section_right : (section : Section) (p : Parts) (from len : ℕ) → from + len ≤ length (bytes_of section p)
    → take len (drop (start_of section (sections_of p) + from) (file_bytes p)) ≡ take len (drop from (bytes_of section p))
section_right section p from len le =
    let w = within section p in
    ap (λ (i : ℕ). take len (drop (i + from) (file_bytes p))) w.start ∙ ap (λ (l : List ℕ). take len (drop (length w.before + from) l)) w.parts
    ∙ in_middle w.before (bytes_of section p) w.behind from len le

held_lent : (pieces : List FilePiece) (at len : ℕ) (bytes : List ℕ) (o : Option (List ℕ)) → held_in pieces at len ≡ o → length bytes ≡ len → ((found : List ℕ) → o ≡ some found → found ≡ bytes) → LendsPart pieces at bytes (held_or at o)
held_lent pieces at len bytes (Some found) is size right = right found refl
held_lent pieces at len bytes None is size right = (refl, ap (λ (n : ℕ). held_in pieces at n) size ∙ is)

pub section_lent : (section : Section) (p : Parts) (pieces : List FilePiece) (from len : ℕ) → ArePieces (file_bytes p) pieces → from + len ≤ length (bytes_of section p)
    → LendsPart pieces (start_of section (sections_of p) + from) (take len (drop from (bytes_of section p))) (section_part section (sections_of p) pieces from len)
unfolding section_part
section_lent section p pieces from len are le =
    let size = size_is section p in
    let at : ℕ = start_of section (sections_of p) + from in
    let long : length (take len (drop from (bytes_of section p))) ≡ len = length-take-le len (drop from (bytes_of section p)) (omega (arith, length-drop from (bytes_of section p))) in
    rw (le-ltb (size_of section (sections_of p)) from (omega (arith, size)), le-ltb (size_of section (sections_of p) - from) len (omega (arith, size)))
    (held_lent pieces at len (take len (drop from (bytes_of section p))) (held_in pieces at len) refl long
    (λ found e. held_right (file_bytes p) pieces at len found are e ∙ section_right section p from len le))
