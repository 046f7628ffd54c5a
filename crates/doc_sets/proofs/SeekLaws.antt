-- Documents that are sought one behind the other.
use Rattle.std.proofs.Common.{◌≡◌, ℕ, zero, suc, ◌+◌, ◌<◌, ◌≤◌, ◌≢◌, ◌⊎◌, inl, inr, Bool, true, false, ◌||◌, cond, nat_lt, List, [], ◌∷◌, ◌++◌, length, get_or, set, slice_get, if◌then◌else◌, Option, Some, None, Result, Ok, Err, MatchResult, refl, ap, sym, subst, ◌∙◌, arith, get_or-set_same, get_or-set_other}
use Rattle.std.proofs.lemmas.Bool.{cases_lt, cases_eq}
use Rattle.std.proofs.lemmas.Bool.Decides.{nat_tests}
use Rattle.std.proofs.lemmas.List.{length-set}
use Rattle.std.proofs.Math.ListN.{get_or-append}
use Rattle.std.proofs.Math.Seq.{get_or-append_seam}
use Rattle.doc_value.specs.declared.schema.Schema.{Schema}
use Rattle.text_tokens.specs.declared.tokens.Token.{Token}
use Rattle.term_postings.specs.Cursors.{StandsBefore, from_document}
use Rattle.term_postings.specs.Postings.{AreRising}
use Rattle.byte_fields.specs.declared.corrupt.Corrupt.{Corrupt}
use Rattle.term_postings.specs.Reading.{IsPast, last_given}
use Rattle.term_postings.specs.declared.cursor.Cursor.{Cursor}
use Rattle.term_postings.specs.declared.list.Posting.{Posting}
use Rattle.split_bundle.specs.declared.placed.Placed.{Placed}
use Rattle.split_bundle.specs.Keys.{field_key, keys_of}
use Rattle.split_bundle.specs.Lists.{has_key, keeps_places, places_of, posted, posting_list, stands_in}
use Rattle.split_bundle.specs.declared.pieces.FilePiece.{FilePiece}
use Rattle.doc_sets.specs.declared.leaf_error.LeafError.{LeafError}
use Rattle.doc_sets.specs.declared.leaf_error.LeafError.TheVariants as faults
use Rattle.doc_sets.specs.Faults.{LacksPart, IsMemory}
use Rattle.doc_sets.specs.Seeking.{CanSeek, ArePassing}

pub at_least : (a b : ℕ) → a ≤ b → nat_lt b a ≡ false
at_least a b le = grind (arith, nat_tests)

pub less : (a b : ℕ) → a < b → nat_lt a b ≡ true
less a b lt = grind (arith, nat_tests)

-- who seeks a document behind another one needs not seek the other
from_twice : (i k : ℕ) (ps : List Posting) → i ≤ k → from_document k (from_document i ps) ≡ from_document k ps
from_twice i k [] le = refl
from_twice i k (p ∷ ps) le = go (cases_lt p.document i) (from_twice i k ps le)
  where
    go : ((p.document < i) ⊎ (i ≤ p.document)) → from_document k (from_document i ps) ≡ from_document k ps → from_document k (from_document i (p ∷ ps)) ≡ from_document k (p ∷ ps)
    go (inl lt) rest = ap (λ b. from_document k (cond b (from_document i ps) (p ∷ ps))) (less p.document i lt) ∙ (rest ∙ sym (ap (λ b. cond b (from_document k ps) (p ∷ ps)) (less p.document k (omega arith))))
    go (inr ge) rest = ap (λ b. from_document k (cond b (from_document i ps) (p ∷ ps))) (at_least i p.document ge)

from_behind : (k : ℕ) (p : Posting) (ps : List Posting) → p.document < k → from_document k (p ∷ ps) ≡ from_document k ps
from_behind k p ps lt = ap (λ b. cond b (from_document k ps) (p ∷ ps)) (less p.document k lt)

past_later : (i k : ℕ) (given : Option ℕ) → i ≤ k → IsPast i given → IsPast k given
past_later i k None le h = tt
past_later i k (Some g) le h = omega arith

pub can_later : (list : List Posting) (c : Cursor) (i k : ℕ) → i ≤ k → CanSeek list c i → CanSeek list c k
can_later list c i k le x = record {
  after = x.after;
  left = x.left;
  stands = x.stands;
  past = past_later i k c.given le x.past;
  rest = λ j h. x.rest j (omega arith);
}

past_none : (given : Option ℕ) → given ≡ None → IsPast 0 given
past_none None e = tt
past_none (Some n) e = absurd (cc)

-- a cursor before a list
pub can_first : (list : List Posting) (c : Cursor) → StandsBefore true c list [] → c.given ≡ None → CanSeek list c 0
can_first list c stands given = record {
  after = list;
  left = [];
  stands = stands;
  past = past_none c.given given;
  rest = λ k le. refl;
}

past_some : (document : ℕ) (given : Option ℕ) → given ≡ Some document → IsPast (document + 1) given
past_some document None e = absurd (cc)
past_some document (Some g) e = let same : g ≡ document = cc in omega arith

-- a cursor that gave a document and its positions
pub can_next : (list rest : List Posting) (p : Posting) (document : ℕ) (c : Cursor) → from_document document list ≡ p ∷ rest → p.document ≡ document → StandsBefore true c rest [] → c.given ≡ Some document
    → CanSeek list c (document + 1)
can_next list rest p document c e here stands given = record {
  after = rest;
  left = [];
  stands = stands;
  past = past_some document c.given given;
  rest = λ k le. sym (sym (from_twice document k list (omega arith)) ∙ (ap (λ ps. from_document k ps) e ∙ from_behind k p rest (omega (arith, here, le))));
}

-- the positions to come rise
pub left_rises : (c : Cursor) (after : List Posting) (left : List ℕ) → StandsBefore true c after left → AreRising left
left_rises c after left h = (h.1.positions refl).at.rising

abbrev okay : Option ℕ → Result (Option ℕ) Corrupt
okay found = Ok found

-- the document that a cursor gave
pub given_is : (found first old now : Option ℕ) (document : ℕ) → okay found ≡ okay first → first ≡ Some document → now ≡ last_given found old → now ≡ Some document
given_is found first old now document e f h = let same : found ≡ Some document = cc in h ∙ ap (λ x. last_given x old) same

-- the positions that a cursor gave of a document are the places of its key
pub given_places : {X : Type 0} (r : Result X LeafError) (items left places : List ℕ) (list rest : List Posting) (p : Posting) (document : ℕ) (mid now : Cursor) → from_document document list ≡ p ∷ rest → p.document ≡ document
    → StandsBefore true mid rest left → now.given ≡ Some document → left ≡ places
    → MatchResult r (λ u. (items ≡ left) × StandsBefore true now rest []) IsMemory → MatchResult r (λ u. (items ≡ places) × AreRising items × CanSeek list now (document + 1)) IsMemory
given_places (Ok u) items left places list rest p document mid now e here stands given same h =
    (h.0 ∙ same, subst (λ (l : List ℕ). AreRising l) (sym h.0) (left_rises mid rest left stands), can_next list rest p document now e here h.1 given)
given_places (Err fault) items left places list rest p document mid now e here stands given same h = h

-- want of memory is a cause
pub memory_lacks : (asked : ℕ → ℕ → Type 0) (pieces : List FilePiece) (e : LeafError) → IsMemory e → LacksPart asked pieces e
memory_lacks asked pieces (faults.Memory a) h = tt
memory_lacks asked pieces (faults.Missing at) h = absurd h
memory_lacks asked pieces (faults.Corrupt section) h = absurd h

-- no document has a key that is not listed
pub none_posted : (s : Schema) (key : List ℕ) (n : ℕ) (ds : List Placed) → stands_in s key ds ≡ false → posted s key n ds ≡ []
none_posted s key n [] h = refl
none_posted s key n (d ∷ ds) h =
    let x = parts (has_key key (keys_of s d.doc)) (stands_in s key ds) h in
    ap (λ b. cond b (record { document = n; positions = if keeps_places s key then places_of key (keys_of s d.doc) else [] } ∷ posted s key (suc n) ds) (posted s key (suc n) ds)) x.0 ∙ none_posted s key (suc n) ds x.1
  where
    parts : (a b : Bool) → a || b ≡ false → (a ≡ false) × (b ≡ false)
    parts true b e = absurd (cc)
    parts false b e = (refl, e)

module _ (s : Schema) (key : List ℕ) where
  abbrev pub entry : ℕ → Placed → Posting
  entry n d = record { document = n; positions = if keeps_places s key then places_of key (keys_of s d.doc) else [] }

  posted_from : (n i : ℕ) (d : Placed) (ds : List Placed) → slice_get ds i ≡ Some d → has_key key (keys_of s d.doc) ≡ true → (rest : List Posting) × (from_document (n + i) (posted s key n ds) ≡ entry (n + i) d ∷ rest)
  posted_from n i d [] got has = absurd (cc)
  posted_from n zero d (x ∷ xs) got has =
      let same : x ≡ d = cc in
      let z : n ≡ n + 0 = omega arith in
      let put : posted s key n (x ∷ xs) ≡ entry n x ∷ posted s key (suc n) xs = ap (λ b. cond b (entry n x ∷ posted s key (suc n) xs) (posted s key (suc n) xs)) (ap (λ y. has_key key (keys_of s y.doc)) same ∙ has) in (
        posted s key (suc n) xs,
        ap (λ ps. from_document (n + 0) ps) put
            ∙ (ap (λ b. cond b (from_document (n + 0) (posted s key (suc n) xs)) (entry n x ∷ posted s key (suc n) xs)) (at_least (n + 0) n (omega arith))
            ∙ (ap (λ y. entry n y ∷ posted s key (suc n) xs) same ∙ ap (λ m. entry m d ∷ posted s key (suc n) xs) z)),
      )
  posted_from n (suc i) d (x ∷ xs) got has =
      let move : suc n + i ≡ n + suc i = omega arith in
      let h = posted_from (suc n) i d xs got has in
      (h.0, go (has_key key (keys_of s x.doc)) h.0 (ap (λ k. from_document k (posted s key (suc n) xs)) (sym move) ∙ (h.1 ∙ ap (λ m. entry m d ∷ h.0) move)))
    where
      go : (b : Bool) (rest : List Posting) → from_document (n + suc i) (posted s key (suc n) xs) ≡ entry (n + suc i) d ∷ rest
          → from_document (n + suc i) (cond b (entry n x ∷ posted s key (suc n) xs) (posted s key (suc n) xs)) ≡ entry (n + suc i) d ∷ rest
      go true rest h = ap (λ b. cond b (from_document (n + suc i) (posted s key (suc n) xs)) (entry n x ∷ posted s key (suc n) xs)) (less n (n + suc i) (omega arith)) ∙ h
      go false rest h = h

  -- a list from a document on that has the key begins with it
  pub found_from : (i : ℕ) (d : Placed) (ds : List Placed) → slice_get ds i ≡ Some d → has_key key (keys_of s d.doc) ≡ true
      → (rest : List Posting) × (from_document i (posting_list s ds key) ≡ entry i d ∷ rest)
  found_from i d ds got has =
      let z : 0 + i ≡ i = omega arith in
      let h = posted_from 0 i d ds got has in
      (h.0, ap (λ k. from_document k (posted s key 0 ds)) (sym z) ∙ (h.1 ∙ ap (λ m. entry m d ∷ h.0) z))

  pub entry_places : (i : ℕ) (d : Placed) → keeps_places s key ≡ true → (entry i d).positions ≡ places_of key (keys_of s d.doc)
  entry_places i d kept = ap (λ b. cond b (places_of key (keys_of s d.doc)) []) kept

-- ---- the cursors of some tokens

-- some token
pub no_token : Token
no_token = record { text = []; from = 0; to = 0; position = 0 }

pub get_or_any : (l : List Token) (j : ℕ) (a b : Token) → j < length l → get_or l j a ≡ get_or l j b
get_or_any [] j a b lt = absurd (omega arith)
get_or_any (y ∷ ys) zero a b lt = refl
get_or_any (y ∷ ys) (suc j) a b lt = get_or_any ys j a b (omega arith)

module _ (s : Schema) (ds : List Placed) (n : ℕ) (ts : List Token) where
  abbrev list_at : ℕ → Token → List Posting
  list_at i t = posting_list s ds (field_key n (get_or ts i t).text)

  pub passing_later : (cs : List Cursor) (document later : ℕ) → document ≤ later → ArePassing s ds n ts cs document 0 → ArePassing s ds n ts cs later 0
  passing_later cs document later le x = record {
    many = x.many;
    behind = λ i t c low lt. absurd (omega arith);
    before = λ i t c low lt. can_later (list_at i t) (get_or cs i c) document later le (x.before i t c low lt);
  }

  pub passing_done : (cs : List Cursor) (document passed : ℕ) → ArePassing s ds n ts cs document passed → ArePassing s ds n ts cs (document + 1) 0
  passing_done cs document passed x = record {
    many = x.many;
    behind = λ i t c low lt. absurd (omega arith);
    before = λ i t c low lt. go i t c lt (cases_lt i passed);
  }
    where
      go : (i : ℕ) (t : Token) (c : Cursor) → i < length ts → ((i < passed) ⊎ (passed ≤ i)) → CanSeek (list_at i t) (get_or cs i c) (document + 1)
      go i t c lt (inl low) = x.behind i t c low lt
      go i t c lt (inr high) = can_later (list_at i t) (get_or cs i c) document (document + 1) (omega arith) (x.before i t c high lt)

  -- the cursor of the next token
  pub passing_here : (cs : List Cursor) (document passed : ℕ) (y : Token) (c : Cursor) → ArePassing s ds n ts cs document passed → passed < length ts → y ≡ get_or ts passed y
      → CanSeek (posting_list s ds (field_key n y.text)) (get_or cs passed c) document
  passing_here cs document passed y c x lt is = subst (λ (z : Token). CanSeek (posting_list s ds (field_key n z.text)) (get_or cs passed c) document) (sym is) (x.before passed y c (omega arith) lt)

  pub passing_more : (cs : List Cursor) (document passed : ℕ) (now : Cursor) → ArePassing s ds n ts cs document passed → passed < length ts → (y : Token) → y ≡ get_or ts passed y
      → CanSeek (posting_list s ds (field_key n y.text)) now (document + 1) → ArePassing s ds n ts (set cs passed now) document (passed + 1)
  passing_more cs document passed now x here y is can = record {
    many = length-set cs passed now ∙ x.many;
    behind = λ i t c low lt. go i t c low lt (cases_eq i passed);
    before = λ i t c low lt. let other : i ≢ passed = λ e. omega arith in subst (λ (y : Cursor). CanSeek (list_at i t) y document) (sym (get_or-set_other cs passed i now c other)) (x.before i t c (omega arith) lt);
  }
    where
      go : (i : ℕ) (t : Token) (c : Cursor) → i < passed + 1 → i < length ts → ((i ≡ passed) ⊎ (i ≢ passed)) → CanSeek (list_at i t) (get_or (set cs passed now) i c) (document + 1)
      go i t c low lt (inl e) =
          let room : passed < length cs = omega (arith, x.many, here) in
          subst (λ (j : ℕ). CanSeek (list_at j t) (get_or (set cs passed now) j c) (document + 1)) (sym e) (subst (λ (y : Cursor). CanSeek (list_at passed t) y (document + 1)) (sym (get_or-set_same cs passed now c room))
          (subst (λ (z : Token). CanSeek (posting_list s ds (field_key n z.text)) now (document + 1)) (is ∙ get_or_any ts passed y t here) can))
      go i t c low lt (inr ne) = subst (λ (y : Cursor). CanSeek (list_at i t) y (document + 1)) (sym (get_or-set_other cs passed i now c ne)) (x.behind i t c (omega arith) lt)

-- one cursor more
pub cursor_more : (s : Schema) (ds : List Placed) (n : ℕ) (ts : List Token) (cs : List Cursor) (m : ℕ) (now : Cursor) (more : List Cursor) (x : Token) → m < length ts → length cs ≡ m → x ≡ get_or ts m x → more ≡ cs ++ now ∷ []
    → CanSeek (posting_list s ds (field_key n x.text)) now 0 → ((i : ℕ) (t : Token) (c : Cursor) → i < m → CanSeek (posting_list s ds (field_key n (get_or ts i t).text)) (get_or cs i c) 0)
    → (i : ℕ) (t : Token) (c : Cursor) → i < m + 1 → CanSeek (posting_list s ds (field_key n (get_or ts i t).text)) (get_or more i c) 0
cursor_more s ds n ts cs m now more x lt many is put can before i t c low = go (cases_eq i m)
  where
    go : ((i ≡ m) ⊎ (i ≢ m)) → CanSeek (posting_list s ds (field_key n (get_or ts i t).text)) (get_or more i c) 0
    go (inl e) =
        let last : get_or more i c ≡ now = ap (λ l. get_or l i c) put ∙ (ap (λ j. get_or (cs ++ now ∷ []) j c) (e ∙ sym many) ∙ get_or-append_seam cs now [] c) in
        let token : get_or ts i t ≡ x = ap (λ j. get_or ts j t) e ∙ (get_or_any ts m t x lt ∙ sym is) in
        subst (λ (y : Cursor). CanSeek (posting_list s ds (field_key n (get_or ts i t).text)) y 0) (sym last) (subst (λ (y : Token). CanSeek (posting_list s ds (field_key n y.text)) now 0) (sym token) can)
    go (inr ne) =
        let same : get_or more i c ≡ get_or cs i c = ap (λ l. get_or l i c) put ∙ get_or-append cs (now ∷ []) c i (omega arith) in
        subst (λ (y : Cursor). CanSeek (posting_list s ds (field_key n (get_or ts i t).text)) y 0) (sym same) (before i t c (omega arith))

-- an answer on a phrase by an equal test
pub answer_same : (r : Result Bool LeafError) (x y : Bool) (P : Type 0) → x ≡ y → MatchResult r (λ b. (b ≡ x) × P) IsMemory → MatchResult r (λ b. (b ≡ y) × P) IsMemory
answer_same (Ok b) x y P e h = (h.0 ∙ e, h.1)
answer_same (Err fault) x y P e h = h
