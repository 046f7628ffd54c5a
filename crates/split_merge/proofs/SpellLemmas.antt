-- A list is put in bytes, of what is listed of its documents.
use Rattle.std.proofs.Common.{◌≡◌, ℕ, zero, suc, ◌+◌, ◌-◌, ◌<◌, ◌≤◌, Bool, List, [], ◌∷◌, ◌++◌, length, take, drop, map, get_or, refl, sym, ◌∙◌, ap, subst, arith, append_assoc, length-append, length-drop, suc-add}
use Rattle.std.specs.List.{AllByRecursion}
use Rattle.std.proofs.lemmas.List.{append-nil, drop-map, drop_all, length-map, take-append-drop, take-map, take_all}
use Rattle.byte_fields.specs.Spelling.{varint}
use Rattle.term_postings.specs.Postings.{Fits, count_bytes, document_bytes, head_bytes, head_list, last_document, later_blocks, list_bytes, position_bytes}
use Rattle.term_postings.specs.declared.list.Posting.{Posting}
use Rattle.term_postings.proofs.Lists.{all_left, all_right, document-append, head_step, position-append}
use Rattle.split_merge.specs.Joining.{listed}
use Rattle.split_merge.specs.declared.lists.Listed.{Listed}

-- ---- what is listed

front_of : (ps : List Posting) (i : ℕ) (d : Listed) → i < length ps → (p : Posting) × (drop i ps ≡ p ∷ drop (i + 1) ps) × (get_or (map listed ps) i d ≡ listed p)
front_of [] i d lt = absurd (omega (arith, lt))
front_of (p ∷ ps) zero d lt = (p, refl, refl)
front_of (p ∷ ps) (suc i) d lt = rw suc-add (front_of ps i d (omega (arith, lt)))

-- the document at a place
pub listed_front : (ps : List Posting) (es : List Listed) (i : ℕ) (d : Listed) → es ≡ map listed ps → i < length es → (p : Posting) × (drop i ps ≡ p ∷ drop (i + 1) ps) × (get_or es i d ≡ listed p)
listed_front ps es i d is lt =
    let within : i < length ps = omega (arith, lt, ap (λ (l : List Listed). length l) is, length-map ps listed) in
    let f = front_of ps i d within in
    (f.0, f.1, ap (λ (l : List Listed). get_or l i d) is ∙ f.2)

pub fits_behind : (kept : Bool) (n : ℕ) (ps : List Posting) → AllByRecursion (Fits kept) ps → AllByRecursion (Fits kept) (drop n ps)
fits_behind kept n ps h = all_right (Fits kept) (take n ps) (drop n ps) (subst (λ (l : List Posting). AllByRecursion (Fits kept) l) (sym (take-append-drop n ps)) h)

pub fits_front : (kept : Bool) (n : ℕ) (ps : List Posting) → AllByRecursion (Fits kept) ps → AllByRecursion (Fits kept) (take n ps)
fits_front kept n ps h = all_left (Fits kept) (take n ps) (drop n ps) (subst (λ (l : List Posting). AllByRecursion (Fits kept) l) (sym (take-append-drop n ps)) h)

pub fits_here : (kept : Bool) (n : ℕ) (ps : List Posting) (p : Posting) (qs : List Posting) → AllByRecursion (Fits kept) ps → drop n ps ≡ p ∷ qs → Fits kept p
fits_here kept n ps p qs h is =
    let here : AllByRecursion (Fits kept) (p ∷ qs) = subst (λ (l : List Posting). AllByRecursion (Fits kept) l) is (fits_behind kept n ps h) in
    here.0

pub block_listed : (ps : List Posting) (es : List Listed) (from : ℕ) → es ≡ map listed ps → take (from + 128 - from) (drop from es) ≡ map listed (take 128 (drop from ps))
block_listed ps es from is =
    let size : from + 128 - from ≡ 128 = omega arith in
    ap (λ (n : ℕ). take n (drop from es)) size ∙ ap (λ (l : List Listed). take 128 (drop from l)) is ∙ ap (λ (l : List Listed). take 128 l) (drop-map listed from ps) ∙ take-map listed 128 (drop from ps)

pub rest_listed : (ps : List Posting) (es : List Listed) (from : ℕ) → es ≡ map listed ps → take (length es - from) (drop from es) ≡ map listed (drop from ps)
rest_listed ps es from is =
    let whole : length (drop from es) ≤ length es - from = omega (arith, length-drop from es) in
    take_all (length es - from) (drop from es) whole ∙ ap (λ (l : List Listed). drop from l) is ∙ drop-map listed from ps

-- ---- documents that are put

-- some of the documents were put, and the rest completes them
pub record PutsListed (kept : Bool) (start out : List ℕ) (before last : ℕ) (rest all : List Posting) : Type 0 where
  pub blocks : out ++ document_bytes kept last rest ≡ start ++ document_bytes kept before all
  pub last_is : last_document last rest ≡ last_document before all

pub none_listed_yet : (kept : Bool) (start : List ℕ) (before : ℕ) (all : List Posting) → PutsListed kept start start before before all all
none_listed_yet kept start before all = record { blocks = refl; last_is = refl }

three : (a b c d : List ℕ) → (a ++ (b ++ c)) ++ d ≡ a ++ (b ++ (c ++ d))
three a b c d = simp append_assoc

pub one_listed : (kept : Bool) (start out next : List ℕ) (before last now : ℕ) (p : Posting) (rest qs all : List Posting) → rest ≡ p ∷ qs → PutsListed kept start out before last rest all
    → now ≡ p.document → next ≡ out ++ (varint (now - last) ++ count_bytes kept p.positions) → PutsListed kept start next before now qs all
one_listed kept start out next before last now p rest qs all is h now_is next_is =
    let q : PutsListed kept start out before last (p ∷ qs) all = subst (λ (l : List Posting). PutsListed kept start out before last l all) is h in
    let put : next ≡ out ++ (varint (p.document - last) ++ count_bytes kept p.positions) = next_is ∙ ap (λ (n : ℕ). out ++ (varint (n - last) ++ count_bytes kept p.positions)) now_is in
    subst (λ (n : ℕ). PutsListed kept start next before n qs all) (sym now_is) (record {
      blocks = ap (λ (l : List ℕ). l ++ document_bytes kept p.document qs) put ∙ three out (varint (p.document - last)) (count_bytes kept p.positions) (document_bytes kept p.document qs) ∙ q.blocks;
      last_is = q.last_is;
    })

pub all_listed : (kept : Bool) (start out : List ℕ) (before last i : ℕ) (all : List Posting) (es : List Listed) → es ≡ map listed all → length es ≤ i → PutsListed kept start out before last (drop i all) all
    → (out ≡ start ++ document_bytes kept before all) × (last ≡ last_document before all)
all_listed kept start out before last i all es is whole h =
    let past : length all ≤ i = omega (arith, whole, ap (λ (l : List Listed). length l) is, length-map all listed) in
    let q : PutsListed kept start out before last [] all = subst (λ (l : List Posting). PutsListed kept start out before last l all) (drop_all i all past) h in
    (sym (append-nil out) ∙ q.blocks, q.last_is)

-- ---- blocks that are put

-- some of the blocks were put, and the rest completes them
pub record PutsHeads (kept : Bool) (start heads blocks : List ℕ) (before : ℕ) (rest all : List Posting) : Type 0 where
  pub heads_are : heads ++ head_list (later_blocks rest) kept before rest ≡ start ++ head_list (later_blocks all) kept 0 all
  pub blocks_are : blocks ++ document_bytes kept before rest ≡ document_bytes kept 0 all

pub none_put_yet : (kept : Bool) (start : List ℕ) (all : List Posting) → PutsHeads kept start start [] 0 all all
none_put_yet kept start all = record { heads_are = refl; blocks_are = refl }

-- the positions of a block stand between two places
places_between : (places : List ℕ) (at behind : ℕ) (rest : List Posting) → at ≤ length places → behind ≤ length places → drop at places ≡ position_bytes rest → drop behind places ≡ position_bytes (drop 128 rest)
    → behind - at ≡ length (position_bytes (take 128 rest))
places_between places at behind rest at_within behind_within here there =
    let split : position_bytes rest ≡ position_bytes (take 128 rest) ++ position_bytes (drop 128 rest) = ap (λ (l : List Posting). position_bytes l) (sym (take-append-drop 128 rest)) ∙ position-append (take 128 rest) (drop 128 rest) in
    omega (
      arith,
      at_within,
      behind_within,
      length-drop at places,
      length-drop behind places,
      ap (λ (l : List ℕ). length l) here,
      ap (λ (l : List ℕ). length l) there,
      ap (λ (l : List ℕ). length l) split,
      length-append (position_bytes (take 128 rest)) (position_bytes (drop 128 rest)),
    )

pub one_head : (kept : Bool) (start heads blocks next_heads next_blocks places : List ℕ) (before last gap len places_len at behind : ℕ) (rest all : List Posting) → 128 < length rest
    → PutsHeads kept start heads blocks before rest all → last ≡ last_document before (take 128 rest) → gap ≡ last - before → next_blocks ≡ blocks ++ document_bytes kept before (take 128 rest)
    → len ≡ length next_blocks - length blocks → places_len ≡ behind - at → at ≤ length places → behind ≤ length places → drop at places ≡ position_bytes rest → drop behind places ≡ position_bytes (drop 128 rest)
    → next_heads ≡ heads ++ (varint gap ++ (varint len ++ varint places_len)) → PutsHeads kept start next_heads next_blocks last (drop 128 rest) all
one_head kept start heads blocks next_heads next_blocks places before last gap len places_len at behind rest all more h last_is gap_is blocks_is len_is places_len_is at_within behind_within here there heads_is =
    let len_of : len ≡ length (document_bytes kept before (take 128 rest)) = omega (arith, len_is, ap (λ (l : List ℕ). length l) blocks_is, length-append blocks (document_bytes kept before (take 128 rest))) in
    let places_len_of : places_len ≡ length (position_bytes (take 128 rest)) = places_len_is ∙ places_between places at behind rest at_within behind_within here there in
    let head : varint gap ++ (varint len ++ varint places_len) ≡ head_bytes kept before (take 128 rest) =
    ap (λ (n : ℕ). varint n ++ (varint len ++ varint places_len)) (gap_is ∙ ap (λ (n : ℕ). n - before) last_is)
    ∙ ap (λ (n : ℕ). varint (last_document before (take 128 rest) - before) ++ (varint n ++ varint places_len)) len_of
    ∙ ap (λ (n : ℕ). varint (last_document before (take 128 rest) - before) ++ (varint (length (document_bytes kept before (take 128 rest))) ++ varint n)) places_len_of in
    let split : document_bytes kept before rest ≡ document_bytes kept before (take 128 rest) ++ document_bytes kept last (drop 128 rest) =
    ap (λ (l : List Posting). document_bytes kept before l) (sym (take-append-drop 128 rest)) ∙ document-append kept before (take 128 rest) (drop 128 rest)
    ∙ ap (λ (n : ℕ). document_bytes kept before (take 128 rest) ++ document_bytes kept n (drop 128 rest)) (sym last_is) in
    record {
      heads_are = ap (λ (l : List ℕ). l ++ head_list (later_blocks (drop 128 rest)) kept last (drop 128 rest)) (heads_is ∙ ap (λ (l : List ℕ). heads ++ l) head)
          ∙ append_assoc heads (head_bytes kept before (take 128 rest)) (head_list (later_blocks (drop 128 rest)) kept last (drop 128 rest))
          ∙ ap (λ (n : ℕ). heads ++ (head_bytes kept before (take 128 rest) ++ head_list (later_blocks (drop 128 rest)) kept n (drop 128 rest))) last_is
          ∙ ap (λ (l : List ℕ). heads ++ l) (sym (head_step kept before rest more)) ∙ h.heads_are;
      blocks_are = ap (λ (l : List ℕ). l ++ document_bytes kept last (drop 128 rest)) blocks_is ∙ append_assoc blocks (document_bytes kept before (take 128 rest)) (document_bytes kept last (drop 128 rest))
          ∙ ap (λ (l : List ℕ). blocks ++ l) (sym split) ∙ h.blocks_are;
    }

pub last_put : (kept : Bool) (start heads blocks now : List ℕ) (before : ℕ) (rest all : List Posting) → length rest ≤ 128 → PutsHeads kept start heads blocks before rest all
    → now ≡ (heads ++ blocks) ++ document_bytes kept before rest → now ≡ start ++ list_bytes kept all
last_put kept start heads blocks now before rest all few h now_is =
    let none : later_blocks rest ≡ 0 = omega arith in
    let heads_are : heads ≡ start ++ head_list (later_blocks all) kept 0 all = sym (append-nil heads) ∙ ap (λ (n : ℕ). heads ++ head_list n kept before rest) (sym none) ∙ h.heads_are in
    now_is ∙ append_assoc heads blocks (document_bytes kept before rest) ∙ ap (λ (l : List ℕ). heads ++ l) h.blocks_are ∙ ap (λ (l : List ℕ). l ++ document_bytes kept 0 all) heads_are
    ∙ append_assoc start (head_list (later_blocks all) kept 0 all) (document_bytes kept 0 all)
