-- The blocks that an index gives are those that are asked for.
use Rattle.std.proofs.Common.{◌≡◌, ℕ, zero, suc, ◌+◌, ◌-◌, ◌*◌, ◌<◌, ◌≤◌, ◌^◌, ◌⊎◌, inl, inr, Bool, true, false, not, ◌||◌, List, [], ◌∷◌, length, take, drop, nat_eq, slice_get, Option, Some, None, Result, Ok, Err, OnOk, refl, ap, sym, ◌∙◌, subst, arith, length-drop, length-take}
use Rattle.std.specs.List.{AllByRecursion, starts_with}
use Rattle.std.proofs.lemmas.Bool.{cases_eq, cases_lt, or_parts}
use Rattle.doc_value.specs.declared.schema.Schema.{Schema}
use Rattle.term_dict.specs.Bounds.{AreBlocks, AreInFront, IsBlockAt, IsBlockOf, block_terms, last_number}
use Rattle.term_dict.specs.Chosen.{AreUpTo}
use Rattle.term_dict.specs.Keys.{is_below}
use Rattle.term_dict.specs.Terms.{IsDict, IsRising, area}
use Rattle.term_dict.specs.declared.index.BlockStart.{BlockStart}
use Rattle.term_dict.specs.declared.term.Term.{Term}
use Rattle.term_dict.proofs.Orders.{at_most_below, below_not, below_then}
use Rattle.term_dict.proofs.Ranges.{behind_prefix}
use Rattle.term_dict.proofs.Starts.{block_at, get_some, starts_within}
use Rattle.split_bundle.specs.declared.layout.Sections.{Sections}
use Rattle.split_bundle.specs.declared.placed.Placed.{Placed}
use Rattle.split_bundle.specs.declared.part_view.PartView.{PartView}
use Rattle.split_bundle.specs.declared.pieces.Section.TheVariants.{Dictionary}
use Rattle.split_bundle.specs.Files.{Parts}
use Rattle.split_bundle.specs.Lending.{IsPartOf, block_place}
use Rattle.split_bundle.specs.Lists.{terms_of}
use Rattle.split_bundle.proofs.SectionBytes.{section_within}
use Rattle.doc_sets.specs.Needed.{IsBlockFor}
use Rattle.doc_sets.specs.Walks.{AsksWalkBlock, IsBlock, IsWalked}
use Rattle.leaf_search.specs.FileRanges.{AddsParts}
use Rattle.leaf_search.specs.declared.file_ranges.FileRange.{FileRange}
use Rattle.leaf_search.proofs.RangeLists.{At, both_added, none_added, parts_alike}

pub on_ok : {X E : Type 0} (A B : Type 0) (r : Result X E) → (A → B) → OnOk r A → OnOk r B
on_ok A B (Ok x) f h = f h
on_ok A B (Err e) f h = tt

-- ---- first keys rise

rising_at : (ts : List Term) (m n : ℕ) (x y : Term) → IsRising ts → slice_get ts m ≡ Some x → slice_get ts n ≡ Some y → m < n → is_below x.key y.key ≡ true
rising_at [] m n x y rising gm gn lt = absurd (cc)
rising_at (t ∷ ts) zero zero x y rising gm gn lt = absurd (omega arith)
rising_at (t ∷ ts) (suc m) zero x y rising gm gn lt = absurd (omega arith)
rising_at (t ∷ ts) zero (suc n) x y rising gm gn lt = let same : t ≡ x = cc in subst (λ (z : Term). is_below z.key y.key ≡ true) same (at ts n y gn rising.0)
  where
    at : (us : List Term) (k : ℕ) (z : Term) → slice_get us k ≡ Some z → AllByRecursion (λ u. is_below t.key u.key ≡ true) us → is_below t.key z.key ≡ true
    at [] k z got all = absurd (cc)
    at (u ∷ us) zero z got all = let same : u ≡ z = cc in subst (λ (w : Term). is_below t.key w.key ≡ true) same all.0
    at (u ∷ us) (suc k) z got all = at us k z got all.1
rising_at (t ∷ ts) (suc m) (suc n) x y rising gm gn lt = rising_at ts m n x y rising.1 gm gn (omega arith)

firsts_rise : (bytes : List ℕ) (index : List BlockStart) (terms : List Term) (m n : ℕ) (x y : BlockStart) → IsDict bytes index terms → slice_get index m ≡ Some x → slice_get index n ≡ Some y → m < n → is_below x.first y.first ≡ true
firsts_rise bytes index terms m n x y dict gm gn lt =
    let a = block_at bytes index terms m x dict gm in
    let b = block_at bytes index terms n y dict gn in
    subst (λ (k : List ℕ). is_below k y.first ≡ true) (sym a.2) (subst (λ (k : List ℕ). is_below a.0.key k ≡ true) (sym b.2) (rising_at terms (64 * m) (64 * n) a.0 b.0 dict.are_terms.rising a.1 b.1 (omega (arith, lt))))

-- ---- how many blocks stand in front

-- a test that fails at a key fails at the keys above it
abbrev Falls : (List ℕ → Bool) → Type 0
Falls test = (a b : List ℕ) → test a ≡ false → is_below a b ≡ true → test b ≡ false

not_fewer : (bytes : List ℕ) (index : List BlockStart) (terms : List Term) (test : List ℕ → Bool) (m n : ℕ) → IsDict bytes index terms → Falls test → AreInFront index test m → AreInFront index test n → m < n → ⊥
not_fewer bytes index terms test m n dict falls fm fn lt =
    let x = get_some index m (omega (arith, lt, fn.within)) in
    let y = get_some index (n - 1) (omega (arith, lt, fn.within)) in
    let no : test x.0.first ≡ false = fm.behind x.0 x.1 in
    let yes : test y.0.first ≡ true = fn.front y.0 (n - 1) (omega (arith, lt)) y.1 in
    elim (cases_eq m (n - 1)) [
      | inl e ↦
          let got : slice_get index m ≡ Some y.0 = ap (λ i. slice_get index i) e ∙ y.1 in
          let same : x.0 ≡ y.0 = let both : Some x.0 ≡ Some y.0 = sym x.1 ∙ got in cc in
          let bad : false ≡ true = sym no ∙ (ap (λ (b : BlockStart). test b.first) same ∙ yes) in
          cc
      | inr ne ↦
          let below = firsts_rise bytes index terms m (n - 1) x.0 y.0 dict x.1 y.1 (omega (arith, lt, ne)) in
          let bad : false ≡ true = sym (falls x.0.first y.0.first no below) ∙ yes in
          cc
    ]

one_count : (bytes : List ℕ) (index : List BlockStart) (terms : List Term) (test : List ℕ → Bool) (m n : ℕ) → IsDict bytes index terms → Falls test → AreInFront index test m → AreInFront index test n → m ≡ n
one_count bytes index terms test m n dict falls fm fn = elim (cases_lt m n) [
  | inl lt ↦ absurd (not_fewer bytes index terms test m n dict falls fm fn lt)
  | inr ge ↦ elim (cases_lt n m) [
    | inl lt ↦ absurd (not_fewer bytes index terms test n m dict falls fn fm lt)
    | inr le ↦ omega (arith, ge, le)
  ]
]

up_to_front : (index : List BlockStart) (key : List ℕ) (count : ℕ) → AreUpTo index key count → AreInFront index (λ first. not (is_below key first)) count
up_to_front index key count up = record {
  within = up.within;
  front = λ b n e got. ap not (up.up_to b n e got);
  behind = λ b got. ap not (up.behind b got);
}

key_falls : (key : List ℕ) → Falls (λ first. not (is_below key first))
key_falls key a b h below = ap not (below_then key a b (turn (is_below key a) h) below)
  where
    turn : (c : Bool) → not c ≡ false → c ≡ true
    turn true e = refl
    turn false e = absurd (cc)

both_none : (a b : Bool) → a ≡ false → b ≡ false → a || b ≡ false
both_none true b h k = absurd (let x : true ≡ false = h in cc)
both_none false b h k = k

prefix_falls : (prefix : List ℕ) → Falls (λ first. is_below first prefix || starts_with nat_eq first prefix)
prefix_falls prefix a b h below =
    let out = or_parts (is_below a prefix) (starts_with nat_eq a prefix) h in
    both_none (is_below b prefix) (starts_with nat_eq b prefix) (below_not prefix b (at_most_below prefix a b out.0 below)) (behind_prefix prefix a b out.0 out.1 below)

one_number : (bytes : List ℕ) (index : List BlockStart) (terms : List Term) (key : List ℕ) (m n : Option ℕ) → IsDict bytes index terms → IsBlockOf index key m → IsBlockOf index key n → m ≡ n
one_number bytes index terms key m n dict a b =
    a.last ∙ (ap last_number (one_count bytes index terms (λ first. not (is_below key first)) a.count b.count dict (key_falls key) (up_to_front index key a.count a.up_to) (up_to_front index key b.count b.up_to)) ∙ sym b.last)

-- ---- the places of blocks

-- a block from one number on up to and without another one
abbrev pub BlocksBetween : Schema → List Placed → Parts → ℕ → ℕ → ℕ → ℕ → Type 0
BlocksBetween s ds p from until at len = (number : ℕ) × (from ≤ number) × (number < until) × IsBlock s ds p number at len

module _ (v : PartView) (s : Schema) (ds : List Placed) (p : Parts) (part : IsPartOf v s ds p) where
  abbrev terms : List Term
  terms = terms_of s ds p.keys

  abbrev index : List BlockStart
  index = v.footer.index

  dict : IsDict p.dictionary index terms
  dict = subst (λ (ix : List BlockStart). IsDict p.dictionary ix terms) (sym part.footer.index) part.is_split.dictionary

  pub record IsPlaced (number start end : ℕ) : Type 0 where
    pub start_is : 4 + v.footer.layout.sections.documents + start ≡ block_place p terms number
    pub len_is : end - start ≡ length (area (block_terms terms number))
    pub fits : 4 + v.footer.layout.sections.documents + start + (end - start) < 2 ^ 64

  pub placed : (number start end : ℕ) → IsBlockAt p.dictionary terms number start end → IsPlaced number start end
  placed number start end b =
      let documents : v.footer.layout.sections.documents ≡ length p.documents = ap (λ (l : Sections). l.documents) part.footer.layout.sections in
      let len : length (drop start (take end p.dictionary)) ≡ length (area (block_terms terms number)) = ap length b.bytes_are in
      let first = length-drop start (take end p.dictionary) in
      let second = length-take end p.dictionary in
      let whole : length p.dictionary ≡ length (area terms) = ap length part.is_split.dictionary.area_is in
      record {
        start_is = omega (arith, documents, b.start_is);
        len_is = omega (arith, len, first, second, b.within);
        fits = omega (arith, documents, len, first, second, b.start_is, b.within, starts_within (64 * number) terms, whole, section_within Dictionary p, part.is_split.size);
      }

  pub block_named : (number start end at len : ℕ) (old new : List FileRange) → IsPlaced number start end → at ≡ 4 + v.footer.layout.sections.documents + start → len ≡ end - start → AddsParts (At at len) old new → AddsParts (IsBlock s ds p number) old new
  block_named number start end at len old new is same_at same_len adds =
      parts_alike (At at len) (IsBlock s ds p number) old new
      (λ a n h. record { at_is = h.0 ∙ (same_at ∙ is.start_is); len_is = h.1 ∙ (same_len ∙ is.len_is) })
      (λ a n h. (h.at_is ∙ sym (same_at ∙ is.start_is), h.len_is ∙ sym (same_len ∙ is.len_is))) adds

  -- ---- the block of a key

  pub key_named : (key : List ℕ) (number : ℕ) (old new : List FileRange) → IsBlockOf index key (Some number) → AddsParts (IsBlock s ds p number) old new → AddsParts (IsBlockFor v s ds p key) old new
  key_named key number old new is adds =
      parts_alike (IsBlock s ds p number) (IsBlockFor v s ds p key) old new
      (λ a n h. record { number = number; is_block = is; at_is = h.at_is; len_is = h.len_is })
      (λ a n h.
      let both : Some h.number ≡ Some number = one_number p.dictionary index terms key (Some h.number) (Some number) dict h.is_block is in
      let same : h.number ≡ number = cc in
      record { at_is = h.at_is ∙ ap (block_place p terms) same; len_is = h.len_is ∙ ap (λ k. length (area (block_terms terms k))) same }) adds

  pub no_key_named : (key : List ℕ) (rs : List FileRange) → IsBlockOf index key None → AddsParts (IsBlockFor v s ds p key) rs rs
  no_key_named key rs is = none_added (IsBlockFor v s ds p key) rs (λ a n h.
      let none : Option ℕ = None in
      let bad : Some h.number ≡ none = one_number p.dictionary index terms key (Some h.number) None dict h.is_block is in
      cc)

  pub same_number : (key : List ℕ) (number : Option ℕ) (at len : ℕ) → IsBlockOf index key number → (b : IsBlockFor v s ds p key at len) → number ≡ Some b.number
  same_number key number at len is b = one_number p.dictionary index terms key number (Some b.number) dict is b.is_block

  -- ---- the blocks of a walk

  pub next_named : (from until : ℕ) (old middle new : List FileRange) → from < until → AddsParts (IsBlock s ds p from) old middle → AddsParts (BlocksBetween s ds p (from + 1) until) middle new → AddsParts (BlocksBetween s ds p from until) old new
  next_named from until old middle new lt first rest =
      parts_alike (λ at len. IsBlock s ds p from at len ⊎ BlocksBetween s ds p (from + 1) until at len) (BlocksBetween s ds p from until) old new
      (λ a n h. elim h [ inl b ↦ (from, omega arith, lt, b) | inr o ↦ (o.0, omega (arith, o.1), o.2, o.3) ])
      (λ a n h. elim (cases_eq from h.0) [
        | inl e ↦ inl (subst (λ k. IsBlock s ds p k a n) (sym e) h.3)
        | inr ne ↦ inr (h.0, omega (arith, ne, h.1), h.2, h.3)
      ]) (both_added (IsBlock s ds p from) (BlocksBetween s ds p (from + 1) until) old middle new first rest)

  pub none_between : (from until : ℕ) (rs : List FileRange) → until ≤ from → AddsParts (BlocksBetween s ds p from until) rs rs
  none_between from until rs le = none_added (BlocksBetween s ds p from until) rs (λ a n h. omega (arith, le, h.1, h.2))

  -- a block of a walk stands between its ends
  pub same_walk : (prefix : List ℕ) (from until : ℕ) → AreBlocks index prefix (λ first. is_below first prefix || starts_with nat_eq first prefix) from until → (number : ℕ) → IsWalked v prefix number → (from ≤ number) × (number < until)
  same_walk prefix from until blocks number w =
      let test : List ℕ → Bool = λ first. is_below first prefix || starts_with nat_eq first prefix in
      let keyed : List ℕ → Bool = λ first. not (is_below prefix first) in
      let count = one_count p.dictionary index terms keyed w.blocks.count blocks.count dict (key_falls prefix) (up_to_front index prefix w.blocks.count w.blocks.up_to) (up_to_front index prefix blocks.count blocks.up_to) in
      let end = one_count p.dictionary index terms test w.end until dict (prefix_falls prefix) w.blocks.front blocks.front in
      (omega (arith, count, w.blocks.start_is, blocks.start_is, w.from), omega (arith, end, w.until))

  pub walk_named : (prefix : List ℕ) (from until : ℕ) (old new : List FileRange) → AreBlocks index prefix (λ first. is_below first prefix || starts_with nat_eq first prefix) from until → AddsParts (BlocksBetween s ds p from until) old new
      → AddsParts (AsksWalkBlock v s ds p prefix) old new
  walk_named prefix from until old new blocks adds =
      parts_alike (BlocksBetween s ds p from until) (AsksWalkBlock v s ds p prefix) old new
      (λ a n h. (h.0, record { start = from; end = until; blocks = blocks; from = h.1; until = h.2 }, h.3))
      (λ a n h. let within = same_walk prefix from until blocks h.0 h.1 in (h.0, within.0, within.1, h.2)) adds
