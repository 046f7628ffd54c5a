-- How many bytes the ranges of a request have.
use Rattle.std.proofs.Common.{◌≡◌, ℕ, ◌+◌, ◌-◌, ◌*◌, ◌<◌, ◌≤◌, ◌⊎◌, inl, inr, true, false, List, [], ◌∷◌, length, Option, Some, None, refl, ap, sym, ◌∙◌, subst, arith}
use Rattle.std.specs.List.{AllByRecursion}
use Rattle.std.specs.Option.{option_map_or}
use Rattle.std.proofs.lemmas.Bool.{cases_lt}
use Rattle.std.proofs.lemmas.List.Sums.{sum_by-cons}
use Rattle.doc_value.specs.declared.schema.Schema.{Schema}
use Rattle.term_dict.specs.Bounds.{IsBlockOf, block_terms}
use Rattle.term_dict.specs.Terms.{area}
use Rattle.split_bundle.specs.declared.part_view.PartView.{PartView}
use Rattle.split_bundle.specs.declared.placed.Placed.{Placed}
use Rattle.split_bundle.specs.declared.pieces.Section.TheVariants.{Dictionary}
use Rattle.split_bundle.specs.Files.{Parts, file_bytes}
use Rattle.split_bundle.specs.Lending.{IsPartOf, block_place}
use Rattle.split_bundle.specs.Lists.{terms_of}
use Rattle.split_bundle.proofs.SectionBytes.{section_within}
use Rattle.doc_sets.specs.Asking.{AsksBlockOf, AsksBlocks, AsksListOf, AsksLists}
use Rattle.doc_sets.specs.Needed.{IsBlockFor, IsColumnFor, IsListFor, positions_start, postings_start}
use Rattle.doc_sets.proofs.WithinFile.{area_within, lookups_within}
use Rattle.doc_sets.specs.Walks.{AsksTerms, begun_in}
use Rattle.doc_sets.specs.declared.dictionary_lookup.Lookup.{Lookup}
use Rattle.doc_sets.specs.declared.dictionary_lookup.Lookup.TheVariants.{Count, Documents, Places, Values, Walk}
use Rattle.doc_sets.specs.declared.wanted.Wanted.{Wanted}
use Rattle.agg_nested.specs.declared.request.NestedAgg.{NestedAgg}
use Rattle.doc_tallies.specs.AggColumns.{fields_asked}
use Rattle.term_dict.specs.declared.term.Term.{Term}
use Rattle.doc_tallies.specs.Causes.{AsksColumn, columns_start}
use Rattle.doc_tallies.specs.Cells.{IsFast}
use Rattle.leaf_search.specs.Answers.{IsAsked}
use Rattle.leaf_search.specs.Counts.{counted_key, request_lookups}
use Rattle.leaf_search.specs.FileRanges.{AreApart, AreRangesOf, HasByte, SomeRange, total}
use Rattle.leaf_search.specs.Needs.{NeedsBlocks, NeedsLists}
use Rattle.leaf_search.specs.declared.file_ranges.FileRange.{FileRange}
use Rattle.leaf_search.specs.declared.request.LeafRequest.{LeafRequest}
use Rattle.leaf_search.proofs.BlockParts.{same_number}
use Rattle.leaf_search.proofs.ColumnParts.{column_inside, columns_start_is, has_fast, timestamp_fast}
use Rattle.leaf_search.proofs.Counted.{over_fast}
use Rattle.leaf_search.proofs.KeyCounts.{OnlyCounts, counted_lookups, counts}
use Rattle.std.specs.Prelude.{sum_by, slice_get, Contains}
use Rattle.split_bundle.specs.DocLending.{starts_place, doc_place}
use Rattle.split_bundle.specs.Documents.{placed_bytes}
use Rattle.doc_tallies.specs.declared.hit_order.HitOrder.{HitOrder}
use Rattle.doc_tallies.specs.Orders.{IsSortable, sort_field}
use Rattle.leaf_search.specs.Shown.{NeedsListed, NeedsShown, NeedsStarts, are_few, shown_cost, shown_of}
use Rattle.leaf_search.proofs.Covers.{total_covered}
use Rattle.leaf_search.proofs.ShownParts.{none_shown}

-- ---- ranges that are apart

-- all bytes of the ranges lie between two places
abbrev LieBetween : ℕ → ℕ → List FileRange → Type 0
LieBetween from until rs = (place : ℕ) → SomeRange (HasByte place) rs → (from ≤ place) × (place < until)

starts_behind : (place m : ℕ) (rs : List FileRange) → AllByRecursion (λ next. m < next.start) rs → SomeRange (HasByte place) rs → m < place
starts_behind place m [] all h = absurd h
starts_behind place m (r ∷ rs) all (inl h) = omega (arith, all.0, h.0)
starts_behind place m (r ∷ rs) all (inr h) = starts_behind place m rs all.1 h

pub total_within : (rs : List FileRange) (from until : ℕ) → from ≤ until → AreApart rs → LieBetween from until rs → total rs ≤ until - from
total_within [] from until le apart lie = omega arith
total_within (r ∷ rs) from until le apart lie = elim (cases_lt 0 r.len) [
  | inr empty ↦
      let rest = total_within rs from until le apart.1 (λ place h. lie place (inr h)) in
      let both : total (r ∷ rs) ≡ r.len + total rs = sum_by-cons (λ (x : FileRange). x.len) r rs in
      omega (arith, rest, both, empty)
  | inl some ↦
      let first = lie r.start (inl (omega arith, omega (arith, some))) in
      let last = lie (r.start + r.len - 1) (inl (omega (arith, some), omega (arith, some))) in
      let rest = total_within rs (r.start + r.len) until (omega (arith, last.1, some)) apart.1
      (λ place h. let behind = starts_behind place (r.start + r.len) rs apart.0 h in (omega (arith, behind), (lie place (inr h)).1)) in
      let both : total (r ∷ rs) ≡ r.len + total rs = sum_by-cons (λ (x : FileRange). x.len) r rs in
      omega (arith, rest, both, first.0, last.1, some)
]

pub total_none : (rs : List FileRange) → AreApart rs → ((place : ℕ) → SomeRange (HasByte place) rs → ⊥) → total rs ≡ 0
total_none rs apart none = let le = total_within rs 0 0 (omega arith) apart (λ place h. absurd (none place h)) in omega (arith, le)

-- ---- a request that only counts

module _ (v : PartView) (s : Schema) (ds : List Placed) (p : Parts) (r : LeafRequest) where
  no_lists : (key : List ℕ) → OnlyCounts s r key → counted_key s r ≡ Some key → (at len : ℕ) → NeedsLists v s ds p r at len → ⊥
  no_lists key c is at len (inl h) = elim (subst (λ (ls : List Lookup). AsksLists v s ds p ls at len) (counted_lookups v s ds p r key is) h) [ inl never ↦ never | inr never ↦ never ]
  no_lists key c is at len (inr (inl (inl h))) = let bad : true ≡ false = sym c.unlimited ∙ h.limited in cc
  no_lists key c is at len (inr (inl (inr (inl h)))) = let few : length (fields_asked r.aggs) ≡ 0 = ap (λ (aggs : List NestedAgg). length (fields_asked aggs)) c.aggs in omega (arith, few, h.among.1)
  no_lists key c is at len (inr (inl (inr (inr h)))) = omega (arith, c.wanted, h.0)
  no_lists key c is at len (inr (inr h)) = omega (arith, c.wanted, h.0)

  block_alone : (key : List ℕ) → counted_key s r ≡ Some key → (at len : ℕ) → NeedsBlocks v s ds p r at len → IsBlockFor v s ds p key at len
  block_alone key is at len h = elim (subst (λ (ls : List Lookup). AsksBlocks v s ds p ls at len) (counted_lookups v s ds p r key is) h) [ inl b ↦ b | inr never ↦ absurd never ]

  pub count_bound : (key : List ℕ) (number : Option ℕ) (blocks lists : List FileRange) → IsPartOf v s ds p → counted_key s r ≡ Some key → IsBlockOf v.footer.index key number → AreRangesOf (NeedsBlocks v s ds p r) blocks
      → AreRangesOf (NeedsLists v s ds p r) lists → total blocks + total lists ≤ option_map_or (λ n. length (area (block_terms (terms_of s ds p.keys) n))) number 0
  count_bound key number blocks lists part is block b l =
      let c = counts s r key is in
      let no : total lists ≡ 0 = total_none lists l.apart (λ place h. let o = l.only place h in no_lists key c is o.0 o.1 o.2) in
      let le = by_number number block in
      omega (arith, no, le)
    where
      by_number : (number : Option ℕ) → IsBlockOf v.footer.index key number → total blocks ≤ option_map_or (λ n. length (area (block_terms (terms_of s ds p.keys) n))) number 0
      by_number None block =
          let none = total_none blocks b.apart (λ place h.
          let o = b.only place h in
          let bad = same_number v s ds p part key None o.0 o.1 block (block_alone key is o.0 o.1 o.2) in
          cc) in
          omega (arith, none)
      by_number (Some n) block =
          let size : ℕ = length (area (block_terms (terms_of s ds p.keys) n)) in
          let start : ℕ = block_place p (terms_of s ds p.keys) n in
          let le = total_within blocks start (start + size) (omega arith) b.apart (λ place h.
          let o = b.only place h in
          let here = block_alone key is o.0 o.1 o.2 in
          let both = same_number v s ds p part key (Some n) o.0 o.1 block here in
          let same : n ≡ here.number = cc in
          let at_is : o.0 ≡ start = here.at_is ∙ ap (block_place p (terms_of s ds p.keys)) (sym same) in
          let len_is : o.1 ≡ size = here.len_is ∙ ap (λ k. length (area (block_terms (terms_of s ds p.keys) k))) (sym same) in
          (omega (arith, at_is, o.3), omega (arith, at_is, len_is, o.4))) in
          omega (arith, le)

-- ---- a request that wants no hits

module _ (v : PartView) (s : Schema) (ds : List Placed) (p : Parts) (part : IsPartOf v s ds p) where
  abbrev terms : List Term
  terms = terms_of s ds p.keys

  -- where the dictionary starts and where it ends
  abbrev first : ℕ
  first = 4 + length p.documents

  abbrev behind : ℕ
  behind = 4 + length p.documents + length p.dictionary

  block_inside : (number at len : ℕ) → at ≡ block_place p terms number → len ≡ length (area (block_terms terms number)) → (first ≤ at) × (at + len ≤ behind)
  block_inside number at len at_is len_is =
      let room = area_within (64 * number) 64 terms in
      let whole : length p.dictionary ≡ length (area terms) = ap length part.is_split.dictionary.area_is in
      (omega (arith, at_is), omega (arith, at_is, len_is, room, whole))

  of_block_inside : (l : Lookup) (at len : ℕ) → AsksBlockOf v s ds p l at len → (first ≤ at) × (at + len ≤ behind)
  of_block_inside (Count key) at len h = block_inside h.number at len h.at_is h.len_is
  of_block_inside (Documents key) at len h = block_inside h.number at len h.at_is h.len_is
  of_block_inside (Places key) at len h = block_inside h.number at len h.at_is h.len_is
  of_block_inside (Walk prefix w) at len h = block_inside h.0 at len h.2.at_is h.2.len_is
  of_block_inside (Values number r) at len h = absurd h

  blocks_inside : (ls : List Lookup) (at len : ℕ) → AsksBlocks v s ds p ls at len → (first ≤ at) × (at + len ≤ behind)
  blocks_inside [] at len h = absurd h
  blocks_inside (l ∷ ls) at len (inl h) = of_block_inside l at len h
  blocks_inside (l ∷ ls) at len (inr h) = blocks_inside ls at len h

  postings_at : postings_start v.footer.layout.sections ≡ behind
  postings_at = ap postings_start part.footer.layout.sections

  positions_at : positions_start v.footer.layout.sections ≡ behind + length p.postings
  positions_at = ap positions_start part.footer.layout.sections

  list_behind : (key : List ℕ) (at len : ℕ) → IsListFor v s ds p key at len → behind ≤ at
  list_behind key at len h = omega (arith, h.at_is, postings_at)

  terms_behind : (w : Wanted) (ts : List Term) (at len : ℕ) → AsksTerms v s ds p w ts at len → behind ≤ at
  terms_behind w [] at len h = absurd h
  terms_behind w (t ∷ ts) at len (inl h) = list_behind t.key at len h.1
  terms_behind w (t ∷ ts) at len (inr h) = terms_behind w ts at len h

  column_behind : (number at len : ℕ) → IsColumnFor v s p number at len → behind ≤ at
  column_behind number at len h =
      let start : columns_start v.footer.layout.sections ≡ behind + length p.postings + length p.positions = ap columns_start part.footer.layout.sections in
      omega (arith, h.at_is, start)

  of_list_behind : (l : Lookup) (at len : ℕ) → AsksListOf v s ds p l at len → behind ≤ at
  of_list_behind (Count key) at len h = absurd h
  of_list_behind (Documents key) at len h = list_behind key at len h
  of_list_behind (Places key) at len (inl h) = list_behind key at len h
  of_list_behind (Places key) at len (inr h) = omega (arith, h.at_is, positions_at)
  of_list_behind (Walk prefix w) at len h = terms_behind w (begun_in prefix terms h.0) at len h.2
  of_list_behind (Values number r) at len h = column_behind number at len h

  lists_behind : (ls : List Lookup) (at len : ℕ) → AsksLists v s ds p ls at len → behind ≤ at
  lists_behind [] at len h = absurd h
  lists_behind (l ∷ ls) at len (inl h) = of_list_behind l at len h
  lists_behind (l ∷ ls) at len (inr h) = lists_behind ls at len h

  pub column_between : (number at len : ℕ) → IsFast s number → AsksColumn v p number at len → (behind ≤ at) × (at + len ≤ length (file_bytes p))
  column_between number at len fast h =
      let start : columns_start v.footer.layout.sections ≡ behind + length p.postings + length p.positions = ap columns_start part.footer.layout.sections in
      let inside = column_inside v s ds p part number (has_fast s number fast) in
      let whole = columns_start_is v s ds p part in
      (omega (arith, h.at_is, start), omega (arith, h.at_is, h.len_is, inside, whole))

  lists_between : (r : LeafRequest) → r.wanted ≡ 0 → IsAsked s r → (at len : ℕ) → NeedsLists v s ds p r at len → (behind ≤ at) × (at + len ≤ length (file_bytes p))
  lists_between r none ask at len (inl h) = (lists_behind (request_lookups v.footer s r) at len h, lookups_within v s ds p part (request_lookups v.footer s r) at len (inr h))
  lists_between r none ask at len (inr (inl (inl h))) = column_between h.asks.number at len (timestamp_fast s h.asks.number part.is_split.are_documents.schema h.asks.is_field) h.asks.column
  lists_between r none ask at len (inr (inl (inr (inl h)))) =
      let fast : IsFast s h.number = subst (λ (n : ℕ). IsFast s n) h.among.2 (over_fast s r.aggs ask.aggs h.among.0 h.number h.among.1) in
      column_between h.number at len fast h.column
  lists_between r none ask at len (inr (inl (inr (inr h)))) = absurd (omega (arith, none, h.0))
  lists_between r none ask at len (inr (inr h)) = absurd (omega (arith, none, h.0))

  pub record ReadsNoDocument (blocks lists : List FileRange) : Type 0 where
    pub behind_them : (place : ℕ) → SomeRange (HasByte place) blocks ⊎ SomeRange (HasByte place) lists → 4 + length p.documents ≤ place
    pub bound : total blocks + total lists ≤ length (file_bytes p) - length p.documents

  pub no_document : (r : LeafRequest) (blocks lists : List FileRange) → r.wanted ≡ 0 → IsAsked s r → AreRangesOf (NeedsBlocks v s ds p r) blocks → AreRangesOf (NeedsLists v s ds p r) lists → ReadsNoDocument blocks lists
  no_document r blocks lists none ask b l =
      let in_blocks : LieBetween first behind blocks = λ place h.
      let o = b.only place h in
      let i = blocks_inside (request_lookups v.footer s r) o.0 o.1 o.2 in
      (omega (arith, i.0, o.3), omega (arith, i.1, o.4)) in
      let in_lists : LieBetween behind (length (file_bytes p)) lists = λ place h.
      let o = l.only place h in
      let i = lists_between r none ask o.0 o.1 o.2 in
      (omega (arith, i.0, o.3), omega (arith, i.1, o.4)) in
      let dictionary = section_within Dictionary p in
      let some = total_within blocks first behind (omega arith) b.apart in_blocks in
      let more = total_within lists behind (length (file_bytes p)) (omega (arith, dictionary)) l.apart in_lists in
      record {
        behind_them = λ place h. elim h [ inl x ↦ (in_blocks place x).0 | inr y ↦ let k = in_lists place y in omega (arith, k.0) ];
        bound = omega (arith, some, more, dictionary);
      }

  -- ---- a page

  sort_fast : (o : Option HitOrder) (n : ℕ) → IsSortable s o → sort_field o ≡ Some n → IsFast s n
  sort_fast None n sortable is = absurd cc
  sort_fast (Some order) n sortable is = let same : order.field ≡ n = cc in subst (λ (k : ℕ). IsFast s k) same sortable

  listed_between : (r : LeafRequest) → IsAsked s r → (at len : ℕ) → NeedsListed v s ds p r at len → (behind ≤ at) × (at + len ≤ length (file_bytes p))
  listed_between r ask at len (inl h) = (lists_behind (request_lookups v.footer s r) at len h, lookups_within v s ds p part (request_lookups v.footer s r) at len (inr h))
  listed_between r ask at len (inr (inl h)) = column_between h.asks.number at len (timestamp_fast s h.asks.number part.is_split.are_documents.schema h.asks.is_field) h.asks.column
  listed_between r ask at len (inr (inr (inl h))) =
      let fast : IsFast s h.number = subst (λ (n : ℕ). IsFast s n) h.among.2 (over_fast s r.aggs ask.aggs h.among.0 h.number h.among.1) in
      column_between h.number at len fast h.column
  listed_between r ask at len (inr (inr (inr h))) = column_between h.1.number at len (sort_fast r.order h.1.number ask.order h.1.is_field) h.1.column

  abbrev bytes_long : ℕ → ℕ
  bytes_long k = option_map_or (λ d. length (placed_bytes p.partitions d)) (slice_get ds k) 0

  sum_both : (f : ℕ → ℕ) (ks : List ℕ) → sum_by (λ k. 16 + f k) ks ≡ sum_by (λ (k : ℕ). 16) ks + sum_by f ks
  sum_both f [] = refl
  sum_both f (k ∷ ks) =
      let h = sum_both f ks in
      let a : sum_by (λ n. 16 + f n) (k ∷ ks) ≡ 16 + f k + sum_by (λ n. 16 + f n) ks = sum_by-cons (λ n. 16 + f n) k ks in
      let b : sum_by (λ (n : ℕ). 16) (k ∷ ks) ≡ 16 + sum_by (λ (n : ℕ). 16) ks = sum_by-cons (λ (n : ℕ). 16) k ks in
      let c : sum_by f (k ∷ ks) ≡ f k + sum_by f ks = sum_by-cons f k ks in
      omega (arith, h, a, b, c)

  starts_covered : (r : LeafRequest) (place at len : ℕ) → are_few s r ds ≡ true → NeedsStarts v s ds r at len → at ≤ place → place < at + len
      → (k : ℕ) × Contains (shown_of s r ds) k × (starts_place k ≤ place) × (place < starts_place k + 16)
  starts_covered r place at len few (inl h) from until = (h.1.number, h.1.among, omega (arith, h.1.is_part.0, from), omega (arith, h.1.is_part.0, h.1.is_part.1, until))
  starts_covered r place at len few (inr h) from until = let bad : true ≡ false = sym few ∙ h.0 in absurd cc

  bytes_covered : (r : LeafRequest) (place at len : ℕ) → NeedsShown s ds p r at len → at ≤ place → place < at + len → (k : ℕ) × Contains (shown_of s r ds) k × (doc_place p ds k ≤ place) × (place < doc_place p ds k + bytes_long k)
  bytes_covered r place at len h from until =
      let it = h.1.is_part in
      let long : bytes_long h.1.number ≡ length (placed_bytes p.partitions it.0) = ap (λ (o : Option Placed). option_map_or (λ d. length (placed_bytes p.partitions d)) o 0) it.1 in
      (h.1.number, h.1.among, omega (arith, it.2, from), omega (arith, it.2, it.3, long, until))

  -- the ranges of the documents that may be shown have no more bytes than these
  pub documents_bound : (r : LeafRequest) (starts shown : List FileRange) → are_few s r ds ≡ true → AreRangesOf (NeedsStarts v s ds r) starts → AreRangesOf (NeedsShown s ds p r) shown → total starts + total shown ≤ shown_cost s r ds p
  documents_bound r starts shown few st sh =
      let entries : total starts ≤ sum_by (λ (k : ℕ). 16) (shown_of s r ds) = total_covered starts_place (λ (k : ℕ). 16) starts (shown_of s r ds) st.apart (λ place h. let o = st.only place h in starts_covered r place o.0 o.1 few o.2 o.3 o.4) in
      let bytes : total shown ≤ sum_by bytes_long (shown_of s r ds) = total_covered (doc_place p ds) bytes_long shown (shown_of s r ds) sh.apart (λ place h. let o = sh.only place h in bytes_covered r place o.0 o.1 o.2 o.3 o.4) in
      let both : shown_cost s r ds p ≡ sum_by (λ (k : ℕ). 16) (shown_of s r ds) + sum_by bytes_long (shown_of s r ds) = sum_both bytes_long (shown_of s r ds) in
      omega (arith, entries, bytes, both)

  pub page_bound : (r : LeafRequest) (blocks listed starts shown : List FileRange) → IsAsked s r → are_few s r ds ≡ true → AreRangesOf (NeedsBlocks v s ds p r) blocks → AreRangesOf (NeedsListed v s ds p r) listed
      → AreRangesOf (NeedsStarts v s ds r) starts → AreRangesOf (NeedsShown s ds p r) shown
      → total blocks + total listed + (total starts + total shown) ≤ length (file_bytes p) - length p.documents + shown_cost s r ds p
  page_bound r blocks listed starts shown ask few b l st sh =
      let in_blocks : LieBetween first behind blocks = λ place h.
      let o = b.only place h in
      let i = blocks_inside (request_lookups v.footer s r) o.0 o.1 o.2 in
      (omega (arith, i.0, o.3), omega (arith, i.1, o.4)) in
      let in_listed : LieBetween behind (length (file_bytes p)) listed = λ place h.
      let o = l.only place h in
      let i = listed_between r ask o.0 o.1 o.2 in
      (omega (arith, i.0, o.3), omega (arith, i.1, o.4)) in
      let dictionary = section_within Dictionary p in
      let some = total_within blocks first behind (omega arith) b.apart in_blocks in
      let more = total_within listed behind (length (file_bytes p)) (omega (arith, dictionary)) l.apart in_listed in
      let documents = documents_bound r starts shown few st sh in
      omega (arith, some, more, dictionary, documents)

-- ---- rounds of a request that wants no hits

module _ (v : PartView) (s : Schema) (ds : List Placed) (p : Parts) (r : LeafRequest) (none : r.wanted ≡ 0) where
  nothing_shown : (n : ℕ) → Contains (shown_of s r ds) n → ⊥
  nothing_shown n h = let few : length (shown_of s r ds) ≡ 0 = ap length (none_shown s r ds none) in omega (arith, few, h.1)

  no_starts : (at len : ℕ) → NeedsStarts v s ds r at len → ⊥
  no_starts at len (inl h) = nothing_shown h.1.number h.1.among
  no_starts at len (inr h) = omega (arith, none, h.1.0)

  pub none_paged : (starts shown : List FileRange) → AreRangesOf (NeedsStarts v s ds r) starts → AreRangesOf (NeedsShown s ds p r) shown → total starts + total shown ≡ 0
  none_paged starts shown st sh =
      let a = total_none starts st.apart (λ place h. let o = st.only place h in no_starts o.0 o.1 o.2) in
      let b = total_none shown sh.apart (λ place h. let o = sh.only place h in nothing_shown o.2.1.number o.2.1.among) in
      omega (arith, a, b)

  to_lists : (at len : ℕ) → NeedsListed v s ds p r at len → NeedsLists v s ds p r at len
  to_lists at len (inl h) = inl h
  to_lists at len (inr h) = inr (inl h)

  of_lists : (at len : ℕ) → NeedsLists v s ds p r at len → NeedsListed v s ds p r at len
  of_lists at len (inl h) = inl h
  of_lists at len (inr (inl h)) = inr h
  of_lists at len (inr (inr h)) = absurd (omega (arith, none, h.0))

  pub listed_lists : (listed : List FileRange) → AreRangesOf (NeedsListed v s ds p r) listed → AreRangesOf (NeedsLists v s ds p r) listed
  listed_lists listed l = record {
    apart = l.apart;
    cover = λ at len h. l.cover at len (of_lists at len h);
    only = λ place h. let o = l.only place h in (o.0, o.1, to_lists o.0 o.1 o.2, o.3, o.4);
  }
