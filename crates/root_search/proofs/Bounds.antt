-- How many bytes a search draws of a split file.
use Rattle.std.proofs.Common.{◌≡◌, ℕ, ◌+◌, ◌-◌, ◌*◌, ◌≤◌, ◌<◌, ◌==◌, ◌&&◌, Bool, true, false, cond, inl, inr, List, [], ◌∷◌, length, nat_eq, Option, Some, None, Result, Ok, refl, ap, ap₂, sym, ◌∙◌, subst, arith, rules, tests}
use Rattle.std.specs.Map.{lookup}
use Rattle.std.specs.Prelude.{IsErr, is_some, nat_le, sum_by}
use Rattle.std.proofs.lemmas.Bool.{eqb-false, ne_eqb}
use Rattle.std.specs.declared.alloc.AllocError.{AllocError}
use Rattle.doc_value.specs.declared.facts.TimeRange.{TimeRange}
use Rattle.doc_value.specs.declared.schema.Schema.{Schema}
use Rattle.query_ast.specs.Meaning.{is_unlimited, meaning, within_times}
use Rattle.query_ast.specs.Sought.{Sought, view}
use Rattle.term_dict.specs.Bounds.{IsBlockOf, block_terms}
use Rattle.term_dict.specs.Terms.{area}
use Rattle.term_dict.specs.declared.index.BlockStart.{BlockStart}
use Rattle.term_dict.specs.declared.term.Term.{Term}
use Rattle.agg_nested.specs.declared.request.NestedAgg.{NestedAgg}
use Rattle.split_bundle.specs.Files.{Parts, file_bytes, footer_bytes}
use Rattle.split_bundle.specs.Lending.{IsPartOf, block_place}
use Rattle.split_bundle.specs.Lists.{terms_of}
use Rattle.split_bundle.specs.Pieces.{bytes_of, start_of}
use Rattle.split_bundle.specs.Splits.{IsSplitOf}
use Rattle.split_bundle.specs.Views.{IsFooterOf, sections_of}
use Rattle.split_bundle.specs.declared.footer.Footer.{Footer}
use Rattle.split_bundle.specs.declared.part_view.PartView.{PartView}
use Rattle.split_bundle.specs.declared.pieces.Section.{Section}
use Rattle.split_bundle.specs.declared.pieces.Section.TheVariants.{Columns, Dictionary, Documents, Positions, Postings}
use Rattle.split_bundle.specs.declared.placed.Placed.{Placed}
use Rattle.split_bundle.proofs.Footers.{length-file}
use Rattle.split_bundle.proofs.Infos.{info_found}
use Rattle.doc_sets.specs.Asking.{AsksBlockOf, AsksBlocks, AsksListOf, AsksLists}
use Rattle.doc_sets.specs.Needed.{ArePlacesFor, IsListFor, positions_start, postings_start}
use Rattle.doc_sets.specs.Walks.{AsksTerms, begun_in}
use Rattle.doc_sets.specs.declared.dictionary_lookup.Lookup.{Lookup}
use Rattle.doc_sets.specs.declared.dictionary_lookup.Lookup.TheVariants.{Count, Documents as OfDocuments, Places, Values, Walk}
use Rattle.doc_sets.specs.declared.wanted.Wanted.{Wanted}
use Rattle.doc_sets.proofs.WithinFile.{area_within}
use Rattle.doc_tallies.specs.Causes.{AsksColumn, columns_start}
use Rattle.doc_tallies.specs.Cells.{IsFast}
use Rattle.doc_tallies.specs.Near.{shown}
use Rattle.doc_tallies.specs.declared.hit_order.HitOrder.{HitOrder}
use Rattle.leaf_search.specs.Answers.{IsAsked}
use Rattle.leaf_search.specs.Counts.{counted_key as request_key, one_key, request_lookups}
use Rattle.leaf_search.specs.FileRanges.{AreRangesOf, HasByte, SomeRange, total}
use Rattle.leaf_search.specs.Needs.{NeedsBlocks}
use Rattle.leaf_search.specs.Numbers.{numbers_of}
use Rattle.leaf_search.specs.Shown.{NeedsListed, document_cost, shown_of}
use Rattle.leaf_search.specs.declared.file_ranges.FileRange.{FileRange}
use Rattle.leaf_search.specs.declared.request.LeafRequest.{LeafRequest}
use Rattle.leaf_search.proofs.ColumnParts.{column_inside, has_fast, timestamp_fast, values_column, values_fast}
use Rattle.leaf_search.proofs.Counted.{over_fast}
use Rattle.leaf_search.proofs.KeyCounts.{counts as only_counts}
use Rattle.leaf_search.proofs.ReadBounds.{count_bound, documents_bound, listed_lists, none_paged, total_within}
use Rattle.search_api.specs.Resolved.{Search}
use Rattle.root_search.specs.Answer.{order_of}
use Rattle.root_search.specs.Drawing.{DrawsFew, NeverFetched, counted_key, footer_cost, keeps_footer, may_show}
use Rattle.root_search.specs.Fetching.{DrawsNeeded, footer_drawn}
use Rattle.root_search.specs.Footers.{entries}
use Rattle.root_search.specs.LeafAsks.{Asks, wanted_of}
use Rattle.root_search.specs.FetchedSplits.{over}
use Rattle.root_search.specs.declared.leaf_asks.LeafAsk.{LeafAsk}
use Rattle.root_search.specs.declared.outcome.SearchStep.{SearchStep}
use Rattle.root_search.specs.declared.outcome.SearchStep.TheVariants.{Fetched}
use Rattle.root_search.specs.declared.searcher.Searcher.{Searcher}
use Rattle.root_search.proofs.PartViews.{sorted_fast}

-- ---- where what is needed stands: the blocks in the dictionary, and the rest between it and the footer

section_before : (section : Section) (p : Parts) → start_of section (sections_of p) + length (bytes_of section p) + (length (footer_bytes p) + 12) ≤ length (file_bytes p)
section_before Documents p = omega (arith, length-file p)
section_before Dictionary p = omega (arith, length-file p)
section_before Postings p = omega (arith, length-file p)
section_before Positions p = omega (arith, length-file p)
section_before Columns p = omega (arith, length-file p)

-- all bytes of the ranges lie between two places
abbrev LieBetween : ℕ → ℕ → List FileRange → Type 0
LieBetween from until rs = (place : ℕ) → SomeRange (HasByte place) rs → (from ≤ place) × (place < until)

module _ (v : PartView) (s : Schema) (ds : List Placed) (p : Parts) (part : IsPartOf v s ds p) where
  abbrev terms : List Term
  terms = terms_of s ds p.keys

  abbrev first : ℕ
  first = 4 + length p.documents

  abbrev behind : ℕ
  behind = 4 + length p.documents + length p.dictionary

  abbrev end : ℕ
  end = length (file_bytes p) - (length (footer_bytes p) + 12)

  abbrev IsBlock : ℕ → ℕ → Type 0
  IsBlock at len = (first ≤ at) × (at + len ≤ behind)

  abbrev IsRest : ℕ → ℕ → Type 0
  IsRest at len = (behind ≤ at) × (at + len ≤ end)

  block_there : (number at len : ℕ) → at ≡ block_place p terms number → len ≡ length (area (block_terms terms number)) → IsBlock at len
  block_there number at len at_is len_is =
      let room = area_within (64 * number) 64 terms in
      let whole : length p.dictionary ≡ length (area terms) = ap (λ (l : List ℕ). length l) part.is_split.dictionary.area_is in
      (omega (arith, at_is), omega (arith, at_is, len_is, room, whole))

  of_block_there : (l : Lookup) (at len : ℕ) → AsksBlockOf v s ds p l at len → IsBlock at len
  of_block_there (Count key) at len h = block_there h.number at len h.at_is h.len_is
  of_block_there (OfDocuments key) at len h = block_there h.number at len h.at_is h.len_is
  of_block_there (Places key) at len h = block_there h.number at len h.at_is h.len_is
  of_block_there (Walk prefix w) at len h = block_there h.0 at len h.2.at_is h.2.len_is
  of_block_there (Values number r) at len h = absurd h

  blocks_there : (ls : List Lookup) (at len : ℕ) → AsksBlocks v s ds p ls at len → IsBlock at len
  blocks_there [] at len h = absurd h
  blocks_there (l ∷ ls) at len (inl h) = of_block_there l at len h
  blocks_there (l ∷ ls) at len (inr h) = blocks_there ls at len h

  list_there : (key : List ℕ) (at len : ℕ) → IsListFor v s ds p key at len → IsRest at len
  list_there key at len l =
      let is = info_found s ds p key l.info part.is_split l.is_term in
      let start : postings_start v.footer.layout.sections ≡ behind = ap postings_start part.footer.layout.sections in
      (omega (arith, l.at_is, start), omega (arith, l.at_is, l.len_is, start, is.postings_within, section_before Postings p))

  places_there : (key : List ℕ) (at len : ℕ) → ArePlacesFor v s ds p key at len → IsRest at len
  places_there key at len l =
      let is = info_found s ds p key l.info part.is_split l.is_term in
      let start : positions_start v.footer.layout.sections ≡ behind + length p.postings = ap positions_start part.footer.layout.sections in
      (omega (arith, l.at_is, start), omega (arith, l.at_is, l.len_is, start, is.positions_within, section_before Positions p))

  terms_there : (w : Wanted) (ts : List Term) (at len : ℕ) → AsksTerms v s ds p w ts at len → IsRest at len
  terms_there w [] at len h = absurd h
  terms_there w (t ∷ ts) at len (inl h) = list_there t.key at len h.1
  terms_there w (t ∷ ts) at len (inr h) = terms_there w ts at len h

  column_there : (number at len : ℕ) → IsFast s number → AsksColumn v p number at len → IsRest at len
  column_there number at len fast h =
      let start : columns_start v.footer.layout.sections ≡ behind + length p.postings + length p.positions = ap columns_start part.footer.layout.sections in
      let inside = column_inside v s ds p part number (has_fast s number fast) in
      (omega (arith, h.at_is, start), omega (arith, h.at_is, h.len_is, start, inside, section_before Columns p))

  of_list_there : (l : Lookup) (at len : ℕ) → AsksListOf v s ds p l at len → IsRest at len
  of_list_there (Count key) at len h = absurd h
  of_list_there (OfDocuments key) at len h = list_there key at len h
  of_list_there (Places key) at len (inl h) = list_there key at len h
  of_list_there (Places key) at len (inr h) = places_there key at len h
  of_list_there (Walk prefix w) at len h = terms_there w (begun_in prefix terms h.0) at len h.2
  of_list_there (Values number r) at len h = column_there number at len (values_fast v s p number at len h) (values_column v s p number at len h)

  lists_there : (ls : List Lookup) (at len : ℕ) → AsksLists v s ds p ls at len → IsRest at len
  lists_there [] at len h = absurd h
  lists_there (l ∷ ls) at len (inl h) = of_list_there l at len h
  lists_there (l ∷ ls) at len (inr h) = lists_there ls at len h

  listed_there : (r : LeafRequest) → IsAsked s r → (at len : ℕ) → NeedsListed v s ds p r at len → IsRest at len
  listed_there r ask at len (inl h) = lists_there (request_lookups v.footer s r) at len h
  listed_there r ask at len (inr (inl h)) = column_there h.asks.number at len (timestamp_fast s h.asks.number part.is_split.are_documents.schema h.asks.is_field) h.asks.column
  listed_there r ask at len (inr (inr (inl h))) =
      let fast : IsFast s h.number = subst (λ (n : ℕ). IsFast s n) h.among.2 (over_fast s r.aggs ask.aggs h.among.0 h.number h.among.1) in
      column_there h.number at len fast h.column
  listed_there r ask at len (inr (inr (inr h))) = column_there h.1.number at len (sorted_fast s r.order h.1.number ask.order h.1.is_field) h.1.column

  -- the blocks, the lists and the columns are no more than what stands between the documents and the footer
  pub few_needed : (r : LeafRequest) (blocks listed : List FileRange) → IsAsked s r → AreRangesOf (NeedsBlocks v s ds p r) blocks → AreRangesOf (NeedsListed v s ds p r) listed
      → length (footer_bytes p) + 12 + (total blocks + total listed) ≤ length (file_bytes p) - length p.documents
  few_needed r blocks listed ask b l =
      let in_blocks : LieBetween first behind blocks = λ place h.
      let o = b.only place h in
      let i = blocks_there (request_lookups v.footer s r) o.0 o.1 o.2 in
      (omega (arith, i.0, o.3), omega (arith, i.1, o.4)) in
      let in_lists : LieBetween behind end listed = λ place h.
      let o = l.only place h in
      let i = listed_there r ask o.0 o.1 o.2 in
      (omega (arith, i.0, o.3), omega (arith, i.1, o.4)) in
      let dictionary = section_before Dictionary p in
      let some = total_within blocks first behind (omega arith) b.apart in_blocks in
      let more = total_within listed behind end (omega (arith, dictionary)) l.apart in_lists in
      omega (arith, some, more, dictionary)

-- ---- a search that only counts is such a request

only_of : (search : Search) (ask : LeafAsk) → Asks search ask → (ask.request.wanted == 0) ≡ (search.max_hits == 0)
only_of search ask a = by (search.max_hits == 0) refl
  where
    by : (b : Bool) → (search.max_hits == 0) ≡ b → (ask.request.wanted == 0) ≡ (search.max_hits == 0)
    by true e = ap (λ (n : ℕ). n == 0) (a.wanted ∙ ap (λ (t : Bool). cond t 0 (search.start_offset + search.max_hits)) e) ∙ sym e
    by false e =
        let some = eqb-false search.max_hits 0 e in
        let wanted : ask.request.wanted ≡ search.start_offset + search.max_hits = a.wanted ∙ ap (λ (t : Bool). cond t 0 (search.start_offset + search.max_hits)) e in
        ne_eqb ask.request.wanted 0 (λ none. some (omega (arith, wanted, none))) ∙ sym e

pub key_of : (s : Schema) (search : Search) (ask : LeafAsk) → Asks search ask → request_key s ask.request ≡ counted_key s search
key_of s search ask a =
    ap₂ (λ (b : Bool) (k : Option (List ℕ)). cond b k None)
    (ap₂ (λ (x y : Bool). x && y) (only_of search ask a) (ap₂ (λ (x y : Bool). x && y) (ap (λ (t : TimeRange). is_unlimited t.start t.end) a.times) (ap (λ (aggs : List NestedAgg). length aggs == 0) a.aggs)))
    (ap (one_key s) a.query)

wanted_none : (search : Search) (ask : LeafAsk) → Asks search ask → search.max_hits ≡ 0 → ask.request.wanted ≡ 0
wanted_none search ask a none = a.wanted ∙ ap (λ (n : ℕ). cond (n == 0) 0 (search.start_offset + n)) none

-- ---- the documents that a search may show are those that its request may

abbrev wanted_by : Schema → Option HitOrder → ℕ → Sought → TimeRange → List Placed → List ℕ
wanted_by s order wanted query times documents = shown order wanted documents (numbers_of (λ doc. meaning s doc query && within_times s times doc) documents)

pub shown_same : (s : Schema) (search : Search) (ask : LeafAsk) (documents : List Placed) → Asks search ask → shown_of s ask.request documents ≡ may_show s search documents
shown_same s search ask documents a =
    let r = ask.request in
    ap (λ (o : Option HitOrder). wanted_by s o r.wanted (view r.query) r.times documents) a.order
    ∙ (ap (λ (n : ℕ). wanted_by s (order_of search.sort) n (view r.query) r.times documents) a.wanted
    ∙ (ap (λ (q : Sought). wanted_by s (order_of search.sort) (wanted_of search) q r.times documents) a.query
    ∙ ap (λ (t : TimeRange). wanted_by s (order_of search.sort) (wanted_of search) search.query t documents) a.times))

few_enough : (ns : List ℕ) → length ns ≤ 256 → nat_le (length ns) 256 ≡ true
few_enough ns le = le_true (length ns) 256 le
  where
    le_true : (a b : ℕ) → a ≤ b → nat_le a b ≡ true
    le_true a b le = search (rules, tests)

-- ---- what is drawn

drawn_cost : (known : Option Footer) (p : Parts) → footer_drawn known p ≡ footer_cost (is_some known) p
drawn_cost None p = refl
drawn_cost (Some footer) p = refl

drawn_most : (known : Option Footer) (p : Parts) → footer_drawn known p ≤ length (footer_bytes p) + 12
drawn_most None p = omega arith
drawn_most (Some footer) p = omega arith

pub draws_few : (s : Schema) (search : Search) (ask : LeafAsk) (known : Option Footer) (documents : List Placed) (p : Parts) (footer : Footer) (drawn least : ℕ) → IsSplitOf s documents p → IsFooterOf p footer → Asks search ask → IsAsked s ask.request
    → DrawsNeeded s ask.request known documents p footer drawn → least ≤ drawn → DrawsFew s search (is_some known) documents p least
draws_few s search ask known documents p footer drawn least is foot a asked d le =
    record {
      no_documents = λ none.
          let no = none_paged (over footer) s documents p ask.request (wanted_none search ask a none) d.starts d.shown d.are_starts d.are_shown in
          let few = few_needed (over footer) s documents p part ask.request d.blocks d.listed asked d.are_blocks d.are_listed in
          let most = drawn_most known p in
          let drew = d.few in
          omega (arith, no, few, most, drew, le);
      one_block = λ key number counts block.
          let is_key = key_of s search ask a ∙ counts in
          let none = (only_counts s ask.request key is_key).wanted in
          let no = none_paged (over footer) s documents p ask.request none d.starts d.shown d.are_starts d.are_shown in
          let few = count_bound (over footer) s documents p ask.request key number d.blocks d.listed part is_key (subst (λ (index : List BlockStart). IsBlockOf index key number) (sym foot.index) block) d.are_blocks (listed_lists (over footer) s documents p ask.request none d.listed d.are_listed) in
          let cost = drawn_cost known p in
          let drew = d.few in
          omega (arith, no, few, cost, drew, le);
      page = λ few_shown.
          let same = shown_same s search ask documents a in
          let few_of : nat_le (length (shown_of s ask.request documents)) 256 ≡ true = few_enough (shown_of s ask.request documents) (subst (λ (ns : List ℕ). length ns ≤ 256) (sym same) few_shown) in
          let pages = documents_bound (over footer) s documents p part ask.request d.starts d.shown few_of d.are_starts d.are_shown in
          let few = few_needed (over footer) s documents p part ask.request d.blocks d.listed asked d.are_blocks d.are_listed in
          let cost : sum_by (document_cost p documents) (shown_of s ask.request documents) ≡ sum_by (document_cost p documents) (may_show s search documents) = ap (sum_by (document_cost p documents)) same in
          let most = drawn_most known p in
          let drew = d.few in
          omega (arith, pages, few, cost, most, drew, le);
    }
  where
    part : IsPartOf (over footer) s documents p
    part = record { is_split = is; footer = foot; pieces = tt }

-- ---- a step

pub no_draw : (r : Result SearchStep AllocError) (number : ℕ) → NeverFetched r → r ≡ Ok (Fetched number) → ⊥
no_draw r number never fetched = subst NeverFetched fetched never

-- what was fetched is of one number
pub fetched_one : (a b : ℕ) (r : Result SearchStep AllocError) → r ≡ Ok (Fetched a) → r ≡ Ok (Fetched b) → a ≡ b
fetched_one a b r one other = cc

-- want of memory is no answer
pub no_answer : (r : Result SearchStep AllocError) (step : SearchStep) → IsErr r → r ≡ Ok step → ⊥
no_answer r step short fetched = absurd (cc (subst IsErr fetched short))

pub step_draws : (searcher : Searcher) (s : Schema) (search : Search) (ask : LeafAsk) (known : Option Footer) (number : ℕ) (documents : List Placed) (p : Parts) (footer : Footer) (drawn before after : ℕ) → IsSplitOf s documents p → IsFooterOf p footer
    → Asks search ask → IsAsked s ask.request → DrawsNeeded s ask.request known documents p footer drawn → after ≤ before + drawn → known ≡ lookup (nat_eq number) (entries searcher.footers)
    → DrawsFew s search (keeps_footer searcher number) documents p (after - before)
step_draws searcher s search ask known number documents p footer drawn before after is foot a asked d count found =
    subst (λ (o : Option Footer). DrawsFew s search (is_some o) documents p (after - before)) found
    (draws_few s search ask known documents p footer drawn (after - before) is foot a asked d (omega (arith, count)))
