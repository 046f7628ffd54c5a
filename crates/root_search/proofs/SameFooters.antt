-- What a request needs of a split goes by the footer alone, whatever pieces a view has.
use Rattle.std.proofs.Common.{◌≡◌, ℕ, ◌+◌, ◌||◌, nat_eq, inl, inr, Some, List, [], ◌∷◌, sym, subst}
use Rattle.doc_value.specs.declared.schema.Schema.{Schema}
use Rattle.std.specs.List.{starts_with}
use Rattle.term_dict.specs.Bounds.{AreBlocks, IsBlockOf}
use Rattle.term_dict.specs.Keys.{is_below}
use Rattle.term_dict.specs.declared.term.Term.{Term}
use Rattle.split_bundle.specs.Files.{Parts}
use Rattle.split_bundle.specs.Lending.{start_of_column}
use Rattle.split_bundle.specs.Lists.{terms_of}
use Rattle.split_bundle.specs.declared.footer.Footer.{Footer}
use Rattle.split_bundle.specs.declared.part_view.PartView.{PartView}
use Rattle.split_bundle.specs.declared.placed.Placed.{Placed}
use Rattle.doc_sets.specs.Asking.{AsksBlockOf, AsksBlocks, AsksListOf, AsksLists}
use Rattle.doc_sets.specs.Needed.{ArePlacesFor, IsBlockFor, IsColumnFor, IsListFor, positions_start, postings_start}
use Rattle.doc_sets.specs.Walks.{AsksTerms, IsWalked, begun_in}
use Rattle.doc_sets.specs.declared.dictionary_lookup.Lookup.{Lookup}
use Rattle.doc_sets.specs.declared.dictionary_lookup.Lookup.TheVariants.{Count, Documents, Places, Values, Walk}
use Rattle.doc_sets.specs.declared.wanted.Wanted.{Wanted}
use Rattle.doc_tallies.specs.Causes.{AsksColumn, columns_start}
use Rattle.leaf_search.specs.Counts.{request_lookups}
use Rattle.leaf_search.specs.FileRanges.{AreRangesOf}
use Rattle.leaf_search.specs.Needs.{NeedsBlocks}
use Rattle.leaf_search.specs.Shown.{NeedsListed, NeedsStarts}
use Rattle.leaf_search.specs.declared.file_ranges.FileRange.{FileRange}
use Rattle.leaf_search.specs.declared.request.LeafRequest.{LeafRequest}

module _ (v w : PartView) (s : Schema) (ds : List Placed) (p : Parts) (same : v.footer ≡ w.footer) where
  block_for : (key : List ℕ) (at len : ℕ) → IsBlockFor v s ds p key at len → IsBlockFor w s ds p key at len
  block_for key at len h = record { number = h.number; is_block = subst (λ (f : Footer). IsBlockOf f.index key (Some h.number)) same h.is_block; at_is = h.at_is; len_is = h.len_is }

  list_for : (key : List ℕ) (at len : ℕ) → IsListFor v s ds p key at len → IsListFor w s ds p key at len
  list_for key at len h =
      record { info = h.info; is_term = h.is_term; at_is = subst (λ (f : Footer). at ≡ postings_start f.layout.sections + h.info.postings) same h.at_is; len_is = h.len_is }

  places_for : (key : List ℕ) (at len : ℕ) → ArePlacesFor v s ds p key at len → ArePlacesFor w s ds p key at len
  places_for key at len h =
      record { kept = h.kept; info = h.info; is_term = h.is_term; at_is = subst (λ (f : Footer). at ≡ positions_start f.layout.sections + h.info.positions) same h.at_is; len_is = h.len_is }

  walked : (prefix : List ℕ) (number : ℕ) → IsWalked v prefix number → IsWalked w prefix number
  walked prefix number h = record { start = h.start; end = h.end; blocks = subst (λ (f : Footer). AreBlocks f.index prefix (λ first. is_below first prefix || starts_with nat_eq first prefix) h.start h.end) same h.blocks; from = h.from; until = h.until }

  terms_for : (wanted : Wanted) (ts : List Term) (at len : ℕ) → AsksTerms v s ds p wanted ts at len → AsksTerms w s ds p wanted ts at len
  terms_for wanted [] at len h = h
  terms_for wanted (t ∷ ts) at len (inl h) = inl (h.0, list_for t.key at len h.1)
  terms_for wanted (t ∷ ts) at len (inr h) = inr (terms_for wanted ts at len h)

  values_for : (number at len : ℕ) → IsColumnFor v s p number at len → IsColumnFor w s p number at len
  values_for number at len h =
      record { field = h.field; here = h.here; fast = h.fast; at_is = subst (λ (f : Footer). at ≡ columns_start f.layout.sections + start_of_column number p.column_starts) same h.at_is; len_is = h.len_is }

  of_block : (l : Lookup) (at len : ℕ) → AsksBlockOf v s ds p l at len → AsksBlockOf w s ds p l at len
  of_block (Count key) at len h = block_for key at len h
  of_block (Documents key) at len h = block_for key at len h
  of_block (Places key) at len h = block_for key at len h
  of_block (Walk prefix wanted) at len h = (h.0, walked prefix h.0 h.1, h.2)
  of_block (Values number r) at len h = h

  of_list : (l : Lookup) (at len : ℕ) → AsksListOf v s ds p l at len → AsksListOf w s ds p l at len
  of_list (Count key) at len h = h
  of_list (Documents key) at len h = list_for key at len h
  of_list (Places key) at len (inl h) = inl (list_for key at len h)
  of_list (Places key) at len (inr h) = inr (places_for key at len h)
  of_list (Walk prefix wanted) at len h = (h.0, walked prefix h.0 h.1, terms_for wanted (begun_in prefix (terms_of s ds p.keys) h.0) at len h.2)
  of_list (Values number r) at len h = values_for number at len h

  blocks_for : (ls : List Lookup) (at len : ℕ) → AsksBlocks v s ds p ls at len → AsksBlocks w s ds p ls at len
  blocks_for [] at len h = h
  blocks_for (l ∷ ls) at len (inl h) = inl (of_block l at len h)
  blocks_for (l ∷ ls) at len (inr h) = inr (blocks_for ls at len h)

  lists_for : (ls : List Lookup) (at len : ℕ) → AsksLists v s ds p ls at len → AsksLists w s ds p ls at len
  lists_for [] at len h = h
  lists_for (l ∷ ls) at len (inl h) = inl (of_list l at len h)
  lists_for (l ∷ ls) at len (inr h) = inr (lists_for ls at len h)

  column_for : (number at len : ℕ) → AsksColumn v p number at len → AsksColumn w p number at len
  column_for number at len h = record { at_is = subst (λ (f : Footer). at ≡ columns_start f.layout.sections + start_of_column number p.column_starts) same h.at_is; len_is = h.len_is }

  needs_blocks : (r : LeafRequest) (at len : ℕ) → NeedsBlocks v s ds p r at len → NeedsBlocks w s ds p r at len
  needs_blocks r at len h = subst (λ (f : Footer). AsksBlocks w s ds p (request_lookups f s r) at len) same (blocks_for (request_lookups v.footer s r) at len h)

  needs_listed : (r : LeafRequest) (at len : ℕ) → NeedsListed v s ds p r at len → NeedsListed w s ds p r at len
  needs_listed r at len (inl h) = inl (subst (λ (f : Footer). AsksLists w s ds p (request_lookups f s r) at len) same (lists_for (request_lookups v.footer s r) at len h))
  needs_listed r at len (inr (inl h)) =
      inr (inl (record { limited = h.limited; asks = record { number = h.asks.number; is_field = h.asks.is_field; column = column_for h.asks.number at len h.asks.column } }))
  needs_listed r at len (inr (inr (inl h))) = inr (inr (inl (record { number = h.number; among = h.among; column = column_for h.number at len h.column })))
  needs_listed r at len (inr (inr (inr h))) =
      inr (inr (inr (h.0, record { number = h.1.number; is_field = h.1.is_field; column = column_for h.1.number at len h.1.column })))

ranges_alike : (A B : ℕ → ℕ → Type 0) (rs : List FileRange) → ((at len : ℕ) → A at len → B at len) → ((at len : ℕ) → B at len → A at len) → AreRangesOf A rs → AreRangesOf B rs
ranges_alike A B rs to from h = record {
  apart = h.apart;
  cover = λ at len asked. h.cover at len (from at len asked);
  only = λ place has. let o = h.only place has in (o.0, o.1, to o.0 o.1 o.2, o.3, o.4);
}

module _ (v w : PartView) (s : Schema) (ds : List Placed) (p : Parts) (r : LeafRequest) (rs : List FileRange) (same : v.footer ≡ w.footer) where
  pub blocks_alike : AreRangesOf (NeedsBlocks v s ds p r) rs → AreRangesOf (NeedsBlocks w s ds p r) rs
  blocks_alike h = ranges_alike (NeedsBlocks v s ds p r) (NeedsBlocks w s ds p r) rs (needs_blocks v w s ds p same r) (needs_blocks w v s ds p (sym same) r) h

  pub listed_alike : AreRangesOf (NeedsListed v s ds p r) rs → AreRangesOf (NeedsListed w s ds p r) rs
  listed_alike h = ranges_alike (NeedsListed v s ds p r) (NeedsListed w s ds p r) rs (needs_listed v w s ds p same r) (needs_listed w v s ds p (sym same) r) h

module _ (v w : PartView) (s : Schema) (ds : List Placed) (same : v.footer ≡ w.footer) where
  needs_starts : (r : LeafRequest) (at len : ℕ) → NeedsStarts v s ds r at len → NeedsStarts w s ds r at len
  needs_starts r at len (inl h) = inl h
  needs_starts r at len (inr h) = inr (h.0, (h.1.0, h.1.1, subst (λ (f : Footer). len ≡ f.layout.sections.documents) same h.1.2))

pub starts_alike : (v w : PartView) (s : Schema) (ds : List Placed) (r : LeafRequest) (rs : List FileRange) → v.footer ≡ w.footer → AreRangesOf (NeedsStarts v s ds r) rs → AreRangesOf (NeedsStarts w s ds r) rs
starts_alike v w s ds r rs same h = ranges_alike (NeedsStarts v s ds r) (NeedsStarts w s ds r) rs (needs_starts v w s ds same r) (needs_starts w v s ds (sym same) r) h
