-- The lists that a dictionary gives are those that are asked for.
use Rattle.std.proofs.Common.{◌≡◌, ℕ, zero, suc, ◌+◌, ◌*◌, ◌<◌, ◌≤◌, ◌^◌, ◌⊎◌, inl, inr, true, false, ◌||◌, List, [], ◌∷◌, length, drop, get_or, nat_eq, Option, Some, None, Result, Ok, Err, MatchResult, refl, ap, sym, ◌∙◌, subst, arith}
use Rattle.std.specs.List.{AllByRecursion, starts_with}
use Rattle.std.proofs.lemmas.Bool.{cases_eq}
use Rattle.std.proofs.lemmas.List.{drop_more}
use Rattle.doc_value.specs.declared.schema.Schema.{Schema}
use Rattle.term_dict.specs.Bounds.{AreBlocks, block_terms}
use Rattle.term_dict.specs.Keys.{is_below}
use Rattle.term_dict.specs.Terms.{lookup}
use Rattle.term_dict.specs.declared.term.Term.{Term}
use Rattle.term_dict.specs.declared.term.TermInfo.{TermInfo}
use Rattle.split_bundle.specs.declared.layout.Sections.{Sections}
use Rattle.split_bundle.specs.declared.placed.Placed.{Placed}
use Rattle.split_bundle.specs.declared.part_view.PartView.{PartView}
use Rattle.split_bundle.specs.declared.pieces.FilePiece.{FilePiece}
use Rattle.split_bundle.specs.declared.pieces.Section.TheVariants.{Postings, Positions}
use Rattle.split_bundle.specs.Files.{Parts}
use Rattle.split_bundle.specs.Lending.{IsPartOf}
use Rattle.split_bundle.specs.Lists.{keeps_places, terms_of}
use Rattle.split_bundle.proofs.Infos.{info_found}
use Rattle.split_bundle.proofs.SectionBytes.{section_within}
use Rattle.doc_sets.specs.declared.dictionary_lookup.Lookup.{Lookup}
use Rattle.doc_sets.specs.declared.leaf_error.LeafError.{LeafError}
use Rattle.doc_sets.specs.declared.leaf_error.LeafError.TheVariants as faults
use Rattle.doc_sets.specs.declared.wanted.Wanted.{Wanted}
use Rattle.doc_sets.specs.Asking.{AsksBlockOf, AsksBlocks, AsksListOf, AsksLists}
use Rattle.doc_sets.specs.Faults.{LacksPart, IsMemory}
use Rattle.doc_sets.specs.Needed.{ArePlacesFor, IsListFor, postings_start, positions_start}
use Rattle.doc_sets.specs.Walks.{AsksIf, AsksTerms, AsksWalkBlock, AsksWalkList, IsBlock, begun_in, takes}
use Rattle.doc_sets.proofs.Causes.{cause_wider}
use Rattle.doc_sets.proofs.TermWalks.{all_drop, all_filter, all_found, all_map, all_take}
use Rattle.doc_sets.proofs.WalkSteps.{first_listed}
use Rattle.leaf_search.specs.FileRanges.{AddsParts}
use Rattle.leaf_search.specs.declared.file_ranges.FileRange.{FileRange}
use Rattle.leaf_search.proofs.BlockParts.{same_walk}
use Rattle.leaf_search.proofs.RangeLists.{At, both_added, none_added, parts_alike}

-- want of memory is a cause whatever is asked for
pub memory_is : (A : ℕ → ℕ → Type 0) (pieces : List FilePiece) (e : LeafError) → IsMemory e → LacksPart A pieces e
memory_is A pieces (faults.Memory a) h = tt
memory_is A pieces (faults.Missing at) h = absurd h
memory_is A pieces (faults.Corrupt section) h = absurd h

pub good_alike : {X : Type 0} (A B : X → Type 0) (P Q : LeafError → Type 0) (r : Result X LeafError) → ((x : X) → A x → B x) → ((e : LeafError) → P e → Q e) → MatchResult r A P → MatchResult r B Q
good_alike A B P Q (Ok x) f g h = f x h
good_alike A B P Q (Err e) f g h = g e h

module _ (v : PartView) (s : Schema) (ds : List Placed) (p : Parts) where
  abbrev terms : List Term
  terms = terms_of s ds p.keys

  -- ---- of a term

  same_info : (key : List ℕ) (a b : TermInfo) → lookup key terms ≡ Some a → lookup key terms ≡ Some b → a ≡ b
  same_info key a b x y = let both : Some a ≡ Some b = sym x ∙ y in cc

  pub record IsListed (info : TermInfo) : Type 0 where
    pub start_is : postings_start v.footer.layout.sections ≡ 4 + v.footer.layout.sections.documents + v.footer.layout.sections.dictionary
    pub fits : 4 + v.footer.layout.sections.documents + v.footer.layout.sections.dictionary + info.postings + info.postings_len < 2 ^ 64

  pub listed : (key : List ℕ) (info : TermInfo) → IsPartOf v s ds p → lookup key terms ≡ Some info → IsListed info
  listed key info part found =
      let is = info_found s ds p key info part.is_split found in
      let sections = part.footer.layout.sections in
      record {
        start_is = refl;
        fits = omega (arith, is.postings_within, section_within Postings p, part.is_split.size, ap (λ (l : Sections). l.documents) sections, ap (λ (l : Sections). l.dictionary) sections);
      }

  pub list_named : (key : List ℕ) (info : TermInfo) (at len : ℕ) (old new : List FileRange) → lookup key terms ≡ Some info → at ≡ postings_start v.footer.layout.sections + info.postings → len ≡ info.postings_len → AddsParts (At at len) old new
      → AddsParts (IsListFor v s ds p key) old new
  list_named key info at len old new found same_at same_len adds =
      parts_alike (At at len) (IsListFor v s ds p key) old new
      (λ a n h. record { info = info; is_term = found; at_is = h.0 ∙ same_at; len_is = h.1 ∙ same_len })
      (λ a n h.
      let same = same_info key h.info info h.is_term found in
      (h.at_is ∙ (ap (λ (i : TermInfo). postings_start v.footer.layout.sections + i.postings) same ∙ sym same_at), h.len_is ∙ (ap (λ (i : TermInfo). i.postings_len) same ∙ sym same_len))) adds

  pub record HasPlaces (info : TermInfo) : Type 0 where
    pub start_is : positions_start v.footer.layout.sections ≡ 4 + v.footer.layout.sections.documents + v.footer.layout.sections.dictionary + v.footer.layout.sections.postings
    pub fits : 4 + v.footer.layout.sections.documents + v.footer.layout.sections.dictionary + v.footer.layout.sections.postings + info.positions + info.positions_len < 2 ^ 64

  pub has_places : (key : List ℕ) (info : TermInfo) → IsPartOf v s ds p → lookup key terms ≡ Some info → HasPlaces info
  has_places key info part found =
      let is = info_found s ds p key info part.is_split found in
      let sections = part.footer.layout.sections in
      record {
        start_is = refl;
        fits = omega (arith, is.positions_within, section_within Positions p, part.is_split.size, ap (λ (l : Sections). l.documents) sections, ap (λ (l : Sections). l.dictionary) sections, ap (λ (l : Sections). l.postings) sections);
      }

  pub places_named : (key : List ℕ) (info : TermInfo) (at len : ℕ) (old new : List FileRange) → keeps_places s key ≡ true → lookup key terms ≡ Some info → at ≡ positions_start v.footer.layout.sections + info.positions → len ≡ info.positions_len
      → AddsParts (At at len) old new → AddsParts (ArePlacesFor v s ds p key) old new
  places_named key info at len old new kept found same_at same_len adds =
      parts_alike (At at len) (ArePlacesFor v s ds p key) old new
      (λ a n h. record { kept = kept; info = info; is_term = found; at_is = h.0 ∙ same_at; len_is = h.1 ∙ same_len })
      (λ a n h.
      let same = same_info key h.info info h.is_term found in
      (h.at_is ∙ (ap (λ (i : TermInfo). positions_start v.footer.layout.sections + i.positions) same ∙ sym same_at), h.len_is ∙ (ap (λ (i : TermInfo). i.positions_len) same ∙ sym same_len))) adds

  -- ---- of a key that no document has, and of one without positions

  no_term : (key : List ℕ) (info : TermInfo) → lookup key terms ≡ None → lookup key terms ≡ Some info → ⊥
  no_term key info none found = let no : Option TermInfo = None in let both : no ≡ Some info = sym none ∙ found in cc

  pub no_list : (key : List ℕ) (rs : List FileRange) → lookup key terms ≡ None → AddsParts (IsListFor v s ds p key) rs rs
  no_list key rs none = none_added (IsListFor v s ds p key) rs (λ a n h. no_term key h.info none h.is_term)

  abbrev pub Both : List ℕ → ℕ → ℕ → Type 0
  Both key at len = IsListFor v s ds p key at len ⊎ ArePlacesFor v s ds p key at len

  pub neither : (key : List ℕ) (rs : List FileRange) → lookup key terms ≡ None → AddsParts (Both key) rs rs
  neither key rs none = none_added (Both key) rs (λ a n h. elim h [ inl l ↦ no_term key l.info none l.is_term | inr l ↦ no_term key l.info none l.is_term ])

  pub list_alone : (key : List ℕ) (old new : List FileRange) → keeps_places s key ≡ false → AddsParts (IsListFor v s ds p key) old new → AddsParts (Both key) old new
  list_alone key old new without adds =
      parts_alike (IsListFor v s ds p key) (Both key) old new (λ a n h. inl h)
      (λ a n h. elim h [ inl l ↦ l | inr l ↦ absurd (let bad : false ≡ true = sym without ∙ l.kept in cc) ]) adds

  -- ---- of the wanted terms of a block

  pub wanted_named : (w : Wanted) (key : List ℕ) (old new : List FileRange) → takes w key ≡ true → AddsParts (IsListFor v s ds p key) old new → AddsParts (AsksIf v s ds p w key) old new
  wanted_named w key old new is adds = parts_alike (IsListFor v s ds p key) (AsksIf v s ds p w key) old new (λ a n h. (is, h)) (λ a n h. h.1) adds

  pub unwanted_named : (w : Wanted) (key : List ℕ) (rs : List FileRange) → takes w key ≡ false → AddsParts (AsksIf v s ds p w key) rs rs
  unwanted_named w key rs is = none_added (AsksIf v s ds p w key) rs (λ a n h. let bad : false ≡ true = sym is ∙ h.0 in cc)

  pub begun_found : IsPartOf v s ds p → (prefix : List ℕ) (number : ℕ) → AllByRecursion (λ u. lookup u.key terms ≡ Some u.info) (begun_in prefix terms number)
  begun_found part prefix number =
      all_map (λ u. (lookup u.key terms ≡ Some u.info) × (starts_with nat_eq u.key prefix ≡ true)) (λ u. lookup u.key terms ≡ Some u.info) (begun_in prefix terms number) (λ u h. h.0)
      (all_filter (λ u. lookup u.key terms ≡ Some u.info) (λ u. starts_with nat_eq u.key prefix) (block_terms terms number)
      (all_take (λ u. lookup u.key terms ≡ Some u.info) 64 (drop (64 * number) terms) (all_drop (λ u. lookup u.key terms ≡ Some u.info) (64 * number) terms (all_found terms part.is_split.dictionary.are_terms.rising))))

  -- the dictionary has the term that a range gave at its key
  pub term_found : (lent : List Term) (i : ℕ) (t : Term) (rest : List Term) (key : List ℕ) (info : TermInfo) → drop i lent ≡ t ∷ rest → key ≡ t.key → info ≡ t.info → AllByRecursion (λ u. lookup u.key terms ≡ Some u.info) lent
      → lookup key terms ≡ Some info
  term_found lent i t rest key info here same alike listed =
      ap (λ k. lookup k terms) same ∙ (first_listed (λ u. lookup u.key terms ≡ Some u.info) lent i t rest here listed ∙ ap Some (sym alike))

  pub term_named : (w : Wanted) (lent : List Term) (i : ℕ) (t : Term) (rest : List Term) (key : List ℕ) (old middle new : List FileRange) → drop i lent ≡ t ∷ rest → drop (i + 1) lent ≡ rest → key ≡ t.key
      → AddsParts (AsksIf v s ds p w key) old middle → AddsParts (AsksTerms v s ds p w (drop (i + 1) lent)) middle new → AddsParts (AsksTerms v s ds p w (drop i lent)) old new
  term_named w lent i t rest key old middle new here next same first behind =
      subst (λ (ts : List Term). AddsParts (AsksTerms v s ds p w ts) old new) (sym here)
      (both_added (AsksIf v s ds p w t.key) (AsksTerms v s ds p w rest) old middle new
      (subst (λ (k : List ℕ). AddsParts (AsksIf v s ds p w k) old middle) same first)
      (subst (λ (ts : List Term). AddsParts (AsksTerms v s ds p w ts) middle new) next behind))

  pub no_terms : (w : Wanted) (ts : List Term) (rs : List FileRange) → ts ≡ [] → AddsParts (AsksTerms v s ds p w ts) rs rs
  no_terms w ts rs e = subst (λ (l : List Term). AddsParts (AsksTerms v s ds p w l) rs rs) (sym e) (none_added (AsksTerms v s ds p w []) rs (λ a n h. h))

  -- ---- of the blocks of a walk

  abbrev pub ListsBetween : List ℕ → Wanted → ℕ → ℕ → ℕ → ℕ → Type 0
  ListsBetween prefix w from until at len = (number : ℕ) × (from ≤ number) × (number < until) × AsksTerms v s ds p w (begun_in prefix terms number) at len

  pub next_lists : (prefix : List ℕ) (w : Wanted) (from until : ℕ) (old middle new : List FileRange) → from < until → AddsParts (AsksTerms v s ds p w (begun_in prefix terms from)) old middle
      → AddsParts (ListsBetween prefix w (from + 1) until) middle new → AddsParts (ListsBetween prefix w from until) old new
  next_lists prefix w from until old middle new lt first rest =
      parts_alike (λ at len. AsksTerms v s ds p w (begun_in prefix terms from) at len ⊎ ListsBetween prefix w (from + 1) until at len) (ListsBetween prefix w from until) old new
      (λ a n h. elim h [ inl b ↦ (from, omega arith, lt, b) | inr o ↦ (o.0, omega (arith, o.1), o.2, o.3) ])
      (λ a n h. elim (cases_eq from h.0) [
        | inl e ↦ inl (subst (λ k. AsksTerms v s ds p w (begun_in prefix terms k) a n) (sym e) h.3)
        | inr ne ↦ inr (h.0, omega (arith, ne, h.1), h.2, h.3)
      ]) (both_added (AsksTerms v s ds p w (begun_in prefix terms from)) (ListsBetween prefix w (from + 1) until) old middle new first rest)

  pub no_lists : (prefix : List ℕ) (w : Wanted) (from until : ℕ) (rs : List FileRange) → until ≤ from → AddsParts (ListsBetween prefix w from until) rs rs
  no_lists prefix w from until rs le = none_added (ListsBetween prefix w from until) rs (λ a n h. omega (arith, le, h.1, h.2))

  pub walk_lists : (prefix : List ℕ) (w : Wanted) (from until : ℕ) (old new : List FileRange) → IsPartOf v s ds p → AreBlocks v.footer.index prefix (λ first. is_below first prefix || starts_with nat_eq first prefix) from until
      → AddsParts (ListsBetween prefix w from until) old new → AddsParts (AsksWalkList v s ds p prefix w) old new
  walk_lists prefix w from until old new part blocks adds =
      parts_alike (ListsBetween prefix w from until) (AsksWalkList v s ds p prefix w) old new
      (λ a n h. (h.0, record { start = from; end = until; blocks = blocks; from = h.1; until = h.2 }, h.3))
      (λ a n h. let within = same_walk v s ds p part prefix from until blocks h.0 h.1 in (h.0, within.0, within.1, h.2)) adds

  pub walk_lacks : (prefix : List ℕ) (start end number : ℕ) (e : LeafError) → AreBlocks v.footer.index prefix (λ first. is_below first prefix || starts_with nat_eq first prefix) start end → start ≤ number → number < end
      → LacksPart (IsBlock s ds p number) v.pieces e → LacksPart (AsksWalkBlock v s ds p prefix) v.pieces e
  walk_lacks prefix start end number e blocks from until cause =
      cause_wider (IsBlock s ds p number) (AsksWalkBlock v s ds p prefix) v.pieces e (λ at len b. (number, record { start = start; end = end; blocks = blocks; from = from; until = until }, b)) cause

  -- ---- of some look-ups

  rest_of : (ls : List Lookup) (i : ℕ) (l : Lookup) → i < length ls → l ≡ get_or ls i l → drop i ls ≡ l ∷ drop (i + 1) ls
  rest_of ls i l lt e = drop_more ls i l lt ∙ ap (λ k. k ∷ drop (i + 1) ls) (sym e)

  pub next_blocks : (ls : List Lookup) (i : ℕ) (l : Lookup) (old middle new : List FileRange) → i < length ls → l ≡ get_or ls i l → AddsParts (AsksBlockOf v s ds p l) old middle → AddsParts (AsksBlocks v s ds p (drop (i + 1) ls)) middle new
      → AddsParts (AsksBlocks v s ds p (drop i ls)) old new
  next_blocks ls i l old middle new lt e first rest =
      subst (λ (k : List Lookup). AddsParts (AsksBlocks v s ds p k) old new) (sym (rest_of ls i l lt e)) (both_added (AsksBlockOf v s ds p l) (AsksBlocks v s ds p (drop (i + 1) ls)) old middle new first rest)

  pub no_blocks : (ls : List Lookup) (rs : List FileRange) → ls ≡ [] → AddsParts (AsksBlocks v s ds p ls) rs rs
  no_blocks ls rs e = subst (λ (k : List Lookup). AddsParts (AsksBlocks v s ds p k) rs rs) (sym e) (none_added (AsksBlocks v s ds p []) rs (λ a n h. h))

  pub next_looked : (ls : List Lookup) (i : ℕ) (l : Lookup) (old middle new : List FileRange) → i < length ls → l ≡ get_or ls i l → AddsParts (AsksListOf v s ds p l) old middle → AddsParts (AsksLists v s ds p (drop (i + 1) ls)) middle new
      → AddsParts (AsksLists v s ds p (drop i ls)) old new
  next_looked ls i l old middle new lt e first rest =
      subst (λ (k : List Lookup). AddsParts (AsksLists v s ds p k) old new) (sym (rest_of ls i l lt e)) (both_added (AsksListOf v s ds p l) (AsksLists v s ds p (drop (i + 1) ls)) old middle new first rest)

  pub none_looked : (ls : List Lookup) (rs : List FileRange) → ls ≡ [] → AddsParts (AsksLists v s ds p ls) rs rs
  none_looked ls rs e = subst (λ (k : List Lookup). AddsParts (AsksLists v s ds p k) rs rs) (sym e) (none_added (AsksLists v s ds p []) rs (λ a n h. h))

  block_among : (ls : List Lookup) (i : ℕ) (l : Lookup) → i < length ls → l ≡ get_or ls i l → (at len : ℕ) → AsksBlockOf v s ds p l at len → AsksBlocks v s ds p ls at len
  block_among [] i l lt e at len h = absurd (omega arith)
  block_among (x ∷ xs) zero l lt e at len h = inl (subst (λ (k : Lookup). AsksBlockOf v s ds p k at len) e h)
  block_among (x ∷ xs) (suc i) l lt e at len h = inr (block_among xs i l (omega arith) e at len h)

  pub lookup_lacks : (ls : List Lookup) (i : ℕ) (l : Lookup) (e : LeafError) → i < length ls → l ≡ get_or ls i l → LacksPart (AsksBlockOf v s ds p l) v.pieces e → LacksPart (AsksBlocks v s ds p ls) v.pieces e
  lookup_lacks ls i l e lt same cause = cause_wider (AsksBlockOf v s ds p l) (AsksBlocks v s ds p ls) v.pieces e (block_among ls i l lt same) cause
