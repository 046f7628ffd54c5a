-- What is fetched of a split is what is needed.
use Rattle.std.proofs.Common.{◌≡◌, ◌≤◌, ◌==◌, ◌&&◌, ℕ, zero, suc, ◌+◌, max, Bool, true, false, List, [], ◌++◌, length, refl, ap, sym, ◌∙◌, subst, arith, Option, Some, None, Result, Ok, Err, IsErrAnd, MatchOption, MatchResult, append_assoc, append-nil, inl, inr, length-append, nat_le}
use Rattle.std.specs.Prelude.{is_some}
use Rattle.std.proofs.lemmas.Bool.{eqb-true}
use Rattle.std.proofs.lemmas.List.{length-map, map-append}
use Rattle.index_config.specs.declared.config.IndexConfig.{IndexConfig}
use Rattle.index_world.specs.CallsMade.{CallMade}
use Rattle.index_world.specs.Core.{Core, IsConfigured, journal_of}
use Rattle.index_world.specs.Gate.{grace_of}
use Rattle.index_world.specs.declared.tokens.Plan.{Plan}
use Rattle.source_log.specs.Log.{Log}
use Rattle.index_world.proofs.StoreKeys.{true_is_false}
use Rattle.index_world.specs.Configuration.{configuration}
use Rattle.leaf_search.specs.FileRanges.{AreRangesOf, total}
use Rattle.leaf_search.specs.Answers.{IsAsked}
use Rattle.leaf_search.specs.Needs.{NeedsBlocks}
use Rattle.leaf_search.specs.Shown.{AreFew, BytesOf, NeedsShown, NeedsStarts, OfEach, StartOf, are_few, shown_of}
use Rattle.leaf_search.specs.declared.file_ranges.FileRange.{FileRange}
use Rattle.leaf_search.specs.declared.request.LeafRequest.{LeafRequest}
use Rattle.leaf_search.proofs.ShownParts.{none_shown}
use Rattle.split_bundle.specs.Files.{Parts, file_bytes}
use Rattle.split_bundle.specs.Lending.{IsPartOf}
use Rattle.split_bundle.specs.Splits.{IsSplitOf}
use Rattle.split_bundle.specs.Views.{IsFooterOf}
use Rattle.split_bundle.specs.declared.footer.Footer.{Footer}
use Rattle.split_bundle.specs.declared.part_view.PartView.{PartView}
use Rattle.split_bundle.specs.declared.placed.Placed.{Placed}
use Rattle.doc_value.specs.declared.schema.Schema.{Schema}
use Rattle.root_search.specs.Fetching.{AreBlocksFetched, AreListsFetched, AreShownFetched, AreStartsNamed, FetchesAs, IsFileAt, IsFooterFetched, IsLooked, IsPartFetched, WantsRoom, footer_calls, footer_drawn, needed_calls, part_calls}
use Rattle.root_search.specs.FetchedSplits.{HoldsBlocks, HoldsListed, HoldsStarts, IsFooterIn, over, piece_at, pieces_at}
use Rattle.root_search.specs.declared.fetched_splits.FetchedSplit.{FetchedSplit}
use Rattle.root_search.specs.declared.fetched_splits.KeptPiece.{KeptPiece}
use Rattle.root_search.specs.declared.fetching.FetchError.{FetchError}
use Rattle.root_search.specs.declared.fetching.ShownStarts.{ShownStarts}
use Rattle.root_search.proofs.Fetches.{AddsMore, all_done, file_stands, made_of, then_failed, then_given}
use Rattle.root_search.proofs.SameFooters.{starts_alike}
use Rattle.root_search.proofs.Stands.{configured_after}

-- a core has one configuration
pub config_same : (core : Core) (one other : IndexConfig) → IsConfigured one core → IsConfigured other core → one ≡ other
config_same core one other a b = by (configuration (journal_of core)) a b
  where
    by : (o : Option IndexConfig) → o ≡ Some one → o ≡ Some other → one ≡ other
    by o e f = cc

-- the blocks that are named are those that the request needs
pub blocks_of : (one config : IndexConfig) (footer : Footer) (documents : List Placed) (p : Parts) (r : LeafRequest) (blocks : List FileRange) → one ≡ config → IsSplitOf config.schema documents p → IsFooterOf p footer
    → ((v : PartView) (ds : List Placed) (q : Parts) → v.footer ≡ footer → IsPartOf v one.schema ds q → AreRangesOf (NeedsBlocks v one.schema ds q r) blocks) → AreRangesOf (NeedsBlocks (over footer) config.schema documents p r) blocks
blocks_of one config footer documents p r blocks same is foot named =
    let part : IsPartOf (over footer) config.schema documents p = record { is_split = is; footer = foot; pieces = tt } in
    subst (λ (x : IndexConfig). AreRangesOf (NeedsBlocks (over footer) x.schema documents p r) blocks) same (named (over footer) documents p refl (subst (λ (x : IndexConfig). IsPartOf (over footer) x.schema documents p) (sym same) part))

-- ---- the pieces

-- those of the first ranges
pub first_kept : (new vacant : List KeptPiece) (file : List ℕ) (ranges blocks : List FileRange) → new ≡ vacant ++ pieces_at file ranges → vacant ≡ [] → ranges ≡ blocks → new ≡ pieces_at file blocks
first_kept new vacant file ranges blocks a b c = a ∙ (ap (λ (l : List KeptPiece). l ++ pieces_at file ranges) b ∙ ap (pieces_at file) c)

pub many_kept : (pieces : List KeptPiece) (file : List ℕ) (ranges : List FileRange) → pieces ≡ pieces_at file ranges → length pieces ≡ length ranges
many_kept pieces file ranges same = ap (λ (l : List KeptPiece). length l) same ∙ length-map ranges (piece_at file)

-- and further ones behind them
pub all_kept : (pieces kept : List KeptPiece) (file : List ℕ) (blocks lists : List FileRange) → kept ≡ pieces_at file blocks → pieces ≡ kept ++ pieces_at file lists → pieces ≡ pieces_at file (blocks ++ lists)
all_kept pieces kept file blocks lists k m = m ∙ (ap (λ (l : List KeptPiece). l ++ pieces_at file lists) k ∙ sym (map-append (piece_at file) blocks lists))

-- and those behind these
pub further_kept : (old mid new : List KeptPiece) (file : List ℕ) (one two : List FileRange) → mid ≡ old ++ pieces_at file one → new ≡ mid ++ pieces_at file two → new ≡ old ++ pieces_at file (one ++ two)
further_kept old mid new file one two a b =
    b ∙ (ap (λ (l : List KeptPiece). l ++ pieces_at file two) a ∙ (append_assoc old (pieces_at file one) (pieces_at file two) ∙ ap (λ (l : List KeptPiece). old ++ l) (sym (map-append (piece_at file) one two))))

-- the blocks and the lists behind them are held
pub lists_held : (s : Schema) (r : LeafRequest) (documents : List Placed) (p : Parts) (footer : Footer) (kept listed : List KeptPiece) (many drawn : ℕ) → HoldsBlocks s r documents p footer kept → AreListsFetched s r documents p footer kept listed many drawn → HoldsListed s r documents p footer listed
lists_held s r documents p footer kept listed many drawn b l =
    record { blocks = b.blocks; listed = l.lists; are_blocks = b.are_blocks; are_listed = l.are_lists; pieces = all_kept listed kept (file_bytes p) b.blocks l.lists b.pieces l.pieces_are }

count_kept : (calls : ℕ) (pieces listed kept : List KeptPiece) (file : List ℕ) (lists starts shown : List FileRange) → listed ≡ kept ++ pieces_at file lists → pieces ≡ listed ++ pieces_at file (starts ++ shown)
    → calls + length kept + length lists + (length starts + length shown) ≡ calls + length pieces
count_kept calls pieces listed kept file lists starts shown l m =
    omega (
      arith,
      ap (λ (ks : List KeptPiece). length ks) l,
      ap (λ (ks : List KeptPiece). length ks) m,
      length-append kept (pieces_at file lists),
      length-append listed (pieces_at file (starts ++ shown)),
      length-map lists (piece_at file),
      length-map (starts ++ shown) (piece_at file),
      length-append starts shown,
    )

drawn_together : (footer blocks lists shown : ℕ) → footer + blocks + lists + shown ≤ footer + (blocks + lists + shown)
drawn_together footer blocks lists shown = omega arith

-- a footer, the blocks, then the lists, and then what is shown are what a request needs
part_fetched : (s : Schema) (r : LeafRequest) (known : Option Footer) (documents : List Placed) (p : Parts) (number : ℕ) (footer : Footer) (kept listed pieces : List KeptPiece) (n d m e : ℕ) → IsSplitOf s documents p → IsFooterOf p footer → IsFooterIn (file_bytes p) footer
    → (held : HoldsBlocks s r documents p footer kept) → (l : AreListsFetched s r documents p footer kept listed n d) → (w : AreShownFetched s r documents p footer listed pieces m e)
    → IsPartFetched s r known documents p (needed_calls known) (record { number = number; footer = footer; pieces = pieces }) (footer_calls known + length kept + length l.lists + (length w.starts + length w.shown))
    (footer_drawn known p + total held.blocks + total l.lists + (total w.starts + total w.shown))
part_fetched s r known documents p number footer kept listed pieces n d m e is foot file held l w =
    let before = all_kept listed kept (file_bytes p) held.blocks l.lists held.pieces l.pieces_are in
    record {
      needed = record {
        parts = p;
        is_split = is;
        footer = foot;
        blocks = held.blocks;
        listed = l.lists;
        starts = w.starts;
        shown = w.shown;
        are_blocks = held.are_blocks;
        are_listed = l.are_lists;
        are_starts = w.are_starts;
        are_shown = w.are_shown;
        pieces = all_kept pieces listed (file_bytes p) (held.blocks ++ l.lists) (w.starts ++ w.shown) before w.pieces_are;
      };
      footer = file;
      calls_are = count_kept (footer_calls known) pieces listed kept (file_bytes p) l.lists w.starts w.shown l.pieces_are w.pieces_are;
      draws = record {
        blocks = held.blocks;
        listed = l.lists;
        starts = w.starts;
        shown = w.shown;
        are_blocks = held.are_blocks;
        are_listed = l.are_lists;
        are_starts = w.are_starts;
        are_shown = w.are_shown;
        few = drawn_together (footer_drawn known p) (total held.blocks) (total l.lists) (total w.starts + total w.shown);
      };
    }

-- a footer is fetched, the blocks behind it, the lists behind these, and then what is shown
pub whole_part : {W : Type 0} (Stands : W → Core → Log → Type 0) (Between : Core → Core → Type 0) (Adds : W → List CallMade → W → Type 0) (bytes_fetched : W → ℕ) → AddsMore Adds → (config : IndexConfig) (plan : Plan) (place : ℕ) (known : Option Footer) (documents : List Placed) (p : Parts) (r : LeafRequest) (core : Core) (log : Log)
    (number : ℕ) (footer : Footer) (kept listed pieces : List KeptPiece) (old mid further behind new : W) → IsConfigured config core → (file : IsFileAt core (grace_of config plan).until plan place (file_bytes p)) → IsSplitOf config.schema documents p
    → FetchesAs (grace_of config plan) file.row.number Stands Between Adds bytes_fetched (IsFooterFetched known p) (Ok footer) core log old mid
    → (IsFooterOf p footer → (after : Core) → Stands mid after log → IsConfigured config after → (there : IsFileAt after (grace_of config plan).until plan place (file_bytes p)) → FetchesAs (grace_of config plan) there.row.number Stands Between Adds bytes_fetched (AreBlocksFetched config.schema r documents p footer) (Ok kept) after log mid further)
    → (IsFooterOf p footer → (after : Core) → Stands further after log → IsConfigured config after → (there : IsFileAt after (grace_of config plan).until plan place (file_bytes p)) → HoldsBlocks config.schema r documents p footer kept
    → FetchesAs (grace_of config plan) there.row.number Stands Between Adds bytes_fetched (AreListsFetched config.schema r documents p footer kept) (Ok listed) after log further behind)
    → (IsFooterOf p footer → (after : Core) → Stands behind after log → IsConfigured config after → (there : IsFileAt after (grace_of config plan).until plan place (file_bytes p)) → HoldsListed config.schema r documents p footer listed
    → FetchesAs (grace_of config plan) there.row.number Stands Between Adds bytes_fetched (AreShownFetched config.schema r documents p footer listed) (Ok pieces) after log behind new)
    → FetchesAs (grace_of config plan) file.row.number Stands Between Adds bytes_fetched (IsPartFetched config.schema r known documents p (needed_calls known)) (Ok (record { number = number; footer = footer; pieces = pieces })) core log old new
whole_part Stands Between Adds bytes_fetched adds config plan place known documents p r core log number footer kept listed pieces old mid further behind new configured file is k blocks_by lists_by shown_by =
    let grace = grace_of config plan in
    let row = file.row.number in
    let foot = k.says.1.is_footer config.schema documents p is refl in
    let one = made_of grace row Stands Between Adds bytes_fetched core log old (IsFooterFetched known p) footer (footer_calls known) (footer_drawn known p) mid k k.says.1.calls k.says.1.few in
    let b = blocks_by foot one.after one.stands (configured_after core one.after config configured one.goes_on.always) (file_stands core one.after grace.until plan place (file_bytes p) one.goes_on.always file) in
    let two = then_given grace row Stands Between Adds bytes_fetched core log old adds (AreBlocksFetched config.schema r documents p footer) kept (footer_calls known) (footer_drawn known p) (length kept) (total b.says.1.held.blocks) mid further one b b.says.1.each b.says.1.few in
    let l = lists_by foot two.after two.stands (configured_after core two.after config configured two.goes_on.always) (file_stands core two.after grace.until plan place (file_bytes p) two.goes_on.always file) b.says.1.held in
    let three = then_given grace row Stands Between Adds bytes_fetched core log old adds (AreListsFetched config.schema r documents p footer kept) listed (footer_calls known + length kept) (footer_drawn known p + total b.says.1.held.blocks) (length l.says.1.lists) (total l.says.1.lists) further behind two l l.says.1.each l.says.1.few in
    let w = shown_by foot three.after three.stands (configured_after core three.after config configured three.goes_on.always) (file_stands core three.after grace.until plan place (file_bytes p) three.goes_on.always file)
    (lists_held config.schema r documents p footer kept listed (length l.passages) l.drawn b.says.1.held l.says.1) in
    let four = then_given grace row Stands Between Adds bytes_fetched core log old adds (AreShownFetched config.schema r documents p footer listed) pieces (footer_calls known + length kept + length l.says.1.lists) (footer_drawn known p + total b.says.1.held.blocks + total l.says.1.lists)
    (length w.says.1.starts + length w.says.1.shown) (total w.says.1.starts + total w.says.1.shown) behind new three w w.says.1.each w.says.1.few in
    all_done grace row Stands Between Adds bytes_fetched core log old (IsPartFetched config.schema r known documents p (needed_calls known)) (record { number = number; footer = footer; pieces = pieces })
    (footer_calls known + length kept + length l.says.1.lists + (length w.says.1.starts + length w.says.1.shown)) (footer_drawn known p + total b.says.1.held.blocks + total l.says.1.lists + (total w.says.1.starts + total w.says.1.shown)) new four
    (part_fetched config.schema r known documents p number footer kept listed pieces (length l.passages) l.drawn (length w.passages) w.drawn is foot k.says.1.is_footer b.says.1.held l.says.1 w.says.1)

-- the same, where the last fetches fail
pub lost_last : {W : Type 0} (Stands : W → Core → Log → Type 0) (Between : Core → Core → Type 0) (Adds : W → List CallMade → W → Type 0) (bytes_fetched : W → ℕ) → AddsMore Adds → (config : IndexConfig) (plan : Plan) (place : ℕ) (known : Option Footer) (documents : List Placed) (p : Parts) (r : LeafRequest) (core : Core) (log : Log)
    (result : Result FetchedSplit FetchError) (e : FetchError) (footer : Footer) (kept listed : List KeptPiece) (old mid further behind new : W) → IsConfigured config core → (file : IsFileAt core (grace_of config plan).until plan place (file_bytes p)) → IsSplitOf config.schema documents p
    → FetchesAs (grace_of config plan) file.row.number Stands Between Adds bytes_fetched (IsFooterFetched known p) (Ok footer) core log old mid
    → (IsFooterOf p footer → (after : Core) → Stands mid after log → IsConfigured config after → (there : IsFileAt after (grace_of config plan).until plan place (file_bytes p)) → FetchesAs (grace_of config plan) there.row.number Stands Between Adds bytes_fetched (AreBlocksFetched config.schema r documents p footer) (Ok kept) after log mid further)
    → (IsFooterOf p footer → (after : Core) → Stands further after log → IsConfigured config after → (there : IsFileAt after (grace_of config plan).until plan place (file_bytes p)) → HoldsBlocks config.schema r documents p footer kept
    → FetchesAs (grace_of config plan) there.row.number Stands Between Adds bytes_fetched (AreListsFetched config.schema r documents p footer kept) (Ok listed) after log further behind)
    → (IsFooterOf p footer → (after : Core) → Stands behind after log → IsConfigured config after → (there : IsFileAt after (grace_of config plan).until plan place (file_bytes p)) → HoldsListed config.schema r documents p footer listed
    → FetchesAs (grace_of config plan) there.row.number Stands Between Adds bytes_fetched (AreShownFetched config.schema r documents p footer listed) (Err e) after log behind new)
    → IsErrAnd result (λ y. y ≡ e)
    → FetchesAs (grace_of config plan) file.row.number Stands Between Adds bytes_fetched (IsPartFetched config.schema r known documents p (needed_calls known)) result core log old new
lost_last Stands Between Adds bytes_fetched adds config plan place known documents p r core log result e footer kept listed old mid further behind new configured file is k blocks_by lists_by shown_by h =
    let grace = grace_of config plan in
    let row = file.row.number in
    let foot = k.says.1.is_footer config.schema documents p is refl in
    let one = made_of grace row Stands Between Adds bytes_fetched core log old (IsFooterFetched known p) footer (footer_calls known) (footer_drawn known p) mid k k.says.1.calls k.says.1.few in
    let b = blocks_by foot one.after one.stands (configured_after core one.after config configured one.goes_on.always) (file_stands core one.after grace.until plan place (file_bytes p) one.goes_on.always file) in
    let two = then_given grace row Stands Between Adds bytes_fetched core log old adds (AreBlocksFetched config.schema r documents p footer) kept (footer_calls known) (footer_drawn known p) (length kept) (total b.says.1.held.blocks) mid further one b b.says.1.each b.says.1.few in
    let l = lists_by foot two.after two.stands (configured_after core two.after config configured two.goes_on.always) (file_stands core two.after grace.until plan place (file_bytes p) two.goes_on.always file) b.says.1.held in
    let three = then_given grace row Stands Between Adds bytes_fetched core log old adds (AreListsFetched config.schema r documents p footer kept) listed (footer_calls known + length kept) (footer_drawn known p + total b.says.1.held.blocks) (length l.says.1.lists) (total l.says.1.lists) further behind two l l.says.1.each l.says.1.few in
    let w = shown_by foot three.after three.stands (configured_after core three.after config configured three.goes_on.always) (file_stands core three.after grace.until plan place (file_bytes p) three.goes_on.always file)
    (lists_held config.schema r documents p footer kept listed (length l.passages) l.drawn b.says.1.held l.says.1) in
    then_failed grace row Stands Between Adds bytes_fetched core log old adds (AreShownFetched config.schema r documents p footer listed) (IsPartFetched config.schema r known documents p (needed_calls known)) e result (footer_calls known + length kept + length l.says.1.lists)
    (footer_drawn known p + total b.says.1.held.blocks + total l.says.1.lists) behind new three h w

-- ---- no hit is shown

no_ranges : (asked : ℕ → ℕ → Type 0) → ((at len : ℕ) → asked at len → ⊥) → AreRangesOf asked []
no_ranges asked none = record { apart = tt; cover = λ at len h. absurd (none at len h); only = λ place h. absurd h }

none_of_each : (part : ℕ → ℕ → ℕ → Type 0) (numbers : List ℕ) (at len : ℕ) → numbers ≡ [] → OfEach part numbers at len → ⊥
none_of_each part numbers at len e each = let there = each.among.1 in let none = ap (λ (ns : List ℕ). length ns) e in omega (arith, there, none)

-- where none are wanted nothing more is needed than the lists and the columns
pub none_shown_more : (s : Schema) (r : LeafRequest) (documents : List Placed) (p : Parts) (footer : Footer) (listed : List KeptPiece) → r.wanted ≡ 0 → AreShownFetched s r documents p footer listed listed 0 0
none_shown_more s r documents p footer listed none =
    record {
      starts = [];
      shown = [];
      are_starts = no_ranges (NeedsStarts (over footer) s documents r) (λ at len h. by at len h);
      are_shown = no_ranges (NeedsShown s documents p r) (λ at len h. none_of_each (BytesOf p documents) (shown_of s r documents) at len empty h.1);
      pieces_are = sym (append-nil listed);
      each = refl;
      few = omega arith;
    }
  where
    empty : shown_of s r documents ≡ []
    empty = none_shown s r documents none

    by : (at len : ℕ) → NeedsStarts (over footer) s documents r at len → ⊥
    by at len (inl h) = none_of_each StartOf (shown_of s r documents) at len empty h.1
    by at len (inr h) = let few = ap (λ (ns : List ℕ). nat_le (length ns) 256) empty in true_is_false (sym few ∙ h.0)

-- what is named goes by the footer
pub starts_alike_named : (v w : PartView) (s : Schema) (r : LeafRequest) (documents : List Placed) (named : Result ShownStarts FetchError) → v.footer ≡ w.footer → MatchResult named (AreStartsNamed v s r documents) WantsRoom
    → MatchResult named (AreStartsNamed w s r documents) WantsRoom
starts_alike_named v w s r documents (Ok named) same h = record { few = h.few; starts = starts_alike v w s documents r named.starts same h.starts }
starts_alike_named v w s r documents (Err e) same h = h

-- the starts were fetched behind the lists and the columns
pub record AreStartsKept (s : Schema) (r : LeafRequest) (documents : List Placed) (p : Parts) (footer : Footer) (named : ShownStarts) (listed pieces kept : List KeptPiece) : Type 0 where
  pub few : MatchOption named.few (are_few s r documents ≡ false) (λ ns. AreFew s r documents ns.items)
  pub are : AreRangesOf (NeedsStarts (over footer) s documents r) named.starts
  pub pieces_are : pieces ≡ listed ++ pieces_at (file_bytes p) named.starts
  pub holds : HoldsStarts s r documents p footer kept

pub starts_kept : (one config : IndexConfig) (r : LeafRequest) (documents : List Placed) (p : Parts) (footer : Footer) (named : ShownStarts) (listed at pieces kept : List KeptPiece) (slice : List FileRange) → one ≡ config → IsSplitOf config.schema documents p → IsFooterOf p footer → IsAsked config.schema r
    → HoldsListed config.schema r documents p footer listed → at ≡ listed
    → ((ds : List Placed) (q : Parts) → IsSplitOf one.schema ds q → IsFooterOf q footer → IsAsked one.schema r → HoldsListed one.schema r ds q footer at → AreStartsNamed (over footer) one.schema r ds named)
    → slice ≡ named.starts → kept ≡ pieces → pieces ≡ listed ++ pieces_at (file_bytes p) slice → AreStartsKept config.schema r documents p footer named listed pieces kept
starts_kept one config r documents p footer named listed at pieces kept slice same is foot asked holds at_is step slice_is kept_is behind =
    let there = subst (λ (ks : List KeptPiece). HoldsListed config.schema r documents p footer ks) (sym at_is) holds in
    let n = subst (λ (x : IndexConfig). AreStartsNamed (over footer) x.schema r documents named) same
    (step documents p (subst (λ (x : IndexConfig). IsSplitOf x.schema documents p) (sym same) is) foot (subst (λ (x : IndexConfig). IsAsked x.schema r) (sym same) asked) (subst (λ (x : IndexConfig). HoldsListed x.schema r documents p footer at) (sym same) there)) in
    let all : pieces ≡ listed ++ pieces_at (file_bytes p) named.starts = behind ∙ ap (λ (l : List FileRange). listed ++ pieces_at (file_bytes p) l) slice_is in
    record {
      few = n.few;
      are = n.starts;
      pieces_are = all;
      holds = record { before = holds.blocks ++ holds.listed; starts = named.starts; are_starts = n.starts; pieces = kept_is ∙ all_kept pieces listed (file_bytes p) (holds.blocks ++ holds.listed) named.starts holds.pieces all };
    }

-- and the documents behind them
pub shown_kept : (s : Schema) (r : LeafRequest) (documents : List Placed) (p : Parts) (footer : Footer) (named : ShownStarts) (shown : List FileRange) (listed pieces kept new : List KeptPiece) (slice : List FileRange) → AreStartsKept s r documents p footer named listed pieces kept
    → AreRangesOf (NeedsShown s documents p r) shown → slice ≡ shown → new ≡ pieces ++ pieces_at (file_bytes p) slice → AreShownFetched s r documents p footer listed new (length named.starts + length shown) (total named.starts + total shown)
shown_kept s r documents p footer named shown listed pieces kept new slice k are slice_is behind =
    record {
      starts = named.starts;
      shown = shown;
      are_starts = k.are;
      are_shown = are;
      pieces_are = further_kept listed pieces new (file_bytes p) named.starts shown k.pieces_are (behind ∙ ap (λ (l : List FileRange). pieces ++ pieces_at (file_bytes p) l) slice_is);
      each = refl;
      few = omega arith;
    }

-- ---- how many fetches

none_known : (was : Bool) (n : ℕ) (b : Bool) → was ≡ false → b ≡ (was && (n == 0)) → b ≡ true → ⊥
none_known true n b w e t = absurd (cc)
none_known false n b w e t = absurd (cc)

all_known : (was : Bool) (n : ℕ) (b : Bool) → was ≡ true → b ≡ (was && (n == 0)) → b ≡ (n == 0)
all_known true n b w e = e
all_known false n b w e = absurd (cc)

pub once_more : (known : Option Footer) (part : FetchedSplit) (was b : Bool) → was ≡ is_some known → b ≡ (was && (length part.pieces == 0)) → b ≡ true → needed_calls known part + 1 ≡ part_calls known part
once_more None part was b w e t = absurd (none_known was (length part.pieces) b w e t)
once_more (Some f) part was b w e t =
    let none : length part.pieces ≡ 0 = eqb-true (length part.pieces) 0 (sym (all_known was (length part.pieces) b w e) ∙ t) in
    omega (arith, none)

pub no_more : (known : Option Footer) (part : FetchedSplit) (was b : Bool) → was ≡ is_some known → b ≡ (was && (length part.pieces == 0)) → b ≡ false → needed_calls known part ≡ part_calls known part
no_more None part was b w e t = omega arith
no_more (Some f) part was b w e t =
    let most = by (length part.pieces) (sym (all_known was (length part.pieces) b w e) ∙ t) in
    omega (arith, most)
  where
    by : (n : ℕ) → (n == 0) ≡ false → n ≡ max 1 n
    by zero h = absurd (cc)
    by (suc n) h = omega arith

-- the part that was looked for once more
pub looked_part : (s : Schema) (r : LeafRequest) (known : Option Footer) (documents : List Placed) (p : Parts) (part given : FetchedSplit) (many n drawn d : ℕ) → IsPartFetched s r known documents p (needed_calls known) part many drawn → IsLooked part given n d
    → needed_calls known part + 1 ≡ part_calls known part → IsPartFetched s r known documents p (part_calls known) given (needed_calls known part + n) (drawn + d)
looked_part s r known documents p part given many n drawn d k h count =
    subst (λ (x : FetchedSplit). IsPartFetched s r known documents p (part_calls known) x (needed_calls known part + n) (drawn + d)) (sym h.same)
    (record {
      needed = k.needed;
      footer = k.footer;
      calls_are = ap (λ (m : ℕ). needed_calls known part + m) h.once ∙ count;
      draws = record {
        blocks = k.draws.blocks;
        listed = k.draws.listed;
        starts = k.draws.starts;
        shown = k.draws.shown;
        are_blocks = k.draws.are_blocks;
        are_listed = k.draws.are_listed;
        are_starts = k.draws.are_starts;
        are_shown = k.draws.are_shown;
        few = (let few = k.draws.few in let none = h.none in omega (arith, few, none));
      };
    })
