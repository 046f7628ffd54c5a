-- Fetches of a planned split through a gate, one after another.
use Rattle.std.specs.Prelude.{◌≡◌, ℕ, ◌+◌, ◌≤◌, List, ◌++◌, length, max, min, take, drop, Option, Some, None, Result, Ok, Err, ⊤, slice_get, false, MatchOption}
use Rattle.doc_value.specs.declared.schema.Schema.{Schema}
use Rattle.index_world.specs.Calls.{Grace, Trouble, gives}
use Rattle.index_world.specs.CallsMade.{CallMade}
use Rattle.index_world.specs.Core.{Core, IsPlannedIn}
use Rattle.index_world.specs.Gate.{IsTrouble}
use Rattle.index_world.specs.declared.tokens.Plan.{Plan}
use Rattle.meta_store.specs.declared.planning.PlanRow.{PlanRow}
use Rattle.source_log.specs.Log.{Log}
use Rattle.leaf_search.specs.FileRanges.{AreRangesOf, total}
use Rattle.leaf_search.specs.Needs.{NeedsBlocks}
use Rattle.leaf_search.specs.Shown.{AreFew, NeedsListed, NeedsShown, NeedsStarts, are_few}
use Rattle.leaf_search.specs.declared.file_ranges.FileRange.{FileRange}
use Rattle.leaf_search.specs.declared.request.LeafRequest.{LeafRequest}
use Rattle.split_bundle.specs.Files.{Parts, file_bytes, footer_bytes}
use Rattle.split_bundle.specs.declared.footer.Footer.{Footer}
use Rattle.split_bundle.specs.declared.part_view.PartView.{PartView}
use Rattle.split_bundle.specs.declared.placed.Placed.{Placed}
use Rattle.split_bundle.specs.declared.split_error.SplitError.{SplitError}
use Rattle.split_bundle.specs.declared.split_error.SplitError.TheVariants as splits
use Rattle.root_search.specs.Goes.{GoesBy}
use Rattle.root_search.specs.Recorded.{AreRecorded}
use Rattle.root_search.specs.FetchedSplits.{HasNeeded, HoldsBlocks, IsFooterIn, over, pieces_at}
use Rattle.root_search.specs.Steps.{Passage, fetched_at, ArePassed}
use Rattle.root_search.specs.declared.fetched_splits.FetchedSplit.{FetchedSplit}
use Rattle.root_search.specs.declared.fetched_splits.KeptPiece.{KeptPiece}
use Rattle.root_search.specs.declared.fetching.FetchError.{FetchError}
use Rattle.root_search.specs.declared.fetching.FetchError.TheVariants.{Memory, World, Corrupt}
use Rattle.root_search.specs.declared.fetching.ShownStarts.{ShownStarts}

-- as long as the moment is below this one the file of the planned row at a place stands with these bytes, of which the row knows
-- how many they are
pub record IsFileAt (core : Core) (until : ℕ) (plan : Plan) (place : ℕ) (bytes : List ℕ) : Type 0 where
  pub row : PlanRow
  pub stands : slice_get plan.rows place ≡ Some row
  pub planned : IsPlannedIn core until row.number bytes
  pub size : row.size ≡ length bytes

-- what is answered of so many fetches that drew so many bytes, and the answer of the last one
abbrev pub SaysFetched : {A : Type 0} → (A → ℕ → ℕ → Type 0) → ℕ → ℕ → Result A FetchError → Result ⊤ Trouble → Type 0
SaysFetched holds many drawn (Ok a) answer = (answer ≡ Ok tt) × holds a many drawn
SaysFetched holds many drawn (Err (World error)) answer = (trouble : Trouble) × (answer ≡ Err trouble) × IsTrouble error trouble
SaysFetched holds many drawn (Err (Memory e)) answer = ⊤
SaysFetched holds many drawn (Err Corrupt) answer = ⊥

-- Fetches of the file with a number were made one after another, with what other actors did before each, and the gate recorded them as
-- its own. By so many bytes at most the count of those that were fetched through the gate rose, and this holds of what was fetched,
-- of the number of fetches and of these bytes.
pub record FetchesAs {W A : Type 0} (grace : Grace) (number : ℕ) (Stands : W → Core → Log → Type 0) (Between : Core → Core → Type 0) (Adds : W → List CallMade → W → Type 0) (bytes_fetched : W → ℕ)
    (holds : A → ℕ → ℕ → Type 0) (result : Result A FetchError) (core : Core) (log : Log) (old new : W) : Type 0 where
  pub passages : List Passage
  pub passed : ArePassed grace Between core passages
  pub answer : Result ⊤ Trouble
  pub after : Core
  pub did : fetched_at grace core passages ≡ gives answer after
  pub drawn : ℕ
  pub count : bytes_fetched new ≤ bytes_fetched old + drawn
  pub says : SaysFetched holds (length passages) drawn result answer
  pub goes_on : GoesBy Between core after
  pub stands : Stands new after log
  pub made : List CallMade
  pub own : Adds old made new
  pub recorded : AreRecorded grace number passages made

-- so many bytes of the file from a place on, as far as it has them, in one fetch
pub record IsPieceFetched (bytes : List ℕ) (from len : ℕ) (piece : KeptPiece) (many drawn : ℕ) : Type 0 where
  pub start : piece.start ≡ min from (length bytes)
  pub bytes_are : piece.bytes ≡ take len (drop from bytes)
  pub once : many ≡ 1
  pub few : drawn ≤ len

-- ranges of the file behind other pieces, each in one fetch
pub record AreRangesFetched (bytes : List ℕ) (ranges : List FileRange) (old new : List KeptPiece) (many drawn : ℕ) : Type 0 where
  pub pieces : new ≡ old ++ pieces_at bytes ranges
  pub each : many ≡ length ranges
  pub few : drawn ≤ total ranges

-- ---- the footer

-- a footer that isn't known takes two fetches
abbrev pub footer_calls : Option Footer → ℕ
footer_calls None = 2
footer_calls (Some footer) = 0

-- of its bytes and of those that stand behind it
abbrev pub footer_drawn : Option Footer → Parts → ℕ
footer_drawn None p = length (footer_bytes p) + 12
footer_drawn (Some footer) p = 0

-- the footer of a split, which was known or not
pub record IsFooterFetched (known : Option Footer) (p : Parts) (footer : Footer) (many drawn : ℕ) : Type 0 where
  pub is_footer : IsFooterIn (file_bytes p) footer
  pub calls : many ≡ footer_calls known
  pub few : drawn ≤ footer_drawn known p

-- ---- what a request needs of a split

-- the dictionary's blocks, each in one fetch
pub record AreBlocksFetched (s : Schema) (r : LeafRequest) (documents : List Placed) (p : Parts) (footer : Footer) (pieces : List KeptPiece) (many drawn : ℕ) : Type 0 where
  pub held : HoldsBlocks s r documents p footer pieces
  pub each : many ≡ length pieces
  pub few : drawn ≤ total held.blocks

-- behind them the lists and the columns, each in one fetch
pub record AreListsFetched (s : Schema) (r : LeafRequest) (documents : List Placed) (p : Parts) (footer : Footer) (blocks pieces : List KeptPiece) (many drawn : ℕ) : Type 0 where
  pub lists : List FileRange
  pub are_lists : AreRangesOf (NeedsListed (over footer) s documents p r) lists
  pub pieces_are : pieces ≡ blocks ++ pieces_at (file_bytes p) lists
  pub each : many ≡ length lists
  pub few : drawn ≤ total lists

-- what is named of the documents that may be shown: their numbers, where they are few, and the ranges of their starts, or else of the
-- section of documents
pub record AreStartsNamed (v : PartView) (s : Schema) (r : LeafRequest) (documents : List Placed) (named : ShownStarts) : Type 0 where
  pub few : MatchOption named.few (are_few s r documents ≡ false) (λ ns. AreFew s r documents ns.items)
  pub starts : AreRangesOf (NeedsStarts v s documents r) named.starts

-- behind the lists and the columns these, and then the bytes of the few documents that may be shown, each in one fetch
pub record AreShownFetched (s : Schema) (r : LeafRequest) (documents : List Placed) (p : Parts) (footer : Footer) (listed pieces : List KeptPiece) (many drawn : ℕ) : Type 0 where
  pub starts : List FileRange
  pub shown : List FileRange
  pub are_starts : AreRangesOf (NeedsStarts (over footer) s documents r) starts
  pub are_shown : AreRangesOf (NeedsShown s documents p r) shown
  pub pieces_are : pieces ≡ listed ++ pieces_at (file_bytes p) (starts ++ shown)
  pub each : many ≡ length starts + length shown
  pub few : drawn ≤ total starts + total shown

-- so few bytes are those of the footer, if it wasn't known, and of the ranges that a request needs
pub record DrawsNeeded (s : Schema) (r : LeafRequest) (known : Option Footer) (documents : List Placed) (p : Parts) (footer : Footer) (drawn : ℕ) : Type 0 where
  pub blocks : List FileRange
  pub listed : List FileRange
  pub starts : List FileRange
  pub shown : List FileRange
  pub are_blocks : AreRangesOf (NeedsBlocks (over footer) s documents p r) blocks
  pub are_listed : AreRangesOf (NeedsListed (over footer) s documents p r) listed
  pub are_starts : AreRangesOf (NeedsStarts (over footer) s documents r) starts
  pub are_shown : AreRangesOf (NeedsShown s documents p r) shown
  pub few : drawn ≤ footer_drawn known p + (total blocks + total listed + (total starts + total shown))

-- what a request needs of a split was fetched, and no more
pub record IsPartFetched (s : Schema) (r : LeafRequest) (known : Option Footer) (documents : List Placed) (p : Parts) (calls : FetchedSplit → ℕ) (part : FetchedSplit) (many drawn : ℕ) : Type 0 where
  pub needed : HasNeeded s r part documents
  pub footer : IsFooterIn (file_bytes p) part.footer
  pub calls_are : many ≡ calls part
  pub draws : DrawsNeeded s r known documents p part.footer drawn

-- each piece takes one fetch, and the footer those that it takes
abbrev pub needed_calls : Option Footer → FetchedSplit → ℕ
needed_calls known part = footer_calls known + length part.pieces

-- where there is none of these, one is made all the same
abbrev pub part_calls : Option Footer → FetchedSplit → ℕ
part_calls known part = max 1 (needed_calls known part)

-- the part that is there already, by one fetch of no byte
pub record IsLooked (part given : FetchedSplit) (many drawn : ℕ) : Type 0 where
  pub same : given ≡ part
  pub once : many ≡ 1
  pub none : drawn ≤ 0

-- ---- faults

-- want of memory
abbrev pub IsWant : SplitError → Type 0
IsWant (splits.Memory e) = ⊤
IsWant (splits.Truncated at) = ⊥
IsWant splits.BadMagic = ⊥
IsWant (splits.BadSection number) = ⊥
IsWant (splits.BadVersion number) = ⊥

-- nothing but want of memory
abbrev pub WantsRoom : FetchError → Type 0
WantsRoom (Memory e) = ⊤
WantsRoom (World error) = ⊥
WantsRoom Corrupt = ⊥
