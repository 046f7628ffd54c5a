-- What the calls of a gate gave that fetch of a planned row's file, whatever the gate tells, and what is read of it.
use Rattle.std.specs.Prelude.{◌≡◌, ◌⊎◌, ℕ, ◌-◌, List, [], ◌∷◌, ◌++◌, map, min, Option, Some, None, Result, Ok, Err, IsErr, IsOk, ⊤, slice_get}
use Rattle.std.specs.List.{AllByRecursion}
use Rattle.index_config.specs.declared.config.IndexConfig.{IndexConfig}
use Rattle.index_world.specs.Answering.{Answered, fetch_answered}
use Rattle.index_world.specs.Asked as asked
use Rattle.index_world.specs.Asked.{Behind, FetchesFile}
use Rattle.index_world.specs.Calls.{fetched_from}
use Rattle.index_world.specs.CallsMade.{CallMade, of_fetch}
use Rattle.index_world.specs.Core.{Core, IsConfigured}
use Rattle.index_world.specs.Gate.{Does, IsPieceGiven, IsUnfetched, fetched_more, grace_of}
use Rattle.index_world.specs.declared.tokens.Plan.{Plan}
use Rattle.index_world.specs.declared.world_error.WorldError.{WorldError}
use Rattle.meta_store.specs.declared.planning.PlanRow.{PlanRow}
use Rattle.meta_journal.specs.Places.{split_key}
use Rattle.object_store.specs.Store.{State, WhereTold}
use Rattle.object_store.specs.declared.store.Piece.{Piece}
use Rattle.source_log.specs.Log.{Log}
use Rattle.split_bundle.specs.Reading.{Held, footer_of}
use Rattle.split_bundle.specs.Views.{held}
use Rattle.split_bundle.specs.declared.footer.Footer.{Footer}
use Rattle.split_bundle.specs.declared.split_error.SplitError.{SplitError}
use Rattle.split_bundle.specs.declared.split_error.SplitError.TheVariants as splits
use Rattle.root_search.specs.declared.fetched_splits.FetchedSplit.{FetchedSplit}
use Rattle.root_search.specs.declared.fetched_splits.KeptPiece.{KeptPiece}
use Rattle.root_search.specs.declared.fetching.FetchError.{FetchError}
use Rattle.root_search.specs.declared.fetching.FetchError.TheVariants.{Memory, World, Corrupt}

-- ---- calls

-- one fetch: what was asked for, and what was answered
pub record FetchCall : Type 0 where
  pub from : ℕ
  pub len : ℕ
  pub answer : Result Piece WorldError

-- What a gate says of a fetch between two of its states: its call answered so. By what it gave the count of fetched bytes rose. Over every store an error is want of memory,
-- a fault of the store, Missing with the key of the row's file, or Expired with the plan's moment. Over a store that tells, what it gave is of what
-- stands under that key behind what others did, and Missing comes exactly where nothing does. And where it stands for a core, it gave what stands
-- there, or it met no file, or it came too late.
pub record IsFetch {W : Type 0} (Stands : W → Core → Log → Type 0) (Between : Core → Core → Type 0) (Owns : W → ℕ → Type 0) (Adds : W → List CallMade → W → Type 0) (bytes_fetched : W → ℕ) (told : W → Option State) (Answers : W → Answered → W → Type 0) (plan : Plan) (place : ℕ) (old : W) (call : FetchCall) (new : W) : Type 0 where
  pub counts : bytes_fetched new ≡ fetched_more call.answer (bytes_fetched old)
  pub answered : (row : PlanRow) → slice_get plan.rows place ≡ Some row → Answers old (fetch_answered row.number plan.moment call.from call.len call.answer) new
  pub kinds : (row : PlanRow) → slice_get plan.rows place ≡ Some row → asked.IsFetch (split_key row.number) plan.moment call.answer
  pub answers : (row : PlanRow) → slice_get plan.rows place ≡ Some row → WhereTold (told old) (told new) (Behind (FetchesFile (split_key row.number) call.from call.len call.answer))
  pub step : (core : Core) (log : Log) (config : IndexConfig) (row : PlanRow) → Stands old core log → IsConfigured config core → slice_get plan.rows place ≡ Some row
      → Does Stands Between Owns Adds None (of_fetch row.number call.from call.len) (fetched_from (grace_of config plan) row.number) IsUnfetched (IsPieceGiven row.number call.from call.len) call.answer core log old new

-- fetches one after another
abbrev pub AreFetches : {W : Type 0} → (W → Core → Log → Type 0) → (Core → Core → Type 0) → (W → ℕ → Type 0) → (W → List CallMade → W → Type 0) → (W → ℕ) → (W → Option State) → (W → Answered → W → Type 0) → Plan → ℕ → W → List FetchCall → W → Type 0
AreFetches Stands Between Owns Adds bytes_fetched told Answers plan place old [] new = new ≡ old
AreFetches {W} Stands Between Owns Adds bytes_fetched told Answers plan place old (call ∷ more) new = (mid : W) × IsFetch Stands Between Owns Adds bytes_fetched told Answers plan place old call mid × AreFetches Stands Between Owns Adds bytes_fetched told Answers plan place mid more new

abbrev pub gave : ℕ → ℕ → Piece → FetchCall
gave from len piece = record { from = from; len = len; answer = Ok piece }

-- the call gave bytes
abbrev pub HasGiven : FetchCall → Type 0
HasGiven call = IsOk call.answer

-- the last call answered this fault, and each one before it gave bytes
pub record HaveFailed (error : WorldError) (calls : List FetchCall) : Type 0 where
  pub before : List FetchCall
  pub last : FetchCall
  pub calls_are : calls ≡ before ++ last ∷ []
  pub given : AllByRecursion HasGiven before
  pub failed : last.answer ≡ Err error

-- ---- what is answered over them

-- What is answered of some calls: something that holds of what they gave; or the fault of the last one; or want of memory; or that the bytes
-- are not of a split's form, where what they gave is refused.
abbrev pub SaysRead : {A : Type 0} → (A → List FetchCall → Type 0) → (List FetchCall → Type 0) → Result A FetchError → List FetchCall → Type 0
SaysRead holds refused (Ok a) calls = AllByRecursion HasGiven calls × holds a calls
SaysRead holds refused (Err (World error)) calls = HaveFailed error calls
SaysRead holds refused (Err (Memory e)) calls = AllByRecursion HasGiven calls
SaysRead holds refused (Err Corrupt) calls = AllByRecursion HasGiven calls × refused calls

-- some calls were made one after another, and this is answered over what they gave
pub record ReadsAs {W A : Type 0} (Stands : W → Core → Log → Type 0) (Between : Core → Core → Type 0) (Owns : W → ℕ → Type 0) (Adds : W → List CallMade → W → Type 0) (bytes_fetched : W → ℕ) (told : W → Option State) (Answers : W → Answered → W → Type 0) (plan : Plan) (place : ℕ) (holds : A → List FetchCall → Type 0) (refused : List FetchCall → Type 0)
    (result : Result A FetchError) (old new : W) : Type 0 where
  pub calls : List FetchCall
  pub are : AreFetches Stands Between Owns Adds bytes_fetched told Answers plan place old calls new
  pub says : SaysRead holds refused result calls

-- nothing refuses what was given
abbrev pub NeverRefused : List FetchCall → Type 0
NeverRefused calls = ⊥

-- want of memory, or bytes that are refused, where this holds
abbrev pub IsFaultWhere : Type 0 → FetchError → Type 0
IsFaultWhere refused (Memory e) = ⊤
IsFaultWhere refused (World error) = ⊥
IsFaultWhere refused Corrupt = refused

-- ---- pieces

-- what is kept of a call's bytes
abbrev pub kept_by : ℕ → Result Piece WorldError → KeptPiece
kept_by from (Ok piece) = record { start = min from piece.size; bytes = piece.bytes }
kept_by from (Err error) = record { start = from; bytes = [] }

abbrev pub kept_of : FetchCall → KeptPiece
kept_of call = kept_by call.from call.answer

-- one call for so many bytes from a place on gave what is kept
pub record IsPieceRead (from len : ℕ) (kept : KeptPiece) (calls : List FetchCall) : Type 0 where
  pub piece : Piece
  pub calls_are : calls ≡ gave from len piece ∷ []
  pub kept_is : kept ≡ kept_by from (Ok piece)

-- what the calls gave is kept behind other pieces
abbrev pub AreKeptBehind : List KeptPiece → List KeptPiece → List FetchCall → Type 0
AreKeptBehind old new calls = new ≡ old ++ map kept_of calls

-- ---- the footer, over any bytes

-- where the footer starts, by what is read of the bytes behind it: there the bytes are missing
abbrev pub start_of : Result Held SplitError → Option ℕ
start_of (Ok footer) = None
start_of (Err (splits.Memory e)) = None
start_of (Err (splits.Truncated at)) = Some at
start_of (Err splits.BadMagic) = None
start_of (Err (splits.BadSection number)) = None
start_of (Err (splits.BadVersion number)) = None

-- the end of a file of so many bytes from the start of its footer on, in two calls: the trailer, and then what stands in front of it
pub record IsEndGiven (size : ℕ) (calls : List FetchCall) : Type 0 where
  pub trailer : Piece
  pub front : Piece
  pub start : ℕ
  pub calls_are : calls ≡ gave (size - 12) 12 trailer ∷ gave start (size - 12 - start) front ∷ []
  pub starts : start_of (footer_of size trailer.bytes) ≡ Some start

-- what is read of the bytes of both
abbrev pub read_of : (size : ℕ) (calls : List FetchCall) → IsEndGiven size calls → Result Held SplitError
read_of size calls end = footer_of size (end.front.bytes ++ end.trailer.bytes)

-- this footer was known, and there was no call, or it is read of what two calls gave
abbrev pub IsFooterGiven : Option Footer → ℕ → Footer → List FetchCall → Type 0
IsFooterGiven (Some known) size footer calls = (footer ≡ known) × (calls ≡ [])
IsFooterGiven None size footer calls = (end : IsEndGiven size calls) × (read_of size calls end ≡ Ok (held footer))

-- the trailer says no place where a footer starts
pub record HasNoStart (size : ℕ) (calls : List FetchCall) : Type 0 where
  pub trailer : Piece
  pub calls_are : calls ≡ gave (size - 12) 12 trailer ∷ []
  pub none : start_of (footer_of size trailer.bytes) ≡ None

-- no footer was known, and of what one call or two gave none is read
abbrev pub IsNoFooter : Option Footer → ℕ → List FetchCall → Type 0
IsNoFooter (Some known) size calls = ⊥
IsNoFooter None size calls = HasNoStart size calls ⊎ ((end : IsEndGiven size calls) × IsErr (read_of size calls end))

-- ---- what a request needs of a split, over any bytes

-- The part of a row: the footer, and behind it exactly the pieces that further calls gave; then, it may be, calls for no byte.
pub record IsPartRead (known : Option Footer) (number size : ℕ) (part : FetchedSplit) (calls : List FetchCall) : Type 0 where
  pub footer_calls : List FetchCall
  pub piece_calls : List FetchCall
  pub looks : List FetchCall
  pub calls_are : calls ≡ footer_calls ++ (piece_calls ++ looks)
  pub footer_given : IsFooterGiven known size part.footer footer_calls
  pub pieces_are : part.pieces ≡ map kept_of piece_calls
  pub number_is : part.number ≡ number
  pub no_bytes : AllByRecursion (λ call. call.len ≡ 0) looks

-- the part that is there already, by one call for no byte
pub record IsPartLooked (part given : FetchedSplit) (calls : List FetchCall) : Type 0 where
  pub same : given ≡ part
  pub no_bytes : AllByRecursion (λ call. call.len ≡ 0) calls

-- a footer was known or given, and further calls may have been made
pub record HasFooterAhead (known : Option Footer) (size : ℕ) (calls : List FetchCall) : Type 0 where
  pub footer : Footer
  pub footer_calls : List FetchCall
  pub rest : List FetchCall
  pub calls_are : calls ≡ footer_calls ++ rest
  pub footer_given : IsFooterGiven known size footer footer_calls

-- no footer was read of what was given, or one was, and what is read behind it was refused
abbrev pub IsNoPart : Option Footer → ℕ → List FetchCall → Type 0
IsNoPart known size calls = IsNoFooter known size calls ⊎ HasFooterAhead known size calls
