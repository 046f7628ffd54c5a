-- Calls of a gate that follow one another, and what is answered over what they gave.
use Rattle.std.proofs.Common.{◌≡◌, ℕ, ◌-◌, List, [], ◌∷◌, ◌++◌, map, refl, sym, ap, ◌∙◌, subst, append_assoc, Option, Some, None, Result, Ok, Err, IsErrAnd, MatchResult}
use Rattle.std.specs.List.{AllByRecursion}
use Rattle.std.proofs.lemmas.List.{map-append}
use Rattle.source_log.specs.Log.{Log}
use Rattle.index_world.specs.Answering.{Answered}
use Rattle.index_world.specs.CallsMade.{CallMade}
use Rattle.index_world.specs.Core.{Core}
use Rattle.index_world.specs.declared.tokens.Plan.{Plan}
use Rattle.index_world.specs.declared.world_error.WorldError.{WorldError}
use Rattle.object_store.specs.Store.{State}
use Rattle.object_store.specs.declared.store.Piece.{Piece}
use Rattle.split_bundle.specs.Reading.{footer_of}
use Rattle.split_bundle.specs.declared.footer.Footer.{Footer}
use Rattle.root_search.specs.FetchCalls.{AreFetches, AreKeptBehind, FetchCall, HasGiven, HasNoStart, HaveFailed, IsEndGiven, IsFaultWhere, IsFetch, IsPartLooked, IsPartRead, IsPieceRead, NeverRefused, ReadsAs, SaysRead, gave, kept_by, kept_of, read_of, start_of}
use Rattle.root_search.specs.declared.fetched_splits.FetchedSplit.{FetchedSplit}
use Rattle.root_search.specs.declared.fetched_splits.KeptPiece.{KeptPiece}
use Rattle.root_search.specs.declared.fetching.FetchError.{FetchError}
use Rattle.root_search.specs.declared.fetching.FetchError.TheVariants.{Memory, World, Corrupt}

-- ---- calls behind others

pub given_more : (P : FetchCall → Type 0) (xs ys : List FetchCall) → AllByRecursion P xs → AllByRecursion P ys → AllByRecursion P (xs ++ ys)
given_more P [] ys a b = b
given_more P (x ∷ xs) ys a b = (a.0, given_more P xs ys a.1 b)

pub failed_more : (error : WorldError) (xs ys : List FetchCall) → AllByRecursion HasGiven xs → HaveFailed error ys → HaveFailed error (xs ++ ys)
failed_more error xs ys a f =
    record {
      before = xs ++ f.before;
      last = f.last;
      calls_are = ap (λ (l : List FetchCall). xs ++ l) f.calls_are ∙ sym (append_assoc xs f.before (f.last ∷ []));
      given = given_more HasGiven xs f.before a f.given;
      failed = f.failed;
    }

module _ {W : Type 0} (Stands : W → Core → Log → Type 0) (Between : Core → Core → Type 0) (Owns : W → ℕ → Type 0) (Adds : W → List CallMade → W → Type 0) (bytes_fetched : W → ℕ) (told : W → Option State) (Answers : W → Answered → W → Type 0) (plan : Plan) (place : ℕ) where
  pub fetches_more : (xs ys : List FetchCall) (old mid new : W) → AreFetches Stands Between Owns Adds bytes_fetched told Answers plan place old xs mid → AreFetches Stands Between Owns Adds bytes_fetched told Answers plan place mid ys new → AreFetches Stands Between Owns Adds bytes_fetched told Answers plan place old (xs ++ ys) new
  fetches_more [] ys old mid new a b = subst (λ (w : W). AreFetches Stands Between Owns Adds bytes_fetched told Answers plan place w ys new) a b
  fetches_more (x ∷ xs) ys old mid new a b = (a.0, a.1, fetches_more xs ys a.0 mid new a.2 b)

  -- ---- calls that all gave bytes

  pub record AllGave (calls : List FetchCall) (old new : W) : Type 0 where
    pub are : AreFetches Stands Between Owns Adds bytes_fetched told Answers plan place old calls new
    pub given : AllByRecursion HasGiven calls

  pub none_called : (old : W) → AllGave [] old old
  none_called old = record { are = refl; given = tt }

  pub all_more : (xs ys : List FetchCall) (old mid new : W) → AllGave xs old mid → AllGave ys mid new → AllGave (xs ++ ys) old new
  all_more xs ys old mid new a b = record { are = fetches_more xs ys old mid new a.are b.are; given = given_more HasGiven xs ys a.given b.given }

  -- those of what was answered well
  pub all_of : {A : Type 0} (holds : A → List FetchCall → Type 0) (refused : List FetchCall → Type 0) (a : A) (old new : W) → (f : ReadsAs Stands Between Owns Adds bytes_fetched told Answers plan place holds refused (Ok a) old new) → AllGave f.calls old new
  all_of holds refused a old new f = record { are = f.are; given = f.says.0 }

  pub read_well : {A : Type 0} (holds : A → List FetchCall → Type 0) (refused : List FetchCall → Type 0) (a : A) (calls : List FetchCall) (old new : W) → AllGave calls old new → holds a calls → ReadsAs Stands Between Owns Adds bytes_fetched told Answers plan place holds refused (Ok a) old new
  read_well holds refused a calls old new g h = record { calls = calls; are = g.are; says = (g.given, h) }

  -- what they gave is refused, or no memory is found behind them
  pub read_ill : {A : Type 0} (holds : A → List FetchCall → Type 0) (refused : List FetchCall → Type 0) (r : Result A FetchError) (e : FetchError) (calls : List FetchCall) (old new : W) → AllGave calls old new → IsErrAnd r (λ y. y ≡ e) → IsFaultWhere (refused calls) e
      → ReadsAs Stands Between Owns Adds bytes_fetched told Answers plan place holds refused r old new
  read_ill holds refused (Ok a) e calls old new g h f = absurd h
  read_ill holds refused (Err y) e calls old new g h f = record { calls = calls; are = g.are; says = by y (subst (IsFaultWhere (refused calls)) (sym h) f) }
    where
      by : (z : FetchError) → IsFaultWhere (refused calls) z → SaysRead holds refused (Err z) calls
      by (Memory m) w = g.given
      by (World error) w = absurd w
      by Corrupt w = (g.given, w)

  -- what is made of what they gave
  pub read_match : {A : Type 0} (good : A → Type 0) (holds : A → List FetchCall → Type 0) (refused : List FetchCall → Type 0) (P : Type 0) (r : Result A FetchError) (calls : List FetchCall) (old new : W) → AllGave calls old new
      → MatchResult r good (IsFaultWhere P) → ((a : A) → good a → holds a calls) → (P → refused calls) → ReadsAs Stands Between Owns Adds bytes_fetched told Answers plan place holds refused r old new
  read_match good holds refused P (Ok a) calls old new g m well ill = read_well holds refused a calls old new g (well a m)
  read_match good holds refused P (Err e) calls old new g m well ill = read_ill holds refused (Err e) e calls old new g refl (by e m)
    where
      by : (z : FetchError) → IsFaultWhere P z → IsFaultWhere (refused calls) z
      by (Memory m) w = tt
      by (World error) w = absurd w
      by Corrupt w = ill w

  -- further calls behind them, with what is said of these
  pub then_read : {A : Type 0} (first holds : A → List FetchCall → Type 0) (one two : List FetchCall → Type 0) (r : Result A FetchError) (xs : List FetchCall) (old mid new : W) → AllGave xs old mid → ((a : A) (ys : List FetchCall) → first a ys → holds a (xs ++ ys))
      → ((ys : List FetchCall) → one ys → two (xs ++ ys)) → ReadsAs Stands Between Owns Adds bytes_fetched told Answers plan place first one r mid new → ReadsAs Stands Between Owns Adds bytes_fetched told Answers plan place holds two r old new
  then_read first holds one two r xs old mid new g well ill f = record { calls = xs ++ f.calls; are = fetches_more xs f.calls old mid new g.are f.are; says = by r f.says }
    where
      by : (q : Result _ FetchError) → SaysRead first one q f.calls → SaysRead holds two q (xs ++ f.calls)
      by (Ok a) s = (given_more HasGiven xs f.calls g.given s.0, well a f.calls s.1)
      by (Err (World error)) s = failed_more error xs f.calls g.given s
      by (Err (Memory m)) s = given_more HasGiven xs f.calls g.given s
      by (Err Corrupt) s = (given_more HasGiven xs f.calls g.given s.0, ill f.calls s.1)

  -- a fault of further calls that is handed on
  pub then_lost : {A B : Type 0} (first : A → List FetchCall → Type 0) (holds : B → List FetchCall → Type 0) (one two : List FetchCall → Type 0) (e : FetchError) (r : Result B FetchError) (xs : List FetchCall) (old mid new : W) → AllGave xs old mid → IsErrAnd r (λ y. y ≡ e)
      → ((ys : List FetchCall) → one ys → two (xs ++ ys)) → ReadsAs Stands Between Owns Adds bytes_fetched told Answers plan place first one (Err e) mid new → ReadsAs Stands Between Owns Adds bytes_fetched told Answers plan place holds two r old new
  then_lost first holds one two e (Ok b) xs old mid new g h ill f = absurd h
  then_lost first holds one two e (Err y) xs old mid new g h ill f =
      record { calls = xs ++ f.calls; are = fetches_more xs f.calls old mid new g.are f.are; says = by y (subst (λ (z : FetchError). SaysRead first one (Err z) f.calls) (sym h) f.says) }
    where
      by : (z : FetchError) → SaysRead first one (Err z) f.calls → SaysRead holds two (Err z) (xs ++ f.calls)
      by (World error) s = failed_more error xs f.calls g.given s
      by (Memory m) s = given_more HasGiven xs f.calls g.given s
      by Corrupt s = (given_more HasGiven xs f.calls g.given s.0, ill f.calls s.1)

  pub then_all : {A : Type 0} (holds : A → List FetchCall → Type 0) (refused : List FetchCall → Type 0) (a : A) (xs : List FetchCall) (old mid new : W) → AllGave xs old mid → (f : ReadsAs Stands Between Owns Adds bytes_fetched told Answers plan place holds refused (Ok a) mid new) → AllGave (xs ++ f.calls) old new
  then_all holds refused a xs old mid new g f = all_more xs f.calls old mid new g (all_of holds refused a mid new f)

  -- ---- one call

  pub one_gave : (from len : ℕ) (kept : KeptPiece) (piece : Piece) (old new : W) → IsFetch Stands Between Owns Adds bytes_fetched told Answers plan place old (gave from len piece) new → kept ≡ kept_by from (Ok piece)
      → ReadsAs Stands Between Owns Adds bytes_fetched told Answers plan place (IsPieceRead from len) NeverRefused (Ok kept) old new
  one_gave from len kept piece old new f same = record { calls = gave from len piece ∷ []; are = (new, f, refl); says = ((refl, tt), record { piece = piece; calls_are = refl; kept_is = same }) }

  pub one_lost : (from len : ℕ) (error : WorldError) (old new : W) → IsFetch Stands Between Owns Adds bytes_fetched told Answers plan place old (record { from = from; len = len; answer = Err error }) new
      → ReadsAs Stands Between Owns Adds bytes_fetched told Answers plan place (IsPieceRead from len) NeverRefused (Err (World error)) old new
  one_lost from len error old new f =
      record { calls = record { from = from; len = len; answer = Err error } ∷ []; are = (new, f, refl); says = record { before = []; last = record { from = from; len = len; answer = Err error }; calls_are = refl; given = tt; failed = refl } }

-- ---- pieces

pub kept_further : (old mid new : List KeptPiece) (xs ys : List FetchCall) → AreKeptBehind old mid xs → AreKeptBehind mid new ys → AreKeptBehind old new (xs ++ ys)
kept_further old mid new xs ys a b =
    b ∙ (ap (λ (l : List KeptPiece). l ++ map kept_of ys) a ∙ (append_assoc old (map kept_of xs) (map kept_of ys) ∙ ap (λ (l : List KeptPiece). old ++ l) (sym (map-append kept_of xs ys))))

-- one more piece is kept
pub piece_kept : (old pieces new : List KeptPiece) (from len : ℕ) (piece : KeptPiece) (xs ys : List FetchCall) → AreKeptBehind old pieces xs → IsPieceRead from len piece ys → new ≡ pieces ++ piece ∷ [] → AreKeptBehind old new (xs ++ ys)
piece_kept old pieces new from len piece xs ys a p e =
    kept_further old pieces new xs ys a (e ∙ (ap (λ (k : KeptPiece). pieces ++ k ∷ []) p.kept_is ∙ ap (λ (l : List FetchCall). pieces ++ map kept_of l) (sym p.calls_are)))

-- ---- a footer

pub fault_where : (P Q : Type 0) (e : FetchError) → (P → Q) → IsFaultWhere P e → IsFaultWhere Q e
fault_where P Q (Memory m) f w = tt
fault_where P Q (World error) f w = w
fault_where P Q Corrupt f w = f w

bytes_are : (from : ℕ) (kept : KeptPiece) (piece : Piece) (slice : List ℕ) → kept ≡ kept_by from (Ok piece) → slice ≡ kept.bytes → slice ≡ piece.bytes
bytes_are from kept piece slice same e = e ∙ ap (λ (k : KeptPiece). k.bytes) same

pub no_start : (size end : ℕ) (trailer : KeptPiece) (slice : List ℕ) (calls : List FetchCall) → end ≡ size - 12 → IsPieceRead end 12 trailer calls → slice ≡ trailer.bytes → start_of (footer_of size slice) ≡ None → HasNoStart size calls
no_start size end trailer slice calls at p e none =
    record {
      trailer = p.piece;
      calls_are = p.calls_are ∙ ap (λ (n : ℕ). gave n 12 p.piece ∷ []) at;
      none = ap (λ (l : List ℕ). start_of (footer_of size l)) (sym (bytes_are end trailer p.piece slice p.kept_is e)) ∙ none;
    }

two_calls : (end twelve start len : ℕ) (trailer front : Piece) (xs ys : List FetchCall) → end ≡ twelve → len ≡ end - start → xs ≡ gave end 12 trailer ∷ [] → ys ≡ gave start len front ∷ [] → xs ++ ys ≡ gave twelve 12 trailer ∷ gave start (twelve - start) front ∷ []
two_calls end twelve start len trailer front xs ys at long one two =
    ap (λ (l : List FetchCall). l ++ ys) one ∙ (ap (λ (l : List FetchCall). gave end 12 trailer ∷ l) (two ∙ ap (λ (n : ℕ). gave start n front ∷ []) long) ∙ ap (λ (n : ℕ). gave n 12 trailer ∷ gave start (n - start) front ∷ []) at)

-- two calls gave the end of a file, of which this is read
pub end_given : (size end start len : ℕ) (trailer front : KeptPiece) (slice rest tail : List ℕ) (xs ys : List FetchCall) → end ≡ size - 12 → len ≡ end - start → IsPieceRead end 12 trailer xs → IsPieceRead start len front ys → slice ≡ trailer.bytes → rest ≡ trailer.bytes
    → start_of (footer_of size slice) ≡ Some start → tail ≡ front.bytes ++ rest → (given : IsEndGiven size (xs ++ ys)) × (read_of size (xs ++ ys) given ≡ footer_of size tail)
end_given size end start len trailer front slice rest tail xs ys at long one two e f starts whole =
    let front_are : front.bytes ≡ two.piece.bytes = ap (λ (k : KeptPiece). k.bytes) two.kept_is in
    let rest_are : rest ≡ one.piece.bytes = bytes_are end trailer one.piece rest one.kept_is f in (
      record {
        trailer = one.piece;
        front = two.piece;
        start = start;
        calls_are = two_calls end (size - 12) start len one.piece two.piece xs ys at long one.calls_are two.calls_are;
        starts = ap (λ (l : List ℕ). start_of (footer_of size l)) (sym (bytes_are end trailer one.piece slice one.kept_is e)) ∙ starts;
      },
      ap (footer_of size) (sym (whole ∙ (ap (λ (l : List ℕ). l ++ rest) front_are ∙ ap (λ (l : List ℕ). two.piece.bytes ++ l) rest_are))),
    )

-- ---- a part

-- calls for no byte behind a part
pub part_looked : (known : Option Footer) (number size : ℕ) (part given : FetchedSplit) (xs ys : List FetchCall) → IsPartRead known number size part xs → IsPartLooked part given ys → IsPartRead known number size given (xs ++ ys)
part_looked known number size part given xs ys p l =
    subst (λ (x : FetchedSplit). IsPartRead known number size x (xs ++ ys)) (sym l.same)
    (record {
      footer_calls = p.footer_calls;
      piece_calls = p.piece_calls;
      looks = p.looks ++ ys;
      calls_are = ap (λ (c : List FetchCall). c ++ ys) p.calls_are ∙ (append_assoc p.footer_calls (p.piece_calls ++ p.looks) ys ∙ ap (λ (c : List FetchCall). p.footer_calls ++ c) (append_assoc p.piece_calls p.looks ys));
      footer_given = p.footer_given;
      pieces_are = p.pieces_are;
      number_is = p.number_is;
      no_bytes = given_more (λ call. call.len ≡ 0) p.looks ys p.no_bytes l.no_bytes;
    })
