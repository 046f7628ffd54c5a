-- Fetches that follow one another.
use Rattle.std.proofs.Common.{◌≡◌, ℕ, ◌+◌, ◌≤◌, ◌<◌, min, List, [], ◌∷◌, ◌++◌, length, take, drop, refl, sym, ap, ◌∙◌, subst, arith, None, Result, Ok, Err, IsErrAnd, MatchResult, length-append, length-take}
use Rattle.std.specs.Prelude.{⊤}
use Rattle.std.proofs.lemmas.List.{append-nil}
use Rattle.source_log.specs.Log.{Log}
use Rattle.index_world.specs.Calls.{Gives, Grace, Trouble, fetched, fetched_from, gives}
use Rattle.index_world.specs.CallsMade.{CallMade, of_fetch}
use Rattle.index_world.specs.Core.{Core, IsOther, IsPlannedIn, Nobody}
use Rattle.index_world.specs.DirectLaws.{stays_as_is}
use Rattle.index_world.specs.Gate.{Does, IsPieceGiven, IsTrouble, IsUnfetched, Says, fetched_more, last_bytes}
use Rattle.index_world.specs.World.{GoesFor, GoesOn}
use Rattle.index_world.specs.declared.tokens.Plan.{Plan}
use Rattle.index_world.specs.declared.world_error.WorldError.{WorldError}
use Rattle.index_world.proofs.InCore.{goes_both, planned_goes}
use Rattle.object_store.specs.Store.{IsPieceOf}
use Rattle.object_store.specs.declared.store.Piece.{Piece}
use Rattle.root_search.specs.Fetching.{FetchesAs, IsFileAt, IsPieceFetched, SaysFetched, WantsRoom}
use Rattle.root_search.specs.Goes.{GoesBy}
use Rattle.root_search.specs.Recorded.{AreRecorded}
use Rattle.root_search.specs.Steps.{ArePassed, Passage, fetched_at, unless_fault}
use Rattle.root_search.proofs.Recorded.{met, met_recorded, recorded_more}
use Rattle.root_search.specs.declared.fetching.FetchError.{FetchError}
use Rattle.root_search.specs.declared.fetching.FetchError.TheVariants.{Memory, World, Corrupt}

-- ---- how the index goes on

pub by_refl : (Between : Core → Core → Type 0) (core : Core) → GoesBy Between core core
by_refl Between core = record { always = stays_as_is Nobody core; alone = λ none. stays_as_is (IsOther None) core }

pub by_trans : (Between : Core → Core → Type 0) (a b c : Core) → GoesBy Between a b → GoesBy Between b c → GoesBy Between a c
by_trans Between a b c g h =
    record {
      always = goes_both Nobody Nobody Nobody a b c (λ n kept. (kept, kept)) g.always h.always;
      alone = λ none. goes_both (IsOther None) (IsOther None) (IsOther None) a b c (λ n kept. (kept, kept)) (g.alone none) (h.alone none);
    }

-- by a call, and what others did before it
pub by_does : (Between : Core → Core → Type 0) → ((core mid : Core) → Between core mid → GoesFor Nobody core mid) → (core mid after : Core) → Between core mid → GoesOn None mid after → GoesBy Between core after
by_does Between goes core mid after passed on =
    record {
      always = goes_both Nobody (IsOther None) Nobody core mid after (λ n kept. (kept, absurd kept)) (goes core mid passed) on;
      alone = λ none. subst (λ (c : Core). GoesOn None c after) (none core mid passed) on;
    }

-- ---- passages behind others

left_of : (answer : Result ⊤ Trouble) (core mid : Core) (next : Core → Gives Trouble ⊤) → unless_fault answer core next ≡ gives (Ok tt) mid → (answer ≡ Ok tt) × (next core ≡ gives (Ok tt) mid)
left_of (Ok done) core mid next e = (refl, e)
left_of (Err trouble) core mid next e = let wrong : ◌≡◌ {A = Result ⊤ Trouble} (Err trouble) (Ok tt) = ap (λ (g : Gives Trouble ⊤). g.answer) e in absurd (cc)

pub fetched_behind : (grace : Grace) (core mid : Core) (xs ys : List Passage) → fetched_at grace core xs ≡ gives (Ok tt) mid → fetched_at grace core (xs ++ ys) ≡ fetched_at grace mid ys
fetched_behind grace core mid [] ys e = ap (λ (c : Core). fetched_at grace c ys) (ap (λ (g : Gives Trouble ⊤). g.core) e)
fetched_behind grace core mid (passage ∷ xs) ys e =
    let call = fetched grace passage.fate passage.core in
    let l = left_of call.answer call.core mid (λ left. fetched_at grace left xs) e in
    ap (λ (r : Result ⊤ Trouble). unless_fault r call.core (λ left. fetched_at grace left (xs ++ ys))) l.0 ∙ fetched_behind grace call.core mid xs ys l.1

pub passed_more : (grace : Grace) (Between : Core → Core → Type 0) (core mid : Core) (xs ys : List Passage) → fetched_at grace core xs ≡ gives (Ok tt) mid → ArePassed grace Between core xs → ArePassed grace Between mid ys → ArePassed grace Between core (xs ++ ys)
passed_more grace Between core mid [] ys e p q = subst (λ (c : Core). ArePassed grace Between c ys) (sym (ap (λ (g : Gives Trouble ⊤). g.core) e)) q
passed_more grace Between core mid (passage ∷ xs) ys e p q =
    let call = fetched grace passage.fate passage.core in
    let l = left_of call.answer call.core mid (λ left. fetched_at grace left xs) e in
    (p.0, passed_more grace Between call.core mid xs ys l.1 p.1 q)

-- ---- the file of a row

-- it stands on
abbrev pub file_stands : (core after : Core) (until : ℕ) (plan : Plan) (place : ℕ) (bytes : List ℕ) → GoesFor Nobody core after → IsFileAt core until plan place bytes → IsFileAt after until plan place bytes
file_stands core after until plan place bytes g f = record { row = f.row; stands = f.stands; planned = planned_goes Nobody core after until f.row.number bytes g f.planned; size = f.size }

-- ---- the count of bytes

min_le : (a b : ℕ) → min a b ≤ a
min_le a b = omega arith

-- a fetch draws no more than it gives
pub more_at_most : (piece : Piece) (old new : ℕ) → new ≡ fetched_more (Ok piece) old → new ≤ old + length piece.bytes
more_at_most piece old new e = subst (λ (n : ℕ). n ≤ old + length piece.bytes) (sym e) (min_le (old + length piece.bytes) last_bytes)

pub none_more : (error : WorldError) (old new : ℕ) → new ≡ fetched_more (Err error) old → new ≤ old + 0
none_more error old new e = subst (λ (n : ℕ). n ≤ old + 0) (sym e) (omega arith)

-- ---- so many fetches were made, and each gave something

-- calls behind others are the gate's own too
abbrev pub AddsMore : {W : Type 0} → (W → List CallMade → W → Type 0) → Type 0
AddsMore {W} Adds = (first mid last : W) (made more : List CallMade) → Adds first made mid → Adds mid more last → Adds first (made ++ more) last

-- the same fetches, where their grace is the same
pub graced : {W A : Type 0} (grace other : Grace) (number : ℕ) (Stands : W → Core → Log → Type 0) (Between : Core → Core → Type 0) (Adds : W → List CallMade → W → Type 0) (bytes_fetched : W → ℕ) (holds : A → ℕ → ℕ → Type 0) (r : Result A FetchError) (core : Core) (log : Log) (old new : W)
    → grace ≡ other → FetchesAs grace number Stands Between Adds bytes_fetched holds r core log old new → FetchesAs other number Stands Between Adds bytes_fetched holds r core log old new
graced grace other number Stands Between Adds bytes_fetched holds r core log old new e f = subst (λ (g : Grace). FetchesAs g number Stands Between Adds bytes_fetched holds r core log old new) e f

pub record Made {W : Type 0} (grace : Grace) (number : ℕ) (Stands : W → Core → Log → Type 0) (Between : Core → Core → Type 0) (Adds : W → List CallMade → W → Type 0) (bytes_fetched : W → ℕ) (core : Core) (log : Log) (many drawn : ℕ) (old new : W) : Type 0 where
  pub passages : List Passage
  pub passed : ArePassed grace Between core passages
  pub after : Core
  pub did : fetched_at grace core passages ≡ gives (Ok tt) after
  pub many_are : length passages ≡ many
  pub counted : bytes_fetched new ≤ bytes_fetched old + drawn
  pub goes_on : GoesBy Between core after
  pub stands : Stands new after log
  pub made : List CallMade
  pub own : Adds old made new
  pub recorded : AreRecorded grace number passages made

module _ {W : Type 0} (grace : Grace) (number : ℕ) (Stands : W → Core → Log → Type 0) (Between : Core → Core → Type 0) (Adds : W → List CallMade → W → Type 0) (bytes_fetched : W → ℕ) (core : Core) (log : Log) (old : W) where
  pub none_made : Adds old [] old → Stands old core log → Made grace number Stands Between Adds bytes_fetched core log 0 0 old old
  none_made own stands =
      record { passages = []; passed = tt; after = core; did = refl; many_are = refl; counted = omega arith; goes_on = by_refl Between core; stands = stands; made = []; own = own; recorded = refl }

  -- fetches that gave something
  pub made_of : {A : Type 0} (holds : A → ℕ → ℕ → Type 0) (a : A) (many drawn : ℕ) (new : W) → (f : FetchesAs grace number Stands Between Adds bytes_fetched holds (Ok a) core log old new) → length f.passages ≡ many → f.drawn ≤ drawn
      → Made grace number Stands Between Adds bytes_fetched core log many drawn old new
  made_of holds a many drawn new f many_are few =
      let count = f.count in
      record {
        passages = f.passages;
        passed = f.passed;
        after = f.after;
        did = f.did ∙ ap (λ (r : Result ⊤ Trouble). gives r f.after) f.says.0;
        many_are = many_are;
        counted = omega (arith, count, few);
        goes_on = f.goes_on;
        stands = f.stands;
        made = f.made;
        own = f.own;
        recorded = f.recorded;
      }

  -- the same fetches, of which more bytes are said at most
  pub made_as : (many drawn most : ℕ) (new : W) → drawn ≤ most → Made grace number Stands Between Adds bytes_fetched core log many drawn old new → Made grace number Stands Between Adds bytes_fetched core log many most old new
  made_as many drawn most new le m =
      let counted = m.counted in
      record { passages = m.passages; passed = m.passed; after = m.after; did = m.did; many_are = m.many_are; counted = omega (arith, counted, le); goes_on = m.goes_on; stands = m.stands; made = m.made; own = m.own; recorded = m.recorded }

  pub all_done : {A : Type 0} (holds : A → ℕ → ℕ → Type 0) (a : A) (many drawn : ℕ) (new : W) → Made grace number Stands Between Adds bytes_fetched core log many drawn old new → holds a many drawn → FetchesAs grace number Stands Between Adds bytes_fetched holds (Ok a) core log old new
  all_done holds a many drawn new m h =
      record {
        passages = m.passages;
        passed = m.passed;
        answer = Ok tt;
        after = m.after;
        did = m.did;
        drawn = drawn;
        count = m.counted;
        says = (refl, subst (λ (n : ℕ). holds a n drawn) (sym m.many_are) h);
        goes_on = m.goes_on;
        stands = m.stands;
        made = m.made;
        own = m.own;
        recorded = m.recorded;
      }

  -- no memory is found behind them
  pub all_short : {A : Type 0} (holds : A → ℕ → ℕ → Type 0) (r : Result A FetchError) (e : FetchError) (many drawn : ℕ) (new : W) → Made grace number Stands Between Adds bytes_fetched core log many drawn old new → IsErrAnd r (λ y. y ≡ e) → WantsRoom e
      → FetchesAs grace number Stands Between Adds bytes_fetched holds r core log old new
  all_short holds (Ok a) e many drawn new m h room = absurd h
  all_short holds (Err (Memory refused)) e many drawn new m h room =
      record { passages = m.passages; passed = m.passed; answer = Ok tt; after = m.after; did = m.did; drawn = drawn; count = m.counted; says = tt; goes_on = m.goes_on; stands = m.stands; made = m.made; own = m.own; recorded = m.recorded }
  all_short holds (Err (World error)) e many drawn new m h room = absurd (subst WantsRoom (sym h) room)
  all_short holds (Err Corrupt) e many drawn new m h room = absurd (subst WantsRoom (sym h) room)

  -- further fetches, with what they say
  pub then_fetched : {A : Type 0} → AddsMore Adds → (first holds : A → ℕ → ℕ → Type 0) (r : Result A FetchError) (many drawn : ℕ) (mid new : W) → (m : Made grace number Stands Between Adds bytes_fetched core log many drawn old mid)
      → ((x : A) (n d : ℕ) → first x n d → holds x (many + n) (drawn + d)) → FetchesAs grace number Stands Between Adds bytes_fetched first r m.after log mid new → FetchesAs grace number Stands Between Adds bytes_fetched holds r core log old new
  then_fetched adds first holds r many drawn mid new m more f =
      let before = m.counted in
      let behind = f.count in
      record {
        passages = m.passages ++ f.passages;
        passed = passed_more grace Between core m.after m.passages f.passages m.did m.passed f.passed;
        answer = f.answer;
        after = f.after;
        did = fetched_behind grace core m.after m.passages f.passages m.did ∙ f.did;
        drawn = drawn + f.drawn;
        count = omega (arith, before, behind);
        says = subst (λ (n : ℕ). SaysFetched holds n (drawn + f.drawn) r f.answer) (sym (length-append m.passages f.passages ∙ ap (λ (n : ℕ). n + length f.passages) m.many_are)) (widen r f.says);
        goes_on = by_trans Between core m.after f.after m.goes_on f.goes_on;
        stands = f.stands;
        made = m.made ++ f.made;
        own = adds old mid new m.made f.made m.own f.own;
        recorded = recorded_more grace number m.passages f.passages m.made f.made m.recorded f.recorded;
      }
    where
      widen : (q : Result _ FetchError) → SaysFetched first (length f.passages) f.drawn q f.answer → SaysFetched holds (many + length f.passages) (drawn + f.drawn) q f.answer
      widen (Ok x) s = (s.0, more x (length f.passages) f.drawn s.1)
      widen (Err (World e)) s = s
      widen (Err (Memory e)) s = s
      widen (Err Corrupt) s = s

  -- the same fetches, of which other things are said
  pub widened : {A : Type 0} (first holds : A → ℕ → ℕ → Type 0) (r : Result A FetchError) (new : W) → ((x : A) (n d : ℕ) → first x n d → holds x n d) → FetchesAs grace number Stands Between Adds bytes_fetched first r core log old new
      → FetchesAs grace number Stands Between Adds bytes_fetched holds r core log old new
  widened first holds r new more f =
      record { passages = f.passages; passed = f.passed; answer = f.answer; after = f.after; did = f.did; drawn = f.drawn; count = f.count; says = widen r f.says; goes_on = f.goes_on; stands = f.stands; made = f.made; own = f.own; recorded = f.recorded }
    where
      widen : (q : Result _ FetchError) → SaysFetched first (length f.passages) f.drawn q f.answer → SaysFetched holds (length f.passages) f.drawn q f.answer
      widen (Ok x) s = (s.0, more x (length f.passages) f.drawn s.1)
      widen (Err (World e)) s = s
      widen (Err (Memory e)) s = s
      widen (Err Corrupt) s = s

  -- what is made of what was fetched
  pub of_match : {A : Type 0} (good : A → Type 0) (holds : A → ℕ → ℕ → Type 0) (r : Result A FetchError) (many drawn : ℕ) (new : W) → Made grace number Stands Between Adds bytes_fetched core log many drawn old new → MatchResult r good WantsRoom
      → ((a : A) → good a → holds a many drawn) → FetchesAs grace number Stands Between Adds bytes_fetched holds r core log old new
  of_match good holds (Ok a) many drawn new m h have = all_done holds a many drawn new m (have a h)
  of_match good holds (Err e) many drawn new m h have = all_short holds (Err e) e many drawn new m refl h

  -- a fault of fetches that is handed on
  pub handed_on : {A B : Type 0} (first : A → ℕ → ℕ → Type 0) (holds : B → ℕ → ℕ → Type 0) (e : FetchError) (r : Result B FetchError) (new : W) → IsErrAnd r (λ y. y ≡ e) → FetchesAs grace number Stands Between Adds bytes_fetched first (Err e) core log old new
      → FetchesAs grace number Stands Between Adds bytes_fetched holds r core log old new
  handed_on first holds e (Ok b) new h f = absurd h
  handed_on first holds e (Err y) new h f =
      record {
        passages = f.passages;
        passed = f.passed;
        answer = f.answer;
        after = f.after;
        did = f.did;
        drawn = f.drawn;
        count = f.count;
        says = fault y (subst (λ (z : FetchError). SaysFetched first (length f.passages) f.drawn (Err z) f.answer) (sym h) f.says);
        goes_on = f.goes_on;
        stands = f.stands;
        made = f.made;
        own = f.own;
        recorded = f.recorded;
      }
    where
      fault : (z : FetchError) → SaysFetched first (length f.passages) f.drawn (Err z) f.answer → SaysFetched holds (length f.passages) f.drawn (Err z) f.answer
      fault (World error) s = s
      fault (Memory refused) s = s
      fault Corrupt s = s

  -- fetches behind others
  pub then_made : AddsMore Adds → (many drawn more further : ℕ) (mid new : W) → (m : Made grace number Stands Between Adds bytes_fetched core log many drawn old mid) → Made grace number Stands Between Adds bytes_fetched m.after log more further mid new
      → Made grace number Stands Between Adds bytes_fetched core log (many + more) (drawn + further) old new
  then_made adds many drawn more further mid new m n =
      let before = m.counted in
      let behind = n.counted in
      record {
        passages = m.passages ++ n.passages;
        passed = passed_more grace Between core m.after m.passages n.passages m.did m.passed n.passed;
        after = n.after;
        did = fetched_behind grace core m.after m.passages n.passages m.did ∙ n.did;
        many_are = length-append m.passages n.passages ∙ (ap (λ (k : ℕ). k + length n.passages) m.many_are ∙ ap (λ (k : ℕ). many + k) n.many_are);
        counted = omega (arith, before, behind);
        goes_on = by_trans Between core m.after n.after m.goes_on n.goes_on;
        stands = n.stands;
        made = m.made ++ n.made;
        own = adds old mid new m.made n.made m.own n.own;
        recorded = recorded_more grace number m.passages n.passages m.made n.made m.recorded n.recorded;
      }

module _ {W : Type 0} (grace : Grace) (number : ℕ) (Stands : W → Core → Log → Type 0) (Between : Core → Core → Type 0) (Adds : W → List CallMade → W → Type 0) (bytes_fetched : W → ℕ) (core : Core) (log : Log) (old : W) where
  abbrev last_left : Core → Gives Trouble ⊤
  last_left left = gives (Ok tt) left

  ok_of : {A : Type 0} (given : A → Core → Type 0) (a : A) (answer : Result ⊤ Trouble) (after : Core) → Says IsTrouble given (Ok a) answer after → (answer ≡ Ok tt) × given a after
  ok_of given a (Ok done) after s = (refl, s)
  ok_of given a (Err trouble) after s = absurd s

  err_of : {A : Type 0} (given : A → Core → Type 0) (error : WorldError) (answer : Result ⊤ Trouble) (after : Core) → Says IsTrouble given (Err error) answer after → (trouble : Trouble) × (answer ≡ Err trouble) × IsTrouble error trouble
  err_of given error (Ok done) after s = absurd s
  err_of given error (Err trouble) after s = (trouble, refl, s)

  taken_few : (bytes taken : List ℕ) (from len : ℕ) → taken ≡ take len (drop from bytes) → length taken ≤ len
  taken_few bytes taken from len e = omega (arith, ap (λ (l : List ℕ). length l) e, length-take len (drop from bytes))

  abbrev IsPiece : List ℕ → (from len : ℕ) → Piece → Core → Type 0
  IsPiece bytes from len piece after = IsPieceOf bytes from len piece

  -- one fetch of the gate
  pub one_fetched : (Owns : W → ℕ → Type 0) → ((core mid : Core) → Between core mid → GoesFor Nobody core mid) → (bytes : List ℕ) (from len start : ℕ) (piece : Piece) (new : W) → IsPlannedIn core grace.until number bytes
      → Does Stands Between Owns Adds None (of_fetch number from len) (fetched_from grace number) IsUnfetched (IsPieceGiven number from len) (Ok piece) core log old new
      → bytes_fetched new ≡ fetched_more (Ok piece) (bytes_fetched old) → start ≡ min from piece.size → FetchesAs grace number Stands Between Adds bytes_fetched (IsPieceFetched bytes from len) (Ok (record { start = start; bytes = piece.bytes })) core log old new
  one_fetched Owns goes bytes from len start piece new planned d count at =
      let m = met grace number Stands Between Owns Adds bytes from len (Ok piece) core log old new goes planned d in
      let ok = ok_of (IsPiece bytes from len) piece m.answer m.after m.says in
      record {
        passages = record { core = d.mid; fate = m.fate } ∷ [];
        passed = (d.passed, tt);
        answer = Ok tt;
        after = m.after;
        did = ap (λ (g : Gives Trouble ⊤). unless_fault g.answer g.core last_left) m.did ∙ ap (λ (r : Result ⊤ Trouble). unless_fault r m.after last_left) ok.0;
        drawn = length piece.bytes;
        count = more_at_most piece (bytes_fetched old) (bytes_fetched new) count;
        says = (refl, record { start = at ∙ ap (min from) ok.1.size_is; bytes_are = ok.1.bytes_are; once = refl; few = taken_few bytes piece.bytes from len ok.1.bytes_are });
        goes_on = by_does Between goes core d.mid m.after d.passed m.goes_on;
        stands = m.stands.0;
        made = d.made;
        own = d.own;
        recorded = (from, len, d.made, [], sym (append-nil d.made), met_recorded grace number Stands Between Owns Adds bytes from len (Ok piece) core log old new goes planned d, refl);
      }

  pub one_failed : (Owns : W → ℕ → Type 0) → ((core mid : Core) → Between core mid → GoesFor Nobody core mid) → (bytes : List ℕ) (from len : ℕ) (error : WorldError) (new : W) → IsPlannedIn core grace.until number bytes
      → Does Stands Between Owns Adds None (of_fetch number from len) (fetched_from grace number) IsUnfetched (IsPieceGiven number from len) (Err error) core log old new
      → bytes_fetched new ≡ fetched_more (Err error) (bytes_fetched old) → FetchesAs grace number Stands Between Adds bytes_fetched (IsPieceFetched bytes from len) (Err (World error)) core log old new
  one_failed Owns goes bytes from len error new planned d count =
      let m = met grace number Stands Between Owns Adds bytes from len (Err error) core log old new goes planned d in
      let err = err_of (IsPiece bytes from len) error m.answer m.after m.says in
      record {
        passages = record { core = d.mid; fate = m.fate } ∷ [];
        passed = (d.passed, tt);
        answer = Err err.0;
        after = m.after;
        did = ap (λ (g : Gives Trouble ⊤). unless_fault g.answer g.core last_left) m.did ∙ ap (λ (r : Result ⊤ Trouble). unless_fault r m.after last_left) err.1;
        drawn = 0;
        count = none_more error (bytes_fetched old) (bytes_fetched new) count;
        says = (err.0, refl, err.2);
        goes_on = by_does Between goes core d.mid m.after d.passed m.goes_on;
        stands = m.stands.0;
        made = d.made;
        own = d.own;
        recorded = (from, len, d.made, [], sym (append-nil d.made), met_recorded grace number Stands Between Owns Adds bytes from len (Err error) core log old new goes planned d, refl);
      }

  -- fetches behind others, as many and as few bytes as what they say
  pub then_given : {A : Type 0} → AddsMore Adds → (holds : A → ℕ → ℕ → Type 0) (a : A) (many drawn more further : ℕ) (mid new : W) → (m : Made grace number Stands Between Adds bytes_fetched core log many drawn old mid)
      → (f : FetchesAs grace number Stands Between Adds bytes_fetched holds (Ok a) m.after log mid new) → length f.passages ≡ more → f.drawn ≤ further → Made grace number Stands Between Adds bytes_fetched core log (many + more) (drawn + further) old new
  then_given adds holds a many drawn more further mid new m f calls few =
      then_made grace number Stands Between Adds bytes_fetched core log old adds many drawn more further mid new m (made_of grace number Stands Between Adds bytes_fetched m.after log mid holds a more further new f calls few)

  -- a fault of fetches behind others
  pub then_failed : {A B : Type 0} → AddsMore Adds → (first : A → ℕ → ℕ → Type 0) (holds : B → ℕ → ℕ → Type 0) (e : FetchError) (r : Result B FetchError) (many drawn : ℕ) (mid new : W) → (m : Made grace number Stands Between Adds bytes_fetched core log many drawn old mid)
      → IsErrAnd r (λ y. y ≡ e) → FetchesAs grace number Stands Between Adds bytes_fetched first (Err e) m.after log mid new → FetchesAs grace number Stands Between Adds bytes_fetched holds r core log old new
  then_failed adds first holds e r many drawn mid new m h f =
      then_fetched grace number Stands Between Adds bytes_fetched core log old adds (λ b n d. ⊥) holds r many drawn mid new m (λ b n d never. absurd never) (handed_on grace number Stands Between Adds bytes_fetched m.after log mid first (λ b n d. ⊥) e r new h f)

-- ---- why nothing was fetched

-- a call did not
pub some_passages : (grace : Grace) (core : Core) (passages : List Passage) (answer : Result ⊤ Trouble) (after : Core) (trouble : Trouble) → fetched_at grace core passages ≡ gives answer after → answer ≡ Err trouble → 0 < length passages
some_passages grace core [] answer after trouble did e = let wrong : ◌≡◌ {A = Result ⊤ Trouble} (Ok tt) (Err trouble) = ap (λ (g : Gives Trouble ⊤). g.answer) did ∙ e in absurd (cc)
some_passages grace core (passage ∷ more) answer after trouble did e = omega arith
