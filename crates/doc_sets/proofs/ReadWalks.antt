-- What is read of a walk, term by term and block by block.
use Rattle.std.proofs.Common.{◌≡◌, ℕ, zero, suc, ◌+◌, ◌^◌, ◌<◌, ◌≤◌, ◌||◌, Bool, true, false, ◌==◌, nat_eq, List, [], ◌∷◌, ◌++◌, Option, Some, None, Result, Ok, Err, inl, length, refl, ap, sym, subst, ◌∙◌, if◌then◌else◌}
use Rattle.std.specs.Borrow.{Bor}
use Rattle.std.specs.List.{starts_with}
use Rattle.std.specs.Result.{IsErrAnd}
use Rattle.std.specs.declared.alloc.AllocError.{AllocError}
use Rattle.byte_fields.specs.Steps.{◌>>=◌}
use Rattle.byte_fields.specs.declared.corrupt.Corrupt.{Corrupt}
use Rattle.term_dict.specs.Chosen.{StartsInBlock}
use Rattle.term_dict.specs.Lent.{Advances, next_of, term_lent}
use Rattle.term_dict.specs.Readers.{is_before_end}
use Rattle.term_dict.specs.Reading.{said_at, term_at}
use Rattle.term_dict.specs.declared.range.TermRange.{TermRange}
use Rattle.term_dict.specs.declared.term.Term.{Term}
use Rattle.term_dict.specs.declared.term.TermInfo.{TermInfo}
use Rattle.split_bundle.specs.Lending.{block_in}
use Rattle.split_bundle.specs.declared.part_view.PartView.{PartView}
use Rattle.split_bundle.specs.declared.split_error.SplitError.{SplitError}
use Rattle.doc_sets.specs.Reads.{in_front_of, next_begun, numbers_at, numbers_if, of_step, term_then, terms_read, then_read, HasReadBy, ReadsAll, ReadsBlock, ReadsBlocks, ReadsHeld, ReadsIn, ReadsWalk}
use Rattle.doc_sets.specs.Sets.{is_one_of}
use Rattle.doc_sets.specs.Walks.{takes}
use Rattle.doc_sets.specs.declared.bits.DocBits.{DocBits}
use Rattle.doc_sets.specs.declared.dictionary_lookup.Lookup.TheVariants.{Walk}
use Rattle.doc_sets.specs.declared.leaf_error.LeafError.{LeafError}
use Rattle.doc_sets.specs.declared.leaf_error.LeafError.TheVariants as faults
use Rattle.doc_sets.specs.declared.wanted.Wanted.{Wanted}
use Rattle.doc_sets.proofs.ReadLists.{front_front, in_both, none_behind}
use Rattle.doc_sets.proofs.SeekLaws.{at_least, less}

-- ---- one term

pub wanted_read : (v : PartView) (counted : Bool) (wanted : Wanted) (t : Term) → takes wanted t.key ≡ true → numbers_if v counted wanted t ≡ numbers_at v counted t.info
wanted_read v counted wanted t e = rw (e)

pub unwanted_read : (v : PartView) (counted : Bool) (wanted : Wanted) (t : Term) → takes wanted t.key ≡ false → numbers_if v counted wanted t ≡ Ok []
unwanted_read v counted wanted t e = rw (e)

-- ---- the terms of a block

-- what is read of so many terms of a range
abbrev pub range_read : (Term → Result (List ℕ) LeafError) → ℕ → TermRange → Result (List ℕ) LeafError
range_read reads n r = terms_read reads n (is_before_end r.end) r.area.now r.at

pub term_goes : (reads : Term → Result (List ℕ) LeafError) (n : ℕ) (old new : TermRange) (lent : Option (Bor (List ℕ) × TermInfo)) (x : Bor (List ℕ) × TermInfo) → lent ≡ Some x → Advances old new (Ok lent)
    → range_read reads (suc n) old ≡ then_read (reads (record { key = x.0.now; info = x.1 })) (λ numbers. in_front_of numbers (range_read reads n new))
unfolding terms_read
term_goes reads n old new lent x is goes =
    let t : Term = record { key = x.0.now; info = x.1 } in
    let given : next_of old ≡ Ok (Some t, new.at) = goes.gives ∙ ap (λ o. Ok (term_lent o, new.at)) is in
    ap (λ r. then_read (of_step 2 r) (λ y. term_then reads y.0 (terms_read reads n (is_before_end old.end) old.area.now y.1))) given
    ∙ (ap (λ e. then_read (reads t) (λ numbers. in_front_of numbers (terms_read reads n (is_before_end e) old.area.now new.at))) (sym goes.end)
    ∙ ap (λ a. then_read (reads t) (λ numbers. in_front_of numbers (terms_read reads n (is_before_end new.end) a.now new.at))) (sym goes.area))

pub terms_end : (reads : Term → Result (List ℕ) LeafError) (n : ℕ) (old new : TermRange) (lent : Option (Bor (List ℕ) × TermInfo)) → lent ≡ None → Advances old new (Ok lent) → range_read reads (suc n) old ≡ Ok []
unfolding terms_read
terms_end reads n old new lent none goes =
    let given : next_of old ≡ Ok (None, new.at) = goes.gives ∙ ap (λ o. Ok (term_lent o, new.at)) none in
    ap (λ r. then_read (of_step 2 r) (λ y. term_then reads y.0 (terms_read reads n (is_before_end old.end) old.area.now y.1))) given

pub terms_fault : (reads : Term → Result (List ℕ) LeafError) (n : ℕ) (old new : TermRange) (fault : Corrupt) → Advances old new (Err fault) → range_read reads (suc n) old ≡ Err (faults.Corrupt 2)
unfolding terms_read
terms_fault reads n old new fault goes = ap (λ r. then_read (of_step 2 r) (λ y. term_then reads y.0 (terms_read reads n (is_before_end old.end) old.area.now y.1))) goes.gives.0

pub too_many_terms : (reads : Term → Result (List ℕ) LeafError) (n : ℕ) (r : TermRange) → n ≡ 0 → range_read reads n r ≡ Err (faults.Corrupt 2)
unfolding terms_read
too_many_terms reads zero r e = refl
too_many_terms reads (suc n) r e = absurd (cc)

-- the same test of keys
said_alike : {A : Type 0} (bytes : List ℕ) (at : ℕ) (ended : A) (f g : Term × ℕ → A) → ((t : Term × ℕ) → f t ≡ g t) → said_at bytes at ended f ≡ said_at bytes at ended g
said_alike bytes at ended f g same = go (at == length bytes) (term_at bytes at)
  where
    go : (b : Bool) (r : Result (Term × ℕ) Corrupt) → (if b then Ok ended else (r >>= λ t. Ok (f t))) ≡ (if b then Ok ended else (r >>= λ t. Ok (g t)))
    go true r = refl
    go false (Ok t) = ap (λ x. Ok x) (same t)
    go false (Err e) = refl

begun_alike : (b c : List ℕ → Bool) (bytes : List ℕ) (at : ℕ) → ((key : List ℕ) → b key ≡ c key) → next_begun b bytes at ≡ next_begun c bytes at
begun_alike b c bytes at same =
    said_alike bytes at (None, at) (λ t. if b t.0.key then (Some t.0, t.1) else (None, at)) (λ t. if c t.0.key then (Some t.0, t.1) else (None, at))
    (λ t. ap (λ x. if x then (Some t.0, t.1) else (None, at)) (same t.0.key))

then_alike : (reads : Term → Result (List ℕ) LeafError) (f g : ℕ → Result (List ℕ) LeafError) (r : Result (Option Term × ℕ) Corrupt) → ((at : ℕ) → f at ≡ g at)
    → then_read (of_step 2 r) (λ x. term_then reads x.0 (f x.1)) ≡ then_read (of_step 2 r) (λ x. term_then reads x.0 (g x.1))
then_alike reads f g (Ok x) same = ap (term_then reads x.0) (same x.1)
then_alike reads f g (Err c) same = refl

pub terms_alike : (reads : Term → Result (List ℕ) LeafError) (n : ℕ) (b c : List ℕ → Bool) (bytes : List ℕ) (at : ℕ) → ((key : List ℕ) → b key ≡ c key) → terms_read reads n b bytes at ≡ terms_read reads n c bytes at
unfolding terms_read
terms_alike reads zero b c bytes at same = refl
terms_alike reads (suc n) b c bytes at same =
    ap (λ r. then_read (of_step 2 r) (λ x. term_then reads x.0 (terms_read reads n b bytes x.1))) (begun_alike b c bytes at same)
    ∙ then_alike reads (λ p. terms_read reads n b bytes p) (λ p. terms_read reads n c bytes p) (next_begun c bytes at) (λ p. terms_alike reads n b c bytes p same)

-- ---- behind what was read

pub goes_on : (all first rest : Result (List ℕ) LeafError) (given numbers : List ℕ) → all ≡ in_front_of given (then_read first (λ ns. in_front_of ns rest)) → first ≡ Ok numbers → all ≡ in_front_of (given ++ numbers) rest
goes_on all first rest given numbers h is = h ∙ (ap (λ r. in_front_of given (then_read r (λ ns. in_front_of ns rest))) is ∙ front_front given numbers rest)

pub stops : (all first rest : Result (List ℕ) LeafError) (given : List ℕ) (e : LeafError) → all ≡ in_front_of given (then_read first (λ ns. in_front_of ns rest)) → first ≡ Err e → all ≡ Err e
stops all first rest given e h is = h ∙ ap (λ r. in_front_of given (then_read r (λ ns. in_front_of ns rest))) is

pub ends : (all rest : Result (List ℕ) LeafError) (given : List ℕ) → all ≡ in_front_of given rest → rest ≡ Ok [] → all ≡ Ok given
ends all rest given h is = h ∙ (ap (in_front_of given) is ∙ ap (λ (l : List ℕ). Ok l) (none_behind given))

pub fails : (all rest : Result (List ℕ) LeafError) (given : List ℕ) (e : LeafError) → all ≡ in_front_of given rest → rest ≡ Err e → all ≡ Err e
fails all rest given e h is = h ∙ ap (in_front_of given) is

-- ---- blocks

-- a block that was read, in front of those behind it
pub block_goes : (v : PartView) (reads : Term → Result (List ℕ) LeafError) (prefix : List ℕ) (number left more : ℕ) (first rest : Result (List ℕ) LeafError) (numbers : List ℕ) → left ≡ suc more
    → ReadsBlock v reads prefix number first → first ≡ Ok numbers → ReadsBlocks v reads prefix (number + 1) more rest → ReadsBlocks v reads prefix number left (in_front_of numbers rest)
block_goes v reads prefix number zero more first rest numbers e block is others = absurd (cc)
block_goes v reads prefix number (suc n) more first rest numbers e block is others =
    let same : n ≡ more = cc in
    (Ok numbers, subst (λ r. ReadsBlock v reads prefix number r) is block, (rest, subst (λ m. ReadsBlocks v reads prefix (number + 1) m rest) (sym same) others, refl))

pub block_fails : (v : PartView) (reads : Term → Result (List ℕ) LeafError) (prefix : List ℕ) (number left more : ℕ) (first : Result (List ℕ) LeafError) (e : LeafError) → left ≡ suc more
    → ReadsBlock v reads prefix number first → first ≡ Err e → ReadsBlocks v reads prefix number left (Err e)
block_fails v reads prefix number zero more first e same block is = absurd (cc)
block_fails v reads prefix number (suc n) more first e same block is = (Err e, subst (λ r. ReadsBlock v reads prefix number r) is block, refl)

pub no_blocks : (v : PartView) (reads : Term → Result (List ℕ) LeafError) (prefix : List ℕ) (number left : ℕ) → left ≡ 0 → ReadsBlocks v reads prefix number left (Ok [])
no_blocks v reads prefix number zero e = refl
no_blocks v reads prefix number (suc n) e = absurd (cc)

-- a block whose number 32 bits don't hold, and one whose number they hold
pub block_beyond : (v : PartView) (reads : Term → Result (List ℕ) LeafError) (prefix : List ℕ) (number : ℕ) → 2 ^ 32 ≤ number → ReadsBlock v reads prefix number (Err (faults.Corrupt 2))
block_beyond v reads prefix number le = subst (λ b. ReadsHeld b v reads prefix number (Err (faults.Corrupt 2))) (sym (at_least (2 ^ 32) number le)) refl

pub block_held : (v : PartView) (reads : Term → Result (List ℕ) LeafError) (prefix : List ℕ) (number : ℕ) (bytes : Result (List ℕ) SplitError) (read : Result (List ℕ) LeafError) → number < 2 ^ 32
    → block_in v.footer.layout.sections v.pieces v.footer.index number ≡ bytes → ReadsIn reads prefix bytes read → ReadsBlock v reads prefix number read
block_held v reads prefix number bytes read lt is h = subst (λ b. ReadsHeld b v reads prefix number read) (sym (less number (2 ^ 32) lt)) (subst (λ x. ReadsIn reads prefix x read) (sym is) h)

-- a range over the block from the first key on that may begin so
pub block_range : (reads : Term → Result (List ℕ) LeafError) (prefix bytes : List ℕ) (r : TermRange) → StartsInBlock bytes prefix (λ key. starts_with nat_eq key prefix) (Ok r) → ReadsIn reads prefix (Ok bytes) (range_read reads 65 r)
block_range reads prefix bytes r starts = (
  Ok r.at,
  starts.place,
  ap (λ b. terms_read reads 65 (is_before_end r.end) b r.at) starts.range.area ∙ terms_alike reads 65 (is_before_end r.end) (λ key. starts_with nat_eq key prefix) bytes r.at starts.range.end,
)

pub block_unread : (reads : Term → Result (List ℕ) LeafError) (prefix bytes : List ℕ) (c : Corrupt) → StartsInBlock bytes prefix (λ key. starts_with nat_eq key prefix) (Err c) → ReadsIn reads prefix (Ok bytes) (Err (faults.Corrupt 2))
block_unread reads prefix bytes c starts = (Err c, starts.place, refl)

-- a block's numbers were put behind others
pub blocks_put : (k : ℕ) (gave numbers : List ℕ) (new old : Bool) → old ≡ is_one_of k gave → new ≡ old || is_one_of k numbers → new ≡ is_one_of k (gave ++ numbers)
blocks_put k gave numbers new old before put = put ∙ (ap (λ b. b || is_one_of k numbers) before ∙ sym (in_both k gave numbers))

-- want of memory
pub walk_memory : (Reads : Result (List ℕ) LeafError → Type 0) (result : Result DocBits LeafError) (a : AllocError) → IsErrAnd result (λ f. f ≡ faults.Memory a) → HasReadBy Reads result
walk_memory Reads (Ok b) a is = absurd is
walk_memory Reads (Err (faults.Memory b)) a is = tt
walk_memory Reads (Err (faults.Corrupt section)) a is = let x : faults.Corrupt section ≡ faults.Memory a = is in absurd (cc)
walk_memory Reads (Err (faults.Missing at)) a is = let x : faults.Missing at ≡ faults.Memory a = is in absurd (cc)

-- the fault of a walk is handed on
pub walk_fault : (Reads : Result (List ℕ) LeafError → Type 0) (result : Result DocBits LeafError) (e : LeafError) → IsErrAnd result (λ f. f ≡ e) → Reads (Err e) → HasReadBy Reads result
walk_fault Reads (Ok b) e is h = absurd is
walk_fault Reads (Err (faults.Memory a)) e is h = tt
walk_fault Reads (Err (faults.Corrupt section)) e is h = subst (λ x. Reads (Err x)) (sym is) h
walk_fault Reads (Err (faults.Missing at)) e is h = subst (λ x. Reads (Err x)) (sym is) h

-- what is looked up is read
pub walked_reads : (v : PartView) (counted : Bool) (prefix : List ℕ) (wanted : Wanted) (result : Result DocBits LeafError) → HasReadBy (ReadsWalk v (numbers_if v counted wanted) prefix) result → ReadsAll v (Walk prefix wanted ∷ []) result
walked_reads v counted prefix wanted (Ok b) h = ((counted, h.0, h.1), tt)
walked_reads v counted prefix wanted (Err (faults.Memory a)) h = tt
walked_reads v counted prefix wanted (Err (faults.Corrupt section)) h = inl (counted, h)
walked_reads v counted prefix wanted (Err (faults.Missing at)) h = inl (counted, h)
