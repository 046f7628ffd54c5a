-- What is read of a list, block by block.
use Rattle.std.proofs.Common.{◌≡◌, ℕ, zero, suc, Bool, true, false, ◌||◌, ◌==◌, List, [], ◌∷◌, ◌++◌, refl, ap, sym, ◌∙◌, Result, Ok, Err}
use Rattle.byte_fields.specs.declared.corrupt.Corrupt.{Corrupt}
use Rattle.term_postings.specs.Reading.{Walk, next_block_of}
use Rattle.doc_sets.specs.Reads.{are_below, block_then, in_front_of, numbers_in, of_step, then_read, HasRead, PutsRead}
use Rattle.std.specs.declared.alloc.AllocError.{AllocError}
use Rattle.std.specs.Result.{IsErrAnd}
use Rattle.doc_sets.specs.declared.bits.DocBits.{DocBits}
use Rattle.doc_sets.specs.Sets.{is_one_of}
use Rattle.doc_sets.specs.declared.leaf_error.LeafError.{LeafError}
use Rattle.doc_sets.specs.declared.leaf_error.LeafError.TheVariants as faults

or_group : (a b r : Bool) → (a || b) || r ≡ a || (b || r)
or_group true b r = refl
or_group false b r = refl

or_none : (a : Bool) → a || false ≡ a
or_none true = refl
or_none false = refl

joined : (a b c : List ℕ) → (a ++ b) ++ c ≡ a ++ (b ++ c)
joined [] b c = refl
joined (x ∷ a) b c = ap (λ l. x ∷ l) (joined a b c)

pub none_behind : (a : List ℕ) → a ++ [] ≡ a
none_behind [] = refl
none_behind (x ∷ a) = ap (λ l. x ∷ l) (none_behind a)

pub in_both : (k : ℕ) (a b : List ℕ) → is_one_of k (a ++ b) ≡ is_one_of k a || is_one_of k b
in_both k [] b = refl
in_both k (x ∷ a) b = ap (λ r. (k == x) || r) (in_both k a b) ∙ sym (or_group (k == x) (is_one_of k a) (is_one_of k b))

-- in front of what stands in front of what is read
pub front_front : (a b : List ℕ) (read : Result (List ℕ) LeafError) → in_front_of a (in_front_of b read) ≡ in_front_of (a ++ b) read
front_front a b (Ok c) = ap (λ (l : List ℕ). Ok l) (sym (joined a b c))
front_front a b (Err e) = refl

pub front_none : (read : Result (List ℕ) LeafError) → read ≡ in_front_of [] read
front_none (Ok c) = refl
front_none (Err e) = refl

-- a block whose numbers are below the size
block_below : (size : ℕ) (block : List ℕ) (rest : Result (List ℕ) LeafError) → (block ≡ [] → ⊥) → are_below size block ≡ true → block_then size block rest ≡ in_front_of block rest
block_below size [] rest some below = absurd (some refl)
block_below size (n ∷ ns) rest some below = rw (below)

block_above : (size : ℕ) (block : List ℕ) (rest : Result (List ℕ) LeafError) → are_below size block ≡ false → block_then size block rest ≡ Err (faults.Corrupt 3)
block_above size [] rest below = absurd (cc)
block_above size (n ∷ ns) rest below = rw (below)

no_block : (size : ℕ) (block : List ℕ) (rest : Result (List ℕ) LeafError) → block ≡ [] → block_then size block rest ≡ Ok []
no_block size [] rest e = refl
no_block size (n ∷ ns) rest e = absurd (cc)

-- the first block that is read
first_block : (n size : ℕ) (w next : Walk) (block : List ℕ) → next_block_of w ≡ Ok (block, next) → numbers_in (suc n) size w ≡ block_then size block (numbers_in n size next)
unfolding numbers_in
first_block n size w next block e = ap (λ r. then_read (of_step 3 r) (λ x. block_then size x.0 (numbers_in n size x.1))) e

pub block_read : (n size : ℕ) (w next : Walk) (given block : List ℕ) (all : Result (List ℕ) LeafError) → next_block_of w ≡ Ok (block, next) → (block ≡ [] → ⊥) → are_below size block ≡ true
    → all ≡ in_front_of given (numbers_in (suc n) size w) → all ≡ in_front_of (given ++ block) (numbers_in n size next)
block_read n size w next given block all e some below h =
    h ∙ (ap (in_front_of given) (first_block n size w next block e ∙ block_below size block (numbers_in n size next) some below) ∙ front_front given block (numbers_in n size next))

pub end_read : (n size : ℕ) (w next : Walk) (given block : List ℕ) (all : Result (List ℕ) LeafError) → next_block_of w ≡ Ok (block, next) → block ≡ []
    → all ≡ in_front_of given (numbers_in (suc n) size w) → all ≡ Ok given
end_read n size w next given block all e none h =
    h ∙ (ap (in_front_of given) (first_block n size w next block e ∙ no_block size block (numbers_in n size next) none) ∙ ap (λ (l : List ℕ). Ok l) (none_behind given))

pub above_read : (n size : ℕ) (w next : Walk) (given block : List ℕ) (all : Result (List ℕ) LeafError) → next_block_of w ≡ Ok (block, next) → are_below size block ≡ false
    → all ≡ in_front_of given (numbers_in (suc n) size w) → all ≡ Err (faults.Corrupt 3)
above_read n size w next given block all e above h =
    h ∙ ap (in_front_of given) (first_block n size w next block e ∙ block_above size block (numbers_in n size next) above)

pub fault_read : (n size : ℕ) (w : Walk) (given : List ℕ) (c : Corrupt) (all : Result (List ℕ) LeafError) → next_block_of w ≡ Err c
    → all ≡ in_front_of given (numbers_in (suc n) size w) → all ≡ Err (faults.Corrupt 3)
unfolding numbers_in
fault_read n size w given c all e h =
    h ∙ ap (in_front_of given) (ap (λ r. then_read (of_step 3 r) (λ x. block_then size x.0 (numbers_in n size x.1))) e)

-- all blocks are read
pub last_read : (n size : ℕ) (w : Walk) (given : List ℕ) (all : Result (List ℕ) LeafError) → n ≡ 0 → all ≡ in_front_of given (numbers_in n size w) → all ≡ Ok given
unfolding numbers_in
last_read zero size w given all e h = h ∙ ap (λ (l : List ℕ). Ok l) (none_behind given)
last_read (suc n) size w given all e h = absurd (cc)

-- a block was put in
pub put_behind : (k : ℕ) (given block : List ℕ) (new old first : Bool) → old ≡ first || is_one_of k given → new ≡ old || is_one_of k block → new ≡ first || is_one_of k (given ++ block)
put_behind k given block new old first before put =
    put ∙ (ap (λ b. b || is_one_of k block) before ∙ (or_group first (is_one_of k given) (is_one_of k block) ∙ ap (λ b. first || b) (sym (in_both k given block))))

-- the fault of a step
pub put_fault : {A : Type 0} (old new : DocBits) (result : Result A LeafError) (e : LeafError) (read : Result (List ℕ) LeafError) → IsErrAnd result (λ f. f ≡ e) → read ≡ Err e → PutsRead old new result read
put_fault old new (Ok u) e read is met = absurd is
put_fault old new (Err f) e read is met = met ∙ ap (λ x. Err x) (sym is)

pub nothing_put : (k : ℕ) (now first : Bool) → now ≡ first → now ≡ first || is_one_of k []
nothing_put k now first e = e ∙ sym (or_none first)

-- the fault of what is read is handed on
pub has_fault : (result : Result DocBits LeafError) (e : LeafError) → IsErrAnd result (λ f. f ≡ e) → HasRead result (Err e)
has_fault (Ok b) e is = absurd is
has_fault (Err (faults.Memory a)) e is = tt
has_fault (Err (faults.Corrupt section)) e is = ap (λ x. Err x) (sym is)
has_fault (Err (faults.Missing at)) e is = ap (λ x. Err x) (sym is)

-- want of memory
pub has_memory : (result : Result DocBits LeafError) (a : AllocError) (read : Result (List ℕ) LeafError) → IsErrAnd result (λ f. f ≡ faults.Memory a) → HasRead result read
has_memory (Ok b) a read is = absurd is
has_memory (Err (faults.Memory b)) a read is = tt
has_memory (Err (faults.Corrupt section)) a read is = let x : faults.Corrupt section ≡ faults.Memory a = is in absurd (cc)
has_memory (Err (faults.Missing at)) a read is = let x : faults.Missing at ≡ faults.Memory a = is in absurd (cc)
