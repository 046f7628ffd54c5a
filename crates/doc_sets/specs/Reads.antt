-- What is read over any bytes for what is looked up, and which fault is met.
use Rattle.std.specs.Prelude.{◌≡◌, ℕ, zero, suc, ◌+◌, ◌-◌, ◌^◌, Bool, true, false, ◌&&◌, ◌||◌, List, [], ◌∷◌, ◌++◌, Option, Some, None, Result, Ok, Err, nat_eq, nat_lt, if◌then◌else◌, MatchResult, ◌⊎◌}
use Rattle.std.specs.List.{starts_with}
use Rattle.byte_fields.specs.declared.corrupt.Corrupt.{Corrupt}
use Rattle.doc_value.specs.declared.schema.Kind.{Kind}
use Rattle.fast_fields.specs.Readers.{parts}
use Rattle.fast_fields.specs.Reading.{Parts as ColumnParts}
use Rattle.fast_fields.specs.declared.column.Column.{Column}
use Rattle.query_ast.specs.Queries.{has_order}
use Rattle.term_dict.specs.Bounds.{AreBlocks, IsBlockOf}
use Rattle.term_dict.specs.Keys.{is_below}
use Rattle.term_dict.specs.Reading.{Walks, info_there, place_there, said_at}
use Rattle.term_dict.specs.declared.term.Term.{Term}
use Rattle.term_dict.specs.declared.term.TermInfo.{TermInfo}
use Rattle.term_postings.specs.Reading.{Walk as Cursored, next_block_of}
use Rattle.split_bundle.specs.declared.part_view.PartView.{PartView}
use Rattle.split_bundle.specs.declared.split_error.SplitError.{SplitError}
use Rattle.split_bundle.specs.Lending.{block_in, column_in, documents_in}
use Rattle.doc_sets.specs.Bits.{has}
use Rattle.doc_sets.specs.Faults.{fault_of}
use Rattle.doc_sets.specs.Ranged.{documents_from}
use Rattle.doc_sets.specs.Sets.{is_one_of}
use Rattle.doc_sets.specs.Walks.{takes}
use Rattle.doc_sets.specs.declared.bits.DocBits.{DocBits}
use Rattle.doc_sets.specs.declared.dictionary_lookup.Lookup.{Lookup}
use Rattle.doc_sets.specs.declared.dictionary_lookup.Lookup.TheVariants.{Count, Documents, Places, Values, Walk}
use Rattle.doc_sets.specs.declared.leaf_error.LeafError.{LeafError}
use Rattle.doc_sets.specs.declared.leaf_error.LeafError.TheVariants as faults
use Rattle.doc_sets.specs.declared.wanted.NumberRange.{NumberRange}
use Rattle.doc_sets.specs.declared.wanted.Wanted.{Wanted}

-- what is read in a section, whose faults are the section's
abbrev pub of_step : {A : Type 0} → ℕ → Result A Corrupt → Result A LeafError
of_step section (Ok x) = Ok x
of_step section (Err c) = Err (faults.Corrupt section)

-- what a view gives
abbrev pub of_view : {A : Type 0} → Result A SplitError → Result A LeafError
of_view (Ok x) = Ok x
of_view (Err e) = Err (fault_of e)

abbrev pub then_read : {A B : Type 0} → Result A LeafError → (A → Result B LeafError) → Result B LeafError
then_read (Ok x) f = f x
then_read (Err e) f = Err e

-- ---- the numbers of a list

-- whether each number is below one
abbrev pub are_below : ℕ → List ℕ → Bool
are_below size [] = true
are_below size (n ∷ ns) = nat_lt n size && are_below size ns

-- numbers in front of those that are read behind them
abbrev pub in_front_of : List ℕ → Result (List ℕ) LeafError → Result (List ℕ) LeafError
in_front_of ns (Ok more) = Ok (ns ++ more)
in_front_of ns (Err e) = Err e

-- a block's numbers, and those behind it; a block of none is the end
abbrev pub block_then : ℕ → List ℕ → Result (List ℕ) LeafError → Result (List ℕ) LeafError
block_then size [] rest = Ok []
block_then size (n ∷ ns) rest = if are_below size (n ∷ ns) then in_front_of (n ∷ ns) rest else Err (faults.Corrupt 3)

-- the numbers below a size that a list gives in at most so many blocks
unfoldable pub numbers_in : ℕ → ℕ → Cursored → Result (List ℕ) LeafError
numbers_in zero size w = Ok []
numbers_in (suc n) size w = then_read (of_step 3 (next_block_of w)) (λ x. block_then size x.0 (numbers_in n size x.1))

-- numbers were put into a set, or one of them is not below its size
abbrev pub PutsEach : {A : Type 0} → DocBits → DocBits → List ℕ → Result A LeafError → Type 0
PutsEach old new numbers (Ok u) = (are_below old.size numbers ≡ true) × ((k : ℕ) → has new k ≡ has old k || is_one_of k numbers)
PutsEach old new numbers (Err e) = (are_below old.size numbers ≡ false) × (e ≡ faults.Corrupt 3)

-- what is read was put into a set, or its fault is met
abbrev pub PutsRead : {A : Type 0} → DocBits → DocBits → Result A LeafError → Result (List ℕ) LeafError → Type 0
PutsRead old new (Ok u) read = (numbers : List ℕ) × (read ≡ Ok numbers) × ((k : ℕ) → has new k ≡ has old k || is_one_of k numbers)
PutsRead old new (Err e) read = read ≡ Err e

-- the set of what is read, or its fault, or want of memory
abbrev pub HasRead : Result DocBits LeafError → Result (List ℕ) LeafError → Type 0
HasRead (Ok b) read = (numbers : List ℕ) × (read ≡ Ok numbers) × ((k : ℕ) → has b k ≡ is_one_of k numbers)
HasRead (Err (faults.Memory a)) read = Unit {0}
HasRead (Err (faults.Corrupt section)) read = read ≡ Err (faults.Corrupt section)
HasRead (Err (faults.Missing at)) read = read ≡ Err (faults.Missing at)

-- ---- a key

-- what a block has at a key
abbrev pub FindsIn : List ℕ → Result (List ℕ) SplitError → Result (Option TermInfo) LeafError → Type 0
FindsIn key (Err e) found = found ≡ Err (fault_of e)
FindsIn key (Ok bytes) found = (walked : Result (Option TermInfo) Corrupt) × Walks bytes 0 key (info_there key) walked × (found ≡ of_step 2 walked)

-- the same of the block with a number, which 32 bits hold
abbrev pub FindsHeld : Bool → PartView → List ℕ → ℕ → Result (Option TermInfo) LeafError → Type 0
FindsHeld true v key number found = FindsIn key (block_in v.footer.layout.sections v.pieces v.footer.index number) found
FindsHeld false v key number found = found ≡ Err (faults.Corrupt 2)

abbrev pub FindsAt : PartView → List ℕ → Option ℕ → Result (Option TermInfo) LeafError → Type 0
FindsAt v key None found = found ≡ Ok None
FindsAt v key (Some number) found = FindsHeld (nat_lt number (2 ^ 32)) v key number found

-- what the dictionary has at a key
pub record Finds (v : PartView) (key : List ℕ) (found : Result (Option TermInfo) LeafError) : Type 0 where
  pub number : Option ℕ
  pub is_block : IsBlockOf v.footer.index key number
  pub finds : FindsAt v key number found

-- the numbers of a term's list
abbrev pub numbers_at : PartView → Bool → TermInfo → Result (List ℕ) LeafError
numbers_at v counted info =
    then_read (of_view (documents_in v.footer.layout.sections v.pieces info counted)) (λ w. numbers_in info.docs v.footer.layout.docs w)

-- the numbers of what was found: none of no term
abbrev pub numbers_of : PartView → Bool → Option TermInfo → Result (List ℕ) LeafError
numbers_of v counted None = Ok []
numbers_of v counted (Some info) = numbers_at v counted info

-- the numbers of a key's documents, by the dictionary and the key's list
pub record ReadsKey (v : PartView) (key : List ℕ) (counted : Bool) (read : Result (List ℕ) LeafError) : Type 0 where
  pub found : Result (Option TermInfo) LeafError
  pub finds : Finds v key found
  pub read_is : read ≡ then_read found (numbers_of v counted)

-- ---- a walk

-- the numbers of a term's list if its key is wanted
abbrev pub numbers_if : PartView → Bool → Wanted → Term → Result (List ℕ) LeafError
numbers_if v counted wanted t = if takes wanted t.key then numbers_at v counted t.info else Ok []

-- the term at a place of a block whose key begins so, and the place behind it; none where the block ends or another key stands
abbrev pub next_begun : (List ℕ → Bool) → List ℕ → ℕ → Result (Option Term × ℕ) Corrupt
next_begun begins bytes at = said_at bytes at (None, at) (λ t. if begins t.0.key then (Some t.0, t.1) else (None, at))

-- what is read of a term, in front of what is read behind it
abbrev pub term_then : (Term → Result (List ℕ) LeafError) → Option Term → Result (List ℕ) LeafError → Result (List ℕ) LeafError
term_then reads None rest = Ok []
term_then reads (Some t) rest = then_read (reads t) (λ numbers. in_front_of numbers rest)

-- what is read of the terms from a place of a block on whose keys begin so; of them there are fewer than so many
unfoldable pub terms_read : (Term → Result (List ℕ) LeafError) → ℕ → (List ℕ → Bool) → List ℕ → ℕ → Result (List ℕ) LeafError
terms_read reads zero begins bytes at = Err (faults.Corrupt 2)
terms_read reads (suc n) begins bytes at = then_read (of_step 2 (next_begun begins bytes at)) (λ x. term_then reads x.0 (terms_read reads n begins bytes x.1))

-- what is read of the terms of a block whose keys begin so
abbrev pub ReadsIn : (Term → Result (List ℕ) LeafError) → List ℕ → Result (List ℕ) SplitError → Result (List ℕ) LeafError → Type 0
ReadsIn reads prefix (Err e) read = read ≡ Err (fault_of e)
ReadsIn reads prefix (Ok bytes) read =
    (place : Result ℕ Corrupt) × Walks bytes 0 prefix place_there place × (read ≡ then_read (of_step 2 place) (terms_read reads 65 (λ key. starts_with nat_eq key prefix) bytes))

-- the same of the block with a number, which 32 bits hold
abbrev pub ReadsHeld : Bool → PartView → (Term → Result (List ℕ) LeafError) → List ℕ → ℕ → Result (List ℕ) LeafError → Type 0
ReadsHeld true v reads prefix number read = ReadsIn reads prefix (block_in v.footer.layout.sections v.pieces v.footer.index number) read
ReadsHeld false v reads prefix number read = read ≡ Err (faults.Corrupt 2)

abbrev pub ReadsBlock : PartView → (Term → Result (List ℕ) LeafError) → List ℕ → ℕ → Result (List ℕ) LeafError → Type 0
ReadsBlock v reads prefix number read = ReadsHeld (nat_lt number (2 ^ 32)) v reads prefix number read

-- what is read first, and what is read behind it where that met no fault
abbrev pub ReadsThen : Result (List ℕ) LeafError → (Result (List ℕ) LeafError → Type 0) → Result (List ℕ) LeafError → Type 0
ReadsThen (Err e) Others read = read ≡ Err e
ReadsThen (Ok numbers) Others read = (others : Result (List ℕ) LeafError) × Others others × (read ≡ in_front_of numbers others)

-- the same of so many blocks from a number on
abbrev pub ReadsBlocks : PartView → (Term → Result (List ℕ) LeafError) → List ℕ → ℕ → ℕ → Result (List ℕ) LeafError → Type 0
ReadsBlocks v reads prefix number zero read = read ≡ Ok []
ReadsBlocks v reads prefix number (suc n) read =
    (first : Result (List ℕ) LeafError) × ReadsBlock v reads prefix number first × ReadsThen first (λ others. ReadsBlocks v reads prefix (number + 1) n others) read

-- what is read of all terms whose keys begin so, in the blocks that can have such keys
pub record ReadsWalk (v : PartView) (reads : Term → Result (List ℕ) LeafError) (prefix : List ℕ) (read : Result (List ℕ) LeafError) : Type 0 where
  pub start : ℕ
  pub end : ℕ
  pub blocks : AreBlocks v.footer.index prefix (λ first. is_below first prefix || starts_with nat_eq first prefix) start end
  pub reads_them : ReadsBlocks v reads prefix start (end - start) read

-- the set of what is read, or its fault, or want of memory
abbrev pub HasReadBy : (Result (List ℕ) LeafError → Type 0) → Result DocBits LeafError → Type 0
HasReadBy Reads (Ok b) = (numbers : List ℕ) × Reads (Ok numbers) × ((k : ℕ) → has b k ≡ is_one_of k numbers)
HasReadBy Reads (Err (faults.Memory a)) = Unit {0}
HasReadBy Reads (Err (faults.Corrupt section)) = Reads (Err (faults.Corrupt section))
HasReadBy Reads (Err (faults.Missing at)) = Reads (Err (faults.Missing at))

-- ---- a column

-- numbers of a column's documents were put into a set, or one of them is not below its size
abbrev pub PutsValues : {A : Type 0} → DocBits → DocBits → List ℕ → Result A LeafError → Type 0
PutsValues old new numbers (Ok u) = (are_below old.size numbers ≡ true) × ((k : ℕ) → has new k ≡ has old k || is_one_of k numbers)
PutsValues old new numbers (Err e) = (are_below old.size numbers ≡ false) × (e ≡ faults.Corrupt 5)

-- the documents of a column's values that are in a range, where each is below a size
abbrev pub numbers_within : ℕ → NumberRange → Column → Result (List ℕ) LeafError
numbers_within size r c = if are_below size (documents_from r c c.count 0) then Ok (documents_from r c c.count 0) else Err (faults.Corrupt 5)

abbrev pub ReadsParts : ℕ → NumberRange → Result ColumnParts SplitError → Result (List ℕ) LeafError → Type 0
ReadsParts size r (Err e) read = read ≡ Err (fault_of e)
ReadsParts size r (Ok ps) read = (c : Column) × (parts c ≡ ps) × (read ≡ numbers_within size r c)

-- the same of the column of a field of an ordered kind, as the file has it
pub record ReadsColumn (v : PartView) (number : ℕ) (r : NumberRange) (read : Result (List ℕ) LeafError) : Type 0 where
  pub kind : Kind
  pub ordered : has_order kind ≡ true
  pub reads : ReadsParts v.footer.layout.docs r (column_in kind v.footer.layout.sections v.pieces v.footer.bytes v.footer.layout.columns number) read

-- ---- what is looked up

-- what is looked up is read: of a key that is counted its block, of one whose documents are wanted its list too, of a walk its blocks and
-- the lists of the wanted keys, and of values their column. Of places nothing is said.
abbrev pub IsRead : PartView → Lookup → Type 0
IsRead v (Count key) = (found : Option TermInfo) × Finds v key (Ok found)
IsRead v (Documents key) = (counted : Bool) × (numbers : List ℕ) × ReadsKey v key counted (Ok numbers)
IsRead v (Places key) = Unit {0}
IsRead v (Walk prefix wanted) = (counted : Bool) × (numbers : List ℕ) × ReadsWalk v (numbers_if v counted wanted) prefix (Ok numbers)
IsRead v (Values number range) = (numbers : List ℕ) × ReadsColumn v number range (Ok numbers)

abbrev pub AreRead : PartView → List Lookup → Type 0
AreRead v [] = Unit {0}
AreRead v (l ∷ ls) = IsRead v l × AreRead v ls

-- reading it meets this fault
abbrev pub Meets : PartView → Lookup → LeafError → Type 0
Meets v (Count key) e = Finds v key (Err e)
Meets v (Documents key) e = (counted : Bool) × ReadsKey v key counted (Err e)
Meets v (Places key) e = Unit {0}
Meets v (Walk prefix wanted) e = (counted : Bool) × ReadsWalk v (numbers_if v counted wanted) prefix (Err e)
Meets v (Values number range) e = ReadsColumn v number range (Err e)

abbrev pub SomeMeets : PartView → List Lookup → LeafError → Type 0
SomeMeets v [] e = ⊥
SomeMeets v (l ∷ ls) e = Meets v l e ⊎ SomeMeets v ls e

-- want of memory, or the fault of one of them
abbrev pub MetBy : PartView → List Lookup → LeafError → Type 0
MetBy v ls (faults.Memory a) = Unit {0}
MetBy v ls (faults.Corrupt section) = SomeMeets v ls (faults.Corrupt section)
MetBy v ls (faults.Missing at) = SomeMeets v ls (faults.Missing at)

-- all of it is read where there is an answer; else memory ran out, or the fault is that of something which is looked up
abbrev pub ReadsAll : {A : Type 0} → PartView → List Lookup → Result A LeafError → Type 0
ReadsAll v ls result = MatchResult result (λ x. AreRead v ls) (MetBy v ls)
