-- What a reader stands over.
use Rattle.std.specs.Prelude.{◌≡◌, ℕ, Bool, List, drop, nat_eq}
use Rattle.std.specs.List.{starts_with, take_while}
use Rattle.term_dict.specs.Keys.{is_below}
use Rattle.term_dict.specs.Terms.{AreTerms, IsDict, area}
use Rattle.term_dict.specs.declared.term.Term.{Term}
use Rattle.term_dict.specs.declared.block.Block.{Block}
use Rattle.term_dict.specs.declared.block.Entry.{Entry}
use Rattle.term_dict.specs.declared.dict.Dict.{Dict}
use Rattle.term_dict.specs.declared.range.TermRange.{TermRange}
use Rattle.term_dict.specs.declared.range.RangeEnd.{RangeEnd}
use Rattle.term_dict.specs.declared.range.RangeEnd.TheVariants.{Below, Prefix}

-- a block over the bytes of these terms
pub record IsBlock (b : Block) (terms : List Term) : Type 0 where
  pub are_terms : AreTerms terms
  pub bytes : b.bytes.now ≡ area terms

-- a dictionary over bytes that stand for these terms
abbrev pub IsOver : Dict → List Term → Type 0
IsOver d terms = IsDict d.area.now d.index.now terms

-- a term was read, and what is left is the rest
pub record IsReadTerm (t : Term) (rest left : List ℕ) (e : Entry) : Type 0 where
  pub key : e.key.now ≡ t.key
  pub info : e.info ≡ t.info
  pub left_is : left ≡ rest

-- the term that was read
abbrev pub term_of : Entry → Term
term_of e = record { key = e.key.now; info = e.info }

-- which keys stand before the end of a range
abbrev pub is_before_end : RangeEnd → List ℕ → Bool
is_before_end (Below high) key = is_below key high.now
is_before_end (Prefix prefix) key = starts_with nat_eq key prefix.now

-- a range that is to lend these terms, one after the other, and no more
pub record Lends (r : TermRange) (lent : List Term) : Type 0 where
  pub rest : List Term
  pub are_terms : AreTerms rest
  pub bytes_are : drop r.at r.area.now ≡ area rest
  pub lent_is : lent ≡ take_while (λ t. is_before_end r.end t.key) rest
