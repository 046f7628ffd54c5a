-- A walk whose terms are read.
use Rattle.std.proofs.Common.{◌≡◌, ℕ, ◌^◌, ◌<◌, List, [], Result, Ok, Err, IfOk, nat_eq, subst}
use Rattle.std.specs.List.{starts_with}
use Rattle.term_dict.specs.Chosen.{StartsInBlock}
use Rattle.term_dict.specs.Readers.{is_before_end}
use Rattle.term_dict.specs.declared.range.TermRange.{TermRange}
use Rattle.split_bundle.specs.Lending.{block_in}
use Rattle.split_bundle.specs.declared.part_view.PartView.{PartView}
use Rattle.doc_sets.specs.Reads.{ReadsBlock, ReadsIn, terms_read}
use Rattle.doc_sets.specs.declared.leaf_error.LeafError.{LeafError}
use Rattle.doc_sets.proofs.ReadWalks.{block_held, block_range}

-- a block of which each term is read that begins so
pub block_named : {A : Type 0} (v : PartView) (prefix : List ℕ) (number : ℕ) (bytes : List ℕ) (r : TermRange) (named : Result A LeafError) → number < 2 ^ 32
    → block_in v.footer.layout.sections v.pieces v.footer.index number ≡ Ok bytes → StartsInBlock bytes prefix (λ key. starts_with nat_eq key prefix) (Ok r)
    → IfOk named (λ u. terms_read (λ t. Ok []) 65 (is_before_end r.end) r.area.now r.at ≡ Ok []) → IfOk named (λ u. ReadsBlock v (λ t. Ok []) prefix number (Ok []))
block_named v prefix number bytes r (Ok u) held is starts read =
    block_held v (λ t. Ok []) prefix number (Ok bytes) (Ok []) held is (subst (λ x. ReadsIn (λ t. Ok []) prefix (Ok bytes) x) read (block_range (λ t. Ok []) prefix bytes r starts))
block_named v prefix number bytes r (Err e) held is starts read = tt
