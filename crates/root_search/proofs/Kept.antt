-- Pieces that are kept, and footers that are kept.
use Rattle.std.proofs.Common.{◌≡◌, ℕ, ◌+◌, ◌<◌, ◌≤◌, true, inl, inr, min, List, [], ◌∷◌, ◌++◌, length, take, drop, get_or, ap, ap₂, sym, ◌∙◌, subst, append_assoc, arith, Option, Some, None, nat_eq, Contains}
use Rattle.std.specs.Map.{lookup, remove_entry}
use Rattle.std.proofs.lemmas.Bool.{eqb-true}
use Rattle.std.proofs.lemmas.List.{map-append, take_more}
use Rattle.std.proofs.lemmas.List.Sums.{sum_by_more}
use Rattle.lru.proofs.CallerLemmas.{Contains-lookup, Contains-remove_entry}
use Rattle.meta_store.specs.declared.planning.PlanRow.{PlanRow}
use Rattle.index_world.specs.Core.{Core, IsStoredIn}
use Rattle.index_world.proofs.InCore.{stored_is_shown}
use Rattle.leaf_search.specs.FileRanges.{total}
use Rattle.leaf_search.specs.declared.file_ranges.FileRange.{FileRange}
use Rattle.split_bundle.specs.declared.footer.Footer.{Footer}
use Rattle.root_search.specs.Footers.{KeepsMore, entries}
use Rattle.root_search.specs.Searching.{AreKept, IsKept}
use Rattle.root_search.specs.FetchedSplits.{IsFooterIn, IsKnown, piece_at, pieces_at}
use Rattle.root_search.specs.declared.fetched_splits.KeptPiece.{KeptPiece}
use Rattle.root_search.specs.declared.footers.Footers.{Footers}

kept_is : (piece : KeptPiece) (start : ℕ) (bytes : List ℕ) → piece.start ≡ start → piece.bytes ≡ bytes → piece ≡ record { start = start; bytes = bytes }
kept_is piece start bytes a b = ap₂ (λ (x : ℕ) (y : List ℕ). let it : KeptPiece = record { start = x; bytes = y } in it) a b

-- one more range is fetched
pub kept_more : (file : List ℕ) (rs : List FileRange) (i : ℕ) (old pieces new : List KeptPiece) (r : FileRange) (piece : KeptPiece) → pieces ≡ old ++ pieces_at file (take i rs) → i < length rs → r ≡ get_or rs i r
    → piece.start ≡ min r.start (length file) → piece.bytes ≡ take r.len (drop r.start file) → new ≡ pieces ++ piece ∷ [] → new ≡ old ++ pieces_at file (take (i + 1) rs)
kept_more file rs i old pieces new r piece before lt is start bytes more =
    let one : piece ≡ piece_at file r = kept_is piece (min r.start (length file)) (take r.len (drop r.start file)) start bytes in
    let taken : take (i + 1) rs ≡ take i rs ++ r ∷ [] = take_more rs i r lt ∙ ap (λ (x : FileRange). take i rs ++ x ∷ []) (sym is) in
    let whole : pieces_at file (take (i + 1) rs) ≡ pieces_at file (take i rs) ++ piece_at file r ∷ [] = ap (pieces_at file) taken ∙ map-append (piece_at file) (take i rs) (r ∷ []) in
    more ∙ (ap₂ (λ (l : List KeptPiece) (p : KeptPiece). l ++ p ∷ []) before one ∙ (append_assoc old (pieces_at file (take i rs)) (piece_at file r ∷ []) ∙ ap (λ (l : List KeptPiece). old ++ l) (sym whole)))

-- and how many bytes so many ranges have
pub total_more : (rs : List FileRange) (i : ℕ) (r : FileRange) → i < length rs → r ≡ get_or rs i r → total (take i rs) + r.len ≤ total (take (i + 1) rs)
total_more rs i r lt is = omega (arith, sum_by_more (λ (x : FileRange). x.len) rs i r lt, ap (λ (x : FileRange). x.len) is)

-- ---- footers

key_is : (number k : ℕ) → nat_eq number k ≡ true → k ≡ number
key_is number k e = sym (eqb-true number k e)

-- where a file stands, a footer that is kept under its number is its own
pub kept_footer : (footers : Footers) (core : Core) (number : ℕ) (bytes : List ℕ) → AreKept footers core → IsStoredIn core number bytes → (footer : Footer) → Contains (entries footers) (number, footer) → IsFooterIn bytes footer
kept_footer footers core number bytes kept up footer among =
    let k = kept number footer among in
    subst (λ (bs : List ℕ). IsFooterIn bs footer) (sym (stored_is_shown core number bytes k.bytes up k.shown)) k.footer_is

-- a footer that is found is the file's, where all that are kept under its number are
pub known_footer : (footers : Footers) (number : ℕ) (bytes : List ℕ) (known : Option Footer) → ((footer : Footer) → Contains (entries footers) (number, footer) → IsFooterIn bytes footer) → known ≡ lookup (nat_eq number) (entries footers) → IsKnown bytes known
known_footer footers number bytes None kept found = tt
known_footer footers number bytes (Some footer) kept found =
    let there = Contains-lookup (nat_eq number) (entries footers) footer (sym found) in
    kept footer (subst (λ (n : ℕ). Contains (entries footers) (n, footer)) (key_is number there.0 there.2) there.1)

-- what is kept behind a removal was kept before
pub was_kept : (old new : Footers) (number n : ℕ) (footer : Footer) → entries new ≡ remove_entry (nat_eq number) (entries old) → Contains (entries new) (n, footer) → Contains (entries old) (n, footer)
was_kept old new number n footer left among = Contains-remove_entry (nat_eq number) (entries old) (n, footer) (subst (λ (es : List (ℕ × Footer)). Contains es (n, footer)) left among)

-- one that is taken out is kept no more
pub fewer_kept : (old new : Footers) (core : Core) (number : ℕ) → entries new ≡ remove_entry (nat_eq number) (entries old) → AreKept old core → AreKept new core
fewer_kept old new core number left kept = λ n f among. kept n f (was_kept old new number n f left among)

-- one more is kept
pub more_kept : (old new : Footers) (core : Core) (number : ℕ) (footer : Footer) → KeepsMore (entries old) (entries new) number footer → IsKept core number footer → AreKept old core → AreKept new core
more_kept old new core number footer more is kept = λ n f among.
    elim (more n f among) [
      | inl before ↦ kept n f before
      | inr this ↦ subst (λ (g : Footer). IsKept core n g) (sym this.1) (subst (λ (m : ℕ). IsKept core m footer) (sym this.0) is)
    ]

-- ---- the row of a plan

pub same_row : (o : Option PlanRow) (one other : PlanRow) → o ≡ Some one → o ≡ Some other → one ≡ other
same_row o one other e f = cc
