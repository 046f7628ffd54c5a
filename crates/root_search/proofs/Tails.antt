-- The footer of a file from its end.
use Rattle.std.proofs.Common.{◌≡◌, ℕ, ◌+◌, ◌-◌, ◌≤◌, ◌<◌, List, ◌++◌, length, take, drop, cond, ap, sym, ◌∙◌, subst, arith, Result, Ok, Err, MatchResult, length-append, length-drop}
use Rattle.std.proofs.lemmas.Bool.{le-ltb}
use Rattle.std.proofs.lemmas.List.{take-append-drop, take_all, drop-drop}
use Rattle.doc_value.specs.declared.schema.Schema.{Schema}
use Rattle.byte_fields.specs.Spelling.{varint}
use Rattle.term_dict.proofs.Areas.{varint_some}
use Rattle.split_bundle.specs.Files.{Parts, file_bytes, footer_bytes, index_bytes, lengths_bytes, partitions_bytes, starts_bytes}
use Rattle.split_bundle.specs.Splits.{IsSplitOf}
use Rattle.split_bundle.specs.Views.{IsEndOf, ReadsCut, ReadsFooter, cut_at}
use Rattle.split_bundle.specs.declared.footer.Footer.{Footer}
use Rattle.split_bundle.specs.declared.placed.Placed.{Placed}
use Rattle.split_bundle.specs.declared.split_error.SplitError.{SplitError}
use Rattle.split_bundle.specs.declared.split_error.SplitError.TheVariants as splits
use Rattle.split_bundle.proofs.Footers.{length-file}
use Rattle.root_search.specs.Fetching.{IsWant, WantsRoom}
use Rattle.root_search.specs.FetchedSplits.{IsFile, StartsFooter}
use Rattle.root_search.specs.declared.fetching.FetchError.{FetchError}

-- a file is long enough for its footer and what stands behind it
pub long_enough : (bytes : List ℕ) (p : Parts) → bytes ≡ file_bytes p → length (footer_bytes p) + 12 ≤ length bytes
long_enough bytes p e = omega (arith, ap (λ (l : List ℕ). length l) e, length-file p)

footer_some : (p : Parts) → 0 < length (footer_bytes p)
unfolding footer_bytes
footer_some p =
    let some = varint_some p.docs in
    omega (arith, some, length-append (varint p.docs) (lengths_bytes p ++ (partitions_bytes p.partitions ++ (varint (length p.keys) ++ (index_bytes p.index ++ starts_bytes p.column_starts)))))

-- the end of a file from a place on
pub ends_at : (bytes tail : List ℕ) (p : Parts) (size start : ℕ) → bytes ≡ file_bytes p → size ≡ length bytes → start ≤ size → tail ≡ drop start bytes → (length tail ≡ size - start) × IsEndOf p tail size
ends_at bytes tail p size start e long le same =
    let count : length tail ≡ size - start = ap (λ (l : List ℕ). length l) same ∙ (length-drop start bytes ∙ ap (λ (n : ℕ). n - start) (sym long)) in
    let place : size - length tail ≡ start = omega (arith, count, le) in (
      count,
      record {
        size_is = long ∙ ap (λ (l : List ℕ). length l) e;
        within = omega (arith, count);
        tail_is = same ∙ (ap (λ (l : List ℕ). drop start l) e ∙ ap (λ (n : ℕ). drop n (file_bytes p)) (sym place));
      },
    )

cut_is : (size there footer : ℕ) → 12 ≤ there → cut_at size there footer ≡ size - 12 - footer
cut_is size there footer le = ap (λ b. cond b (size - 12) (size - 12 - footer)) (le-ltb there 12 le)

pub want_of : (p : Parts) (e : SplitError) → ReadsFooter p (Err e) → IsWant e
want_of p (splits.Memory a) h = tt
want_of p (splits.Truncated at) h = h
want_of p splits.BadMagic h = h
want_of p (splits.BadSection number) h = h
want_of p (splits.BadVersion number) h = h

-- what is read of what stands behind a footer
module _ (bytes trailer : List ℕ) (size : ℕ) (long : size ≡ length bytes) (same : trailer ≡ drop (size - 12) bytes) (result : Result Footer SplitError)
    (cut : (s : Schema) (ds : List Placed) (p : Parts) → IsSplitOf s ds p → IsEndOf p trailer size → length trailer < length (footer_bytes p) + 12 → ReadsCut (cut_at size (length trailer) (length (footer_bytes p))) result) where
  cut_here : (s : Schema) (ds : List Placed) (p : Parts) → IsSplitOf s ds p → bytes ≡ file_bytes p → ReadsCut (length bytes - 12 - length (footer_bytes p)) result
  cut_here s ds p is e =
      let room = long_enough bytes p e in
      let some = footer_some p in
      let ends = ends_at bytes trailer p size (size - 12) e long (omega arith) same in
      let twelve : length trailer ≡ 12 = omega (arith, ends.0, long, room) in
      let place : cut_at size (length trailer) (length (footer_bytes p)) ≡ length bytes - 12 - length (footer_bytes p) = cut_is size (length trailer) (length (footer_bytes p)) (omega (arith, twelve)) ∙ ap (λ (n : ℕ). n - 12 - length (footer_bytes p)) long in
      subst (λ (n : ℕ). ReadsCut n result) place (cut s ds p is ends.1 (omega (arith, twelve, some)))

-- so its fault says where the footer starts
pub starts_footer : (bytes trailer : List ℕ) (size : ℕ) (read : Result Footer SplitError) (r : Result ℕ FetchError) → IsFile bytes → size ≡ length bytes → trailer ≡ drop (size - 12) bytes
    → ((s : Schema) (ds : List Placed) (p : Parts) → IsSplitOf s ds p → IsEndOf p trailer size → length trailer < length (footer_bytes p) + 12 → ReadsCut (cut_at size (length trailer) (length (footer_bytes p))) read)
    → ((place : ℕ) → ReadsCut place read → MatchResult r (λ start. start ≡ place) WantsRoom) → MatchResult r (StartsFooter bytes) WantsRoom
starts_footer bytes trailer size read r f long same cut h = by r (λ s ds p is e. h (length bytes - 12 - length (footer_bytes p)) (cut_here bytes trailer size long same read cut s ds p is e))
  where
    by : (q : Result ℕ FetchError) → ((s : Schema) (ds : List Placed) (p : Parts) → IsSplitOf s ds p → bytes ≡ file_bytes p → MatchResult q (λ start. start ≡ length bytes - 12 - length (footer_bytes p)) WantsRoom) → MatchResult q (StartsFooter bytes) WantsRoom
    by (Ok start) g = g
    by (Err e) g = g f.schema f.documents f.parts f.is_split f.bytes_are

-- the end of a file from the start of its footer on has the footer
module _ (bytes tail : List ℕ) (size start : ℕ) (long : size ≡ length bytes) (starts : StartsFooter bytes start) (same : tail ≡ drop start bytes) where
  pub tail_ends : (s : Schema) (ds : List Placed) (p : Parts) → IsSplitOf s ds p → bytes ≡ file_bytes p → IsEndOf p tail size × (length (footer_bytes p) + 12 ≤ length tail)
  tail_ends s ds p is e =
      let room = long_enough bytes p e in
      let from = starts s ds p is e in
      let ends = ends_at bytes tail p size start e long (omega (arith, from, long)) same in
      (ends.1, omega (arith, ends.0, from, long, room))

-- what stands behind the footer, fetched
pub trailer_is : (bytes piece : List ℕ) (size end : ℕ) → size ≡ length bytes → end ≡ size - 12 → piece ≡ take 12 (drop end bytes) → piece ≡ drop (size - 12) bytes
trailer_is bytes piece size end long at same =
    let few : length (drop end bytes) ≤ 12 = omega (arith, length-drop end bytes, at, long) in
    same ∙ (take_all 12 (drop end bytes) few ∙ ap (λ (n : ℕ). drop n bytes) at)

-- a piece from one place to another and the rest behind it are together what stands from the one place on
pub two_pieces : (bytes front rest : List ℕ) (start end : ℕ) → start ≤ end → front ≡ take (end - start) (drop start bytes) → rest ≡ drop end bytes → front ++ rest ≡ drop start bytes
two_pieces bytes front rest start end le one two =
    let behind : drop (end - start) (drop start bytes) ≡ drop end bytes = drop-drop (end - start) start bytes ∙ ap (λ (n : ℕ). drop n bytes) (omega (arith, le)) in
    ap (λ (l : List ℕ). l ++ rest) one ∙ (ap (λ (l : List ℕ). take (end - start) (drop start bytes) ++ l) (two ∙ sym behind) ∙ take-append-drop (end - start) (drop start bytes))
