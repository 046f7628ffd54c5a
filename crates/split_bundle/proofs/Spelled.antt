-- A footer that is spelled is read.
use Rattle.std.proofs.Common.{◌≡◌, ℕ, ◌+◌, ◌<◌, ◌^◌, List, [], ◌∷◌, ◌++◌, length, drop, Result, Ok, refl, sym, ap, ◌∙◌, arith, append_assoc, length-append, eq-eqb}
use Rattle.std.specs.List.{flat_map, AllByRecursion}
use Rattle.std.proofs.lemmas.List.{length-drop, append-nil}
use Rattle.source_checkpoint.specs.Names.{IsPartition}
use Rattle.source_checkpoint.proofs.NameLemmas.{name_is_utf8}
use Rattle.byte_fields.proofs.Others.{text_again}
use Rattle.term_dict.specs.declared.index.BlockStart.{BlockStart}
use Rattle.split_bundle.specs.declared.layout.ColumnStart.{ColumnStart}
use Rattle.split_bundle.specs.declared.layout.Entry.TheVariants.{Name, Block, Column}
use Rattle.split_bundle.specs.Views.{sections_of, IsTable, IsLayoutOf}
use Rattle.byte_fields.specs.declared.corrupt.Corrupt.{Corrupt}
use Rattle.byte_fields.specs.Spelling.{varint, byte_string}
use Rattle.byte_fields.specs.Steps.{number_at}
use Rattle.byte_fields.proofs.Taken.{varint_again, bytes_again}
use Rattle.byte_fields.proofs.Pieces.{count_again}
use Rattle.term_dict.proofs.Areas.{drop_behind}
use Rattle.split_bundle.specs.declared.layout.Entry.{Entry}
use Rattle.split_bundle.specs.declared.layout.Sections.{Sections}
use Rattle.split_bundle.specs.declared.layout.Table.{Table}
use Rattle.split_bundle.specs.declared.layout.Layout.{Layout}
use Rattle.split_bundle.specs.Files.{Parts, NumbersFit, lengths_bytes, block_bytes, start_bytes, footer_bytes, partitions_bytes, index_bytes, starts_bytes}
use Rattle.split_bundle.specs.Reading.{sections_at, entry_behind, entries_behind, table_at, layout_at, total}

-- a text stands in the bytes from a place to the next, with the rest behind it
pub record Stands (bytes : List ℕ) (at : ℕ) (text rest : List ℕ) (next : ℕ) : Type 0 where
  pub next_is : next ≡ at + length text
  pub behind : drop next bytes ≡ rest

pub stands : (bytes : List ℕ) (at : ℕ) (text rest : List ℕ) → drop at bytes ≡ text ++ rest → Stands bytes at text rest (at + length text)
stands bytes at text rest e = record { next_is = refl; behind = drop_behind bytes text rest at e }

-- a value is read where a text stands
pub record Again (A : Type 0) (read : Result (A × ℕ) Corrupt) (value : A) (bytes : List ℕ) (at : ℕ) (text rest : List ℕ) : Type 0 where
  pub next : ℕ
  pub is : read ≡ Ok (value, next)
  pub stands : Stands bytes at text rest next

pub number_again : (bytes : List ℕ) (at n : ℕ) (rest : List ℕ) → n < 2 ^ 64 → drop at bytes ≡ varint n ++ rest → Again ℕ (number_at bytes at) n bytes at (varint n) rest
number_again bytes at n rest fits e = record { next = at + length (varint n); is = rw (varint_again bytes at n rest fits e) refl; stands = stands bytes at (varint n) rest e }

pub sections_again : (bytes : List ℕ) (at : ℕ) (p : Parts) (rest : List ℕ) → NumbersFit p → drop at bytes ≡ lengths_bytes p ++ rest
    → Again Sections (sections_at bytes at) (sections_of p) bytes at (lengths_bytes p) rest
unfolding sections_at
sections_again bytes at p rest short e =
    let e0 : drop at bytes ≡ varint (length p.documents) ++ (varint (length p.dictionary) ++ (varint (length p.postings) ++ (varint (length p.positions) ++ (varint (length p.columns) ++ rest)))) = e ∙ simp append_assoc in
    let a = number_again bytes at (length p.documents) (varint (length p.dictionary) ++ (varint (length p.postings) ++ (varint (length p.positions) ++ (varint (length p.columns) ++ rest)))) short.documents e0 in
    let b = number_again bytes a.next (length p.dictionary) (varint (length p.postings) ++ (varint (length p.positions) ++ (varint (length p.columns) ++ rest))) short.dictionary a.stands.behind in
    let c = number_again bytes b.next (length p.postings) (varint (length p.positions) ++ (varint (length p.columns) ++ rest)) short.postings b.stands.behind in
    let d = number_again bytes c.next (length p.positions) (varint (length p.columns) ++ rest) short.positions c.stands.behind in
    let f = number_again bytes d.next (length p.columns) rest short.columns d.stands.behind in
    record {
      next = f.next;
      is = rw (a.is, b.is, c.is, d.is, f.is) refl;
      stands = record {
        next_is = simp length-append (omega (arith, a.stands.next_is, b.stands.next_is, c.stands.next_is, d.stands.next_is, f.stands.next_is));
        behind = f.stands.behind;
      };
    }

-- ---- lists

-- what stands in the bytes is not longer than they are
pub fits_in : (bytes text rest : List ℕ) (at : ℕ) → length bytes < 2 ^ 64 → drop at bytes ≡ text ++ rest → length text < 2 ^ 64
fits_in bytes text rest at short e = omega (arith, ap (λ (l : List ℕ). length l) e, length-append text rest, length-drop at bytes)

abbrev behind : ℕ → Result ℕ Corrupt
behind at = Ok at

module _ {X : Type 0} (entry : Entry) (spelled : X → List ℕ) (Good : X → Type 0) (bytes : List ℕ)
    (passes : (x : X) (at : ℕ) (rest : List ℕ) → Good x → drop at bytes ≡ spelled x ++ rest → entry_behind entry bytes at ≡ Ok (at + length (spelled x))) where
  pub entries_again : (xs : List X) (at : ℕ) (rest : List ℕ) → AllByRecursion Good xs → drop at bytes ≡ flat_map spelled xs ++ rest
      → entries_behind entry (length xs) bytes at ≡ Ok (at + length (flat_map spelled xs))
  unfolding entries_behind
  entries_again [] at rest good e = ap (λ (n : ℕ). behind n) (omega arith)
  entries_again (x ∷ xs) at rest good e =
      let e0 : drop at bytes ≡ spelled x ++ (flat_map spelled xs ++ rest) = e ∙ append_assoc (spelled x) (flat_map spelled xs) rest in
      let one = passes x at (flat_map spelled xs ++ rest) good.0 e0 in
      let more = entries_again xs (at + length (spelled x)) rest good.1 (drop_behind bytes (spelled x) (flat_map spelled xs ++ rest) at e0) in
      rw one (more ∙ ap (λ (n : ℕ). behind n) (omega (arith, length-append (spelled x) (flat_map spelled xs))))

  pub table_again : (xs : List X) (at : ℕ) (rest : List ℕ) → AllByRecursion Good xs → length xs < 2 ^ 64 → drop at bytes ≡ (varint (length xs) ++ flat_map spelled xs) ++ rest
      → (t : Table) × Again Table (table_at entry bytes at) t bytes at (varint (length xs) ++ flat_map spelled xs) rest × IsTable spelled xs bytes t
  unfolding table_at
  table_again xs at rest good few e =
      let e0 : drop at bytes ≡ varint (length xs) ++ (flat_map spelled xs ++ rest) = e ∙ append_assoc (varint (length xs)) (flat_map spelled xs) rest in
      let a = number_again bytes at (length xs) (flat_map spelled xs ++ rest) few e0 in
      let all = entries_again xs a.next rest good a.stands.behind in (
        record { count = length xs; at = a.next },
        record {
          next = a.next + length (flat_map spelled xs);
          is = rw (a.is, all) refl;
          stands = record { next_is = omega (arith, a.stands.next_is, length-append (varint (length xs)) (flat_map spelled xs)); behind = drop_behind bytes (flat_map spelled xs) rest a.next a.stands.behind };
        },
        record { count = refl; rest = rest; stand = a.stands.behind },
      )

module _ (bytes : List ℕ) (short : length bytes < 2 ^ 64) where
  pub name_passes : (name : List ℕ) (at : ℕ) (rest : List ℕ) → IsPartition name → drop at bytes ≡ byte_string name ++ rest → entry_behind Name bytes at ≡ Ok (at + length (byte_string name))
  unfolding entry_behind
  name_passes name at rest named e =
      let few : length name < 2 ^ 64 = omega (arith, named.short) in
      rw (text_again bytes at name rest few (name_is_utf8 name named) e) refl

  pub block_passes : (b : BlockStart) (at : ℕ) (rest : List ℕ) → b.start < 2 ^ 64 → drop at bytes ≡ block_bytes b ++ rest → entry_behind Block bytes at ≡ Ok (at + length (block_bytes b))
  unfolding entry_behind
  block_passes b at rest fits e =
      let e0 : drop at bytes ≡ byte_string b.first ++ (varint b.start ++ rest) = e ∙ append_assoc (byte_string b.first) (varint b.start) rest in
      let few : length b.first < 2 ^ 64 = omega (arith, fits_in bytes (byte_string b.first) (varint b.start ++ rest) at short e0, length-append (varint (length b.first)) b.first) in
      let n = number_again bytes (at + length (byte_string b.first)) b.start rest fits (drop_behind bytes (byte_string b.first) (varint b.start ++ rest) at e0) in
      rw (bytes_again bytes at b.first (varint b.start ++ rest) few e0, n.is) (ap (λ (k : ℕ). behind k) (omega (arith, n.stands.next_is, length-append (byte_string b.first) (varint b.start))))

  pub column_passes : (c : ColumnStart) (at : ℕ) (rest : List ℕ) → (c.number < 2 ^ 64) × (c.start < 2 ^ 64) → drop at bytes ≡ start_bytes c ++ rest → entry_behind Column bytes at ≡ Ok (at + length (start_bytes c))
  unfolding entry_behind
  column_passes c at rest fits e =
      let e0 : drop at bytes ≡ varint c.number ++ (varint c.start ++ rest) = e ∙ append_assoc (varint c.number) (varint c.start) rest in
      let a = number_again bytes at c.number (varint c.start ++ rest) fits.0 e0 in
      let b = number_again bytes a.next c.start rest fits.1 a.stands.behind in
      rw (a.is, b.is) (ap (λ (k : ℕ). behind k) (omega (arith, a.stands.next_is, b.stands.next_is, length-append (varint c.number) (varint c.start))))

-- ---- the footer

abbrev layout : Layout → Result Layout Corrupt
layout l = Ok l

-- a layout that is read
pub record Laid (p : Parts) (room : ℕ) : Type 0 where
  pub layout : Layout
  pub is : layout_at room (footer_bytes p) ≡ Ok layout
  pub is_layout : IsLayoutOf p layout

pub layout_again : (p : Parts) (room : ℕ) → NumbersFit p → AllByRecursion IsPartition p.partitions → length (footer_bytes p) < 2 ^ 64 → 4 + total (sections_of p) ≡ room → Laid p room
unfolding layout_at footer_bytes
layout_again p room fit named short sum =
    let bytes : List ℕ = footer_bytes p in
    let r5 : List ℕ = starts_bytes p.column_starts ++ [] in
    let r4 : List ℕ = index_bytes p.index ++ r5 in
    let r3 : List ℕ = varint (length p.keys) ++ r4 in
    let r2 : List ℕ = partitions_bytes p.partitions ++ r3 in
    let r1 : List ℕ = lengths_bytes p ++ r2 in
    let e0 : drop 0 bytes ≡ varint p.docs ++ r1 = ap (λ (l : List ℕ). varint p.docs ++ (lengths_bytes p ++ (partitions_bytes p.partitions ++ (varint (length p.keys) ++ (index_bytes p.index ++ l))))) (sym (append-nil (starts_bytes p.column_starts))) in
    let docs = count_again bytes 0 p.docs r1 fit.docs e0 in
    let s = sections_again bytes (0 + length (varint p.docs)) p r2 fit (drop_behind bytes (varint p.docs) r1 0 e0) in
    let n = table_again Name byte_string IsPartition bytes (name_passes bytes short) p.partitions s.next r3 named fit.partitions s.stands.behind in
    let t = number_again bytes n.1.next (length p.keys) r4 fit.keys n.1.stands.behind in
    let b = table_again Block block_bytes (λ b. b.start < 2 ^ 64) bytes (block_passes bytes short) p.index t.next r5 fit.block_starts fit.blocks t.stands.behind in
    let c = table_again Column start_bytes (λ c. (c.number < 2 ^ 64) × (c.start < 2 ^ 64)) bytes (column_passes bytes short) p.column_starts b.1.next [] fit.column_starts fit.fields b.1.stands.behind in
    let size : length bytes ≡ length (varint p.docs) + (length (lengths_bytes p) + (length (partitions_bytes p.partitions) + (length (varint (length p.keys)) + (length (index_bytes p.index) + length (starts_bytes p.column_starts))))) =
    length-append (varint p.docs) (lengths_bytes p ++ (partitions_bytes p.partitions ++ (varint (length p.keys) ++ (index_bytes p.index ++ starts_bytes p.column_starts))))
    ∙ ap (λ (k : ℕ). length (varint p.docs) + k) (length-append (lengths_bytes p) (partitions_bytes p.partitions ++ (varint (length p.keys) ++ (index_bytes p.index ++ starts_bytes p.column_starts)))
    ∙ ap (λ (k : ℕ). length (lengths_bytes p) + k) (length-append (partitions_bytes p.partitions) (varint (length p.keys) ++ (index_bytes p.index ++ starts_bytes p.column_starts))
    ∙ ap (λ (k : ℕ). length (partitions_bytes p.partitions) + k) (length-append (varint (length p.keys)) (index_bytes p.index ++ starts_bytes p.column_starts)
    ∙ ap (λ (k : ℕ). length (varint (length p.keys)) + k) (length-append (index_bytes p.index) (starts_bytes p.column_starts))))) in
    let end : c.1.next ≡ length bytes = omega (arith, s.stands.next_is, n.1.stands.next_is, t.stands.next_is, b.1.stands.next_is, c.1.stands.next_is, size) in
    let l : Layout = record { docs = p.docs; sections = sections_of p; partitions = n.0; terms = length p.keys; blocks = b.0; columns = c.0 } in
    record {
      layout = l;
      is = rw (docs, s.is, n.1.is, t.is, b.1.is, c.1.is, eq-eqb (4 + total (sections_of p)) room sum, eq-eqb c.1.next (length bytes) end) refl;
      is_layout = record { docs = refl; sections = refl; partitions = n.2; terms = refl; blocks = b.2; columns = c.2 };
    }
