-- The partition of a document among those of a footer.
use Rattle.std.proofs.Common.{◌≡◌, ℕ, zero, suc, ◌+◌, ◌<◌, ◌^◌, Bool, true, false, cond, ◌&&◌, List, [], ◌∷◌, ◌++◌, length, drop, get_or, Option, Some, Result, Ok, refl, sym, ap, subst, ◌∙◌, arith, append_assoc}
use Rattle.std.specs.Prelude.{Contains, nat_lt, nat_le}
use Rattle.std.specs.List.{flat_map, slice_get, AllByRecursion, list_all}
use Rattle.std.specs.Str.{bytes_eq}
use Rattle.std.proofs.lemmas.Bool.{lt-ltb, le-leb, and_from}
use Rattle.std.proofs.lemmas.List.Sums.{list_all-from_AllPass}
use Rattle.std.proofs.lemmas.Option.{slice_get_within, get_or_from_slice_get, slice_get-map}
use Rattle.std.proofs.lemmas.Slice.Eq.{bytes_eq-Decides}
use Rattle.byte_fields.specs.declared.corrupt.Corrupt.{Corrupt}
use Rattle.byte_fields.specs.Spelling.{byte_string}
use Rattle.byte_fields.proofs.Others.{text_again}
use Rattle.term_dict.proofs.Areas.{drop_behind}
use Rattle.source_checkpoint.specs.Names.{IsPartition, is_name_byte}
use Rattle.source_checkpoint.proofs.NameLemmas.{name_is_utf8}
use Rattle.split_bundle.specs.declared.layout.Table.{Table}
use Rattle.split_bundle.specs.declared.placed.Placed.{Placed}
use Rattle.split_bundle.specs.declared.split_error.SplitError.{SplitError}
use Rattle.split_bundle.specs.Documents.{place_among}
use Rattle.split_bundle.specs.Splits.{ArePartitions, names_of}
use Rattle.split_bundle.specs.Views.{IsTable}
use Rattle.split_bundle.specs.Reading.{entries_behind}
use Rattle.split_bundle.specs.DocReading.{is_partition, name_at, partition_in}
use Rattle.split_bundle.proofs.Spelled.{name_passes}
use Rattle.split_bundle.proofs.DocStands.{some_is}

-- ---- what a name is

pub is_partition_true : (name : List ℕ) → IsPartition name → is_partition name ≡ true
is_partition_true name is =
    and_from (nat_lt 0 (length name) && nat_le (length name) 64) (list_all is_name_byte name)
    (and_from (nat_lt 0 (length name)) (nat_le (length name) 64) (lt-ltb 0 (length name) is.some) (le-leb (length name) 64 is.short)) (list_all-from_AllPass is_name_byte name is.each)

-- ---- where the partition of a document stands

abbrev some : List ℕ → Option (List ℕ)
some l = Some l

by_test : (b : Bool) (q name : List ℕ) (qs : List (List ℕ)) → bytes_eq q name ≡ b → (b ≡ false → slice_get qs (place_among qs name) ≡ Some name)
    → slice_get (q ∷ qs) (cond b 0 (suc (place_among qs name))) ≡ Some name
by_test true q name qs test later = ap (λ (l : List ℕ). some l) ((bytes_eq-Decides q name).0 test)
by_test false q name qs test later = later refl

stands_among : (qs : List (List ℕ)) (name : List ℕ) (k : ℕ) → k < length qs → get_or qs k name ≡ name → slice_get qs (place_among qs name) ≡ Some name
stands_among [] name k lt is = absurd (omega arith)
stands_among (q ∷ qs) name zero lt is = by_test (bytes_eq q name) q name qs refl (λ other. let same : bytes_eq q name ≡ true = (bytes_eq-Decides q name).1 is in absurd cc)
stands_among (q ∷ qs) name (suc k) lt is = by_test (bytes_eq q name) q name qs refl (λ other. stands_among qs name k (omega arith) is)

pub partition_stands : (documents : List Placed) (partitions : List (List ℕ)) (number : ℕ) (d : Placed) → ArePartitions documents partitions → slice_get documents number ≡ Some d
    → slice_get partitions (place_among partitions d.partition) ≡ Some d.partition
partition_stands documents partitions number d are here =
    let name_is : slice_get (names_of documents) number ≡ Some d.partition = slice_get-map (λ (x : Placed). x.partition) documents number ∙ rw here refl in
    let found : Contains partitions d.partition = (are.exact d.partition).1 (number, slice_get_within (names_of documents) number d.partition name_is, get_or_from_slice_get (names_of documents) number d.partition d.partition name_is) in
    stands_among partitions d.partition found.0 found.1 found.2

-- ---- the name is read

abbrev got_name : List ℕ → Result (List ℕ) Corrupt
got_name l = Ok l

abbrev got_partition : List ℕ → Result (List ℕ) SplitError
got_partition l = Ok l

-- the partition that was found
pub partition_found : (footer : List ℕ) (table : Table) (place : ℕ) (name partition : List ℕ) → place < table.count → name_at footer table.at place ≡ got_name name → partition ≡ name → IsPartition name
    → partition_in footer table place ≡ got_partition partition
unfolding partition_in
partition_found footer table place name partition lt read same is = rw (lt-ltb place table.count lt, read, is_partition_true name is) (ap (λ (l : List ℕ). got_partition l) (sym same))

module _ (footer : List ℕ) (short : length footer < 2 ^ 64) where
  name_again : (qs : List (List ℕ)) (place at : ℕ) (name rest : List ℕ) → AllByRecursion IsPartition qs → slice_get qs place ≡ Some name → drop at footer ≡ flat_map byte_string qs ++ rest
      → (name_at footer at place ≡ got_name name) × IsPartition name
  unfolding name_at entries_behind
  name_again [] place at name rest are here e = absurd cc
  name_again (q ∷ qs) zero at name rest are here e =
      let same : q ≡ name = some_is q name here in
      let few : length q < 2 ^ 64 = omega (arith, are.0.short) in
      let e0 : drop at footer ≡ byte_string q ++ (flat_map byte_string qs ++ rest) = e ∙ append_assoc (byte_string q) (flat_map byte_string qs) rest in
      (rw (text_again footer at q (flat_map byte_string qs ++ rest) few (name_is_utf8 q are.0) e0) (ap (λ (l : List ℕ). got_name l) same), subst IsPartition same are.0)
  name_again (q ∷ qs) (suc k) at name rest are here e =
      let e0 : drop at footer ≡ byte_string q ++ (flat_map byte_string qs ++ rest) = e ∙ append_assoc (byte_string q) (flat_map byte_string qs) rest in
      let passed = name_passes footer short q at (flat_map byte_string qs ++ rest) are.0 e0 in
      let more = name_again qs k (at + length (byte_string q)) name rest are.1 here (drop_behind footer (byte_string q) (flat_map byte_string qs ++ rest) at e0) in
      (rw passed more.0, more.1)

  pub partition_again : (table : Table) (qs : List (List ℕ)) (place : ℕ) (name : List ℕ) → IsTable byte_string qs footer table → AllByRecursion IsPartition qs → slice_get qs place ≡ Some name
      → partition_in footer table place ≡ got_partition name
  partition_again table qs place name is are here =
      let lt : place < table.count = omega (arith, is.count, slice_get_within qs place name here) in
      let read = name_again qs place table.at name is.rest are here is.stand in
      partition_found footer table place name name lt read.0 refl read.1
