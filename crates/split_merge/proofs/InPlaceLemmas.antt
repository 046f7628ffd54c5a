-- A document of a view is read in place: its bytes, and then its partition.
use Rattle.std.proofs.Common.{◌≡◌, ℕ, Bool, true, false, List, length, Result, Ok, Err, refl, sym, ap, ◌∙◌}
use Rattle.std.specs.Prelude.{◌==◌, if◌then◌else◌}
use Rattle.byte_fields.specs.declared.corrupt.Corrupt.{Corrupt}
use Rattle.byte_fields.specs.Steps.{◌>>=◌, number_at}
use Rattle.doc_value.specs.declared.doc.DocField.{DocField}
use Rattle.doc_value.specs.declared.schema.Field.{Field}
use Rattle.doc_value.specs.declared.schema.Schema.{Schema}
use Rattle.doc_value.specs.Documents.{IsOfSchema}
use Rattle.split_bundle.specs.declared.layout.Table.{Table}
use Rattle.split_bundle.specs.declared.placed.Placed.{Placed}
use Rattle.split_bundle.specs.declared.split_error.SplitError.{SplitError}
use Rattle.split_bundle.specs.declared.split_error.SplitError.TheVariants as split
use Rattle.split_bundle.specs.declared.split_view.SplitView.{SplitView}
use Rattle.split_bundle.specs.DocReading.{doc_part, partition_in, placed_in, stored_in}
use Rattle.split_bundle.specs.Reading.{MayGive, and_then, of_section}
use Rattle.split_bundle.specs.SplitViews.{pieces_of}
use Rattle.split_bundle.proofs.DocsFit.{placed_fits}
use Rattle.split_merge.specs.declared.kept.KeptDocuments.{KeptDocuments}
use Rattle.split_merge.specs.Kept.{Keeps}
use Rattle.split_merge.specs.Places.{HasPlace}
use Rattle.split_merge.specs.Reading.{alone, behind, document_of}
use Rattle.split_merge.specs.Scanning.{Scans, doc_head_at, document_at, placed_at}

-- ---- steps one after the other

module _ {A B D : Type 0} where
  bind_both : {C : Type 0} (r : Result A Corrupt) (f : A → Result B Corrupt) (g : B → Result D Corrupt) (h : A → Result C Corrupt) (k : C → Result D Corrupt) → ((a : A) → ((f a >>= g) ≡ (h a >>= k))) → ((r >>= f) >>= g) ≡ ((r >>= h) >>= k)
  bind_both (Ok a) f g h k same = same a
  bind_both (Err e) f g h k same = refl

  bind_last : (r : Result A Corrupt) (f : A → Result B Corrupt) (g : B → Result D Corrupt) (h : A → Result D Corrupt) → ((a : A) → ((f a >>= g) ≡ h a)) → ((r >>= f) >>= g) ≡ (r >>= h)
  bind_last (Ok a) f g h same = same a
  bind_last (Err e) f g h same = refl

if_then : {A B : Type 0} (b : Bool) (x : A) (e : Corrupt) (g : A → Result B Corrupt) → ((if b then Ok x else Err e) >>= g) ≡ (if b then g x else Err e)
if_then true x e g = refl
if_then false x e g = refl

-- what split_bundle reads of the bytes of a document is what is read in place
stored_is : (fields : List Field) (bytes : List ℕ) → (stored_in fields bytes >>= λ stored. Ok (stored.place, (stored.offset, stored.doc))) ≡ document_at fields bytes
unfolding stored_in document_at doc_head_at
stored_is fields bytes =
    bind_both (number_at bytes 0) _ _ _ _ (λ place. bind_both (number_at bytes place.1) _ _ _ _ (λ offset. bind_both (number_at bytes offset.1) _ _ _ _ (λ count. bind_last _ _ _ _ (λ doc. if_then (doc.1 == length bytes) _ _ _))))

-- ---- the partition

abbrev pub with_partition : List ℕ → Table → ℕ → ℕ × List DocField → Result Placed SplitError
with_partition footer table place x = and_then (partition_in footer table place) (λ name. Ok (placed_at name x))

abbrev with_place : List ℕ → Table → ℕ × (ℕ × List DocField) → Result Placed SplitError
with_place footer table read = with_partition footer table read.0 read.1

section_is : {S : Type 0} (r : Result S Corrupt) (rest : S → Result Placed SplitError) (f : S → ℕ × (ℕ × List DocField)) (other : ℕ × (ℕ × List DocField) → Result Placed SplitError) → ((x : S) → rest x ≡ other (f x))
    → and_then (of_section 1 r) rest ≡ and_then (of_section 1 (r >>= λ x. Ok (f x))) other
section_is (Ok x) rest f other same = same x
section_is (Err e) rest f other same = refl

module _ (s : Schema) (v : SplitView) (doc : ℕ) where
  -- a document by its bytes
  pub document_by : (bytes : List ℕ) → doc_part v.layout (pieces_of v) doc ≡ Ok bytes → document_of s v doc ≡ and_then (of_section 1 (document_at s.fields bytes)) (with_place v.footer.now v.layout.partitions)
  unfolding placed_in
  document_by bytes part =
      rw part (section_is (stored_in s.fields bytes) _ (λ stored. (stored.place, (stored.offset, stored.doc))) (with_place v.footer.now v.layout.partitions) (λ stored. refl)
      ∙ ap (λ (r : Result (ℕ × (ℕ × List DocField)) Corrupt). and_then (of_section 1 r) (with_place v.footer.now v.layout.partitions)) (stored_is s.fields bytes))

  -- whose bytes are not there
  pub part_fault : (e : SplitError) → doc_part v.layout (pieces_of v) doc ≡ Err e → document_of s v doc ≡ Err e
  unfolding placed_in
  part_fault e part = rw part refl

  -- by what is read of its bytes
  pub document_read : (bytes : List ℕ) (place : ℕ) (read : ℕ × (ℕ × List DocField)) → doc_part v.layout (pieces_of v) doc ≡ Ok bytes → document_at s.fields bytes ≡ Ok read → place ≡ read.0 → document_of s v doc ≡ with_partition v.footer.now v.layout.partitions place read.1
  document_read bytes place read part is at =
      document_by bytes part ∙ ap (λ (r : Result (ℕ × (ℕ × List DocField)) Corrupt). and_then (of_section 1 r) (with_place v.footer.now v.layout.partitions)) is
      ∙ ap (λ (n : ℕ). with_partition v.footer.now v.layout.partitions n read.1) (sym at)

  pub document_stops : (bytes : List ℕ) (c : Corrupt) → doc_part v.layout (pieces_of v) doc ≡ Ok bytes → document_at s.fields bytes ≡ Err c → document_of s v doc ≡ Err (split.BadSection 1)
  document_stops bytes c part is =
      document_by bytes part ∙ ap (λ (r : Result (ℕ × (ℕ × List DocField)) Corrupt). and_then (of_section 1 r) (with_place v.footer.now v.layout.partitions)) is

-- a document that reads has its partition
part_of : (r : Result (List ℕ) SplitError) (x : ℕ × List DocField) (d : Placed) → and_then r (λ name. Ok (placed_at name x)) ≡ Ok d → r ≡ Ok d.partition
part_of (Ok name) x d e = let same : placed_at name x ≡ d = cc in ap (λ (p : Placed). ok p.partition) same
  where
    ok : List ℕ → Result (List ℕ) SplitError
    ok l = Ok l
part_of (Err f) x d e = absurd cc

part_stops : (r : Result (List ℕ) SplitError) (x : ℕ × List DocField) (f : SplitError) → and_then r (λ name. Ok (placed_at name x)) ≡ Err f → r ≡ Err f
part_stops (Ok name) x f e = absurd cc
part_stops (Err g) x f e = let same : g ≡ f = cc in ap (λ (h : SplitError). err h) same
  where
    err : SplitError → Result (List ℕ) SplitError
    err h = Err h

module _ (s : Schema) (v : SplitView) (doc place : ℕ) (has : HasPlace s v doc place) where
  abbrev own : Result (List ℕ) SplitError
  own = partition_in v.footer.now v.layout.partitions place

  pub partition_read : (d : Placed) → document_of s v doc ≡ Ok d → own ≡ Ok d.partition
  partition_read d is = part_of own has.0 d (sym has.1 ∙ is)

  pub partition_fault : (e : SplitError) → MayGive {X = Placed} {Y = Placed} (λ d. d) (Err e) (document_of s v doc) → MayGive {X = List ℕ} {Y = List ℕ} (λ p. p) (Err e) own
  partition_fault (split.Memory a) gives = tt
  partition_fault split.BadMagic gives = part_stops own has.0 split.BadMagic (sym has.1 ∙ gives)
  partition_fault (split.Truncated at) gives = part_stops own has.0 (split.Truncated at) (sym has.1 ∙ gives)
  partition_fault (split.BadSection number) gives = part_stops own has.0 (split.BadSection number) (sym has.1 ∙ gives)
  partition_fault (split.BadVersion version) gives = part_stops own has.0 (split.BadVersion version) (sym has.1 ∙ gives)

-- ---- what is kept

-- a document that reads is of the schema
pub read_fits : (s : Schema) (v : SplitView) (doc : ℕ) (d : Placed) → document_of s v doc ≡ Ok d → IsOfSchema s d.doc
read_fits s v doc d is = placed_fits s v.layout v.footer.now (pieces_of v) doc (Ok d) is

pub keeps_one : (s : Schema) (v : SplitView) (doc place : ℕ) (name : List ℕ) (x : ℕ × List DocField) → document_of s v doc ≡ with_partition v.footer.now v.layout.partitions place x → partition_in v.footer.now v.layout.partitions place ≡ Ok name → document_of s v doc ≡ Ok (placed_at name x)
keeps_one s v doc place name x is part = is ∙ ap (λ (r : Result (List ℕ) SplitError). and_then r (λ n. Ok (placed_at n x))) part

stops : (before : List Placed) (read : Result Placed SplitError) (f : SplitError) → read ≡ Err f → behind (Ok before) (alone read) ≡ Err f
stops before read f is = ap (λ (r : Result Placed SplitError). behind (Ok before) (alone r)) is

pub keeps_stop : (X : Type 0) (k : KeptDocuments) (s : Schema) (e : SplitError) (before : List Placed) (read : Result Placed SplitError) → read ≡ Err e → Keeps {X = X} k s (Err e) (behind (Ok before) (alone read))
keeps_stop X k s (split.Memory a) before read is = tt
keeps_stop X k s split.BadMagic before read is = stops before read split.BadMagic is
keeps_stop X k s (split.Truncated at) before read is = stops before read (split.Truncated at) is
keeps_stop X k s (split.BadSection number) before read is = stops before read (split.BadSection number) is
keeps_stop X k s (split.BadVersion version) before read is = stops before read (split.BadVersion version) is

-- a document whose bytes are not of the form
pub keeps_scan : (X Y : Type 0) (holds : Y → ℕ × (ℕ × List DocField) → Type 0) (k : KeptDocuments) (s : Schema) (v : SplitView) (doc : ℕ) (bytes : List ℕ) (e : SplitError) (before : List Placed) → doc_part v.layout (pieces_of v) doc ≡ Ok bytes
    → Scans holds (Err e) (document_at s.fields bytes) → Keeps {X = X} k s (Err e) (behind (Ok before) (alone (document_of s v doc)))
keeps_scan X Y holds k s v doc bytes (split.Memory a) before part scans = tt
keeps_scan X Y holds k s v doc bytes split.BadMagic before part scans = absurd scans
keeps_scan X Y holds k s v doc bytes (split.Truncated at) before part scans = absurd scans
keeps_scan X Y holds k s v doc bytes (split.BadSection number) before part scans =
    stops before (document_of s v doc) (split.BadSection number) (document_stops s v doc bytes scans.1 part scans.2 ∙ ap (λ (n : ℕ). bad n) (sym scans.0))
  where
    bad : ℕ → Result Placed SplitError
    bad n = Err (split.BadSection n)
keeps_scan X Y holds k s v doc bytes (split.BadVersion version) before part scans = absurd scans

-- whose partition does not read
pub keeps_partition : (X : Type 0) (k : KeptDocuments) (s : Schema) (v : SplitView) (doc place : ℕ) (x : ℕ × List DocField) (e : SplitError) (before : List Placed) → document_of s v doc ≡ with_partition v.footer.now v.layout.partitions place x
    → MayGive {X = List ℕ} {Y = List ℕ} (λ p. p) (Err e) (partition_in v.footer.now v.layout.partitions place) → Keeps {X = X} k s (Err e) (behind (Ok before) (alone (document_of s v doc)))
keeps_partition X k s v doc place x e before is gives = by e gives
  where
    at : (f : SplitError) → partition_in v.footer.now v.layout.partitions place ≡ Err f → document_of s v doc ≡ Err f
    at f part = is ∙ ap (λ (r : Result (List ℕ) SplitError). and_then r (λ n. Ok (placed_at n x))) part

    by : (f : SplitError) → MayGive {X = List ℕ} {Y = List ℕ} (λ p. p) (Err f) (partition_in v.footer.now v.layout.partitions place) → Keeps {X = X} k s (Err f) (behind (Ok before) (alone (document_of s v doc)))
    by (split.Memory a) part = tt
    by split.BadMagic part = stops before (document_of s v doc) split.BadMagic (at split.BadMagic part)
    by (split.Truncated n) part = stops before (document_of s v doc) (split.Truncated n) (at (split.Truncated n) part)
    by (split.BadSection n) part = stops before (document_of s v doc) (split.BadSection n) (at (split.BadSection n) part)
    by (split.BadVersion n) part = stops before (document_of s v doc) (split.BadVersion n) (at (split.BadVersion n) part)
