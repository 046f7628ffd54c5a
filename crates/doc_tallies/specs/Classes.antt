-- Classes of documents that count alike for an aggregation.
use Rattle.std.specs.Prelude.{◌≡◌, ℕ, ℤ, ◌+◌, ◌*◌, ◌<◌, ◌⊎◌, Bool, List, [], length, replicate, Option, Some, slice_get, slice_set, count_by, if◌then◌else◌}
use Rattle.std.specs.List.{All, flat_map, sum_by}
use Rattle.std.specs.Option.{option_map, option_map_or}
use Rattle.doc_value.specs.declared.doc.DocField.{DocField}
use Rattle.doc_value.specs.declared.schema.Kind.{Kind}
use Rattle.agg_model.specs.Counting.{first_whole, step_of}
use Rattle.doc_value.specs.Documents.{values_in}
use Rattle.agg_model.specs.declared.request.Agg.{Agg}
use Rattle.agg_model.specs.declared.request.Agg.TheVariants.{Terms, Histogram}
use Rattle.fast_fields.specs.declared.entries.Entry.{Entry}
use Rattle.split_bundle.specs.declared.placed.Placed.{Placed}
use Rattle.doc_tallies.specs.declared.classes.Class.{Class}
use Rattle.doc_tallies.specs.Marks.{mark_at}
use Rattle.doc_tallies.specs.Picked.{docs_of, picked}

-- how many documents some classes have
abbrev pub class_sum : List Class → ℕ
class_sum classes = sum_by (λ c. c.count) classes

-- how many of them pass a test, by one document of each
abbrev pub weighed : (ℕ → Bool) → List Class → ℕ
weighed q classes = sum_by (λ c. c.count * (if q c.sample then 1 else 0)) classes

-- so many documents, of which this is one, were counted in a class of their mark, or in one that had none
pub record IsCounted (mark : Option ℤ) (more document : ℕ) (old new : List Class) : Type 0 where
  pub place : ℕ
  pub class : Class
  pub here : slice_get old place ≡ Some class
  pub admits : (class.count ≡ 0) ⊎ (class.mark ≡ mark)
  pub now : new ≡ slice_set old place (record { mark = mark; count = class.count + more; sample = document })

-- documents below a bound pass a test alike where their marks are the same
abbrev pub Respects : Agg → Kind → List Entry → ℕ → (ℕ → Bool) → Type 0
Respects agg kind entries bound q =
    (n m : ℕ) → n < bound → m < bound → mark_at agg kind entries n ≡ mark_at agg kind entries m → q n ≡ q m

-- a class that has documents has one below the bound, whose mark is its own
abbrev pub IsMarked : Agg → Kind → List Entry → ℕ → Class → Type 0
IsMarked agg kind entries bound c = (c.count ≡ 0) ⊎ ((c.sample < bound) × (c.mark ≡ mark_at agg kind entries c.sample))

-- classes of documents, of which each has the mark of its class
pub record AreClasses (agg : Agg) (kind : Kind) (entries : List Entry) (bound : ℕ) (numbers : List ℕ) (classes : List Class) : Type 0 where
  pub marked : All (IsMarked agg kind entries bound) classes
  pub weights : (q : ℕ → Bool) → Respects agg kind entries bound q → weighed q classes ≡ count_by q numbers

-- the documents of some classes were added to others
pub record IsRegrouped (agg : Agg) (kind : Kind) (entries : List Entry) (bound : ℕ) (cells old new : List Class) : Type 0 where
  pub marked : All (IsMarked agg kind entries bound) new
  pub weights : (q : ℕ → Bool) → Respects agg kind entries bound q → weighed q new ≡ weighed q old + weighed q cells

-- the document with a number, or one that says nothing
abbrev pub doc_at : List Placed → ℕ → List DocField
doc_at documents n = option_map_or (λ d. d.doc) (slice_get documents n) []

-- the documents of some classes, each as one of its class
abbrev pub spread : List Placed → List Class → List (List DocField)
spread documents classes = flat_map (λ c. replicate c.count (doc_at documents c.sample)) classes

-- a class that has documents has one of these
abbrev pub IsAmong : List Placed → Class → Type 0
IsAmong documents c = (c.count ≡ 0) ⊎ (c.sample < length documents)

-- two documents count alike: by all values of the field, or by the step of the first
abbrev pub CountAlike : Agg → List DocField → List DocField → Type 0
CountAlike (Terms field size) a b = values_in a field ≡ values_in b field
CountAlike (Histogram field interval offset least dated) a b =
    option_map (step_of interval offset) (first_whole field a) ≡ option_map (step_of interval offset) (first_whole field b)

-- a test that documents which count alike pass alike
abbrev pub RespectsDocs : Agg → (List DocField → Bool) → Type 0
RespectsDocs agg p = (a b : List DocField) → CountAlike agg a b → p a ≡ p b

-- classes of the documents of some numbers: as many pass each such test
pub record GroupsAlike (agg : Agg) (documents : List Placed) (numbers : List ℕ) (classes : List Class) : Type 0 where
  pub among : All (IsAmong documents) classes
  pub weights : (p : List DocField → Bool) → RespectsDocs agg p → count_by p (spread documents classes) ≡ count_by p (docs_of (picked numbers documents))
