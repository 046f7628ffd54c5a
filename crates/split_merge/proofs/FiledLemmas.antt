-- The file of documents that are kept.
use Rattle.std.proofs.Common.{◌≡◌, ℕ, zero, suc, ◌+◌, ◌<◌, ◌^◌, List, [], ◌∷◌, ◌++◌, length, min, refl, sym, ap, subst, ◌∙◌, arith}
use Rattle.std.specs.Prelude.{Option}
use Rattle.sha2.specs.Sha256.{sha256}
use Rattle.doc_value.specs.declared.schema.Schema.{Schema}
use Rattle.doc_value.specs.Documents.{IsSchema}
use Rattle.split_states.specs.declared.facts.Times.{Times}
use Rattle.split_bundle.specs.declared.placed.Placed.{Placed}
use Rattle.split_bundle.specs.Columns.{fast_fields}
use Rattle.split_bundle.specs.Documents.{documents_section, total_weight}
use Rattle.split_bundle.specs.Splits.{AreDocumentsOf, IsSplit}
use Rattle.split_build.specs.declared.builder.BuiltSplit.{BuiltSplit}
use Rattle.split_build.specs.declared.file.FileBegun.{FileBegun}
use Rattle.split_build.specs.Bodies.{body_of}
use Rattle.split_build.specs.Builders.{IsBuilt}
use Rattle.split_build.specs.Facts.{AreFacts}
use Rattle.split_build.specs.Filed.{IsFileOf, begun_parts}
use Rattle.split_build.specs.Limits.{AreWithin, most}
use Rattle.split_build.specs.Tags.{AreTagsOf}
use Rattle.split_bundle.specs.Tagged.{tag_numbers}
use Rattle.split_build.specs.Times.{AreTimes, seconds_in}
use Rattle.split_build.specs.WrittenTerms.{AreTermParts}
use Rattle.split_build.proofs.TakenLemmas.{body_weighs, weight_more}
use Rattle.split_merge.specs.declared.kept.KeptDocuments.{KeptDocuments}
use Rattle.split_merge.specs.Kept.{AreSectionsOf, AreToWrite, HasKept}
use Rattle.split_merge.specs.Merging.{HoldsDocuments}
use Rattle.split_merge.proofs.CellGains.{all_columns}

-- ---- a document more

pub weighs_more : (ds : List Placed) (d : Placed) (body : List ℕ) (old new : ℕ) → body ≡ body_of d → old ≡ min (total_weight ds) most → new ≡ min (old + (257 + length body)) most → new ≡ min (total_weight (ds ++ d ∷ [])) most
weighs_more ds d body old new is old_is new_is = omega (arith, old_is, new_is, weight_more ds d, body_weighs d body is)

-- ---- the file

-- so many keys
pub so_many : ℕ → List (List ℕ)
so_many zero = []
so_many (suc n) = [] ∷ so_many n

pub length-so_many : (n : ℕ) → length (so_many n) ≡ n
unfolding so_many
length-so_many zero = refl
length-so_many (suc n) = ap suc (length-so_many n)

module _ (s : Schema) (ds : List Placed) (k : KeptDocuments) (schema : IsSchema s) (h : HasKept k s ds) (within : AreWithin ds) where
  are_documents : AreDocumentsOf s ds
  are_documents = record { schema = schema; of_schema = h.of_schema; held = h.held; light = within.light }

  pub to_write : AreToWrite s ds k.documents k.facts.columns.items
  to_write = record { are_documents = are_documents; bodies = h.bodies; columns_are = all_columns ds (fast_fields s) k.facts.columns.items h.facts.columns }

  weight_is : k.weight ≡ total_weight ds
  weight_is = omega (arith, h.weight, within.light)

  pub are_facts : (r : BuiltSplit) (file : List ℕ) → r.bytes ≡ file → r.facts.docs ≡ k.facts.count → r.facts.rejected ≡ 0 → r.facts.weight ≡ k.weight → r.facts.size ≡ length file → r.facts.digest ≡ sha256 file → r.facts.times ≡ k.facts.times
      → AreTagsOf ds (tag_numbers 0 s.fields) r.facts.tags → AreFacts s ds 0 r.bytes r.facts
  are_facts r file bytes count rejected heavy size digest times tags = record {
    docs = count ∙ h.facts.count;
    rejected_are = rejected;
    weight = heavy ∙ weight_is;
    size = size ∙ sym (ap (λ (l : List ℕ). length l) bytes);
    digest = digest ∙ sym (ap (λ (l : List ℕ). sha256 l) bytes);
    times = subst (λ (t : Option Times). AreTimes (seconds_in s.timestamp ds) t) (sym times) h.facts.times;
    tags = tags;
  }

  pub holds_documents : (r : BuiltSplit) (file : List ℕ) (f : FileBegun) (keys : List (List ℕ)) → r.bytes ≡ file → AreFacts s ds 0 r.bytes r.facts → f.docs ≡ k.facts.count → AreSectionsOf s ds f
      → IsFileOf (begun_parts f (documents_section f.partitions.items ds) keys) file → HoldsDocuments s ds r
  holds_documents r file f keys bytes facts docs sections is = record {
    parts = begun_parts f (documents_section f.partitions.items ds) keys;
    bytes_are = bytes ∙ is.bytes;
    docs = docs ∙ h.facts.count;
    partitions = sections.partitions;
    documents_are = refl;
    columns = sections.columns;
    facts = facts;
    within = within;
  }

  is_split : (file : List ℕ) (f : FileBegun) (terms : AreTermParts s ds f.terms) → f.docs ≡ k.facts.count → AreSectionsOf s ds f → IsFileOf (begun_parts f (documents_section f.partitions.items ds) terms.keys) file → length file < 2 ^ 64 → IsSplit s file ds
  is_split file f terms docs sections is small = record {
    parts = begun_parts f (documents_section f.partitions.items ds) terms.keys;
    bytes_are = is.bytes;
    is_split = record {
      are_documents = are_documents;
      docs = docs ∙ h.facts.count;
      partitions = sections.partitions;
      documents_are = refl;
      keys = terms.are_keys;
      dictionary = terms.dictionary;
      lists = terms.lists;
      postings = terms.postings;
      positions = terms.positions;
      columns = sections.columns;
      numbers = is.numbers;
      size = subst (λ (l : List ℕ). length l < 2 ^ 64) is.bytes small;
    };
  }

  pub is_built : (r : BuiltSplit) (file : List ℕ) (f : FileBegun) (terms : AreTermParts s ds f.terms) → r.bytes ≡ file → AreFacts s ds 0 r.bytes r.facts → f.docs ≡ k.facts.count → AreSectionsOf s ds f
      → IsFileOf (begun_parts f (documents_section f.partitions.items ds) terms.keys) file → length file < 2 ^ 64 → IsBuilt s ds r
  is_built r file f terms bytes facts docs sections is small = record {
    split = subst (λ (l : List ℕ). IsSplit s l ds) (sym bytes) (is_split file f terms docs sections is small);
    facts = facts;
    within = within;
  }
