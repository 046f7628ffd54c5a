-- The facts of a split that was made of what was read of any files can be spelled in an entry.
use Rattle.std.proofs.Common.{ℕ, ◌^◌, ◌<◌, ◌≤◌, List, length, None, Ok, Err, Result, sym, ap, ◌∙◌, subst, arith}
use Rattle.std.specs.List.{AllByRecursion}
use Rattle.sha2.proofs.Facts256.{length-sha256}
use Rattle.doc_value.specs.declared.facts.FieldTags.{FieldTags}
use Rattle.doc_value.specs.declared.schema.Schema.{Schema}
use Rattle.meta_journal.specs.Spelling.{IsIfGiven, CanSpellTimes, CanSpellField, CanSpellFacts, IsFieldBelow, Rises}
use Rattle.split_build.specs.declared.builder.BuiltSplit.{BuiltSplit}
use Rattle.split_bundle.specs.declared.placed.Placed.{Placed}
use Rattle.split_laws.proofs.Spelling.{fields_can, fields_rise, fields_few}
use Rattle.split_laws.proofs.Tags.{field_tags_one}
use Rattle.split_merge.specs.Merging.{HoldsDocuments, MergesAs}
use Rattle.split_merge.specs.Reading.{read_kept}
use Rattle.split_merge.specs.declared.merge_error.MergeError.{MergeError}
use Rattle.upkeep_run.specs.Judging.{MergesFiles}

merged_can : (s : Schema) (documents : List Placed) (b : BuiltSplit) → length s.fields ≤ 256 → HoldsDocuments s documents b → b.facts.size < 2 ^ 64 → IsIfGiven CanSpellTimes b.facts.times → CanSpellFacts b.facts
merged_can s documents b few h size times =
    let one = field_tags_one s.fields documents b.facts.tags h.facts.tags in
    record {
      docs = (let d = h.facts.docs in let f = h.within.few in omega (arith, d, f));
      rejected = (let r = h.facts.rejected_are in omega (arith, r));
      weight = (let w = h.facts.weight in let l = h.within.light in omega (arith, w, l));
      size = size;
      digest = ap (λ (d : List ℕ). length d) h.facts.digest ∙ length-sha256 b.bytes;
      times = times;
      tags = subst (λ (ts : List FieldTags). (length ts < 2 ^ 64) × AllByRecursion CanSpellField ts) (sym one)
          (let count = fields_few documents 0 s.fields in omega (arith, count, few), fields_can documents 0 s.fields (omega (arith, few)));
      rising = subst (λ (ts : List FieldTags). Rises IsFieldBelow ts) (sym one) (fields_rise documents None 0 s.fields tt);
    }

pub files_can : (s : Schema) (dropped : List ℕ) (files : List (List ℕ)) (b : BuiltSplit) → length s.fields ≤ 256 → MergesFiles s dropped files (Ok b) → b.facts.size < 2 ^ 64 → IsIfGiven CanSpellTimes b.facts.times → CanSpellFacts b.facts
files_can s dropped files b few m size times = by (read_kept s dropped m.0) m.2
  where
    by : (read : Result (List Placed) MergeError) → MergesAs s read (Ok b) → CanSpellFacts b.facts
    by (Ok documents) h = merged_can s documents b few h size times
    by (Err fault) h = absurd h
