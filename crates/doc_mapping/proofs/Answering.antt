-- The answer by what the bytes are.
use Rattle.std.proofs.Common.{◌≡◌, ℕ, ◌≤◌, nat_le, nat_lt, Bool, true, false, List, [], length, slice_get, Option, Some, None, Result, Ok, Err, refl, ap, sym, ◌∙◌, subst, arith, inl, inr, IsTrue}
use Rattle.std.specs.Prelude.{MatchOption, unwrap_or}
use Rattle.std.specs.Result.{MatchResult, IfOk}
use Rattle.std.specs.Str.{is_utf8, IsUtf8}
use Rattle.std.specs.declared.alloc.AllocError.{AllocError}
use Rattle.std.proofs.lemmas.Bool.{cases_Bool}
use Rattle.std.proofs.lemmas.Bool.Decides.{nat_tests}
use Rattle.std.proofs.lemmas.Str.{IsUtf8-from_is_utf8, is_utf8-from_IsUtf8}
use Rattle.serde_json.specs.Data.{Data, Members, depth}
use Rattle.serde_json.specs.Find.{as_object}
use Rattle.serde_json.specs.Read.{read}
use Rattle.doc_value.specs.declared.doc.Value.{Value}
use Rattle.doc_value.specs.declared.doc.DocField.{DocField}
use Rattle.dynamic_paths.specs.Leaves.{leaf_list}
use Rattle.index_config.specs.declared.config.IndexConfig.{IndexConfig}
use Rattle.doc_mapping.specs.declared.reject.Reject.{Reject}
use Rattle.doc_mapping.specs.declared.reject.Reject.TheVariants.{NotJson}
use Rattle.doc_mapping.specs.Answer.{answer, read_answer, counted_answer, fitting_answer, leaf_fault, leaf_fault_by, timed_answer, max_record, max_levels, IsMemory}
use Rattle.doc_mapping.specs.Documents.{leaf_values, doc_from, doc_of}
use Rattle.doc_mapping.specs.Faults.{inner_fault}
use Rattle.doc_mapping.specs.Walk.{AreRegular, GatherInner, RiseFrom, Enters}
use Rattle.doc_mapping.proofs.Choices.{inner-object}
use Rattle.doc_mapping.specs.Held.{values_at}
use Rattle.doc_mapping.specs.Leaves.{leaves_at}
use Rattle.doc_mapping.proofs.Gathering.{inner_gathered}
use Rattle.doc_mapping.proofs.Recorded.{no_dynamic, with_dynamic}

short : (bytes : List ℕ) → length bytes ≤ 1048576 → nat_lt max_record (length bytes) ≡ false
short bytes h = grind (arith, nat_tests)

pub answer-no_text : (config : IndexConfig) (bytes : List ℕ) → length bytes ≤ 1048576 → ¬ (IsUtf8 bytes) → answer config bytes ≡ Err NotJson
answer-no_text config bytes h lacks =
    elim (cases_Bool (is_utf8 bytes)) [
      | inl is_text ↦ absurd (lacks (IsUtf8-from_is_utf8 bytes is_text))
      | inr not_text ↦ rw (short bytes h, not_text) refl
    ]

pub answer-text : (config : IndexConfig) (bytes text : List ℕ) (o : Option Data) → length bytes ≤ 1048576 → IsUtf8 bytes → text ≡ bytes
    → read text ≡ o → answer config bytes ≡ read_answer config o
answer-text config bytes text o h is_text e r =
    rw (short bytes h, is_utf8-from_IsUtf8 bytes is_text, ← e, r) refl

-- an answer of the value is that of the bytes
pub answered : (result : Result (List DocField) Reject) (x y : Result (List DocField) Reject) → y ≡ x
    → MatchResult result (λ doc. x ≡ Ok doc) (λ refusal. ¬ (IsMemory refusal) → x ≡ Err refusal)
    → MatchResult result (λ doc. y ≡ Ok doc) (λ refusal. ¬ (IsMemory refusal) → y ≡ Err refusal)
answered result x y e h =
    subst (λ (z : Result (List DocField) Reject). MatchResult result (λ doc. z ≡ Ok doc) (λ refusal. ¬ (IsMemory refusal) → z ≡ Err refusal)) (sym e) h

-- the answer of an object that nests to few levels
answer-object : (config : IndexConfig) (d : Data) (ms : Members) → Some ms ≡ as_object d → true ≡ nat_le (depth d) max_levels
    → read_answer config (Some d) ≡ fitting_answer config d (inner_fault config [] d)
answer-object config d ms o deep =
    rw (← o, ← deep) (ap (fitting_answer config d) (sym (inner-object config [] d ms o)))

module _ (config : IndexConfig) (d : Data) where
  abbrev pub Gives : Result (List DocField) Reject → Result (List DocField) Reject → Type 0
  Gives whole out = MatchResult out (λ x. whole ≡ Ok x) (λ refusal. ¬ (IsMemory refusal) → whole ≡ Err refusal)

  gives : (whole out : Result (List DocField) Reject) → out ≡ whole → Gives whole out
  gives whole (Ok x) e = sym e
  gives whole (Err refusal) e = λ memory. sym e

  counted_doc : (doc : List DocField) → leaf_fault config.schema d ≡ None → doc ≡ doc_of config.schema d
      → counted_answer config d (leaf_fault config.schema d) ≡ timed_answer config.timestamp_field doc
  counted_doc doc none made = ap (counted_answer config d) none ∙ ap (timed_answer config.timestamp_field) (sym made)

  -- the answer where no field is for what is not mapped
  pub whole_dropped : (doc : List DocField) (out : Result (List DocField) Reject) → config.schema.dynamic ≡ None
      → doc ≡ doc_from config.schema.dynamic [] 0 config.schema.fields d → out ≡ timed_answer config.timestamp_field doc
      → Gives (counted_answer config d (leaf_fault config.schema d)) out
  whole_dropped doc out none made e =
      gives (counted_answer config d (leaf_fault config.schema d)) out
      (e ∙ sym (counted_doc doc (ap (λ (o : Option ℕ). leaf_fault_by o (leaf_list config.schema d)) none)
      (made ∙ no_dynamic config.schema [] (leaf_values config.schema d) d none)))

  -- the answer with the leaves' texts
  pub whole_kept : (number : ℕ) (vs : List Value) (old new : List DocField) (out : Result (List DocField) Reject)
      → (config.schema.dynamic ≡ Some number) × (leaf_fault config.schema d ≡ None) × (vs ≡ leaf_values config.schema d)
      → old ≡ doc_from config.schema.dynamic [] 0 config.schema.fields d
      → (RiseFrom 0 old → values_at old number ≡ [] → Enters number (leaves_at (slice_get config.schema.fields number) vs) old new)
      → out ≡ timed_answer config.timestamp_field new → Gives (counted_answer config d (leaf_fault config.schema d)) out
  whole_kept number vs old new out are made enters e =
      gives (counted_answer config d (leaf_fault config.schema d)) out
      (e ∙ sym (counted_doc new are.1 (with_dynamic config.schema vs d number are.0 old new made enters
      ∙ ap (λ (ls : List Value). doc_from config.schema.dynamic ls 0 config.schema.fields d) are.2)))

-- the document is what was looked for, or else what was gathered
the_doc : (made parts : List DocField) (regular : Bool) (o : Option (List DocField)) → MatchOption o (IsTrue regular) (λ doc. doc ≡ made)
    → (IsTrue regular → parts ≡ made) → unwrap_or o parts ≡ made
the_doc made parts regular None h gathered = gathered h
the_doc made parts regular (Some doc) h gathered = h

-- the answer of a record in which the walk found nothing to refuse
pub ended : (config : IndexConfig) (d : Data) (ms : Members) → Some ms ≡ as_object d → true ≡ nat_le (depth d) max_levels → (regular : Bool) (o : Option (List DocField))
    (old new doc : List DocField) (r : Result (Option Reject) AllocError) (out : Result (List DocField) Reject)
    → MatchOption o (IsTrue regular) (λ x. x ≡ doc_from config.schema.dynamic [] 0 config.schema.fields d) → old ≡ [] → (IsTrue regular → AreRegular config.schema.fields)
    → IfOk r (λ fault. fault ≡ inner_fault config [] d) → IfOk r (λ fault. fault ≡ None → GatherInner config.schema [] (as_object d) old new)
    → r ≡ Ok None → doc ≡ unwrap_or o new
    → (doc ≡ doc_from config.schema.dynamic [] 0 config.schema.fields d → Gives config d (counted_answer config d (leaf_fault config.schema d)) out)
    → Gives config d (read_answer config (Some d)) out
ended config d ms there deep regular o old new doc r out looked empty rising fault gathers said made whole =
    let fits : None ≡ inner_fault config [] d = subst (λ (q : Result (Option Reject) AllocError). IfOk q (λ x. x ≡ inner_fault config [] d)) said fault in
    let inner : GatherInner config.schema [] (as_object d) old new =
    subst (λ (q : Result (Option Reject) AllocError). IfOk q (λ x. x ≡ None → GatherInner config.schema [] (as_object d) old new)) said gathers refl in
    let mapped : doc ≡ doc_from config.schema.dynamic [] 0 config.schema.fields d =
    made ∙ the_doc (doc_from config.schema.dynamic [] 0 config.schema.fields d) new regular o looked (λ is. inner_gathered config.schema d ms old new there empty inner (rising is)) in
    subst (λ (x : Result (List DocField) Reject). Gives config d x out)
    (sym (answer-object config d ms there deep ∙ ap (fitting_answer config d) (sym fits))) (whole mapped)
