-- Values that are the same are equal, and a value counts once for a document.
use Rattle.std.proofs.Common.{◌≡◌, ℕ, ◌<◌, ◌+◌, Bool, true, false, cond, List, Option, Some, None, refl, sym, ◌∙◌, ap, subst, get_or, take, length, arith, eqb, pos, ◌||◌, add-zero}
use Rattle.std.proofs.lemmas.Bool.{eqb-true}
use Rattle.std.proofs.lemmas.Bool.Decides.{Decides-int_eq}
use Rattle.std.proofs.lemmas.Slice.Eq.{bytes_eq-Decides}
use Rattle.std.proofs.lemmas.List.Folds.{list_any_more}
use Rattle.std.proofs.lemmas.List.Sums.{sum_by_push}
use Rattle.std.proofs.lemmas.Option.{IfSome_then}
use Rattle.std.specs.BTreeMap.{get}
use Rattle.std.specs.List.{list_any}
use Rattle.std.specs.Option.{IfSome}
use Rattle.std.specs.Ordering.{int_cmp}
use Rattle.doc_value.specs.declared.doc.DocField.{DocField}
use Rattle.doc_value.specs.declared.doc.Value.{Value}
use Rattle.agg_model.specs.Counting.{Slot, text, signed, unsigned, truth, datetime, slot_of, same_slot, has_value, value_count}
use Rattle.doc_value.specs.Documents.{values_in}
use Rattle.agg_model.specs.Tallies.{raised}
use Rattle.agg_model.specs.Partials.{IsSlotOfValue, IsTally, IsStep, IsPart, AreRaised, IsCollected, tally_at, tallied, in_step}
use Rattle.agg_model.specs.declared.counts.Counts.{Counts}
use Rattle.agg_model.specs.declared.request.Agg.TheVariants.{Terms}
use Rattle.agg_model.specs.declared.tallies.Tally.{Tally}

pub same_slot_is : (a b : Slot) → same_slot a b ≡ true → a ≡ b
same_slot_is (text a) (text b) h = ap text ((bytes_eq-Decides a b).0 h)
same_slot_is (signed a) (signed b) h = ap signed ((Decides-int_eq a b).0 h)
same_slot_is (unsigned a) (unsigned b) h = ap unsigned ((Decides-int_eq a b).0 h)
same_slot_is (truth a) (truth b) h = ap truth ((Decides-int_eq a b).0 h)
same_slot_is (datetime a) (datetime b) h = ap datetime ((Decides-int_eq a b).0 h)
same_slot_is a b h = cc

-- a document counts once
pub raised_twice : (number : ℕ) (o : Option Tally) → raised number (Some (raised number o)) ≡ raised number o
raised_twice number None = grind arith
raised_twice number (Some t) = grind arith

-- one more value of a document
pub raised_more : (number : ℕ) (vs : List Value) (i : ℕ) (x : Value) (was now new : Slot → Option Tally)
    → ((s : Slot) → now s ≡ cond (list_any (λ w. same_slot (slot_of w) s) (take i vs)) (Some (raised number (was s))) (was s))
    → ((s : Slot) → new s ≡ cond (same_slot (slot_of x) s) (Some (raised number (now (slot_of x)))) (now s))
    → i < length vs → x ≡ get_or vs i x
    → (s : Slot) → new s ≡ cond (list_any (λ w. same_slot (slot_of w) s) (take (i + 1) vs)) (Some (raised number (was s))) (was s)
raised_more number vs i x was now new before step within at s =
    let more : list_any (λ w. same_slot (slot_of w) s) (take (i + 1) vs) ≡ (list_any (λ w. same_slot (slot_of w) s) (take i vs) || same_slot (slot_of (get_or vs i x)) s) = list_any_more (λ w. same_slot (slot_of w) s) vs i x within in
    rw (more, ← at, step s) (more_at (list_any (λ w. same_slot (slot_of w) s) (take i vs)) (same_slot (slot_of x) s) refl (before s))
  where
    more_at : (b t : Bool) → t ≡ same_slot (slot_of x) s → now s ≡ cond b (Some (raised number (was s))) (was s)
        → cond t (Some (raised number (now (slot_of x)))) (now s) ≡ cond (b || t) (Some (raised number (was s))) (was s)
    more_at true true e h = ap (λ w. Some (raised number (now w))) (same_slot_is (slot_of x) s (sym e)) ∙ ap (λ o. Some (raised number o)) h ∙ ap Some (raised_twice number (was s))
    more_at false true e h = ap (λ w. Some (raised number (now w))) (same_slot_is (slot_of x) s (sym e)) ∙ ap (λ o. Some (raised number o)) h
    more_at true false e h = h
    more_at false false e h = h

-- the tally of a document more
raised_tally : (documents : ℕ) (slot : Slot) (o : Option Tally) → IsSlotOfValue slot → IfSome o (IsTally documents slot) → IsTally (documents + 1) slot (raised (documents + 1) o)
raised_tally documents slot None fits h = record { fits = fits; some = omega arith; most = omega arith; last = omega arith }
raised_tally documents slot (Some t) fits h = at (eqb t.last (documents + 1)) refl
  where
    at : (b : Bool) → b ≡ eqb t.last (documents + 1) → IsTally (documents + 1) slot (cond b t (record { count = t.count + 1; last = documents + 1 }))
    at true e = record { fits = fits; some = h.some; most = omega arith; last = omega arith }
    at false e = record { fits = fits; some = omega arith; most = omega arith; last = omega arith }

raised_count : (documents : ℕ) (slot : Slot) (o : Option Tally) → IfSome o (IsTally documents slot) → (raised (documents + 1) o).count ≡ tallied o + 1
raised_count documents slot None h = refl
raised_count documents slot (Some t) h = at (eqb t.last (documents + 1)) refl
  where
    at : (b : Bool) → b ≡ eqb t.last (documents + 1) → (cond b t (record { count = t.count + 1; last = documents + 1 })).count ≡ t.count + 1
    at true e = absurd (let same : t.last ≡ documents + 1 = eqb-true t.last (documents + 1) (sym e) in let low = h.last in omega arith)
    at false e = refl

-- one more document among the values of a field
pub terms_collected : (documents field size : ℕ) (doc : List DocField) (old new : Counts)
    → AreRaised (documents + 1) (values_in doc field) old new → IsPart documents (Terms field size) old → IsCollected documents doc (Terms field size) old new
terms_collected documents field size doc old new more before = record {
  part = record {
    tallies = λ slot. rw (more.tallies slot) (part_at slot (list_any (λ v. same_slot (slot_of v) slot) (values_in doc field)) (tally_at old slot) (more.slots slot) (before.tallies slot));
    steps = λ step. subst (λ s. IfSome (get int_cmp s step) (IsStep (documents + 1) (pos 1) (pos 0) step)) (sym more.steps)
        (IfSome_then (in_step old step) (before.steps step) (λ n s. record { some = s.some; most = omega arith; place = s.place }));
  };
  counts = λ ds h value. rw (more.tallies (slot_of value), sum_by_push (λ d. cond (has_value field value d) 1 0) ds doc)
      (count_at (slot_of value) (has_value field value doc) (tally_at old (slot_of value)) (before.tallies (slot_of value)) (value_count field ds value) (h value));
}
  where
    part_at : (slot : Slot) (b : Bool) (o : Option Tally) → (b ≡ true → IsSlotOfValue slot) → IfSome o (IsTally documents slot) → IfSome (cond b (Some (raised (documents + 1) o)) o) (IsTally (documents + 1) slot)
    part_at slot true o fits h = raised_tally documents slot o (fits refl) h
    part_at slot false o fits h = IfSome_then o h (λ t s. record { fits = s.fits; some = s.some; most = omega arith; last = omega arith })

    count_at : (slot : Slot) (b : Bool) (o : Option Tally) → IfSome o (IsTally documents slot) → (n : ℕ) → tallied o ≡ n → tallied (cond b (Some (raised (documents + 1) o)) o) ≡ n + cond b 1 0
    count_at slot true o h n e = raised_count documents slot o h ∙ ap (λ k. k + 1) e
    count_at slot false o h n e = e ∙ sym (add-zero n)

-- the slots of one more value
pub slots_more : (vs : List Value) (i : ℕ) (x : Value) → i < length vs → x ≡ get_or vs i x → IsSlotOfValue (slot_of x)
    → ((s : Slot) → list_any (λ w. same_slot (slot_of w) s) (take i vs) ≡ true → IsSlotOfValue s)
    → (s : Slot) → list_any (λ w. same_slot (slot_of w) s) (take (i + 1) vs) ≡ true → IsSlotOfValue s
slots_more vs i x within at own before s h =
    let more : list_any (λ w. same_slot (slot_of w) s) (take (i + 1) vs) ≡ (list_any (λ w. same_slot (slot_of w) s) (take i vs) || same_slot (slot_of (get_or vs i x)) s) = list_any_more (λ w. same_slot (slot_of w) s) vs i x within in
    by_case (list_any (λ w. same_slot (slot_of w) s) (take i vs)) refl (sym more ∙ h)
  where
    by_case : (b : Bool) → b ≡ list_any (λ w. same_slot (slot_of w) s) (take i vs) → (b || same_slot (slot_of (get_or vs i x)) s) ≡ true → IsSlotOfValue s
    by_case true e k = before s (sym e)
    by_case false e k = subst IsSlotOfValue (ap slot_of at ∙ same_slot_is (slot_of (get_or vs i x)) s k) own
