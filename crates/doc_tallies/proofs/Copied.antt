-- Documents that are counted as others with the same values.
use Rattle.std.proofs.Common.{◌≡◌, ℕ, ◌+◌, ◌*◌, Bool, false, cond, List, [], ◌∷◌, ◌++◌, length, slice_get, replicate, count_by, ap, sym, ◌∙◌, length-append}
use Rattle.std.specs.List.{AllZip, list_any}
use Rattle.std.specs.Option.{option_map_or, option_and_then}
use Rattle.std.specs.Ordering.{int_eq}
use Rattle.std.proofs.lemmas.List.{length-replicate, replicate-append-replicate}
use Rattle.std.proofs.lemmas.List.Folds.{sum_by-replicate}
use Rattle.std.proofs.lemmas.List.Sums.{sum_by-append}
use Rattle.doc_value.specs.declared.doc.DocField.{DocField}
use Rattle.doc_value.specs.declared.doc.Value.{Value}
use Rattle.agg_model.specs.Counting.{has_value, is_same, lies_in, step_of, whole}
use Rattle.doc_value.specs.Documents.{values_in}
use Rattle.agg_model.specs.Checking.{field_of}
use Rattle.agg_model.specs.Partials.{CountsFor, StandsFor}
use Rattle.agg_model.specs.declared.request.Agg.{Agg}
use Rattle.agg_model.specs.declared.request.Agg.TheVariants.{Terms, Histogram}
use Rattle.agg_model.specs.declared.request.NamedAgg.{NamedAgg}
use Rattle.agg_model.specs.declared.counts.Counts.{Counts}
use Rattle.agg_model.specs.declared.partial.Partial.{Partial}
use Rattle.doc_tallies.specs.AggColumns.{HasValuesOf}
use Rattle.doc_tallies.specs.Counted.{agg_fields}

count_copies : (p : List DocField → Bool) (ds : List (List DocField)) (n : ℕ) (x y : List DocField) → p x ≡ p y → count_by p (ds ++ replicate n x) ≡ count_by p (ds ++ replicate n y)
count_copies p ds n x y e =
    let f = λ (d : List DocField). cond (p d) 1 0 in
    sum_by-append f ds (replicate n x)
    ∙ (ap (λ (k : ℕ). count_by p ds + k) (sum_by-replicate f n x ∙ (ap (λ (b : Bool). n * cond b 1 0) e ∙ sym (sum_by-replicate f n y)))
    ∙ sym (sum_by-append f ds (replicate n y)))

counts_copies : (agg : Agg) (counts : Counts) (ds : List (List DocField)) (n : ℕ) (shown doc : List DocField) → values_in shown (field_of agg) ≡ values_in doc (field_of agg) → CountsFor agg counts (ds ++ replicate n shown)
    → CountsFor agg counts (ds ++ replicate n doc)
counts_copies (Terms field size) counts ds n shown doc e counted = λ value.
    counted value ∙ count_copies (has_value field value) ds n shown doc (ap (λ (vs : List Value). list_any (λ v. is_same v value) vs) e)
counts_copies (Histogram field interval offset least dated) counts ds n shown doc e counted = λ step.
    counted step ∙ count_copies (lies_in field interval offset step) ds n shown doc
    (ap (λ (vs : List Value). option_map_or (λ z. int_eq (step_of interval offset z) step) (option_and_then whole (slice_get vs 0)) false) e)

parts_copies : (request : List NamedAgg) (parts : List Counts) (ds : List (List DocField)) (n : ℕ) (shown doc : List DocField) → HasValuesOf (agg_fields request) doc shown
    → AllZip (λ named counts. CountsFor named.agg counts (ds ++ replicate n shown)) request parts → AllZip (λ named counts. CountsFor named.agg counts (ds ++ replicate n doc)) request parts
parts_copies [] [] ds n shown doc same counted = tt
parts_copies [] (c ∷ cs) ds n shown doc same counted = absurd counted
parts_copies (a ∷ rest) [] ds n shown doc same counted = absurd counted
parts_copies (a ∷ rest) (c ∷ cs) ds n shown doc same counted = (counts_copies a.agg c ds n shown doc same.0 counted.0, parts_copies rest cs ds n shown doc same.1 counted.1)

length_copies : (ds : List (List DocField)) (n : ℕ) (x y : List DocField) → length (ds ++ replicate n x) ≡ length (ds ++ replicate n y)
length_copies ds n x y =
    length-append ds (replicate n x) ∙ (ap (λ (k : ℕ). length ds + k) (length-replicate n x ∙ sym (length-replicate n y)) ∙ sym (length-append ds (replicate n y)))

-- a partial stands for documents in the place of their values
pub stands_copies : (request : List NamedAgg) (partial : Partial) (ds : List (List DocField)) (n : ℕ) (shown doc : List DocField) → HasValuesOf (agg_fields request) doc shown → StandsFor request partial (ds ++ replicate n shown)
    → StandsFor request partial (ds ++ replicate n doc)
stands_copies request partial ds n shown doc same stands = record {
  many = stands.many ∙ length_copies ds n shown doc;
  parts = parts_copies request partial.parts.items ds n shown doc same stands.parts;
}

-- ---- copies

pub twice : {X : Type 0} (n times : ℕ) (x : X) → n + n ≡ times → replicate n x ++ replicate n x ≡ replicate times x
twice n times x e = replicate-append-replicate n n x ∙ ap (λ (k : ℕ). replicate k x) e

pub twice_more : {X : Type 0} (n times : ℕ) (x : X) → n + n + 1 ≡ times → (replicate n x ++ replicate n x) ++ x ∷ [] ≡ replicate times x
twice_more n times x e =
    ap (λ xs. xs ++ x ∷ []) (replicate-append-replicate n n x) ∙ (replicate-append-replicate (n + n) 1 x ∙ ap (λ (k : ℕ). replicate k x) e)
