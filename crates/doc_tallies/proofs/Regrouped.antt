-- Documents in classes of those that count alike.
use Rattle.std.proofs.Common.{◌≡◌, ℕ, ℤ, pos, ◌+◌, ◌*◌, ◌<◌, inl, inr, Bool, true, false, cond, List, [], ◌∷◌, ◌++◌, take, get_or, length, slice_get, replicate, Option, Some, None, if◌then◌else◌, count_by, refl, ap, sym, subst, ◌∙◌, arith, length-append, Result, Ok, Err, IfOk, IfSome}
use Rattle.std.specs.List.{AllByRecursion, AllZip, list_any}
use Rattle.std.specs.Option.{option_map, option_map_or, option_and_then}
use Rattle.std.specs.Ordering.{int_eq}
use Rattle.std.proofs.lemmas.List.{flat_map_more, length-replicate, take_more}
use Rattle.std.proofs.lemmas.List.Elements.{recursion_from_All}
use Rattle.std.proofs.lemmas.List.Folds.{sum_by-replicate}
use Rattle.std.proofs.lemmas.List.Sums.{sum_by-append, sum_by-cons}
use Rattle.doc_value.specs.declared.doc.DocField.{DocField}
use Rattle.doc_value.specs.declared.doc.Value.{Value}
use Rattle.doc_value.specs.declared.schema.Kind.{Kind}
use Rattle.doc_value.specs.declared.schema.Schema.{Schema}
use Rattle.doc_value.specs.Documents.{IsOfSchema, values_in}
use Rattle.agg_model.specs.Counting.{first_whole, has_value, is_same, lies_in, step_of, whole}
use Rattle.agg_model.specs.Checking.{field_of}
use Rattle.agg_model.specs.Partials.{CountsFor, StandsFor}
use Rattle.agg_model.specs.declared.counts.Counts.{Counts}
use Rattle.agg_model.specs.declared.partial.Partial.{Partial}
use Rattle.agg_model.specs.declared.request.Agg.{Agg}
use Rattle.agg_model.specs.declared.request.Agg.TheVariants.{Terms, Histogram}
use Rattle.agg_model.specs.declared.request.NamedAgg.{NamedAgg}
use Rattle.fast_fields.specs.declared.entries.Entry.{Entry}
use Rattle.split_bundle.specs.Held.{IsHeld}
use Rattle.split_bundle.specs.Splits.{AreDocumentsOf}
use Rattle.split_bundle.specs.declared.placed.Placed.{Placed}
use Rattle.doc_tallies.specs.declared.classes.Class.{Class}
use Rattle.doc_tallies.specs.declared.field_column.FieldColumn.{FieldColumn}
use Rattle.doc_tallies.specs.AggColumns.{AreColumnsFor}
use Rattle.doc_tallies.specs.Counted.{agg_fields}
use Rattle.doc_tallies.specs.Cells.{IsColumnFor}
use Rattle.doc_tallies.specs.Classes.{AreClasses, CountAlike, GroupsAlike, IsAmong, RespectsDocs, class_sum, doc_at, spread, weighed}
use Rattle.doc_tallies.specs.Marks.{IsSingle, mark_at, mark_of}
use Rattle.doc_tallies.specs.Picked.{AllBelow, docs_of, picked}
use Rattle.doc_tallies.proofs.FieldValues.{AreValues, are_values, each_at}
use Rattle.doc_tallies.proofs.MarkValues.{first_step, one_or_none, same_ones, step_by}
use Rattle.doc_tallies.proofs.Owned.{Own, first_of, owned}
use Rattle.doc_tallies.proofs.TimeValues.{stands}

-- ---- a document in a column

pub record InColumn (documents : List Placed) (number : ℕ) (kind : Kind) (texts : List (List ℕ)) (entries : List Entry) (n : ℕ) : Type 0 where
  pub document : Placed
  pub here : slice_get documents n ≡ Some document
  pub own : Own texts n (values_in document.doc number) entries
  pub values : AreValues kind (values_in document.doc number)

pub in_column : (s : Schema) (documents : List Placed) (number : ℕ) (c : FieldColumn) (n : ℕ) → AreDocumentsOf s documents → (is : IsColumnFor s documents number c) → n < length documents
    → InColumn documents number c.kind is.is_of.texts is.is_of.entries n
in_column s documents number c n of is lt =
    let at = stands documents n lt in
    let d = at.document in
    let vs = values_in d.doc number in
    let values = are_values s number is.field d.doc is.here (each_at (λ (x : Placed). IsOfSchema s x.doc) documents n d of.of_schema at.here) (each_at IsHeld documents n d of.held at.here).doc in
    record {
      document = d;
      here = at.here;
      own = owned is.is_of.texts number n documents d is.is_of.entries is.is_of.are_entries at.here;
      values = subst (λ (k : Kind). AreValues k vs) (sym is.kind_is) values;
    }

pub doc_is : (documents : List Placed) (n : ℕ) (d : Placed) → slice_get documents n ≡ Some d → doc_at documents n ≡ d.doc
doc_is documents n d here = rw here refl

-- ---- documents of one mark

same_by_terms : (documents : List Placed) (field size : ℕ) (kind : Kind) (texts : List (List ℕ)) (entries : List Entry) (n m : ℕ) → IsSingle kind → InColumn documents field kind texts entries n → InColumn documents field kind texts entries m
    → mark_at (Terms field size) kind entries n ≡ mark_at (Terms field size) kind entries m → values_in (doc_at documents n) field ≡ values_in (doc_at documents m) field
same_by_terms documents field size kind texts entries n m single a b e =
    let mine = one_or_none texts n kind (values_in a.document.doc field) a.own.own single a.own.are a.values in
    let yours = one_or_none texts m kind (values_in b.document.doc field) b.own.own single b.own.are b.values in
    let marks : option_map pos (first_of a.own.own) ≡ option_map pos (first_of b.own.own) = sym (ap (option_map pos) a.own.first) ∙ (e ∙ ap (option_map pos) b.own.first) in
    let same = same_ones texts kind (values_in a.document.doc field) (values_in b.document.doc field) (first_of a.own.own) (first_of b.own.own) mine yours marks in
    ap (λ (d : List DocField). values_in d field) (doc_is documents n a.document a.here)
    ∙ (same ∙ sym (ap (λ (d : List DocField). values_in d field) (doc_is documents m b.document b.here)))

step_at : (documents : List Placed) (field size : ℕ) (interval offset : ℤ) (kind : Kind) (texts : List (List ℕ)) (entries : List Entry) (n : ℕ) (least : ℕ) (dated : Bool) → (at : InColumn documents field kind texts entries n)
    → option_map (step_of interval offset) (first_whole field (doc_at documents n)) ≡ step_by kind (mark_at (Histogram field interval offset least dated) kind entries n)
step_at documents field size interval offset kind texts entries n least dated at =
    let vs = values_in at.document.doc field in
    ap (λ (d : List DocField). option_map (step_of interval offset) (first_whole field d)) (doc_is documents n at.document at.here)
    ∙ (first_step texts interval offset n kind vs at.own.own at.own.are at.values
    ∙ sym (ap (λ (o : Option ℕ). step_by kind (option_map (mark_of (Histogram field interval offset least dated) kind) o)) at.own.first))

alike_docs : (agg : Agg) (documents : List Placed) (kind : Kind) (texts : List (List ℕ)) (entries : List Entry) (n m : ℕ) → IsSingle kind → InColumn documents (field_of agg) kind texts entries n → InColumn documents (field_of agg) kind texts entries m
    → mark_at agg kind entries n ≡ mark_at agg kind entries m → CountAlike agg (doc_at documents n) (doc_at documents m)
alike_docs (Terms field size) documents kind texts entries n m single a b e = same_by_terms documents field size kind texts entries n m single a b e
alike_docs (Histogram field interval offset least dated) documents kind texts entries n m single a b e =
    step_at documents field 0 interval offset kind texts entries n least dated a
    ∙ (ap (step_by kind) e ∙ sym (step_at documents field 0 interval offset kind texts entries m least dated b))

-- ---- what classes count

one_cond : (count : ℕ) (b : Bool) → count * cond b 1 0 ≡ count * (if b then 1 else 0)
one_cond count true = refl
one_cond count false = refl

spread_weight : (p : List DocField → Bool) (documents : List Placed) (classes : List Class) → count_by p (spread documents classes) ≡ weighed (λ n. p (doc_at documents n)) classes
spread_weight p documents [] = refl
spread_weight p documents (c ∷ cs) =
    let one : List DocField → ℕ = λ d. cond (p d) 1 0 in
    let w : Class → ℕ = λ x. x.count * (if p (doc_at documents x.sample) then 1 else 0) in
    let d = doc_at documents c.sample in
    sum_by-append one (replicate c.count d) (spread documents cs)
    ∙ (ap (λ (k : ℕ). k + count_by p (spread documents cs)) (sum_by-replicate one c.count d ∙ one_cond c.count (p d))
    ∙ (ap (λ (k : ℕ). c.count * (if p d then 1 else 0) + k) (spread_weight p documents cs) ∙ sym (sum_by-cons w c cs)))

picked_count : (p : List DocField → Bool) (documents : List Placed) (ns : List ℕ) → AllByRecursion (λ n. n < length documents) ns → count_by (λ n. p (doc_at documents n)) ns ≡ count_by p (docs_of (picked ns documents))
picked_count p documents [] below = refl
picked_count p documents (n ∷ ns) below =
    let at = stands documents n below.0 in
    let here : ℕ → ℕ = λ k. cond (p (doc_at documents k)) 1 0 in
    let one : List DocField → ℕ = λ d. cond (p d) 1 0 in
    let first : docs_of (picked (n ∷ ns) documents) ≡ at.document.doc ∷ docs_of (picked ns documents) = rw (at.here) refl in
    sum_by-cons here n ns
    ∙ (ap (λ (k : ℕ). here n + k) (picked_count p documents ns below.1)
    ∙ (ap (λ (d : List DocField). cond (p d) 1 0 + count_by p (docs_of (picked ns documents))) (doc_is documents n at.document at.here)
    ∙ (sym (sum_by-cons one at.document.doc (docs_of (picked ns documents))) ∙ sym (ap (count_by p) first))))

pub grouped_alike : (s : Schema) (documents : List Placed) (agg : Agg) (c : FieldColumn) (numbers : List ℕ) (classes : List Class) → AreDocumentsOf s documents → (is : IsColumnFor s documents (field_of agg) c) → IsSingle c.kind
    → AllBelow (length documents) numbers → AreClasses agg c.kind is.is_of.entries (length documents) numbers classes → GroupsAlike agg documents numbers classes
grouped_alike s documents agg c numbers classes of is single below are = record {
  among = λ k d lt. elim (are.marked k d lt) [ inl none ↦ inl none | inr has ↦ inr has.0 ];
  weights = λ p same.
      spread_weight p documents classes
      ∙ (are.weights (λ n. p (doc_at documents n)) (λ n m lt less e. same (doc_at documents n) (doc_at documents m)
      (alike_docs agg documents c.kind is.is_of.texts is.is_of.entries n m single (in_column s documents (field_of agg) c n of is lt) (in_column s documents (field_of agg) c m of is less) e))
      ∙ picked_count p documents numbers (recursion_from_All (λ (n : ℕ). n < length documents) numbers below));
}

-- ---- what a partial stands for

lies_by : (interval offset step : ℤ) (o : Option ℤ) → option_map_or (λ z. int_eq (step_of interval offset z) step) o false ≡ option_map_or (λ z. int_eq z step) (option_map (step_of interval offset) o) false
lies_by interval offset step None = refl
lies_by interval offset step (Some z) = refl

counts_alike : (agg : Agg) (counts : Counts) (xs ys : List (List DocField)) → ((p : List DocField → Bool) → RespectsDocs agg p → count_by p xs ≡ count_by p ys) → CountsFor agg counts xs → CountsFor agg counts ys
counts_alike (Terms field size) counts xs ys same counted = λ value.
    counted value ∙ same (has_value field value) (λ a b e. ap (λ (vs : List Value). list_any (λ v. is_same v value) vs) e)
counts_alike (Histogram field interval offset least dated) counts xs ys same counted = λ step.
    counted step ∙ same (lies_in field interval offset step)
    (λ a b e. lies_by interval offset step (first_whole field a) ∙ (ap (λ (o : Option ℤ). option_map_or (λ z. int_eq z step) o false) e ∙ sym (lies_by interval offset step (first_whole field b))))

parts_alike : (a : NamedAgg) (parts : List Counts) (xs ys : List (List DocField)) → ((p : List DocField → Bool) → RespectsDocs a.agg p → count_by p xs ≡ count_by p ys)
    → AllZip (λ named counts. CountsFor named.agg counts xs) (a ∷ []) parts → AllZip (λ named counts. CountsFor named.agg counts ys) (a ∷ []) parts
parts_alike a [] xs ys same counted = absurd counted
parts_alike a (c ∷ []) xs ys same counted = (counts_alike a.agg c xs ys same counted.0, tt)
parts_alike a (c ∷ d ∷ cs) xs ys same counted = absurd counted.1

spread_length : (documents : List Placed) (classes : List Class) → length (spread documents classes) ≡ class_sum classes
spread_length documents [] = refl
spread_length documents (c ∷ cs) =
    let d = doc_at documents c.sample in
    let both : length (replicate c.count d ++ spread documents cs) ≡ length (replicate c.count d) + length (spread documents cs) = length-append (replicate c.count d) (spread documents cs) in
    let front : length (replicate c.count d) ≡ c.count = length-replicate c.count d in
    let rest : length (spread documents cs) ≡ class_sum cs = spread_length documents cs in
    let sum : class_sum (c ∷ cs) ≡ c.count + class_sum cs = sum_by-cons (λ (x : Class). x.count) c cs in
    omega arith

picked_length : (documents : List Placed) (ns : List ℕ) → AllByRecursion (λ n. n < length documents) ns → length (docs_of (picked ns documents)) ≡ length ns
picked_length documents [] below = refl
picked_length documents (n ∷ ns) below =
    let at = stands documents n below.0 in
    rw (at.here) (let rest = picked_length documents ns below.1 in omega arith)

pub picked_long : (documents : List Placed) (ns : List ℕ) → AllBelow (length documents) ns → length (docs_of (picked ns documents)) ≡ length ns
picked_long documents ns below = picked_length documents ns (recursion_from_All (λ (n : ℕ). n < length documents) ns below)

pub stands_regrouped : (aggs : List NamedAgg) (named : NamedAgg) (partial : Partial) (documents : List Placed) (numbers : List ℕ) (classes : List Class) → length aggs ≡ 1 → slice_get aggs 0 ≡ Some named → AllBelow (length documents) numbers
    → class_sum classes ≡ length numbers → GroupsAlike named.agg documents numbers classes → StandsFor aggs partial (spread documents classes) → StandsFor aggs partial (docs_of (picked numbers documents))
stands_regrouped [] named partial documents numbers classes one first below sum groups stands = absurd (omega arith)
stands_regrouped (a ∷ b ∷ rest) named partial documents numbers classes one first below sum groups stands = absurd (omega arith)
stands_regrouped (a ∷ []) named partial documents numbers classes one first below sum groups stands =
    let same : a ≡ named = cc in
    let mine = subst (λ (x : NamedAgg). GroupsAlike x.agg documents numbers classes) (sym same) groups in
    record {
      many = stands.many ∙ (spread_length documents classes ∙ (sum ∙ sym (picked_length documents numbers (recursion_from_All (λ (n : ℕ). n < length documents) numbers below))));
      parts = parts_alike a partial.parts.items (spread documents classes) (docs_of (picked numbers documents)) mine.weights stands.parts;
    }

-- the column of the one aggregation
pub one_column : (s : Schema) (documents : List Placed) (aggs : List NamedAgg) (columns : List FieldColumn) (named : NamedAgg) (c : FieldColumn) → AreColumnsFor s documents (agg_fields aggs) columns → slice_get aggs 0 ≡ Some named → slice_get columns 0 ≡ Some c
    → IsColumnFor s documents (field_of named.agg) c
one_column s documents [] columns named c are at there = absurd (cc)
one_column s documents (a ∷ rest) [] named c are at there = absurd (cc)
one_column s documents (a ∷ rest) (x ∷ xs) named c are at there =
    let same : a ≡ named = cc in
    let column : x ≡ c = cc in
    subst (λ (y : FieldColumn). IsColumnFor s documents (field_of named.agg) y) column (subst (λ (n : NamedAgg). IsColumnFor s documents (field_of n.agg) x) same are.0)

-- ---- the documents of a class

pub none_copies : (partial : Partial) (aggs : List NamedAgg) (counted : List (List DocField)) (count : ℕ) (doc : List DocField) → count ≡ 0 → StandsFor aggs partial counted → StandsFor aggs partial (counted ++ replicate count doc)
none_copies partial aggs counted count doc none stood =
    subst (StandsFor aggs partial) (sym (ap (λ (n : ℕ). counted ++ replicate n doc) none ∙ append_none counted)) stood
  where
    append_none : (xs : List (List DocField)) → xs ++ [] ≡ xs
    append_none [] = refl
    append_none (x ∷ xs) = ap (λ (ys : List (List DocField)). x ∷ ys) (append_none xs)

pub some_sample : (documents : List Placed) (c : Class) → (c.count ≡ 0 → ⊥) → IsAmong documents c → c.sample < length documents
some_sample documents c some (inl none) = absurd (some none)
some_sample documents c some (inr lt) = lt

pub spread_more : (documents : List Placed) (classes : List Class) (i : ℕ) (d : Class) → i < length classes → spread documents (take (i + 1) classes)
    ≡ spread documents (take i classes) ++ replicate (get_or classes i d).count (doc_at documents (get_or classes i d).sample)
spread_more documents classes i d lt =
    ap (spread documents) (take_more classes i d lt) ∙ sym (flat_map_more (λ (x : Class). replicate x.count (doc_at documents x.sample)) [] (take i classes) (get_or classes i d))

-- what holds of a value that there may be
pub some_wider : {X E : Type 0} (P Q : X → Type 0) (r : Result (Option X) E) → ((x : X) → P x → Q x) → IfOk r (λ o. IfSome o P) → IfOk r (λ o. IfSome o Q)
some_wider P Q (Ok None) wider h = tt
some_wider P Q (Ok (Some x)) wider h = wider x h
some_wider P Q (Err e) wider h = tt
