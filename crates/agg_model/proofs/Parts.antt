-- Lists of parts beside the aggregations of a request.
use Rattle.std.proofs.Common.{◌≡◌, ◌≢◌, ℕ, zero, suc, ◌<◌, ◌≤◌, ◌+◌, refl, sym, ◌∙◌, ap, subst, arith, List, [], ◌∷◌, ◌++◌, length, get_or, set, get_or-set_other, get_or-set_same, length-set, ⊎_elim, ◌^◌, ℤ, Option, Some, None, cond, unwrap_or, add-zero, zero-add}
use Rattle.std.proofs.lemmas.List.{get_or_default}
use Rattle.std.proofs.lemmas.Bool.{cases_eq}
use Rattle.std.proofs.lemmas.List.Sums.{sum_by-append}
use Rattle.std.proofs.lemmas.Option.{IfSome_then}
use Rattle.std.specs.List.{AllZip, All}
use Rattle.std.specs.Option.{IfSome}
use Rattle.doc_value.specs.declared.doc.DocField.{DocField}
use Rattle.agg_model.specs.Counting.{Slot, slot_of, has_value, lies_in}
use Rattle.agg_model.specs.Partials.{IsVacant, IsPart, IsTally, IsStep, HasRoom, CountsFor, IsCollected, AreCollected, IsMerged, AreMerged, tally_at, tallied, in_step, interval_of, offset_of}
use Rattle.agg_model.specs.Tallies.{merged, step_sum}
use Rattle.agg_model.specs.declared.counts.Counts.{Counts}
use Rattle.agg_model.specs.declared.request.Agg.{Agg}
use Rattle.agg_model.specs.declared.request.Agg.TheVariants.{Terms, Histogram}
use Rattle.agg_model.specs.declared.request.NamedAgg.{NamedAgg}
use Rattle.agg_model.specs.declared.tallies.Tally.{Tally}

pub all_zip_at : {A B : Type 0} (R : A → B → Type 0) (xs : List A) (ys : List B) (k : ℕ) (d : A) (e : B) → AllZip R xs ys → k < length xs → R (get_or xs k d) (get_or ys k e)
all_zip_at R [] [] k d e h l = absurd (omega arith)
all_zip_at R [] (y ∷ ys) k d e h l = absurd h
all_zip_at R (x ∷ xs) [] k d e h l = absurd h
all_zip_at R (x ∷ xs) (y ∷ ys) zero d e h l = h.0
all_zip_at R (x ∷ xs) (y ∷ ys) (suc k) d e h l = all_zip_at R xs ys k d e h.1 (omega arith)

pub all_zip_from : {A B : Type 0} (R : A → B → Type 0) (xs : List A) (ys : List B) → length ys ≡ length xs
    → ((k : ℕ) (d : A) (e : B) → k < length xs → R (get_or xs k d) (get_or ys k e)) → AllZip R xs ys
all_zip_from R [] [] l h = tt
all_zip_from R [] (y ∷ ys) l h = absurd (omega arith)
all_zip_from R (x ∷ xs) [] l h = absurd (omega arith)
all_zip_from R (x ∷ xs) (y ∷ ys) l h = (h 0 x y (omega arith), all_zip_from R xs ys (omega arith) (λ k d e b. h (suc k) d e (omega arith)))

pub all_zip_long : {A B : Type 0} (R : A → B → Type 0) (xs : List A) (ys : List B) → AllZip R xs ys → length ys ≡ length xs
all_zip_long R [] [] h = refl
all_zip_long R [] (y ∷ ys) h = absurd h
all_zip_long R (x ∷ xs) [] h = absurd h
all_zip_long R (x ∷ xs) (y ∷ ys) h = let rest = all_zip_long R xs ys h.1 in omega arith

-- the document was counted in the first i parts
pub record AreCollectedBelow (documents : ℕ) (doc : List DocField) (request : List NamedAgg) (old new : List Counts) (i : ℕ) : Type 0 where
  pub long : length new ≡ length old
  pub done : (k : ℕ) (d : NamedAgg) (e : Counts) → k < i → IsCollected documents doc (get_or request k d).agg (get_or old k e) (get_or new k e)
  pub rest : (k : ℕ) (e : Counts) → i ≤ k → get_or new k e ≡ get_or old k e

pub collected_more : (documents : ℕ) (doc : List DocField) (request : List NamedAgg) (old now : List Counts) (i : ℕ) (named : NamedAgg) (part : Counts)
    → i < length request → i < length now → named ≡ get_or request i named
    → AreCollectedBelow documents doc request old now i
    → ((e : Counts) → IsCollected documents doc named.agg (get_or now i e) part)
    → AreCollectedBelow documents doc request old (set now i part) (i + 1)
collected_more documents doc request old now i named part within inside is before step = record {
  long = length-set now i part ∙ before.long;
  done = λ k d e l. ⊎_elim (λ same. here k d e same) (λ other. there k d e other l) (cases_eq k i);
  rest = λ k e l. let ne : k ≢ i = omega arith in rw (get_or-set_other now i k part e ne) (before.rest k e (omega arith));
}
  where
    here : (k : ℕ) (d : NamedAgg) (e : Counts) → k ≡ i → IsCollected documents doc (get_or request k d).agg (get_or old k e) (get_or (set now i part) k e)
    here k d e same =
        let at : get_or request k d ≡ named = ap (λ j. get_or request j d) same ∙ get_or_default request i d named within ∙ sym is in
        let new : get_or (set now i part) k e ≡ part = ap (λ j. get_or (set now i part) j e) same ∙ get_or-set_same now i part e inside in
        let old_at : get_or old k e ≡ get_or now i e = ap (λ j. get_or old j e) same ∙ sym (before.rest i e (omega arith)) in
        rw (at, new, old_at) (step e)

    there : (k : ℕ) (d : NamedAgg) (e : Counts) → k ≢ i → k < i + 1 → IsCollected documents doc (get_or request k d).agg (get_or old k e) (get_or (set now i part) k e)
    there k d e ne l = rw (get_or-set_other now i k part e ne) (before.done k d e (omega arith))

pub collected_all : (documents : ℕ) (doc : List DocField) (request : List NamedAgg) (old new : List Counts) → length old ≡ length request
    → AreCollectedBelow documents doc request old new (length request) → AreCollected documents doc request old new
collected_all documents doc request old new long below = record {
  parts = all_zip_from (λ (named : NamedAgg) (counts : Counts). IsPart (documents + 1) named.agg counts) request new (below.long ∙ long) (λ k d e l. (below.done k d e l).part);
  counts = λ ds h. all_zip_from (λ (named : NamedAgg) (part : Counts). CountsFor named.agg part (ds ++ doc ∷ [])) request new (below.long ∙ long)
      (λ k d e l. (below.done k d e l).counts ds (all_zip_at (λ (named : NamedAgg) (part : Counts). CountsFor named.agg part ds) request old k d e h l));
}

vacant_part : (agg : Agg) (counts : Counts) → IsVacant counts → IsPart 0 agg counts
vacant_part agg counts h = record {
  tallies = λ value. rw (h.tallies value) tt;
  steps = λ step. rw (h.steps step) tt;
}

vacant_counts : (agg : Agg) (counts : Counts) → IsVacant counts → CountsFor agg counts []
vacant_counts (Terms field size) counts h = λ value. rw (h.tallies (slot_of value)) refl
vacant_counts (Histogram field interval offset least dated) counts h = λ step. rw (h.steps step) refl

-- parts in which nothing is counted
pub vacant_parts : (request : List NamedAgg) (parts : List Counts) → length parts ≡ length request → All IsVacant parts
    → AllZip (λ named counts. IsPart 0 named.agg counts) request parts × AllZip (λ named counts. CountsFor named.agg counts []) request parts
vacant_parts request parts long h = (
  all_zip_from (λ (named : NamedAgg) (counts : Counts). IsPart 0 named.agg counts) request parts long (λ k d e l. vacant_part (get_or request k d).agg (get_or parts k e) (h k e (omega arith))),
  all_zip_from (λ (named : NamedAgg) (counts : Counts). CountsFor named.agg counts []) request parts long (λ k d e l. vacant_counts (get_or request k d).agg (get_or parts k e) (h k e (omega arith))),
)

-- the part at a place, not changed yet
pub part_at : (documents : ℕ) (request : List NamedAgg) (old now : List Counts) (i : ℕ) (named : NamedAgg) (part : Counts)
    → i < length request → named ≡ get_or request i named → AllZip (λ named counts. IsPart documents named.agg counts) request old
    → get_or now i part ≡ get_or old i part → part ≡ get_or now i part → IsPart documents named.agg part
part_at documents request old now i named part within is parts same at =
    let there = all_zip_at (λ (named : NamedAgg) (counts : Counts). IsPart documents named.agg counts) request old i named part parts within in
    subst (λ (p : Counts). IsPart documents named.agg p) (sym (at ∙ same)) (subst (λ (n : NamedAgg). IsPart documents n.agg (get_or old i part)) (sym is) there)

-- the first i parts are merged
pub record AreMergedBelow (mine yours new : List Counts) (i : ℕ) : Type 0 where
  pub long : length new ≡ length mine
  pub done : (k : ℕ) (d : Counts) → k < i → IsMerged (get_or mine k d) (get_or yours k d) (get_or new k d)
  pub rest : (k : ℕ) (d : Counts) → i ≤ k → get_or new k d ≡ get_or mine k d

pub merged_more : (mine yours now : List Counts) (i : ℕ) (own other part : Counts)
    → i < length yours → i < length now → own ≡ get_or now i own → other ≡ get_or yours i other
    → AreMergedBelow mine yours now i → IsMerged own other part → AreMergedBelow mine yours (set now i part) (i + 1)
merged_more mine yours now i own other part within inside is at before step = record {
  long = length-set now i part ∙ before.long;
  done = λ k d l. ⊎_elim (λ same. here k d same) (λ ne. there k d ne l) (cases_eq k i);
  rest = λ k d l. let ne : k ≢ i = omega arith in rw (get_or-set_other now i k part d ne) (before.rest k d (omega arith));
}
  where
    here : (k : ℕ) (d : Counts) → k ≡ i → IsMerged (get_or mine k d) (get_or yours k d) (get_or (set now i part) k d)
    here k d same =
        let mine_at : get_or mine k d ≡ own = ap (λ j. get_or mine j d) same ∙ sym (before.rest i d (omega arith)) ∙ get_or_default now i d own inside ∙ sym is in
        let yours_at : get_or yours k d ≡ other = ap (λ j. get_or yours j d) same ∙ get_or_default yours i d other within ∙ sym at in
        let new_at : get_or (set now i part) k d ≡ part = ap (λ j. get_or (set now i part) j d) same ∙ get_or-set_same now i part d inside in
        rw (mine_at, yours_at, new_at) step

    there : (k : ℕ) (d : Counts) → k ≢ i → k < i + 1 → IsMerged (get_or mine k d) (get_or yours k d) (get_or (set now i part) k d)
    there k d ne l = rw (get_or-set_other now i k part d ne) (before.done k d (omega arith))

-- tallies of two parts are one of both
merged_tally : (n m : ℕ) (slot : Slot) (a b : Option Tally) → IfSome a (IsTally n slot) → IfSome b (IsTally m slot) → IfSome (merged a b) (IsTally (n + m) slot)
merged_tally n m slot None None h k = tt
merged_tally n m slot (Some a) None h k = record { fits = h.fits; some = h.some; most = omega arith; last = omega arith }
merged_tally n m slot None (Some b) h k = record { fits = k.fits; some = k.some; most = omega arith; last = omega arith }
merged_tally n m slot (Some a) (Some b) h k = record { fits = h.fits; some = omega arith; most = omega arith; last = omega arith }

merged_count : (a b : Option Tally) → tallied (merged a b) ≡ tallied a + tallied b
merged_count None None = refl
merged_count (Some a) None = sym (add-zero a.count)
merged_count None (Some b) = sym (zero-add b.count)
merged_count (Some a) (Some b) = refl

summed_step : (n m : ℕ) (interval offset step : ℤ) (a b : Option ℕ) → IfSome a (IsStep n interval offset step) → IfSome b (IsStep m interval offset step)
    → IfSome (step_sum a b) (IsStep (n + m) interval offset step)
summed_step n m interval offset step None None h k = tt
summed_step n m interval offset step (Some a) None h k = record { some = h.some; most = omega arith; place = h.place }
summed_step n m interval offset step None (Some b) h k = record { some = omega arith; most = omega arith; place = k.place }
summed_step n m interval offset step (Some a) (Some b) h k = record { some = omega arith; most = omega arith; place = h.place }

summed_count : (a b : Option ℕ) → unwrap_or (step_sum a b) 0 ≡ unwrap_or a 0 + unwrap_or b 0
summed_count None None = refl
summed_count (Some a) None = sym (add-zero a)
summed_count None (Some b) = refl
summed_count (Some a) (Some b) = refl

merged_part : (n m : ℕ) (agg : Agg) (mine yours new : Counts) → IsPart n agg mine → IsPart m agg yours → IsMerged mine yours new → IsPart (n + m) agg new
merged_part n m agg mine yours new h k e = record {
  tallies = λ slot. rw (e.tallies slot) (merged_tally n m slot (tally_at mine slot) (tally_at yours slot) (h.tallies slot) (k.tallies slot));
  steps = λ step. rw (e.steps step) (summed_step n m (interval_of agg) (offset_of agg) step (in_step mine step) (in_step yours step) (h.steps step) (k.steps step));
}

merged_counts : (agg : Agg) (mine yours new : Counts) (ds es : List (List DocField)) → IsMerged mine yours new → CountsFor agg mine ds → CountsFor agg yours es → CountsFor agg new (ds ++ es)
merged_counts (Terms field size) mine yours new ds es e h k = λ value.
    rw (e.tallies (slot_of value), merged_count (tally_at mine (slot_of value)) (tally_at yours (slot_of value)), sum_by-append (λ d. cond (has_value field value d) 1 0) ds es, h value, k value) refl
merged_counts (Histogram field interval offset least dated) mine yours new ds es e h k = λ step.
    rw (e.steps step, summed_count (in_step mine step) (in_step yours step), sum_by-append (λ d. cond (lies_in field interval offset step d) 1 0) ds es, h step, k step) refl

-- two partials of one request are one of both
pub merged_parts : (n m : ℕ) (request : List NamedAgg) (mine yours new : List Counts)
    → AllZip (λ named counts. IsPart n named.agg counts) request mine → AllZip (λ named counts. IsPart m named.agg counts) request yours → AreMerged mine yours new
    → AllZip (λ named counts. IsPart (n + m) named.agg counts) request new
merged_parts n m request mine yours new h k e =
    let long = all_zip_long (λ (named : NamedAgg) (counts : Counts). IsPart n named.agg counts) request mine h in
    all_zip_from (λ (named : NamedAgg) (counts : Counts). IsPart (n + m) named.agg counts) request new (e.long ∙ long)
    (λ i d c l. merged_part n m (get_or request i d).agg (get_or mine i c) (get_or yours i c) (get_or new i c)
    (all_zip_at (λ (named : NamedAgg) (counts : Counts). IsPart n named.agg counts) request mine i d c h l)
    (all_zip_at (λ (named : NamedAgg) (counts : Counts). IsPart m named.agg counts) request yours i d c k l)
    (e.each i c (omega arith)))

pub merged_stand : (request : List NamedAgg) (mine yours new : List Counts) (ds es : List (List DocField)) → AreMerged mine yours new
    → AllZip (λ named counts. CountsFor named.agg counts ds) request mine → AllZip (λ named counts. CountsFor named.agg counts es) request yours
    → AllZip (λ named counts. CountsFor named.agg counts (ds ++ es)) request new
merged_stand request mine yours new ds es e h k =
    let long = all_zip_long (λ (named : NamedAgg) (counts : Counts). CountsFor named.agg counts ds) request mine h in
    all_zip_from (λ (named : NamedAgg) (counts : Counts). CountsFor named.agg counts (ds ++ es)) request new (e.long ∙ long)
    (λ i d c l. merged_counts (get_or request i d).agg (get_or mine i c) (get_or yours i c) (get_or new i c) ds es
    (e.each i c (omega arith))
    (all_zip_at (λ (named : NamedAgg) (counts : Counts). CountsFor named.agg counts ds) request mine i d c h l)
    (all_zip_at (λ (named : NamedAgg) (counts : Counts). CountsFor named.agg counts es) request yours i d c k l))

-- a part has room for as much again
pub has_room : (n : ℕ) (agg : Agg) (counts : Counts) → n < 2 ^ 62 → IsPart n agg counts → HasRoom counts
has_room n agg counts few p = record {
  tallies = λ slot. IfSome_then (tally_at counts slot) (p.tallies slot) (λ t s. let most = s.most in omega arith);
  steps = λ step. IfSome_then (in_step counts step) (p.steps step) (λ t s. let most = s.most in omega arith);
}

-- each part has room for as much again
pub have_room : (n : ℕ) (request : List NamedAgg) (parts : List Counts) → n < 2 ^ 62 → AllZip (λ named counts. IsPart n named.agg counts) request parts → All HasRoom parts
have_room n request parts few h i d l =
    let long = all_zip_long (λ (named : NamedAgg) (counts : Counts). IsPart n named.agg counts) request parts h in
    let named = some_named request i (omega arith) in
    let at = all_zip_at (λ (named : NamedAgg) (counts : Counts). IsPart n named.agg counts) request parts i named d h (omega arith) in
    has_room n (get_or request i named).agg (get_or parts i d) few at
  where
    some_named : (request : List NamedAgg) (i : ℕ) → i < length request → NamedAgg
    some_named [] i l = absurd (omega arith)
    some_named (x ∷ xs) i l = x
