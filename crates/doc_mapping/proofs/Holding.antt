-- What stands at the paths of a record whose keys have no fault.
use Rattle.std.proofs.Common.{◌≡◌, ℕ, zero, suc, ◌==◌, ◌+◌, nat_eq, Bool, true, false, ◌&&◌, ◌||◌, List, [], ◌∷◌, ◌++◌, length, take, drop, append_assoc, append-nil, slice_get, Option, Some, None, refl, ap, sym, ◌∙◌, arith, inl, inr, if◌then◌else◌}
use Rattle.std.specs.Prelude.{ℤ, is_some, option_and_then}
use Rattle.std.specs.List.{starts_with}
use Rattle.std.specs.Ordering.{nat_cmp, is_eq}
use Rattle.std.specs.Cmp.Lexicographic.{slice_cmp}
use Rattle.std.specs.Str.{bytes_eq}
use Rattle.std.specs.Cmp.{unsigned_Decides}
use Rattle.std.specs.declared.cmp.Ordering.TheVariants.{Equal}
use Rattle.std.proofs.lemmas.Slice.Eq.{bytes_eq-Decides}
use Rattle.std.proofs.lemmas.Map.Text.{is_eq-slice_cmp}
use Rattle.serde_json.specs.Data.{Num, Data, null, boolean, number, string, array, object, Items, no_items, item, Members}
use Rattle.serde_json.specs.Find.{as_i64, as_u64}
use Rattle.clock_time.specs.Datetimes.{rfc3339_seconds, unix_seconds}
use Rattle.doc_value.specs.declared.schema.Field.{Field}
use Rattle.doc_value.specs.declared.schema.Kind.{Kind}
use Rattle.doc_value.specs.declared.schema.Kind.TheVariants as kinds
use Rattle.doc_value.specs.Documents.{number_from}
use Rattle.doc_value.specs.Printed.{names_of, onto_first}
use Rattle.index_config.specs.declared.config.Formats.{Formats}
use Rattle.doc_mapping.specs.declared.reject.Reject.{Reject}
use Rattle.doc_mapping.specs.declared.reject.Reject.TheVariants.{WrongType}
use Rattle.doc_mapping.specs.Faults.{unless, first_of, all_texts, number_fault, date_fault, kind_fault, value_fault}
use Rattle.doc_mapping.specs.Documents.{values_of, texts_in}
use Rattle.doc_mapping.specs.Held.{AreTexts, IsJust, Holds, path_from, ArePlain}
use Rattle.index_config.specs.Accepted.{BeginsPlain}

pub some_none : {A : Type 0} {B : Type 0} (x : A) → Some x ≡ None → B
some_none x e = absurd (cc)

pub none_some : {A : Type 0} {B : Type 0} (x : A) → None ≡ Some x → B
none_some x e = absurd (cc)

no_refusal : {B : Type 0} (refusal : Reject) → unless false refusal ≡ None → B
no_refusal refusal e = some_none refusal e

passes : (b : Bool) (refusal : Reject) → unless b refusal ≡ None → b ≡ true
passes true refusal e = refl
passes false refusal e = some_none refusal e

pub first_none : (a b : Option Reject) → first_of a b ≡ None → (a ≡ None) × (b ≡ None)
first_none None b e = (refl, e)
first_none (Some r) b e = some_none r e

pub same_key : (a b : List ℕ) → slice_cmp nat_cmp a b ≡ Equal → a ≡ b
same_key a b h = (bytes_eq-Decides a b).0 (sym (is_eq-slice_cmp a b) ∙ ap is_eq h)

-- what fits a field of each kind is just its values
i64_just : (n : Num) (o : Option ℤ) (formats : Formats) (refusal : Reject) → as_i64 n ≡ o → unless (is_some o) refusal ≡ None → IsJust kinds.I64 formats (number n) (values_of kinds.I64 (number n))
i64_just n (Some z) formats refusal e h = (n, z, (refl, e, rw e refl))
i64_just n None formats refusal e h = no_refusal refusal h

u64_just : (n : Num) (o : Option ℕ) (formats : Formats) (refusal : Reject) → as_u64 n ≡ o → unless (is_some o) refusal ≡ None → IsJust kinds.U64 formats (number n) (values_of kinds.U64 (number n))
u64_just n (Some m) formats refusal e h = (n, m, (refl, e, rw e refl))
u64_just n None formats refusal e h = no_refusal refusal h

texts_are : (ds : Items) → all_texts ds ≡ true → AreTexts ds (texts_in ds)
texts_are no_items h = refl
texts_are (item (string t) ds) h = (t, texts_in ds, (refl, refl, texts_are ds h))
texts_are (item null ds) h = absurd (let x : false ≡ true = h in cc)
texts_are (item (boolean b) ds) h = absurd (let x : false ≡ true = h in cc)
texts_are (item (number n) ds) h = absurd (let x : false ≡ true = h in cc)
texts_are (item (array xs) ds) h = absurd (let x : false ≡ true = h in cc)
texts_are (item (object ms) ds) h = absurd (let x : false ≡ true = h in cc)

text_date : (t path : List ℕ) (formats : Formats) (b : Bool) (o : Option ℤ) → formats.rfc3339 ≡ b → rfc3339_seconds t ≡ o
    → kind_fault kinds.Datetime formats path (string t) ≡ None → IsJust kinds.Datetime formats (string t) (values_of kinds.Datetime (string t))
text_date t path formats true (Some second) e f h = (second, (inl (t, (e, refl, f)), rw f refl))
text_date t path formats true None e f h = no_refusal _ (rw (e, f) at h)
text_date t path formats false o e f h = some_none _ (rw e at h)

number_date : (n : Num) (path : List ℕ) (formats : Formats) (b : Bool) (o : Option ℤ) (p : Option ℤ) → formats.unix ≡ b → as_i64 n ≡ o → option_and_then unix_seconds o ≡ p
    → kind_fault kinds.Datetime formats path (number n) ≡ None → IsJust kinds.Datetime formats (number n) (values_of kinds.Datetime (number n))
number_date n path formats true (Some z) (Some second) e f g h = (second, (inr (n, z, (e, refl, f, g)), rw (f, g) refl))
number_date n path formats true (Some z) None e f g h = no_refusal _ (rw (e, f, g) at h)
number_date n path formats true None p e f g h = by (is_some (as_u64 n)) (rw (e, f) at h)
  where
    by : (c : Bool) → (if true && (false || c) then number_fault path None else Some (WrongType path)) ≡ None → IsJust kinds.Datetime formats (number n) (values_of kinds.Datetime (number n))
    by true w = some_none _ w
    by false w = some_none _ w
number_date n path formats false o p e f g h = some_none _ (rw e at h)

-- a date in neither spelling
no_date : {B : Type 0} (formats : Formats) (path : List ℕ) (b : Bool) → formats.unix ≡ b → date_fault formats path None None None ≡ None → B
no_date formats path true e h = some_none _ (rw e at h)
no_date formats path false e h = some_none _ (rw e at h)

pub value_just : (kind : Kind) (formats : Formats) (path : List ℕ) (d : Data) → value_fault kind formats path d ≡ None → Holds kind formats (Some d) (values_of kind d)
value_just kinds.Text formats path null h = inl (refl, refl)
value_just kinds.I64 formats path null h = inl (refl, refl)
value_just kinds.U64 formats path null h = inl (refl, refl)
value_just kinds.Bool formats path null h = inl (refl, refl)
value_just kinds.Datetime formats path null h = inl (refl, refl)
value_just kinds.TextList formats path null h = inl (refl, refl)
value_just kinds.Text formats path (boolean b) h = some_none _ h
value_just kinds.Text formats path (number n) h = some_none _ h
value_just kinds.Text formats path (string t) h = inr (t, (refl, refl))
value_just kinds.Text formats path (array ds) h = some_none _ h
value_just kinds.Text formats path (object ms) h = some_none _ h
value_just kinds.I64 formats path (boolean b) h = some_none _ h
value_just kinds.I64 formats path (number n) h = inr (i64_just n (as_i64 n) formats _ refl h)
value_just kinds.I64 formats path (string t) h = some_none _ h
value_just kinds.I64 formats path (array ds) h = some_none _ h
value_just kinds.I64 formats path (object ms) h = some_none _ h
value_just kinds.U64 formats path (boolean b) h = some_none _ h
value_just kinds.U64 formats path (number n) h = inr (u64_just n (as_u64 n) formats _ refl h)
value_just kinds.U64 formats path (string t) h = some_none _ h
value_just kinds.U64 formats path (array ds) h = some_none _ h
value_just kinds.U64 formats path (object ms) h = some_none _ h
value_just kinds.Bool formats path (boolean b) h = inr (b, (refl, refl))
value_just kinds.Bool formats path (number n) h = some_none _ h
value_just kinds.Bool formats path (string t) h = some_none _ h
value_just kinds.Bool formats path (array ds) h = some_none _ h
value_just kinds.Bool formats path (object ms) h = some_none _ h
value_just kinds.Datetime formats path (boolean b) h = no_date formats path formats.unix refl h
value_just kinds.Datetime formats path (number n) h = inr (number_date n path formats formats.unix (as_i64 n) (option_and_then unix_seconds (as_i64 n)) refl refl refl h)
value_just kinds.Datetime formats path (string t) h = inr (text_date t path formats formats.rfc3339 (rfc3339_seconds t) refl refl h)
value_just kinds.Datetime formats path (array ds) h = no_date formats path formats.unix refl h
value_just kinds.Datetime formats path (object ms) h = no_date formats path formats.unix refl h
value_just kinds.TextList formats path (boolean b) h = some_none _ h
value_just kinds.TextList formats path (number n) h = some_none _ h
value_just kinds.TextList formats path (string t) h = inr (inl (t, (refl, refl)))
value_just kinds.TextList formats path (array ds) h = inr (inr (ds, (refl, texts_are ds (passes (all_texts ds) _ h))))
value_just kinds.TextList formats path (object ms) h = some_none _ h

-- no field takes an object
pub no_object : {B : Type 0} (kind : Kind) (formats : Formats) (path : List ℕ) (ms : Members) → value_fault kind formats path (object ms) ≡ None → B
no_object kinds.Text formats path ms h = some_none _ h
no_object kinds.I64 formats path ms h = some_none _ h
no_object kinds.U64 formats path ms h = some_none _ h
no_object kinds.Bool formats path ms h = some_none _ h
no_object kinds.Datetime formats path ms h = no_date formats path formats.unix refl h
no_object kinds.TextList formats path ms h = some_none _ h

-- the number that is found of a path is that of a field with the path
pub number_stands : (m : ℕ) (fs : List Field) (path : List ℕ) (k : ℕ) → number_from m fs path ≡ Some k
    → (i : ℕ) × (f : Field) × ((k ≡ m + i) × (slice_get fs i ≡ Some f) × (f.path ≡ path))
number_stands m [] path k e = none_some k e
number_stands m (f ∷ fs) path k e = by (number_stands (suc m) fs path k) (bytes_eq f.path path) refl
  where
    by : (number_from (suc m) fs path ≡ Some k → (i : ℕ) × (g : Field) × ((k ≡ suc m + i) × (slice_get fs i ≡ Some g) × (g.path ≡ path)))
        → (b : Bool) → bytes_eq f.path path ≡ b → (i : ℕ) × (g : Field) × ((k ≡ m + i) × (slice_get (f ∷ fs) i ≡ Some g) × (g.path ≡ path))
    by more true same =
        let first : Some m ≡ Some k = rw same at e in
        let here : m ≡ k = cc in
        (0, f, (omega arith, refl, (bytes_eq-Decides f.path path).0 same))
    by more false other =
        let h = more (rw other at e) in
        (suc h.0, h.1, (omega (arith, h.2.0), h.2.1, h.2.2))

-- some field's path begins so
take_own : (w x : List ℕ) → take (length w) (w ++ x) ≡ w
take_own [] x = refl
take_own (c ∷ w) x = ap (λ z. c ∷ z) (take_own w x)

taken_apart : (k : ℕ) (xs : List ℕ) → xs ≡ take k xs ++ drop k xs
taken_apart zero xs = refl
taken_apart (suc k) [] = refl
taken_apart (suc k) (x ∷ xs) = ap (λ z. x ∷ z) (taken_apart k xs)

pub starts_itself : (r x : List ℕ) → starts_with nat_eq (r ++ 46 ∷ x) (r ++ 46 ∷ []) ≡ true
starts_itself r x =
    let whole : (r ++ 46 ∷ []) ++ x ≡ r ++ 46 ∷ x = append_assoc r (46 ∷ []) x in
    (bytes_eq-Decides (r ++ 46 ∷ []) (take (length (r ++ 46 ∷ [])) (r ++ 46 ∷ x))).1
    (sym (take_own (r ++ 46 ∷ []) x) ∙ ap (take (length (r ++ 46 ∷ []))) whole)

pub starts_from : (xs w : List ℕ) → starts_with nat_eq xs (w ++ 46 ∷ []) ≡ true → (rest : List ℕ) × (xs ≡ w ++ 46 ∷ rest)
starts_from xs w h =
    let n : ℕ = length (w ++ 46 ∷ []) in
    let front = (bytes_eq-Decides (w ++ 46 ∷ []) (take n xs)).0 h in
    (drop n xs, taken_apart n xs ∙ ap (λ z. z ++ drop n xs) (sym front) ∙ append_assoc w (46 ∷ []) (drop n xs))

-- names behind a path that isn't empty make it longer
pub grows : (c : ℕ) (r : List ℕ) (names : List (List ℕ)) → (x : List ℕ) × (path_from (c ∷ r) names ≡ (c ∷ r) ++ x)
grows c r [] = ([], sym (append-nil (c ∷ r)))
grows c r (name ∷ names) =
    let more = grows c (r ++ 46 ∷ name) names in
    ((46 ∷ name) ++ more.0, more.1 ∙ append_assoc (c ∷ r) (46 ∷ name) more.0)

-- the names of a path have no dots, and make the path again
onto_plain : (x : ℕ) (names : List (List ℕ)) → (x == 46) ≡ false → ArePlain names → ArePlain (onto_first x names)
onto_plain x [] e h = (rw e refl, tt)
onto_plain x (n ∷ ns) e h = (rw e h.0, h.1)

pub plain_names : (path : List ℕ) → ArePlain (names_of path)
plain_names [] = (refl, tt)
plain_names (x ∷ cs) = by (plain_names cs) (x == 46) refl
  where
    by : ArePlain (names_of cs) → (b : Bool) → (x == 46) ≡ b → ArePlain (if b then [] ∷ names_of cs else onto_first x (names_of cs))
    by more true e = (refl, more)
    by more false e = onto_plain x (names_of cs) e more

abbrev pub AreNames : List ℕ → Type 0
AreNames path = (name : List ℕ) × (names : List (List ℕ)) × (names_of path ≡ name ∷ names)

pub name_first : (path : List ℕ) → AreNames path
name_first [] = ([], [], refl)
name_first (x ∷ cs) = by (name_first cs) (x == 46) refl
  where
    by : AreNames cs → (b : Bool) → (x == 46) ≡ b → AreNames (x ∷ cs)
    by more true e = ([], names_of cs, rw e refl)
    by more false e = (x ∷ more.0, more.1, rw (e, more.2) refl)

pub front : (xs ys : List (List ℕ)) (x y : List ℕ) → x ∷ xs ≡ y ∷ ys → (x ≡ y) × (xs ≡ ys)
front xs ys x y e = (cc, cc)

joined : (cs : List ℕ) (c : ℕ) (r name : List ℕ) (names : List (List ℕ)) → names_of cs ≡ name ∷ names → path_from (c ∷ (r ++ name)) names ≡ c ∷ (r ++ cs)
joined [] c r name names e =
    let parts = front [] names [] name e in
    rw (← parts.0, ← parts.1) refl
joined (x ∷ cs) c r name names e = by (joined cs c (r ++ x ∷ []) (name_first cs).0 (name_first cs).1 (name_first cs).2) (x == 46) refl
  where
    first : List ℕ
    first = (name_first cs).0

    more_names : List (List ℕ)
    more_names = (name_first cs).1

    by : path_from (c ∷ ((r ++ x ∷ []) ++ first)) more_names ≡ c ∷ ((r ++ x ∷ []) ++ cs) → (b : Bool) → (x == 46) ≡ b → path_from (c ∷ (r ++ name)) names ≡ c ∷ (r ++ x ∷ cs)
    by more true d =
        let dot : x ≡ 46 = (unsigned_Decides x 46).0 d in
        let parts = front (names_of cs) names [] name (rw d at e) in
        let here : path_from (c ∷ (r ++ name)) names ≡ path_from (c ∷ ((r ++ x ∷ []) ++ first)) more_names =
        rw (← parts.0, ← parts.1, (name_first cs).2, append-nil r, append_assoc r (x ∷ []) first, dot) refl in
        here ∙ more ∙ ap (λ z. c ∷ z) (append_assoc r (x ∷ []) cs)
    by more false d =
        let parts = front more_names names (x ∷ first) name (rw (d, (name_first cs).2) at e) in
        let here : path_from (c ∷ (r ++ name)) names ≡ path_from (c ∷ ((r ++ x ∷ []) ++ first)) more_names =
        rw (← parts.0, ← parts.1, append_assoc r (x ∷ []) first) refl in
        here ∙ more ∙ ap (λ z. c ∷ z) (append_assoc r (x ∷ []) cs)

-- of a path that doesn't begin with a dot
pub path_again : (path name : List ℕ) (names : List (List ℕ)) → BeginsPlain path → names_of path ≡ name ∷ names → path_from name names ≡ path
path_again [] name names b e = let parts = front [] names [] name e in rw (← parts.0, ← parts.1) refl
path_again (c ∷ cs) name names b e =
    let parts = front (name_first cs).1 names (c ∷ (name_first cs).0) name (rw (b, (name_first cs).2) at e) in
    rw (← parts.0, ← parts.1) (joined cs c [] (name_first cs).0 (name_first cs).1 (name_first cs).2)
