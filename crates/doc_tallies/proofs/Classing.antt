-- Documents that are counted in classes.
use Rattle.std.proofs.Common.{◌≡◌, ℕ, ℤ, zero, suc, ◌++◌, length-append, ◌+◌, ◌*◌, ◌<◌, ◌⊎◌, inl, inr, Bool, true, false, cond, List, [], ◌∷◌, take, set, get_or, length, slice_get, Option, Some, if◌then◌else◌, count_by, refl, ap, sym, subst, ◌∙◌, arith}
use Rattle.std.specs.List.{All, AllByRecursion, sum_by}
use Rattle.std.proofs.lemmas.List.Elements.{All-set, recursion_from_All}
use Rattle.std.proofs.lemmas.List.{get_or-append-add, get_or_append_left, set-append_left}
use Rattle.std.proofs.lemmas.List.Sums.{sum_by-append, sum_by-set, sum_by_more}
use Rattle.std.proofs.lemmas.Option.{get_or_from_slice_get, slice_get_cases}
use Rattle.doc_value.specs.declared.schema.Kind.{Kind}
use Rattle.agg_model.specs.declared.request.Agg.{Agg}
use Rattle.fast_fields.specs.declared.entries.Entry.{Entry}
use Rattle.doc_tallies.specs.declared.classes.Class.{Class}
use Rattle.doc_tallies.specs.Classes.{AreClasses, IsCounted, IsMarked, IsRegrouped, Respects, class_sum, weighed}
use Rattle.doc_tallies.specs.Marks.{mark_at}

-- ---- one more document

abbrev one_if : Bool → ℕ
one_if b = if b then 1 else 0

inside : {X : Type 0} (xs : List X) (i : ℕ) (x : X) → slice_get xs i ≡ Some x → i < length xs
inside xs i x got = elim (slice_get_cases xs i).1 [ inl found ↦ found.1 | inr past ↦ absurd (let none = past.1 in cc) ]

pub counted_sum : (mark : Option ℤ) (many document : ℕ) (old new : List Class) → IsCounted mark many document old new → class_sum new ≡ class_sum old + many
counted_sum mark many document old new is =
    let more : Class = record { mark = mark; count = is.class.count + many; sample = document } in
    let lt = inside old is.place is.class is.here in
    let same : get_or old is.place is.class ≡ is.class = get_or_from_slice_get old is.place is.class is.class is.here in
    let sum : sum_by (λ (c : Class). c.count) (set old is.place more) + (get_or old is.place is.class).count ≡ sum_by (λ (c : Class). c.count) old + (is.class.count + many) = sum_by-set (λ (c : Class). c.count) old is.place more is.class lt in
    let there : (get_or old is.place is.class).count ≡ is.class.count = ap (λ (c : Class). c.count) same in
    let now : class_sum new ≡ sum_by (λ (c : Class). c.count) (set old is.place more) = ap class_sum is.now in
    omega arith

zero_times : (n : ℕ) → 0 * n ≡ 0
zero_times n = omega arith

same_weight : (count : ℕ) (a b : Bool) → (count ≡ 0) ⊎ (a ≡ b) → count * one_if a ≡ count * one_if b
same_weight count a b (inl none) = ap (λ (k : ℕ). k * one_if a) none ∙ (zero_times (one_if a) ∙ (sym (zero_times (one_if b)) ∙ sym (ap (λ (k : ℕ). k * one_if b) none)))
same_weight count a b (inr same) = ap (λ (t : Bool). count * one_if t) same

more_weight : (count many : ℕ) (b : Bool) → (count + many) * one_if b ≡ count * one_if b + many * one_if b
more_weight count many true = omega arith
more_weight count many false = omega arith

pub counted_weight : (q : ℕ → Bool) (mark : Option ℤ) (many document : ℕ) (old new : List Class) → (is : IsCounted mark many document old new) → (is.class.count ≡ 0) ⊎ (q is.class.sample ≡ q document)
    → weighed q new ≡ weighed q old + many * one_if (q document)
counted_weight q mark many document old new is same =
    let f = λ (c : Class). c.count * one_if (q c.sample) in
    let more : Class = record { mark = mark; count = is.class.count + many; sample = document } in
    let lt = inside old is.place is.class is.here in
    let at : get_or old is.place is.class ≡ is.class = get_or_from_slice_get old is.place is.class is.class is.here in
    let sum : sum_by f (set old is.place more) + f (get_or old is.place is.class) ≡ sum_by f old + f more = sum_by-set f old is.place more is.class lt in
    let there : f (get_or old is.place is.class) ≡ is.class.count * one_if (q document) = ap f at ∙ same_weight is.class.count (q is.class.sample) (q document) same in
    let after : f more ≡ is.class.count * one_if (q document) + many * one_if (q document) = more_weight is.class.count many (q document) in
    let now : weighed q new ≡ sum_by f (set old is.place more) = ap (weighed q) is.now in
    cancel (weighed q new) (sum_by f (set old is.place more)) (f (get_or old is.place is.class)) (sum_by f old) (f more) (is.class.count * one_if (q document)) (many * one_if (q document)) now sum there after
  where
    cancel : (new set_sum at old more same one : ℕ) → new ≡ set_sum → set_sum + at ≡ old + more → at ≡ same → more ≡ same + one → new ≡ old + one
    cancel new set_sum at old more same one a b c d = omega arith

-- ---- some numbers in classes

one_is : (b : Bool) → cond b 1 0 ≡ one_if b
one_is true = refl
one_is false = refl

once : (n : ℕ) → 1 * n ≡ n
once n = omega arith

-- a class that is that of the mark has a document that passes each test alike
alike : (agg : Agg) (kind : Kind) (entries : List Entry) (bound n : ℕ) (mark : Option ℤ) (c : Class) (q : ℕ → Bool) → Respects agg kind entries bound q → n < bound → mark ≡ mark_at agg kind entries n
    → (c.count ≡ 0) ⊎ (c.mark ≡ mark) → IsMarked agg kind entries bound c → (c.count ≡ 0) ⊎ (q c.sample ≡ q n)
alike agg kind entries bound n mark c q same lt is (inl none) marked = inl none
alike agg kind entries bound n mark c q same lt is (inr own) (inl none) = inl none
alike agg kind entries bound n mark c q same lt is (inr own) (inr there) = inr (same c.sample n there.0 lt (sym there.1 ∙ (own ∙ is)))

pub classes_more : (agg : Agg) (kind : Kind) (entries : List Entry) (bound : ℕ) (numbers : List ℕ) (i n : ℕ) (mark : Option ℤ) (old new : List Class) → i < length numbers → n ≡ get_or numbers i 0 → n < bound
    → mark ≡ mark_at agg kind entries n → IsCounted mark 1 n old new → AreClasses agg kind entries bound (take i numbers) old → AreClasses agg kind entries bound (take (i + 1) numbers) new
classes_more agg kind entries bound numbers i n mark old new lt at below is counted are =
    let more : Class = record { mark = mark; count = counted.class.count + 1; sample = n } in
    let P = IsMarked agg kind entries bound in
    let there : get_or old counted.place counted.class ≡ counted.class = get_or_from_slice_get old counted.place counted.class counted.class counted.here in
    let marked = subst P there (are.marked counted.place counted.class (inside old counted.place counted.class counted.here)) in
    record {
      marked = subst (λ (cs : List Class). All P cs) (sym counted.now) (All-set P old counted.place more (inr (below, is)) are.marked);
      weights = λ q same.
          counted_weight q mark 1 n old new counted (alike agg kind entries bound n mark counted.class q same below is counted.admits marked)
          ∙ (ap (λ (k : ℕ). weighed q old + k) (once (one_if (q n)))
          ∙ (ap (λ (k : ℕ). k + one_if (q n)) (are.weights q same)
          ∙ (ap (λ (k : ℕ). count_by q (take i numbers) + k) (sym (one_is (q n)) ∙ ap (λ (m : ℕ). cond (q m) 1 0) at)
          ∙ sym (sum_by_more (λ (m : ℕ). cond (q m) 1 0) numbers i 0 lt))));
    }

-- ---- classes added to others

pub sum_more : (new mid old here next count : ℕ) → new ≡ mid + count → mid ≡ old + here → next ≡ here + count → new ≡ old + next
sum_more new mid old here next count a b c = omega arith

pub sum_skip : (mid old here next count : ℕ) → mid ≡ old + here → next ≡ here + count → count ≡ 0 → mid ≡ old + next
sum_skip mid old here next count a b c = omega arith

pub regroup_skip : (agg : Agg) (kind : Kind) (entries : List Entry) (bound : ℕ) (cells old new : List Class) (i : ℕ) (d cell : Class) → i < length cells → cell ≡ get_or cells i d → cell.count ≡ 0
    → IsRegrouped agg kind entries bound (take i cells) old new → IsRegrouped agg kind entries bound (take (i + 1) cells) old new
regroup_skip agg kind entries bound cells old new i d cell lt at none is = record {
  marked = is.marked;
  weights = λ q same.
      let f = λ (c : Class). c.count * one_if (q c.sample) in
      let more : weighed q (take (i + 1) cells) ≡ weighed q (take i cells) + f (get_or cells i d) = sum_by_more f cells i d lt in
      let here : f (get_or cells i d) ≡ 0 = sym (ap f at) ∙ (ap (λ (k : ℕ). k * one_if (q cell.sample)) none ∙ zero_times (one_if (q cell.sample))) in
      let before = is.weights q same in
      omega arith;
}

pub regroup_more : (agg : Agg) (kind : Kind) (entries : List Entry) (bound : ℕ) (cells old mid new : List Class) (i : ℕ) (d cell : Class) → i < length cells → cell ≡ get_or cells i d → (cell.count ≡ 0 → ⊥)
    → IsMarked agg kind entries bound cell → IsCounted cell.mark cell.count cell.sample mid new → IsRegrouped agg kind entries bound (take i cells) old mid → IsRegrouped agg kind entries bound (take (i + 1) cells) old new
regroup_more agg kind entries bound cells old mid new i d cell lt at some (inl none) counted is = absurd (some none)
regroup_more agg kind entries bound cells old mid new i d cell lt at some (inr here) counted is =
    let more : Class = record { mark = cell.mark; count = counted.class.count + cell.count; sample = cell.sample } in
    let P = IsMarked agg kind entries bound in
    let there : get_or mid counted.place counted.class ≡ counted.class = get_or_from_slice_get mid counted.place counted.class counted.class counted.here in
    let marked = subst P there (is.marked counted.place counted.class (inside mid counted.place counted.class counted.here)) in
    record {
      marked = subst (λ (cs : List Class). All P cs) (sym counted.now) (All-set P mid counted.place more (inr here) is.marked);
      weights = λ q same.
          let f = λ (c : Class). c.count * one_if (q c.sample) in
          let grown : weighed q new ≡ weighed q mid + cell.count * one_if (q cell.sample)
          = counted_weight q cell.mark cell.count cell.sample mid new counted (alike agg kind entries bound cell.sample cell.mark counted.class q same here.0 here.1 counted.admits marked) in
          let next : weighed q (take (i + 1) cells) ≡ weighed q (take i cells) + f (get_or cells i d) = sum_by_more f cells i d lt in
          let one : f (get_or cells i d) ≡ cell.count * one_if (q cell.sample) = sym (ap f at) in
          let before = is.weights q same in
          added (weighed q new) (weighed q mid) (cell.count * one_if (q cell.sample)) (weighed q (take (i + 1) cells)) (weighed q (take i cells)) (f (get_or cells i d)) (weighed q old) grown next one before;
    }
  where
    added : (new mid one next here there old : ℕ) → new ≡ mid + one → next ≡ here + there → there ≡ one → mid ≡ old + here → new ≡ old + next
    added new mid one next here there old a b c d = omega arith

-- ---- classes in two lists

pub counted_front : (mark : Option ℤ) (many document : ℕ) (old new more : List Class) → IsCounted mark many document old new → IsCounted mark many document (old ++ more) (new ++ more)
counted_front mark many document old new more is =
    let lt = inside old is.place is.class is.here in
    record {
      place = is.place;
      class = is.class;
      here = got_front old more is.place is.class is.here;
      admits = is.admits;
      now = ap (λ (cs : List Class). cs ++ more) is.now ∙ sym (set-append_left old more is.place (record { mark = mark; count = is.class.count + many; sample = document }) lt);
    }
  where
    got_front : (xs ys : List Class) (i : ℕ) (c : Class) → slice_get xs i ≡ Some c → slice_get (xs ++ ys) i ≡ Some c
    got_front [] ys i c got = absurd (cc)
    got_front (x ∷ xs) ys zero c got = got
    got_front (x ∷ xs) ys (suc i) c got = got_front xs ys i c got

pub counted_back : (mark : Option ℤ) (many document : ℕ) (front old new : List Class) → IsCounted mark many document old new → IsCounted mark many document (front ++ old) (front ++ new)
counted_back mark many document [] old new is = is
counted_back mark many document (f ∷ fs) old new is =
    let rest = counted_back mark many document fs old new is in
    record {
      place = suc rest.place;
      class = rest.class;
      here = rest.here;
      admits = rest.admits;
      now = ap (λ (cs : List Class). f ∷ cs) rest.now;
    }

all_front : (P : Class → Type 0) (xs ys : List Class) → All P (xs ++ ys) → All P xs
all_front P xs ys all k d lt = subst P (get_or_append_left xs ys d k lt) (all k d (omega (arith, lt, length-append xs ys)))

all_back : (P : Class → Type 0) (xs ys : List Class) → All P (xs ++ ys) → All P ys
all_back P xs ys all k d lt = subst P (get_or-append-add xs ys k d) (all (length xs + k) d (omega (arith, lt, length-append xs ys)))

pub marked_front : (agg : Agg) (kind : Kind) (entries : List Entry) (bound : ℕ) (numbers : List ℕ) (cells classes : List Class) → AreClasses agg kind entries bound numbers (cells ++ classes) → All (IsMarked agg kind entries bound) cells
marked_front agg kind entries bound numbers cells classes are = all_front (IsMarked agg kind entries bound) cells classes are.marked

pub marked_back : (agg : Agg) (kind : Kind) (entries : List Entry) (bound : ℕ) (numbers : List ℕ) (cells classes : List Class) → AreClasses agg kind entries bound numbers (cells ++ classes) → All (IsMarked agg kind entries bound) classes
marked_back agg kind entries bound numbers cells classes are = all_back (IsMarked agg kind entries bound) cells classes are.marked

turned_sum : (a b c d : ℕ) → a ≡ b + c → d ≡ c + b → a ≡ d
turned_sum a b c d e f = omega arith

-- classes that have those of both lists
pub classes_regrouped : (agg : Agg) (kind : Kind) (entries : List Entry) (bound : ℕ) (numbers : List ℕ) (cells old new : List Class) → AreClasses agg kind entries bound numbers (cells ++ old) → IsRegrouped agg kind entries bound cells old new
    → AreClasses agg kind entries bound numbers new
classes_regrouped agg kind entries bound numbers cells old new are is = record {
  marked = is.marked;
  weights = λ q same.
      turned_sum (weighed q new) (weighed q old) (weighed q cells) (weighed q (cells ++ old)) (is.weights q same) (sum_by-append (λ (c : Class). c.count * one_if (q c.sample)) cells old) ∙ are.weights q same;
}

-- ---- no documents

none_weigh : (f : Class → ℕ) (cs : List Class) → ((c : Class) → c.count ≡ 0 → f c ≡ 0) → AllByRecursion (λ c. c.count ≡ 0) cs → sum_by f cs ≡ 0
none_weigh f [] none all = refl
none_weigh f (c ∷ cs) none all = rw (none c all.0, none_weigh f cs none all.1) refl

pub none_sum : (cs : List Class) → All (λ c. c.count ≡ 0) cs → class_sum cs ≡ 0
none_sum cs all = none_weigh (λ (c : Class). c.count) cs (λ c e. e) (recursion_from_All (λ (c : Class). c.count ≡ 0) cs all)

pub none_classes : (agg : Agg) (kind : Kind) (entries : List Entry) (bound : ℕ) (cs : List Class) → All (λ c. c.count ≡ 0) cs → AreClasses agg kind entries bound [] cs
none_classes agg kind entries bound cs all = record {
  marked = λ k d lt. inl (all k d lt);
  weights = λ q same. none_weigh (λ (c : Class). c.count * one_if (q c.sample)) cs (λ c e. ap (λ (k : ℕ). k * one_if (q c.sample)) e ∙ zero_times (one_if (q c.sample))) (recursion_from_All (λ (c : Class). c.count ≡ 0) cs all);
}
