-- Which documents of a file are dropped, and what is left of them.
use Rattle.std.proofs.Common.{◌≡◌, inl, inr, ℕ, zero, suc, ◌+◌, ◌<◌, ◌≤◌, ◌==◌, ◌&&◌, ◌||◌, Bool, true, false, cond, get_or, not, List, [], ◌∷◌, ◌++◌, drop, filter, length, map, min, take, refl, sym, ap, ap₂, ◌∙◌, subst, arith, eq-eqb, nat_le, nat_lt, ◌⊎◌, Option, Some, None, Ok, Err, Result}
use Rattle.std.proofs.lemmas.Bool.{cases_Bool, eqb-true, le-leb, le-ltb, lt-leb, ne_eqb}
use Rattle.std.proofs.lemmas.Bool.Decides.{nat_tests}
use Rattle.std.proofs.lemmas.List.Elements.{filter_agree}
use Rattle.std.proofs.lemmas.List.Folds.{list_any-append}
use Rattle.std.specs.List.{list_any}
use Rattle.std.specs.Prelude.{slice_get, IsOkAnd, MatchResult}
use Rattle.delete_tasks.specs.Removed.{Place, lies_in}
use Rattle.delete_tasks.specs.Removes.{DeleteTask, removes}
use Rattle.doc_sets.specs.Bits.{has}
use Rattle.doc_sets.specs.BitWords.{members}
use Rattle.doc_sets.specs.declared.bits.DocBits.{DocBits}
use Rattle.doc_sets.specs.Sets.{is_one_of}
use Rattle.doc_value.specs.declared.doc.DocField.{DocField}
use Rattle.doc_value.specs.declared.schema.Schema.{Schema}
use Rattle.index_config.specs.declared.config.IndexConfig.{IndexConfig}
use Rattle.leaf_search.specs.Numbers.{numbers_from, numbers_of}
use Rattle.meta_store.specs.Laws.{NumberedFrom}
use Rattle.meta_store.specs.Left.{mark_of}
use Rattle.query_ast.specs.Meaning.{meaning as holds_query, within_times}
use Rattle.source_checkpoint.specs.Deltas.{range_of}
use Rattle.source_checkpoint.specs.declared.span.Span.{Span}
use Rattle.split_bundle.specs.declared.placed.Placed.{Placed}
use Rattle.split_merge.specs.Keeping.{RiseFrom, is_named, kept, kept_from}
use Rattle.index_world.specs.Replacing.{is_dropped_by, left_in}
use Rattle.index_world.specs.Seen.{place_of}
use Rattle.query_ast.specs.Askable.{CanAsk}
use Rattle.index_world.specs.PlanTasks.{least_of}
use Rattle.upkeep_run.specs.Dropping.{AreAsked, HasDropped, IsAdmitted, IsDropSet, came_before, drops, holds, is_before, is_dropped}

-- ---- the tests

any_or : {A : Type 0} (f g : A → Bool) (xs : List A) → list_any (λ x. f x || g x) xs ≡ (list_any f xs || list_any g xs)
any_or f g [] = refl
any_or f g (x ∷ xs) = ap (λ b. (f x || g x) || b) (any_or f g xs) ∙ four (f x) (g x) (list_any f xs) (list_any g xs)
  where
    four : (a b c d : Bool) → ((a || b) || (c || d)) ≡ ((a || c) || (b || d))
    four true b c d = refl
    four false true true d = refl
    four false true false d = refl
    four false false c d = refl

any_and : {A : Type 0} (a : Bool) (f : A → Bool) (xs : List A) → list_any (λ x. a && f x) xs ≡ (a && list_any f xs)
any_and true f xs = refl
any_and false f [] = refl
any_and false f (x ∷ xs) = any_and false f xs

any_same : {A : Type 0} (f g : A → Bool) (xs : List A) → ((x : A) → f x ≡ g x) → list_any f xs ≡ list_any g xs
any_same f g [] h = refl
any_same f g (x ∷ xs) h = ap₂ ◌||◌ (h x) (any_same f g xs h)

any_none : {A : Type 0} (f : A → Bool) (xs : List A) → ((x : A) → f x ≡ false) → list_any f xs ≡ false
any_none f [] h = refl
any_none f (x ∷ xs) h = ap₂ ◌||◌ (h x) (any_none f xs h)

-- a task behind the mark of a range that has the record, or a task before which it came by one of these spans
module _ (config : IndexConfig) (upto : ℕ) (x : Placed) where
  abbrev removed : DeleteTask → Bool
  removed task = removes config.schema x.doc task

  one_more : (a b c d e : Bool) → (b && (((a && c) || e) && d)) ≡ ((a && (b && (c && d))) || (b && (e && d)))
  one_more true true c d true = grind (arith, nat_tests)
  one_more true true true d false = grind (arith, nat_tests)
  one_more true true false d false = refl
  one_more true false c d e = refl
  one_more false true c d e = refl
  one_more false false c d e = refl

  -- WHAT TASKS DROP by the spans is what they drop by what was seen of these
  pub dropped_alike : (tasks : List DeleteTask) (spans : List Span) → is_dropped config.schema spans tasks upto x ≡ is_dropped_by config tasks upto (map mark_of spans) x
  dropped_alike tasks [] = any_none (drops config.schema [] upto x) tasks (λ task. never (removed task))
    where
      never : (b : Bool) → (b && false) ≡ false
      never true = refl
      never false = refl
  dropped_alike tasks (s ∷ spans) =
      any_same (drops config.schema (s ∷ spans) upto x) (λ task. here task || drops config.schema spans upto x task) tasks
      (λ task. one_more (lies_in (range_of s) (place_of x)) (removed task) (nat_lt s.admitted task.opstamp) (nat_le task.opstamp upto) (came_before spans (place_of x) task.opstamp))
      ∙ any_or here (drops config.schema spans upto x) tasks
      ∙ ap₂ ◌||◌ (any_and (lies_in (range_of s) (place_of x)) (λ task. removed task && (nat_lt s.admitted task.opstamp && nat_le task.opstamp upto)) tasks) (dropped_alike tasks spans)
    where
      here : DeleteTask → Bool
      here task = lies_in (range_of s) (place_of x) && (removed task && (nat_lt s.admitted task.opstamp && nat_le task.opstamp upto))

-- ---- tasks that drop none

came_low : (upto : ℕ) (spans : List Span) (x : Place) (o : ℕ) → o ≤ least_of upto spans → came_before spans x o ≡ false
came_low upto [] x o le = refl
came_low upto (s ∷ spans) x o le =
    ap₂ ◌||◌ (and_none (lies_in (range_of s) x) (nat_lt s.admitted o) (le-ltb s.admitted o (omega (arith, le)))) (came_low upto spans x o (omega (arith, le)))
  where
    and_none : (a b : Bool) → b ≡ false → (a && b) ≡ false
    and_none true b e = e
    and_none false b e = refl

any_behind : (p : DeleteTask → Bool) (n first : ℕ) (tasks : List DeleteTask) → NumberedFrom first tasks → ((task : DeleteTask) → task.opstamp < first + n → p task ≡ false) → list_any p (drop n tasks) ≡ list_any p tasks
any_behind p zero first [] h none = refl
any_behind p zero first (t ∷ tasks) h none = refl
any_behind p (suc n) first [] h none = refl
any_behind p (suc n) first (t ∷ tasks) h none =
    let here : p t ≡ false = none t (let e = h.0 in omega (arith, e)) in
    any_behind p n (first + 1) tasks h.1 (λ task lt. none task (omega (arith, lt))) ∙ sym (ap (λ b. b || list_any p tasks) here)

-- those behind the least one drop what all do
pub dropped_behind : (s : Schema) (spans : List Span) (tasks : List DeleteTask) (upto : ℕ) (x : Placed) → NumberedFrom 1 tasks → is_dropped s spans (drop (least_of upto spans) tasks) upto x ≡ is_dropped s spans tasks upto x
dropped_behind s spans tasks upto x h =
    any_behind (drops s spans upto x) (least_of upto spans) 1 tasks h (λ task lt.
    let low : came_before spans (place_of x) task.opstamp ≡ false = came_low upto spans (place_of x) task.opstamp (omega (arith, lt)) in
    ap (λ b. removes s x.doc task && (b && nat_le task.opstamp upto)) low ∙ never (removes s x.doc task))
  where
    never : (b : Bool) → (b && false) ≡ false
    never true = refl
    never false = refl

-- WHAT IS LEFT by the spans is what is left by what was seen of them
pub left_alike : (config : IndexConfig) (spans : List Span) (tasks : List DeleteTask) (upto : ℕ) (documents : List Placed) → NumberedFrom 1 tasks →
    filter (λ x. not (is_dropped config.schema spans (drop (least_of upto spans) tasks) upto x)) documents ≡ left_in config tasks upto (map mark_of spans) documents
left_alike config spans tasks upto documents h =
    filter_agree (λ x. not (is_dropped config.schema spans (drop (least_of upto spans) tasks) upto x)) (λ x. not (is_dropped_by config tasks upto (map mark_of spans) x))
    (λ x. ap not (dropped_behind config.schema spans tasks upto x h ∙ dropped_alike config upto x tasks spans)) documents

-- ---- where records were taken in

min_below : (a b o : ℕ) → nat_lt (min a b) o ≡ (nat_lt a o || nat_lt b o)
min_below a b o = grind (arith, nat_tests)

came_more : (spans : List Span) (s : Span) (x : Place) (o : ℕ) → came_before (spans ++ s ∷ []) x o ≡ (came_before spans x o || (lies_in (range_of s) x && nat_lt s.admitted o))
came_more spans s x o = list_any-append (λ (t : Span). lies_in (range_of t) x && nat_lt t.admitted o) spans (s ∷ []) ∙ ap (λ b. came_before spans x o || b) (or_last (lies_in (range_of s) x && nat_lt s.admitted o))
  where
    or_last : (b : Bool) → (b || false) ≡ b
    or_last true = refl
    or_last false = refl

-- no span has a record yet
pub admitted_none : (upto : ℕ) (x : Place) → IsAdmitted [] upto x upto
admitted_none upto x = λ o le. le-ltb upto o le

-- one span more has it
pub admitted_here : (spans : List Span) (s : Span) (upto : ℕ) (x : Place) (admitted : ℕ) → lies_in (range_of s) x ≡ true → IsAdmitted spans upto x admitted → IsAdmitted (spans ++ s ∷ []) upto x (min admitted s.admitted)
admitted_here spans s upto x admitted here h = λ o le.
    min_below admitted s.admitted o ∙ ap (λ b. b || nat_lt s.admitted o) (h o le) ∙ ap (λ b. came_before spans x o || (b && nat_lt s.admitted o)) (sym here) ∙ sym (came_more spans s x o)

-- and one that has it not
pub admitted_past : (spans : List Span) (s : Span) (upto : ℕ) (x : Place) (admitted : ℕ) → lies_in (range_of s) x ≡ false → IsAdmitted spans upto x admitted → IsAdmitted (spans ++ s ∷ []) upto x admitted
admitted_past spans s upto x admitted away h = λ o le.
    h o le ∙ sym (or_none (came_before spans x o)) ∙ ap (λ b. came_before spans x o || (b && nat_lt s.admitted o)) (sym away) ∙ sym (came_more spans s x o)
  where
    or_none : (b : Bool) → (b || false) ≡ b
    or_none true = refl
    or_none false = refl

-- ---- the numbers of documents

below_apart : (m n : ℕ) → m < n → (m == n) ≡ false
below_apart m n lt = ne_eqb m n (λ e. absurd (omega (arith, e, lt)))

above_apart : (m n : ℕ) → n < m → (m == n) ≡ false
above_apart m n lt = ne_eqb m n (λ e. absurd (omega (arith, e, lt)))

none_below : (test : List DocField → Bool) (n : ℕ) (ds : List Placed) (m : ℕ) → m < n → is_one_of m (numbers_from test n ds) ≡ false
none_below test n [] m lt = refl
none_below test n (d ∷ ds) m lt = by (test d.doc) (none_below test (suc n) ds m (omega (arith, lt)))
  where
    by : (b : Bool) → is_one_of m (numbers_from test (suc n) ds) ≡ false → is_one_of m (cond b (n ∷ numbers_from test (suc n) ds) (numbers_from test (suc n) ds)) ≡ false
    by true rest = ap₂ ◌||◌ (below_apart m n lt) rest
    by false rest = rest

one_from : (test : List DocField → Bool) (n : ℕ) (ds : List Placed) (k m : ℕ) → m ≡ n + k → is_one_of m (numbers_from test n ds) ≡ holds (λ d. test d.doc) ds k
one_from test n [] k m e = refl
one_from test n (d ∷ ds) zero m e = by (test d.doc)
  where
    below : is_one_of m (numbers_from test (suc n) ds) ≡ false
    below = none_below test (suc n) ds m (omega (arith, e))

    by : (b : Bool) → is_one_of m (cond b (n ∷ numbers_from test (suc n) ds) (numbers_from test (suc n) ds)) ≡ b
    by true = ap (λ b. b || is_one_of m (numbers_from test (suc n) ds)) (eq-eqb m n (omega (arith, e)))
    by false = below
one_from test n (d ∷ ds) (suc k) m e = by (test d.doc) (one_from test (suc n) ds k m (omega (arith, e)))
  where
    by : (b : Bool) → is_one_of m (numbers_from test (suc n) ds) ≡ holds (λ d. test d.doc) ds k → is_one_of m (cond b (n ∷ numbers_from test (suc n) ds) (numbers_from test (suc n) ds)) ≡ holds (λ d. test d.doc) ds k
    by true rest = ap (λ b. b || is_one_of m (numbers_from test (suc n) ds)) (above_apart m n (omega (arith, e))) ∙ rest
    by false rest = rest

pub one_of_push : (k : ℕ) (ns : List ℕ) (n : ℕ) → is_one_of k (ns ++ n ∷ []) ≡ (is_one_of k ns || (k == n))
one_of_push k [] n = or_last (k == n)
  where
    or_last : (b : Bool) → (b || false) ≡ b
    or_last true = refl
    or_last false = refl
one_of_push k (m ∷ ns) n = ap (λ b. (k == m) || b) (one_of_push k ns n) ∙ or_assoc (k == m) (is_one_of k ns) (k == n)
  where
    or_assoc : (a b c : Bool) → (a || (b || c)) ≡ ((a || b) || c)
    or_assoc true b c = refl
    or_assoc false b c = refl

-- ---- a set of them

-- a document's number is put in, if its record was taken in before the task
pub put_at : (spans : List Span) (upto opstamp : ℕ) (ds : List Placed) (n : ℕ) (d : Placed) (admitted k : ℕ) (new old : Bool) → opstamp ≤ upto → slice_get ds n ≡ Some d → IsAdmitted spans upto (place_of d) admitted →
    new ≡ (old || ((k == n) && nat_lt admitted opstamp)) → new ≡ (old || ((k == n) && holds (is_before spans opstamp) ds k))
put_at spans upto opstamp ds n d admitted k new old le there h e = e ∙ ap (λ b. old || b) (by (cases_Bool (k == n)))
  where
    at_n : (ds : List Placed) (n : ℕ) → slice_get ds n ≡ Some d → holds (is_before spans opstamp) ds n ≡ is_before spans opstamp d
    at_n [] n there = absurd (never there)
      where
        never : ◌≡◌ {A = Option Placed} None (Some d) → ⊥
        never e = cc e
    at_n (x ∷ ds) zero there = ap (is_before spans opstamp) (first there)
      where
        first : ◌≡◌ {A = Option Placed} (Some x) (Some d) → x ≡ d
        first e = cc e
    at_n (x ∷ ds) (suc n) there = at_n ds n there

    by : ((k == n) ≡ true) ⊎ ((k == n) ≡ false) → ((k == n) && nat_lt admitted opstamp) ≡ ((k == n) && holds (is_before spans opstamp) ds k)
    by (inl t) = ap (λ b. (k == n) && b) (h opstamp le ∙ sym (at_n ds n there) ∙ ap (holds (is_before spans opstamp) ds) (sym (eqb-true k n t)))
    by (inr f) = ap (λ b. b && nat_lt admitted opstamp) f ∙ sym (ap (λ b. b && holds (is_before spans opstamp) ds k) f)

-- and one more
pub put_more : (new was old one here test : Bool) → was ≡ (old || (one && test)) → new ≡ (was || (here && test)) → new ≡ (old || ((one || here) && test))
put_more new was old one here test h e = e ∙ ap (λ b. b || (here && test)) h ∙ ends old one here test
  where
    ends : (a b c d : Bool) → ((a || (b && d)) || (c && d)) ≡ (a || ((b || c) && d))
    ends true b c d = refl
    ends false true c true = refl
    ends false true true false = refl
    ends false true false false = refl
    ends false false c d = refl

-- ---- what one task drops, by the numbers of the documents that match

module _ (s : Schema) (spans : List Span) (upto : ℕ) (task : DeleteTask) (le : task.opstamp ≤ upto) where
  abbrev matches : List DocField → Bool
  matches d = holds_query s d task.query && within_times s task.times d

  drops_when : (d : Placed) → (matches d.doc && is_before spans task.opstamp d) ≡ drops s spans upto d task
  drops_when d = ap₂ ◌&&◌ (and_swap (holds_query s d.doc task.query) (within_times s task.times d.doc)) (and_all (is_before spans task.opstamp d) (nat_le task.opstamp upto) (le-leb task.opstamp upto le))
    where
      and_swap : (a b : Bool) → (a && b) ≡ (b && a)
      and_swap true true = refl
      and_swap true false = refl
      and_swap false true = refl
      and_swap false false = refl

      and_all : (a b : Bool) → b ≡ true → a ≡ (a && b)
      and_all true b e = sym e
      and_all false b e = refl

  drops_at : (ds : List Placed) (k : ℕ) → (holds (λ d. matches d.doc) ds k && holds (is_before spans task.opstamp) ds k) ≡ holds (λ d. drops s spans upto d task) ds k
  drops_at [] k = refl
  drops_at (d ∷ ds) zero = drops_when d
  drops_at (d ∷ ds) (suc k) = drops_at ds k

  -- what was put in
  pub drops_put : (ds : List Placed) (numbers : List ℕ) (k : ℕ) (new old : Bool) → numbers ≡ numbers_of (λ d. holds_query s d task.query && within_times s task.times d) ds →
      new ≡ (old || (is_one_of k numbers && holds (is_before spans task.opstamp) ds k)) → new ≡ (old || holds (λ d. drops s spans upto d task) ds k)
  drops_put ds numbers k new old same e =
      e ∙ ap (λ b. old || (b && holds (is_before spans task.opstamp) ds k)) (ap (is_one_of k) same ∙ one_from (λ d. holds_query s d task.query && within_times s task.times d) 0 ds k k (omega arith)) ∙ ap (λ b. old || b) (drops_at ds k)

-- an answer that is always given
pub always_given : {X E : Type 0} (r : Result X E) (P Q : X → Type 0) (R : E → Type 0) → IsOkAnd r P → ((x : X) → P x → Q x) → MatchResult r Q R
always_given (Ok x) P Q R h f = f x h
always_given (Err e) P Q R h f = absurd h

-- ---- what several tasks drop

pub holds_none : (ds : List Placed) (k : ℕ) → holds (λ d. false) ds k ≡ false
holds_none [] k = refl
holds_none (d ∷ ds) zero = refl
holds_none (d ∷ ds) (suc k) = holds_none ds k

dropped_more : (s : Schema) (spans : List Span) (tasks : List DeleteTask) (task : DeleteTask) (upto : ℕ) (d : Placed) → is_dropped s spans (tasks ++ task ∷ []) upto d ≡ (is_dropped s spans tasks upto d || drops s spans upto d task)
dropped_more s spans tasks task upto d = list_any-append (drops s spans upto d) tasks (task ∷ []) ∙ ap (λ b. is_dropped s spans tasks upto d || b) (or_last (drops s spans upto d task))
  where
    or_last : (b : Bool) → (b || false) ≡ b
    or_last true = refl
    or_last false = refl

-- by one task more
pub holds_more : (s : Schema) (spans : List Span) (tasks : List DeleteTask) (task : DeleteTask) (upto : ℕ) (ds : List Placed) (k : ℕ) →
    holds (is_dropped s spans (tasks ++ task ∷ []) upto) ds k ≡ (holds (is_dropped s spans tasks upto) ds k || holds (λ d. drops s spans upto d task) ds k)
holds_more s spans tasks task upto [] k = refl
holds_more s spans tasks task upto (d ∷ ds) zero = dropped_more s spans tasks task upto d
holds_more s spans tasks task upto (d ∷ ds) (suc k) = holds_more s spans tasks task upto ds k

-- one behind the last drops none
pub none_past : (s : Schema) (spans : List Span) (task : DeleteTask) (upto : ℕ) (ds : List Placed) (k : ℕ) → upto < task.opstamp → holds (λ d. drops s spans upto d task) ds k ≡ false
none_past s spans task upto [] k lt = refl
none_past s spans task upto (d ∷ ds) zero lt =
    ap (λ b. removes s d.doc task && (came_before spans (place_of d) task.opstamp && b)) (lt-leb task.opstamp upto lt) ∙ none (removes s d.doc task) (came_before spans (place_of d) task.opstamp)
  where
    none : (b c : Bool) → (b && (c && false)) ≡ false
    none true true = refl
    none true false = refl
    none false c = refl
none_past s spans task upto (d ∷ ds) (suc k) lt = none_past s spans task upto ds k lt

pub or_same : (new old b : Bool) → new ≡ old → b ≡ false → new ≡ (old || b)
or_same new true b e f = e
or_same new false b e f = e ∙ sym f

-- ---- the least task

pub least_low : (upto : ℕ) (spans : List Span) → least_of upto spans ≤ upto
least_low upto [] = omega arith
least_low upto (s ∷ spans) = let rest = least_low upto spans in omega (arith, rest)

-- ---- the places of a set, and what is kept without them

pub members_rise : (p : ℕ → Bool) (n count : ℕ) → RiseFrom n (members p n count)
unfolding members
members_rise p n zero = tt
members_rise p n (suc count) = by (p n) (members_rise p (suc n) count)
  where
    weaker : (ps : List ℕ) → RiseFrom (suc n) ps → RiseFrom n ps
    weaker [] h = tt
    weaker (m ∷ ps) h = (let low = h.0 in omega (arith, low), h.1)

    by : (b : Bool) → RiseFrom (suc n) (members p (suc n) count) → RiseFrom n (cond b (n ∷ members p (suc n) count) (members p (suc n) count))
    by true rest = (omega arith, rest)
    by false rest = weaker (members p (suc n) count) rest

not_named : (least m : ℕ) (ps : List ℕ) → RiseFrom least ps → m < least → is_named m ps ≡ false
not_named least m [] rise lt = refl
not_named least m (p ∷ ps) rise lt = let low = rise.0 in ap₂ ◌||◌ (above_apart p m (omega (arith, low, lt))) (not_named (suc p) m ps rise.1 (omega (arith, low, lt)))

-- a place that is past is not asked
kept_past : (n m : ℕ) (ps : List ℕ) (ds : List Placed) → n < m → kept_from m (n ∷ ps) ds ≡ kept_from m ps ds
kept_past n m ps [] lt = refl
kept_past n m ps (d ∷ ds) lt =
    ap (λ b. cond (b || is_named m ps) (kept_from (suc m) (n ∷ ps) ds) (d ∷ kept_from (suc m) (n ∷ ps) ds)) (below_apart n m lt)
    ∙ ap (λ l. cond (is_named m ps) l (d ∷ l)) (kept_past n (suc m) ps ds (omega (arith, lt)))

abbrev pub Tells : (ℕ → Bool) → (Placed → Bool) → (n : ℕ) → List Placed → Type 0
Tells p test n ds = (k : ℕ) → k < length ds → p (n + k) ≡ holds test ds k

tells_next : (p : ℕ → Bool) (test : Placed → Bool) (n : ℕ) (d : Placed) (ds : List Placed) → Tells p test n (d ∷ ds) → Tells p test (suc n) ds
tells_next p test n d ds h = λ k lt. let e : suc n + k ≡ n + suc k = omega arith in ap p e ∙ h (suc k) (omega (arith, lt))

tells_first : (p : ℕ → Bool) (test : Placed → Bool) (n : ℕ) (d : Placed) (ds : List Placed) → Tells p test n (d ∷ ds) → p n ≡ test d
tells_first p test n d ds h = let e : n ≡ n + 0 = omega arith in ap p e ∙ h 0 (omega arith)

-- the first document, which is named or not
module _ (n : ℕ) (rest : List ℕ) (d : Placed) (ds : List Placed) where
  first_named : kept_from n (n ∷ rest) (d ∷ ds) ≡ kept_from (suc n) rest ds
  first_named =
      ap (λ b. cond (b || is_named n rest) (kept_from (suc n) (n ∷ rest) ds) (d ∷ kept_from (suc n) (n ∷ rest) ds)) (eq-eqb n n refl) ∙ kept_past n (suc n) rest ds (omega arith)

  first_kept : RiseFrom (suc n) rest → kept_from n rest (d ∷ ds) ≡ d ∷ kept_from (suc n) rest ds
  first_kept rise = ap (λ b. cond b (kept_from (suc n) rest ds) (d ∷ kept_from (suc n) rest ds)) (not_named (suc n) n rest rise (omega arith))

pub kept_members : (p : ℕ → Bool) (test : Placed → Bool) (n : ℕ) (ds : List Placed) → Tells p test n ds → kept_from n (members p n (length ds)) ds ≡ filter (λ d. not (test d)) ds
unfolding members
kept_members p test n [] h = refl
kept_members p test n (d ∷ ds) h =
    ap (λ b. kept_from n (cond b (n ∷ members p (suc n) (length ds)) (members p (suc n) (length ds))) (d ∷ ds)) (tells_first p test n d ds h)
    ∙ by (test d) (members p (suc n) (length ds)) (members_rise p (suc n) (length ds)) (kept_members p test (suc n) ds (tells_next p test n d ds h))
  where
    by : (b : Bool) (rest : List ℕ) → RiseFrom (suc n) rest → kept_from (suc n) rest ds ≡ filter (λ d. not (test d)) ds →
        kept_from n (cond b (n ∷ rest) rest) (d ∷ ds) ≡ cond (not b) (d ∷ filter (λ d. not (test d)) ds) (filter (λ d. not (test d)) ds)
    by true rest rise more = first_named n rest d ds ∙ more
    by false rest rise more = first_kept n rest d ds rise ∙ ap (λ l. d ∷ l) more

pub kept_count : (p : ℕ → Bool) (n : ℕ) (ds : List Placed) → length (kept_from n (members p n (length ds)) ds) + length (members p n (length ds)) ≡ length ds
unfolding members
kept_count p n [] = refl
kept_count p n (d ∷ ds) = by (p n) (members p (suc n) (length ds)) (members_rise p (suc n) (length ds)) (kept_count p (suc n) ds)
  where
    by : (b : Bool) (rest : List ℕ) → RiseFrom (suc n) rest → length (kept_from (suc n) rest ds) + length rest ≡ length ds → length (kept_from n (cond b (n ∷ rest) rest) (d ∷ ds)) + length (cond b (n ∷ rest) rest) ≡ suc (length ds)
    by true rest rise more = let same = ap (λ (l : List Placed). length l) (first_named n rest d ds) in omega (arith, same, more)
    by false rest rise more = let same = ap (λ (l : List Placed). length l) (first_kept n rest d ds rise) in omega (arith, same, more)

-- the drop set of a set that has it
pub is_drop_set : (s : Schema) (spans : List Span) (tasks : List DeleteTask) (upto : ℕ) (documents : List Placed) (bits : DocBits) (places : List ℕ) → places ≡ members (has bits) 0 bits.size → HasDropped s spans tasks upto documents bits →
    IsDropSet s spans tasks upto documents places
is_drop_set s spans tasks upto documents bits places same h =
    let all : places ≡ members (has bits) 0 (length documents) = same ∙ ap (members (has bits) 0) h.size in
    let tells : Tells (has bits) (is_dropped s spans tasks upto) 0 documents = λ k lt. let e : 0 + k ≡ k = omega arith in ap (has bits) e ∙ h.each k lt in
    let many = kept_count (has bits) 0 documents in
    let kept_many = ap (λ ps. length (kept ps documents)) all in
    let places_many = ap (λ (ps : List ℕ). length ps) all in
    record {
      left = ap (λ ps. kept ps documents) all ∙ kept_members (has bits) (is_dropped s spans tasks upto) 0 documents tells;
      count = omega (arith, many, kept_many, places_many);
    }

-- nothing is dropped yet, and by a task more
pub dropped_start : (s : Schema) (spans : List Span) (upto : ℕ) (documents : List Placed) (bits : DocBits) → bits.size ≡ length documents → ((k : ℕ) → has bits k ≡ false) → HasDropped s spans [] upto documents bits
dropped_start s spans upto documents bits size none = record { size = size; each = λ k lt. none k ∙ sym (holds_none documents k) }

pub dropped_next : (s : Schema) (spans : List Span) (tasks : List DeleteTask) (task : DeleteTask) (upto : ℕ) (documents : List Placed) (old new : DocBits) → HasDropped s spans tasks upto documents old → new.size ≡ old.size →
    ((k : ℕ) → k < length documents → has new k ≡ (has old k || holds (λ d. drops s spans upto d task) documents k)) → HasDropped s spans (tasks ++ task ∷ []) upto documents new
dropped_next s spans tasks task upto documents old new h size put =
    record {
      size = size ∙ h.size;
      each = λ k lt. put k lt ∙ ap (λ b. b || holds (λ d. drops s spans upto d task) documents k) (h.each k lt) ∙ sym (holds_more s spans tasks task upto documents k);
    }

pub asked_at : (s : Schema) (tasks : List DeleteTask) (n : ℕ) (task : DeleteTask) → slice_get tasks n ≡ Some task → AreAsked s tasks → CanAsk s task.query
asked_at s [] n task there h = absurd (never there)
  where
    never : ◌≡◌ {A = Option DeleteTask} None (Some task) → ⊥
    never e = cc e
asked_at s (t ∷ tasks) zero task there h = subst (λ (x : DeleteTask). CanAsk s x.query) (first there) h.0
  where
    first : ◌≡◌ {A = Option DeleteTask} (Some t) (Some task) → t ≡ task
    first e = cc e
asked_at s (t ∷ tasks) (suc n) task there h = asked_at s tasks n task there h.1

-- ---- as loops go

pub take_more : {X : Type 0} (xs : List X) (n : ℕ) (x : X) → slice_get xs n ≡ Some x → take (n + 1) xs ≡ take n xs ++ x ∷ []
take_more {X} xs n x there = ap (λ (m : ℕ). take m xs) (let e : n + 1 ≡ suc n = omega arith in e) ∙ by xs n there
  where
    by : (xs : List X) (n : ℕ) → slice_get xs n ≡ Some x → take (suc n) xs ≡ take n xs ++ x ∷ []
    by [] n there = absurd (never there)
      where
        never : ◌≡◌ {A = Option X} None (Some x) → ⊥
        never e = cc e
    by (y ∷ ys) zero there = ap (λ (z : X). z ∷ []) (first there)
      where
        first : ◌≡◌ {A = Option X} (Some y) (Some x) → y ≡ x
        first e = cc e
    by (y ∷ ys) (suc n) there = ap (λ l. y ∷ l) (by ys n there)

pub item_there : {X : Type 0} (xs : List X) (n : ℕ) (d x : X) → n < length xs → x ≡ get_or xs n d → slice_get xs n ≡ Some x
item_there [] n d x lt e = absurd (omega (arith, lt))
item_there (y ∷ ys) zero d x lt e = ap Some (sym e)
item_there (y ∷ ys) (suc n) d x lt e = item_there ys n d x (omega (arith, lt)) e
