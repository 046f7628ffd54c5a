-- The list of a key over documents that are kept is the lists of the splits under their numbers, one behind another.
use Rattle.std.proofs.Common.{◌≡◌, ℕ, suc, ◌+◌, ◌<◌, ◌≤◌, Bool, true, false, List, [], ◌∷◌, ◌++◌, length, Option, Some, None, refl, sym, ap, ap₂, ◌∙◌, arith}
use Rattle.std.specs.Prelude.{if◌then◌else◌}
use Rattle.std.proofs.lemmas.Bool.{ne_eqb}
use Rattle.doc_value.specs.declared.schema.Schema.{Schema}
use Rattle.term_postings.specs.declared.list.Posting.{Posting}
use Rattle.split_bundle.specs.declared.placed.Placed.{Placed}
use Rattle.split_bundle.specs.declared.split_view.SplitView.{SplitView}
use Rattle.split_bundle.specs.Keys.{keys_of}
use Rattle.split_bundle.specs.Lists.{has_key, keeps_places, places_of, posted, posting_list}
use Rattle.split_merge.specs.Joining.{joined_list, renumbered, with_number}
use Rattle.split_merge.specs.Keeping.{AreViewsOf, ViewsSplit, is_named, joined, kept, kept_from}
use Rattle.split_merge.specs.Numbering.{kept_count, kept_in, no_number, number_in, table_of, tables_of}
use Rattle.split_merge.proofs.KeptLemmas.{kept_append}

-- ---- one split

pub kept_length : (place : ℕ) (dropped : List ℕ) (ds : List Placed) → length (kept_from place dropped ds) ≡ kept_count dropped place (length ds)
kept_length place dropped [] = refl
kept_length place dropped (d ∷ ds) = by (is_named place dropped) (kept_length (suc place) dropped ds)
  where
    by : (b : Bool) → length (kept_from (suc place) dropped ds) ≡ kept_count dropped (suc place) (length ds)
        → length (if b then kept_from (suc place) dropped ds else d ∷ kept_from (suc place) dropped ds) ≡ (if b then kept_count dropped (suc place) (length ds) else suc (kept_count dropped (suc place) (length ds)))
    by true rest = rest
    by false rest = omega (arith, rest)

abbrev pub one : Schema → List ℕ → ℕ → Placed → List ℕ
one s key n d = if keeps_places s key then places_of key (keys_of s d.doc) else []

module _ (s : Schema) (key : List ℕ) (dropped : List ℕ) where
  -- the numbers of a table are those of the documents that are kept, and below the one that stands for none
  abbrev pub Numbers : (ℕ → Option ℕ) → ℕ → ℕ → ℕ → ℕ → Type 0
  Numbers number first place next count = (i : ℕ) → i < count → number (first + i) ≡ number_in (table_of dropped place next count) i

  first_at : (number : ℕ → Option ℕ) (first place next count : ℕ) → Numbers number first place next (suc count) → number first ≡ number_in (table_of dropped place next (suc count)) 0
  first_at number first place next count h = let none : first + 0 ≡ first = omega arith in ap (λ (n : ℕ). number n) (sym none) ∙ h 0 (omega arith)

  first_none : (number : ℕ → Option ℕ) (first place next count : ℕ) → is_named place dropped ≡ true → Numbers number first place next (suc count) → number first ≡ None
  first_none number first place next count is h = first_at number first place next count h ∙ (rw is refl)

  first_some : (number : ℕ → Option ℕ) (first place next count : ℕ) → is_named place dropped ≡ false → next < no_number → Numbers number first place next (suc count) → number first ≡ Some next
  first_some number first place next count is lt h =
      let apart : next ≡ no_number → ⊥ = λ e. absurd (omega (arith, e, lt)) in
      first_at number first place next count h ∙ (rw (is, ne_eqb next no_number apart) refl)

  others_of : (number : ℕ → Option ℕ) (first place next count : ℕ) (b : Bool) → is_named place dropped ≡ b → Numbers number first place next (suc count) → Numbers number (suc first) (suc place) (if b then next else suc next) count
  others_of number first place next count true is h i lt =
      let up : suc first + i ≡ first + suc i = omega arith in
      ap (λ (n : ℕ). number n) up ∙ h (suc i) (omega (arith, lt)) ∙ (rw is refl)
  others_of number first place next count false is h i lt =
      let up : suc first + i ≡ first + suc i = omega arith in
      ap (λ (n : ℕ). number n) up ∙ h (suc i) (omega (arith, lt)) ∙ (rw is refl)

  pub posted_kept : (number : ℕ → Option ℕ) (first place next : ℕ) (ds : List Placed) → next + kept_count dropped place (length ds) ≤ no_number → Numbers number first place next (length ds)
      → renumbered number (posted s key first ds) ≡ posted s key next (kept_from place dropped ds)
  posted_kept number first place next [] room h = refl
  posted_kept number first place next (d ∷ ds) room h = by (is_named place dropped) (has_key key (keys_of s d.doc)) refl refl (λ above few numbers. posted_kept number (suc first) (suc place) above ds few numbers)
    where
      by : (b k : Bool) → is_named place dropped ≡ b → has_key key (keys_of s d.doc) ≡ k
          → ((above : ℕ) → above + kept_count dropped (suc place) (length ds) ≤ no_number → Numbers number (suc first) (suc place) above (length ds)
          → renumbered number (posted s key (suc first) ds) ≡ posted s key above (kept_from (suc place) dropped ds))
          → renumbered number (posted s key first (d ∷ ds)) ≡ posted s key next (kept_from place dropped (d ∷ ds))
      by true true named has again =
          let few : next + kept_count dropped (suc place) (length ds) ≤ no_number = rw named at room in
          let here = first_none number first place next (length ds) named h in
          rw (named, has) (ap (λ (o : Option ℕ). with_number o (one s key first d) (renumbered number (posted s key (suc first) ds))) here ∙ again next few (others_of number first place next (length ds) true named h))
      by true false named has again =
          let few : next + kept_count dropped (suc place) (length ds) ≤ no_number = rw named at room in
          rw (named, has) (again next few (others_of number first place next (length ds) true named h))
      by false true named has again =
          let few : next + suc (kept_count dropped (suc place) (length ds)) ≤ no_number = rw named at room in
          let here = first_some number first place next (length ds) named (omega (arith, few)) h in
          rw (named, has) (ap (λ (o : Option ℕ). with_number o (one s key first d) (renumbered number (posted s key (suc first) ds))) here
          ∙ ap (λ (ps : List Posting). record { document = next; positions = one s key next d } ∷ ps) (again (suc next) (omega (arith, few)) (others_of number first place next (length ds) false named h)))
      by false false named has again =
          let few : next + suc (kept_count dropped (suc place) (length ds)) ≤ no_number = rw named at room in
          rw (named, has) (again (suc next) (omega (arith, few)) (others_of number first place next (length ds) false named h))

-- ---- several splits

pub posted_both : (s : Schema) (key : List ℕ) (n : ℕ) (xs ys : List Placed) → posted s key n (xs ++ ys) ≡ posted s key n xs ++ posted s key (n + length xs) ys
posted_both s key n [] ys = let none : n ≡ n + 0 = omega arith in ap (λ (m : ℕ). posted s key m ys) none
posted_both s key n (x ∷ xs) ys = by (has_key key (keys_of s x.doc)) refl (posted_both s key (suc n) xs ys ∙ ap (λ (m : ℕ). posted s key (suc n) xs ++ posted s key m ys) next)
  where
    next : suc n + length xs ≡ n + length (x ∷ xs)
    next = omega arith

    by : (b : Bool) → has_key key (keys_of s x.doc) ≡ b → posted s key (suc n) (xs ++ ys) ≡ posted s key (suc n) xs ++ posted s key (n + length (x ∷ xs)) ys
        → posted s key n ((x ∷ xs) ++ ys) ≡ posted s key n (x ∷ xs) ++ posted s key (n + length (x ∷ xs)) ys
    by true has more = rw has (ap (λ (ps : List Posting). record { document = n; positions = one s key n x } ∷ ps) more)
    by false has more = rw has more

-- how many documents a view of a split has
pub view_docs : (s : Schema) (v : SplitView) (ds : List Placed) → ViewsSplit s v ds → v.layout.docs ≡ length ds
view_docs s v ds views = views.1.layout.docs ∙ views.1.is_split.docs

module _ (s : Schema) (key : List ℕ) (dropped : List ℕ) where
  pub lists_joined : (place next : ℕ) (views : List SplitView) (lists : List (List Placed)) → AreViewsOf s views lists → next + kept_in dropped place views ≤ no_number
      → joined_list s key lists (tables_of dropped place next views) ≡ posted s key next (kept_from place dropped (joined lists))
  lists_joined place next [] [] are room = refl
  lists_joined place next [] (ds ∷ dss) are room = absurd are
  lists_joined place next (v ∷ vs) [] are room = absurd are
  lists_joined place next (v ∷ vs) (ds ∷ dss) are room =
      let docs = view_docs s v ds are.0 in
      let count = kept_count dropped place v.layout.docs in
      let table = table_of dropped place next v.layout.docs in
      let size : kept_count dropped place v.layout.docs ≡ length (kept_from place dropped ds) = ap (λ (n : ℕ). kept_count dropped place n) docs ∙ sym (kept_length place dropped ds) in
      let numbers : Numbers s key dropped (number_in table) 0 place next (length ds) = λ i lt.
      let none : 0 + i ≡ i = omega arith in
      ap (λ (n : ℕ). number_in table n) none ∙ ap (λ (n : ℕ). number_in (table_of dropped place next n) i) docs in
      let here : renumbered (number_in table) (posting_list s ds key) ≡ posted s key next (kept_from place dropped ds) =
      posted_kept s key dropped (number_in table) 0 place next ds (omega (arith, room, size, kept_length place dropped ds)) numbers in
      let more : joined_list s key dss (tables_of dropped (place + v.layout.docs) (next + count) vs) ≡ posted s key (next + count) (kept_from (place + v.layout.docs) dropped (joined dss)) =
      lists_joined (place + v.layout.docs) (next + count) vs dss are.1 (omega (arith, room)) in
      ap₂ (λ (xs ys : List Posting). xs ++ ys) here more
      ∙ ap (λ (n : ℕ). posted s key next (kept_from place dropped ds) ++ posted s key (next + n) (kept_from (place + v.layout.docs) dropped (joined dss))) size
      ∙ ap (λ (n : ℕ). posted s key next (kept_from place dropped ds) ++ posted s key (next + length (kept_from place dropped ds)) (kept_from (place + n) dropped (joined dss))) docs
      ∙ sym (posted_both s key next (kept_from place dropped ds) (kept_from (place + length ds) dropped (joined dss)))
      ∙ ap (λ (l : List Placed). posted s key next l) (sym (kept_append place dropped ds (joined dss)))

  -- of the documents of views of splits
  pub list_joined : (views : List SplitView) (lists : List (List Placed)) → AreViewsOf s views lists → kept_in dropped 0 views ≤ no_number → joined_list s key lists (tables_of dropped 0 0 views) ≡ posting_list s (kept dropped (joined lists)) key
  list_joined views lists are room = lists_joined 0 0 views lists are (omega (arith, room))
