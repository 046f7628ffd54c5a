-- What is read of fetched files.
use Rattle.std.proofs.Common.{◌≡◌, inl, inr, ℕ, zero, suc, ◌<◌, ◌≤◌, ◌==◌, ◌&&◌, Bool, true, false, List, [], ◌∷◌, ◌++◌, length, take, refl, sym, ap, ap₂, subst, arith, eq-eqb, get_or, Ok, Err, Option, Some, Result}
use Rattle.std.specs.Prelude.{IsTrue, ◌↔◌, slice_get}
use Rattle.doc_value.specs.declared.schema.Schema.{Schema}
use Rattle.meta_store.specs.declared.planning.PlanRow.{PlanRow}
use Rattle.meta_store.specs.declared.planning.RowWork.{RowWork}
use Rattle.split_build.specs.declared.builder.BuiltSplit.{BuiltSplit}
use Rattle.split_bundle.specs.Splits.{IsSplit}
use Rattle.split_bundle.specs.SplitViews.{split_of}
use Rattle.split_bundle.specs.declared.placed.Placed.{Placed}
use Rattle.split_bundle.specs.declared.split_error.SplitError.{SplitError}
use Rattle.split_bundle.specs.declared.split_error.SplitError.TheVariants as split
use Rattle.split_bundle.specs.declared.split_view.SplitView.{SplitView}
use Rattle.split_merge.specs.Keeping.{AreViewsOf, ViewsSplit}
use Rattle.split_merge.specs.Merging.{fault_of}
use Rattle.split_merge.specs.declared.merge_error.MergeError.{MergeError}
use Rattle.split_merge.specs.declared.merge_error.MergeError.TheVariants.{Build, Memory, Split}
use Rattle.upkeep_run.specs.Judging.{AgreesWith, AreRead, AreSplits, IsJudged, IsRead, MergesFiles, MergesViews}

-- ---- one file

pub judged_by : (bytes : List ℕ) (row : PlanRow) (v : SplitView) (work : RowWork) → row.work ≡ Some work → IsRead bytes v → (r : Bool) → (IsTrue r ↔ AgreesWith v (Some work)) → IsJudged bytes row r
judged_by bytes row v work is read true h = (v, read, subst (AgreesWith v) (sym is) (h.0 refl))
judged_by bytes row v work is read false h = inr (inr (v, read, λ agrees. never (h.1 (subst (AgreesWith v) is agrees))))
  where
    never : IsTrue false → ⊥
    never e = cc

pub same_row : (o : Option PlanRow) (a b : PlanRow) → o ≡ Some a → o ≡ Some b → a ≡ b
same_row o a b e f = cc

pub both_true : (a b c d : ℕ) → a ≡ b → c ≡ d → ((a == b) && (c == d)) ≡ true
both_true a b c d e f = ap₂ ◌&&◌ (eq-eqb a b e) (eq-eqb c d f)

pub not_both : (b : Bool) → b ≡ true → b ≡ false → ⊥
not_both true e f = cc
not_both false e f = cc

-- ---- several

pub read_more : (files : List (List ℕ)) (views : List SplitView) (n : ℕ) (bytes : List ℕ) (v : SplitView) → slice_get files n ≡ Some bytes → IsRead bytes v → AreRead (take n files) views → AreRead (take (suc n) files) (views ++ v ∷ [])
read_more [] views n bytes v there read h = cc
read_more (b ∷ files) [] zero bytes v there read h = (subst (λ x. IsRead x v) (first b bytes there) read, tt)
  where
    first : (b bytes : List ℕ) → ◌≡◌ {A = Option (List ℕ)} (Some b) (Some bytes) → bytes ≡ b
    first b bytes e = cc
read_more (b ∷ files) (w ∷ views) zero bytes v there read h = absurd h
read_more (b ∷ files) [] (suc n) bytes v there read h = absurd h
read_more (b ∷ files) (w ∷ views) (suc n) bytes v there read h = (h.0, read_more files views n bytes v there read h.1)

pub file_at : (files : List (List ℕ)) (n : ℕ) (d x : List ℕ) → n < length files → x ≡ get_or files n d → slice_get files n ≡ Some x
file_at [] n d x lt e = absurd (omega (arith, lt))
file_at (b ∷ files) zero d x lt e = ap Some (sym e)
file_at (b ∷ files) (suc n) d x lt e = file_at files n d x (omega (arith, lt)) e

-- the documents of the file at a place
pub splits_at : (s : Schema) (files : List (List ℕ)) (lists : List (List Placed)) (n : ℕ) (bytes : List ℕ) → slice_get files n ≡ Some bytes → AreSplits s files lists → (ds : List Placed) × (slice_get lists n ≡ Some ds) × IsSplit s bytes ds
splits_at s [] lists n bytes there h = cc
splits_at s (b ∷ files) [] n bytes there h = absurd h
splits_at s (b ∷ files) (ds ∷ lists) zero bytes there h = (ds, refl, subst (λ (x : List ℕ). IsSplit s x ds) (first b bytes there) h.0)
  where
    first : (b bytes : List ℕ) → ◌≡◌ {A = Option (List ℕ)} (Some b) (Some bytes) → b ≡ bytes
    first b bytes e = cc
splits_at s (b ∷ files) (ds ∷ lists) (suc n) bytes there h = splits_at s files lists n bytes there h.1

pub views_more : (s : Schema) (views : List SplitView) (lists : List (List Placed)) (n : ℕ) (ds : List Placed) (v : SplitView) → slice_get lists n ≡ Some ds → ViewsSplit s v ds → AreViewsOf s views (take n lists) → AreViewsOf s (views ++ v ∷ []) (take (suc n) lists)
views_more s views [] n ds v there h k = cc
views_more s [] (d ∷ lists) zero ds v there h k = (subst (λ (x : List Placed). ViewsSplit s v x) (first d ds there) h, tt)
  where
    first : (d ds : List Placed) → ◌≡◌ {A = Option (List Placed)} (Some d) (Some ds) → ds ≡ d
    first d ds e = cc
views_more s (w ∷ views) (d ∷ lists) zero ds v there h k = absurd k
views_more s [] (d ∷ lists) (suc n) ds v there h k = absurd k
views_more s (w ∷ views) (d ∷ lists) (suc n) ds v there h k = (k.0, views_more s views lists n ds v there h k.1)

pub of_views : (s : Schema) (dropped : List ℕ) (files : List (List ℕ)) (result : Result BuiltSplit MergeError) → MergesViews s dropped files result → MergesFiles s dropped files result
of_views s dropped files (Ok built) h = h
of_views s dropped files (Err (Memory e)) h = tt
of_views s dropped files (Err (Split number e)) h = inr h
of_views s dropped files (Err (Build e)) h = h

pub of_unread : (s : Schema) (dropped : List ℕ) (files : List (List ℕ)) (n : ℕ) (bytes : List ℕ) (e : SplitError) → slice_get files n ≡ Some bytes → split_of bytes ≡ Err e → MergesFiles s dropped files (Err (fault_of n e))
of_unread s dropped files n bytes (split.Memory a) there is = tt
of_unread s dropped files n bytes split.BadMagic there is = inl (record { bytes = bytes; there = there; fault = split.BadMagic; footer = is; told = refl })
of_unread s dropped files n bytes (split.Truncated at) there is = inl (record { bytes = bytes; there = there; fault = split.Truncated at; footer = is; told = refl })
of_unread s dropped files n bytes (split.BadSection number) there is = inl (record { bytes = bytes; there = there; fault = split.BadSection number; footer = is; told = refl })
of_unread s dropped files n bytes (split.BadVersion number) there is = inl (record { bytes = bytes; there = there; fault = split.BadVersion number; footer = is; told = refl })

-- behind the last file
pub all_lists : (s : Schema) (files : List (List ℕ)) (lists : List (List Placed)) (n : ℕ) → length files ≤ n → AreSplits s files lists → take n lists ≡ lists
all_lists s [] [] zero le h = refl
all_lists s [] [] (suc n) le h = refl
all_lists s [] (ds ∷ lists) n le h = absurd h
all_lists s (b ∷ files) [] n le h = absurd h
all_lists s (b ∷ files) (ds ∷ lists) zero le h = absurd (omega (arith, le))
all_lists s (b ∷ files) (ds ∷ lists) (suc n) le h = ap (λ l. ds ∷ l) (all_lists s files lists n (omega (arith, le)) h.1)
