-- What is told as corrupt.
use Rattle.std.proofs.Common.{Bool, Err, List, None, Ok, Option, Result, Some, [], ap, arith, cond, false, inl, inr, refl, subst, suc, sym, take, true, zero, ℕ, ◌&&◌, ◌++◌, ◌==◌, ◌∙◌, ◌∷◌, ◌≡◌, ◌≤◌, ◌⊎◌}
use Rattle.std.specs.Prelude.{IfErr, IsErr, length, slice_get}
use Rattle.std.specs.declared.alloc.AllocError.{AllocError}
use Rattle.std.specs.List.{AllZip}
use Rattle.std.proofs.lemmas.Bool.{and_parts, eqb-true}
use Rattle.doc_sets.specs.Faults.{IsMemory}
use Rattle.doc_sets.specs.declared.leaf_error.LeafError.{LeafError}
use Rattle.doc_sets.specs.declared.leaf_error.LeafError.TheVariants as leaf
use Rattle.doc_value.specs.declared.schema.Schema.{Schema}
use Rattle.index_config.specs.declared.config.IndexConfig.{IndexConfig}
use Rattle.meta_journal.specs.Places.{split_key}
use Rattle.meta_store.specs.declared.planning.PlanRow.{PlanRow}
use Rattle.meta_store.specs.declared.planning.RowWork.{RowWork}
use Rattle.object_store.specs.Store.{State as Kept}
use Rattle.split_build.specs.Limits.{AreWithin, MakeNone}
use Rattle.split_build.specs.declared.build_error.BuildError.{BuildError}
use Rattle.split_build.specs.declared.build_error.BuildError.TheVariants as build
use Rattle.split_build.specs.declared.builder.BuiltSplit.{BuiltSplit}
use Rattle.split_bundle.specs.Documents.{total_weight}
use Rattle.split_bundle.specs.Files.{Parts, file_bytes}
use Rattle.split_bundle.specs.Splits.{IsSplit, IsSplitOf}
use Rattle.split_bundle.specs.declared.placed.Placed.{Placed}
use Rattle.split_bundle.specs.declared.split_view.SplitView.{SplitView}
use Rattle.split_merge.specs.Keeping.{ViewsSplit, is_named, joined, kept, kept_from}
use Rattle.split_merge.specs.Merging.{IsMergeFault, HasFault, IsFaulty, Merges, fault_of}
use Rattle.split_bundle.specs.declared.split_error.SplitError.{SplitError}
use Rattle.split_bundle.specs.declared.split_error.SplitError.TheVariants as split
use Rattle.split_merge.specs.declared.merge_error.MergeError.{MergeError}
use Rattle.split_merge.specs.declared.merge_error.MergeError.TheVariants.{Build, Memory, Split}
use Rattle.index_world.specs.Answering.{Answered, plan_answered, raise_answered, replace_answered, stage_answered, upload_answered}
use Rattle.index_world.specs.Replacing.{numbers_of}
use Rattle.index_world.specs.declared.tokens.Plan.{Plan}
use Rattle.index_world.specs.declared.tokens.Staged.{Staged}
use Rattle.index_world.specs.declared.tokens.Uploaded.{Uploaded}
use Rattle.index_world.specs.declared.world_error.WorldError.{WorldError}
use Rattle.index_world.specs.declared.world_error.WorldError.TheVariants as errors
use Rattle.upkeep_run.specs.Corrupting.{AreOfRow, CorruptClose, CorruptDelete, CorruptDeleteFrom, CorruptFrom, CorruptPiece, CorruptStep, GaveCorrupt, HasOthers, IsCorrupt, IsNone, IsOfOthers, LeftFault, MergedCorrupt, OnlyGiven, PassLimits}
use Rattle.upkeep_run.specs.Ending.{Ends, EndsPlan, EndsRaise, EndsReplace, EndsStage, EndsUpload, TellsPlan, TellsStaged, TellsUploaded, Told, facts_said, fault_said, lost_said, number_at, plan_said, raised_said, replaced_said, unasked_said, unmerged_said, unstaged_said}
use Rattle.upkeep_run.specs.Judging.{AgreesWith, AreSplits, HasNoSplit, IsJudged}
use Rattle.upkeep_run.specs.Steps.{choice_of}
use Rattle.upkeep_run.specs.declared.outcome.UpkeepOutcome.{UpkeepOutcome as Said}
use Rattle.upkeep_run.specs.declared.outcome.UpkeepOutcome.TheVariants as said
use Rattle.upkeep_run.specs.declared.work.Aim.{Aim}
use Rattle.upkeep_run.specs.declared.work.WorkerPlace.{WorkerPlace as HeldPlace}
use Rattle.upkeep_run.specs.declared.work.Work.{Work as HeldWork}
use Rattle.upkeep_run.proofs.Judged.{both_true, not_both}

-- ---- an error that is told as corrupt

pub fault_corrupt : (error : WorldError) (key : List ℕ) → IsCorrupt (fault_said error) key → error ≡ errors.Corrupt key
fault_corrupt (errors.Memory e) key h = cc h
fault_corrupt (errors.Refused refusal) key h = cc h
fault_corrupt (errors.StoreFault before after) key h = cc h
fault_corrupt (errors.Missing k) key h = cc h
fault_corrupt (errors.Corrupt k) key h = cc h
fault_corrupt (errors.Foreign k) key h = cc h
fault_corrupt errors.Full key h = cc h
fault_corrupt (errors.Expired planned_at reached) key h = cc h
fault_corrupt errors.NoIndex key h = cc h
fault_corrupt errors.IndexExists key h = cc h
fault_corrupt (errors.BadConfig bad) key h = cc h

pub unstaged_corrupt : (error : WorldError) (key : List ℕ) → IsCorrupt (unstaged_said error) key → error ≡ errors.Corrupt key
unstaged_corrupt (errors.Memory e) key h = cc h
unstaged_corrupt (errors.Refused refusal) key h = cc h
unstaged_corrupt (errors.StoreFault before after) key h = cc h
unstaged_corrupt (errors.Missing k) key h = cc h
unstaged_corrupt (errors.Corrupt k) key h = cc h
unstaged_corrupt (errors.Foreign k) key h = cc h
unstaged_corrupt errors.Full key h = cc h
unstaged_corrupt (errors.Expired planned_at reached) key h = cc h
unstaged_corrupt errors.NoIndex key h = cc h
unstaged_corrupt errors.IndexExists key h = cc h
unstaged_corrupt (errors.BadConfig bad) key h = cc h

pub lost_corrupt : (number : ℕ) (error : WorldError) (key : List ℕ) → IsCorrupt (lost_said number error) key → error ≡ errors.Corrupt key
lost_corrupt number (errors.Memory e) key h = cc h
lost_corrupt number (errors.Refused refusal) key h = cc h
lost_corrupt number (errors.StoreFault before after) key h = cc h
lost_corrupt number (errors.Missing k) key h = cc h
lost_corrupt number (errors.Corrupt k) key h = cc h
lost_corrupt number (errors.Foreign k) key h = cc h
lost_corrupt number errors.Full key h = cc h
lost_corrupt number (errors.Expired planned_at reached) key h = cc h
lost_corrupt number errors.NoIndex key h = cc h
lost_corrupt number errors.IndexExists key h = cc h
lost_corrupt number (errors.BadConfig bad) key h = cc h

-- ---- steps whose call gives it

none_short : {A : Type 0} (refused : AllocError) (key : List ℕ) → ◌≡◌ {A = Told} (Err refused) (Ok (said.Fault (errors.Corrupt key))) → A
none_short refused key e = absurd (cc e)

planned_otherwise : (rows : List PlanRow) (key : List ℕ) → plan_said rows ≡ said.Fault (errors.Corrupt key) → ⊥
planned_otherwise [] key e = cc e
planned_otherwise (row ∷ rows) key e = cc e

same_said : (outcome : Said) (key : List ℕ) → ◌≡◌ {A = Told} (Ok outcome) (Ok (said.Fault (errors.Corrupt key))) → outcome ≡ said.Fault (errors.Corrupt key)
same_said outcome key e = cc e

pub plan_gives : (aim : Aim) (Gave : Answered → Type 0) (result : Told) (place : HeldPlace) → Ends (EndsPlan aim Gave) result place → OnlyGiven Gave result
plan_gives aim Gave (Err refused) place h = λ key e. none_short refused key e
plan_gives aim Gave (Ok outcome) place h = λ key e. by key e h.0 h.1 h.2
  where
    by : (key : List ℕ) → IsCorrupt (Ok outcome) key → (answer : Result Plan WorldError) → Gave (plan_answered (choice_of aim) answer) → TellsPlan answer outcome place → GaveCorrupt Gave key
    by key e (Ok plan) gave tells = absurd (planned_otherwise plan.rows key (sym tells.0 ∙ same_said outcome key e))
    by key e (Err error) gave tells = (plan_answered (choice_of aim) (Err error), gave, ap Some (fault_corrupt error key (tells.0 ∙ e)))

pub upload_gives : (Gave : Answered → Type 0) (plan : Plan) (number : ℕ) (bytes : List ℕ) (old new : Option Kept) (result : Told) (place : HeldPlace) → Ends (EndsUpload Gave plan number bytes old new) result place → OnlyGiven Gave result
upload_gives Gave plan number bytes old new (Err refused) place h = λ key e. none_short refused key e
upload_gives Gave plan number bytes old new (Ok outcome) place h = λ key e. by key e h.0 h.3 h.4
  where
    uploaded_otherwise : (token : Uploaded) (key : List ℕ) → said.Uploaded token.number ≡ said.Fault (errors.Corrupt key) → ⊥
    uploaded_otherwise token key e = cc e

    by : (key : List ℕ) → IsCorrupt (Ok outcome) key → (answer : Result Uploaded WorldError) → Gave (upload_answered number bytes answer) → TellsUploaded plan answer outcome place → GaveCorrupt Gave key
    by key e (Ok token) gave tells = absurd (uploaded_otherwise token key (sym tells.0 ∙ same_said outcome key e))
    by key e (Err error) gave tells = (upload_answered number bytes (Err error), gave, ap Some (fault_corrupt error key (tells.0 ∙ e)))

pub replace_gives : (upto : ℕ) (Gave : Answered → Type 0) (plan : Plan) (number : ℕ) (result : Told) (place : HeldPlace) → Ends (EndsReplace upto Gave plan number) result place → OnlyGiven Gave result
replace_gives upto Gave plan number (Err refused) place h = λ key e. none_short refused key e
replace_gives upto Gave plan number (Ok outcome) place h = λ key e. by key e h.0 h.1 h.2
  where
    by : (key : List ℕ) → IsCorrupt (Ok outcome) key → (answer : Result ℕ WorldError) → Gave (replace_answered number (numbers_of plan.rows) upto answer) → replaced_said number answer ≡ Ok outcome → GaveCorrupt Gave key
    by key e (Ok revision) gave tells = absurd (otherwise (tells ∙ e))
      where
        otherwise : replaced_said number (Ok revision) ≡ Ok (said.Fault (errors.Corrupt key)) → ⊥
        otherwise f = cc f
    by key e (Err error) gave tells = (replace_answered number (numbers_of plan.rows) upto (Err error), gave, ap Some (lost_corrupt number error key (tells ∙ e)))

-- ---- one file

-- what the judge of a file says of splits
abbrev pub JudgesSplits : List ℕ → PlanRow → Bool → Type 0
JudgesSplits bytes row r = (s : Schema) (documents : List Placed) (p : Parts) (known : RowWork) → IsSplitOf s documents p → bytes ≡ file_bytes p → row.work ≡ Some known →
    r ≡ ((length documents == known.docs) && (total_weight documents == known.weight))

pub refused_file : (bytes : List ℕ) (row : PlanRow) (r : Bool) → JudgesSplits bytes row r → r ≡ false → IsOfOthers bytes row
refused_file bytes row r judges away = λ s documents split counted. by row.work refl s documents split counted
  where
    by : (work : Option RowWork) → row.work ≡ work → (s : Schema) (documents : List Placed) → IsSplit s bytes documents → AreOfRow documents work → ⊥
    by None is s documents split counted = absurd counted
    by (Some known) is s documents split counted =
        let there = judges s documents split.parts known split.is_split split.bytes_are is in
        not_both r (there ∙ both_true _ _ _ _ counted.0 counted.1) away

pub taken_file : (bytes : List ℕ) (row : PlanRow) (r : Bool) → JudgesSplits bytes row r → IsJudged bytes row r → r ≡ true → HasOthers bytes row → ⊥
taken_file bytes row false judges judged is_taken others = absurd (never is_taken)
  where
    never : false ≡ true → ⊥
    never e = cc e
taken_file bytes row true judges judged is_taken others = others.3 (by row.work refl judged.2)
  where
    by : (work : Option RowWork) → row.work ≡ work → AgreesWith judged.0 work → AreOfRow others.1 work
    by None is agrees = absurd agrees
    by (Some known) is agrees =
        let split = others.2 in
        let both = and_parts (length others.1 == known.docs) (total_weight others.1 == known.weight) (sym (judges others.0 others.1 split.parts known split.is_split split.bytes_are is)) in
        (eqb-true _ _ both.0, eqb-true _ _ both.1)

pub told_fetched : (number : ℕ) (key : List ℕ) → IsCorrupt (Ok (said.Fetched number)) key → ⊥
told_fetched number key e = cc e

pub short_never : (told : Told) (key : List ℕ) → IsErr told → IsCorrupt told key → ⊥
short_never (Ok outcome) key short e = cc short
short_never (Err refused) key short e = cc e

-- what a fetch answered
pub fetch_fault : (row : PlanRow) (error : WorldError) (told : Told) → told ≡ fault_said error → CorruptPiece row (Err error) told
fetch_fault row error told same = λ key e. fault_corrupt error key (sym same ∙ e)

-- ---- all files

abbrev pub Viewed : Schema → List ℕ → SplitView → Type 0
Viewed s bytes v = (documents : List Placed) → IsSplit s bytes documents → ViewsSplit s v documents

module _ {A B : Type 0} (P : A → B → Type 0) where
  pub zip_more : (xs : List A) (ys : List B) (n : ℕ) (x : A) (y : B) → slice_get xs n ≡ Some x → P x y → AllZip P (take n xs) ys → AllZip P (take (suc n) xs) (ys ++ y ∷ [])
  zip_more [] ys n x y there one h = absurd (never there)
    where
      never : ◌≡◌ {A = Option A} None (Some x) → ⊥
      never e = cc e
  zip_more (a ∷ xs) [] zero x y there one h = (subst (λ (z : A). P z y) (first there) one, tt)
    where
      first : ◌≡◌ {A = Option A} (Some a) (Some x) → x ≡ a
      first e = cc e
  zip_more (a ∷ xs) (b ∷ ys) zero x y there one h = absurd h
  zip_more (a ∷ xs) [] (suc n) x y there one h = absurd h
  zip_more (a ∷ xs) (b ∷ ys) (suc n) x y there one h = (h.0, zip_more xs ys n x y there one h.1)

  pub zip_at : (xs : List A) (ys : List B) (n : ℕ) (y : B) → AllZip P xs ys → slice_get ys n ≡ Some y → (x : A) × (slice_get xs n ≡ Some x) × P x y
  zip_at [] [] n y h there = absurd (never there)
    where
      never : ◌≡◌ {A = Option B} None (Some y) → ⊥
      never e = cc e
  zip_at [] (b ∷ ys) n y h there = absurd h
  zip_at (a ∷ xs) [] n y h there = absurd h
  zip_at (a ∷ xs) (b ∷ ys) zero y h there = (a, refl, subst (λ (z : B). P a z) (first there) h.0)
    where
      first : ◌≡◌ {A = Option B} (Some b) (Some y) → b ≡ y
      first e = cc e
  zip_at (a ∷ xs) (b ∷ ys) (suc n) y h there = zip_at xs ys n y h.1 there

-- a view that is of no split is of a file that is none
module _ (s : Schema) (files : List (List ℕ)) (views : List SplitView) (h : AllZip (Viewed s) files views) (number : ℕ) where
  faulty_file : IsFaulty s views number → (bytes : List ℕ) × (slice_get files number ≡ Some bytes) × ((documents : List Placed) → IsSplit s bytes documents → ⊥)
  faulty_file fault = let at = zip_at (Viewed s) files views number fault.view h fault.is_there in (at.0, at.1, λ documents split. fault.is_none documents (at.2 documents split))

  no_split_at : (e : SplitError) → HasFault s views number e → HasNoSplit s files (Split number e)
  no_split_at (split.Memory a) fault = absurd fault
  no_split_at split.BadMagic fault = faulty_file fault
  no_split_at (split.Truncated at) fault = faulty_file fault
  no_split_at (split.BadSection section) fault = faulty_file fault
  no_split_at (split.BadVersion version) fault = faulty_file fault

pub no_split : (s : Schema) (files : List (List ℕ)) (views : List SplitView) (error : MergeError) → AllZip (Viewed s) files views → IsMergeFault s views error → HasNoSplit s files error
no_split s files views (Memory a) h cause = tt
no_split s files views (Build e) h cause = tt
no_split s files views (Split number e) h cause = no_split_at s files views h number e cause

pub if_no_split : (s : Schema) (files : List (List ℕ)) (views : List SplitView) (result : Result BuiltSplit MergeError) → AllZip (Viewed s) files views → IfErr result (IsMergeFault s views) → IfErr result (HasNoSplit s files)
if_no_split s files views (Ok built) h cause = tt
if_no_split s files views (Err error) h cause = no_split s files views error h cause

-- no footer is read
pub unread_none : (s : Schema) (files : List (List ℕ)) (n : ℕ) (bytes : List ℕ) (e : SplitError) → slice_get files n ≡ Some bytes → ((documents : List Placed) → IsSplit s bytes documents → ⊥) → HasNoSplit s files (fault_of n e)
unread_none s files n bytes (split.Memory a) there none = tt
unread_none s files n bytes split.BadMagic there none = (bytes, there, none)
unread_none s files n bytes (split.Truncated at) there none = (bytes, there, none)
unread_none s files n bytes (split.BadSection number) there none = (bytes, there, none)
unread_none s files n bytes (split.BadVersion number) there none = (bytes, there, none)

-- ---- what is made of all files

abbrev Merges_build : List Placed → BuildError → Type 0
Merges_build documents (build.Memory a) = ⊥
Merges_build documents (build.TooManyDocs count) = MakeNone documents (build.TooManyDocs count)
Merges_build documents (build.TooLarge weight) = MakeNone documents (build.TooLarge weight)

not_within : (documents : List Placed) (e : BuildError) → Merges_build documents e → AreWithin documents → ⊥
not_within documents (build.Memory a) h within = absurd h
not_within documents (build.TooManyDocs count) h within = let many = h.0 in let few = within.few in absurd (omega (arith, many, few))
not_within documents (build.TooLarge weight) h within = let heavy = h.1 in let light = within.light in absurd (omega (arith, heavy, light))

pub same_key : (a b : List ℕ) → IsCorrupt (Ok (said.Fault (errors.Corrupt a))) b → b ≡ a
same_key a b e = cc e

module _ (config : IndexConfig) (work : HeldWork) (Gave : Answered → Type 0) where
  abbrev files : List (List ℕ)
  files = work.files

  -- nothing was made
  pub unmerged_corrupt : (s : Schema) → s ≡ config.schema → (error : MergeError) → HasNoSplit s work.files error → ((lists : List (List Placed)) → AreSplits s work.files lists → Merges s (joined lists) (Err error)) → (told : Told) → told ≡ unmerged_said work.plan.rows error →
      MergedCorrupt config work Gave told
  unmerged_corrupt s same error none merges told is = subst (λ (t : Told). MergedCorrupt config work Gave t) (sym is) (subst (λ (x : Schema). HasNoSplit x work.files error → ((lists : List (List Placed)) → AreSplits x work.files lists → Merges x (joined lists) (Err error)) → MergedCorrupt config work Gave (unmerged_said work.plan.rows error)) (sym same) (by error) none merges)
    where
      by : (error : MergeError) → HasNoSplit config.schema work.files error → ((lists : List (List Placed)) → AreSplits config.schema work.files lists → Merges config.schema (joined lists) (Err error)) → MergedCorrupt config work Gave (unmerged_said work.plan.rows error)
      by (Memory refused) none merges = record { only = λ key e. none_short refused key e; passed = λ p. inr refl }
      by (Split number e) none merges =
          record {
            only = λ key h. inr (inl (record { number = number; bytes = none.0; fetched = none.1; none = none.2; of = same_key (split_key (number_at work.plan.rows number)) key h }));
            passed = λ p. absurd (merges p.0 p.1);
          }
      by (Build e) none merges =
          record {
            only = λ key h. inr (inr (same_key (split_key (number_at work.plan.rows 0)) key h, λ lists are within. not_within (joined lists) e (build_none (joined lists) e (merges lists are)) within));
            passed = λ p. inl refl;
          }
        where
          build_none : (ds : List Placed) (e : BuildError) → Merges config.schema ds (Err (Build e)) → Merges_build ds e
          build_none ds (build.Memory a) h = h
          build_none ds (build.TooManyDocs count) h = h
          build_none ds (build.TooLarge weight) h = h

  -- a split was made, and staged or not
  pub staged_corrupt : (s : Schema) → s ≡ config.schema → (built : BuiltSplit) → ((lists : List (List Placed)) → AreSplits s work.files lists → Merges s (joined lists) (Ok built)) → (told : Told) (place : HeldPlace) →
      Ends (EndsStage Gave work.plan built) told place → MergedCorrupt config work Gave told
  staged_corrupt s same built merges told place ends = record { only = only told ends; passed = λ p. absurd (p.2 (within p.0 (subst (λ (x : Schema). AreSplits x work.files p.0) (sym same) p.1))) }
    where
      within : (lists : List (List Placed)) → AreSplits s work.files lists → AreWithin (joined lists)
      within lists are = (merges lists are).within

      staged_otherwise : (number : ℕ) (key : List ℕ) → said.Staged number ≡ said.Fault (errors.Corrupt key) → ⊥
      staged_otherwise number key e = cc e

      by : (outcome : Said) (key : List ℕ) → IsCorrupt (Ok outcome) key → (answer : Result Staged WorldError) → Gave (stage_answered [] (facts_said work.plan.rows built) answer) → TellsStaged work.plan built answer outcome place → GaveCorrupt Gave key
      by outcome key e (Ok token) gave tells = absurd (staged_otherwise token.number key (sym tells.0 ∙ same_said outcome key e))
      by outcome key e (Err error) gave tells = (stage_answered [] (facts_said work.plan.rows built) (Err error), gave, ap Some (unstaged_corrupt error key (tells.0 ∙ e)))

      only : (told : Told) → Ends (EndsStage Gave work.plan built) told place → (key : List ℕ) → IsCorrupt told key →
          GaveCorrupt Gave key ⊎ IsNone config.schema work key ⊎ ((key ≡ split_key (number_at work.plan.rows 0)) × PassLimits config.schema work.files)
      only (Err refused) h key e = none_short refused key e
      only (Ok outcome) h key e = inl (by outcome key e h.0 h.1 h.2)

-- ---- a whole step

pub corrupt_from : {W : Type 0} (configured : W → IndexConfig) (Answers : W → Answered → W → Type 0) (before : HeldPlace) (told : Told) (old new : W) (at : HeldPlace) → before ≡ at →
    CorruptFrom at (λ call. Answers old call new) (configured old) told → CorruptStep configured Answers before told old new
corrupt_from configured Answers before told old new at e h = subst (λ (p : HeldPlace). CorruptFrom p (λ call. Answers old call new) (configured old) told) (sym e) h

-- ---- of a delete worker

pub raise_gives : (Gave : Answered → Type 0) (plan : Plan) (number : ℕ) (result : Told) (place : HeldPlace) → Ends (EndsRaise Gave plan number) result place → OnlyGiven Gave result
raise_gives Gave plan number (Err refused) place h = λ key e. none_short refused key e
raise_gives Gave plan number (Ok outcome) place h = λ key e. by key e h.0 h.1 h.2
  where
    by : (key : List ℕ) → IsCorrupt (Ok outcome) key → (answer : Result ℕ WorldError) → Gave (raise_answered number plan.upto answer) → raised_said number answer ≡ Ok outcome → GaveCorrupt Gave key
    by key e (Ok revision) gave tells = absurd (otherwise (tells ∙ e))
      where
        otherwise : raised_said number (Ok revision) ≡ Ok (said.Fault (errors.Corrupt key)) → ⊥
        otherwise f = cc f
    by key e (Err error) gave tells = (raise_answered number plan.upto (Err error), gave, ap Some (lost_corrupt number error key (tells ∙ e)))

pub stage_gives : (Gave : Answered → Type 0) (plan : Plan) (built : BuiltSplit) (result : Told) (place : HeldPlace) → Ends (EndsStage Gave plan built) result place → OnlyGiven Gave result
stage_gives Gave plan built (Err refused) place h = λ key e. none_short refused key e
stage_gives Gave plan built (Ok outcome) place h = λ key e. by key e h.0 h.1 h.2
  where
    staged_otherwise : (number : ℕ) (key : List ℕ) → said.Staged number ≡ said.Fault (errors.Corrupt key) → ⊥
    staged_otherwise number key e = cc e

    by : (key : List ℕ) → IsCorrupt (Ok outcome) key → (answer : Result Staged WorldError) → Gave (stage_answered [] (facts_said plan.rows built) answer) → TellsStaged plan built answer outcome place → GaveCorrupt Gave key
    by key e (Ok token) gave tells = absurd (staged_otherwise token.number key (sym tells.0 ∙ same_said outcome key e))
    by key e (Err error) gave tells = (stage_answered [] (facts_said plan.rows built) (Err error), gave, ap Some (unstaged_corrupt error key (tells.0 ∙ e)))

-- what is kept of documents within the limits is within them
pub kept_within : (place : ℕ) (dropped : List ℕ) (ds : List Placed) → (length (kept_from place dropped ds) ≤ length ds) × (total_weight (kept_from place dropped ds) ≤ total_weight ds)
kept_within place dropped [] = (omega arith, omega arith)
kept_within place dropped (d ∷ ds) = by (is_named place dropped) (kept_within (suc place) dropped ds)
  where
    by : (b : Bool) → (length (kept_from (suc place) dropped ds) ≤ length ds) × (total_weight (kept_from (suc place) dropped ds) ≤ total_weight ds) →
        (length (cond b (kept_from (suc place) dropped ds) (d ∷ kept_from (suc place) dropped ds)) ≤ length (d ∷ ds)) × (total_weight (cond b (kept_from (suc place) dropped ds) (d ∷ kept_from (suc place) dropped ds)) ≤ total_weight (d ∷ ds))
    by true rest = let many = rest.0 in let heavy = rest.1 in (omega (arith, many), omega (arith, heavy))
    by false rest = let many = rest.0 in let heavy = rest.1 in (omega (arith, many), omega (arith, heavy))

within_kept : (dropped : List ℕ) (ds : List Placed) → AreWithin ds → AreWithin (kept dropped ds)
within_kept dropped ds w =
    let less = kept_within 0 dropped ds in
    let many = less.0 in
    let heavy = less.1 in
    let few = w.few in
    let light = w.light in
    record { few = omega (arith, many, few); light = omega (arith, heavy, light) }

-- nothing was made of what is left
pub left_corrupt : (config : IndexConfig) (work : HeldWork) (Gave : Answered → Type 0) (dropped : List ℕ) (error : MergeError) → HasNoSplit config.schema work.files error →
    ((lists : List (List Placed)) → AreSplits config.schema work.files lists → Merges config.schema (kept dropped (joined lists)) (Err error)) → (told : Told) → told ≡ unmerged_said work.plan.rows error → (key : List ℕ) → IsCorrupt told key → LeftFault Gave config work key
left_corrupt config work Gave dropped (Memory refused) none merges told is key e = none_short refused key (sym is ∙ e)
left_corrupt config work Gave dropped (Split number x) none merges told is key e =
    inr (inl (record { number = number; bytes = none.0; fetched = none.1; none = none.2; of = same_key (split_key (number_at work.plan.rows number)) key (sym is ∙ e) }))
left_corrupt config work Gave dropped (Build x) none merges told is key e =
    inr (inr (same_key (split_key (number_at work.plan.rows 0)) key (sym is ∙ e), λ lists are within. not_within (kept dropped (joined lists)) x (build_none (kept dropped (joined lists)) x (merges lists are)) (within_kept dropped (joined lists) within)))
  where
    build_none : (ds : List Placed) (e : BuildError) → Merges config.schema ds (Err (Build e)) → Merges_build ds e
    build_none ds (build.Memory a) h = h
    build_none ds (build.TooManyDocs count) h = h
    build_none ds (build.TooLarge weight) h = h

-- nothing was to be done
pub nothing_close : (row : Option PlanRow) (file : Option (List ℕ)) (Gave : Answered → Type 0) (config : IndexConfig) (work : HeldWork) → CorruptClose row file Gave config work (Ok said.Nothing)
nothing_close row file Gave config work = by row file
  where
    never : {A : Type 0} (key : List ℕ) → IsCorrupt (Ok said.Nothing) key → A
    never key e = absurd (cc e)

    by : (row : Option PlanRow) (file : Option (List ℕ)) → CorruptClose row file Gave config work (Ok said.Nothing)
    by None file = λ key e. never key e
    by (Some row) None = λ key e. never key e
    by (Some row) (Some bytes) = λ key e. never key e

pub unasked_corrupt : (number : ℕ) (error : LeafError) (Unasked : Type 0) → IsMemory error ⊎ Unasked → (told : Told) → told ≡ unasked_said number error → (key : List ℕ) → IsCorrupt told key → (key ≡ split_key number) × Unasked
unasked_corrupt number (leaf.Memory a) Unasked why told is key e = none_short a key (sym is ∙ e)
unasked_corrupt number (leaf.Missing at) Unasked (inl memory) told is key e = absurd memory
unasked_corrupt number (leaf.Missing at) Unasked (inr un) told is key e = (same_key (split_key number) key (sym is ∙ e), un)
unasked_corrupt number (leaf.Corrupt section) Unasked (inl memory) told is key e = absurd memory
unasked_corrupt number (leaf.Corrupt section) Unasked (inr un) told is key e = (same_key (split_key number) key (sym is ∙ e), un)

pub corrupt_delete : {W : Type 0} (configured : W → IndexConfig) (Answers : W → Answered → W → Type 0) (before : HeldPlace) (told : Told) (old new : W) (at : HeldPlace) → before ≡ at →
    CorruptDeleteFrom at (λ call. Answers old call new) (configured old) told → CorruptDelete configured Answers before told old new
corrupt_delete configured Answers before told old new at e h = subst (λ (p : HeldPlace). CorruptDeleteFrom p (λ call. Answers old call new) (configured old) told) (sym e) h
