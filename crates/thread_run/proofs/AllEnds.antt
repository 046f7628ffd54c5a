-- The ends of all actors, from what came of their jobs.
use Rattle.std.proofs.Common.{◌≡◌, ℕ, suc, ◌≤◌, List, [], ◌∷◌, ◌++◌, length, map, refl, sym, ap, ◌∙◌, subst, arith, append-nil}
use Rattle.std.specs.List.{AllByRecursion, AllZip}
use Rattle.std.specs.Prelude.{Option, Some}
use Rattle.std.specs.declared.alloc.Global.{Global}
use Rattle.std.specs.declared.vec.Vec.{Vec}
use Rattle.byte_fields.specs.Causes.{Rose}
use Rattle.index_config.specs.declared.config.IndexConfig.{IndexConfig}
use Rattle.meta_journal.specs.declared.entry.Entry.{Entry}
use Rattle.source_log.specs.Log.{Log, names_of}
use Rattle.index_world.specs.Core.{Core}
use Rattle.indexing_run.specs.Steps.{partitions_for}
use Rattle.indexing_run.specs.declared.indexing.IndexerEnd.{IndexerEnd}
use Rattle.indexing_run.specs.declared.indexing.IndexerEnd.TheVariants as indexing
use Rattle.upkeep_run.specs.declared.work.Aim.TheVariants.{Deleting, Merging}
use Rattle.run_plan.specs.Every.{every}
use Rattle.run_plan.specs.declared.clients.Asking.{Asking}
use Rattle.thread_run.specs.declared.job.Done.{Done}
use Rattle.thread_run.specs.declared.job.Done.TheVariants as done
use Rattle.thread_run.specs.declared.job.Job.{Job}
use Rattle.thread_run.specs.declared.job.Job.TheVariants as jobs
use Rattle.thread_run.specs.Ends.{IndexerEnded}
use Rattle.thread_run.specs.SearcherReplies.{SearcherAnswered}
use Rattle.thread_run.specs.Beginning.{AreBegun}
use Rattle.thread_run.specs.Ending.{ends_from, logs_behind}
use Rattle.thread_run.specs.Gathering.{gathered}
use Rattle.thread_run.specs.Outcome.{end_of, indexed_of, served_of}
use Rattle.thread_run.specs.Staffing.{index_jobs, jobs_of, post_of}
use Rattle.thread_run.specs.declared.beginning.Begun.{Begun}
use Rattle.thread_run.specs.declared.beginning.Begun.TheVariants as begun
use Rattle.thread_run.specs.declared.outcome.Indexed.{Indexed}
use Rattle.thread_run.specs.declared.outcome.Served.{Served}
use Rattle.thread_run.specs.declared.end_lines.ActorEnd.{ActorEnd}
use Rattle.thread_run.specs.declared.end_lines.ActorEnd.TheVariants as ends
use Rattle.thread_run.proofs.Loops.{gathered_append}
use Rattle.thread_run.specs.RunExit.{CollectorEnds, EndsAre, KeepersEnd, WorkerEnds}
use Rattle.thread_run.proofs.Says.{Says}

-- ---- lists side by side

-- what stands beside two lists is two lists
pub record InParts {A B : Type 0} (R : A → B → Type 0) (xs ys : List A) (zs : List B) : Type 0 where
  pub front : List B
  pub back : List B
  pub is : zs ≡ front ++ back
  pub fronts : AllZip R xs front
  pub backs : AllZip R ys back

pub in_parts : {A B : Type 0} (R : A → B → Type 0) (xs ys : List A) (zs : List B) → AllZip R (xs ++ ys) zs → InParts R xs ys zs
in_parts R [] ys zs zip = record { front = []; back = zs; is = refl; fronts = tt; backs = zip }
in_parts R (x ∷ xs) ys [] zip = absurd zip
in_parts R (x ∷ xs) ys (z ∷ zs) zip =
    let rest = in_parts R xs ys zs zip.1 in
    record { front = z ∷ rest.front; back = rest.back; is = ap (λ l. z ∷ l) rest.is; fronts = (zip.0, rest.fronts); backs = rest.backs }

module _ {L : Type 0} (count : L → ℕ) (config : IndexConfig) (log : Log) (core exit : Core) (turns : ℕ) where
  abbrev entries : List Entry
  entries = exit.history

  abbrev least : ℕ
  least = length core.history

  abbrev SaysSo : Job L → Done L → Type 0
  SaysSo job result = Says count config log core exit turns job result

  -- ---- indexers

  -- from an earlier count on
  ended_wider : (names : List (List ℕ)) (first later last : ℕ) (end : IndexerEnd) → first ≤ later → IndexerEnded config log entries least core exit names later last end → IndexerEnded config log entries least core exit names first last end
  ended_wider names first later last indexing.CaughtUp le e = e
  ended_wider names first later last (indexing.Refused refusal) le e = e
  ended_wider names first later last (indexing.Fault error) le e = e
  ended_wider names first later last (indexing.SourceFault before now) le e = let low = e.0 in (omega (arith, le, low), e.1, e.2)
  ended_wider names first later last indexing.Turns le e = e
  ended_wider names first later last indexing.Memory le e = e

  index_no_ends : (all : List (Begun L)) (came : List (Done L)) → AllZip SaysSo (index_jobs all) came → gathered end_of came ≡ []
  index_no_ends [] [] zip = refl
  index_no_ends [] (one ∷ came) zip = absurd zip
  index_no_ends (begun.Ready reader ∷ all) [] zip = absurd zip
  index_no_ends (begun.Ready reader ∷ all) (done.Indexed last end ∷ came) zip = index_no_ends all came zip.1
  index_no_ends (begun.Ready reader ∷ all) (done.Answered answered short ∷ came) zip = absurd zip.0.1
  index_no_ends (begun.Ready reader ∷ all) (done.Merged end ∷ came) zip = absurd zip.0.1
  index_no_ends (begun.Ready reader ∷ all) (done.Deleted end ∷ came) zip = absurd zip.0.1
  index_no_ends (begun.Ready reader ∷ all) (done.Collected end ∷ came) zip = absurd zip.0.1
  index_no_ends (begun.Failed last before after ∷ all) came zip = index_no_ends all came zip
  index_no_ends (begun.Short last ∷ all) came zip = index_no_ends all came zip

  index_none_served : (all : List (Begun L)) (came : List (Done L)) → AllZip SaysSo (index_jobs all) came → gathered served_of came ≡ []
  index_none_served [] [] zip = refl
  index_none_served [] (one ∷ came) zip = absurd zip
  index_none_served (begun.Ready reader ∷ all) [] zip = absurd zip
  index_none_served (begun.Ready reader ∷ all) (done.Indexed last end ∷ came) zip = index_none_served all came zip.1
  index_none_served (begun.Ready reader ∷ all) (done.Answered answered short ∷ came) zip = absurd zip.0.1
  index_none_served (begun.Ready reader ∷ all) (done.Merged end ∷ came) zip = absurd zip.0.1
  index_none_served (begun.Ready reader ∷ all) (done.Deleted end ∷ came) zip = absurd zip.0.1
  index_none_served (begun.Ready reader ∷ all) (done.Collected end ∷ came) zip = absurd zip.0.1
  index_none_served (begun.Failed last before after ∷ all) came zip = index_none_served all came zip
  index_none_served (begun.Short last ∷ all) came zip = index_none_served all came zip

  module _ (told : L → Option Log) (since : L → L → Type 0) (among : ℕ) (unused : List L) (more : List ActorEnd) (keepers : KeepersEnd config log entries least core exit turns more) where
    index_ends : (place : ℕ) (logs : List L) (all : List (Begun L)) (came : List (Done L)) → AllByRecursion (λ own. told own ≡ Some log) logs → AreBegun told count since among place logs all →
        AllZip SaysSo (index_jobs all) came →
        EndsAre config log entries least core exit turns count among place logs (logs_behind (map post_of all) (gathered indexed_of came) ++ unused) (ends_from place (map post_of all) (gathered indexed_of came) ++ more)
    index_ends place [] [] came tell are zip = keepers
    index_ends place [] (one ∷ all) came tell are zip = absurd are
    index_ends place (own ∷ logs) [] came tell are zip = absurd are
    index_ends place (own ∷ logs) (begun.Ready reader ∷ all) [] tell are zip = absurd zip
    index_ends place (own ∷ logs) (begun.Ready reader ∷ all) (done.Indexed last end ∷ came) tell are zip =
        let names_are : partitions_for reader.assignment log ≡ every among place (names_of log) = ap (λ (a : Option (List (List ℕ))). partitions_for a log) (are.0.names log tell.0) in
        let own_end = subst (λ (names : List (List ℕ)). IndexerEnded config log entries least core exit names (count reader.log) (count last.log) end) names_are zip.0.1 in (
          (refl, ended_wider (every among place (names_of log)) (count own) (count reader.log) (count last.log) end are.0.kept.counts own_end),
          index_ends (suc place) logs all came tell.1 are.1 zip.1,
        )
    index_ends place (own ∷ logs) (begun.Ready reader ∷ all) (done.Answered answered short ∷ came) tell are zip = absurd zip.0.1
    index_ends place (own ∷ logs) (begun.Ready reader ∷ all) (done.Merged end ∷ came) tell are zip = absurd zip.0.1
    index_ends place (own ∷ logs) (begun.Ready reader ∷ all) (done.Deleted end ∷ came) tell are zip = absurd zip.0.1
    index_ends place (own ∷ logs) (begun.Ready reader ∷ all) (done.Collected end ∷ came) tell are zip = absurd zip.0.1
    index_ends place (own ∷ logs) (begun.Failed last before after ∷ all) came tell are zip =
        let low = are.0.before_is in
        let high = are.0.after_is in
        ((refl, (omega (arith, low), are.0.rose, omega (arith, high))), index_ends (suc place) logs all came tell.1 are.1 zip)
    index_ends place (own ∷ logs) (begun.Short last ∷ all) came tell are zip = ((refl, tt), index_ends (suc place) logs all came tell.1 are.1 zip)

  -- ---- searchers

  abbrev pub AnsweredBy : Vec Asking Global → Served → Type 0
  AnsweredBy share one = SearcherAnswered config log entries least core exit share.items one.answered.items one.short

  abbrev answers_for : List (Vec Asking Global) → List (Job L)
  answers_for shares = map (λ share. jobs.Answer share) shares

  answers_none_indexed : (shares : List (Vec Asking Global)) (came : List (Done L)) → AllZip SaysSo (answers_for shares) came → gathered indexed_of came ≡ []
  answers_none_indexed [] [] zip = refl
  answers_none_indexed [] (one ∷ came) zip = absurd zip
  answers_none_indexed (share ∷ shares) [] zip = absurd zip
  answers_none_indexed (share ∷ shares) (done.Indexed last end ∷ came) zip = absurd zip.0.1
  answers_none_indexed (share ∷ shares) (done.Answered answered short ∷ came) zip = answers_none_indexed shares came zip.1
  answers_none_indexed (share ∷ shares) (done.Merged end ∷ came) zip = absurd zip.0.1
  answers_none_indexed (share ∷ shares) (done.Deleted end ∷ came) zip = absurd zip.0.1
  answers_none_indexed (share ∷ shares) (done.Collected end ∷ came) zip = absurd zip.0.1

  answers_no_ends : (shares : List (Vec Asking Global)) (came : List (Done L)) → AllZip SaysSo (answers_for shares) came → gathered end_of came ≡ []
  answers_no_ends [] [] zip = refl
  answers_no_ends [] (one ∷ came) zip = absurd zip
  answers_no_ends (share ∷ shares) [] zip = absurd zip
  answers_no_ends (share ∷ shares) (done.Indexed last end ∷ came) zip = absurd zip.0.1
  answers_no_ends (share ∷ shares) (done.Answered answered short ∷ came) zip = answers_no_ends shares came zip.1
  answers_no_ends (share ∷ shares) (done.Merged end ∷ came) zip = absurd zip.0.1
  answers_no_ends (share ∷ shares) (done.Deleted end ∷ came) zip = absurd zip.0.1
  answers_no_ends (share ∷ shares) (done.Collected end ∷ came) zip = absurd zip.0.1

  answers_served : (shares : List (Vec Asking Global)) (came : List (Done L)) → AllZip SaysSo (answers_for shares) came → AllZip AnsweredBy shares (gathered served_of came)
  answers_served [] [] zip = tt
  answers_served [] (one ∷ came) zip = absurd zip
  answers_served (share ∷ shares) [] zip = absurd zip
  answers_served (share ∷ shares) (done.Indexed last end ∷ came) zip = absurd zip.0.1
  answers_served (share ∷ shares) (done.Answered answered short ∷ came) zip = (zip.0.1, answers_served shares came zip.1)
  answers_served (share ∷ shares) (done.Merged end ∷ came) zip = absurd zip.0.1
  answers_served (share ∷ shares) (done.Deleted end ∷ came) zip = absurd zip.0.1
  answers_served (share ∷ shares) (done.Collected end ∷ came) zip = absurd zip.0.1

  -- ---- a merger, a delete worker and a collector

  -- it ended so, and nothing else came of it
  record EndedAs (one : Done L) (Is : ActorEnd → Type 0) : Type 0 where
    pub end : ActorEnd
    pub is : Is end
    pub ends_are : end_of one ≡ end ∷ []
    pub none_indexed : indexed_of one ≡ []
    pub none_served : served_of one ≡ []

  abbrev IsMergerEnd : ActorEnd → Type 0
  IsMergerEnd (ends.Indexer number end) = ⊥
  IsMergerEnd (ends.Merger end) = WorkerEnds config log entries least core exit turns Merging end
  IsMergerEnd (ends.Deleter end) = ⊥
  IsMergerEnd (ends.Collector end) = ⊥

  abbrev IsDeleterEnd : ActorEnd → Type 0
  IsDeleterEnd (ends.Indexer number end) = ⊥
  IsDeleterEnd (ends.Merger end) = ⊥
  IsDeleterEnd (ends.Deleter end) = WorkerEnds config log entries least core exit turns Deleting end
  IsDeleterEnd (ends.Collector end) = ⊥

  abbrev IsCollectorEnd : ActorEnd → Type 0
  IsCollectorEnd (ends.Indexer number end) = ⊥
  IsCollectorEnd (ends.Merger end) = ⊥
  IsCollectorEnd (ends.Deleter end) = ⊥
  IsCollectorEnd (ends.Collector end) = CollectorEnds config log entries least core exit turns end

  merger_end : (one : Done L) → SaysSo jobs.Merge one → EndedAs one IsMergerEnd
  merger_end (done.Indexed last end) s = absurd s.1
  merger_end (done.Answered answered short) s = absurd s.1
  merger_end (done.Merged end) s = record { end = ends.Merger end; is = s; ends_are = refl; none_indexed = refl; none_served = refl }
  merger_end (done.Deleted end) s = absurd s.1
  merger_end (done.Collected end) s = absurd s.1

  deleter_end : (one : Done L) → SaysSo jobs.Delete one → EndedAs one IsDeleterEnd
  deleter_end (done.Indexed last end) s = absurd s.1
  deleter_end (done.Answered answered short) s = absurd s.1
  deleter_end (done.Merged end) s = absurd s.1
  deleter_end (done.Deleted end) s = record { end = ends.Deleter end; is = s; ends_are = refl; none_indexed = refl; none_served = refl }
  deleter_end (done.Collected end) s = absurd s.1

  collector_end : (one : Done L) → SaysSo jobs.Collect one → EndedAs one IsCollectorEnd
  collector_end (done.Indexed last end) s = absurd s.1
  collector_end (done.Answered answered short) s = absurd s.1
  collector_end (done.Merged end) s = absurd s.1
  collector_end (done.Deleted end) s = absurd s.1
  collector_end (done.Collected end) s = record { end = ends.Collector end; is = s; ends_are = refl; none_indexed = refl; none_served = refl }

  keepers_by : (merger deleter collector : ActorEnd) → IsMergerEnd merger → IsDeleterEnd deleter → IsCollectorEnd collector → KeepersEnd config log entries least core exit turns (merger ∷ deleter ∷ collector ∷ [])
  keepers_by (ends.Merger m) (ends.Deleter d) (ends.Collector c) a b e = (a, b, e)
  keepers_by (ends.Merger m) (ends.Deleter d) (ends.Indexer number c) a b e = absurd e
  keepers_by (ends.Merger m) (ends.Deleter d) (ends.Merger c) a b e = absurd e
  keepers_by (ends.Merger m) (ends.Deleter d) (ends.Deleter c) a b e = absurd e
  keepers_by (ends.Merger m) (ends.Indexer number d) collector a b e = absurd b
  keepers_by (ends.Merger m) (ends.Merger d) collector a b e = absurd b
  keepers_by (ends.Merger m) (ends.Collector d) collector a b e = absurd b
  keepers_by (ends.Indexer number m) deleter collector a b e = absurd a
  keepers_by (ends.Deleter m) deleter collector a b e = absurd a
  keepers_by (ends.Collector m) deleter collector a b e = absurd a

  -- what came of the last three jobs
  record LastThree (came : List (Done L)) : Type 0 where
    pub none_indexed : gathered indexed_of came ≡ []
    pub none_served : gathered served_of came ≡ []
    pub keepers : KeepersEnd config log entries least core exit turns (gathered end_of came)

  last_three : (came : List (Done L)) → AllZip SaysSo (jobs.Merge ∷ jobs.Delete ∷ jobs.Collect ∷ []) came → LastThree came
  last_three [] zip = absurd zip
  last_three (a ∷ []) zip = absurd zip.1
  last_three (a ∷ b ∷ []) zip = absurd zip.1.1
  last_three (a ∷ b ∷ c ∷ []) zip =
      let m = merger_end a zip.0 in
      let d = deleter_end b zip.1.0 in
      let e = collector_end c zip.1.1.0 in
      record {
        none_indexed = λ i. m.none_indexed i ++ (d.none_indexed i ++ (e.none_indexed i ++ []));
        none_served = λ i. m.none_served i ++ (d.none_served i ++ (e.none_served i ++ []));
        keepers = subst (λ (l : List ActorEnd). KeepersEnd config log entries least core exit turns l) (sym (λ i. m.ends_are i ++ (d.ends_are i ++ (e.ends_are i ++ [])))) (keepers_by m.end d.end e.end m.is d.is e.is);
      }
  last_three (a ∷ b ∷ c ∷ d ∷ came) zip = absurd zip.1.1.1

  -- ---- all

  -- what came of all jobs, by their kinds
  pub record InKinds (told : L → Option Log) (since : L → L → Type 0) (among : ℕ) (logs unused : List L) (all : List (Begun L)) (shares : List (Vec Asking Global)) (came : List (Done L)) : Type 0 where
    pub ended : EndsAre config log entries least core exit turns count among 0 logs (logs_behind (map post_of all) (gathered indexed_of came) ++ unused)
        (ends_from 0 (map post_of all) (gathered indexed_of came) ++ gathered end_of came)
    pub served : AllZip AnsweredBy shares (gathered served_of came)

  pub in_kinds : (told : L → Option Log) (since : L → L → Type 0) (among : ℕ) (logs unused : List L) (all : List (Begun L)) (shares : List (Vec Asking Global)) (came : List (Done L)) →
      AllByRecursion (λ own. told own ≡ Some log) logs → AreBegun told count since among 0 logs all → AllZip SaysSo (jobs_of all shares) came → InKinds told since among logs unused all shares came
  in_kinds told since among logs unused all shares came tell are zip =
      let one = in_parts SaysSo (index_jobs all) (answers_for shares ++ jobs.Merge ∷ jobs.Delete ∷ jobs.Collect ∷ []) came zip in
      let two = in_parts SaysSo (answers_for shares) (jobs.Merge ∷ jobs.Delete ∷ jobs.Collect ∷ []) one.back one.backs in
      let three = last_three two.back two.backs in
      let parts : came ≡ one.front ++ (two.front ++ two.back) = one.is ∙ ap (λ (l : List (Done L)). one.front ++ l) two.is in
      let indexed : gathered indexed_of came ≡ gathered indexed_of one.front =
      ap (λ (l : List (Done L)). gathered indexed_of l) parts ∙ (gathered_append indexed_of one.front (two.front ++ two.back) ∙ (ap (λ (l : List (Indexed L)). gathered indexed_of one.front ++ l)
      (gathered_append indexed_of two.front two.back ∙ (λ i. answers_none_indexed shares two.front two.fronts i ++ three.none_indexed i)) ∙ append-nil (gathered indexed_of one.front))) in
      let kept : gathered end_of came ≡ gathered end_of two.back =
      ap (λ (l : List (Done L)). gathered end_of l) parts ∙ (gathered_append end_of one.front (two.front ++ two.back) ∙ (λ i. index_no_ends all one.front one.fronts i ++ (gathered_append end_of two.front two.back
      ∙ (λ j. answers_no_ends shares two.front two.fronts j ++ gathered end_of two.back)) i)) in
      let served : gathered served_of came ≡ gathered served_of two.front =
      ap (λ (l : List (Done L)). gathered served_of l) parts ∙ (gathered_append served_of one.front (two.front ++ two.back) ∙ ((λ i. index_none_served all one.front one.fronts i ++ (gathered_append served_of two.front two.back
      ∙ ap (λ (l : List Served). gathered served_of two.front ++ l) three.none_served) i) ∙ append-nil (gathered served_of two.front))) in
      let ended = index_ends told since among unused (gathered end_of two.back) three.keepers 0 logs all one.front tell are one.fronts in
      record {
        ended = subst (λ (l : List (Indexed L)). EndsAre config log entries least core exit turns count among 0 logs (logs_behind (map post_of all) l ++ unused) (ends_from 0 (map post_of all) l ++ gathered end_of came)) (sym indexed)
            (subst (λ (l : List ActorEnd). EndsAre config log entries least core exit turns count among 0 logs (logs_behind (map post_of all) (gathered indexed_of one.front) ++ unused) (ends_from 0 (map post_of all) (gathered indexed_of one.front) ++ l)) (sym kept) ended);
        served = subst (λ (l : List Served). AllZip AnsweredBy shares l) (sym served) (answers_served shares two.front two.fronts);
      }
