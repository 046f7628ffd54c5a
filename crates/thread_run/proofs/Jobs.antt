-- The jobs of a run, and what came of them.
use Rattle.std.proofs.Common.{◌≡◌, ◌+◌, ◌≤◌, ◌<◌, ℕ, zero, suc, List, [], ◌∷◌, ◌++◌, length, length-append, map, refl, sym, ap, ◌∙◌, subst, arith, append-nil, append_assoc}
use Rattle.std.proofs.lemmas.List.{length-map}
use Rattle.std.specs.List.{AllByRecursion, AllZip}
use Rattle.std.specs.Prelude.{Option, Some}
use Rattle.std.specs.declared.alloc.Global.{Global}
use Rattle.std.specs.declared.vec.Vec.{Vec}
use Rattle.source_log.specs.Log.{Log}
use Rattle.indexing_run.specs.declared.indexer.Indexer.{Indexer as Reader}
use Rattle.run_plan.specs.declared.clients.Asking.{Asking}
use Rattle.thread_run.specs.Jobs.{IsFresh, IsLater, Tells}
use Rattle.thread_run.specs.declared.job.Done.{Done}
use Rattle.thread_run.specs.declared.job.Done.TheVariants as done
use Rattle.thread_run.specs.declared.job.Job.{Job}
use Rattle.thread_run.specs.declared.job.Job.TheVariants as jobs
use Rattle.thread_run.specs.Beginning.{AreBegun}
use Rattle.thread_run.specs.Closing.{readers_of}
use Rattle.thread_run.specs.Ending.{at_work, logs_behind}
use Rattle.thread_run.specs.Gathering.{gathered}
use Rattle.thread_run.specs.Outcome.{HasRoom, end_of, indexed_of}
use Rattle.thread_run.specs.Staffing.{index_jobs, job_of, jobs_of, log_in, post_of}
use Rattle.thread_run.specs.declared.beginning.Begun.{Begun}
use Rattle.thread_run.specs.declared.beginning.Begun.TheVariants as begun
use Rattle.thread_run.specs.declared.outcome.Indexed.{Indexed}
use Rattle.thread_run.specs.declared.outcome.Outcome.{Outcome}
use Rattle.thread_run.specs.Room.{IsRoom}
use Rattle.thread_run.specs.declared.room.Room.{Room}
use Rattle.thread_run.specs.declared.staffing.Post.{Post}
use Rattle.thread_run.proofs.Loops.{gathered_append}
use Rattle.thread_run.proofs.Staffs.{one_job}

-- ---- lists

pub all_append : {A : Type 0} (P : A → Type 0) (xs ys : List A) → AllByRecursion P xs → AllByRecursion P ys → AllByRecursion P (xs ++ ys)
all_append P [] ys a b = b
all_append P (x ∷ xs) ys a b = (a.0, all_append P xs ys a.1 b)

pub all_mapped : {A B : Type 0} (P : B → Type 0) (f : A → B) (xs : List A) → ((x : A) → P (f x)) → AllByRecursion P (map f xs)
all_mapped P f [] each = tt
all_mapped P f (x ∷ xs) each = (each x, all_mapped P f xs each)

pub zip_append : {A B : Type 0} (R : A → B → Type 0) (xs : List A) (ys : List B) (more : List A) (rest : List B) → AllZip R xs ys → AllZip R more rest → AllZip R (xs ++ more) (ys ++ rest)
zip_append R [] [] more rest z w = w
zip_append R [] (y ∷ ys) more rest z w = absurd z
zip_append R (x ∷ xs) [] more rest z w = absurd z
zip_append R (x ∷ xs) (y ∷ ys) more rest z w = (z.0, zip_append R xs ys more rest z.1 w)

pub zip_itself : {A : Type 0} (R : A → A → Type 0) (xs : List A) → ((x : A) → R x x) → AllZip R xs xs
zip_itself R [] itself = tt
zip_itself R (x ∷ xs) itself = (itself x, zip_itself R xs itself)

pub zip_then : {A B C : Type 0} (R : A → B → Type 0) (Q : B → C → Type 0) (T : A → C → Type 0) (xs : List A) (ys : List B) (zs : List C) → ((x : A) (y : B) (z : C) → R x y → Q y z → T x z) → AllZip R xs ys → AllZip Q ys zs → AllZip T xs zs
zip_then R Q T [] [] [] through a b = tt
zip_then R Q T [] [] (z ∷ zs) through a b = absurd b
zip_then R Q T [] (y ∷ ys) zs through a b = absurd a
zip_then R Q T (x ∷ xs) [] zs through a b = absurd a
zip_then R Q T (x ∷ xs) (y ∷ ys) [] through a b = absurd b
zip_then R Q T (x ∷ xs) (y ∷ ys) (z ∷ zs) through a b = (through x y z a.0 b.0, zip_then R Q T xs ys zs through a.1 b.1)

pub zip_as_long : {A B : Type 0} (R : A → B → Type 0) (xs : List A) (ys : List B) → AllZip R xs ys → length ys ≡ length xs
zip_as_long R [] [] z = refl
zip_as_long R [] (y ∷ ys) z = absurd z
zip_as_long R (x ∷ xs) [] z = absurd z
zip_as_long R (x ∷ xs) (y ∷ ys) z = ap suc (zip_as_long R xs ys z.1)

-- ---- indexers that were begun

module _ {L : Type 0} where
  -- the indexer that is ready
  abbrev pub ready_of : Begun L → List (Reader L)
  ready_of (begun.Ready reader) = reader ∷ []
  ready_of (begun.Failed log before after) = []
  ready_of (begun.Short log) = []

  ready_jobs : (all : List (Begun L)) → gathered readers_of (index_jobs all) ≡ gathered ready_of all
  ready_jobs [] = refl
  ready_jobs (begun.Ready reader ∷ all) = ap (λ (l : List (Reader L)). reader ∷ l) (ready_jobs all)
  ready_jobs (begun.Failed log before after ∷ all) = ready_jobs all
  ready_jobs (begun.Short log ∷ all) = ready_jobs all

  abbrev other_jobs : List (Vec Asking Global) → List (Job L)
  other_jobs shares = map (λ share. jobs.Answer share) shares ++ jobs.Merge ∷ jobs.Delete ∷ jobs.Collect ∷ []

  no_readers : (shares : List (Vec Asking Global)) → gathered (readers_of {L = L}) (other_jobs shares) ≡ []
  no_readers [] = refl
  no_readers (share ∷ shares) = no_readers shares

  -- the indexers of the jobs are those that are ready
  pub readers_are : (all : List (Begun L)) (shares : List (Vec Asking Global)) → gathered readers_of (jobs_of all shares) ≡ gathered ready_of all
  readers_are all shares =
      gathered_append readers_of (index_jobs all) (other_jobs shares)
      ∙ ((λ i. ready_jobs all i ++ no_readers shares i) ∙ append-nil (gathered ready_of all))

  pub ready_work : (all : List (Begun L)) → at_work (map post_of all) ≡ length (gathered ready_of all)
  ready_work [] = refl
  ready_work (begun.Ready reader ∷ all) = ap suc (ready_work all)
  ready_work (begun.Failed log before after ∷ all) = ready_work all
  ready_work (begun.Short log ∷ all) = ready_work all

  jobs_short : (all : List (Begun L)) → length (index_jobs all) ≤ length all
  jobs_short [] = omega arith
  jobs_short (one ∷ all) = let k = one_job one in let rest = jobs_short all in let both = length-append (job_of one) (index_jobs all) in omega (arith, k, rest, both)

  pub jobs_few : (all : List (Begun L)) (shares : List (Vec Asking Global)) → length (jobs_of all shares) ≤ length all + length shares + 3
  jobs_few all shares =
      let answers : List (Job L) = map (λ share. jobs.Answer share) shares in
      let rest : List (Job L) = jobs.Merge ∷ jobs.Delete ∷ jobs.Collect ∷ [] in
      let few = jobs_short all in
      let one = length-append (index_jobs all) (answers ++ rest) in
      let two = length-append answers rest in
      let many = length-map shares (let f : Vec Asking Global → Job L = λ share. jobs.Answer share in f) in
      omega (arith, few, one, two, many)

  module _ (told : L → Option Log) (count : L → ℕ) (since : L → L → Type 0) where
    pub begun_long : (among place : ℕ) (logs : List L) (all : List (Begun L)) → AreBegun told count since among place logs all → length all ≡ length logs
    begun_long among place [] [] are = refl
    begun_long among place [] (one ∷ all) are = absurd are
    begun_long among place (log ∷ logs) [] are = absurd are
    begun_long among place (log ∷ logs) (one ∷ all) are = ap suc (begun_long among (suc place) logs all are.1)

    index_fresh : (among place : ℕ) (logs : List L) (all : List (Begun L)) → AreBegun told count since among place logs all → AllByRecursion IsFresh (index_jobs all)
    index_fresh among place [] [] are = tt
    index_fresh among place [] (one ∷ all) are = absurd are
    index_fresh among place (log ∷ logs) [] are = absurd are
    index_fresh among place (log ∷ logs) (begun.Ready reader ∷ all) are = (are.0.idle, index_fresh among (suc place) logs all are.1)
    index_fresh among place (log ∷ logs) (begun.Failed last before after ∷ all) are = index_fresh among (suc place) logs all are.1
    index_fresh among place (log ∷ logs) (begun.Short last ∷ all) are = index_fresh among (suc place) logs all are.1

    pub jobs_fresh : (among place : ℕ) (logs : List L) (all : List (Begun L)) (shares : List (Vec Asking Global)) → AreBegun told count since among place logs all → AllByRecursion IsFresh (jobs_of all shares)
    jobs_fresh among place logs all shares are =
        all_append IsFresh (index_jobs all) _ (index_fresh among place logs all are)
        (all_append IsFresh (map (λ share. jobs.Answer share) shares) (jobs.Merge ∷ jobs.Delete ∷ jobs.Collect ∷ []) (all_mapped IsFresh (λ share. jobs.Answer share) shares (λ share. tt)) (tt, (tt, (tt, tt))))

    index_tell : (log : Log) (among place : ℕ) (logs : List L) (all : List (Begun L)) → AreBegun told count since among place logs all → AllByRecursion (λ own. told own ≡ Some log) logs → AllByRecursion (Tells told log) (index_jobs all)
    index_tell log among place [] [] are tell = tt
    index_tell log among place [] (one ∷ all) are tell = absurd are
    index_tell log among place (own ∷ logs) [] are tell = absurd are
    index_tell log among place (own ∷ logs) (begun.Ready reader ∷ all) are tell =
        ((are.0.kept.tells log tell.0, are.0.assigned log tell.0), index_tell log among (suc place) logs all are.1 tell.1)
    index_tell log among place (own ∷ logs) (begun.Failed last before after ∷ all) are tell = index_tell log among (suc place) logs all are.1 tell.1
    index_tell log among place (own ∷ logs) (begun.Short last ∷ all) are tell = index_tell log among (suc place) logs all are.1 tell.1

    pub jobs_tell : (log : Log) (among place : ℕ) (logs : List L) (all : List (Begun L)) (shares : List (Vec Asking Global)) → AreBegun told count since among place logs all → AllByRecursion (λ own. told own ≡ Some log) logs →
        AllByRecursion (Tells told log) (jobs_of all shares)
    jobs_tell log among place logs all shares are tell =
        all_append (Tells told log) (index_jobs all) _ (index_tell log among place logs all are tell)
        (all_append (Tells told log) (map (λ share. jobs.Answer share) shares) (jobs.Merge ∷ jobs.Delete ∷ jobs.Collect ∷ []) (all_mapped (Tells told log) (λ share. jobs.Answer share) shares (λ share. tt)) (tt, (tt, (tt, tt))))

    pub begun_later : (among place : ℕ) (logs : List L) (all : List (Begun L)) → AreBegun told count since among place logs all → AllZip since logs (map log_in all)
    begun_later among place [] [] are = tt
    begun_later among place [] (one ∷ all) are = absurd are
    begun_later among place (log ∷ logs) [] are = absurd are
    begun_later among place (log ∷ logs) (begun.Ready reader ∷ all) are = (are.0.kept.later, begun_later among (suc place) logs all are.1)
    begun_later among place (log ∷ logs) (begun.Failed last before after ∷ all) are = (are.0.kept.later, begun_later among (suc place) logs all are.1)
    begun_later among place (log ∷ logs) (begun.Short last ∷ all) are = (are.0.later, begun_later among (suc place) logs all are.1)

  -- ---- what came of jobs

  -- the log of an indexer that ended is a later state
  abbrev pub IndexedLater : (L → L → Type 0) → Reader L → Indexed L → Type 0
  IndexedLater since reader one = since reader.log one.indexer.log

  one_later : (since : L → L → Type 0) (job : Job L) (result : Done L) → IsLater since job result → AllZip (IndexedLater since) (readers_of job) (indexed_of result)
  one_later since (jobs.Index reader) (done.Indexed last end) later = (later, tt)
  one_later since (jobs.Index reader) (done.Answered answered short) later = absurd later
  one_later since (jobs.Index reader) (done.Merged end) later = absurd later
  one_later since (jobs.Index reader) (done.Deleted end) later = absurd later
  one_later since (jobs.Index reader) (done.Collected end) later = absurd later
  one_later since (jobs.Answer askings) (done.Indexed last end) later = absurd later
  one_later since (jobs.Answer askings) (done.Answered answered short) later = tt
  one_later since (jobs.Answer askings) (done.Merged end) later = absurd later
  one_later since (jobs.Answer askings) (done.Deleted end) later = absurd later
  one_later since (jobs.Answer askings) (done.Collected end) later = absurd later
  one_later since jobs.Merge (done.Indexed last end) later = absurd later
  one_later since jobs.Merge (done.Answered answered short) later = absurd later
  one_later since jobs.Merge (done.Merged end) later = tt
  one_later since jobs.Merge (done.Deleted end) later = absurd later
  one_later since jobs.Merge (done.Collected end) later = absurd later
  one_later since jobs.Delete (done.Indexed last end) later = absurd later
  one_later since jobs.Delete (done.Answered answered short) later = absurd later
  one_later since jobs.Delete (done.Merged end) later = absurd later
  one_later since jobs.Delete (done.Deleted end) later = tt
  one_later since jobs.Delete (done.Collected end) later = absurd later
  one_later since jobs.Collect (done.Indexed last end) later = absurd later
  one_later since jobs.Collect (done.Answered answered short) later = absurd later
  one_later since jobs.Collect (done.Merged end) later = absurd later
  one_later since jobs.Collect (done.Deleted end) later = absurd later
  one_later since jobs.Collect (done.Collected end) later = tt

  pub all_later : (since : L → L → Type 0) (all : List (Job L)) (came : List (Done L)) → AllZip (IsLater since) all came → AllZip (IndexedLater since) (gathered readers_of all) (gathered indexed_of came)
  all_later since [] [] zip = tt
  all_later since [] (one ∷ came) zip = absurd zip
  all_later since (job ∷ all) [] zip = absurd zip
  all_later since (job ∷ all) (one ∷ came) zip =
      zip_append (IndexedLater since) (readers_of job) (indexed_of one) (gathered readers_of all) (gathered indexed_of came) (one_later since job one zip.0) (all_later since all came zip.1)

  one_end : (result : Done L) → length (end_of result) ≤ 1
  one_end (done.Indexed last end) = omega arith
  one_end (done.Answered answered short) = omega arith
  one_end (done.Merged end) = omega arith
  one_end (done.Deleted end) = omega arith
  one_end (done.Collected end) = omega arith

  pub ends_few : (came : List (Done L)) → length (gathered end_of came) ≤ length came
  ends_few [] = omega arith
  ends_few (one ∷ came) = let k = one_end one in let rest = ends_few came in let both = length-append (end_of one) (gathered end_of came) in omega (arith, k, rest, both)

  -- the logs that come back are later states of those of the indexers
  pub logs_later : (since : L → L → Type 0) → ((log : L) → since log log) → (all : List (Begun L)) (indexed : List (Indexed L)) → AllZip (IndexedLater since) (gathered ready_of all) indexed →
      AllZip since (map log_in all) (logs_behind (map post_of all) indexed)
  logs_later since itself [] indexed zip = tt
  logs_later since itself (begun.Ready reader ∷ all) [] zip = absurd zip
  logs_later since itself (begun.Ready reader ∷ all) (one ∷ indexed) zip = (zip.0, logs_later since itself all indexed zip.1)
  logs_later since itself (begun.Failed log before after ∷ all) indexed zip = (itself log, logs_later since itself all indexed zip)
  logs_later since itself (begun.Short log ∷ all) indexed zip = (itself log, logs_later since itself all indexed zip)

  -- ---- put together

  pub came_later : (since : L → L → Type 0) (all : List (Begun L)) (shares : List (Vec Asking Global)) (given : List (Job L)) (came : List (Done L)) (indexed : List (Indexed L)) → given ≡ jobs_of all shares → AllZip (IsLater since) given came →
      indexed ≡ gathered indexed_of came → AllZip (IndexedLater since) (gathered ready_of all) indexed
  came_later since all shares given came indexed jobs_are later is =
      subst (λ (l : List (Indexed L)). AllZip (IndexedLater since) (gathered ready_of all) l) (sym is)
      (subst (λ (l : List (Reader L)). AllZip (IndexedLater since) l (gathered indexed_of came)) (ap (λ (js : List (Job L)). gathered readers_of js) jobs_are ∙ readers_are all shares) (all_later since given came later))

  mapped_later : (since : L → L → Type 0) → ((log : L) → since log log) → (readers : List (Reader L)) (indexed : List (Indexed L)) → map (λ (one : Indexed L). one.indexer) indexed ≡ readers → AllZip (IndexedLater since) readers indexed
  mapped_later since itself readers indexed is = subst (λ (l : List (Reader L)). AllZip (IndexedLater since) l indexed) is (each indexed)
    where
      each : (ones : List (Indexed L)) → AllZip (IndexedLater since) (map (λ (one : Indexed L). one.indexer) ones) ones
      each [] = tt
      each (one ∷ ones) = (itself one.indexer.log, each ones)

  -- of jobs that weren't begun
  pub back_later : (since : L → L → Type 0) → ((log : L) → since log log) → (all : List (Begun L)) (shares : List (Vec Asking Global)) (given : List (Job L)) (indexed : List (Indexed L)) → given ≡ jobs_of all shares →
      map (λ (one : Indexed L). one.indexer) indexed ≡ gathered readers_of given → AllZip (IndexedLater since) (gathered ready_of all) indexed
  back_later since itself all shares given indexed jobs_are is =
      mapped_later since itself (gathered ready_of all) indexed (is ∙ (ap (λ (js : List (Job L)). gathered readers_of js) jobs_are ∙ readers_are all shares))

  pub work_is : (since : L → L → Type 0) (all : List (Begun L)) (posts : List (Post L)) (indexed : List (Indexed L)) → posts ≡ map post_of all → AllZip (IndexedLater since) (gathered ready_of all) indexed → at_work posts ≡ length indexed
  work_is since all posts indexed is zip = ap (λ (ps : List (Post L)). at_work ps) is ∙ (ready_work all ∙ sym (zip_as_long (IndexedLater since) (gathered ready_of all) indexed zip))

  pub back_logs : (since : L → L → Type 0) → ((log : L) → since log log) → (all : List (Begun L)) (posts : List (Post L)) (indexed : List (Indexed L)) (unused logs : List L) → posts ≡ map post_of all →
      logs ≡ logs_behind posts indexed ++ unused → AllZip (IndexedLater since) (gathered ready_of all) indexed → AllZip since (map log_in all ++ unused) logs
  back_logs since itself all posts indexed unused logs posts_are logs_are zip =
      subst (λ (l : List L). AllZip since (map log_in all ++ unused) l) (sym (logs_are ∙ ap (λ (ps : List (Post L)). logs_behind ps indexed ++ unused) posts_are))
      (zip_append since (map log_in all) (logs_behind (map post_of all) indexed) unused unused (logs_later since itself all indexed zip) (zip_itself since unused itself))

pub few_jobs : (jobs begun shares searchers : ℕ) → jobs ≤ begun + shares + 3 → begun ≤ 64 → shares ≡ searchers → searchers ≤ 64 → jobs < 4294967295
few_jobs jobs begun shares searchers few some same more = omega (arith, few, some, same, more)

pub room_less : {L : Type 0} (outcome : Outcome L) (few many : ℕ) → few ≤ many → HasRoom many outcome → HasRoom few outcome
room_less outcome few many le room =
    let a = room.0 in
    let b = room.1 in
    let c = room.2 in
    (omega (arith, le, a), omega (arith, le, b), omega (arith, le, c))

pub room_as : {L : Type 0} (room : Room L) (begun logs searchers unused : ℕ) → begun ≡ logs → IsRoom logs searchers (logs + unused) room → IsRoom begun searchers (begun + unused) room
room_as room begun logs searchers unused is r = subst (λ n. IsRoom n searchers (n + unused) room) (sym is) r
