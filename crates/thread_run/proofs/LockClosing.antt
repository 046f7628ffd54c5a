-- What all did together, once their passes are joined and the lock is closed.
use Rattle.std.proofs.Common.{◌≡◌, ◌+◌, ℕ, zero, suc, List, [], ◌∷◌, length, map, refl, sym, ap, ◌∙◌, subst, arith}
use Rattle.std.specs.Prelude.{Option, Some}
use Rattle.std.specs.List.{AllByRecursion, AllZip}
use mathlib.Core.List.{IsPrefix}
use Rattle.index_config.specs.declared.config.IndexConfig.{IndexConfig}
use Rattle.source_log.specs.Log.{IsLog, Log}
use Rattle.turn_lock.specs.Counts.{below, times, total}
use Rattle.turn_lock.specs.Passes.{IsIdle, IsOf, built, parts, places, seen}
use Rattle.turn_lock.specs.declared.history.HasHistory.{Ghosts}
use Rattle.turn_lock.specs.declared.lock.Pass.{Pass}
use Rattle.turn_lock.specs.declared.lock.TurnLock.{TurnLock}
use Rattle.index_world.specs.Core.{Core, IsConfigured}
use Rattle.index_world.specs.World.{Keeping, WorldStands}
use Rattle.shared_gate.specs.Recording.{Begun, IsLinked, IsStanding, last_world}
use Rattle.shared_gate.specs.Sharing.{Seat, SeatBegins, SeatStands, seat_of}
use Rattle.shared_gate.specs.SharedLaws.{fresh_stands}
use Rattle.shared_gate.specs.declared.recorded.Event.{Event}
use Rattle.shared_gate.specs.declared.recorded.Opening.{Opening}
use Rattle.shared_gate.specs.declared.recorded.Recorded.{Recorded}
use Rattle.thread_run.specs.Jobs.{IsFresh, Tells}
use Rattle.thread_run.specs.declared.job.Done.{Done}
use Rattle.thread_run.specs.declared.job.Job.{Job}
use Rattle.thread_run.specs.Run.{IsRun, JobRun}
use Rattle.thread_run.specs.Working.{IsReady, WorksOut, fresh_seat}
use Rattle.thread_run.specs.declared.actor.Work.{Work}
use Rattle.thread_run.specs.declared.actor.Work.TheVariants as works
use Rattle.thread_run.proofs.Finishing.{lead}
use Rattle.thread_run.proofs.Together.{AllRan, all_once, all_ran, total_map}

-- ---- lists

all_map : {A B : Type 0} (P : B → Type 0) (f : A → B) (xs : List A) (ys : List B) → ys ≡ map f xs → AllByRecursion P ys → AllByRecursion (λ x. P (f x)) xs
all_map {A} P f xs ys is all = by xs (subst (AllByRecursion P) is all)
  where
    by : (zs : List A) → AllByRecursion P (map f zs) → AllByRecursion (λ x. P (f x)) zs
    by [] h = tt
    by (z ∷ zs) h = (h.0, by zs h.1)

map_all : {A B : Type 0} (P : B → Type 0) (f : A → B) (xs : List A) (ys : List B) → ys ≡ map f xs → AllByRecursion (λ x. P (f x)) xs → AllByRecursion P ys
map_all {A} P f xs ys is all = subst (AllByRecursion P) (sym is) (by xs all)
  where
    by : (zs : List A) → AllByRecursion (λ x. P (f x)) zs → AllByRecursion P (map f zs)
    by [] h = tt
    by (z ∷ zs) h = (h.0, by zs h.1)

total_ones : {A : Type 0} (f : A → ℕ) (xs : List A) → AllByRecursion (λ x. f x ≡ 1) xs → total f xs ≡ length xs
total_ones f [] all = refl
total_ones f (x ∷ xs) all = let here = all.0 in let rest = total_ones f xs all.1 in omega (arith, here, rest)

pub as_many : {A B : Type 0} (R : A → B → Type 0) (xs : List A) (ys : List B) → AllZip R xs ys → length xs ≡ length ys
as_many R [] [] z = refl
as_many R [] (y ∷ ys) z = absurd z
as_many R (x ∷ xs) [] z = absurd z
as_many R (x ∷ xs) (y ∷ ys) z = ap suc (as_many R xs ys z.1)

-- what holds of both of two that were changed one into the other
changed_all : {A B : Type 0} (H : B → A → Type 0) (R : A → A → Type 0) (Q : A → Type 0) (js : List B) (xs ys : List A) → ((j : B) (x y : A) → H j x → R x y → Q y) → AllZip H js xs → AllZip R xs ys → AllByRecursion Q ys
changed_all H R Q [] [] [] f h z = tt
changed_all H R Q [] [] (y ∷ ys) f h z = absurd z
changed_all H R Q [] (x ∷ xs) ys f h z = absurd h
changed_all H R Q (j ∷ js) [] ys f h z = absurd h
changed_all H R Q (j ∷ js) (x ∷ xs) [] f h z = absurd z
changed_all H R Q (j ∷ js) (x ∷ xs) (y ∷ ys) f h z = (f j x y h.0 z.0, changed_all H R Q js xs ys f h.1 z.1)

tell_each : {L : Type 0} (Told : Log → Type 0) (told : L → Option Log) (jobs : List (Job L)) → ((log : Log) → Told log → IsLog log × AllByRecursion (Tells told log) jobs) → AllByRecursion (λ job. (log : Log) → Told log → IsLog log × Tells told log job) jobs
tell_each Told told [] f = tt
tell_each Told told (job ∷ jobs) f = ((λ log t. ((f log t).0, (f log t).1.0)), tell_each Told told jobs (λ log t. ((f log t).0, (f log t).1.1)))

pub moved_all : {A : Type 0} (xs ys : List A) (P : A → Type 0) → ys ≡ xs → AllByRecursion P xs → AllByRecursion P ys
moved_all xs ys P is all = subst (λ l. AllByRecursion P l) (sym is) all

pub moved_zip : {A B : Type 0} (xs before : List A) (ys : List B) (R : A → B → Type 0) → before ≡ xs → AllZip R before ys → AllZip R xs ys
moved_zip xs before ys R is z = subst (λ l. AllZip R l ys) is z

pub all_hold : {A : Type 0} (xs : List A) (P : A → Type 0) → ((x : A) → P x) → AllByRecursion P xs
all_hold [] P f = tt
all_hold (x ∷ xs) P f = (f x, all_hold xs P f)

pub configured_by : {S K M : Type 0} (tells : M → Option Log) (first : Recorded S K M) (lock : TurnLock (Recorded S K M) (Opening S M) (Event S)) (config : IndexConfig) → built lock ≡ first → IsStanding tells first → first.events.items ≡ [] →
    ((core : Core) (log : Log) → WorldStands first.world core log → IsConfigured config core) → (core : Core) (log : Log) → WorldStands (built lock).opened.value core log → IsConfigured config core
configured_by {S} {K} {M} tells first lock config is standing none says core log stands =
    let opened : (built lock).opened.value ≡ first.world = ap (λ (r : Recorded S K M). r.opened.value) is ∙ (ap (λ (es : List (Event S)). last_world first.opened.value es) (sym none) ∙ sym standing.last) in
    says core log (subst (λ (k : Keeping). WorldStands k core log) opened stands)

pub tell_by : {S K M : Type 0} (tells : M → Option Log) (first : Recorded S K M) (lock : TurnLock (Recorded S K M) (Opening S M) (Event S)) (P : Log → Type 0) → built lock ≡ first → ((log : Log) → tells first.source.value ≡ Some log → P log) →
    (log : Log) → tells (built lock).source.value ≡ Some log → P log
tell_by {S} {K} {M} tells first lock P is says log so = says log (subst (λ (r : Recorded S K M). tells r.source.value ≡ Some log) is so)

-- ---- all of them

module _ {A S K M L : Type 0} {g : Ghosts (Recorded S K M) (Opening S M) (Event S)} (like : List A) (tells : M → Option Log) (told : L → Option Log) (count : L → ℕ) (since : L → L → Type 0) (turns : ℕ)
    (lock : TurnLock (Recorded S K M) (Opening S M) (Event S)) (config : IndexConfig)
    (work : A → Work L) (lock_of : A → TurnLock (Recorded S K M) (Opening S M) (Event S)) (pass_of : A → Pass (Recorded S K M) (Opening S M) (Event S) g) (config_of : A → IndexConfig) (home_of : A → Option ℕ)
    (configured : (core : Core) (log : Log) → WorldStands (built lock).opened.value core log → IsConfigured config core) where
  abbrev Place : Type 0
  Place = Seat (TurnLock (Recorded S K M) (Opening S M) (Event S)) S M

  abbrev seat : A → Place
  seat a = seat_of (lock_of a) (pass_of a) (config_of a) (home_of a)

  abbrev Hired : Job L → A → Type 0
  Hired job a = (work a ≡ works.ToDo job) × (seat a ≡ fresh_seat lock config)

  abbrev Out : A → A → Type 0
  Out old new = WorksOut tells told count since turns (work old) (work new) (seat old) (seat new)

  abbrev Told : Log → Type 0
  Told log = tells (built lock).source.value ≡ Some log

  stands : (core : Core) (log : Log) → Told log → WorldStands (built lock).opened.value core log → SeatStands tells (fresh_seat lock config) core log
  stands core log so here = fresh_stands tells (fresh_seat lock config) core log refl ((core, here), so) here (configured core log here)

  -- before they work
  pub all_ready : (jobs : List (Job L)) (hired : List A) → AllZip Hired jobs hired → AllByRecursion IsFresh jobs → ((log : Log) → Told log → IsLog log × AllByRecursion (Tells told log) jobs) → AllByRecursion (λ a. IsReady tells told (work a) (seat a)) hired
  all_ready [] [] h fresh tell = tt
  all_ready [] (a ∷ hired) h fresh tell = absurd h
  all_ready (job ∷ jobs) [] h fresh tell = absurd h
  all_ready (job ∷ jobs) (a ∷ hired) h fresh tell = (
    record {
      job = job;
      todo = h.0.0;
      fresh = fresh.0;
      begun = λ log begins.
          let b : SeatBegins tells (fresh_seat lock config) log = subst (λ (s : Place). SeatBegins tells s log) h.0.1 begins in
          let t = tell log b.1 in
          (t.0, t.1.0, (b.0.0, subst (λ (s : Place). SeatStands tells s b.0.0 log) (sym h.0.1) (stands b.0.0 log b.1 b.0.1)));
    },
    all_ready jobs hired h.1 fresh.1 (λ log t. ((tell log t).0, (tell log t).1.1)),
  )

  -- behind their work
  pub all_did : (jobs : List (Job L)) (hired worked : List A) → AllZip Hired jobs hired → AllZip Out hired worked → AllByRecursion (λ a. (done : Done L) × (work a ≡ works.Did done)) worked
  all_did jobs hired worked h w = changed_all Hired Out (λ a. (done : Done L) × (work a ≡ works.Did done)) jobs hired worked (λ job x y hx out. (out.done, out.did)) h w

  pub all_of : (jobs : List (Job L)) (hired worked : List A) → AllZip Hired jobs hired → AllZip Out hired worked → AllByRecursion (λ a. IsOf (lock_of a) (pass_of a) × IsIdle (pass_of a)) worked →
      AllByRecursion (λ a. IsOf lock (pass_of a) × IsIdle (pass_of a)) worked
  all_of [] [] [] h w of = tt
  all_of [] [] (y ∷ worked) h w of = absurd w
  all_of [] (x ∷ hired) worked h w of = absurd h
  all_of (job ∷ jobs) [] worked h w of = absurd h
  all_of (job ∷ jobs) (x ∷ hired) [] h w of = absurd w
  all_of (job ∷ jobs) (x ∷ hired) (y ∷ worked) h w of =
      let same : lock_of y ≡ lock = w.0.later.lock ∙ ap (λ (s : Place). s.lock) h.0.1 in
      ((subst (λ l. IsOf l (pass_of y)) same of.0.0, of.0.1), all_of jobs hired worked h.1 w.1 of.1)

  pub passes_of : (P : Pass (Recorded S K M) (Opening S M) (Event S) g → Type 0) (worked : List A) (passes : List (Pass (Recorded S K M) (Opening S M) (Event S) g)) → passes ≡ map pass_of worked →
      AllByRecursion (λ a. P (pass_of a)) worked → AllByRecursion P passes
  passes_of P worked passes is all = map_all P pass_of worked passes is all

  pub all_parts : (jobs : List (Job L)) (hired worked : List A) (passes : List (Pass (Recorded S K M) (Opening S M) (Event S) g)) → AllZip Hired jobs hired → AllZip Out hired worked → passes ≡ map pass_of worked →
      total (λ pass. parts pass) passes ≡ length jobs
  all_parts jobs hired worked passes h w is =
      let ones = changed_all Hired Out (λ a. parts (pass_of a) ≡ 1) jobs hired worked (λ job x y hx out. out.later.parts ∙ ap (λ (s : Place). s.parts) hx.1) h w in
      ap (λ l. total (λ pass. parts pass) l) is ∙ (total_map (λ pass. parts pass) pass_of worked ∙ (total_ones (λ a. parts (pass_of a)) worked ones ∙ sym (as_many Out hired worked w) ∙ sym (as_many Hired jobs hired h)))

  module _ (first last : Recorded S K M) (jobs : List (Job L)) (hired worked : List A) (done : List (Done L)) (passes : List (Pass (Recorded S K M) (Opening S M) (Event S) g))
      (mid pass : Pass (Recorded S K M) (Opening S M) (Event S) g)
      (first_is : built lock ≡ first) (standing : IsStanding tells last) (opened : last.opened.value ≡ (built lock).opened.value) (source : last.source.value ≡ (built lock).source.value)
      (tell : (log : Log) → Told log → IsLog log × AllByRecursion (Tells told log) jobs)
      (h : AllZip Hired jobs hired) (w : AllZip Out hired worked) (d : AllZip (λ a one. work a ≡ works.Did one) worked done) (passes_are : passes ≡ map pass_of worked)
      (all_seen : seen pass ≡ last.events.items) (begins : AllByRecursion (λ other. IsPrefix (seen other) (seen pass)) passes)
      (none : places mid ≡ []) (places_are : (place : ℕ) → times place (places pass) ≡ times place (places mid) + total (λ other. times place (places other)) passes)
      (once : (place : ℕ) → times place (places pass) ≡ below place (length last.events.items)) where
    linked : IsLinked (Begun tells (built lock).opened.value (built lock).source.value) (built lock).opened.value last.events.items
    linked = subst (λ (x : Keeping × M). IsLinked (Begun tells x.0 x.1) x.0 last.events.items) (λ i. (opened i, source i)) standing.linked

    end : last.world ≡ last_world (built lock).opened.value last.events.items
    end = standing.last ∙ ap (λ (k : Keeping). last_world k last.events.items) opened

    seen_is : AllByRecursion (λ a. IsPrefix (seat a).seen last.events.items) worked
    seen_is = all_map (λ other. IsPrefix (seen other) last.events.items) pass_of worked passes passes_are (subst (λ (es : List (Event S)). AllByRecursion (λ other. IsPrefix (seen other) es) passes) all_seen begins)

    all : AllRan tells told count since turns (built lock).opened.value (built lock).source.value last.events.items last.world linked end work seat (fresh_seat lock config) refl refl stands jobs worked done
    all = all_ran tells told count since turns (built lock).opened.value (built lock).source.value last.events.items last.world linked end work seat (fresh_seat lock config) refl refl stands jobs hired worked done h w d
        (tell_each Told told jobs tell) seen_is

    each_once : (place : ℕ) → total (λ (run : JobRun L). times place run.places) all.runs ≡ below place (length last.events.items)
    each_once place =
        let own = all_once tells told count since turns (built lock).opened.value (built lock).source.value last.events.items last.world linked end work seat (fresh_seat lock config) refl refl stands jobs worked done all place in
        let joined : total (λ other. times place (places other)) passes ≡ total (λ a. times place (seat a).places) worked = ap (λ l. total (λ other. times place (places other)) l) passes_are ∙ total_map (λ other. times place (places other)) pass_of worked in
        let sum = places_are place in
        let few : times place (places mid) ≡ 0 = ap (λ l. times place l) none in
        own ∙ (sym joined ∙ (let e : total (λ other. times place (places other)) passes ≡ times place (places pass) = omega (arith, sum, few) in e ∙ once place))

    is_run : IsRun tells told count since turns (built lock) jobs last done
    is_run = record {
      standing = standing;
      opened = opened;
      source = source;
      lead = λ core log so here. (
          let l = lead (Begun tells (built lock).opened.value (built lock).source.value) log ((core, here), so) (built lock).opened.value last.events.items core linked here in
          (l.0, l.1, subst (λ (k : Keeping). WorldStands k l.0 log) (sym end) l.2));
      runs = all.runs;
      jobs_are = all.jobs_are;
      done_are = all.done_are;
      once = each_once;
      each = all.each;
    }

    pub all_together : IsRun tells told count since turns first jobs last done
    all_together = subst (λ (r : Recorded S K M). IsRun tells told count since turns r jobs last done) first_is is_run
