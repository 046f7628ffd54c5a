-- A step of an indexer that calls its log.
use Rattle.std.proofs.Common.{◌≡◌, ℕ, ◌+◌, ◌-◌, ◌<◌, ◌≤◌, ◌==◌, ◌||◌, ◌↔◌, IsTrue, min, List, [], ◌∷◌, refl, sym, ap, ◌∙◌, subst, Bool, true, false, length, drop, take, arith, nat_lt, nat_le, Ok, Err, Result, Option, Some, None, length-take, length-drop}
use Rattle.std.specs.Prelude.{⊤, if◌then◌else◌}
use Rattle.std.specs.declared.alloc.AllocError.{AllocError}
use Rattle.std.proofs.lemmas.Bool.Decides.{nat_tests}
use Rattle.byte_fields.specs.Causes.{Rose}
use Rattle.source_checkpoint.specs.declared.ledger.Checkpoint.{Checkpoint}
use Rattle.source_log.specs.Log.{Log, records_of, IsLog, IsSliceOf, WhereLogTold, ReadsSlice}
use Rattle.source_log.specs.declared.lists.Records.{Records}
use Rattle.source_log.specs.declared.log.ReadError.{ReadError}
use Rattle.source_log.specs.declared.log.ReadError.TheVariants as errors
use Rattle.meta_store.specs.History.{history}
use Rattle.meta_store.specs.State.{checkpoints_of}
use Rattle.index_world.specs.CallsMade.{of_checkpoints, of_moment, of_stage, CallMade}
use Rattle.index_world.specs.Calls.{Fate, calm_fate, Trouble, gives, risen, looked, asked}
use Rattle.index_world.specs.Core.{Core, last_count, journal_of, IsConfigured, Nobody}
use Rattle.index_config.specs.declared.config.IndexConfig.{IndexConfig}
use Rattle.index_world.specs.Configuration.{configuration, config_or}
use Rattle.index_world.specs.World.{GoesFor}
use Rattle.index_config.proofs.Ranges.{accepted-ranges}
use Rattle.index_world.proofs.Configured.{configured_read}
use Rattle.index_world.specs.SplitFile.{max_documents}
use Rattle.index_world.specs.Gate.{Does, Says, IsTrouble, IsMoment, AreMarks}
use Rattle.indexing_run.specs.declared.batch.Batch.{Batch as HeldBatch}
use Rattle.indexing_run.specs.declared.batch.NextRead.{NextRead}
use Rattle.indexing_run.specs.declared.indexer.Indexer.{Indexer as Reader}
use Rattle.indexing_run.specs.declared.indexer.IndexerPlace.{IndexerPlace as HeldPlace}
use Rattle.indexing_run.specs.declared.indexer.IndexerPlace.TheVariants as places
use Rattle.indexing_run.specs.declared.outcome.IndexerOutcome.{IndexerOutcome as Said}
use Rattle.indexing_run.specs.declared.outcome.IndexerOutcome.TheVariants as said
use Rattle.indexing_run.specs.Asking.{ask_of, IsCallFree}
use Rattle.indexing_run.specs.Making.{IsBatch, IsQueue}
use Rattle.indexing_run.specs.Outcomes as outcomes
use Rattle.indexing_run.specs.Outcomes.{IndexerOutcome}
use Rattle.indexing_run.specs.Places.{Batch, IndexerPlace, idle, reading, Indexer, number_held}
use Rattle.indexing_run.specs.Standing.{Answers, BatchStands, ReadsOn, PlaceStands, IndexerStands, NamesGiven, StepsAs, batch_read, next_read}
use Rattle.indexing_run.specs.Steps.{is_empty, IndexerLuck, stepped, taken_from, start_of, batch_after, read_limit, fresh_batch, marks_at, partitions_for, log_may_fail, trouble_outcome, batch_facts, checkpoints_given, idle_by, idle_unless, read_by, read_asked, step_read, step_stage, step_place, or_short, step_indexer}
use Rattle.indexing_run.proofs.Batches.{fresh_is_batch, read_taken, read_keeps, slice_of}
use Rattle.indexing_run.proofs.Light.{light}
use Rattle.indexing_run.proofs.Steps.{assigned_apart}
use Rattle.index_world.specs.declared.tokens.Marks.{Marks}
use Rattle.index_world.specs.declared.world_error.WorldError.{WorldError}
use Rattle.indexing_run.proofs.Stepping.{Called, called_of, called_as, called_configured, none_called, trouble_free, by_world, ends_idle}

-- ---- what a log told

pub record StillTold (told : Option Log) (log : Log) (Says : Log → Log → Type 0) : Type 0 where
  pub now : Log
  pub is : told ≡ Some now
  pub says : Says log now

pub log_told : (o n : Option Log) (Says : Log → Log → Type 0) (log : Log) → o ≡ Some log → WhereLogTold o n Says → StillTold n log Says
log_told None n Says log e w = cc
log_told (Some old) None Says log e w = absurd w
log_told (Some old) (Some new) Says log e w = record { now = new; is = refl; says = subst (λ l. Says l new) (let s : old ≡ log = cc in s) w }

-- the log tells the same, and gave a slice of it
pub record Sliced (told : Option Log) (log : Log) (name : List ℕ) (from max : ℕ) (records : Records) : Type 0 where
  pub is : told ≡ Some log
  pub slice : IsSliceOf (records_of log name) from max records

pub log_read : (o n : Option Log) (log : Log) (name : List ℕ) (from max : ℕ) (records : Records) → o ≡ Some log → WhereLogTold o n (ReadsSlice name from max (Ok records)) → Sliced n log name from max records
log_read o n log name from max records e w =
    let t = log_told o n (ReadsSlice name from max (Ok records)) log e w in record { is = t.is ∙ ap Some t.says.0; slice = t.says.1 }

-- whatever it gave, it tells the same
pub log_stays : (o n : Option Log) (log : Log) (name : List ℕ) (from max : ℕ) (result : Result Records ReadError) → o ≡ Some log → WhereLogTold o n (ReadsSlice name from max result) → n ≡ Some log
log_stays o n log name from max (Ok records) e w = (log_read o n log name from max records e w).is
log_stays o n log name from max (Err error) e w = let t = log_told o n (ReadsSlice name from max (Err error)) log e w in t.is ∙ ap Some t.says

risen_is : (before now : ℕ) → before ≤ now → now ≤ last_count → risen before (now - before) ≡ now
risen_is before now a b = omega (arith, a, b)

-- a call that failed may fail
rose_may : (before now : ℕ) → Rose before now → before ≤ now → now ≤ last_count → (nat_lt before (risen before (now - before)) || (before == last_count)) ≡ true
rose_may before now rose a b = rw (risen_is before now a b) (by before now rose a b)
  where
    by : (a b : ℕ) → Rose a b → a ≤ b → b ≤ last_count → (nat_lt a b || (a == last_count)) ≡ true
    by a b rose low within = grind (rose, low, within, arith, nat_tests)

-- ---- a step with a call of the log

abbrev pub log_luck : Bool → ℕ → Bool → Fate → Bool → IndexerLuck
log_luck fails rises names_short world short = record { log = record { fails = fails; rises = rises; short = names_short }; world = world; short = short }

end_same : (e : Bool) (all from some limit : ℕ) → (IsTrue e ↔ (all ≤ from + some)) → some ≡ min limit (all - from) → e ≡ nat_le (all - from) limit
end_same true all from some limit h n = let a = h.0 refl in grind (a, n, arith, nat_tests)
end_same false all from some limit h n = by (nat_le (all - from) limit) refl
  where
    by : (t : Bool) → nat_le (all - from) limit ≡ t → false ≡ t
    by true e = let low : all - from ≤ limit = grind (e, arith, nat_tests) in let no = h.1 (omega (arith, n, low)) in cc
    by false e = refl

-- the moment was asked for
pub record Asked {W : Type 0} (Stands : W → Core → Log → Type 0) (Between : Core → Core → Type 0) (Owns : W → ℕ → Type 0) (Adds : W → List CallMade → W → Type 0) (moment : ℕ) (core : Core) (log : Log) (old new : W) : Type 0 where
  pub mid : Core
  pub behind : Core
  pub fate : Fate
  pub done : ⊤
  pub did : asked fate mid ≡ gives (Ok done) behind
  pub is : moment ≡ behind.moment
  pub called : Called Stands Between Owns Adds None of_moment ⊥ core log old new mid behind

pub asked_of : {W : Type 0} (Stands : W → Core → Log → Type 0) (Between : Core → Core → Type 0) (Owns : W → ℕ → Type 0) (Adds : W → List CallMade → W → Type 0) (moment : ℕ) (core : Core) (log : Log) (old new : W) →
    Does Stands Between Owns Adds None of_moment asked IsTrouble IsMoment (Ok moment) core log old new → Asked Stands Between Owns Adds moment core log old new
asked_of Stands Between Owns Adds moment core log old new d = by d.acts.answer d.acts.did d.acts.says
  where
    by : (a : Result ⊤ Trouble) → asked d.acts.fate d.mid ≡ gives a d.acts.after → Says IsTrouble IsMoment (Ok moment) a d.acts.after → Asked Stands Between Owns Adds moment core log old new
    by (Ok done) did w = record { mid = d.mid; behind = d.acts.after; fate = d.acts.fate; done = done; did = did; is = w; called = called_of (Ok moment) d ⊥ (λ short. short) }
    by (Err e) did w = absurd w

-- what a step on a batch that isn't closed asks
asks_moment : (batch : Batch) → batch.closed ≡ false → of_moment ≡ ask_of (reading batch)
asks_moment batch closed = ap (λ b. if b then of_stage batch.parts (batch_facts batch) else of_moment) (sym closed)

-- what is read next of a batch that isn't closed
pub record NextIs (batch : Batch) (next : NextRead) : Type 0 where
  pub mark : Checkpoint
  pub rest : List Checkpoint
  pub queue : batch.queue ≡ mark ∷ rest
  pub name : next.partition ≡ mark.partition
  pub from : next.from ≡ mark.at
  pub room : next.room ≡ read_limit batch

pub next_is : (batch : Batch) (next : NextRead) → is_empty batch.queue ≡ false → Some next ≡ next_read batch.queue (read_limit batch) → NextIs batch next
next_is batch next ahead e = by batch.queue refl ahead e
  where
    by : (queue : List Checkpoint) → batch.queue ≡ queue → is_empty queue ≡ false → Some next ≡ next_read queue (read_limit batch) → NextIs batch next
    by [] q h e = cc
    by (mark ∷ rest) q h e =
        let same : next ≡ record { partition = mark.partition; from = mark.at; room = read_limit batch } = cc in
        record { mark = mark; rest = rest; queue = q; name = ap (λ n. n.partition) same; from = ap (λ n. n.from) same; room = ap (λ n. n.room) same }

pub slice_is : (log : Log) (batch : Batch) (next : NextRead) (nx : NextIs batch next) (records : Records) → IsSliceOf (records_of log next.partition) next.from next.room records →
    IsSliceOf (records_of log nx.mark.partition) nx.mark.at (read_limit batch) records
slice_is log batch next nx records h =
    subst (λ room. IsSliceOf (records_of log nx.mark.partition) nx.mark.at room records) nx.room
    (subst (λ from. IsSliceOf (records_of log nx.mark.partition) from next.room records) nx.from
    (subst (λ name. IsSliceOf (records_of log name) next.from next.room records) nx.name h))

-- a batch that is read on has something to read
pub reads_something : (batch : Batch) (next : Option NextRead) → is_empty batch.queue ≡ false → next ≡ next_read batch.queue (read_limit batch) → ((x : NextRead) → next ≡ Some x → ⊥) → ⊥
reads_something batch next ahead e other = by batch.queue ahead e
  where
    by : (queue : List Checkpoint) → is_empty queue ≡ false → next ≡ next_read queue (read_limit batch) → ⊥
    by [] h e = cc h
    by (mark ∷ rest) h e = other (record { partition = mark.partition; from = mark.at; room = read_limit batch }) e

-- the target of an index's configuration
pub target_ranges : (core : Core) (config : IndexConfig) → IsConfigured config core → (0 < config.docs_target) × (config.docs_target ≤ max_documents)
target_ranges core config k =
    let r = configured_read (journal_of core) config k in
    let within = (accepted-ranges r.0 config r.1).docs_target in
    let least : 1 ≤ config.docs_target = within.0 in
    let most : config.docs_target ≤ 16777216 = within.1 in
    (omega (arith, least), omega (arith, most))

pub reads_on : (log : Log) (core : Core) (batch : Batch) (next : NextRead) (nx : NextIs batch next) (records : Records) → IsBatch log batch → IsConfigured batch.config core → batch.closed ≡ false → length records.list ≤ next.room →
    ReadsOn batch nx.mark nx.rest records
reads_on log core batch next nx records b k closed bound =
    record {
      queue = nx.queue;
      follows = (subst (λ marks. IsQueue batch.parts marks) nx.queue b.queue).0;
      calm = b.calm closed;
      room = let room = nx.room in let few = b.few in omega (arith, bound, room, few);
      target = (target_ranges core batch.config k).1;
    }

module _ {L W : Type 0} (tells : L → Option Log) (count : L → ℕ) (Stands : W → Core → Log → Type 0) (Between : Core → Core → Type 0) (Owns : W → ℕ → Type 0) (Adds : W → List CallMade → W → Type 0) (indexer : Indexer) (core : Core) (log : Log)
    (reader : Reader L) (old new : W) (s : IndexerStands tells count reader (record indexer { place = idle }) core log)
    (now : ℕ) (next : Reader L) (told : tells next.log ≡ Some log) (counted : count next.log ≡ now) (kept : next.assignment ≡ reader.assignment) (later : indexer.log_faults ≤ now) (within : now ≤ last_count) where
  -- the indexer behind the call of its log
  called_stands : (held : HeldPlace) (place : IndexerPlace) (after : Core) → PlaceStands log after held place →
      IndexerStands tells count (record next { place = held }) (record indexer { place = place; log_faults = risen indexer.log_faults (now - indexer.log_faults) }) after log
  called_stands held place after h =
      record { told = told; log_faults = counted ∙ sym (risen_is indexer.log_faults now later within); assignment = kept ∙ s.assignment; assigned = s.assigned; place = h }

  -- it stands for this, and holds no number
  ends_called : (before place : IndexerPlace) (held : HeldPlace) (result : Result Said AllocError) (mid after : Core) (luck : IndexerLuck) (outcome : Option IndexerOutcome) →
      Called Stands Between Owns Adds (number_held before) (ask_of before) (IsCallFree before outcome) core log old new mid after →
      step_indexer luck log (record indexer { place = before }) mid ≡ record { outcome = outcome; indexer = record indexer { place = place; log_faults = risen indexer.log_faults (now - indexer.log_faults) }; core = after } →
      Answers result outcome → number_held place ≡ None → PlaceStands log after held place →
      StepsAs tells count Stands Between Owns Adds result (record indexer { place = before }) core log (record next { place = held }) old new
  ends_called before place held result mid after luck outcome called did answer none h =
      record {
        mid = mid;
        passed = called.passed;
        owned = called.owned;
        luck = luck;
        outcome = outcome;
        after = record indexer { place = place; log_faults = risen indexer.log_faults (now - indexer.log_faults) };
        behind = after;
        did = did;
        answer = answer;
        stands = called_stands held place after h;
        gate = called.stands;
        goes_on = called.goes;
        made = called.made;
        own = called.own;
        asked = called.asked;
        apart = λ n st e. cc;
      }

  -- ---- reading

  module _ (batch : Batch) (mark : Checkpoint) (rest : List Checkpoint) (queue : batch.queue ≡ mark ∷ rest) (closed : batch.closed ≡ false) (moment : ℕ) (a : Asked Stands Between Owns Adds moment core log old new) where
    asked_called : (free : Type 0) → Called Stands Between Owns Adds None (ask_of (reading batch)) free core log old new a.mid a.behind
    asked_called free = called_as a.called None (ask_of (reading batch)) free (λ n other. other) (asks_moment batch closed) (λ short. absurd short)

    read_did : (luck : IndexerLuck) → luck.world ≡ a.fate → step_place (reading batch) luck log (record indexer { place = reading batch }) a.mid
        ≡ read_by (log_may_fail luck.log indexer.log_faults) luck log batch mark rest (record indexer { place = reading batch }) a.behind
    read_did luck same =
        ap (λ b. if b then (if batch.count == 0 then stepped (Some outcomes.CaughtUp) idle (record indexer { place = reading batch }) a.mid else step_stage luck batch (record indexer { place = reading batch }) a.mid)
        else step_read luck log batch batch.queue (record indexer { place = reading batch }) a.mid) closed
        ∙ ap (λ q. step_read luck log batch q (record indexer { place = reading batch }) a.mid) queue
        ∙ ap (λ f. read_asked luck log batch mark rest (record indexer { place = reading batch }) (asked f a.mid)) same
        ∙ ap (read_asked luck log batch mark rest (record indexer { place = reading batch })) a.did

    -- the log failed
    pub reads_fault : (before : ℕ) (held : HeldPlace) → before ≡ indexer.log_faults → Rose indexer.log_faults now → PlaceStands log a.behind held (reading batch) →
        StepsAs tells count Stands Between Owns Adds (Ok (said.SourceFault before now)) (record indexer { place = reading batch }) core log (record next { place = held }) old new
    reads_fault before held same rose h =
        ends_called (reading batch) (reading batch) held (Ok (said.SourceFault before now)) a.mid a.behind (log_luck true (now - indexer.log_faults) false a.fate false)
        (Some (outcomes.SourceFault indexer.log_faults (risen indexer.log_faults (now - indexer.log_faults)))) (asked_called ⊥)
        (read_did (log_luck true (now - indexer.log_faults) false a.fate false) refl
        ∙ ap (λ b. read_by b (log_luck true (now - indexer.log_faults) false a.fate false) log batch mark rest (record indexer { place = reading batch }) a.behind) (rose_may indexer.log_faults now rose later within))
        (ap (λ n. outcomes.SourceFault n (risen indexer.log_faults (now - indexer.log_faults))) (sym same) ∙ ap (outcomes.SourceFault before) (risen_is indexer.log_faults now later within)) refl h

    -- there was no memory
    pub reads_short : (held : HeldPlace) (result : Result Said AllocError) → PlaceStands log a.behind held idle → Answers result None →
        StepsAs tells count Stands Between Owns Adds result (record indexer { place = reading batch }) core log (record next { place = held }) old new
    reads_short held result h answer =
        ends_called (reading batch) idle held result a.mid a.behind (log_luck false (now - indexer.log_faults) false a.fate true) None (asked_called ⊤)
        (ap (or_short true) (read_did (log_luck false (now - indexer.log_faults) false a.fate true) refl)) answer refl h

    module _ (between : (core mid : Core) → Between core mid → GoesFor Nobody core mid) (l : IsLog log) (b : IsBatch log batch) (k : IsConfigured batch.config core) (records : Records) (slice : IsSliceOf (records_of log mark.partition) mark.at (read_limit batch) records) where
      read_batch : Batch
      read_batch =
          batch_after batch mark rest (taken_from batch.config mark.partition mark.at (take (read_limit batch) (drop mark.at (records_of log mark.partition))) (start_of batch))
          (nat_le (length (drop mark.at (records_of log mark.partition))) (read_limit batch)) a.behind.moment

      end_is : records.end ≡ nat_le (length (drop mark.at (records_of log mark.partition))) (read_limit batch)
      end_is =
          end_same records.end (length (records_of log mark.partition)) mark.at (length records.list) (read_limit batch) slice.end_is
          (ap length slice.list_is ∙ length-take (read_limit batch) (drop mark.at (records_of log mark.partition)) ∙ ap (min (read_limit batch)) (length-drop mark.at (records_of log mark.partition)))
          ∙ ap (λ n. nat_le n (read_limit batch)) (sym (length-drop mark.at (records_of log mark.partition)))

      read_is : batch_read batch mark rest records moment ≡ read_batch
      unfolding read_batch
      read_is =
          ap (λ rs. batch_after batch mark rest (taken_from batch.config mark.partition mark.at rs (start_of batch)) records.end moment) slice.list_is
          ∙ ap (λ e. batch_after batch mark rest (taken_from batch.config mark.partition mark.at (take (read_limit batch) (drop mark.at (records_of log mark.partition))) (start_of batch)) e moment) end_is
          ∙ ap (batch_after batch mark rest (taken_from batch.config mark.partition mark.at (take (read_limit batch) (drop mark.at (records_of log mark.partition))) (start_of batch))
          (nat_le (length (drop mark.at (records_of log mark.partition))) (read_limit batch))) a.is

      batch_stays : IsBatch log read_batch
      unfolding read_batch
      batch_stays =
          let q = subst (λ marks. IsQueue batch.parts marks) queue b.queue in
          read_keeps log batch mark rest l b (taken_from batch.config mark.partition mark.at (slice_of log batch mark) (start_of batch))
          (nat_le (length (drop mark.at (records_of log mark.partition))) (read_limit batch)) q.0 q.1 q.2 (read_taken log batch mark (let r = configured_read (journal_of core) batch.config k in light r.0 batch.config r.1) l b closed) a.behind.moment

      pub reads_some : (n : ℕ) (held : HeldBatch) → n ≡ (taken_from batch.config mark.partition mark.at records.list (start_of batch)).count → BatchStands held (batch_read batch mark rest records moment) →
          StepsAs tells count Stands Between Owns Adds (Ok (said.Read n)) (record indexer { place = reading batch }) core log (record next { place = places.Reading held }) old new
      unfolding read_batch
      reads_some n held taken h =
          ends_called (reading batch) (reading read_batch) (places.Reading held) (Ok (said.Read n)) a.mid a.behind (log_luck false (now - indexer.log_faults) false a.fate false)
          (Some (outcomes.Read (taken_from batch.config mark.partition mark.at (take (read_limit batch) (drop mark.at (records_of log mark.partition))) (start_of batch)).count)) (asked_called ⊥)
          (read_did (log_luck false (now - indexer.log_faults) false a.fate false) refl)
          (ap (λ rs. outcomes.Read (taken_from batch.config mark.partition mark.at rs (start_of batch)).count) (sym slice.list_is) ∙ ap outcomes.Read (sym taken)) refl
          (read_batch, refl, subst (BatchStands held) read_is h, batch_stays, called_configured a.called between batch.config k)

-- ---- the moment was not told

module _ {L W : Type 0} (tells : L → Option Log) (count : L → ℕ) (Stands : W → Core → Log → Type 0) (Between : Core → Core → Type 0) (Owns : W → ℕ → Type 0) (Adds : W → List CallMade → W → Type 0) (indexer : Indexer) (core : Core) (log : Log)
    (reader : Reader L) (old new : W) (s : IndexerStands tells count reader (record indexer { place = idle }) core log) (batch : Batch) (closed : batch.closed ≡ false) where
  asked_did : (queue : List Checkpoint) (fate : Fate) (mid after : Core) (trouble : Trouble) → is_empty queue ≡ false → asked fate mid ≡ gives (Err trouble) after →
      step_read (by_world fate) log batch queue (record indexer { place = reading batch }) mid
      ≡ record { outcome = trouble_outcome trouble; indexer = record indexer { place = idle }; core = after }
  asked_did [] fate mid after trouble h did = cc
  asked_did (mark ∷ rest) fate mid after trouble h did = ap (read_asked (by_world fate) log batch mark rest (record indexer { place = reading batch })) did

  pub moment_fails : is_empty batch.queue ≡ false → (error : WorldError) (answered : Result Said AllocError) → ((trouble : Trouble) → IsTrouble error trouble → Answers answered (trouble_outcome trouble)) →
      Does Stands Between Owns Adds None of_moment asked IsTrouble IsMoment (Err error) core log old new →
      StepsAs tells count Stands Between Owns Adds answered (record indexer { place = reading batch }) core log reader old new
  moment_fails ahead error answered answers d = by d.acts.answer d.acts.did d.acts.says
    where
      by : (a : Result ⊤ Trouble) → asked d.acts.fate d.mid ≡ gives a d.acts.after → Says IsTrouble IsMoment (Err error) a d.acts.after →
          StepsAs tells count Stands Between Owns Adds answered (record indexer { place = reading batch }) core log reader old new
      by (Ok done) did w = absurd w
      by (Err e) did w =
          ends_idle tells count Stands Between Owns Adds indexer core log reader old new s (reading batch) answered d.mid d.acts.after (by_world d.acts.fate) (trouble_outcome e)
          (called_as (called_of (Err error) d (IsCallFree (reading batch) (trouble_outcome e)) (trouble_free (reading batch) error e w)) None (ask_of (reading batch)) (IsCallFree (reading batch) (trouble_outcome e)) (λ n other. other) (asks_moment batch closed) (λ short. short))
          (ap (λ b. if b then (if batch.count == 0 then stepped (Some outcomes.CaughtUp) idle (record indexer { place = reading batch }) d.mid else step_stage (by_world d.acts.fate) batch (record indexer { place = reading batch }) d.mid)
          else step_read (by_world d.acts.fate) log batch batch.queue (record indexer { place = reading batch }) d.mid) closed
          ∙ asked_did batch.queue d.acts.fate d.mid d.acts.after e ahead did) (answers e w)

-- ---- idle: the names, and the checkpoints

pub names_later : (o : Option (List (List ℕ))) (result : Result (List (List ℕ)) ReadError) (before now : ℕ) (log : Log) → NamesGiven o result before now log → before ≤ now
names_later (Some all) (Ok names) before now log h = let e = h.1 in omega (arith, e)
names_later (Some all) (Err (errors.Memory refused)) before now log h = omega (arith, h)
names_later (Some all) (Err errors.Failed) before now log h = absurd h
names_later None (Ok names) before now log h = h.1
names_later None (Err (errors.Memory refused)) before now log h = h
names_later None (Err errors.Failed) before now log h = h.1

-- the same, as the indexer and the count say
pub names_as : (o p : Option (List (List ℕ))) (r t : Result (List (List ℕ)) ReadError) (before first count now : ℕ) (log : Log) → o ≡ p → r ≡ t → before ≡ first → count ≡ now →
    NamesGiven o r before count log → NamesGiven p t first now log
names_as o p r t before first count now log a b c d h =
    subst (λ o. NamesGiven o t first now log) a (subst (λ r. NamesGiven o r first now log) b (subst (λ n. NamesGiven o r n now log) c (subst (λ n. NamesGiven o r before n log) d h)))

pub names_failed : (o : Option (List (List ℕ))) (before now : ℕ) (log : Log) → NamesGiven o (Err errors.Failed) before now log → (o ≡ None) × Rose before now
names_failed None before now log h = (refl, h.0)
names_failed (Some all) before now log h = absurd h

module _ {L W : Type 0} (tells : L → Option Log) (count : L → ℕ) (Stands : W → Core → Log → Type 0) (Between : Core → Core → Type 0) (Owns : W → ℕ → Type 0) (Adds : W → List CallMade → W → Type 0) (indexer : Indexer) (core : Core) (log : Log)
    (reader : Reader L) (old new : W) (s : IndexerStands tells count reader (record indexer { place = idle }) core log)
    (now : ℕ) (next : Reader L) (told : tells next.log ≡ Some log) (counted : count next.log ≡ now) (kept : next.assignment ≡ reader.assignment) (later : indexer.log_faults ≤ now) (within : now ≤ last_count) where
  -- there was no memory for the names
  pub names_short : (held : HeldPlace) (result : Result Said AllocError) → PlaceStands log core held idle → Answers result None → Stands new core log → Between core core → Adds old [] new →
      StepsAs tells count Stands Between Owns Adds result (record indexer { place = idle }) core log (record next { place = held }) old new
  names_short held result h answer stands passed own =
      ends_called tells count Stands Between Owns Adds indexer core log reader old new s now next told counted kept later within
      idle idle held result core core (log_luck false (now - indexer.log_faults) true calm_fate false) None
      (none_called Stands Between Owns Adds None of_checkpoints ⊤ core log old new stands passed own tt) refl answer refl h

  -- the log failed
  pub names_fault : (held : HeldPlace) (before : ℕ) → PlaceStands log core held idle → before ≡ indexer.log_faults → indexer.assignment ≡ None → Rose indexer.log_faults now → Stands new core log → Between core core → Adds old [] new →
      StepsAs tells count Stands Between Owns Adds (Ok (said.SourceFault before now)) (record indexer { place = idle }) core log (record next { place = held }) old new
  names_fault held before h same none rose stands passed own =
      ends_called tells count Stands Between Owns Adds indexer core log reader old new s now next told counted kept later within
      idle idle held (Ok (said.SourceFault before now)) core core (log_luck true (now - indexer.log_faults) false calm_fate false)
      (Some (outcomes.SourceFault indexer.log_faults (risen indexer.log_faults (now - indexer.log_faults))))
      (none_called Stands Between Owns Adds None of_checkpoints ⊤ core log old new stands passed own tt)
      (ap (λ b. idle_by b indexer.assignment (log_luck true (now - indexer.log_faults) false calm_fate false) log (record indexer { place = idle }) core) (rose_may indexer.log_faults now rose later within)
      ∙ ap (λ o. idle_by true o (log_luck true (now - indexer.log_faults) false calm_fate false) log (record indexer { place = idle }) core) none)
      (ap (λ n. outcomes.SourceFault n (risen indexer.log_faults (now - indexer.log_faults))) (sym same) ∙ ap (outcomes.SourceFault before) (risen_is indexer.log_faults now later within)) refl h

  module _ (names : List (List ℕ)) (given : NamesGiven indexer.assignment (Ok names) indexer.log_faults now log) where
    names_are : names ≡ partitions_for indexer.assignment log
    names_are = by indexer.assignment given
      where
        by : (o : Option (List (List ℕ))) → NamesGiven o (Ok names) indexer.log_faults now log → names ≡ partitions_for o log
        by None h = h.0
        by (Some all) h = h.0

    idle_did : (fate : Fate) (short : Bool) (mid : Core) →
        idle_unless false (log_luck false (now - indexer.log_faults) false fate short) log (record indexer { place = idle }) mid
        ≡ checkpoints_given log (record indexer { place = idle; log_faults = now }) (looked fate mid)
    idle_did fate short mid = by indexer.assignment refl given
      where
        by : (o : Option (List (List ℕ))) → indexer.assignment ≡ o → NamesGiven o (Ok names) indexer.log_faults now log →
            idle_by false indexer.assignment (log_luck false (now - indexer.log_faults) false fate short) log (record indexer { place = idle }) mid
            ≡ checkpoints_given log (record indexer { place = idle; log_faults = now }) (looked fate mid)
        by None e h =
            ap (λ o. idle_by false o (log_luck false (now - indexer.log_faults) false fate short) log (record indexer { place = idle }) mid) e
            ∙ ap (λ n. checkpoints_given log (record indexer { place = idle; log_faults = n }) (looked fate mid)) (risen_is indexer.log_faults now later within)
        by (Some all) e h =
            ap (λ o. idle_by false o (log_luck false (now - indexer.log_faults) false fate short) log (record indexer { place = idle }) mid) e
            ∙ ap (λ n. checkpoints_given log (record indexer { place = idle; log_faults = n }) (looked fate mid)) (sym h.1)

    -- it stands for this behind the names
    named_stands : (held : HeldPlace) (place : IndexerPlace) (after : Core) → PlaceStands log after held place →
        IndexerStands tells count (record next { place = held }) (record indexer { place = place; log_faults = now }) after log
    named_stands held place after h =
        record { told = told; log_faults = counted; assignment = kept ∙ s.assignment; assigned = s.assigned; place = h }

    ends_named : (place : IndexerPlace) (held : HeldPlace) (result : Result Said AllocError) (mid after : Core) (luck : IndexerLuck) (outcome : Option IndexerOutcome) →
        Called Stands Between Owns Adds None of_checkpoints (IsCallFree idle outcome) core log old new mid after →
        step_indexer luck log (record indexer { place = idle }) mid ≡ record { outcome = outcome; indexer = record indexer { place = place; log_faults = now }; core = after } →
        Answers result outcome → number_held place ≡ None → PlaceStands log after held place →
        StepsAs tells count Stands Between Owns Adds result (record indexer { place = idle }) core log (record next { place = held }) old new
    ends_named place held result mid after luck outcome called did answer none h =
        record {
          mid = mid;
          passed = called.passed;
          owned = called.owned;
          luck = luck;
          outcome = outcome;
          after = record indexer { place = place; log_faults = now };
          behind = after;
          did = did;
          answer = answer;
          stands = named_stands held place after h;
          gate = called.stands;
          goes_on = called.goes;
          made = called.made;
          own = called.own;
          asked = called.asked;
          apart = λ n st e. cc;
        }

    -- the checkpoints were not given
    pub marks_fail : (held : HeldPlace) (error : WorldError) (answered : Result Said AllocError) → ((after : Core) → PlaceStands log after held idle) →
        ((trouble : Trouble) → IsTrouble error trouble → Answers answered (trouble_outcome trouble)) →
        Does Stands Between Owns Adds None of_checkpoints looked IsTrouble AreMarks (Err error) core log old new →
        StepsAs tells count Stands Between Owns Adds answered (record indexer { place = idle }) core log (record next { place = held }) old new
    marks_fail held error answered h answers d = by d.acts.answer d.acts.did d.acts.says
      where
        by : (a : Result ⊤ Trouble) → looked d.acts.fate d.mid ≡ gives a d.acts.after → Says IsTrouble AreMarks (Err error) a d.acts.after →
            StepsAs tells count Stands Between Owns Adds answered (record indexer { place = idle }) core log (record next { place = held }) old new
        by (Ok done) did w = absurd w
        by (Err e) did w =
            ends_named idle held answered d.mid d.acts.after (log_luck false (now - indexer.log_faults) false d.acts.fate false) (trouble_outcome e)
            (called_of (Err error) d (IsCallFree idle (trouble_outcome e)) (trouble_free idle error e w))
            (idle_did d.acts.fate false d.mid ∙ ap (checkpoints_given log (record indexer { place = idle; log_faults = now })) did) (answers e w) refl (h d.acts.after)

    -- there was no memory for the batch
    pub marks_short : (held : HeldPlace) (marks : Marks) (answered : Result Said AllocError) → ((after : Core) → PlaceStands log after held idle) → Answers answered None →
        Does Stands Between Owns Adds None of_checkpoints looked IsTrouble AreMarks (Ok marks) core log old new →
        StepsAs tells count Stands Between Owns Adds answered (record indexer { place = idle }) core log (record next { place = held }) old new
    marks_short held marks answered h answer d = by d.acts.answer d.acts.did d.acts.says
      where
        by : (a : Result ⊤ Trouble) → looked d.acts.fate d.mid ≡ gives a d.acts.after → Says IsTrouble AreMarks (Ok marks) a d.acts.after →
            StepsAs tells count Stands Between Owns Adds answered (record indexer { place = idle }) core log (record next { place = held }) old new
        by (Ok done) did w =
            ends_named idle held answered d.mid d.acts.after (log_luck false (now - indexer.log_faults) false d.acts.fate true) None (called_of (Ok marks) d ⊤ (λ short. tt))
            (ap (or_short true) (idle_did d.acts.fate true d.mid ∙ ap (checkpoints_given log (record indexer { place = idle; log_faults = now })) did)) answer refl (h d.acts.after)
        by (Err e) did w = absurd w

    -- a batch begins
    pub begins : (config : IndexConfig) (held : HeldBatch) (marks : Marks) → IsLog log → ((after : Core) → Stands new after log → IsConfigured config after) →
        BatchStands held (fresh_batch config (marks_at marks.checkpoints.items names)) →
        Does Stands Between Owns Adds None of_checkpoints looked IsTrouble AreMarks (Ok marks) core log old new →
        StepsAs tells count Stands Between Owns Adds (Ok said.Checkpoint) (record indexer { place = idle }) core log (record next { place = places.Reading held }) old new
    begins config held marks l here b d = by d.acts.answer d.acts.did d.acts.says
      where
        by : (a : Result ⊤ Trouble) → looked d.acts.fate d.mid ≡ gives a d.acts.after → Says IsTrouble AreMarks (Ok marks) a d.acts.after →
            StepsAs tells count Stands Between Owns Adds (Ok said.Checkpoint) (record indexer { place = idle }) core log (record next { place = places.Reading held }) old new
        by (Ok done) did w =
            let k : IsConfigured config d.acts.after = here d.acts.after d.acts.stands in
            let same : config ≡ config_or (configuration (journal_of d.acts.after)) = ap config_or (sym k) in
            ends_named (reading (fresh_batch (config_or (configuration (journal_of d.acts.after))) (marks_at (checkpoints_of (history d.acts.after.history)) (partitions_for indexer.assignment log)))) (places.Reading held) (Ok said.Checkpoint) d.mid d.acts.after
            (log_luck false (now - indexer.log_faults) false d.acts.fate false) (Some outcomes.Checkpoint) (called_of (Ok marks) d ⊥ (λ short. short))
            (idle_did d.acts.fate false d.mid ∙ ap (checkpoints_given log (record indexer { place = idle; log_faults = now })) did) refl refl (
              fresh_batch (config_or (configuration (journal_of d.acts.after))) (marks_at (checkpoints_of (history d.acts.after.history)) (partitions_for indexer.assignment log)),
              refl,
              subst (λ names. BatchStands held (fresh_batch (config_or (configuration (journal_of d.acts.after))) (marks_at (checkpoints_of (history d.acts.after.history)) names))) names_are
                  (subst (λ checkpoints. BatchStands held (fresh_batch (config_or (configuration (journal_of d.acts.after))) (marks_at checkpoints names))) w.checkpoints
                  (subst (λ (c : IndexConfig). BatchStands held (fresh_batch c (marks_at marks.checkpoints.items names))) same b)),
              fresh_is_batch (config_or (configuration (journal_of d.acts.after))) (subst (λ (c : IndexConfig). 0 < c.docs_target) same (target_ranges d.acts.after config k).0) log (checkpoints_of (history d.acts.after.history)) (partitions_for indexer.assignment log) (assigned_apart log indexer.assignment l s.assigned),
              subst (λ (c : IndexConfig). IsConfigured c d.acts.after) same k,
            )
        by (Err e) did w = absurd w
