-- What is said from a core on whose clock is asked no more is said from that core on.
use Rattle.std.proofs.Common.{inl, inr, ℕ, List, true}
use Rattle.std.specs.Prelude.{Result, Ok, Err}
use Rattle.source_log.specs.Log.{Log}
use Rattle.index_world.specs.Core.{Core, IsPlannedIn, IsUploadedIn, Nobody}
use Rattle.index_world.specs.World.{GoesFor, Keeping}
use Rattle.index_world.specs.declared.world_error.WorldError.{WorldError}
use Rattle.index_world.specs.declared.world_error.WorldError.TheVariants as errors
use Rattle.thread_run.specs.Resting.{RestsAll, RestsAllBy}
use Rattle.thread_run.specs.Settling.{HadWork, IsHindered, Settles, SettlesBy, settled_of}
use Rattle.thread_run.specs.declared.settling.Stop.{Stop}
use Rattle.thread_run.specs.declared.settling.Stop.TheVariants as stops

module _ (core : Core) where
  abbrev frozen_core : Core
  frozen_core = record core { frozen = true }

  uploaded : (number : ℕ) (bytes : List ℕ) → IsUploadedIn core number bytes → IsUploadedIn (record core { frozen = true }) number bytes
  uploaded number bytes (inl s) = inl (record { staged = s.staged; file = s.file; not_late = s.not_late })
  uploaded number bytes (inr gone) = inr gone

  planned : (until number : ℕ) (bytes : List ℕ) → IsPlannedIn core until number bytes → IsPlannedIn (record core { frozen = true }) until number bytes
  planned until number bytes p =
      let l = p.live in
      record {
        live = record { config = l.config; configured = l.configured; planned_at = l.planned_at; ends = l.ends; lasting = record { since = l.lasting.since; lasts = l.lasting.lasts } };
        stands = λ early. let s = p.stands early in record { staged = s.staged; file = s.file; not_late = s.not_late };
      }

  module _ (after : Core) where
    goes_unfrozen : GoesFor Nobody (record core { frozen = true }) after → GoesFor Nobody core after
    goes_unfrozen g =
        record {
          grown = g.grown;
          faults = g.faults;
          moment = g.moment;
          keeps = record {
            configured = g.keeps.configured;
            unused = λ number none u. absurd none;
            uploaded = λ number bytes u. g.keeps.uploaded number bytes (uploaded number bytes u);
            shown = λ number bytes s. g.keeps.shown number bytes (record { shown = s.shown; left = s.left; not_late = s.not_late });
            staged = g.keeps.staged;
            given_up = g.keeps.given_up;
          };
          planned = λ until number bytes p. g.planned until number bytes (planned until number bytes p);
        }

    had_unfrozen : HadWork (record core { frozen = true }) after → HadWork core after
    had_unfrozen h = record { more = h.more; behind = h.behind; history_is = h.history_is; restless = h.restless }

    hindered_unfrozen : (error : WorldError) → IsHindered error (record core { frozen = true }) after → IsHindered error core after
    hindered_unfrozen (errors.StoreFault low high) h = h
    hindered_unfrozen errors.Full h = (had_unfrozen h.0, h.1)
    hindered_unfrozen (errors.Expired planned_at now) h = absurd h
    hindered_unfrozen (errors.Memory refused) h = absurd h
    hindered_unfrozen (errors.Refused refusal) h = absurd h
    hindered_unfrozen (errors.Missing key) h = absurd h
    hindered_unfrozen (errors.Corrupt key) h = absurd h
    hindered_unfrozen (errors.Foreign key) h = absurd h
    hindered_unfrozen errors.NoIndex h = absurd h
    hindered_unfrozen errors.IndexExists h = absurd h
    hindered_unfrozen (errors.BadConfig bad) h = absurd h

    settled_by : (end : Result (Unit {0}) Stop) → RestsAllBy end (record core { frozen = true }) after → SettlesBy (settled_of end) core after
    settled_by (Ok done) r = r
    settled_by (Err (stops.Refused refusal)) r = (had_unfrozen r.0, r.1)
    settled_by (Err (stops.Fault error)) r = hindered_unfrozen error r
    settled_by (Err (stops.Memory refused)) r = tt

  pub settles_of : (end : Result (Unit {0}) Stop) (log : Log) (new : Keeping) → RestsAll end (record core { frozen = true }) log new → Settles (settled_of end) core log new
  settles_of end log new r = record { after = r.after; works = r.works; goes_on = goes_unfrozen r.after r.goes_on; stands = r.stands; unasked = r.unasked; ended = settled_by r.after end r.ended }
