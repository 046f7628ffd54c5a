-- A SECOND LIFE, behind a crash. It may come at any call of the disk: whatever fails behind it, the life before ends with what its store
-- tells then, and that is what the crash leaves.
use Rattle.std.specs.Prelude.{◌≡◌, ℕ, Bool, false, List, Option, Some}
use Rattle.meta_journal.specs.declared.entry.Entry.{Entry}
use Rattle.object_store.specs.Store.{State}
use Rattle.source_log.specs.Log.{Log, IsLog, Extends}
use Rattle.real_edge.specs.Disk.{Files}
use Rattle.real_edge.specs.Objects.{state_in}
use Rattle.quick_node.specs.Once.{HoldsOnce, AreLeft}
use Rattle.quick_node.specs.Serve.{IsPrefixOf, Before, EntersAs}

-- What a call finds behind a crash: a store over a disk that has the files which the crash left, as one is opened, and a log that goes
-- on from the one before.
pub record BeginsAgain (left : Files) (told : Option Files) (is_lost : Bool) (crashed : Files) (log : Log) (before : Before) : Type 0 where
  pub disk : told ≡ Some left
  pub opened : is_lost ≡ false
  pub kept : state_in told is_lost crashed ≡ Some before.kept
  pub is_log : IsLog before.log
  pub extends : Extends log before.log

-- NOTHING IS LOST. What is left is an index of the whole journal that the life before ended with. Each accepted record below the
-- checkpoints that is not removed stands once in the published files, and nothing else does; each row that was published at any revision
-- and still is has its file. And all that is said of a call over an index is said of the next one.
pub record IsKeptWhole (exit : List Entry) (log : Log) (before : Before) : Type 0 where
  pub enters : EntersAs exit before
  pub once : HoldsOnce before.kept exit log
  pub left : (revision : ℕ) → AreLeft before.kept revision exit log

-- Behind both lives: the journal goes on from the first to the second, and each record stands once.
pub record GoesOnTwice (history exit again : List Entry) (kept : State) (log : Log) : Type 0 where
  pub first : IsPrefixOf history exit
  pub second : IsPrefixOf exit again
  pub once : HoldsOnce kept again log
  pub left : (revision : ℕ) → AreLeft kept revision again log
