-- An index behind a crash.
use Rattle.std.proofs.Common.{◌≡◌, ℕ, Bool, true, false, List, Option, Some, refl, sym, subst, ◌∙◌}
use Rattle.meta_journal.specs.declared.entry.Entry.{Entry}
use Rattle.object_store.specs.Store.{State}
use Rattle.source_log.specs.Log.{Log, IsLog}
use Rattle.index_world.specs.Index.{IsIndexOf}
use Rattle.real_edge.specs.Disk.{Files}
use Rattle.real_edge.specs.Objects.{state_of, state_in}
use Rattle.quick_node.specs.AfterCrash.{BeginsAgain, IsKeptWhole}
use Rattle.quick_node.specs.Once.{HoldsOnce, AreLeft}
use Rattle.quick_node.specs.Serve.{Before}

some_is : (x y : State) → ◌≡◌ {A = Option State} (Some x) (Some y) → x ≡ y
some_is x y e = cc

-- a store that is opened tells the objects of the files
opened_tells : (left : Files) (told : Option Files) (is_lost : Bool) (crashed : Files) (s : State) → told ≡ Some left → is_lost ≡ false → state_in told is_lost crashed ≡ Some s → state_of left ≡ s
opened_tells left told is_lost crashed s disk opened kept =
    some_is (state_of left) s
    (subst (λ (b : Bool). state_in (Some left) b crashed ≡ Some s) opened (subst (λ (t : Option Files). state_in t is_lost crashed ≡ Some s) disk kept))

pub kept_whole : (kept : State) (exit : List Entry) (log : Log) (left : Files) (told : Option Files) (is_lost : Bool) (crashed : Files) (next : Before) → IsLog log → kept ≡ state_of left → IsIndexOf kept exit log → HoldsOnce kept exit log →
    ((revision : ℕ) → AreLeft kept revision exit log) → BeginsAgain left told is_lost crashed log next → IsKeptWhole exit log next
kept_whole kept exit log left told is_lost crashed next is same index once rows begins =
    let e : kept ≡ next.kept = same ∙ opened_tells left told is_lost crashed next.kept begins.disk begins.opened begins.kept in
    record {
      enters = record { is_log = begins.is_log; log = log; was_log = is; extends = begins.extends; index = subst (λ (s : State). IsIndexOf s exit log) e index };
      once = subst (λ (s : State). HoldsOnce s exit log) e once;
      left = λ revision. subst (λ (s : State). AreLeft s revision exit log) e (rows revision);
    }
