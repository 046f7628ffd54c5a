-- Each task of a legal history can be asked of a split.
use Rattle.std.proofs.Common.{◌≡◌, ℕ, zero, suc, Bool, true, false, List, [], ◌∷◌, ◌++◌, drop, refl, sym, ◌∙◌, subst, arith, Ok, Err, Option, Some, None, Result}
use Rattle.std.specs.Prelude.{IsOk, if◌then◌else◌}
use Rattle.std.specs.Option.{IfSome}
use Rattle.std.specs.Str.{is_utf8}
use Rattle.query_ast.specs.Askable.{CanAsk}
use Rattle.doc_value.specs.Documents.{IsDynamic}
use Rattle.doc_value.specs.declared.schema.Schema.{Schema}
use Rattle.delete_tasks.specs.Removes.{DeleteTask}
use Rattle.index_config.specs.declared.config.IndexConfig.{IndexConfig}
use Rattle.meta_journal.specs.declared.entry.Act.{Act}
use Rattle.meta_journal.specs.declared.entry.Act.TheVariants.{Fence, Create, Stage, Publish, Replace, Raise, Task, MarkStaged, Remove, Retire}
use Rattle.meta_store.specs.History.{History}
use Rattle.meta_store.specs.History.History.{Start, ◌▸◌}
use Rattle.meta_store.specs.Readings.{config_after, config_of, query_said, reading_of}
use Rattle.meta_store.specs.State.{Legal, MayCome, state_of}
use Rattle.meta_store.specs.Tasks.{query_in, tasks_after, tasks_of}
use Rattle.meta_store.specs.declared.config.Config.{Config}
use Rattle.query_ast.specs.Sought.{Sought}
use Rattle.query_reader.specs.Resolve.{query_of}
use Rattle.query_reader.specs.declared.refusal.QueryError.{QueryError}
use Rattle.query_reader.specs.declared.refusal.QueryError.TheVariants.{Syntax}
use Rattle.search_api.proofs.Askable.{query_can}
use Rattle.index_world.proofs.Asking.{begun_history}
use Rattle.index_world.specs.Config.{query_with, read_query, reads, text_numbers}
use Rattle.upkeep_run.specs.Dropping.{AreAsked}

-- ---- what a text asks, a split can be asked

module _ (config : IndexConfig) (dynamic : IfSome config.schema.dynamic (IsDynamic config.schema.fields)) where
  read_can : (text : List ℕ) (fields : List (List ℕ)) (q : Sought) → read_query config text fields ≡ Ok q → CanAsk config.schema q
  read_can text fields q e = by (text_numbers config.schema.fields fields) e
    where
      by : (r : Result (List ℕ) QueryError) → query_with config text r ≡ Ok q → CanAsk config.schema q
      by (Err x) e = cc e
      by (Ok numbers) e = utf8 (is_utf8 text) e
        where
          utf8 : (b : Bool) → (if b then query_of config.schema numbers text else Err (Syntax 0)) ≡ Ok q → CanAsk config.schema q
          utf8 true e = query_can config.schema numbers text q dynamic e
          utf8 false e = cc e

  task_can : (text : List ℕ) (fields : List (List ℕ)) (r : Result Sought QueryError) → read_query config text fields ≡ r → IsOk r → CanAsk config.schema (query_in r)
  task_can text fields (Ok q) e ok = read_can text fields q e
  task_can text fields (Err x) e ok = cc ok

-- ---- the tasks of a history

asked_more : (s : Schema) (tasks : List DeleteTask) (task : DeleteTask) → AreAsked s tasks → CanAsk s task.query → AreAsked s (tasks ++ task ∷ [])
asked_more s [] task h e = (e, tt)
asked_more s (t ∷ tasks) task h e = (h.0, asked_more s tasks task h.1 e)

-- a history without a configuration has not begun
none_tasks : (h : History) → Legal reads h → config_of reads h ≡ None → tasks_of reads h ≡ []
none_tasks Start l none = refl
none_tasks (h ▸ e) l none = let b = begun_history (h ▸ e) l (omega arith) in absurd (never b.config (sym none ∙ b.is))
  where
    never : (c : Config) → ◌≡◌ {A = Option Config} None (Some c) → ⊥
    never c e = cc e

pub tasks_asked : (h : History) (config : Config) → IfSome config.settings.index.schema.dynamic (IsDynamic config.settings.index.schema.fields) → Legal reads h → config_of reads h ≡ Some config → AreAsked config.settings.index.schema (tasks_of reads h)
tasks_asked Start config dynamic l is = cc is
tasks_asked (h ▸ e) config dynamic l is = by e.act (config_of reads h) refl l.1.1 is (tasks_asked h config dynamic l.0)
  where
    by : (act : Act) (o : Option Config) → config_of reads h ≡ o → MayCome (reading_of reads (config_of reads h) act) (config_of reads h) (state_of reads h) e.moment act →
        config_after (reading_of reads (config_of reads h) act) act (config_of reads h) ≡ Some config → (config_of reads h ≡ Some config → AreAsked config.settings.index.schema (tasks_of reads h)) → AreAsked config.settings.index.schema (tasks_after (reading_of reads (config_of reads h) act) act (tasks_of reads h))
    by Fence o at may is rest = rest is
    by (Create text) None at may is rest = subst (AreAsked config.settings.index.schema) (sym (none_tasks h l.0 at)) tt
    by (Create text) (Some c) at may is rest = absurd (subst (λ (x : Option Config). MayCome (reading_of reads x (Create text)) x (state_of reads h) e.moment (Create text)) at may)
    by (Stage number delta facts) o at may is rest = rest is
    by (Publish number) o at may is rest = rest is
    by (Replace new old upto) o at may is rest = rest is
    by (Raise number upto) o at may is rest = rest is
    by (Task opstamp text fields times) o at may is rest =
        let here : MayCome (reading_of reads (Some config) (Task opstamp text fields times)) (Some config) (state_of reads h) e.moment (Task opstamp text fields times) =
        subst (λ (x : Option Config). MayCome (reading_of reads x (Task opstamp text fields times)) x (state_of reads h) e.moment (Task opstamp text fields times)) is may in
        asked_more config.settings.index.schema (tasks_of reads h) _ (rest is)
        (subst (λ (x : Option Config). CanAsk config.settings.index.schema (query_in (query_said reads x (Task opstamp text fields times)))) (sym is)
        (task_can config.settings.index dynamic text fields (read_query config.settings.index text fields) refl here.1))
    by (MarkStaged numbers) o at may is rest = rest is
    by (Remove numbers) o at may is rest = rest is
    by (Retire numbers) o at may is rest = rest is

pub asked_behind : (s : Schema) (n : ℕ) (tasks : List DeleteTask) → AreAsked s tasks → AreAsked s (drop n tasks)
asked_behind s zero [] h = tt
asked_behind s zero (t ∷ tasks) h = h
asked_behind s (suc n) [] h = tt
asked_behind s (suc n) (t ∷ tasks) h = asked_behind s n tasks h.1
