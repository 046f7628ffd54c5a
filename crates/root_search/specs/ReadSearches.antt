-- When what was read of a text is what it asks.
use Rattle.std.specs.Prelude.{◌≡◌, Result, Ok, Err}
use Rattle.doc_value.specs.declared.schema.Schema.{Schema}
use Rattle.doc_value.specs.declared.facts.TimeRange.{TimeRange}
use Rattle.index_world.specs.Gate.{CanAddTask}
use Rattle.index_world.specs.declared.tokens.DeleteAsk.{DeleteAsk}
use Rattle.leaf_search.specs.Answers.{IsAsked}
use Rattle.meta_store.specs.declared.planning.Choice.{Choice}
use Rattle.meta_store.specs.declared.planning.Choice.TheVariants as choices
use Rattle.query_ast.specs.Sought.{Sought, view}
use Rattle.search_api.specs.Resolved.{Asked, IsDelete, IsSearch, Search}
use Rattle.search_api.specs.Unanswered.{WantsMemory}
use Rattle.search_api.specs.declared.resolved.Deletion.{Deletion}
use Rattle.search_api.specs.declared.unanswered.Unanswered.{Unanswered}
use Rattle.root_search.specs.LeafAsks.{Asks}
use Rattle.root_search.specs.Requests.{ask_of}
use Rattle.root_search.specs.declared.reads.ReadRequest.{ReadRequest}
use Rattle.root_search.specs.declared.reads.ReadRequest.TheVariants as reads
use Rattle.root_search.specs.declared.reads.ReadSearch.{ReadSearch}

-- the rows of a search with this query and these times are chosen
abbrev pub IsChoiceOf : Sought → TimeRange → Choice → Type 0
IsChoiceOf query times (choices.Search q t) = (view q ≡ query) × (t ≡ times)
IsChoiceOf query times choices.Merge = ⊥
IsChoiceOf query times choices.Deletes = ⊥
IsChoiceOf query times choices.Every = ⊥
IsChoiceOf query times choices.Look = ⊥

-- it chooses the search's rows, and asks each split of the schema for the search
pub record IsRead (s : Schema) (search : Search) (read : ReadSearch) : Type 0 where
  pub choice : IsChoiceOf search.query search.times read.choice
  pub asks : Asks search read.ask
  pub asked : IsAsked s read.ask.request

-- its task is asked for, in texts that a journal can spell
pub record IsReadDelete (deletion : Deletion) (ask : DeleteAsk) : Type 0 where
  pub same : ask ≡ ask_of deletion
  pub can : CanAddTask ask

-- the answer is what is asked, or the same refusal, unless memory is wanting
abbrev pub Reads : Schema → Result Asked Unanswered → Result ReadRequest Unanswered → Type 0
Reads s asked (Ok (reads.Search read)) = (search : Search) × (asked ≡ Ok (IsSearch search)) × IsRead s search read
Reads s asked (Ok (reads.Delete ask)) = (deletion : Deletion) × (asked ≡ Ok (IsDelete deletion)) × IsReadDelete deletion ask
Reads s asked (Err reason) = ¬ WantsMemory reason → asked ≡ Err reason
