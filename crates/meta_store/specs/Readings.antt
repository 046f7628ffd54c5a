-- What the readers of texts say of the entries of a history.
use Rattle.std.specs.Prelude.{List, ℕ, Option, Some, None, Result, Ok, Err}
use Rattle.index_config.specs.declared.config.IndexConfig.{IndexConfig}
use Rattle.index_config.specs.declared.config_error.ConfigError.{ConfigError}
use Rattle.index_config.specs.declared.config_error.ConfigError.TheVariants.{NotToml}
use Rattle.meta_journal.specs.declared.entry.Act.{Act}
use Rattle.meta_journal.specs.declared.entry.Entry.{Entry}
use Rattle.meta_journal.specs.declared.entry.Act.TheVariants.{Fence, Create, Stage, Publish, Replace, Raise, MarkStaged, Remove, Retire}
use Rattle.meta_journal.specs.declared.entry.Act.TheVariants.{Task as AddTask}
use Rattle.query_ast.specs.Sought.{Sought}
use Rattle.query_reader.specs.declared.refusal.QueryError.{QueryError}
use Rattle.query_reader.specs.declared.refusal.QueryError.TheVariants.{Syntax}
use Rattle.meta_store.specs.Said.{Said}
use Rattle.meta_store.specs.declared.config.Settings.{Settings}
use Rattle.meta_store.specs.declared.config.Config.{Config}
use Rattle.meta_store.specs.History.{History}
use Rattle.meta_store.specs.History.History.{Start, ◌▸◌}

-- What the readers say of texts: what a configuration says, or what is wrong with it; and, under a configuration that was
-- read, the query of a task's text with these fields as its default fields, or why there is none.
pub record Reads : Type 0 where
  pub config : List ℕ → Result Settings ConfigError
  pub query : IndexConfig → (text : List ℕ) → (fields : List (List ℕ)) → Result Sought QueryError

-- what they say of one act, under the configuration so far; of an act without a text nothing is read, and what stands
-- here is looked at by nobody
abbrev pub config_said : Reads → Act → Result Settings ConfigError
config_said reads Fence = Err NotToml
config_said reads (Create config) = reads.config config
config_said reads (Stage number delta facts) = Err NotToml
config_said reads (Publish number) = Err NotToml
config_said reads (Replace new old upto) = Err NotToml
config_said reads (Raise number upto) = Err NotToml
config_said reads (AddTask opstamp text fields times) = Err NotToml
config_said reads (MarkStaged numbers) = Err NotToml
config_said reads (Remove numbers) = Err NotToml
config_said reads (Retire numbers) = Err NotToml

abbrev pub query_said : Reads → Option Config → Act → Result Sought QueryError
query_said reads None act = Err (Syntax 0)
query_said reads (Some so_far) Fence = Err (Syntax 0)
query_said reads (Some so_far) (Create config) = Err (Syntax 0)
query_said reads (Some so_far) (Stage number delta facts) = Err (Syntax 0)
query_said reads (Some so_far) (Publish number) = Err (Syntax 0)
query_said reads (Some so_far) (Replace new old upto) = Err (Syntax 0)
query_said reads (Some so_far) (Raise number upto) = Err (Syntax 0)
query_said reads (Some so_far) (AddTask opstamp text fields times) = reads.query so_far.settings.index text fields
query_said reads (Some so_far) (MarkStaged numbers) = Err (Syntax 0)
query_said reads (Some so_far) (Remove numbers) = Err (Syntax 0)
query_said reads (Some so_far) (Retire numbers) = Err (Syntax 0)

abbrev pub reading_of : Reads → Option Config → Act → Said
reading_of reads so_far act = record { config = config_said reads act; query = query_said reads so_far act }

-- the configuration behind an act: a Create keeps its bytes with what they say
abbrev pub configured : List ℕ → Result Settings ConfigError → Option Config
configured text (Ok settings) = Some (record { text = text; settings = settings })
configured text (Err error) = None

abbrev pub config_after : Said → Act → Option Config → Option Config
config_after said Fence so_far = so_far
config_after said (Create config) so_far = configured config said.config
config_after said (Stage number delta facts) so_far = so_far
config_after said (Publish number) so_far = so_far
config_after said (Replace new old upto) so_far = so_far
config_after said (Raise number upto) so_far = so_far
config_after said (AddTask opstamp text fields times) so_far = so_far
config_after said (MarkStaged numbers) so_far = so_far
config_after said (Remove numbers) so_far = so_far
config_after said (Retire numbers) so_far = so_far

abbrev pub config_of : Reads → History → Option Config
config_of reads Start = None
config_of reads (h ▸ e) = config_after (reading_of reads (config_of reads h) e.act) e.act (config_of reads h)
