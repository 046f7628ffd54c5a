-- What the readers of texts say of one entry, as contracts see it.
use Rattle.std.specs.Prelude.{Result, Ok, Err}
use Rattle.index_config.specs.declared.config_error.ConfigError.{ConfigError}
use Rattle.query_ast.specs.Sought.{Sought, view}
use Rattle.query_ast.specs.declared.query.Query.{Query}
use Rattle.query_reader.specs.declared.refusal.QueryError.{QueryError}
use Rattle.meta_store.specs.declared.config.Settings.{Settings}

pub record Said : Type 0 where
  pub config : Result Settings ConfigError
  pub query : Result Sought QueryError

-- the same without where the query lies in memory
abbrev pub sought_in : Result Query QueryError → Result Sought QueryError
sought_in (Ok query) = Ok (view query)
sought_in (Err error) = Err error
