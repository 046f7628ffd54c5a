-- What a delete task is, and which documents it removes.
use Rattle.std.specs.Prelude.{ℕ, ◌&&◌, Bool, List}
use Rattle.doc_value.specs.declared.doc.DocField.{DocField}
use Rattle.doc_value.specs.declared.facts.TimeRange.{TimeRange}
use Rattle.doc_value.specs.declared.schema.Schema.{Schema}
use Rattle.query_ast.specs.Meaning.{meaning, within_times}
use Rattle.query_ast.specs.Sought.{Sought}

-- what contracts see of a task
pub record DeleteTask : Type 0 where
  pub opstamp : ℕ
  pub query : Sought
  pub times : TimeRange

-- the document lies within the task's times and meets its query
abbrev pub removes : Schema → List DocField → DeleteTask → Bool
removes schema doc task = within_times schema task.times doc && meaning schema doc task.query
