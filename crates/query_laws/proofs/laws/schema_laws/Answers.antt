use Rattle.std.proofs.Common.{◌≡◌, ℕ, List, Result, Ok, Err, refl}
use Rattle.std.specs.Option.{IfSome}
use Rattle.doc_value.specs.Documents.{IsDynamic}
use Rattle.doc_value.specs.declared.schema.Schema.{Schema}
use Rattle.query_ast.specs.Queries.{IsQueryOf}
use Rattle.query_ast.specs.Sought.{Sought}
use Rattle.query_reader.specs.Machine.{reads}
use Rattle.query_reader.specs.Resolve.{query_of, resolve}
use Rattle.query_reader.specs.Tree.{Tree}
use Rattle.query_reader.specs.declared.fault.Fault.{Fault}
use Rattle.query_reader.specs.declared.fault.Fault.TheVariants as faults
use Rattle.query_reader.specs.declared.refusal.QueryError.{QueryError}
use Rattle.query_reader.specs.declared.refusal.QueryError.TheVariants as refusals
use Rattle.query_laws.proofs.Fitting.{query_fits}
use Rattle.query_laws.proofs.Sound.{reads_query}
use Rattle.query_laws.proofs.laws.schema_laws.Goals as goal

read_fits : (s : Schema) (defaults text : List ℕ) (q : Sought) → IfSome s.dynamic (IsDynamic s.fields) → query_of s defaults text ≡ Ok q → IsQueryOf s q
read_fits s defaults text q d e = go (reads text) refl
  where
    go : (r : Result Tree Fault) → reads text ≡ r → IsQueryOf s q
    go (Ok t) h = query_fits s defaults text d q (reads_query text t h) (let y : resolve s defaults text t ≡ Ok q = rw h at e in y)
    go (Err (faults.Syntax n)) h = absurd (let y : ◌≡◌ {A = Result Sought QueryError} (Err (refusals.Syntax n)) (Ok q) = rw h at e in cc)
    go (Err (faults.TooDeep n)) h = absurd (let y : ◌≡◌ {A = Result Sought QueryError} (Err (refusals.TooDeep n)) (Ok q) = rw h at e in cc)

pub returns : goal.returns
returns c = λ schema defaults text q d e. read_fits schema defaults text q d e
