use Rattle.std.proofs.Common.{◌≡◌, ◌<◌, ℕ, zero, suc, List, [], ◌∷◌, length, slice_get, Some, Result, Ok, Err, refl, arith}
use Rattle.doc_value.specs.declared.schema.Field.{Field}
use Rattle.doc_value.specs.declared.schema.Schema.{Schema}
use Rattle.query_ast.specs.Sought.{Sought}
use Rattle.query_reader.specs.Machine.{reads}
use Rattle.query_reader.specs.Printed.{IsPrintedOf}
use Rattle.doc_value.specs.Documents.{AreNumbers}
use Rattle.query_reader.specs.Resolve.{resolve}
use Rattle.query_reader.specs.Tree.{Tree}
use Rattle.query_reader.specs.declared.fault.Fault.{Fault}
use Rattle.query_reader.specs.declared.fault.Fault.TheVariants as faults
use Rattle.query_reader.specs.declared.refusal.QueryError.{QueryError}
use Rattle.query_reader.specs.declared.refusal.QueryError.TheVariants as refusals
use Rattle.query_laws.proofs.Sound.{reads_query}
use Rattle.query_laws.proofs.Readable.{fields_found, Within, Readable, query_readable}
use Rattle.query_laws.proofs.Back.{Whole, whole_back}
use Rattle.query_laws.proofs.laws.printing_laws.Goals as goal

field_at : (fields : List Field) (n : ℕ) → n < length fields → (f : Field) × (slice_get fields n ≡ Some f)
field_at [] n l = absurd (omega (arith, l))
field_at (f ∷ fs) zero l = (f, refl)
field_at (f ∷ fs) (suc n) l = field_at fs n (omega (arith, l))

numbers_within : (fields : List Field) (ns : List ℕ) → AreNumbers fields ns → Within fields ns
numbers_within fields [] h = tt
numbers_within fields (n ∷ ns) h = (field_at fields n h.0, numbers_within fields ns h.1)

read_readable : (schema : Schema) (defaults text shown : List ℕ) (q : Sought) → IsPrintedOf schema defaults text q shown → Readable schema.fields q
read_readable schema defaults text shown q p = go (reads text) refl
  where
    go : (r : Result Tree Fault) → reads text ≡ r → Readable schema.fields q
    go (Ok t) e =
        query_readable schema defaults text (fields_found schema.fields p.rise p.named) p.dynamic (numbers_within schema.fields defaults p.within) q (reads_query text t e) (let y : resolve schema defaults text t ≡ Ok q = rw e at p.read in y)
    go (Err (faults.Syntax n)) e = absurd (let y : ◌≡◌ {A = Result Sought QueryError} (Err (refusals.Syntax n)) (Ok q) = rw e at p.read in cc)
    go (Err (faults.TooDeep n)) e = absurd (let y : ◌≡◌ {A = Result Sought QueryError} (Err (refusals.TooDeep n)) (Ok q) = rw e at p.read in cc)

printed_whole : (schema : Schema) (defaults others text shown : List ℕ) (q : Sought) → IsPrintedOf schema defaults text q shown → Whole schema others q shown
printed_whole schema defaults others text shown q p = whole_back schema others q shown (read_readable schema defaults text shown q p) p.printed

pub returns : goal.returns
returns c = record {
  again = λ schema defaults others text shown q p. (printed_whole schema defaults others text shown q p).again;
  deep = λ schema defaults others text shown q p. (printed_whole schema defaults others text shown q p).deep;
}
