-- What is asked of a field, without where it lies in memory.
use Rattle.std.specs.Prelude.{ℕ, List}
use Rattle.query_reader.specs.declared.tree.Span.{Span}
use Rattle.query_reader.specs.declared.special.Member.{Member}
use Rattle.query_reader.specs.declared.special.Ranged.{Ranged}

pub data Asking : Type 0 where
  -- some value
  Any : Asking
  Word : Span → Asking
  Prefix : Span → Asking
  Quoted : Span → Asking
  -- a range or a comparison, and where its bracket or sign stands
  Within : ℕ → Ranged → Asking
  -- a set, and where its `IN` stands
  OneOf : ℕ → List Member → Asking
