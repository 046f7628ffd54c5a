use Rattle.std.proofs.Math.Logic.{∥∥₁_elim, ∥∥₁_map}
use Rattle.indexing_run.proofs.Gathered.{refuses_none}
use Rattle.indexing_run.proofs.documents.Documents.add.Goals as goal

pub add-requires : goal.add-requires
add-requires c = ∥∥₁_map c.requires.taken (λ r. (c.args.self.now.mapping.schema, r.0, r.1, c.requires.of_schema))

pub returns-in-Ok-clause-taken : goal.returns-in-Ok-clause-taken
returns-in-Ok-clause-taken c = λ list h. c.in-Ok.ensures c.args.self.now.mapping.schema list h c.requires.of_schema

pub unreachable-requires : goal.unreachable-requires
unreachable-requires c =
    ∥∥₁_elim c.requires.taken (λ x y. absurd x)
    (λ r. refuses_none c.args.self.now.builder c.args.self.now.mapping.schema r.0 c.args.placed.now c.in-Err.error r.1 c.requires.room c.requires.light
    (c.in-Err.ensures c.args.self.now.mapping.schema r.0 r.1 c.requires.of_schema).0 c.in_default.not-Memory)
