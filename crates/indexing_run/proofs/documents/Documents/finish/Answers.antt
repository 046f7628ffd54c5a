use Rattle.std.proofs.Math.Logic.{∥∥₁_elim, ∥∥₁_map}
use Rattle.split_laws.proofs.Spelling.{can_spell, can_spell_prop}
use Rattle.indexing_run.proofs.documents.Documents.finish.Goals as goal

pub finish-requires : goal.finish-requires
finish-requires c = ∥∥₁_map c.requires (λ r. (c.args.self.mapping.schema, r.0, r.1))

pub returns-clause-built : goal.returns-clause-built
returns-clause-built c = λ list h. c.in_ok-split.ensures c.args.self.mapping.schema list h

pub returns-clause-bytes : goal.returns-clause-bytes
returns-clause-bytes c = λ list h. (c.built_is_one.ensures c.args.self.mapping.schema list (c.in_ok-split.ensures c.args.self.mapping.schema list h)).0

pub returns-clause-facts : goal.returns-clause-facts
returns-clause-facts c = λ list h. (c.built_is_one.ensures c.args.self.mapping.schema list (c.in_ok-split.ensures c.args.self.mapping.schema list h)).1

pub returns-clause-can : goal.returns-clause-can
returns-clause-can c = ∥∥₁_elim c.requires (can_spell_prop c.in_ok-split.split.facts) (λ r.
    let built = c.in_ok-split.ensures c.args.self.mapping.schema r.0 r.1 in
    let one = c.built_is_one.ensures c.args.self.mapping.schema r.0 built in
    can_spell c.args.self.mapping.schema r.0 c.in_ok-split.split built one.0 one.1)
