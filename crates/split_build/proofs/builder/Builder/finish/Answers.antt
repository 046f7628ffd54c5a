use Rattle.std.proofs.Common.{◌∙◌, List, ℕ, ap, refl, arith}
use Rattle.std.proofs.Math.Logic.{∥∥₁_map}
use Rattle.sha2.specs.Sha256.{sha256}
use Rattle.split_build.proofs.BuilderLemmas.{are_logs, built}
use Rattle.split_build.proofs.builder.Builder.finish.Goals as goal

pub file_of-requires : goal.file_of-requires
file_of-requires c = ∥∥₁_map c.requires (λ r. (r.1, are_logs c.args.self r.0 r.1 r.2))

pub returns : goal.returns
returns c = λ s ds h.
    built c.args.self s ds c.in_ok-file.file.items _ h (c.in_ok-file.ensures ds (are_logs c.args.self s ds h) h.count)
    c.from_vec.ensures c.from.ensures refl refl (omega (arith, c.len.ensures, c.in_ok-file.file.ok.0)) (c.digest_of.ensures ∙ ap (λ (l : List ℕ). sha256 l) c.deref.ensures.value) refl
    (c.in_ok-tag_facts.ensures _ ds h.tags)
