use Rattle.std.proofs.Common.{subst}
use Rattle.split_build.specs.declared.build_error.BuildError.{BuildError}
use Rattle.split_build.specs.Limits.{MakeNone}
use Rattle.split_build.proofs.BuilderLemmas.{few_front, heavy_front}
use Rattle.split_build.proofs.building.refusal_of.Goals as goal

pub returns-in-TooLarge : goal.returns-in-TooLarge
returns-in-TooLarge c = λ front behind is h.
    c.too_large.ensures (heavy_front front behind c.args.documents.now _ is (subst (λ (e : BuildError). MakeNone front e) c.in-TooLarge.is h))

pub returns-in-TooManyDocs : goal.returns-in-TooManyDocs
returns-in-TooManyDocs c = λ front behind is h. absurd (few_front front behind c.args.documents.now _ c.requires is (subst (λ (e : BuildError). MakeNone front e) c.in-TooManyDocs.is h))
