use Rattle.std.proofs.Common.{arith}
use Rattle.split_bundle.specs.Tagged.{value_term}
use Rattle.split_build.proofs.TagLemmas.{terms_past}
use Rattle.split_build.proofs.tags.TagLog.add_value.Goals as goal

pub returns-then-len-gt-MAX_TAGS-clause-terms : goal.returns-then-len-gt-MAX_TAGS-clause-terms
returns-then-len-gt-MAX_TAGS-clause-terms c = λ terms h.
    terms_past c.args.self.now.terms.items terms (value_term c.args.value.now) (omega (arith, c.len.ensures, c.args.self.now.terms.ok.0, c.if-len-gt-MAX_TAGS.true)) h
