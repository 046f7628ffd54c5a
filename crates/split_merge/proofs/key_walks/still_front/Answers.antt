use Rattle.std.proofs.Common.{◌∙◌, Option, sym, subst}
use Rattle.std.specs.Option.{option_copied}
use Rattle.split_merge.specs.Walking.{WasFront}
use Rattle.split_merge.specs.declared.key_walks.Front.{Front}
use Rattle.split_merge.proofs.FrontLemmas.{still_at}
use Rattle.split_merge.proofs.key_walks.still_front.Goals as goal

pub returns-then-is_alone : goal.returns-then-is_alone
returns-then-is_alone c =
    let was = subst (λ (o : Option Front). WasFront o c.args.walks.now) c.in-Some.is c.requires in
    let before = c.in-Some.before in
    let w = c.index-walks-before.result in
    still_at before.walk c.in-Some-key.key.now (option_copied before.bound) c.args.walks.now w w was.0 c.index-walks-before.is (sym c.in-Some-key.ensures) (sym c.is_alone.ensures ∙ c.if-is_alone.true) was.1
