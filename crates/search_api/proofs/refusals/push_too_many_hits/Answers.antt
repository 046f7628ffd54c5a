use Rattle.std.proofs.Common.{◌∷◌, [], ◌++◌}
use Rattle.std.specs.Prelude.{codes}
use Rattle.std.specs.Fmt.{decimal}
use Rattle.doc_value.specs.Printed.{quoted}
use Rattle.search_api.specs.Replies.{pair_text, too_many_hits}
use Rattle.search_api.proofs.Objects.{two_pairs, on_same}
use Rattle.search_api.proofs.refusals.push_too_many_hits.Goals as goal

pub returns : goal.returns
unfolding too_many_hits
returns c =
    on_same c.push-2.result c.push-2.new.self (c.push_number.new.out ++ 125 ∷ []) _
    (rw (c.in_ok-push_number.ensures, c.in_ok-push_text.ensures, c.in_ok-push.ensures.ok)
    (two_pairs c.args.out.now (pair_text (codes "kind") (quoted (codes "TooManyHits"))) (pair_text (codes "wanted") (decimal c.args.wanted))))
    c.push-2.ensures.ok
