use Rattle.std.proofs.Common.{◌≡◌, ℕ, List, Some, cond, arith}
use Rattle.std.proofs.lemmas.Map.Text.{text_keys}
use Rattle.std.proofs.lemmas.Slice.Eq.{bytes_eq-Decides}
use Rattle.std.specs.HashMap.{get_by_text}
use Rattle.std.specs.Str.{bytes_eq}
use Rattle.agg_nested.proofs.Joining.{ok_then, put_joined}
use Rattle.agg_nested.proofs.group_maps.join_text.Goals as goal

pub returns-in-Some : goal.returns-in-Some
returns-in-Some c =
    let was : get_by_text c.args.groups.now c.args.text.now ≡ Some c.in-Some.group.now = grind (arith, text_keys) in
    let step : (q : List ℕ) → get_by_text (c.get_mut.follows.lender c.join.new.group) q ≡ cond (bytes_eq c.args.text.now q) (Some c.join.new.group) (get_by_text c.args.groups.now q) = λ q. grind (arith, text_keys) in
    ok_then c.join.result
    (put_joined (bytes_eq c.args.text.now) c.args.text.now c.args.nested.now c.args.other.now (get_by_text c.args.groups.now) (get_by_text (c.get_mut.follows.lender c.join.new.group)) c.in-Some.group.now c.join.new.group
    (λ q. (bytes_eq-Decides c.args.text.now q).0) was step)
    c.join.ensures
