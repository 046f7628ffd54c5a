use Rattle.std.proofs.Common.{SFits, w64, refl, rules}
use Rattle.std.proofs.lemmas.Int.{to_z-of_z}
use Rattle.meta_store.proofs.planning.is_from.Goals as goal

pub returns-in-Some : goal.returns-in-Some
returns-in-Some c =
    let start : SFits w64 c.in-Some.start = search rules in
    rw (c.in-Some.is, to_z-of_z w64 c.in-Some.start start, to_z-of_z w64 c.args.second c.ranges.second) refl
