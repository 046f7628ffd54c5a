use Rattle.std.proofs.Common.{◌≡◌, true, false, sym, ◌∙◌, ◌++◌, ◌∷◌, [], Some}
use Rattle.split_merge.specs.Terms.{HasJoined, IsJoinedUpTo}
use Rattle.split_merge.proofs.UpToLemmas.{none_said_of, ok_map, rises_on, some_said_of, up_to_less, up_to_more}
use Rattle.split_merge.proofs.terms.JoinedTerms.take.Goals as goal

pub returns-then-is_empty-clause-taken : goal.returns-then-is_empty-clause-taken
returns-then-is_empty-clause-taken c = λ s ds last kept h past next so_far. record {
  keys = so_far.keys;
  are = up_to_less s ds last so_far.keys c.args.key.now so_far.are past next (none_said_of s c.args.key.now ds c.args.kept c.args.list.now h (c.is_empty.ensures.0 c.if-is_empty.true));
  written = so_far.written;
}

pub returns-clause-taken : goal.returns-clause-taken
returns-clause-taken c = λ s ds last kept h past next so_far.
    let stands = some_said_of s c.args.key.now ds c.args.kept c.args.list.now h (λ none. let wrong : true ≡ false = sym (c.is_empty.ensures.1 none) ∙ c.if-is_empty.false in absurd cc) in
    let keys = so_far.keys ++ c.args.key.now ∷ [] in
    ok_map (HasJoined c.write.new.self s ds keys) (IsJoinedUpTo c.write.new.self s ds (Some c.args.key.now)) c.write.result
    (λ written. record { keys = keys; are = up_to_more s ds last so_far.keys c.args.key.now so_far.are past next stands; written = written })
    (c.write.ensures.written s ds so_far.keys kept h so_far.written (rises_on s ds last so_far.keys c.args.key.now so_far.are past))
