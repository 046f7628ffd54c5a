use Rattle.std.proofs.Common.{[], sym}
use Rattle.std.proofs.lemmas.List.{append-nil}
use Rattle.split_build.specs.HeldKeys.{key_bytes}
use Rattle.split_build.proofs.terms.number_of.Goals as goal

pub returns-then-has_number-clause-grown : goal.returns-then-has_number-clause-grown
returns-then-has_number-clause-grown c = ([], sym (append-nil (key_bytes c.args.keys.now.keys)), tt)
