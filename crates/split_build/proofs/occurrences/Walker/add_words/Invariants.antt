use Rattle.split_build.proofs.WordWalks.{IsInWord}
use Rattle.split_build.proofs.occurrences.Walker.add_words.Given as goal

abbrev pub invariant-loop-byte : goal.invariant-loop-byte
invariant-loop-byte l = IsInWord l.initial.terms l.terms l.kept l.number l.document l.value l.position l.byte-index l.self.key.items l.text
