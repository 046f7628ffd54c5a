use Rattle.std.proofs.Common.{◌≡◌, drop}
use Rattle.search_api.specs.Resolved.{text_numbers}
use Rattle.search_api.proofs.Numbered.{behind}
use Rattle.search_api.proofs.resolving.text_numbers.Given as goal

abbrev pub invariant-loop-path : goal.invariant-loop-path
invariant-loop-path l = text_numbers l.fields l.paths ≡ behind l.numbers (text_numbers l.fields (drop l.path-index l.paths))
