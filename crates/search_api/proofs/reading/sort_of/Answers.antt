use Rattle.std.proofs.Common.{None, arith}
use Rattle.std.proofs.lemmas.Str.Pattern.{strip_prefix_char}
use Rattle.search_api.proofs.Sorting.{plain_sort}
use Rattle.search_api.proofs.reading.sort_of.Goals as goal

pub returns-in_ok-from_str-in-None : goal.returns-in_ok-from_str-in-None
returns-in_ok-from_str-in-None c =
    let lacks = strip_prefix_char 45 c.as_str.result.now None c.in-None.ensures.cases (omega arith) in
    let plain = plain_sort c.as_str.result.now lacks in
    cc (c.in_ok-from_str-in-None.ensures, c.as_str-in-None.ensures)
