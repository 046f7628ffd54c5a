use Rattle.std.proofs.Common.{Some, None, arith}
use Rattle.std.proofs.lemmas.Str.Pattern.{split_parts}
use Rattle.doc_mapping.proofs.Splitting.{at-name, at-inner, at-nothing}
use Rattle.doc_mapping.proofs.documents.+value_at.Goals as goal

pub returns-in-None : goal.returns-in-None
returns-in-None t c =
    let lacks = split_parts 46 c.args.path.now None c.in-None.ensures.cases (omega arith) in
    at-name c.args.path.now _ _ lacks c.get.ensures

pub returns-in-Some-get : goal.returns-in-Some-get
returns-in-Some-get t c =
    let parts = split_parts 46 c.args.path.now (Some (c.in-Some.name, c.in-Some.rest)) c.in-Some.ensures.cases (omega arith) in
    at-inner c.args.path.now c.in-Some.name.now c.in-Some.rest.now _ _ _ parts.0 parts.1 c.in-Some-get.ensures c.value_at.ensures

pub returns-in-None-get : goal.returns-in-None-get
returns-in-None-get t c =
    let parts = split_parts 46 c.args.path.now (Some (c.in-Some.name, c.in-Some.rest)) c.in-Some.ensures.cases (omega arith) in
    at-nothing c.args.path.now c.in-Some.name.now c.in-Some.rest.now _ parts.0 parts.1 c.in-None-get.ensures
