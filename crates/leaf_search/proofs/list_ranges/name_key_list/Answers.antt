use Rattle.std.proofs.Common.{◌≡◌, Some, None}
use Rattle.term_dict.specs.Terms.{lookup}
use Rattle.split_bundle.specs.Lists.{terms_of}
use Rattle.leaf_search.proofs.ListParts.{no_list}
use Rattle.leaf_search.proofs.list_ranges.name_key_list.Goals as goal

pub returns-in_ok-name_list-in-Some-clause-only : goal.returns-in_ok-name_list-in-Some-clause-only
returns-in_ok-name_list-in-Some-clause-only c = λ s documents p is.
    let key = c.args.key.now in
    let same = c.in_ok-info.ensures.only s documents p is in
    let some = c.in-Some.is in
    let found : lookup key (terms_of s documents p.keys) ≡ Some c.in-Some.info = cc in
    c.in_ok-name_list-in-Some.ensures s documents p key is found

pub returns-in-None-clause-only : goal.returns-in-None-clause-only
returns-in-None-clause-only c = λ s documents p is.
    let key = c.args.key.now in
    let same = c.in_ok-info.ensures.only s documents p is in
    let none = c.in-None.is in
    let found : lookup key (terms_of s documents p.keys) ≡ None = cc in
    no_list c.args.part.now s documents p key c.args.ranges.now found

pub returns-in_ok-name_list-in-Some-clause-read : goal.returns-in_ok-name_list-in-Some-clause-read
returns-in_ok-name_list-in-Some-clause-read c = (_, c.in_ok-info.ensures.exact)

pub returns-in-None-clause-read : goal.returns-in-None-clause-read
returns-in-None-clause-read c = (_, c.in_ok-info.ensures.exact)
