use Rattle.std.proofs.Common.{◌≡◌, None, sym, subst}
use Rattle.term_dict.specs.Terms.{lookup}
use Rattle.split_bundle.specs.Lists.{terms_of}
use Rattle.doc_sets.specs.Seeking.{CanSeek}
use Rattle.doc_sets.proofs.Dictionary.{no_document}
use Rattle.doc_sets.proofs.SeekLaws.{none_posted}
use Rattle.doc_sets.proofs.places.key_cursor.Goals as goal

pub returns-in-None : goal.returns-in-None
returns-in-None c = λ s documents p is kept.
    let key = c.args.key.now in
    let same = c.in_ok-info.ensures.only s documents p is in
    let none = c.in-None.is in
    let found : lookup key (terms_of s documents p.keys) ≡ None = cc in
    subst (λ l. CanSeek l c.vacant_cursor.result 0) (sym (none_posted s key 0 documents (no_document s documents key p.keys is.part.is_split.keys found))) c.vacant_cursor.ensures
