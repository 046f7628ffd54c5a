use Rattle.std.proofs.Common.{◌∙◌, ap, sym, Option, Result, Ok}
use Rattle.byte_fields.specs.declared.corrupt.Corrupt.{Corrupt}
use Rattle.term_dict.specs.declared.term.TermInfo.{TermInfo}
use Rattle.term_dict.proofs.Places.{lookup_inside}
use Rattle.term_dict.proofs.dict.Dict.find.Goals as goal

abbrev found : Option TermInfo → Result (Option TermInfo) Corrupt
found o = Ok o

pub returns-clause-only : goal.returns-clause-only
returns-clause-only c terms d =
    let w = c.in_ok-start.ensures.only terms d in
    c.find_from.ensures.only w.inside w.inside_terms w.inside_bytes ∙ ap found (sym (lookup_inside c.args.self.now.area.now terms c.args.key.now c.in_ok-start.start c.in_ok-start.end w))
