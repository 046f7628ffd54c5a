use Rattle.term_dict.proofs.Places.{place_is}
use Rattle.term_dict.proofs.dict.Dict.place_of.Goals as goal

pub returns-clause-only : goal.returns-clause-only
returns-clause-only c terms d =
    let w = c.in_ok-start.ensures.only terms d in
    place_is c.scan.result c.args.self.now.area.now terms c.args.key.now c.in_ok-start.start c.in_ok-start.end w c.scan.ensures.within (c.scan.ensures.only w.inside w.inside_terms w.inside_bytes)
