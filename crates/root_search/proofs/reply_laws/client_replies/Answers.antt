use Rattle.root_search.proofs.Replied.{did_all, did_reply, never_fall}
use Rattle.root_search.proofs.reply_laws.client_replies.Goals as goal

pub returns-clause-replied : goal.returns-clause-replied
returns-clause-replied g c = did_reply g.G.Gate.Between g.met.G.Gate.between_goes

pub returns-clause-all : goal.returns-clause-all
returns-clause-all g c = did_all g.G.Gate.Between

pub returns-clause-rises : goal.returns-clause-rises
returns-clause-rises g c = never_fall
