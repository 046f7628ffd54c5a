use Rattle.root_search.proofs.Puts.{put_more}
use Rattle.root_search.proofs.footers.put.Goals as goal

pub returns : goal.returns
returns c = put_more c.args.cache.now c.put-put.new.self c.args.number c.args.footer c.put-put.result c.put-put.ensures.entries c.put-put.ensures.err
