use Rattle.std.proofs.Common.{[], ℕ, Option, ap, sym}
use Rattle.std.specs.Option.{option_map_or}
use Rattle.lru.specs.LruCache.{LruCache}
use Rattle.split_bundle.specs.declared.footer.Footer.{Footer}
use Rattle.root_search.specs.Footers.{entries}
use Rattle.root_search.proofs.Puts.{first_more, keeps_as}
use Rattle.root_search.proofs.footers.Footers.keep.Goals as goal

pub returns-in-Some : goal.returns-in-Some
returns-in-Some c =
    keeps_as c.in-Some.cache.entries (entries c.args.self.now) c.put.new.cache.entries c.args.number c.in-Ok.copy c.args.footer.now
    (ap (λ (o : Option (LruCache ℕ Footer)). option_map_or (λ cache. cache.entries) o []) (sym c.in-Some.is)) c.in-Ok.ensures c.put.ensures

pub returns-in-None : goal.returns-in-None
returns-in-None c =
    keeps_as [] (entries c.args.self.now) (entries (record { cache = c.first_kept.result })) c.args.number c.in-Ok.copy c.args.footer.now
    (ap (λ (o : Option (LruCache ℕ Footer)). option_map_or (λ cache. cache.entries) o []) (sym c.in-None.is)) c.in-Ok.ensures
    (first_more c.args.number c.in-Ok.copy c.first_kept.result c.first_kept.ensures)
