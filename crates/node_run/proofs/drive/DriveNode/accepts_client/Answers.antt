use Rattle.std.proofs.Common.{◌∙◌, sym, length, arith}
use Rattle.std.specs.Prelude.{nat_lt}
use Rattle.node_run.specs.Standing.{is_known}
use Rattle.root_search.specs.Searching.{SearcherStands}
use Rattle.node_run.specs.Named.{names_of}
use Rattle.node_run.proofs.Names.{unknown_any, known_any, none_is, some_is}
use Rattle.node_run.proofs.Parts.{too_many_known, few_known, is_known_yes}
use Rattle.node_run.proofs.Places.{as_many, named_at, not_named}
use Rattle.node_run.proofs.Zips.{zip_length}
use Rattle.node_run.proofs.drive.DriveNode.accepts_client.Goals as goal
use Rattle.node_run.proofs.drive.DriveNode.accepts_client.Goals.{else-len-ge-MAX_CLIENTS-via-then-len-ge-MAX_CLIENTS+else-is_none, else-len-ge-MAX_CLIENTS-via-else-len-ge-MAX_CLIENTS}

pub returns-then-is_none : goal.returns-then-is_none
returns-then-is_none g c = λ firsts node p.
    let same = zip_length (λ searcher client. SearcherStands searcher client node.core node.log) c.args.self.now.clients.items node.clients p.clients in
    too_many_known (length node.clients) _ (omega (arith, same, c.if-len-ge-MAX_CLIENTS.true, c.args.self.now.clients.ok.0))
    (unknown_any node.core node.log c.args.client.now c.args.self.now.clients.items node.clients
    (not_named node.core node.log c.args.client.now c.args.self.now.clients.items node.clients p.clients
    (sym (c.place_of.ensures.exact (names_of node.clients)
    (as_many node.core node.log c.args.self.now.clients.items c.as_slice.result.now node.clients c.as_slice.ensures.value p.clients) p.placed)
    ∙ none_is c.place_of.result c.if-is_none.ensures)) p.clients)

pub returns : goal.returns
returns g c = λ firsts node p.
    let same = zip_length (λ searcher client. SearcherStands searcher client node.core node.log) c.args.self.now.clients.items node.clients p.clients in
    elim c.else-len-ge-MAX_CLIENTS.branch [
      | else-len-ge-MAX_CLIENTS-via-then-len-ge-MAX_CLIENTS+else-is_none w ↦
          let found = some_is w.place_of.result w.is_none.result w.is_none.ensures w.if-is_none.false in
          is_known_yes (nat_lt (length node.clients) 10000) (is_known c.args.client.now node.clients)
          (known_any node.core node.log c.args.client.now c.args.self.now.clients.items node.clients found.0
          (named_at node.core node.log c.args.client.now c.args.self.now.clients.items node.clients found.0 p.clients
          (sym (w.place_of.ensures.exact (names_of node.clients)
          (as_many node.core node.log c.args.self.now.clients.items w.as_slice.result.now node.clients w.as_slice.ensures.value p.clients) p.placed)
          ∙ found.1)) p.clients)
      | else-len-ge-MAX_CLIENTS-via-else-len-ge-MAX_CLIENTS w ↦ few_known (length node.clients) _ (omega (arith, same, w.if-len-ge-MAX_CLIENTS.false, c.args.self.now.clients.ok.0))
    ]
