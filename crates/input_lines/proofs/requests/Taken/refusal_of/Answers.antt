use Rattle.std.proofs.Common.{◌∙◌, ap, arith, sym}
use Rattle.std.specs.BTreeMap.{is_at}
use Rattle.std.specs.Cmp.Lexicographic.{slice_cmp}
use Rattle.std.specs.List.{list_any}
use Rattle.std.specs.Ordering.{nat_cmp}
use Rattle.input_lines.proofs.Asking.{few_fits, known_fits}
use Rattle.input_lines.proofs.requests.Taken.refusal_of.Goals as goal
use Rattle.input_lines.proofs.requests.Taken.refusal_of.Goals.{else-len-ge-MAX_CLIENTS-via-then-len-ge-MAX_CLIENTS+else-not-contains, else-len-ge-MAX_CLIENTS-via-else-len-ge-MAX_CLIENTS}

pub returns-clause-room : goal.returns-clause-room
returns-clause-room c are request same = (
  omega arith,
  elim c.else-len-ge-MAX_CLIENTS.branch [
    | else-len-ge-MAX_CLIENTS-via-then-len-ge-MAX_CLIENTS+else-not-contains w ↦
        known_fits c.args.self.now.clients.keys c.args.self.now.requests.items request are
        (ap (λ name. list_any (is_at (slice_cmp nat_cmp name)) c.args.self.now.clients.keys) same ∙ sym w.if-not-contains.ensures)
    | else-len-ge-MAX_CLIENTS-via-else-len-ge-MAX_CLIENTS w ↦ few_fits c.args.self.now.clients.keys c.args.self.now.requests.items request are (omega arith)
  ],
)
