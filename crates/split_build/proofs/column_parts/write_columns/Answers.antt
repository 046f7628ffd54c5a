use Rattle.std.proofs.Common.{◌≡◌, ◌∙◌, ◌++◌, ◌∷◌, [], List, ℕ, ap, sym, subst, length, arith}
use Rattle.std.proofs.Math.Logic.{∥∥₁_elim, ∥∥₁_map}
use Rattle.std.proofs.lemmas.List.{nil_from_length}
use Rattle.split_bundle.specs.declared.layout.ColumnStart.{ColumnStart}
use Rattle.fast_fields.specs.Columns.{cells}
use Rattle.split_bundle.specs.Columns.{column_rows}
use Rattle.split_build.proofs.ColumnLemmas.{AreWritten, none_written, next_of, log_within, can_write, written_one, all_written}
use Rattle.split_build.proofs.Mere.{lt_prop}
use Rattle.split_build.proofs.column_parts.write_columns.Goals as goal

pub loop-log-init : goal.loop-log-init
loop-log-init c = λ ds are h.
    subst (λ (l : List ℕ). AreWritten c.args.schema.now ds c.new-starts.result.items l c.args.logs.now) (sym c.new-bytes.ensures.items)
    (subst (λ (l : List ColumnStart). AreWritten c.args.schema.now ds l [] c.args.logs.now) (sym c.new-starts.ensures.items) (none_written c.args.schema.now ds c.args.logs.now h))

pub at-requires : goal.at-requires
at-requires c = ∥∥₁_elim c.requires (lt_prop _ _) (λ r.
    let next = next_of c.args.schema.now r.0 c.loop-log.starts.items c.loop-log.bytes.items c.loop-log.rest.now c.in-Some.log.now c.in-Some.behind.now c.in-Some.ensures.cases.0 (c.loop-log.invariant r.0 r.1 r.2) in
    log_within c.args.schema.now r.0 c.loop-log.starts.items c.loop-log.bytes.items c.in-Some.log.now c.in-Some.behind.now next)

pub put_log-requires : goal.put_log-requires
put_log-requires c = ∥∥₁_map c.requires (λ r.
    let next = next_of c.args.schema.now r.0 c.loop-log.starts.items c.loop-log.bytes.items c.loop-log.rest.now c.in-Some.log.now c.in-Some.behind.now c.in-Some.ensures.cases.0 (c.loop-log.invariant r.0 r.1 r.2) in
    (cells (column_rows next.f.number r.0), can_write c.args.schema.now r.0 c.loop-log.starts.items c.loop-log.bytes.items c.in-Some.log.now c.in-Some.behind.now c.at.result.now r.1 next c.at.ensures))

pub loop-log-preserved : goal.loop-log-preserved
loop-log-preserved c = λ ds are h.
    let next = next_of c.args.schema.now ds c.loop-log.starts.items c.loop-log.bytes.items c.loop-log.rest.now c.in-Some.log.now c.in-Some.behind.now c.in-Some.ensures.cases.0 (c.loop-log.invariant ds are h) in
    let size : c.len.result ≡ length c.loop-log.bytes.items = omega (arith, c.len.ensures, c.loop-log.bytes.ok.0) in
    written_one c.args.schema.now ds c.loop-log.starts.items c.loop-log.bytes.items c.in-Some.log.now c.in-Some.behind.now c.at.result.now c.put_log.new.out.items c.push.new.self.items next c.at.ensures
    (c.in_ok-put_log.ensures (cells (column_rows next.f.number ds)) (can_write c.args.schema.now ds c.loop-log.starts.items c.loop-log.bytes.items c.in-Some.log.now c.in-Some.behind.now c.at.result.now are next c.at.ensures))
    (c.in_ok-push.ensures.items ∙ ap (λ (n : ℕ). c.loop-log.starts.items ++ record { number = c.in-Some.log.now.number; start = n } ∷ []) size)

pub returns : goal.returns
returns c = λ ds are h.
    all_written c.args.schema.now ds c.loop-log.starts.items c.loop-log.bytes.items c.loop-log.rest.now (nil_from_length c.loop-log.rest.now c.in_default.ensures.cases) (c.loop-log.invariant ds are h)
