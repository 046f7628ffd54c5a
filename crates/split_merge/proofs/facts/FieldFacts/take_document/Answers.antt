use Rattle.std.proofs.Common.{ℕ, [], refl, sym, ◌∙◌}
use Rattle.split_merge.specs.Scanning.{holding}
use Rattle.split_merge.proofs.ScanLemmas.{document_taken, end_stop, fields_fail, head_stop, scan_fails, scan_stop}
use Rattle.split_merge.proofs.facts.FieldFacts.take_document.Goals as goal

pub returns-then-end-bytes-clause-exact : goal.returns-then-end-bytes-clause-exact
returns-then-end-bytes-clause-exact c = λ s ds h.
    document_taken c.args.fields.now c.args.bytes.now c.take_fields.new.self s ds c.in-Ok.head c.in-Ok-take_fields.end c.in-Ok.ensures.found c.in-Ok.ensures.small (sym c.in-Ok.ensures.exact)
    (c.in-Ok-take_fields.ensures.exact s ds (c.in_ok-begin.ensures s ds (holding []) refl h)) c.if-end-bytes.true

pub returns-else-end-bytes-clause-exact : goal.returns-else-end-bytes-clause-exact
returns-else-end-bytes-clause-exact c = λ s ds h.
    let taken = c.in-Ok-take_fields.ensures.exact s ds (c.in_ok-begin.ensures s ds (holding []) refl h) in
    scan_stop {X = ℕ} (λ n r. Unit {0}) c.bad_document.result _ (record { at = taken.0.1 }) c.bad_document.ensures
    (end_stop c.args.fields.now c.args.bytes.now c.in-Ok.head taken.0 (sym c.in-Ok.ensures.exact) taken.1 (λ end. c.if-end-bytes.false (taken.2.next_is ∙ end)))

pub returns-in-Err-take_fields-clause-exact : goal.returns-in-Err-take_fields-clause-exact
returns-in-Err-take_fields-clause-exact c = λ s ds h.
    scan_fails {X = ℕ} {V = ℕ} (λ n r. Unit {0}) (λ n r. Unit {0}) c.in-Err-take_fields.fault _ _ (λ e read. fields_fail c.args.fields.now c.args.bytes.now c.in-Ok.head e (sym c.in-Ok.ensures.exact) read)
    (c.in-Err-take_fields.ensures.exact s ds (c.in_ok-begin.ensures s ds (holding []) refl h))

pub returns-in-Err-clause-exact : goal.returns-in-Err-clause-exact
returns-in-Err-clause-exact c = λ s ds h.
    scan_stop {X = ℕ} (λ n r. Unit {0}) c.bad_document-in-Err.result _ c.in-Err._fault c.bad_document-in-Err.ensures (head_stop c.args.fields.now c.args.bytes.now c.in-Err._fault (sym c.in-Err.ensures.exact))
