use Rattle.std.proofs.Common.{Ok, ap, sym, ◌∙◌}
use Rattle.serde_json.specs.View.{view}
use Rattle.doc_mapping.proofs.Answering.{ended}
use Rattle.doc_mapping.proofs.accepting.accept_object.Goals as goal

pub returns-in-Ok-None : goal.returns-in-Ok-None
returns-in-Ok-None c =
    ended c.args.config.now (view c.args.value) c.requires.object.0 c.requires.object.1 (sym c.requires.shallow) c.args.finder.now.regular c.in-Ok.begun.0 c.in-Ok.begun.1.items c.record_fault-fault.new.parts.items
    c.doc_by-doc.result c.record_fault-fault.result c.whole.result c.in-Ok.ensures.found c.in-Ok.ensures.empty c.requires.rising c.record_fault-fault.ensures.fault c.record_fault-fault.ensures.gathers
    (c.in-Ok-None.is ∙ ap Ok c.in-Ok-None.field-0-is) c.doc_by-doc.ensures (c.whole.ensures (view c.args.value) c.requires.texts)
