use Rattle.std.proofs.Common.{◌∙◌, ◌++◌, ◌∷◌, [], List, ap, subst}
use Rattle.std.proofs.lemmas.List.{nil_from_length}
use Rattle.doc_value.specs.declared.doc.Value.{Value}
use Rattle.doc_value.specs.Documents.{values_in}
use Rattle.fast_fields.specs.Columns.{Cell, cells_of}
use Rattle.split_build.specs.HeldColumns.{HasCells, texts_of}
use Rattle.split_build.proofs.OnWay.{IsOnWay, begin, go_on, arrive}
use Rattle.split_build.proofs.columns.ColumnLog.add.Goals as goal

pub loop-value-init : goal.loop-value-init
loop-value-init c = record {
  number = λ _. c.args.self.now.number;
  cells = λ cs h.
      subst (λ (vs : List Value). IsOnWay {X = Cell} (λ ds. HasCells (texts_of c.args.self.now.texts.keys) c.args.document ds c.args.self.now.entries.items) (cells_of c.args.document c.values_in-rest.result.now) (cs ++ cells_of c.args.document vs)) c.values_in-rest.ensures
      (begin (λ (ds : List Cell). HasCells (texts_of c.args.self.now.texts.keys) c.args.document ds c.args.self.now.entries.items) cs (cells_of c.args.document c.values_in-rest.result.now) h);
}

pub loop-value-preserved : goal.loop-value-preserved
loop-value-preserved c = record {
  number = c.in_ok-add_value.ensures.number ∙ c.loop-value.invariant.number;
  cells = λ cs h.
      go_on (λ (ds : List Cell). HasCells (texts_of c.loop-value.self.texts.keys) c.args.document ds c.loop-value.self.entries.items) (λ (ds : List Cell). HasCells (texts_of c.add_value.new.self.texts.keys) c.args.document ds c.add_value.new.self.entries.items)
      (cells_of c.args.document c.loop-value.rest.now) (record { document = c.args.document; value = c.in-Some.value.now } ∷ []) (cells_of c.args.document c.in-Some.behind.now) (cs ++ cells_of c.args.document (values_in c.args.doc.now c.args.self.now.number))
      (ap (λ (vs : List Value). cells_of c.args.document vs) c.in-Some.ensures.cases.0) c.in_ok-add_value.ensures.cells (c.loop-value.invariant.cells cs h);
}

pub returns-clause-cells : goal.returns-clause-cells
returns-clause-cells c = λ cs h.
    arrive (λ (ds : List Cell). HasCells (texts_of c.loop-value.self.texts.keys) c.args.document ds c.loop-value.self.entries.items) (cells_of c.args.document c.loop-value.rest.now) (cs ++ cells_of c.args.document (values_in c.args.doc.now c.args.self.now.number))
    (ap (λ (vs : List Value). cells_of c.args.document vs) (nil_from_length c.loop-value.rest.now c.in_default.ensures.cases)) (c.loop-value.invariant.cells cs h)
