use Rattle.std.proofs.Common.{sym}
use Rattle.std.specs.Prelude.{string_bytes}
use Rattle.split_build.proofs.CellLemmas.{text_found, texts_inserted, text_stored}
use Rattle.split_build.proofs.SaidLemmas.{eq_same}
use Rattle.split_build.proofs.columns.text_place.Goals as goal

pub returns-in-Some-clause-place : goal.returns-in-Some-clause-place
returns-in-Some-clause-place c =
    text_found _ c.args.texts.now.keys c.args.text.now c.in-Some.place (λ k e. eq_same c.args.text.now (string_bytes k) e) (sym c.in-Some.ensures.index)

pub returns-clause-grown : goal.returns-clause-grown
returns-clause-grown c =
    texts_inserted c.args.texts.now.keys c.insert_full.new.self.keys c.in_ok-from_str.field-0 c.args.text.now c.in_ok-from_str.ensures.ok c.in_ok-place.ensures.keys

pub returns-clause-place : goal.returns-clause-place
returns-clause-place c = text_stored c.insert_full.new.self.keys c.in_ok-from_str.field-0 c.in_ok-place.ensures.stored.0 c.args.text.now _ c.in_ok-from_str.ensures.ok c.in_ok-place.ensures.stored.1 c.in_ok-place.ensures.stored.2
