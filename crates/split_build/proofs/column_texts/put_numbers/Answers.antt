use Rattle.std.proofs.Common.{[], List, sym, subst}
use Rattle.std.proofs.Math.Logic.{∥∥₁_elim}
use Rattle.fast_fields.specs.Columns.{Fits, IsSpelled, has_texts}
use Rattle.fast_fields.specs.declared.entries.Entry.{Entry}
use Rattle.split_build.specs.HeldColumns.{texts_of}
use Rattle.split_build.proofs.CellLemmas.{fit, put_plain}
use Rattle.split_build.proofs.Mere.{fits_prop}
use Rattle.split_build.proofs.column_texts.put_numbers.Goals as goal

pub put_column-requires : goal.put_column-requires
put_column-requires c =
    subst (λ (es : List Entry). Fits es) (sym c.deref.ensures.value)
    (∥∥₁_elim c.requires.can (fits_prop c.args.log.now.entries.items) (λ r. fit (texts_of c.args.log.now.texts.keys) r.1.document r.0 c.args.log.now.entries.items r.1.few r.1.cells_are))

pub returns : goal.returns
returns c = λ cs can.
    let put = c.in_ok-put_column.ensures in
    put_plain c.args.field.now.kind c.args.log.now cs c.args.out.now.items c.put_column.new.area.items put.0 c.requires.plain can put.1
    (subst (λ (es : List Entry). IsSpelled (has_texts c.args.field.now.kind) [] es put.0) c.deref.ensures.value put.2)
