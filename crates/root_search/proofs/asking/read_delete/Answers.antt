use Rattle.std.proofs.Common.{◌∙◌}
use Rattle.root_search.proofs.ReadTexts.{ask_is}
use Rattle.root_search.proofs.asking.read_delete.Goals as goal

pub returns : goal.returns
returns c = record {
  same = ask_is c.args.deletion.now c.in_ok-text.text c.in_ok-fields.fields c.in_ok-text.ensures.same (c.in_ok-fields.ensures.same ∙ c.as_slice.ensures);
  can = record { text = c.in_ok-text.ensures.can; fields = c.in_ok-fields.ensures.can };
}
