use Rattle.std.proofs.Common.{◌∙◌, ℕ, Vec, Bor, sym, ap}
use Rattle.std.specs.Option.{option_copied}
use Rattle.std.specs.Prelude.{Option}
use Rattle.std.specs.declared.alloc.Global.{Global}
use Rattle.split_build.proofs.SaidLemmas.{key_known}
use Rattle.split_build.proofs.terms.has_number.Goals as goal

pub returns-in-Some : goal.returns-in-Some
returns-in-Some c = λ same.
    key_known c.args.keys.now.keys c.args.number c.in-Some.known.now c.as_slice.result.now c.args.key.now
    (sym c.get_index.ensures.key ∙ ap (λ (o : Option (Bor (Vec ℕ Global))). option_copied o) c.in-Some.is) c.as_slice.ensures.value (sym c.eq.ensures ∙ same)
