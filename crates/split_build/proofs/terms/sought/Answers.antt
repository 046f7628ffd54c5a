use Rattle.std.proofs.Common.{◌≡◌, sym, Some}
use Rattle.std.specs.Prelude.{slice_get}
use Rattle.split_build.specs.HeldKeys.{key_bytes}
use Rattle.split_build.proofs.SaidLemmas.{key_found, key_stored, keys_inserted, narrowed, on_ok}
use Rattle.split_build.proofs.terms.sought.Goals as goal

pub returns-in-Some-clause-number : goal.returns-in-Some-clause-number
returns-in-Some-clause-number c =
    narrowed c.narrow.result c.in-Some.number (λ n. slice_get (key_bytes c.args.keys.now.keys) n ≡ Some c.args.key.now) c.narrow.ensures (key_found c.args.keys.now.keys c.args.key.now c.in-Some.number (sym c.in-Some.ensures.index))

pub returns-clause-grown : goal.returns-clause-grown
returns-clause-grown c =
    on_ok c.narrow-2.result _ (keys_inserted c.args.keys.now.keys c.insert_full.new.self.keys c.in_ok-from_slice.field-0 c.args.key.now c.in_ok-from_slice.ensures.items c.in_ok-number.ensures.keys)

pub returns-clause-number : goal.returns-clause-number
returns-clause-number c =
    narrowed c.narrow-2.result c.in_ok-number.number (λ n. slice_get (key_bytes c.insert_full.new.self.keys) n ≡ Some c.args.key.now) c.narrow-2.ensures
    (key_stored c.insert_full.new.self.keys c.in_ok-from_slice.field-0 c.in_ok-number.ensures.stored.0 c.args.key.now c.in_ok-number.number c.in_ok-from_slice.ensures.items c.in_ok-number.ensures.stored.1 c.in_ok-number.ensures.stored.2)
