use Rattle.std.proofs.Common.{◌≡◌, ◌-◌, List, [], length, sym, ap, subst, ◌∙◌, filter, take, drop}
use Rattle.std.specs.FinMap as finmap
use Rattle.object_store.specs.declared.objects.Object.{Object}
use Rattle.object_store.specs.Entries.{entries}
use Rattle.object_store.specs.Shelved.{Shelved}
use Rattle.object_store.specs.Store.{is_wanted}
use Rattle.std.specs.Option.{option_copied}
use Rattle.object_store.proofs.Entries.{keys_of}
use Rattle.object_store.proofs.Starts.{to_end, listed_from}
use Rattle.object_store.proofs.States.{keys_of as all_keys}
use Rattle.object_store.proofs.shelf.Shelf.list.Goals as goal

pub returns-in-Ok-clause-keys : goal.returns-in-Ok-clause-keys
returns-in-Ok-clause-keys c =
    let p = is_wanted c.args.prefix.now (option_copied c.args.after) in
    let held = c.self.inside.held.items in
    let passed : filter p (keys_of (take c.start_of-start.result held)) ≡ [] =
    subst (λ (os : List Object). filter p (keys_of (take c.start_of-start.result os)) ≡ []) c.deref.ensures.value c.start_of-start.ensures.passed in
    let rest : take (length c.deref-2.result.now - c.start_of-start.result) (drop c.start_of-start.result c.deref-2.result.now) ≡ drop c.start_of-start.result held =
    to_end c.deref-2.result.now c.start_of-start.result ∙ ap (drop c.start_of-start.result) c.deref-2.ensures.value in
    c.in-Ok.ensures
    ∙ ap (λ (os : List Object). take c.args.max (filter p (keys_of os))) rest
    ∙ ap (take c.args.max)
    (listed_from p held c.start_of-start.result passed ∙ ap (filter p) (sym (all_keys (entries held) c.self.invariant) ∙ ap (λ (s : Shelved). finmap.keys s.objects) c.self.view_is))
