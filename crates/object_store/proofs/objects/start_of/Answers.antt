use Rattle.std.proofs.Common.{◌≡◌, ℕ, List, [], Option, take, filter, sym, ap, subst}
use Rattle.std.specs.Option.{option_copied}
use Rattle.object_store.specs.Store.{is_wanted}
use Rattle.object_store.proofs.Entries.{keys_of}
use Rattle.object_store.proofs.Starts.{none_before_prefix, none_before_after, at_greater}
use Rattle.object_store.proofs.objects.start_of.Goals as goal

pub returns-in-None-clause-passed : goal.returns-in-None-clause-passed
returns-in-None-clause-passed c =
    none_before_prefix c.args.prefix.now (option_copied c.args.after) (take c.count_before-prefixed.result c.args.objects.now) c.count_before-prefixed.ensures.before

pub returns-in-Some-clause-passed : goal.returns-in-Some-clause-passed
returns-in-Some-clause-passed c =
    let passed : ℕ → Type 0 = λ n. filter (is_wanted c.args.prefix.now (option_copied c.args.after)) (keys_of (take n c.args.objects.now)) ≡ [] in
    let behind : passed c.count_before.result =
    subst (λ (o : Option (List ℕ)). filter (is_wanted c.args.prefix.now o) (keys_of (take c.count_before.result c.args.objects.now)) ≡ []) (sym (ap option_copied c.in-Some.is))
    (none_before_after c.args.prefix.now c.in-Some.after.now (take c.count_before.result c.args.objects.now) c.count_before.ensures.before) in
    let prefixed : passed c.count_before-prefixed.result =
    none_before_prefix c.args.prefix.now (option_copied c.args.after) (take c.count_before-prefixed.result c.args.objects.now) c.count_before-prefixed.ensures.before in
    subst passed (sym c.max.ensures) (at_greater passed c.count_before-prefixed.result c.count_before.result prefixed behind)
