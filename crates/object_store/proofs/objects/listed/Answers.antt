use Rattle.std.proofs.Common.{ap, ◌∙◌, sym, arith, List, ℕ, length}
use Rattle.std.proofs.lemmas.List.{length_push}
use Rattle.std.specs.Option.{option_copied}
use Rattle.object_store.specs.Store.{is_wanted}
use Rattle.object_store.proofs.Entries.{full, listed_taken, listed_passed}
use Rattle.object_store.proofs.objects.listed.Goals as goal
use Rattle.object_store.proofs.objects.listed.Goals.{then-is_wanted+in_ok-push, else-is_wanted}

pub returns-then-len-max : goal.returns-then-len-max
returns-then-len-max c =
    full (is_wanted c.args.prefix.now (option_copied c.args.after)) c.args.objects.now c.loop-object.object-index c.args.max c.loop-object.keys c.loop-object.invariant.so_far (omega arith)

pub loop-object-preserved : goal.loop-object-preserved
loop-object-preserved c =
    elim c.if-is_wanted.branch [
      | then-is_wanted+in_ok-push w ↦ record {
        some = omega (arith, ap (λ (v : List (List ℕ)). length v) w.keys-is, ap (λ (v : List (List ℕ)). length v) w.in_ok-push.ensures.ok, length_push c.loop-object.keys c.object-item.result.key);
        so_far = w.keys-is
            ∙ listed_taken (is_wanted c.args.prefix.now (option_copied c.args.after)) c.args.objects.now c.loop-object.object-index c.object-item.result c.loop-object.keys w.push.new.self c.loop-object-test.true c.object-item.is
            (sym c.is_wanted.ensures ∙ w.if-is_wanted.true) w.in_ok-push.ensures.ok c.loop-object.invariant.so_far;
      }
      | else-is_wanted w ↦ record {
        some = omega (arith, ap (λ (v : List (List ℕ)). length v) w.keys-is);
        so_far = w.keys-is
            ∙ listed_passed (is_wanted c.args.prefix.now (option_copied c.args.after)) c.args.objects.now c.loop-object.object-index c.object-item.result c.loop-object.keys c.loop-object-test.true c.object-item.is
            (sym c.is_wanted.ensures ∙ w.if-is_wanted.false) c.loop-object.invariant.so_far;
      }
    ]
