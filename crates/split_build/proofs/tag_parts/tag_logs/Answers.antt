use Rattle.std.proofs.Common.{◌≡◌, ◌+◌, ◌++◌, ◌∷◌, [], List, ℕ, suc, ap, sym, subst, length, arith, Vec}
use Rattle.std.specs.declared.alloc.Global.{Global}
use Rattle.std.proofs.lemmas.List.{append-nil}
use Rattle.doc_value.specs.declared.schema.Field.{Field}
use Rattle.split_build.specs.declared.tags.TagLog.{TagLog}
use Rattle.split_build.specs.HeldTags.{HasTags, HasTermsOf}
use Rattle.split_bundle.specs.Tagged.{tag_numbers}
use Rattle.split_build.proofs.OnWay.{IsOnWay, go_on}
use Rattle.split_build.proofs.Zipped.{zip_push}
use Rattle.split_build.proofs.TagLemmas.{tag_yes, tag_no}
use Rattle.split_build.proofs.tag_parts.tag_logs.Goals as goal
use Rattle.split_build.proofs.tag_parts.tag_logs.Goals.{then-field+in_ok-push, else-field}

pub loop-field-preserved : goal.loop-field-preserved
loop-field-preserved c =
    let next : c.loop-field.number + 1 ≡ suc c.loop-field.number = omega arith in
    record {
      count = omega (arith, c.loop-field.invariant.count, ap (λ (fs : List Field). length fs) c.in-Some.ensures.cases.0);
      logs = elim c.if-field.branch [
        | then-field+in_ok-push w ↦
            let terms : HasTermsOf [] c.loop-field.number w.vacant.result = record { number_is = w.vacant.ensures.number; terms = w.vacant.ensures.terms } in
            subst (λ (v : Vec TagLog Global). IsOnWay {X = ℕ} (λ ns. HasTags [] ns v.items) (tag_numbers (c.loop-field.number + 1) c.in-Some.behind.now) (tag_numbers 0 c.args.schema.now.fields)) (sym w.logs-is)
            (go_on (λ (ns : List ℕ). HasTags [] ns c.loop-field.logs.items) (λ (ns : List ℕ). HasTags [] ns w.push.new.self.items) (tag_numbers c.loop-field.number c.loop-field.rest.now) (c.loop-field.number ∷ []) (tag_numbers (c.loop-field.number + 1) c.in-Some.behind.now) (tag_numbers 0 c.args.schema.now.fields)
            (tag_yes c.loop-field.number (c.loop-field.number + 1) c.in-Some.field.now c.loop-field.rest.now c.in-Some.behind.now c.in-Some.ensures.cases.0 w.if-field.true next)
            (λ ns h. subst (λ (ls : List TagLog). HasTags [] (ns ++ c.loop-field.number ∷ []) ls) (sym w.in_ok-push.ensures.items)
            (zip_push (HasTermsOf []) ns c.loop-field.logs.items c.loop-field.number w.vacant.result h terms))
            c.loop-field.invariant.logs)
        | else-field w ↦
            subst (λ (v : Vec TagLog Global). IsOnWay {X = ℕ} (λ ns. HasTags [] ns v.items) (tag_numbers (c.loop-field.number + 1) c.in-Some.behind.now) (tag_numbers 0 c.args.schema.now.fields)) (sym w.logs-is)
            (go_on (λ (ns : List ℕ). HasTags [] ns c.loop-field.logs.items) (λ (ns : List ℕ). HasTags [] ns c.loop-field.logs.items) (tag_numbers c.loop-field.number c.loop-field.rest.now) [] (tag_numbers (c.loop-field.number + 1) c.in-Some.behind.now) (tag_numbers 0 c.args.schema.now.fields)
            (tag_no c.loop-field.number (c.loop-field.number + 1) c.in-Some.field.now c.loop-field.rest.now c.in-Some.behind.now c.in-Some.ensures.cases.0 w.if-field.false next)
            (λ ns h. subst (λ (ms : List ℕ). HasTags [] ms c.loop-field.logs.items) (sym (append-nil ns)) h)
            c.loop-field.invariant.logs)
      ];
    }
