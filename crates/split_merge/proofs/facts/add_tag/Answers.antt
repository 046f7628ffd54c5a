use Rattle.std.proofs.Common.{◌≡◌, ◌∙◌, ◌+◌, ◌++◌, ◌∷◌, [], ℕ, List, suc, length, sym, ap, subst, set, arith, Vec}
use Rattle.std.proofs.Math.ListN.{length-set}
use Rattle.split_build.specs.declared.tags.TagLog.{TagLog}
use Rattle.std.specs.declared.alloc.Global.{Global}
use Rattle.split_bundle.specs.declared.placed.Placed.{Placed}
use Rattle.split_build.specs.HeldTags.{HasTags, HasTermsOf}
use Rattle.split_build.proofs.Zipped.{Partly, partly_set, partly_all}
use Rattle.split_merge.specs.Lent.{Gains, value_of}
use Rattle.split_merge.proofs.GainLemmas.{tag_gains, tag_stays}
use Rattle.split_merge.proofs.facts.add_tag.Goals as goal
use Rattle.split_merge.proofs.facts.add_tag.Goals.{then-log-number+in_ok-add_value, else-log-number}

pub loop-i-preserved : goal.loop-i-preserved
loop-i-preserved c =
    let next : suc c.loop-i.i ≡ c.loop-i.i + 1 = omega arith in
    let changed : (log : TagLog) → ((n : ℕ) (ds : List Placed) (d e : Placed) → Gains c.args.number (value_of c.args.value) d.doc e.doc → HasTermsOf (ds ++ d ∷ []) n c.index_mut-log.result.now → HasTermsOf (ds ++ e ∷ []) n log)
    → (numbers : List ℕ) (ds : List Placed) (d e : Placed) → Gains c.args.number (value_of c.args.value) d.doc e.doc → HasTags (ds ++ d ∷ []) numbers c.args.logs.now.items
    → Partly (HasTermsOf (ds ++ e ∷ [])) (HasTermsOf (ds ++ d ∷ [])) (c.loop-i.i + 1) numbers (set c.loop-i.logs.items c.loop-i.i log) = λ log change numbers ds d e gains h.
    subst (λ (k : ℕ). Partly (HasTermsOf (ds ++ e ∷ [])) (HasTermsOf (ds ++ d ∷ [])) k numbers (set c.loop-i.logs.items c.loop-i.i log)) next
    (partly_set (HasTermsOf (ds ++ e ∷ [])) (HasTermsOf (ds ++ d ∷ [])) c.loop-i.i numbers c.loop-i.logs.items log c.index_mut-log.result.now (omega (arith, c.loop-i-test.true, c.loop-i.invariant.size))
    (λ n t. change n ds d e gains (subst (λ (l : TagLog). HasTermsOf (ds ++ d ∷ []) n l) (sym c.index_mut-log.ensures.value) t))
    (c.loop-i.invariant.logs numbers ds d e gains h)) in
    elim c.if-log-number.branch [
      | then-log-number+in_ok-add_value w ↦
          record {
            size = ap (λ (v : Vec TagLog Global). length v.items) w.logs-is ∙ length-set c.loop-i.logs.items c.loop-i.i w.add_value.new.log ∙ c.loop-i.invariant.size;
            logs = λ numbers ds d e gains h.
                subst (λ (v : Vec TagLog Global). Partly (HasTermsOf (ds ++ e ∷ [])) (HasTermsOf (ds ++ d ∷ [])) (c.loop-i.i + 1) numbers v.items) (sym w.logs-is)
                (changed w.add_value.new.log (λ n ds d e gains t. tag_gains c.args.number (value_of c.args.value) ds d e gains n c.index_mut-log.result.now w.add_value.new.log w.if-log-number.true w.in_ok-add_value.ensures.number w.in_ok-add_value.ensures.terms t)
                numbers ds d e gains h);
          }
      | else-log-number w ↦
          record {
            size = ap (λ (v : Vec TagLog Global). length v.items) w.logs-is ∙ length-set c.loop-i.logs.items c.loop-i.i c.index_mut-log.result.now ∙ c.loop-i.invariant.size;
            logs = λ numbers ds d e gains h.
                subst (λ (v : Vec TagLog Global). Partly (HasTermsOf (ds ++ e ∷ [])) (HasTermsOf (ds ++ d ∷ [])) (c.loop-i.i + 1) numbers v.items) (sym w.logs-is)
                (changed c.index_mut-log.result.now (λ n ds d e gains t. tag_stays c.args.number (value_of c.args.value) ds d e gains n c.index_mut-log.result.now w.if-log-number.false t) numbers ds d e gains h);
          }
    ]

pub returns : goal.returns
returns c = λ numbers ds d e gains h.
    partly_all (HasTermsOf (ds ++ e ∷ [])) (HasTermsOf (ds ++ d ∷ [])) c.loop-i.i numbers c.loop-i.logs.items (omega (arith, c.loop-i-test.false, c.loop-i.invariant.size)) (c.loop-i.invariant.logs numbers ds d e gains h)
