use Rattle.std.proofs.Common.{◌≡◌, ◌∙◌, ◌+◌, ◌++◌, ◌∷◌, [], ℕ, suc, sym, subst, set, arith}
use Rattle.std.proofs.Math.ListN.{length-set}
use Rattle.split_build.specs.declared.tags.TagLog.{TagLog}
use Rattle.split_build.specs.HeldTags.{HasTermsOf}
use Rattle.split_build.proofs.TagLemmas.{terms_with}
use Rattle.split_build.proofs.Zipped.{Partly, partly_set, partly_all}
use Rattle.split_build.proofs.tag_parts.add_tags.Goals as goal

pub loop-i-preserved : goal.loop-i-preserved
loop-i-preserved c = record {
  size = length-set c.loop-i.logs.items c.loop-i.i c.add_values.new.self ∙ c.loop-i.invariant.size;
  logs = λ numbers ds h.
      let next : suc c.loop-i.i ≡ c.loop-i.i + 1 = omega arith in
      subst (λ (k : ℕ). Partly (HasTermsOf (ds ++ c.args.placed.now ∷ [])) (HasTermsOf ds) k numbers (set c.loop-i.logs.items c.loop-i.i c.add_values.new.self)) next
      (partly_set (HasTermsOf (ds ++ c.args.placed.now ∷ [])) (HasTermsOf ds) c.loop-i.i numbers c.loop-i.logs.items c.add_values.new.self c.index_mut-log.result.now (omega (arith, c.loop-i-test.true, c.loop-i.invariant.size))
      (λ n t. terms_with ds c.args.placed.now n c.index_mut-log.result.now c.add_values.new.self c.as_slice.result.now c.values_in-values.result.now c.as_slice.ensures c.values_in-values.ensures c.in_ok-add_values.ensures.number c.in_ok-add_values.ensures.terms
      (subst (λ (l : TagLog). HasTermsOf ds n l) (sym c.index_mut-log.ensures.value) t))
      (c.loop-i.invariant.logs numbers ds h));
}

pub returns : goal.returns
returns c = λ numbers ds h.
    partly_all (HasTermsOf (ds ++ c.args.placed.now ∷ [])) (HasTermsOf ds) c.loop-i.i numbers c.loop-i.logs.items (omega (arith, c.loop-i-test.false, c.loop-i.invariant.size)) (c.loop-i.invariant.logs numbers ds h)
