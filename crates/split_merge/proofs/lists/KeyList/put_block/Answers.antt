use Rattle.std.proofs.Common.{◌≡◌, ◌++◌, ◌∷◌, ◌∙◌, ◌+◌, ℕ, suc, Option, Some, false, true, List, [], get_or, take, drop, refl, sym, ap, subst, arith}
use Rattle.std.proofs.Math.Seq.{take-suc}
use Rattle.std.proofs.lemmas.List.{take-append-drop}
use Rattle.term_postings.specs.Reading.{last_of}
use Rattle.term_postings.proofs.Many.{last_one}
use Rattle.split_merge.specs.Joining.{Adds, AreAbove, is_above, with_number}
use Rattle.split_merge.specs.Numbering.{number_in}
use Rattle.split_merge.proofs.BlockLemmas.{above_here, above_push, one_bare}
use Rattle.split_merge.proofs.GatherLemmas.{drop_is}
use Rattle.split_merge.proofs.ListLemmas.{none_added}
use Rattle.split_merge.proofs.lists.KeyList.put_block.Goals as goal

pub loop-document-init : goal.loop-document-init
loop-document-init c = record { above = tt; last_is = refl; added = none_added false c.args.self.now }

pub returns-then-not-is_above-clause-cause : goal.returns-then-not-is_above-clause-cause
returns-then-not-is_above-clause-cause c = λ above.
    let i = c.loop-document.document-index in
    let block = c.args.block.now in
    let n = get_or block i 0 in
    let whole : block ≡ take i block ++ n ∷ drop (i + 1) block = sym (take-append-drop i block) ∙ ap (λ (l : List ℕ). take i block ++ l) (drop_is block i n 0 (omega (arith, c.loop-document-test.true)) refl) in
    let up = above_here c.args.before (take i block) n (drop (i + 1) block) (subst (λ (l : List ℕ). AreAbove c.args.before l) whole above) in
    let same : is_above c.loop-document.last c.from.result ≡ is_above (last_of (take i block) c.args.before) n = ap (λ (m : ℕ). is_above c.loop-document.last m) c.from.ensures ∙ ap (λ (o : Option ℕ). is_above o n) c.loop-document.invariant.last_is in
    let low = sym c.is_above.ensures ∙ c.if-not-is_above.true in
    let wrong : true ≡ false = sym (same ∙ up) ∙ low in
    absurd cc

pub loop-document-preserved : goal.loop-document-preserved
loop-document-preserved c =
    let i = c.loop-document.document-index in
    let block = c.args.block.now in
    let n = get_or block i 0 in
    let number = number_in c.args.numbers.now in
    let h = c.loop-document.invariant in
    let next : i + 1 ≡ suc i = omega arith in
    let more : take (i + 1) block ≡ take i block ++ n ∷ [] = ap (λ (m : ℕ). take m block) next ∙ take-suc block i 0 (omega (arith, c.loop-document-test.true)) in
    let same : is_above c.loop-document.last c.from.result ≡ is_above (last_of (take i block) c.args.before) n = ap (λ (m : ℕ). is_above c.loop-document.last m) c.from.ensures ∙ ap (λ (o : Option ℕ). is_above o n) h.last_is in
    let up = sym same ∙ sym c.is_above.ensures ∙ c.if-not-is_above.false in
    let some : ℕ → Option ℕ = λ m. Some m in
    record {
      above = subst (λ (l : List ℕ). AreAbove c.args.before l) (sym more) (above_push c.args.before (take i block) n h.above up);
      last_is = ap some c.from-in-loop-document.ensures ∙ sym (last_one (take i block) n c.args.before) ∙ ap (λ (l : List ℕ). last_of l c.args.before) (sym more);
      added = one_bare number c.args.self.now c.loop-document.self c.push_bare.new.self (take i block) (take (i + 1) block) n more h.added
          (subst (λ (o : Option ℕ). Adds false c.loop-document.self c.push_bare.new.self (with_number o [] [])) c.get.ensures c.in_ok-push_bare.ensures);
    }
