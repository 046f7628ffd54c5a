use Rattle.std.proofs.Common.{◌≡◌, ◌∙◌, ◌<◌, ◌||◌, ◌&&◌, ℕ, List, Some, get_or, take, length, refl, sym, ap, ap₂, subst, arith}
use Rattle.std.proofs.lemmas.List.Elements.{All-get_or}
use Rattle.std.specs.Prelude.{slice_get, ◌==◌}
use Rattle.delete_tasks.specs.Removed.{Place}
use Rattle.doc_sets.specs.Bits.{has}
use Rattle.doc_sets.specs.Sets.{is_one_of}
use Rattle.index_world.specs.Seen.{place_of}
use Rattle.split_merge.proofs.KeptLemmas.{drop_at}
use Rattle.upkeep_run.specs.Dropping.{IsAdmitted, holds, is_before, place_at}
use Rattle.upkeep_run.proofs.DropSets.{item_there, one_of_push, put_at, put_more, take_more}
use Rattle.upkeep_run.proofs.dropping.put_each.Goals as goal

pub returns-in_err-at-clause-there : goal.returns-in_err-at-clause-there
returns-in_err-at-clause-there c = λ s documents p part all.
    let n = get_or c.args.numbers.now c.loop-number.number-index 0 in
    let below : n < c.args.view.now.footer.layout.docs = All-get_or (λ m. m < c.args.view.now.footer.layout.docs) c.args.numbers.now c.loop-number.number-index 0 (omega (arith, c.loop-number-test.true)) c.requires.below in
    let docs : c.args.view.now.footer.layout.docs ≡ length documents = part.footer.layout.docs ∙ part.is_split.docs in
    let at = drop_at documents n (omega (arith, below, docs)) in
    absurd (cc (c.in_err-at.ensures.there s documents p at.0 part all at.1))

pub loop-number-preserved : goal.loop-number-preserved
loop-number-preserved c =
    let i = c.loop-number.number-index in
    let ns = c.args.numbers.now in
    let n = get_or ns i 0 in
    let spans = c.args.spans.now in
    let opstamp = c.args.opstamp in
    let there : slice_get ns i ≡ Some n = item_there ns i 0 n (omega (arith, c.loop-number-test.true)) refl in
    let below : n < c.args.view.now.footer.layout.docs = All-get_or (λ m. m < c.args.view.now.footer.layout.docs) ns i 0 (omega (arith, c.loop-number-test.true)) c.requires.below in
    record {
      size = c.put_before.ensures.size ∙ c.loop-number.invariant.size;
      has = λ s documents p part all k.
          let docs : c.args.view.now.footer.layout.docs ≡ length documents = part.footer.layout.docs ∙ part.is_split.docs in
          let at = drop_at documents n (omega (arith, below, docs)) in
          let found = c.in_ok-at.ensures.only s documents p at.0 part at.1 in
          let place : place_at c.in_ok-at.at ≡ place_of at.0 = ap₂ (λ (name : List ℕ) (offset : ℕ). record { partition = name; offset = offset }) found.0 found.1 in
          let admitted = subst (λ (x : Place). IsAdmitted spans c.args.upto x c.admitted_at.result) place c.admitted_at.ensures in
          put_more (has c.put_before.new.bits k) (has c.loop-number.bits k) (has c.args.bits.now k) (is_one_of k (take i ns)) (k == n) (holds (is_before spans opstamp) documents k) (c.loop-number.invariant.has s documents p part all k)
          (put_at spans c.args.upto opstamp documents n at.0 c.admitted_at.result k (has c.put_before.new.bits k) (has c.loop-number.bits k) c.requires.task at.1 admitted (c.put_before.ensures.has k))
          ∙ ap (λ b. has c.args.bits.now k || (b && holds (is_before spans opstamp) documents k)) (sym (one_of_push k (take i ns) n) ∙ ap (is_one_of k) (sym (take_more ns i n there)));
    }
