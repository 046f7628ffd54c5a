use Rattle.std.proofs.Common.{◌+◌, ◌++◌, ◌∙◌, ◌<◌, ◌≤◌, List, ap, sym, drop, length, arith, append_assoc}
use Rattle.std.proofs.lemmas.List.{drop_all, length-map}
use Rattle.term_postings.specs.Postings.{gaps, position_bytes, varints}
use Rattle.term_postings.specs.declared.list.Posting.{Posting}
use Rattle.term_postings.proofs.Lists.{gaps_fit, length_of_gaps}
use Rattle.split_merge.specs.Joining.{listed}
use Rattle.split_merge.specs.declared.lists.Listed.{Listed}
use Rattle.split_merge.proofs.SpellLemmas.{fits_here, listed_front}
use Rattle.split_merge.proofs.spelling.behind_places.Goals as goal

pub loop-entry-preserved : goal.loop-entry-preserved
loop-entry-preserved c = (
  c.behind_numbers-at.ensures.within,
  λ kept ps rest is fits e.
      let i = c.loop-entry.entry-index in
      let lt : c.loop-entry.entry-index < length c.args.entries.now = omega arith in
      let f = listed_front ps c.args.entries.now i _ is lt in
      let p = f.0 in
      let behind = position_bytes (drop (i + 1) ps) in
      let here = c.loop-entry.invariant.1 kept ps rest is fits e ∙ ap (λ (l : List Posting). position_bytes l ++ rest) f.1 ∙ append_assoc (varints (gaps 0 p.positions)) behind rest in
      c.behind_numbers-at.ensures.only (gaps 0 p.positions) (behind ++ rest) (ap (λ (x : Listed). x.positions) f.2 ∙ sym (length_of_gaps 0 p.positions)) (gaps_fit 0 p.positions (fits_here kept i ps p (drop (i + 1) ps) fits f.1).numbers) here,
)

pub returns-clause-only : goal.returns-clause-only
returns-clause-only c = λ kept ps rest is fits e.
    let past : length ps ≤ c.loop-entry.entry-index = omega (arith, c.loop-entry-test.false, ap (λ (l : List Listed). length l) is, length-map ps listed) in
    c.loop-entry.invariant.1 kept ps rest is fits e ∙ ap (λ (l : List Posting). position_bytes l ++ rest) (drop_all c.loop-entry.entry-index ps past)
