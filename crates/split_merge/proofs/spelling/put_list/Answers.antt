use Rattle.std.proofs.Common.{◌≡◌, ◌-◌, ◌<◌, ◌≤◌, ◌++◌, ◌∙◌, List, ℕ, ap, sym, subst, take, drop, length, arith, length-drop}
use Rattle.std.proofs.lemmas.List.{drop-drop, length-map, take-append-drop}
use Rattle.term_postings.specs.Postings.{document_bytes, position_bytes}
use Rattle.term_postings.specs.declared.list.Posting.{Posting}
use Rattle.term_postings.proofs.Lists.{position-append}
use Rattle.split_merge.specs.Joining.{listed}
use Rattle.split_merge.specs.declared.lists.Listed.{Listed}
use Rattle.split_merge.proofs.SpellLemmas.{PutsHeads, block_listed, fits_behind, fits_front, last_put, none_put_yet, one_head, rest_listed}
use Rattle.split_merge.proofs.spelling.put_list.Goals as goal

pub loop-from-init : goal.loop-from-init
loop-from-init c = record {
  within = omega arith;
  at_within = omega arith;
  puts = λ ps is places fits. (
    subst (λ (l : List ℕ). PutsHeads c.args.kept c.args.postings.now.items c.args.postings.now.items l 0 ps ps) (sym c.clear.ensures.items) (none_put_yet c.args.kept c.args.postings.now.items ps),
    places,
  );
}

pub loop-from-preserved : goal.loop-from-preserved
loop-from-preserved c =
    let from = c.loop-from.from in
    let len : c.saturating_sub-len.result ≡ length c.put_documents.new.blocks.items - length c.loop-from.blocks.items = omega (arith, c.saturating_sub-len.ensures) in
    record {
      within = omega arith;
      at_within = c.behind_places-behind.ensures.within;
      puts = λ ps is places fits.
          let i = c.loop-from.invariant.puts ps is places fits in
          let rest = drop from ps in
          let block = block_listed ps c.args.entries.now from is in
          let more : 128 < length (drop c.loop-from.from ps) = omega (arith, c.loop-from-test.true, ap (λ (l : List Listed). length l) is, length-map ps listed, length-drop from ps) in
          let split = i.1 ∙ ap (λ (l : List Posting). position_bytes l) (sym (take-append-drop 128 rest)) ∙ position-append (take 128 rest) (drop 128 rest) in
          let there = c.behind_places-behind.ensures.only c.args.kept (take 128 rest) (position_bytes (drop 128 rest)) block (fits_front c.args.kept 128 rest (fits_behind c.args.kept from ps fits)) split in
          let put = one_head c.args.kept c.args.postings.now.items c.loop-from.postings.items c.loop-from.blocks.items c.put_head.new.heads.items c.put_documents.new.blocks.items c.args.places.now
          c.loop-from.before c.in_ok-last.last _ _ _ c.loop-from.at c.behind_places-behind.result rest ps more i.0 (c.in_ok-last.ensures.last (take 128 rest) block) c.saturating_sub.ensures
          (c.in_ok-last.ensures.blocks (take 128 rest) block) len c.saturating_sub-places_len.ensures c.loop-from.invariant.at_within c.behind_places-behind.ensures.within i.1 there c.in_ok-put_head.ensures in (
            subst (λ (l : List Posting). PutsHeads c.args.kept c.args.postings.now.items c.put_head.new.heads.items c.put_documents.new.blocks.items c.in_ok-last.last l ps) (drop-drop 128 from ps) put,
            there ∙ ap (λ (l : List Posting). position_bytes l) (drop-drop 128 from ps),
          );
    }

pub returns : goal.returns
returns c = λ ps is places fits.
    let from = c.loop-from.from in
    let i = c.loop-from.invariant.puts ps is places fits in
    let rest = drop from ps in
    let few : length (drop c.loop-from.from ps) ≤ 128 = omega (arith, c.loop-from-test.false, ap (λ (l : List Listed). length l) is, length-map ps listed, length-drop from ps) in
    let joined : c.extend_from_slice.new.self.items ≡ c.loop-from.postings.items ++ c.loop-from.blocks.items = c.in_ok-extend_from_slice.ensures.items ∙ ap (λ (l : List ℕ). c.loop-from.postings.items ++ l) c.deref.ensures.value in
    let now = c.in_ok-put_documents.ensures.blocks rest (rest_listed ps c.args.entries.now from is) ∙ ap (λ (l : List ℕ). l ++ document_bytes c.args.kept c.loop-from.before rest) joined in
    last_put c.args.kept c.args.postings.now.items c.loop-from.postings.items c.loop-from.blocks.items c.put_documents-2.new.blocks.items c.loop-from.before rest ps few i.0 now
