use Rattle.std.proofs.Common.{◌≡◌, ◌-◌, ◌+◌, ◌<◌, ◌≤◌, ◌++◌, ◌∙◌, List, ℕ, ap, sym, subst, take, drop, length, refl, arith, length-drop, rules}
use Rattle.std.specs.List.{AllByRecursion}
use Rattle.std.proofs.lemmas.List.{drop-drop}
use Rattle.term_postings.specs.Postings.{AreRising, Fits, documents, document_bytes, position_bytes, last_document}
use Rattle.term_postings.specs.Rows.{lent}
use Rattle.term_postings.specs.declared.list.Posting.{Posting}
use Rattle.term_postings.proofs.Puts.{PutsBlocks, first_block, one_block, last_block, length_behind, lent-length, block_front, rest_front}
use Rattle.term_postings.proofs.encode.append_postings.Goals as goal

pub put_documents-requires-clause-rising : goal.put_documents-requires-clause-rising
put_documents-requires-clause-rising c =
    let b = first_block c.args.positions _ _ _ _ _ c.loop-from.before (drop c.loop-from.from (lent c.args.rows.now)) (lent c.args.rows.now) c.loop-from.invariant.1 in
    subst (λ (l : List Posting). AreRising (documents l)) (sym (block_front c.args.rows.now c.loop-from.from)) b.rising

pub put_documents-requires-clause-behind : goal.put_documents-requires-clause-behind
put_documents-requires-clause-behind c =
    let b = first_block c.args.positions _ _ _ _ _ c.loop-from.before (drop c.loop-from.from (lent c.args.rows.now)) (lent c.args.rows.now) c.loop-from.invariant.1 in
    rw (block_front c.args.rows.now c.loop-from.from) b.above

pub put_documents-requires-clause-positions : goal.put_documents-requires-clause-positions
put_documents-requires-clause-positions c =
    let b = first_block c.args.positions _ _ _ _ _ c.loop-from.before (drop c.loop-from.from (lent c.args.rows.now)) (lent c.args.rows.now) c.loop-from.invariant.1 in
    rw (block_front c.args.rows.now c.loop-from.from) b.wants

pub loop-from-preserved : goal.loop-from-preserved
loop-from-preserved c =
    let from = c.loop-from.from in
    let rest = drop c.loop-from.from (lent c.args.rows.now) in
    let front = block_front c.args.rows.now c.loop-from.from in
    let whole = lent-length c.args.rows.now in
    let more : 128 < length (drop c.loop-from.from (lent c.args.rows.now)) = omega (arith, whole, length-drop c.loop-from.from (lent c.args.rows.now)) in
    let blocks = c.in_ok-last.ensures.blocks ∙ ap (λ (l : List Posting). c.loop-from.blocks.items ++ document_bytes c.args.positions c.loop-from.before l) front in
    let places = c.in_ok-last.ensures.places ∙ ap (λ (l : List Posting). c.loop-from.places.items ++ position_bytes l) front in
    let last = c.in_ok-last.ensures.last.0 ∙ ap (λ (l : List Posting). last_document c.loop-from.before l) front in
    let fits = subst (λ (l : List Posting). AllByRecursion (Fits c.args.positions) l) front c.in_ok-last.ensures.fits in
    let len : c.len.result - c.len-start.result ≡ length c.put_documents.new.blocks.items - length c.loop-from.blocks.items = omega arith in
    let places_len : c.len-in-loop-from.result - c.len-places_start.result ≡ length c.put_documents.new.places.items - length c.loop-from.places.items = omega arith in (
      omega arith,
      subst (λ (l : List Posting). PutsBlocks c.args.positions c.args.postings.now.items c.args.places.now.items c.put_head.new.heads.items c.put_documents.new.blocks.items c.put_documents.new.places.items c.in_ok-last.last l (lent c.args.rows.now))
          (drop-drop 128 from (lent c.args.rows.now))
          (one_block c.args.positions c.args.postings.now.items c.args.places.now.items c.loop-from.postings.items c.loop-from.blocks.items c.loop-from.places.items c.put_head.new.heads.items c.put_documents.new.blocks.items
          c.put_documents.new.places.items c.loop-from.before c.in_ok-last.last _ _ _ rest (lent c.args.rows.now) more c.loop-from.invariant.1 last refl blocks places fits len places_len c.in_ok-put_head.ensures),
    )

pub put_documents-requires-2-clause-rising : goal.put_documents-requires-2-clause-rising
put_documents-requires-2-clause-rising c = subst (λ (l : List Posting). AreRising (documents l)) (sym (rest_front c.args.rows.now c.loop-from.from)) c.loop-from.invariant.1.rising

pub put_documents-requires-2-clause-behind : goal.put_documents-requires-2-clause-behind
put_documents-requires-2-clause-behind c = rw (rest_front c.args.rows.now c.loop-from.from) c.loop-from.invariant.1.above

pub put_documents-requires-2-clause-positions : goal.put_documents-requires-2-clause-positions
put_documents-requires-2-clause-positions c = rw (rest_front c.args.rows.now c.loop-from.from) c.loop-from.invariant.1.wants

pub returns : goal.returns
returns c =
    let rest = rest_front c.args.rows.now c.loop-from.from in
    let few : length (drop c.loop-from.from (lent c.args.rows.now)) ≤ 128 = omega (arith, lent-length c.args.rows.now, length-drop c.loop-from.from (lent c.args.rows.now)) in
    let joined : c.extend_from_slice.new.self.items ≡ c.loop-from.postings.items ++ c.loop-from.blocks.items = c.in_ok-extend_from_slice.ensures.items ∙ ap (λ (l : List ℕ). c.loop-from.postings.items ++ l) c.deref.ensures.value in
    let now = c.in_ok-put_documents.ensures.blocks ∙ ap (λ (l : List ℕ). l ++ document_bytes c.args.positions c.loop-from.before (lent (take (length c.args.rows.now - c.loop-from.from) (drop c.loop-from.from c.args.rows.now)))) joined
    ∙ ap (λ (l : List Posting). (c.loop-from.postings.items ++ c.loop-from.blocks.items) ++ document_bytes c.args.positions c.loop-from.before l) rest in
    let places = c.in_ok-put_documents.ensures.places ∙ ap (λ (l : List Posting). c.loop-from.places.items ++ position_bytes l) rest in
    let fits = subst (λ (l : List Posting). AllByRecursion (Fits c.args.positions) l) rest c.in_ok-put_documents.ensures.fits in
    last_block c.args.positions c.args.postings.now.items c.args.places.now.items c.loop-from.postings.items c.loop-from.blocks.items c.loop-from.places.items c.put_documents-2.new.blocks.items c.put_documents-2.new.places.items
    c.loop-from.before (drop c.loop-from.from (lent c.args.rows.now)) (lent c.args.rows.now) few c.loop-from.invariant.1 c.requires.documents now places fits (search rules) (search rules)

pub overflow_sub-len : goal.overflow_sub-len
overflow_sub-len c =
    let block = lent (take (c.loop-from.from + 128 - c.loop-from.from) (drop c.loop-from.from c.args.rows.now)) in
    let up = length_behind c.put_documents.new.blocks.items c.loop-from.blocks.items (document_bytes c.args.positions c.loop-from.before block) c.in_ok-last.ensures.blocks in
    omega (arith, up)

pub overflow_sub-places_len : goal.overflow_sub-places_len
overflow_sub-places_len c =
    let block = lent (take (c.loop-from.from + 128 - c.loop-from.from) (drop c.loop-from.from c.args.rows.now)) in
    let up = length_behind c.put_documents.new.places.items c.loop-from.places.items (position_bytes block) c.in_ok-last.ensures.places in
    omega (arith, up)
