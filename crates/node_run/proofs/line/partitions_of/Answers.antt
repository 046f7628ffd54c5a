use Rattle.std.proofs.Common.{◌≡◌, true, false, arith, ap, ◌∙◌, sym, subst, refl, List, ℕ, [], ◌∷◌, ◌++◌}
use Rattle.node_run.proofs.Bad.{handed_on}
use Rattle.node_run.proofs.Spelling.{words_in}
use Rattle.node_run.proofs.Splitting.{ReadNames, too_many, one_word, next_word, first_in, rest_at_none, rest_at_some, not_named, twice, found_again, one_more, last_name}
use Rattle.indexing_run.specs.Outcomes.{words}
use Rattle.node_run.specs.Lines.{AreNames}
use Rattle.node_run.proofs.line.partitions_of.Goals as goal

pub returns-in_err-partition : goal.returns-in_err-partition
returns-in_err-partition c =
    let w = first_in (λ b. b.now) c.words.rest.now c.first_word.result.0.now c.first_word.result.1 c.first_word.ensures.word c.first_word.ensures.some c.first_word.ensures.none in
    handed_on (λ names. (c.args.text.now ≡ words names) × AreNames names) c.from_residual.result c.in_err-partition.field-0.0 c.from_residual.ensures.1
    (λ bad. not_named c.args.text.now c.words.partitions c.words.rest.now c.first_word.result.0.now w.0 c.words.invariant w.1 bad)
    c.in_err-partition.ensures

pub returns-then-is_among : goal.returns-then-is_among
returns-then-is_among c =
    let w = first_in (λ b. b.now) c.words.rest.now c.first_word.result.0.now c.first_word.result.1 c.first_word.ensures.word c.first_word.ensures.some c.first_word.ensures.none in
    twice c.args.text.now c.words.partitions c.words.rest.now c.first_word.result.0.now w.0 c.words.invariant w.1
    (found_again true c.is_among.result c.as_slice.result.now c.words.partitions c.in_ok-partition.partition c.first_word.result.0.now
    c.is_among.ensures c.as_slice.ensures c.in_ok-partition.ensures.0 c.if-is_among.true)

pub returns-in-None : goal.returns-in-None
returns-in-None c =
    let found = found_again false c.is_among.result c.as_slice.result.now c.words.partitions c.in_ok-partition.partition c.first_word.result.0.now
    c.is_among.ensures c.as_slice.ensures c.in_ok-partition.ensures.0 c.if-is_among.false in
    let ends = one_word c.words.rest.now c.first_word.result.0.now c.first_word.ensures.word
    (rest_at_none c.words.rest.now c.first_word.result.0.now c.first_word.result.1 c.in-None.is c.first_word.ensures.none) in
    let is = last_name c.args.text.now c.words.partitions c.words.rest.now c.first_word.result.0.now [] c.words.invariant ends refl
    c.in_ok-partition.ensures.1 (omega arith) found in
    subst (λ (names : List (List ℕ)). (c.args.text.now ≡ words names) × AreNames names)
    (ap (λ w. c.words.partitions ++ w ∷ []) (sym c.in_ok-partition.ensures.0) ∙ sym c.in_ok-push.ensures.ok) is

pub words-preserved : goal.words-preserved
words-preserved c =
    let found = found_again false c.is_among.result c.as_slice.result.now c.words.partitions c.in_ok-partition.partition c.first_word.result.0.now
    c.is_among.ensures c.as_slice.ensures c.in_ok-partition.ensures.0 c.if-is_among.false in
    let goes_on = next_word c.words.rest.now c.first_word.result.0.now c.in-Some.more.now c.first_word.ensures.word
    (rest_at_some (λ b. b.now) c.words.rest.now c.first_word.result.0.now c.first_word.result.1 c.in-Some.more c.in-Some.is c.first_word.ensures.some) in
    let is = one_more c.args.text.now c.words.partitions c.words.rest.now c.first_word.result.0.now (words_in c.in-Some.more.now) c.words.invariant goes_on
    (omega arith) c.in_ok-partition.ensures.1 found c.in-Some.more.now refl in
    subst (λ (names : List (List ℕ)). ReadNames c.args.text.now names c.in-Some.more.now)
    (ap (λ w. c.words.partitions ++ w ∷ []) (sym c.in_ok-partition.ensures.0) ∙ sym c.in_ok-push.ensures.ok) is

pub returns : goal.returns
returns c = too_many c.args.text.now c.words.partitions c.words.rest.now c.words.invariant (omega arith)
