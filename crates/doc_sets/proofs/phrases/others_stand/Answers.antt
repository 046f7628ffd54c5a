use Rattle.std.proofs.Common.{rules, ◌≡◌, ◌<◌, ◌+◌, ◌-◌, ℕ, Bool, not, List, length, drop, filter, set, get_or, ap, sym, subst, ◌∙◌, arith}
use Rattle.std.proofs.lemmas.Bool.{eqb-true}
use Rattle.term_postings.specs.Postings.{AreRising}
use Rattle.split_bundle.specs.Keys.{field_key, keys_of}
use Rattle.doc_sets.specs.Asked.{is_among, stands_from_one}
use Rattle.doc_sets.specs.Faults.{IsMemory}
use Rattle.doc_sets.specs.Seeking.{ArePassing}
use Rattle.doc_sets.proofs.Causes.{handed_on}
use Rattle.doc_sets.proofs.DistanceLaws.{end_is, end_none, rising_filter, token_behind}
use Rattle.doc_sets.proofs.Runs.{each_at}
use Rattle.doc_sets.proofs.SeekLaws.{get_or_any, no_token, passing_done, passing_here, passing_more}
use Rattle.doc_sets.proofs.Steps.{none_behind}
use Rattle.doc_sets.proofs.phrases.others_stand.Goals as goal

pub returns-then-is_empty : goal.returns-then-is_empty
returns-then-is_empty c = λ s documents number d passing keeps got each rising.
    let i = c.loop-other.invariant s documents number d passing keeps got each rising in
    let phrase = c.args.phrase.now in
    let none : c.loop-other.starts.len ≡ 0 = eqb-true c.loop-other.starts.len 0 (sym c.is_empty.ensures ∙ c.if-is_empty.true) in (
      sym (sym i.2 ∙ end_none number c.args.from (drop c.loop-other.other phrase) c.loop-other.starts.items (keys_of s d.doc) (omega (arith, none, c.loop-other.starts.ok))),
      passing_done s documents number phrase c.loop-other.cursors c.args.document c.loop-other.other i.0,
    )

pub returns : goal.returns
returns c = λ s documents number d passing keeps got each rising.
    let i = c.loop-other.invariant s documents number d passing keeps got each rising in
    let phrase = c.args.phrase.now in (
      ap not c.is_empty-2.ensures
          ∙ (sym (end_is number c.args.from (drop c.loop-other.other phrase) c.loop-other.starts.items (keys_of s d.doc) c.loop-other.starts.len (none_behind phrase c.loop-other.other c.loop-other-test.false) (omega (arith, c.loop-other.starts.ok))) ∙ i.2),
      passing_done s documents number phrase c.loop-other.cursors c.args.document c.loop-other.other i.0,
    )

pub returns-in_err-seek_places : goal.returns-in_err-seek_places
returns-in_err-seek_places c = λ s documents number d passing keeps got each rising.
    let i = c.loop-other.invariant s documents number d passing keeps got each rising in
    let phrase = c.args.phrase.now in
    let other = c.loop-other.other in
    let os = keys_of s d.doc in
    let lt : other < length phrase = omega arith in
    let x = get_or phrase other no_token in
    let is : x ≡ get_or phrase other x = get_or_any phrase other no_token x lt in
    let can = passing_here s documents number phrase c.loop-other.cursors c.args.document other x c.index-cursors-other.result i.0 lt is in
    handed_on (λ (b : Bool). (b ≡ stands_from_one number (drop 1 phrase) c.args.from c.args.starts.now.items os) × ArePassing s documents number phrase (set c.loop-other.cursors other c.seek_places.new.cursor) (c.args.document + 1) 0) IsMemory
    c.from_residual.result c.in_err-seek_places.field-0.0 c.from_residual.ensures.1 (c.in_err-seek_places.ensures s documents (field_key number x.text) d can (keeps x.text) got (each_at number other x phrase os lt is each))

pub loop-other-preserved : goal.loop-other-preserved
loop-other-preserved c = λ s documents number d passing keeps got each rising.
    let i = c.loop-other.invariant s documents number d passing keeps got each rising in
    let phrase = c.args.phrase.now in
    let other = c.loop-other.other in
    let os = keys_of s d.doc in
    let lt : other < length phrase = omega arith in
    let x = c.index-phrase-other.result in
    let is = c.index-phrase-other.is in
    let can = passing_here s documents number phrase c.loop-other.cursors c.args.document other x c.index-cursors-other.result i.0 lt is in
    let read = c.in_ok-seek_places.ensures s documents (field_key number x.text) d can (keeps x.text) got (each_at number other x phrase os lt is each) in
    let places = c.deref.result.now in
    let starts = c.loop-other.starts.items in
    let rises = subst (λ (l : List ℕ). AreRising l) (sym c.deref.ensures.value) read.1 in
    let far : c.saturating_sub-distance.result ≡ x.position - c.args.from = first_of (assumption c.saturating_sub-distance.ensures, omega arith, search rules, grind arith) in
    let kept = c.keep_behind.ensures i.1 rises in (
      passing_more s documents number phrase c.loop-other.cursors c.args.document other c.seek_places.new.cursor i.0 lt x is read.2,
      subst (λ (l : List ℕ). AreRising l) (sym kept) (rising_filter (λ start. is_among (start + c.saturating_sub-distance.result) places) starts i.1),
      token_behind number c.args.from other x phrase starts c.keep_behind.new.starts.items places os lt is (c.deref.ensures.value ∙ read.0)
          (kept ∙ ap (λ (m : ℕ). filter (λ start. is_among (start + m) places) starts) far) ∙ i.2,
    )
