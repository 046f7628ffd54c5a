use Rattle.std.proofs.Common.{◌+◌, ◌++◌, ◌∷◌, ◌∙◌, ℕ, true, List, [], Ok, Option, Some, sym, ap, subst, arith, append_assoc}
use Rattle.std.proofs.lemmas.List.{append-nil}
use Rattle.term_postings.specs.declared.list.Posting.{Posting}
use Rattle.split_merge.specs.Joining.{Lists, is_above}
use Rattle.split_merge.specs.Numbering.{number_in}
use Rattle.split_merge.specs.declared.lists.Listed.{Listed}
use Rattle.split_merge.proofs.ListLemmas.{GivesNext, PutsList, document_above, document_there, none_counted, none_put, one_counted, one_put}
use Rattle.split_merge.proofs.lists.list_counts.Goals as goal

pub loop-taken-init : goal.loop-taken-init
loop-taken-init c = record {
  front = ([], sym (append-nil c.args.entries.now.items));
  taken = none_put true (Lists (number_in c.args.numbers.now) c.args.entries.now.items c.args.entries.now.items) c.args.cursor (none_counted (number_in c.args.numbers.now) c.args.entries.now.items);
}

pub returns-then-not-is_above-clause-only : goal.returns-then-not-is_above-clause-only
returns-then-not-is_above-clause-only c = λ list stands len can.
    let gives = subst (λ (o : Option ℕ). GivesNext true c.loop-taken.cursor c.next.new.self (Ok o)) c.in-Ok-Some.field-0-is (c.in-Ok-Some.ensures.only true) in
    let listed = Lists (number_in c.args.numbers.now) c.args.entries.now.items c.loop-taken.entries.items in
    absurd (document_above true listed c.loop-taken.taken c.loop-taken.last c.args.cursor c.loop-taken.cursor c.loop-taken.invariant.taken c.in-Ok-Some.document c.next.new.self list gives stands can
    (ap (λ (n : ℕ). is_above c.loop-taken.last n) (sym c.from.ensures) ∙ sym c.is_above.ensures ∙ c.if-not-is_above.true))

pub returns-in-Err-clause-only : goal.returns-in-Err-clause-only
returns-in-Err-clause-only c = λ list stands len can.
    let listed = Lists (number_in c.args.numbers.now) c.args.entries.now.items c.loop-taken.entries.items in
    absurd (document_there true listed c.loop-taken.taken c.loop-taken.last c.args.cursor c.loop-taken.cursor c.loop-taken.invariant.taken c.next.new.self _ list (c.in-Err.ensures.only true) stands can
    (omega (arith, len, c.loop-taken-test.true)) (λ document e. absurd cc))

pub loop-taken-preserved : goal.loop-taken-preserved
loop-taken-preserved c =
    let gives = subst (λ (o : Option ℕ). GivesNext true c.loop-taken.cursor c.next.new.self (Ok o)) c.in-Ok-Some.field-0-is (c.in-Ok-Some.ensures.only true) in
    let i = c.loop-taken.invariant in
    let start = c.args.entries.now.items in
    let mid = c.loop-taken.entries.items in
    let now = c.push.new.self.items in
    let listed : List Listed → List Posting → Type 0 = λ es. Lists (number_in c.args.numbers.now) start es in
    let up = ap (λ (n : ℕ). is_above c.loop-taken.last n) (sym c.from.ensures) ∙ sym c.is_above.ensures ∙ c.if-not-is_above.false in
    let one : Listed = record { document = c.in-Some.number; positions = c.in_ok-count-in-Ok-Some.count } in
    let pushed = c.in_ok-push-in-Ok-Some.ensures.items ∙ ap (λ (e : Listed). mid ++ e ∷ []) c.with_positions.ensures.listed in
    record {
      front = (i.front.0 ++ one ∷ [], pushed ∙ ap (λ (es : List Listed). es ++ one ∷ []) i.front.1 ∙ append_assoc start i.front.0 (one ∷ []));
      taken = subst (λ (n : ℕ). PutsList true (listed now) (c.loop-taken.taken + 1) (Some n) c.args.cursor c.next.new.self) (sym c.from-in-Ok-Some.ensures)
          (one_put true (listed mid) c.loop-taken.taken c.loop-taken.last c.args.cursor c.loop-taken.cursor i.taken (listed now) c.in-Ok-Some.document c.next.new.self c.next.new.self gives up
          (λ front p after same front_listed stands can. (
            one_counted (number_in c.args.numbers.now) start mid now c.in-Ok-Some.document c.in-Some.number c.in_ok-count-in-Ok-Some.count front p c.in-Some.ensures same c.with_positions.ensures.fits
                (c.in_ok-count-in-Ok-Some.ensures ∙ c.position_count.ensures.only after p.positions stands) can pushed front_listed,
            (p.positions, stands),
          )));
    }
