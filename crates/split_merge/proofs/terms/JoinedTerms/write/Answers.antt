use Rattle.std.proofs.Common.{◌∙◌, List, ℕ, ap, length, refl, arith}
use Rattle.term_dict.specs.declared.term.TermInfo.{TermInfo}
use Rattle.split_bundle.specs.Lists.{posting_list, terms_of}
use Rattle.split_build.proofs.PostedLemmas.{posted_rise}
use Rattle.split_build.proofs.WrittenLemmas.{IsInfo, listed, terms_go_on}
use Rattle.split_merge.proofs.JoinedLemmas.{term_is, written_more}
use Rattle.split_merge.proofs.terms.JoinedTerms.write.Goals as goal

pub returns-clause-written : goal.returns-clause-written
returns-clause-written c = λ s ds keys kept h joined rise.
    let l = listed s ds c.args.key.now c.args.kept (posting_list s ds c.args.key.now) c.args.self.now.postings.items c.args.self.now.positions.items c.append.new.postings.items c.append.new.positions.items kept refl
    (c.in_ok-append.ensures (posting_list s ds c.args.key.now) h (posted_rise s c.args.key.now 0 ds)) in
    let info : TermInfo = record { docs = c.in_ok-narrow.field-0; postings = c.len-postings.result; postings_len = c.len_behind.result; positions = c.len-positions.result; positions_len = c.len_behind-2.result } in
    let i : IsInfo s ds c.args.key.now info c.args.self.now.postings.items c.args.self.now.positions.items c.append.new.postings.items c.append.new.positions.items = record {
      docs = c.in_ok-narrow.ensures ∙ c.len.ensures c.args.kept (posting_list s ds c.args.key.now) h;
      postings_start = omega (arith, c.len-postings.ensures, c.args.self.now.postings.ok.0);
      postings_size = omega (arith, c.len_behind.ensures, ap (λ (l : List ℕ). length l) c.deref.ensures.value, c.len-postings.ensures, c.args.self.now.postings.ok.0);
      positions_start = omega (arith, c.len-positions.ensures, c.args.self.now.positions.ok.0);
      positions_size = omega (arith, c.len_behind-2.ensures, ap (λ (l : List ℕ). length l) c.deref-2.ensures.value, c.len-positions.ensures, c.args.self.now.positions.ok.0);
    } in
    let is = term_is s ds keys c.args.key.now info c.args.self.now c.append.new.postings.items c.append.new.positions.items joined l i in
    written_more s ds keys c.args.key.now info c.args.self.now c.append.new.postings.items c.append.new.positions.items joined l _ refl refl refl is (c.in_ok-append-2.ensures (terms_of s ds keys) joined.taken (terms_go_on s ds keys c.args.key.now info rise is))
