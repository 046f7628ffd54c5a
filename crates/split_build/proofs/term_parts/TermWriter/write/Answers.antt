use Rattle.std.proofs.Common.{◌≡◌, ◌∙◌, ◌-◌, Bool, List, ap, sym, subst, length, arith}
use Rattle.std.proofs.Props.{props}
use Rattle.std.proofs.Math.Logic.{∥∥₁_elim}
use Rattle.std.proofs.lemmas.List.{length-map}
use Rattle.term_postings.specs.declared.list.Posting.{Posting}
use Rattle.term_postings.specs.declared.list.Row.{Row}
use Rattle.term_postings.specs.Postings.{AreRising as NumbersRise, documents}
use Rattle.term_postings.specs.Rows.{lent, lent_one}
use Rattle.term_dict.specs.declared.term.TermInfo.{TermInfo}
use Rattle.split_bundle.specs.Lists.{keeps_places, posting_list, terms_of}
use Rattle.split_build.proofs.TermLemmas.{rows_posted, list_rises, list_posts, list_few, list_sizes, CanPost}
use Rattle.split_build.proofs.WrittenLemmas.{IsInfo, listed, term_is, terms_go_on, written_more}
use Rattle.split_build.proofs.Mere.{nat_set, post_prop, rising_prop}
use Rattle.split_build.proofs.term_parts.TermWriter.write.Goals as goal

pub append_postings-requires-clause-documents : goal.append_postings-requires-clause-documents
append_postings-requires-clause-documents c = ∥∥₁_elim c.requires (rising_prop _) (λ r.
    let posted = ap (λ (l : List Row). lent l) c.deref.ensures.value ∙ rows_posted c.args.schema.now r.0 c.args.key.now c.args.documents.now c.args.places.now c.keeps_places-kept.result (lent c.in_ok-rows.rows.items) r.1 c.keeps_places-kept.ensures c.in_ok-rows.ensures in
    subst (λ (ps : List Posting). NumbersRise (documents ps)) (sym posted) (list_rises c.args.schema.now r.0 c.args.key.now))

pub append_postings-requires-clause-each : goal.append_postings-requires-clause-each
append_postings-requires-clause-each c = ∥∥₁_elim c.requires (post_prop _ _) (λ r.
    let posted = ap (λ (l : List Row). lent l) c.deref.ensures.value ∙ rows_posted c.args.schema.now r.0 c.args.key.now c.args.documents.now c.args.places.now c.keeps_places-kept.result (lent c.in_ok-rows.rows.items) r.1 c.keeps_places-kept.ensures c.in_ok-rows.ensures in
    subst (λ (b : Bool). CanPost b (lent c.deref.result.now)) (sym c.keeps_places-kept.ensures)
    (subst (λ (ps : List Posting). CanPost (keeps_places c.args.schema.now c.args.key.now) ps) (sym posted) (list_posts c.args.schema.now r.0 c.args.key.now r.1.can)))

pub overflow_cast-info : goal.overflow_cast-info
overflow_cast-info c = ∥∥₁_elim c.requires (hlevel props) (λ r.
    let posted = rows_posted c.args.schema.now r.0 c.args.key.now c.args.documents.now c.args.places.now c.keeps_places-kept.result (lent c.in_ok-rows.rows.items) r.1 c.keeps_places-kept.ensures c.in_ok-rows.ensures in
    let few = list_few c.args.schema.now r.0 c.args.key.now r.1.can in
    let count : length (lent c.in_ok-rows.rows.items) ≡ length (posting_list c.args.schema.now r.0 c.args.key.now) = ap (λ (ps : List Posting). length ps) posted in
    let rows : length (lent c.in_ok-rows.rows.items) ≡ length c.in_ok-rows.rows.items = length-map c.in_ok-rows.rows.items lent_one in
    omega (arith, c.len.ensures, c.in_ok-rows.rows.ok.0, count, rows, few))

pub returns : goal.returns
returns c = λ ds keys h rise w.
    let posted = rows_posted c.args.schema.now ds c.args.key.now c.args.documents.now c.args.places.now c.keeps_places-kept.result (lent c.in_ok-rows.rows.items) h c.keeps_places-kept.ensures c.in_ok-rows.ensures in
    let count : length (lent c.in_ok-rows.rows.items) ≡ length (posting_list c.args.schema.now ds c.args.key.now) = ap (λ (ps : List Posting). length ps) posted in
    let rows : length (lent c.in_ok-rows.rows.items) ≡ length c.in_ok-rows.rows.items = length-map c.in_ok-rows.rows.items lent_one in
    let l = listed c.args.schema.now ds c.args.key.now c.keeps_places-kept.result (lent c.deref.result.now) c.args.self.now.postings.items c.args.self.now.positions.items c.append_postings.new.postings.items c.append_postings.new.places.items
    c.keeps_places-kept.ensures (ap (λ (x : List Row). lent x) c.deref.ensures.value ∙ posted) c.in_ok-append_postings.ensures in
    let info : TermInfo = record { docs = c.len.result; postings = c.len-postings.result; postings_len = c.len-2.result - c.len-postings.result; positions = c.len-positions.result; positions_len = c.len-3.result - c.len-positions.result } in
    let i : IsInfo c.args.schema.now ds c.args.key.now (record { docs = c.len.result; postings = c.len-postings.result; postings_len = c.len-2.result - c.len-postings.result; positions = c.len-positions.result; positions_len = c.len-3.result - c.len-positions.result })
    c.args.self.now.postings.items c.args.self.now.positions.items c.append_postings.new.postings.items c.append_postings.new.places.items = record {
      docs = omega (arith, c.len.ensures, c.in_ok-rows.rows.ok.0, count, rows);
      postings_start = omega (arith, c.len-postings.ensures, c.args.self.now.postings.ok.0);
      postings_size = omega (arith, c.len-2.ensures, c.len-postings.ensures, c.args.self.now.postings.ok.0, c.append_postings.new.postings.ok.0);
      positions_start = omega (arith, c.len-positions.ensures, c.args.self.now.positions.ok.0);
      positions_size = omega (arith, c.len-3.ensures, c.len-positions.ensures, c.args.self.now.positions.ok.0, c.append_postings.new.places.ok.0);
    } in
    let is = term_is c.args.schema.now ds keys c.args.key.now _ c.args.self.now c.append_postings.new.postings.items c.append_postings.new.places.items w l i in
    written_more c.args.schema.now ds keys c.args.key.now _ c.args.self.now _ w l is (c.in_ok-append.ensures (terms_of c.args.schema.now ds keys) w.taken (terms_go_on c.args.schema.now ds keys c.args.key.now _ rise is))

pub rows_of-requires : goal.rows_of-requires
rows_of-requires c on =
    ∥∥₁_elim c.requires (nat_set _ _) (λ r. list_sizes c.args.schema.now r.0 c.args.key.now c.args.documents.now c.args.places.now r.1 (sym c.keeps_places-kept.ensures ∙ on))
