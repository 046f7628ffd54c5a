use Rattle.std.proofs.Common.{◌≡◌, ◌+◌, ◌-◌, ◌≤◌, ℕ, refl, ap, sym, ◌∙◌, arith, take, drop, None, ◌++◌, inl, inr, [], subst, Ok, IsErr}
use Rattle.index_world.specs.Gate.{grace_of}
use Rattle.split_bundle.specs.Files.{file_bytes}
use Rattle.root_search.specs.Fetching.{IsPieceFetched, footer_drawn}
use Rattle.root_search.specs.FetchedSplits.{IsFile, IsFooterIn}
use Rattle.root_search.proofs.Fetches.{all_short, file_stands, handed_on, made_of, of_match, then_failed, then_given}
use Rattle.root_search.proofs.Tails.{long_enough, trailer_is, two_pieces}
use Rattle.split_bundle.specs.Reading.{footer_of}
use Rattle.split_bundle.specs.Views.{held}
use Rattle.root_search.specs.FetchCalls.{IsFooterGiven, IsNoFooter, IsPieceRead, NeverRefused, start_of}
use Rattle.root_search.proofs.CallsMade.{all_of, end_given, fault_where, no_start, none_called, read_ill, read_match, then_all, then_lost}
use Rattle.root_search.proofs.Stands.{configured_after}
use Rattle.root_search.proofs.fetching.read_footer.Goals as goal

pub returns-in_err-trailer-clause-step : goal.returns-in_err-trailer-clause-step
returns-in_err-trailer-clause-step g c = λ config s documents p core log stands configured file is long.
    handed_on (grace_of config c.args.plan.now) file.row.number g.G.Gate.Stands g.G.Gate.Between g.G.Gate.Adds g.G.Gate.bytes_fetched core log c.args.gate.now (IsPieceFetched (file_bytes p) c.saturating_sub-end.result 12) _ c.in_err-trailer.field-0.0 c.from_residual.result _ c.from_residual.ensures.1
    (c.in_err-trailer.ensures.step config (file_bytes p) core log stands configured file)

pub returns-in_err-start-clause-step : goal.returns-in_err-start-clause-step
returns-in_err-start-clause-step g c = λ config s documents p core log stands configured file is long.
    let whole : IsFile (file_bytes p) = record { schema = s; documents = documents; parts = p; is_split = is; bytes_are = refl } in
    let f = c.in_ok-trailer.ensures.step config (file_bytes p) core log stands configured file in
    let m = made_of (grace_of config c.args.plan.now) file.row.number g.G.Gate.Stands g.G.Gate.Between g.G.Gate.Adds g.G.Gate.bytes_fetched core log c.args.gate.now (IsPieceFetched (file_bytes p) c.saturating_sub-end.result 12) c.in_ok-trailer.trailer 1 12 _ f f.says.1.once f.says.1.few in
    let same = c.as_slice.ensures ∙ trailer_is (file_bytes p) c.in_ok-trailer.trailer.bytes c.args.size c.saturating_sub-end.result long c.saturating_sub-end.ensures f.says.1.bytes_are in
    all_short (grace_of config c.args.plan.now) file.row.number g.G.Gate.Stands g.G.Gate.Between g.G.Gate.Adds g.G.Gate.bytes_fetched core log c.args.gate.now _ c.from_residual-in_err-start.result c.in_err-start.field-0.0 1 12 _ m c.from_residual-in_err-start.ensures.1 (c.in_err-start.ensures.step (file_bytes p) whole long same)

pub returns-in_err-footer-clause-step : goal.returns-in_err-footer-clause-step
returns-in_err-footer-clause-step g c = λ config s documents p core log stands configured file is long.
    let f = c.in_ok-trailer.ensures.step config (file_bytes p) core log stands configured file in
    let m = made_of (grace_of config c.args.plan.now) file.row.number g.G.Gate.Stands g.G.Gate.Between g.G.Gate.Adds g.G.Gate.bytes_fetched core log c.args.gate.now (IsPieceFetched (file_bytes p) c.saturating_sub-end.result 12) c.in_ok-trailer.trailer 1 12 _ f f.says.1.once f.says.1.few in
    then_failed (grace_of config c.args.plan.now) file.row.number g.G.Gate.Stands g.G.Gate.Between g.G.Gate.Adds g.G.Gate.bytes_fetched core log c.args.gate.now g.met.G.Gate.adds_more (IsPieceFetched (file_bytes p) c.in_ok-start.start c.saturating_sub.result) _ c.in_err-footer.field-0.0 c.from_residual-in_err-footer.result 1 12 _ _ m
    c.from_residual-in_err-footer.ensures.1 (c.in_err-footer.ensures.step config (file_bytes p) m.after log m.stands (configured_after core m.after config configured m.goes_on.always) (file_stands core m.after (grace_of config c.args.plan.now).until c.args.plan.now c.args.place (file_bytes p) m.goes_on.always file))

pub returns-in_err-append-clause-step : goal.returns-in_err-append-clause-step
returns-in_err-append-clause-step g c = λ config s documents p core log stands configured file is long.
    let f = c.in_ok-trailer.ensures.step config (file_bytes p) core log stands configured file in
    let m = made_of (grace_of config c.args.plan.now) file.row.number g.G.Gate.Stands g.G.Gate.Between g.G.Gate.Adds g.G.Gate.bytes_fetched core log c.args.gate.now (IsPieceFetched (file_bytes p) c.saturating_sub-end.result 12) c.in_ok-trailer.trailer 1 12 _ f f.says.1.once f.says.1.few in
    let k = c.in_ok-footer.ensures.step config (file_bytes p) m.after log m.stands (configured_after core m.after config configured m.goes_on.always) (file_stands core m.after (grace_of config c.args.plan.now).until c.args.plan.now c.args.place (file_bytes p) m.goes_on.always file) in
    let two = then_given (grace_of config c.args.plan.now) file.row.number g.G.Gate.Stands g.G.Gate.Between g.G.Gate.Adds g.G.Gate.bytes_fetched core log c.args.gate.now g.met.G.Gate.adds_more (IsPieceFetched (file_bytes p) c.in_ok-start.start c.saturating_sub.result) c.in_ok-footer.footer 1 12 1 c.saturating_sub.result _ _ m k k.says.1.once k.says.1.few in
    all_short (grace_of config c.args.plan.now) file.row.number g.G.Gate.Stands g.G.Gate.Between g.G.Gate.Adds g.G.Gate.bytes_fetched core log c.args.gate.now _ c.from_residual-in_err-append.result _ 2 (12 + c.saturating_sub.result) _ two c.from_residual-in_err-append.ensures.1 tt

pub returns-clause-step : goal.returns-clause-step
returns-clause-step g c = λ config s documents p core log stands configured file is long.
    let bytes = file_bytes p in
    let whole : IsFile (file_bytes p) = record { schema = s; documents = documents; parts = p; is_split = is; bytes_are = refl } in
    let f = c.in_ok-trailer.ensures.step config bytes core log stands configured file in
    let m = made_of (grace_of config c.args.plan.now) file.row.number g.G.Gate.Stands g.G.Gate.Between g.G.Gate.Adds g.G.Gate.bytes_fetched core log c.args.gate.now (IsPieceFetched bytes c.saturating_sub-end.result 12) c.in_ok-trailer.trailer 1 12 _ f f.says.1.once f.says.1.few in
    let k = c.in_ok-footer.ensures.step config bytes m.after log m.stands (configured_after core m.after config configured m.goes_on.always) (file_stands core m.after (grace_of config c.args.plan.now).until c.args.plan.now c.args.place bytes m.goes_on.always file) in
    let two = then_given (grace_of config c.args.plan.now) file.row.number g.G.Gate.Stands g.G.Gate.Between g.G.Gate.Adds g.G.Gate.bytes_fetched core log c.args.gate.now g.met.G.Gate.adds_more (IsPieceFetched bytes c.in_ok-start.start c.saturating_sub.result) c.in_ok-footer.footer 1 12 1 c.saturating_sub.result _ _ m k k.says.1.once k.says.1.few in
    let end : ℕ = c.saturating_sub-end.result in
    let start : ℕ = c.in_ok-start.start in
    let ends : end ≡ c.args.size - 12 = c.saturating_sub-end.ensures in
    let trailer = trailer_is bytes c.in_ok-trailer.trailer.bytes c.args.size end long ends f.says.1.bytes_are in
    let starts = c.in_ok-start.ensures.step bytes whole long (c.as_slice.ensures ∙ trailer) in
    let here = starts s documents p is refl in
    let le : start ≤ end = omega (arith, here, ends, long) in
    let front : c.in_ok-footer.footer.bytes ≡ take (end - start) (drop start bytes) = k.says.1.bytes_are ∙ ap (λ (n : ℕ). take n (drop start bytes)) c.saturating_sub.ensures in
    let rest : c.as_slice-2.result.now ≡ drop end bytes = c.as_slice-2.ensures ∙ (trailer ∙ ap (λ (n : ℕ). drop n bytes) (sym ends)) in
    let tail = c.as_slice-3.ensures ∙ (c.in_ok-append.ensures.ok ∙ two_pieces bytes c.in_ok-footer.footer.bytes c.as_slice-2.result.now start end le front rest) in
    let room = long_enough bytes p refl in
    let few : 12 + c.saturating_sub.result ≤ footer_drawn None p = omega (arith, c.saturating_sub.ensures, here, ends, long, room) in
    of_match (grace_of config c.args.plan.now) file.row.number g.G.Gate.Stands g.G.Gate.Between g.G.Gate.Adds g.G.Gate.bytes_fetched core log c.args.gate.now (IsFooterIn bytes) _ c.footer_at.result 2 (12 + c.saturating_sub.result) _ two (c.footer_at.ensures.step bytes start whole long starts tail)
    (λ footer h. record { is_footer = h; calls = refl; few = few })

pub returns-in_err-trailer-clause-reads : goal.returns-in_err-trailer-clause-reads
returns-in_err-trailer-clause-reads g c =
    then_lost g.G.Gate.Stands g.G.Gate.Between g.G.Gate.Owns g.G.Gate.Adds g.G.Gate.bytes_fetched g.G.Gate.told g.G.Gate.Answers c.args.plan.now c.args.place (IsPieceRead c.saturating_sub-end.result 12) (IsFooterGiven None c.args.size) NeverRefused (IsNoFooter None c.args.size) c.in_err-trailer.field-0.0 c.from_residual.result [] c.args.gate.now c.args.gate.now _
    (none_called g.G.Gate.Stands g.G.Gate.Between g.G.Gate.Owns g.G.Gate.Adds g.G.Gate.bytes_fetched g.G.Gate.told g.G.Gate.Answers c.args.plan.now c.args.place c.args.gate.now) c.from_residual.ensures.1 (λ ys never. absurd never) c.in_err-trailer.ensures.reads

pub returns-in_err-start-clause-reads : goal.returns-in_err-start-clause-reads
returns-in_err-start-clause-reads g c =
    let f = c.in_ok-trailer.ensures.reads in
    let slice = c.as_slice.result.now in
    read_ill g.G.Gate.Stands g.G.Gate.Between g.G.Gate.Owns g.G.Gate.Adds g.G.Gate.bytes_fetched g.G.Gate.told g.G.Gate.Answers c.args.plan.now c.args.place (IsFooterGiven None c.args.size) (IsNoFooter None c.args.size) c.from_residual-in_err-start.result c.in_err-start.field-0.0 f.calls c.args.gate.now _ (all_of g.G.Gate.Stands g.G.Gate.Between g.G.Gate.Owns g.G.Gate.Adds g.G.Gate.bytes_fetched g.G.Gate.told g.G.Gate.Answers c.args.plan.now c.args.place (IsPieceRead c.saturating_sub-end.result 12) NeverRefused c.in_ok-trailer.trailer c.args.gate.now _ f)
    c.from_residual-in_err-start.ensures.1
    (fault_where (start_of (footer_of c.args.size slice) ≡ None) (IsNoFooter None c.args.size f.calls) c.in_err-start.field-0.0
    (λ none. inl (no_start c.args.size c.saturating_sub-end.result c.in_ok-trailer.trailer slice f.calls c.saturating_sub-end.ensures f.says.1 c.as_slice.ensures none)) c.in_err-start.ensures.exact)

pub returns-in_err-footer-clause-reads : goal.returns-in_err-footer-clause-reads
returns-in_err-footer-clause-reads g c =
    let f = c.in_ok-trailer.ensures.reads in
    then_lost g.G.Gate.Stands g.G.Gate.Between g.G.Gate.Owns g.G.Gate.Adds g.G.Gate.bytes_fetched g.G.Gate.told g.G.Gate.Answers c.args.plan.now c.args.place (IsPieceRead c.in_ok-start.start c.saturating_sub.result) (IsFooterGiven None c.args.size) NeverRefused (IsNoFooter None c.args.size) c.in_err-footer.field-0.0 c.from_residual-in_err-footer.result f.calls c.args.gate.now _ _
    (all_of g.G.Gate.Stands g.G.Gate.Between g.G.Gate.Owns g.G.Gate.Adds g.G.Gate.bytes_fetched g.G.Gate.told g.G.Gate.Answers c.args.plan.now c.args.place (IsPieceRead c.saturating_sub-end.result 12) NeverRefused c.in_ok-trailer.trailer c.args.gate.now _ f) c.from_residual-in_err-footer.ensures.1 (λ ys never. absurd never) c.in_err-footer.ensures.reads

pub returns-in_err-append-clause-reads : goal.returns-in_err-append-clause-reads
returns-in_err-append-clause-reads g c =
    let f = c.in_ok-trailer.ensures.reads in
    let k = c.in_ok-footer.ensures.reads in
    read_ill g.G.Gate.Stands g.G.Gate.Between g.G.Gate.Owns g.G.Gate.Adds g.G.Gate.bytes_fetched g.G.Gate.told g.G.Gate.Answers c.args.plan.now c.args.place (IsFooterGiven None c.args.size) (IsNoFooter None c.args.size) c.from_residual-in_err-append.result _ (f.calls ++ k.calls) c.args.gate.now _
    (then_all g.G.Gate.Stands g.G.Gate.Between g.G.Gate.Owns g.G.Gate.Adds g.G.Gate.bytes_fetched g.G.Gate.told g.G.Gate.Answers c.args.plan.now c.args.place (IsPieceRead c.in_ok-start.start c.saturating_sub.result) NeverRefused c.in_ok-footer.footer f.calls c.args.gate.now _ _ (all_of g.G.Gate.Stands g.G.Gate.Between g.G.Gate.Owns g.G.Gate.Adds g.G.Gate.bytes_fetched g.G.Gate.told g.G.Gate.Answers c.args.plan.now c.args.place (IsPieceRead c.saturating_sub-end.result 12) NeverRefused c.in_ok-trailer.trailer c.args.gate.now _ f) k)
    c.from_residual-in_err-append.ensures.1 tt

pub returns-clause-reads : goal.returns-clause-reads
returns-clause-reads g c =
    let size = c.args.size in
    let f = c.in_ok-trailer.ensures.reads in
    let k = c.in_ok-footer.ensures.reads in
    let tail = c.as_slice-3.result.now in
    let end = end_given size c.saturating_sub-end.result c.in_ok-start.start c.saturating_sub.result c.in_ok-trailer.trailer c.in_ok-footer.footer c.as_slice.result.now c.as_slice-2.result.now tail f.calls k.calls c.saturating_sub-end.ensures c.saturating_sub.ensures f.says.1 k.says.1
    c.as_slice.ensures c.as_slice-2.ensures c.in_ok-start.ensures.exact (c.as_slice-3.ensures ∙ c.in_ok-append.ensures.ok) in
    read_match g.G.Gate.Stands g.G.Gate.Between g.G.Gate.Owns g.G.Gate.Adds g.G.Gate.bytes_fetched g.G.Gate.told g.G.Gate.Answers c.args.plan.now c.args.place (λ footer. footer_of size tail ≡ Ok (held footer)) (IsFooterGiven None size) (IsNoFooter None size) (IsErr (footer_of size tail)) c.footer_at.result (f.calls ++ k.calls) c.args.gate.now _
    (then_all g.G.Gate.Stands g.G.Gate.Between g.G.Gate.Owns g.G.Gate.Adds g.G.Gate.bytes_fetched g.G.Gate.told g.G.Gate.Answers c.args.plan.now c.args.place (IsPieceRead c.in_ok-start.start c.saturating_sub.result) NeverRefused c.in_ok-footer.footer f.calls c.args.gate.now _ _ (all_of g.G.Gate.Stands g.G.Gate.Between g.G.Gate.Owns g.G.Gate.Adds g.G.Gate.bytes_fetched g.G.Gate.told g.G.Gate.Answers c.args.plan.now c.args.place (IsPieceRead c.saturating_sub-end.result 12) NeverRefused c.in_ok-trailer.trailer c.args.gate.now _ f) k)
    c.footer_at.ensures.exact (λ footer h. (end.0, end.1 ∙ h)) (λ e. inr (end.0, subst IsErr (sym end.1) e))
