use Rattle.std.proofs.Common.{◌++◌, ◌∙◌, ap, refl, subst, sym}
use Rattle.std.proofs.lemmas.Result.{IfOk-weaker}
use Rattle.input_lines.proofs.Asking.{ends_fault, ends_input, ends_line, ends_whole, took_last, took_line}
use Rattle.input_lines.specs.Asking.{TakesLine}
use Rattle.input_lines.specs.Held.{held as in_hand}
use Rattle.input_lines.specs.Pieces.{Comes, IsFault, IsFed}
use Rattle.input_lines.specs.declared.lines.Next.TheVariants as next
use Rattle.input_lines.specs.Requests.{HasRead}
use Rattle.input_lines.proofs.requests.take_next.Goals as goal

pub returns-in-Line-clause-goes : goal.returns-in-Line-clause-goes
returns-in-Line-clause-goes g c text going =
    let t = c.in_ok-next.ensures.comes going.behind going.left_is in
    let raw = c.next.new.self.line.items in
    let came : Comes next.Line c.args.lines.now.taken (in_hand c.args.lines.now ++ going.behind) raw c.next.new.self.taken (in_hand c.next.new.self ++ t.0) =
    subst (λ n. Comes n c.args.lines.now.taken (in_hand c.args.lines.now ++ going.behind) raw c.next.new.self.taken (in_hand c.next.new.self ++ t.0)) c.in-Line.is t.2 in
    IfOk-weaker c.take.result _ _
    (λ end did.
    took_line text (g.R.Source.left c.args.input.now) (in_hand c.args.lines.now) c.args.lines.now.taken c.args.taken.now.requests.items c.args.taken.now.clients.keys going
    raw c.next.new.self.taken (in_hand c.next.new.self ++ t.0) came (g.R.Source.left c.next.new.input) (in_hand c.next.new.self) t.0 t.1 refl
    (c.in_ok-next.ensures.fed (subst IsFed (sym c.in-Line.is) tt)) c.take.new.self.requests.items c.take.new.self.clients.keys end
    (subst (λ line. TakesLine line c.args.taken.now.requests.items c.take.new.self.requests.items end) c.line.ensures did.0) did.1)
    (c.take.ensures.takes going.clients)

pub returns-in_ok-end-in-Last-clause-goes : goal.returns-in_ok-end-in-Last-clause-goes
returns-in_ok-end-in-Last-clause-goes g c text going =
    let t = c.in_ok-next.ensures.comes going.behind going.left_is in
    let raw = c.next.new.self.line.items in
    let came : Comes next.Last c.args.lines.now.taken (in_hand c.args.lines.now ++ going.behind) raw c.next.new.self.taken (in_hand c.next.new.self ++ t.0) =
    subst (λ n. Comes n c.args.lines.now.taken (in_hand c.args.lines.now ++ going.behind) raw c.next.new.self.taken (in_hand c.next.new.self ++ t.0)) c.in-Last.is t.2 in
    let did = c.in_ok-end-in-Last.ensures.takes going.clients in
    subst (HasRead text (g.R.Source.left c.next.new.input) c.take-in-Last.new.self.requests.items) (sym c.or_whole.ensures)
    (took_last text (g.R.Source.left c.args.input.now) (in_hand c.args.lines.now) c.args.lines.now.taken c.args.taken.now.requests.items c.args.taken.now.clients.keys going
    raw c.next.new.self.taken (in_hand c.next.new.self ++ t.0) came.0 (g.R.Source.left c.next.new.input) c.take-in-Last.new.self.requests.items c.in_ok-end-in-Last.end came.1
    (subst (λ line. TakesLine line c.args.taken.now.requests.items c.take-in-Last.new.self.requests.items c.in_ok-end-in-Last.end) c.line-in-Last.ensures did.0))

pub returns-in-End-clause-goes : goal.returns-in-End-clause-goes
returns-in-End-clause-goes g c text going =
    let t = c.in_ok-next.ensures.comes going.behind going.left_is in
    ends_whole text (g.R.Source.left c.args.input.now) (in_hand c.args.lines.now) c.args.lines.now.taken c.args.taken.now.requests.items c.args.taken.now.clients.keys going (g.R.Source.left c.next.new.input)
    (subst (λ n. Comes n c.args.lines.now.taken (in_hand c.args.lines.now ++ going.behind) c.next.new.self.line.items c.next.new.self.taken (in_hand c.next.new.self ++ t.0)) c.in-End.is t.2)

pub returns-in-LineOver-clause-goes : goal.returns-in-LineOver-clause-goes
returns-in-LineOver-clause-goes g c text going =
    let t = c.in_ok-next.ensures.comes going.behind going.left_is in
    let came : Comes next.LineOver c.args.lines.now.taken (in_hand c.args.lines.now ++ going.behind) c.next.new.self.line.items c.next.new.self.taken (in_hand c.next.new.self ++ t.0) =
    subst (λ n. Comes n c.args.lines.now.taken (in_hand c.args.lines.now ++ going.behind) c.next.new.self.line.items c.next.new.self.taken (in_hand c.next.new.self ++ t.0)) c.in-LineOver.is t.2 in
    ends_line text (g.R.Source.left c.args.input.now) (in_hand c.args.lines.now) c.args.lines.now.taken c.args.taken.now.requests.items c.args.taken.now.clients.keys going (g.R.Source.left c.next.new.input)
    came.0 came.1 came.2 came.3

pub returns-in-InputOver-clause-goes : goal.returns-in-InputOver-clause-goes
returns-in-InputOver-clause-goes g c text going =
    let t = c.in_ok-next.ensures.comes going.behind going.left_is in
    let came : Comes next.InputOver c.args.lines.now.taken (in_hand c.args.lines.now ++ going.behind) c.next.new.self.line.items c.next.new.self.taken (in_hand c.next.new.self ++ t.0) =
    subst (λ n. Comes n c.args.lines.now.taken (in_hand c.args.lines.now ++ going.behind) c.next.new.self.line.items c.next.new.self.taken (in_hand c.next.new.self ++ t.0)) c.in-InputOver.is t.2 in
    ends_input text (g.R.Source.left c.args.input.now) (in_hand c.args.lines.now) c.args.lines.now.taken c.args.taken.now.requests.items c.args.taken.now.clients.keys going (g.R.Source.left c.next.new.input)
    came.0 came.1 came.2 came.3

pub returns-in-Fault-clause-goes : goal.returns-in-Fault-clause-goes
returns-in-Fault-clause-goes g c text going =
    let t = c.in_ok-next.ensures.comes going.behind going.left_is in
    let came : Comes next.Fault c.args.lines.now.taken (in_hand c.args.lines.now ++ going.behind) c.next.new.self.line.items c.next.new.self.taken (in_hand c.next.new.self ++ t.0) =
    subst (λ n. Comes n c.args.lines.now.taken (in_hand c.args.lines.now ++ going.behind) c.next.new.self.line.items c.next.new.self.taken (in_hand c.next.new.self ++ t.0)) c.in-Fault.is t.2 in
    let none = c.in_ok-next.ensures.none (subst IsFault (sym c.in-Fault.is) tt) in
    ends_fault text (g.R.Source.left c.args.input.now) (in_hand c.args.lines.now) c.args.lines.now.taken c.args.taken.now.requests.items c.args.taken.now.clients.keys going (g.R.Source.left c.next.new.input)
    c.next.new.self.line.items t.0 t.1 (came.0 ∙ ap (λ hand. c.next.new.self.line.items ++ (hand ++ t.0)) none) came.1
