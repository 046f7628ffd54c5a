use Rattle.std.proofs.Common.{◌≡◌, ◌≤◌, ◌<◌, ◌+◌, ◌-◌, ◌^◌, ◌∙◌, ap, sym, refl, subst, arith, length, take, drop, ◌++◌, ◌∷◌, [], List, ℕ, Ok, Bool, true, false}
use Rattle.std.specs.Prelude.{◌==◌}
use Rattle.std.specs.List.{position_or_len}
use Rattle.std.proofs.lemmas.List.{append-nil, take_all, take_rest}
use Rattle.real_edge.specs.declared.log_lines.Reading.{Reading}
use Rattle.real_edge.proofs.Lines.{Goes, Takes, goes-on, goes-all, goes-full, front-front, feed-behind, no-bytes}
use Rattle.real_edge.proofs.log_lines.Reading.take.Goals as goal

pub add-requires : goal.add-requires
add-requires c =
    subst (λ (k : ℕ). position_or_len (λ b. b == 10) (take k c.loop-rest.rest.now) ≡ length (take k c.loop-rest.rest.now)) (sym c.front_len-count.ensures.value) (front-front c.loop-rest.rest.now)

pub returns-then-count-rest-clause-goes : goal.returns-then-count-rest-clause-goes
returns-then-count-rest-clause-goes c is =
    let rest : List ℕ = c.loop-rest.rest.now in
    let same = ap length c.in_ok-add.ensures.list in
    let all : rest ≡ take c.front_len-count.result rest ++ [] = sym (append-nil (take c.front_len-count.result rest) ∙ take_all c.front_len-count.result rest (omega arith)) in
    goes-all c.args.from c.args.most c.args.piece.now [] c.args.self.now c.add.new.self
    (goes-on c.args.from c.args.most c.args.piece.now rest (take c.front_len-count.result rest) [] c.args.self.now c.loop-rest.self c.add.new.self c.loop-rest.invariant all
    (λ bytes fits i. c.in_ok-add.ensures.reads bytes c.args.from c.args.most fits i) (λ few. omega (arith, same, few)))
    refl

pub returns-then-not-branch-clause-full : goal.returns-then-not-branch-clause-full
returns-then-not-branch-clause-full c is =
    let rest : List ℕ = c.loop-rest.rest.now in
    let n : ℕ = c.front_len-count.result in
    let same = ap length c.in_ok-add.ensures.list in
    let splits : rest ≡ take n rest ++ 10 ∷ drop (n + 1) rest = feed-behind rest n c.front_len-count.ensures.value (omega arith) in
    goes-full c.args.from c.args.most c.args.piece.now (10 ∷ drop (n + 1) rest) (drop (n + 1) rest) c.args.self.now c.add.new.self c.end_line.new.self
    (goes-on c.args.from c.args.most c.args.piece.now rest (take n rest) (10 ∷ drop (n + 1) rest) c.args.self.now c.loop-rest.self c.add.new.self c.loop-rest.invariant splits
    (λ bytes fits i. c.in_ok-add.ensures.reads bytes c.args.from c.args.most fits i) (λ few. omega (arith, same, few)))
    refl (c.in_ok-end_line.ensures.full (ap (λ (b : Bool). Ok b) c.if-not-branch.true))

pub loop-rest-preserved : goal.loop-rest-preserved
loop-rest-preserved c =
    let rest : List ℕ = c.loop-rest.rest.now in
    let n : ℕ = c.front_len-count.result in
    let same = ap length c.in_ok-add.ensures.list in
    let splits : rest ≡ take n rest ++ 10 ∷ drop (n + 1) rest = feed-behind rest n c.front_len-count.ensures.value (omega arith) in
    let one : Goes c.args.from c.args.most c.args.piece.now (10 ∷ drop (n + 1) rest) c.args.self.now c.add.new.self =
    goes-on c.args.from c.args.most c.args.piece.now rest (take n rest) (10 ∷ drop (n + 1) rest) c.args.self.now c.loop-rest.self c.add.new.self c.loop-rest.invariant splits
    (λ bytes fits i. c.in_ok-add.ensures.reads bytes c.args.from c.args.most fits i) (λ few. omega (arith, same, few)) in
    let two : Goes c.args.from c.args.most c.args.piece.now (drop (n + 1) rest) c.args.self.now c.end_line.new.self =
    goes-on c.args.from c.args.most c.args.piece.now (10 ∷ drop (n + 1) rest) (10 ∷ []) (drop (n + 1) rest) c.args.self.now c.add.new.self c.end_line.new.self one refl
    (λ bytes fits i. c.in_ok-end_line.ensures.goes (ap (λ (b : Bool). Ok b) c.if-not-branch.false) bytes fits i) c.in_ok-end_line.ensures.few in
    simp take_rest two

pub returns-clause-goes : goal.returns-clause-goes
returns-clause-goes c is =
    goes-all c.args.from c.args.most c.args.piece.now c.loop-rest.rest.now c.args.self.now c.loop-rest.self c.loop-rest.invariant (no-bytes c.loop-rest.rest.now (sym c.is_empty.ensures ∙ c.loop-rest-test.false))
