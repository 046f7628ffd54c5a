use Rattle.std.proofs.Common.{◌≡◌, ◌∙◌, ◌++◌, List, ℕ, ap, arith}
use Rattle.std.proofs.Props.{props}
use Rattle.std.proofs.Math.Logic.{∥∥₁_elim, ∥∥₁_map}
use Rattle.split_build.specs.Bodies.{body_of}
use Rattle.split_build.proofs.BuilderLemmas.{can_take, other_body, taken_light, too_large}
use Rattle.split_build.proofs.builder.Builder.add.Goals as goal

pub overflow_add-weight : goal.overflow_add-weight
overflow_add-weight c = ∥∥₁_elim c.requires (hlevel props) (λ r. let light = taken_light c.args.self.now r.0 r.1 r.2 in omega (arith, light))

pub overflow_add-weight-2 : goal.overflow_add-weight-2
overflow_add-weight-2 c =
    ∥∥₁_elim c.requires (hlevel props)
    (λ r. let light = taken_light c.args.self.now r.0 r.1 r.2 in omega (arith, light, c.len.ensures, c.put_body.new.out.ok.0, c.put_body.new.out.small))

pub take-requires : goal.take-requires
take-requires c =
    let body : c.put_body.new.out.items ≡ body_of c.args.placed.now = c.in_ok-put_body.ensures.bytes ∙ ap (λ (l : List ℕ). l ++ body_of c.args.placed.now) c.clear.ensures.items in
    ∥∥₁_map c.requires (λ r. (
      r.0,
      r.1,
      can_take c.args.self.now c.put_body.new.out r.0 r.1 c.args.placed.now r.2 r.3 c.in_ok-put_body.ensures.held body
          (omega (arith, c.if-weight-gt-MAX_WEIGHT.false, c.len.ensures, c.put_body.new.out.ok.0)),
    ))

pub returns-then-weight-gt-MAX_WEIGHT : goal.returns-then-weight-gt-MAX_WEIGHT
returns-then-weight-gt-MAX_WEIGHT c = λ s ds h of_schema.
    let body : c.put_body.new.out.items ≡ body_of c.args.placed.now = c.in_ok-put_body.ensures.bytes ∙ ap (λ (l : List ℕ). l ++ body_of c.args.placed.now) c.clear.ensures.items in
    let light = taken_light c.args.self.now s ds h in (
      too_large c.args.self.now s ds c.args.placed.now c.put_body.new.out.items _ h body (omega (arith, c.len.ensures, c.put_body.new.out.ok.0)) (omega (arith, light, c.len.ensures, c.put_body.new.out.ok.0, c.put_body.new.out.small)) (omega (arith, c.if-weight-gt-MAX_WEIGHT.true)),
      other_body c.args.self.now c.put_body.new.out s ds h,
    )

pub returns : goal.returns
returns c = λ s ds h of_schema.
    let body : c.put_body.new.out.items ≡ body_of c.args.placed.now = c.in_ok-put_body.ensures.bytes ∙ ap (λ (l : List ℕ). l ++ body_of c.args.placed.now) c.clear.ensures.items in
    c.in_ok-take.ensures s ds (can_take c.args.self.now c.put_body.new.out s ds c.args.placed.now h of_schema c.in_ok-put_body.ensures.held body (omega (arith, c.if-weight-gt-MAX_WEIGHT.false, c.len.ensures, c.put_body.new.out.ok.0)))
