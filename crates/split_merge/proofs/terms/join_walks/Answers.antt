use Rattle.std.proofs.Common.{List, [], ℕ, ◌∙◌, length, ap, arith}
use Rattle.std.specs.Option.{option_copied}
use Rattle.split_merge.specs.Walking.{IsWalkOf}
use Rattle.split_merge.proofs.FrontLemmas.{front_least, some_of}
use Rattle.split_merge.proofs.StandLemmas.{past_of, stands_first, stands_last, stands_next, tables_length}
use Rattle.split_merge.proofs.UpToLemmas.{zip_length}
use Rattle.split_merge.proofs.terms.join_walks.Goals as goal

pub loop-turn-init : goal.loop-turn-init
loop-turn-init c = record {
  count = omega (arith, (c.vacant-terms.ensures c.args.schema.now []).count);
  stands = stands_first c.args.schema.now c.args.numbers.now c.args.views.now c.args.walks.now c.vacant-terms.result c.requires.walks (c.vacant-terms.ensures c.args.schema.now);
  front = tt;
}

pub loop-turn-preserved : goal.loop-turn-preserved
loop-turn-preserved c =
    let stands = c.loop-turn.invariant.stands in
    let front = c.in-Some.front in
    let key = front.key.now in
    let past = past_of c.args.schema.now stands.last c.args.views.now c.loop-turn.walks key stands.walks_are (some_of front.walk key c.loop-turn.walks c.in-Some.ensures.at) in
    record {
      count = omega (arith, c.loop-turn.invariant.count, c.in_ok-take-in-Ok.ensures.count);
      stands = stands_next c.args.schema.now c.args.numbers.now c.args.views.now c.loop-turn.walks c.gather_front.new.walks c.loop-turn.terms c.take.new.self key c.keeps_places-kept.result c.gather_front.new.list stands
          (front_least front.walk key (option_copied front.bound) c.loop-turn.walks c.in-Some.ensures)
          (c.in-Ok.ensures.walks c.args.schema.now stands.last c.keeps_places-kept.ensures past stands.walks_are)
          (λ lists of. c.in-Ok.ensures.only c.args.schema.now stands.last lists c.keeps_places-kept.ensures past stands.walks_are of (c.clear.ensures c.keeps_places-kept.result))
          (λ ds holds next so_far. c.in_ok-take-in-Ok.ensures.taken c.args.schema.now ds stands.last c.keeps_places-kept.ensures holds past next so_far);
      front = c.in-Ok.ensures.front;
    }

pub returns-in_default-clause-only : goal.returns-in_default-clause-only
returns-in_default-clause-only c = λ dropped lists tables few of.
    stands_last c.args.schema.now c.args.numbers.now c.args.views.now c.loop-turn.walks c.loop-turn.terms c.finish.result c.loop-turn.invariant.stands c.in_default.ensures (c.finish.ensures c.args.schema.now) dropped lists (record { tables = tables; few = few; of = of })

pub gather_front-requires-clause-numbers : goal.gather_front-requires-clause-numbers
gather_front-requires-clause-numbers c = ap (λ (ts : List (List ℕ)). length ts) c.requires.numbers.1 ∙ tables_length c.requires.numbers.0 0 0 c.args.views.now

pub gather_front-requires-clause-walks : goal.gather_front-requires-clause-walks
gather_front-requires-clause-walks c = let stands = c.loop-turn.invariant.stands in zip_length (IsWalkOf c.args.schema.now stands.last) c.args.views.now c.loop-turn.walks stands.walks_are

pub take-requires : goal.take-requires
take-requires c = omega (arith, c.loop-turn.invariant.count, c.loop-turn-test.true)

pub returns-in-Err-clause-cause : goal.returns-in-Err-clause-cause
returns-in-Err-clause-cause c =
    let stands = c.loop-turn.invariant.stands in
    let past = past_of c.args.schema.now stands.last c.args.views.now c.loop-turn.walks c.in-Some.front.key.now stands.walks_are (some_of c.in-Some.front.walk c.in-Some.front.key.now c.loop-turn.walks c.in-Some.ensures.at) in
    c.in-Err.ensures.cause c.args.schema.now stands.last c.keeps_places-kept.ensures past stands.walks_are
