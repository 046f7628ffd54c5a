use Rattle.std.proofs.Common.{◌<◌, [], List, get_or, length, refl, sym, subst, arith}
use Rattle.std.proofs.lemmas.Option.{slice_get_read}
use Rattle.term_postings.specs.declared.list.Posting.{Posting}
use Rattle.split_merge.specs.Joining.{Holds}
use Rattle.split_merge.specs.Merging.{Blames}
use Rattle.split_merge.specs.Walking.{IsBeyond, IsNotBelow, IsWalkOf}
use Rattle.split_merge.proofs.FrontLemmas.{all_but_set, alone_at, alone_walks, at_place}
use Rattle.split_merge.proofs.KeptLemmas.{fault_blames}
use Rattle.split_merge.proofs.UpToLemmas.{zip_at}
use Rattle.split_merge.proofs.key_lists.gather_alone.Goals as goal

pub returns-in-Ok-clause-walks : goal.returns-in-Ok-clause-walks
returns-in-Ok-clause-walks c = λ s last kept past are least apart.
    let i = c.args.place in
    let v = c.index-views-place.result in
    let e = c.index-walks-place.result in
    let w = get_or c.args.walks.now i e in
    let lt : i < length c.args.views.now = omega (arith, c.requires.place, c.requires.walks) in
    let own = zip_at (IsWalkOf s last) i c.args.views.now c.args.walks.now v v w e lt c.index-views-place.is refl are in
    let not_below = at_place (IsNotBelow c.args.key.now) i c.args.walks.now w e c.requires.place refl least in
    alone_walks s last c.args.key.now past i c.args.views.now c.args.walks.now v v c.take_key.new.walk c.index-views-place.is are least apart (c.in-Ok.ensures.walk s last kept past own not_below)

pub returns-in-Ok-clause-only : goal.returns-in-Ok-clause-only
returns-in-Ok-clause-only c = λ s last lists kept past are least apart of holds.
    let i = c.args.place in
    let v = c.index-views-place.result in
    let e = c.index-walks-place.result in
    let w = get_or c.args.walks.now i e in
    let table = c.index-numbers-place.result in
    let lt : i < length c.args.views.now = omega (arith, c.requires.place, c.requires.walks) in
    let own = zip_at (IsWalkOf s last) i c.args.views.now c.args.walks.now v v w e lt c.index-views-place.is refl are in
    let not_below = at_place (IsNotBelow c.args.key.now) i c.args.walks.now w e c.requires.place refl least in
    let a = alone_at s last c.args.key.now past i c.args.views.now c.args.walks.now lists c.args.numbers.now v v table table lt c.requires.numbers c.index-views-place.is c.index-numbers-place.is are least apart of in
    subst (λ (ps : List Posting). Holds c.args.kept c.take_key.new.list ps) (sym a.whole) (c.in-Ok.ensures.only s last a.documents a.views.0 kept past own not_below a.views.1 [] holds)

pub returns-in-Ok-clause-others : goal.returns-in-Ok-clause-others
returns-in-Ok-clause-others c = λ bound h. all_but_set (IsBeyond bound) c.args.place c.args.walks.now c.take_key.new.walk h

pub returns-in-Err-clause-cause : goal.returns-in-Err-clause-cause
returns-in-Err-clause-cause c = λ s last kept past are least.
    let i = c.args.place in
    let v = c.index-views-place.result in
    let e = c.index-walks-place.result in
    let w = get_or c.args.walks.now i e in
    let lt : i < length c.args.views.now = omega (arith, c.requires.place, c.requires.walks) in
    let own = zip_at (IsWalkOf s last) i c.args.views.now c.args.walks.now v v w e lt c.index-views-place.is refl are in
    let not_below = at_place (IsNotBelow c.args.key.now) i c.args.walks.now w e c.requires.place refl least in
    let there = slice_get_read c.args.views.now (length c.args.views.now) i v refl lt c.index-views-place.is in
    subst (Blames s c.args.views.now) (sym c.fault_of.ensures) (fault_blames s c.args.views.now i v c.in-Err.fault there (λ ds views. c.in-Err.ensures.only s last ds views.0 kept past own not_below views.1))

pub returns-in-Err-clause-others : goal.returns-in-Err-clause-others
returns-in-Err-clause-others c = λ bound h. all_but_set (IsBeyond bound) c.args.place c.args.walks.now c.take_key.new.walk h
