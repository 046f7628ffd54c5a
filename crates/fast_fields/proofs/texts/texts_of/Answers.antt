use Rattle.std.proofs.Common.{List, ℕ, Vec, Global, sym, subst}
use Rattle.std.specs.Prelude.{All, Contains, IfOk, Result, Ok, Err}
use Rattle.std.specs.Borrow.{Bor}
use Rattle.std.proofs.lemmas.List.Sorted.{All-permutation, Contains-permutation, IsPermutation-map}
use Rattle.fast_fields.specs.Columns.{Cell, SomeText, cells}
use Rattle.fast_fields.specs.Texts.{EachIsAmong, IsCellText, texts_in}
use Rattle.std.specs.declared.alloc.AllocError.{AllocError}
use Rattle.fast_fields.proofs.texts.texts_of.Goals as goal

pub returns-clause-texts : goal.returns-clause-texts
returns-clause-texts c =
    let sorted = All-permutation (IsCellText (cells c.args.rows.now)) c.in_ok-all.all.items c.sort.new.self.items c.in_ok-sort.ensures.permutation c.in_ok-all.ensures.texts in
    c.distinct.ensures.texts (cells c.args.rows.now) (subst (λ (l : List (Bor (List ℕ))). All (IsCellText (cells c.args.rows.now)) l) (sym c.deref.ensures.value) sorted)

each_ok : (cs : List Cell) (r : Result (Vec (Bor (List ℕ)) Global) AllocError) → ((t : List ℕ) → SomeText cs t → IfOk r (λ v. Contains (texts_in v.items) t)) → IfOk r (λ v. EachIsAmong cs (texts_in v.items))
each_ok cs (Ok v) h = h
each_ok cs (Err e) h = tt

pub returns-clause-each : goal.returns-clause-each
returns-clause-each c =
    each_ok (cells c.args.rows.now) c.distinct.result (λ t some.
    (let moved = IsPermutation-map (λ (b : Bor (List ℕ)). b.now) c.in_ok-all.all.items c.sort.new.self.items c.in_ok-sort.ensures.permutation in
    let there : Contains (texts_in c.sort.new.self.items) t = Contains-permutation (texts_in c.in_ok-all.all.items) (texts_in c.sort.new.self.items) t moved (c.in_ok-all.ensures.each t some) in
    c.distinct.ensures.each t (subst (λ (l : List (Bor (List ℕ))). Contains (texts_in l) t) (sym c.deref.ensures.value) there)))
