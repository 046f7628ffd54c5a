-- What the cases of a value say.
use Rattle.std.proofs.Common.{◌≡◌, ℕ, suc, max, nat_le, true, false, List, Option, Some, None, is_some, is_ok, refl, ap, arith, inl, inr}
use Rattle.std.proofs.lemmas.Bool.{cases_Bool}
use Rattle.std.specs.Option.{ok_or}
use Rattle.std.specs.Result.{result_ok}
use Rattle.std.proofs.lemmas.Bool.Decides.{nat_tests}
use Rattle.serde_json.specs.Data.{Data, null, boolean, number, string, array, object, Items, Members, depth, items_depth, members_depth}
use Rattle.serde_json.specs.Find.{as_null, as_array, as_object}
use Rattle.index_config.specs.declared.config.IndexConfig.{IndexConfig}
use Rattle.doc_mapping.specs.declared.reject.Reject.TheVariants.{WrongType}
use Rattle.doc_mapping.specs.Faults.{unless, members_fault, inner_fault}

pub ok-some : {T E : Type 0} (o : Option T) (e : E) → is_ok (ok_or o e) ≡ is_some o
ok-some None e = refl
ok-some (Some x) e = refl

pub ok-part : {T E : Type 0} (o : Option T) (e : E) → result_ok (ok_or o e) ≡ o
ok-part None e = refl
ok-part (Some x) e = refl

pub depth-array : (d : Data) (ds : Items) → Some ds ≡ as_array d → depth d ≡ suc (items_depth ds)
depth-array null ds e = cc
depth-array (boolean b) ds e = cc
depth-array (number n) ds e = cc
depth-array (string s) ds e = cc
depth-array (array xs) ds e = let same : xs ≡ ds = cc in ap (λ x. suc (items_depth x)) same
depth-array (object ms) ds e = cc

pub depth-object : (d : Data) (ms : Members) → Some ms ≡ as_object d → depth d ≡ suc (members_depth ms)
depth-object null ms e = cc
depth-object (boolean b) ms e = cc
depth-object (number n) ms e = cc
depth-object (string s) ms e = cc
depth-object (array xs) ms e = cc
depth-object (object xs) ms e = let same : xs ≡ ms = cc in ap (λ x. suc (members_depth x)) same

pub depth-flat : (d : Data) → None ≡ as_array d → None ≡ as_object d → depth d ≡ 0
depth-flat null e f = refl
depth-flat (boolean b) e f = refl
depth-flat (number n) e f = refl
depth-flat (string s) e f = refl
depth-flat (array xs) e f = cc
depth-flat (object xs) e f = cc

pub inner-object : (config : IndexConfig) (path : List ℕ) (d : Data) (ms : Members) → Some ms ≡ as_object d
    → inner_fault config path d ≡ members_fault config path ms
inner-object config path null ms e = cc
inner-object config path (boolean b) ms e = cc
inner-object config path (number n) ms e = cc
inner-object config path (string s) ms e = cc
inner-object config path (array xs) ms e = cc
inner-object config path (object xs) ms e = let same : xs ≡ ms = cc in ap (λ x. members_fault config path x) same

pub inner-other : (config : IndexConfig) (path : List ℕ) (d : Data) → None ≡ as_object d
    → inner_fault config path d ≡ unless (is_some (as_null d)) (WrongType path)
inner-other config path null e = refl
inner-other config path (boolean b) e = refl
inner-other config path (number n) e = refl
inner-other config path (string s) e = refl
inner-other config path (array xs) e = refl
inner-other config path (object xs) e = cc

-- the deeper of two is within a number of levels
pub max-deep : (a b n : ℕ) → nat_le a n ≡ false → nat_le (max a b) n ≡ false
max-deep a b n h = grind (arith, nat_tests)

pub max-flat : (a b n : ℕ) → nat_le a n ≡ true → nat_le (max a b) n ≡ nat_le b n
max-flat a b n h = elim (cases_Bool (nat_le b n)) [ inl fits ↦ grind (arith, nat_tests) | inr over ↦ grind (arith, nat_tests) ]
