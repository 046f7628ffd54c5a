-- Parts of the aggregations of a request, one after another.
use Rattle.std.proofs.Common.{◌≡◌, ℕ, zero, suc, ◌+◌, ◌<◌, ◌^◌, length-append, List, [], ◌∷◌, ◌++◌, take, length, get_or, sym, ◌∙◌, subst, arith}
use Rattle.std.specs.List.{AllZip}
use Rattle.doc_value.specs.declared.doc.DocField.{DocField}
use Rattle.agg_model.proofs.Parts.{all_zip_at}
use Rattle.agg_nested.specs.Buckets.{PartStands, NestedStands, IsPartFor, ArePartsFor, IsNestedPartial}
use Rattle.agg_nested.specs.Zipped.{IsZipped}
use Rattle.agg_nested.specs.declared.nested_partial.NestedPart.{NestedPart}
use Rattle.agg_nested.specs.declared.nested_partial.NestedPartial.{NestedPartial}
use Rattle.agg_nested.specs.declared.request.NestedAgg.{NestedAgg}
use Rattle.agg_nested.proofs.Zipped.{zipped_stand}

-- a document more, behind so many
abbrev pub IsOneMore : List DocField → ℕ → NestedAgg → NestedAgg → NestedPart → NestedPart → Type 0
IsOneMore doc many asked same old new = (docs : List (List DocField)) → length docs ≡ many → PartStands asked old docs → PartStands asked new (docs ++ doc ∷ [])

-- another part
abbrev pub IsJoined : NestedAgg → NestedPart → NestedPart → NestedPart → Type 0
IsJoined asked other old new = (mine yours : List (List DocField)) → PartStands asked old mine → PartStands asked other yours → PartStands asked new (mine ++ yours)

-- what holds of the item at a place, which is not changed yet
pub holds_at : {A B : Type 0} (P : A → B → Type 0) (xs : List A) (old now : List B) (i : ℕ) (a : A) (b : B)
    → i < length xs → a ≡ get_or xs i a → AllZip P xs old → get_or now i b ≡ get_or old i b → b ≡ get_or now i b → P a b
holds_at P xs old now i a b within is h same at =
    let there = all_zip_at P xs old i a b h within in
    subst (λ p. P a p) (sym (at ∙ same)) (subst (λ n. P n (get_or old i b)) (sym is) there)

-- one more pair behind
pub holds_push : {A B : Type 0} (P : A → B → Type 0) (xs : List A) (ys : List B) (i : ℕ) (a : A) (b : B) → i < length xs → a ≡ get_or xs i a
    → AllZip P (take i xs) ys → P a b → AllZip P (take (i + 1) xs) (ys ++ b ∷ [])
holds_push {A} {B} P xs ys i a b l is h k =
    let next : suc i ≡ i + 1 = omega arith in
    subst (λ n. AllZip P (take n xs) (ys ++ b ∷ [])) next (go xs ys i l is h)
  where
    go : (xs : List A) (ys : List B) (i : ℕ) → i < length xs → a ≡ get_or xs i a → AllZip P (take i xs) ys → AllZip P (take (suc i) xs) (ys ++ b ∷ [])
    go [] ys i l is h = absurd (omega (arith, l))
    go (x ∷ xs) [] zero l is h = (subst (λ n. P n b) is k, tt)
    go (x ∷ xs) (y ∷ ys) zero l is h = absurd h
    go (x ∷ xs) [] (suc i) l is h = absurd h
    go (x ∷ xs) (y ∷ ys) (suc i) l is h = (h.0, go xs ys i (omega (arith, l)) is h.1)

-- all stand for a document more
pub one_more : (doc : List DocField) (many : ℕ) (request : List NestedAgg) (old new : List NestedPart) → IsZipped (IsOneMore doc many) request request old new
    → (docs : List (List DocField)) → length docs ≡ many → AllZip (λ (a : NestedAgg) (p : NestedPart). PartStands a p docs) request old
    → AllZip (λ (a : NestedAgg) (p : NestedPart). PartStands a p (docs ++ doc ∷ [])) request new
one_more doc many [] [] [] zipped docs l h = tt
one_more doc many [] [] (p ∷ new) zipped docs l h = absurd (let m = zipped.long in omega arith)
one_more doc many [] (p ∷ old) new zipped docs l h = absurd h
one_more doc many (n ∷ ns) old new zipped docs l h =
    zipped_stand (IsOneMore doc many) (λ (a : NestedAgg) (p : NestedPart). PartStands a p docs) (λ (a : NestedAgg) (p : NestedPart). PartStands a p (docs ++ doc ∷ [])) (λ a b. Unit {0})
    (λ a c b d step k u. step docs l k) (n ∷ ns) (n ∷ ns) old new h (λ k a c l. tt) n zipped

pub all_joined : (request : List NestedAgg) (others old new : List NestedPart) → IsZipped IsJoined request others old new
    → (mine yours : List (List DocField)) → AllZip (λ (a : NestedAgg) (p : NestedPart). PartStands a p mine) request old → AllZip (λ (a : NestedAgg) (p : NestedPart). PartStands a p yours) request others
    → AllZip (λ (a : NestedAgg) (p : NestedPart). PartStands a p (mine ++ yours)) request new
all_joined [] others [] [] zipped mine yours h k = tt
all_joined [] others [] (p ∷ new) zipped mine yours h k = absurd (let m = zipped.long in omega arith)
all_joined [] others (p ∷ old) new zipped mine yours h k = absurd h
all_joined (n ∷ ns) [] old new zipped mine yours h k = absurd k
all_joined (n ∷ ns) (o ∷ others) old new zipped mine yours h k =
    zipped_stand IsJoined (λ (a : NestedAgg) (p : NestedPart). PartStands a p mine) (λ (a : NestedAgg) (p : NestedPart). PartStands a p (mine ++ yours))
    (λ (a : NestedAgg) (p : NestedPart). PartStands a p yours) (λ a c b d step u v. step mine yours u v) (n ∷ ns) (o ∷ others) old new h
    (λ i a c l. all_zip_at (λ (a : NestedAgg) (p : NestedPart). PartStands a p yours) (n ∷ ns) (o ∷ others) i a c k l) o zipped

-- ---- parts of which each stands for so many documents

-- what is known where all stand for the same
pub parts_known : (request : List NestedAgg) (parts : List NestedPart) (docs : List (List DocField)) (number : ℕ) → length docs ≡ number
    → AllZip (λ (a : NestedAgg) (p : NestedPart). PartStands a p docs) request parts → ArePartsFor request number parts
parts_known [] [] docs number l h = tt
parts_known [] (p ∷ ps) docs number l h = absurd h
parts_known (a ∷ rest) [] docs number l h = absurd h
parts_known (a ∷ rest) (p ∷ ps) docs number l h = (record { documents = docs; stands = h.0; many = l }, parts_known rest ps docs number l h.1)

pub known_of : (request : List NestedAgg) (partial : NestedPartial) (docs : List (List DocField)) → length docs < 2 ^ 62 → NestedStands request partial docs → IsNestedPartial request partial
known_of request partial docs few h =
    let many : partial.documents ≡ length docs = h.many in
    record { few = omega (arith, few, many); parts = parts_known request partial.parts.items docs partial.documents (sym many) h.parts }

more_for : (doc : List DocField) (many : ℕ) (a c : NestedAgg) (old new : NestedPart) → IsOneMore doc many a c old new → IsPartFor a many old → IsPartFor a (many + 1) new
more_for doc many a c old new step h =
    let l : length (h.documents ++ doc ∷ []) ≡ length h.documents + 1 = length-append h.documents (doc ∷ []) in
    record { documents = h.documents ++ doc ∷ []; stands = step h.documents h.many h.stands; many = (let m = h.many in omega (arith, l, m)) }

pub one_more_known : (doc : List DocField) (many : ℕ) (request : List NestedAgg) (old new : List NestedPart) → IsZipped (IsOneMore doc many) request request old new
    → ArePartsFor request many old → ArePartsFor request (many + 1) new
one_more_known doc many [] [] [] zipped h = tt
one_more_known doc many [] [] (p ∷ new) zipped h = absurd (let m = zipped.long in omega arith)
one_more_known doc many [] (p ∷ old) new zipped h = absurd h
one_more_known doc many (n ∷ ns) old new zipped h =
    zipped_stand (IsOneMore doc many) (λ (a : NestedAgg) (p : NestedPart). IsPartFor a many p) (λ (a : NestedAgg) (p : NestedPart). IsPartFor a (many + 1) p) (λ a b. Unit {0})
    (λ a c b d step k u. more_for doc many a c b d step k) (n ∷ ns) (n ∷ ns) old new h (λ k a c l. tt) n zipped

joined_for : (mine yours : ℕ) (a : NestedAgg) (other old new : NestedPart) → IsJoined a other old new → IsPartFor a mine old → IsPartFor a yours other → IsPartFor a (mine + yours) new
joined_for mine yours a other old new step h k =
    let l : length (h.documents ++ k.documents) ≡ length h.documents + length k.documents = length-append h.documents k.documents in
    record { documents = h.documents ++ k.documents; stands = step h.documents k.documents h.stands k.stands; many = (let m = h.many in let n = k.many in omega (arith, l, m, n)) }

pub all_joined_known : (request : List NestedAgg) (others old new : List NestedPart) → IsZipped IsJoined request others old new
    → (mine yours : ℕ) → ArePartsFor request mine old → ArePartsFor request yours others → ArePartsFor request (mine + yours) new
all_joined_known [] others [] [] zipped mine yours h k = tt
all_joined_known [] others [] (p ∷ new) zipped mine yours h k = absurd (let m = zipped.long in omega arith)
all_joined_known [] others (p ∷ old) new zipped mine yours h k = absurd h
all_joined_known (n ∷ ns) [] old new zipped mine yours h k = absurd k
all_joined_known (n ∷ ns) (o ∷ others) old new zipped mine yours h k =
    zipped_stand IsJoined (λ (a : NestedAgg) (p : NestedPart). IsPartFor a mine p) (λ (a : NestedAgg) (p : NestedPart). IsPartFor a (mine + yours) p)
    (λ (a : NestedAgg) (p : NestedPart). IsPartFor a yours p) (λ a c b d step u v. joined_for mine yours a c b d step u v) (n ∷ ns) (o ∷ others) old new h
    (λ i a c l. all_zip_at (λ (a : NestedAgg) (p : NestedPart). IsPartFor a yours p) (n ∷ ns) (o ∷ others) i a c k l) o zipped
