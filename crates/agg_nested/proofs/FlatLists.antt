-- Parts of nested aggregations, one after another.
use Rattle.std.proofs.Common.{◌≡◌, ℕ, zero, suc, ◌<◌, ◌+◌, List, [], ◌∷◌, ◌++◌, take, length, get_or, sym, ◌∙◌, subst, arith}
use Rattle.doc_value.specs.declared.doc.DocField.{DocField}
use Rattle.agg_model.proofs.Parts.{all_zip_at, all_zip_long}
use Rattle.agg_nested.specs.Partials.{FlatStands, AreStanding}
use Rattle.agg_nested.specs.Zipped.{IsZipped}
use Rattle.agg_nested.specs.declared.flat_part.FlatPart.{FlatPart}
use Rattle.agg_nested.specs.declared.request.NamedFlat.{NamedFlat}
use Rattle.agg_nested.proofs.Zipped.{zipped_stand}

-- a document more
abbrev pub IsOneMore : List DocField → NamedFlat → NamedFlat → FlatPart → FlatPart → Type 0
IsOneMore doc named same old new = (documents : List (List DocField)) → FlatStands named.agg old documents → FlatStands named.agg new (documents ++ doc ∷ [])

-- another part
abbrev pub IsJoined : NamedFlat → FlatPart → FlatPart → FlatPart → Type 0
IsJoined named other old new = (mine yours : List (List DocField)) → FlatStands named.agg old mine → FlatStands named.agg other yours → FlatStands named.agg new (mine ++ yours)

-- the part at a place, not changed yet
pub stands_at : (nested : List NamedFlat) (old now : List FlatPart) (documents : List (List DocField)) (i : ℕ) (named : NamedFlat) (part : FlatPart)
    → i < length nested → named ≡ get_or nested i named → AreStanding nested old documents → get_or now i part ≡ get_or old i part → part ≡ get_or now i part
    → FlatStands named.agg part documents
stands_at nested old now documents i named part within is h same at =
    let there = all_zip_at (λ (n : NamedFlat) (p : FlatPart). FlatStands n.agg p documents) nested old i named part h within in
    subst (λ (p : FlatPart). FlatStands named.agg p documents) (sym (at ∙ same)) (subst (λ (n : NamedFlat). FlatStands n.agg (get_or old i part) documents) (sym is) there)

some_named : (nested : List NamedFlat) → 0 < length nested → NamedFlat
some_named [] l = absurd (omega arith)
some_named (n ∷ ns) l = n

-- all stand for a document more
pub one_more : (doc : List DocField) (nested : List NamedFlat) (old new : List FlatPart) → IsZipped (IsOneMore doc) nested nested old new
    → (documents : List (List DocField)) → AreStanding nested old documents → AreStanding nested new (documents ++ doc ∷ [])
one_more doc [] [] [] zipped documents h = tt
one_more doc [] old (p ∷ new) zipped documents h = absurd (let l = zipped.long in let k = all_zip_long (λ (n : NamedFlat) (p : FlatPart). FlatStands n.agg p documents) [] old h in omega arith)
one_more doc [] (p ∷ old) new zipped documents h = absurd h
one_more doc (n ∷ ns) old new zipped documents h =
    zipped_stand (IsOneMore doc) (λ (m : NamedFlat) (p : FlatPart). FlatStands m.agg p documents) (λ (m : NamedFlat) (p : FlatPart). FlatStands m.agg p (documents ++ doc ∷ [])) (λ a b. Unit {0})
    (λ a c b d step k u. step documents k) (n ∷ ns) (n ∷ ns) old new h (λ k a c l. tt) n zipped

pub all_joined : (nested : List NamedFlat) (others old new : List FlatPart) → IsZipped IsJoined nested others old new
    → (mine yours : List (List DocField)) → AreStanding nested old mine → AreStanding nested others yours → AreStanding nested new (mine ++ yours)
all_joined [] others [] [] zipped mine yours h k = tt
all_joined [] others old (p ∷ new) zipped mine yours h k = absurd (let l = zipped.long in let m = all_zip_long (λ (n : NamedFlat) (p : FlatPart). FlatStands n.agg p mine) [] old h in omega arith)
all_joined [] others (p ∷ old) new zipped mine yours h k = absurd h
all_joined (n ∷ ns) [] old new zipped mine yours h k = absurd k
all_joined (n ∷ ns) (o ∷ others) old new zipped mine yours h k =
    zipped_stand IsJoined (λ (m : NamedFlat) (p : FlatPart). FlatStands m.agg p mine) (λ (m : NamedFlat) (p : FlatPart). FlatStands m.agg p (mine ++ yours))
    (λ (m : NamedFlat) (p : FlatPart). FlatStands m.agg p yours) (λ a c b d step u v. step mine yours u v) (n ∷ ns) (o ∷ others) old new h
    (λ i a c l. all_zip_at (λ (m : NamedFlat) (p : FlatPart). FlatStands m.agg p yours) (n ∷ ns) (o ∷ others) i a c k l) o zipped

-- one more pair behind
pub stand_push : (nested : List NamedFlat) (parts : List FlatPart) (i : ℕ) (named : NamedFlat) (part : FlatPart) → i < length nested → named ≡ get_or nested i named
    → AreStanding (take i nested) parts [] → FlatStands named.agg part [] → AreStanding (take (i + 1) nested) (parts ++ part ∷ []) []
stand_push nested parts i named part l is h k =
    let next : suc i ≡ i + 1 = omega arith in
    subst (λ n. AreStanding (take n nested) (parts ++ part ∷ []) []) next (go nested parts i l is h)
  where
    go : (nested : List NamedFlat) (parts : List FlatPart) (i : ℕ) → i < length nested → named ≡ get_or nested i named
        → AreStanding (take i nested) parts [] → AreStanding (take (suc i) nested) (parts ++ part ∷ []) []
    go [] parts i l is h = absurd (omega (arith, l))
    go (n ∷ ns) [] zero l is h = (subst (λ (m : NamedFlat). FlatStands m.agg part []) is k, tt)
    go (n ∷ ns) (p ∷ ps) zero l is h = absurd h
    go (n ∷ ns) [] (suc i) l is h = absurd h
    go (n ∷ ns) (p ∷ ps) (suc i) l is h = (h.0, go ns ps i (omega (arith, l)) is h.1)
