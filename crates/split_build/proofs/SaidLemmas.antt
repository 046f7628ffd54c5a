-- Equal texts, and how the occurrences of keys change with one more.
use Rattle.std.proofs.Common.{◌≡◌, ℕ, zero, suc, Bool, true, false, cond, List, [], ◌∷◌, ◌++◌, map, get_or, Some, refl, sym, ◌∙◌, ap, subst, inl, inr}
use Rattle.std.specs.Prelude.{Vec, Result, Ok, Err, IfOk, OnOk, slice_get, position, if◌then◌else◌}
use Rattle.std.specs.Bool.{beq}
use Rattle.std.specs.List.{AllByRecursion, AllZip, list_any}
use Rattle.std.specs.Str.{bytes_eq}
use Rattle.std.specs.declared.alloc.Global.{Global}
use Rattle.std.proofs.lemmas.List.{append-nil, map_push}
use Rattle.std.proofs.lemmas.List.Quantifiers.{position-Some}
use Rattle.std.proofs.lemmas.Option.{slice_get-get_or}
use Rattle.std.proofs.lemmas.Slice.Eq.{bytes_eq-Decides}
use Rattle.indexmap.specs.IndexSet.{insert_key}
use Rattle.doc_value.specs.declared.schema.Schema.{Schema}
use Rattle.split_bundle.specs.Lists.{keeps_places}
use Rattle.split_build.specs.declared.terms.Occurrences.{Occurrences}
use Rattle.split_build.specs.declared.terms.TermLog.{TermLog}
use Rattle.split_build.specs.Runs.{documents_of, places_of, runs_in}
use Rattle.split_build.specs.Said.{Said}
use Rattle.split_build.specs.HeldKeys.{key_bytes}
use Rattle.split_build.specs.HeldTerms.{said_with, IsNumberOf, HasOccurrences, HasSaid}
use Rattle.split_build.specs.Members.{IsAmong}
use Rattle.split_build.proofs.Zipped.{zip_push}

-- ---- equal texts

abbrev pub same_keys : Vec ℕ Global → Vec ℕ Global → Bool
same_keys a b = bytes_eq a.items b.items

pub eq_itself : (a : List ℕ) → bytes_eq a a ≡ true
eq_itself a = (bytes_eq-Decides a a).1 refl

pub eq_same : (a b : List ℕ) → bytes_eq a b ≡ true → a ≡ b
eq_same a b e = (bytes_eq-Decides a b).0 e

pub eq_false : (a b : List ℕ) → (a ≡ b → ⊥) → bytes_eq a b ≡ false
eq_false a b ne = by (bytes_eq a b) refl
  where
    by : (r : Bool) → bytes_eq a b ≡ r → bytes_eq a b ≡ false
    by true e = absurd (ne (eq_same a b e))
    by false e = e

pub false_ne : (a b : List ℕ) → bytes_eq a b ≡ false → a ≡ b → ⊥
false_ne a b e same =
    let wrong : true ≡ false = sym (eq_itself a) ∙ ap (λ (c : List ℕ). bytes_eq a c) same ∙ e in
    absurd cc

pub flipped : (a b : List ℕ) → bytes_eq a b ≡ false → bytes_eq b a ≡ false
flipped a b e = eq_false b a (λ same. false_ne a b e (sym same))

-- ---- keys

pub get_more : (ks more : List (List ℕ)) (i : ℕ) (x : List ℕ) → slice_get ks i ≡ Some x → slice_get (ks ++ more) i ≡ Some x
get_more [] more i x e = absurd cc
get_more (k ∷ ks) more zero x e = e
get_more (k ∷ ks) more (suc i) x e = get_more ks more i x e

pub keys_inserted : (old new : List (Vec ℕ Global)) (k : Vec ℕ Global) (key : List ℕ) → k.items ≡ key → new ≡ insert_key same_keys old k → (more : List (List ℕ)) × (key_bytes new ≡ key_bytes old ++ more) × AllByRecursion (λ m. m ≡ key) more
keys_inserted old new k key text is = by (list_any (same_keys k) old) refl
  where
    by : (b : Bool) → list_any (same_keys k) old ≡ b → (more : List (List ℕ)) × (key_bytes new ≡ key_bytes old ++ more) × AllByRecursion (λ m. m ≡ key) more
    by true there = ([], ap key_bytes (is ∙ ap (λ (b : Bool). if b then old else old ++ k ∷ []) there) ∙ sym (append-nil (key_bytes old)), tt)
    by false there = (
      key ∷ [],
      ap key_bytes (is ∙ ap (λ (b : Bool). if b then old else old ++ k ∷ []) there) ∙ map_push (λ (v : Vec ℕ Global). v.items) old k ∙ ap (λ (m : List ℕ). key_bytes old ++ m ∷ []) text,
      (refl, tt),
    )

get_key : (ks : List (Vec ℕ Global)) (n : ℕ) (k : Vec ℕ Global) → slice_get ks n ≡ Some k → slice_get (key_bytes ks) n ≡ Some k.items
get_key [] n k e = absurd cc
get_key (x ∷ xs) zero k e = let same : x ≡ k = cc in ap (λ (v : Vec ℕ Global). Some v.items) same
get_key (x ∷ xs) (suc n) k e = get_key xs n k e

pub key_stored : (ks : List (Vec ℕ Global)) (k other : Vec ℕ Global) (key : List ℕ) (n : ℕ) → k.items ≡ key → slice_get ks n ≡ Some other → same_keys k other ≡ true → slice_get (key_bytes ks) n ≡ Some key
key_stored ks k other key n text at same = get_key ks n other at ∙ ap (λ (m : List ℕ). Some m) (sym (eq_same k.items other.items same) ∙ text)

pub key_known : (ks : List (Vec ℕ Global)) (n : ℕ) (k : Vec ℕ Global) (given key : List ℕ) → slice_get ks n ≡ Some k → given ≡ k.items → bytes_eq given key ≡ true → slice_get (key_bytes ks) n ≡ Some key
key_known ks n k given key at is same = get_key ks n k at ∙ ap (λ (m : List ℕ). Some m) (sym is ∙ eq_same given key same)

found_by : (ks : List (Vec ℕ Global)) (key : List ℕ) (n : ℕ) (d : Vec ℕ Global) → position (λ (k : Vec ℕ Global). bytes_eq key k.items) ks ≡ Some n → slice_get (key_bytes ks) n ≡ Some key
found_by ks key n d is =
    let there = position-Some (λ (k : Vec ℕ Global). bytes_eq key k.items) ks n d is in
    get_key ks n (get_or ks n d) (slice_get-get_or ks n d there.0) ∙ ap (λ (m : List ℕ). Some m) (sym (eq_same key (get_or ks n d).items there.1))

pub key_found : (ks : List (Vec ℕ Global)) (key : List ℕ) (n : ℕ) → position (λ (k : Vec ℕ Global). bytes_eq key k.items) ks ≡ Some n → slice_get (key_bytes ks) n ≡ Some key
key_found [] key n is = absurd cc
key_found (k ∷ ks) key n is = found_by (k ∷ ks) key n k is

-- ---- of an `Ok`

pub on_ok : {X E : Type 0} (r : Result X E) (P : Type 0) → P → OnOk r P
on_ok (Ok x) P p = p
on_ok (Err e) P p = tt

pub narrowed : {E : Type 0} (r : Result ℕ E) (number : ℕ) (P : ℕ → Type 0) → IfOk r (λ n. n ≡ number) → P number → IfOk r P
narrowed (Ok n) number P is p = subst P (sym is) p
narrowed (Err e) number P is p = tt

pub on_three : {X E : Type 0} (r : Result X E) (A B C D : Type 0) → OnOk r A → OnOk r B → OnOk r C → (A → B → C → D) → OnOk r D
on_three (Ok x) A B C D a b c to = to a b c
on_three (Err e) A B C D a b c to = tt

-- where something is so, and where it need not be
pub on_places : {X E : Type 0} (r : Result X E) (b : Bool) (A : Type 0) → (b ≡ true → OnOk r A) → OnOk r (b ≡ true → A)
on_places (Ok x) b A a = a
on_places (Err e) b A a = tt

-- ---- an occurrence more

zip_wide : (ks more : List (List ℕ)) (os : List Said) (ns : List ℕ) → AllZip (IsNumberOf ks) os ns → AllZip (IsNumberOf (ks ++ more)) os ns
zip_wide ks more [] [] h = tt
zip_wide ks more [] (n ∷ ns) h = absurd h
zip_wide ks more (o ∷ os) [] h = absurd h
zip_wide ks more (o ∷ os) (n ∷ ns) h = (get_more ks more n o.key h.0, zip_wide ks more os ns h.1)

said_push : (kept : Bool) (s : Schema) (log : List Said) (o : Said) → said_with kept s (log ++ o ∷ []) ≡ (if beq (keeps_places s o.key) kept then said_with kept s log ++ o ∷ [] else said_with kept s log)
said_push kept s [] o = refl
said_push kept s (x ∷ xs) o = by (beq (keeps_places s x.key) kept) (beq (keeps_places s o.key) kept) (said_push kept s xs o)
  where
    by : (a b : Bool) → said_with kept s (xs ++ o ∷ []) ≡ cond b (said_with kept s xs ++ o ∷ []) (said_with kept s xs)
        → cond a (x ∷ said_with kept s (xs ++ o ∷ [])) (said_with kept s (xs ++ o ∷ [])) ≡ cond b (cond a (x ∷ said_with kept s xs) (said_with kept s xs) ++ o ∷ []) (cond a (x ∷ said_with kept s xs) (said_with kept s xs))
    by true true ih = ap (λ (l : List Said). x ∷ l) ih
    by true false ih = ap (λ (l : List Said). x ∷ l) ih
    by false true ih = ih
    by false false ih = ih

-- the occurrences stay, and keys may have come
wide : (ks more : List (List ℕ)) (kept : Bool) (os : List Said) (l : Occurrences) → HasOccurrences ks kept os l → HasOccurrences (ks ++ more) kept os l
wide ks more kept os l h = record { numbers = zip_wide ks more os l.numbers.items h.numbers; documents = h.documents; places = h.places }

-- one came behind the others
pub record IsPushed (kept : Bool) (number : ℕ) (o : Said) (l m : Occurrences) : Type 0 where
  pub numbers : m.numbers.items ≡ l.numbers.items ++ number ∷ []
  pub documents : documents_of (runs_in m) ≡ documents_of (runs_in l) ++ o.document ∷ []
  pub places : kept ≡ true → places_of (runs_in m) ≡ places_of (runs_in l) ++ o.place ∷ []

pushed : (ks : List (List ℕ)) (kept : Bool) (number : ℕ) (o : Said) (os : List Said) (l m : Occurrences) → slice_get ks number ≡ Some o.key → IsPushed kept number o l m → HasOccurrences ks kept os l → HasOccurrences ks kept (os ++ o ∷ []) m
pushed ks kept number o os l m at p h = record {
  numbers = subst (λ (ns : List ℕ). AllZip (IsNumberOf ks) (os ++ o ∷ []) ns) (sym p.numbers) (zip_push (IsNumberOf ks) os l.numbers.items o number h.numbers at);
  documents = p.documents ∙ ap (λ (ds : List ℕ). ds ++ o.document ∷ []) h.documents ∙ sym (map_push (λ (q : Said). q.document) os o);
  places = λ on. p.places on ∙ ap (λ (ps : List ℕ). ps ++ o.place ∷ []) (h.places on) ∙ sym (map_push (λ (q : Said). q.place) os o);
}

among_left : (ks more : List (List ℕ)) (key : List ℕ) → IsAmong ks key → IsAmong (ks ++ more) key
among_left [] more key h = absurd h
among_left (k ∷ ks) more key (inl same) = inl same
among_left (k ∷ ks) more key (inr later) = inr (among_left ks more key later)

among_last : (ks : List (List ℕ)) (key : List ℕ) → IsAmong (ks ++ key ∷ []) key
among_last [] key = inl refl
among_last (k ∷ ks) key = inr (among_last ks key)

used_still : (said : List (List ℕ)) (key : List ℕ) (ks : List (List ℕ)) → AllByRecursion (IsAmong said) ks → AllByRecursion (IsAmong (said ++ key ∷ [])) ks
used_still said key [] h = tt
used_still said key (k ∷ ks) h = (among_left said (key ∷ []) k h.0, used_still said key ks h.1)

used_new : (said : List (List ℕ)) (key : List ℕ) (ks : List (List ℕ)) → AllByRecursion (λ m. m ≡ key) ks → AllByRecursion (IsAmong (said ++ key ∷ [])) ks
used_new said key [] h = tt
used_new said key (k ∷ ks) h = (subst (λ (x : List ℕ). IsAmong (said ++ key ∷ []) x) (sym h.0) (among_last said key), used_new said key ks h.1)

used_join : (P : List ℕ → Type 0) (xs ys : List (List ℕ)) → AllByRecursion P xs → AllByRecursion P ys → AllByRecursion P (xs ++ ys)
used_join P [] ys h k = k
used_join P (x ∷ xs) ys h k = (h.0, used_join P xs ys h.1 k)

abbrev said_keys : List Said → List (List ℕ)
said_keys log = map (λ (p : Said). p.key) log

used_more : (log : List Said) (o : Said) (ks more new : List (List ℕ)) → new ≡ ks ++ more → AllByRecursion (λ m. m ≡ o.key) more → AllByRecursion (IsAmong (said_keys log)) ks → AllByRecursion (IsAmong (said_keys (log ++ o ∷ []))) new
used_more log o ks more new is each h =
    subst (λ (said : List (List ℕ)). AllByRecursion (IsAmong said) new) (sym (map_push (λ (p : Said). p.key) log o))
    (subst (λ (l : List (List ℕ)). AllByRecursion (IsAmong (said_keys log ++ o.key ∷ [])) l) (sym is)
    (used_join (IsAmong (said_keys log ++ o.key ∷ [])) ks more (used_still (said_keys log) o.key ks h) (used_new (said_keys log) o.key more each)))

-- what came to the keys
abbrev pub Comes : List (List ℕ) → List (List ℕ) → List ℕ → Type 0
Comes old new key = (more : List (List ℕ)) × (new ≡ old ++ more) × AllByRecursion (λ m. m ≡ key) more

again : (old new : List (List ℕ)) (key : List ℕ) (kept : Bool) (os : List Said) (l : Occurrences) → Comes old new key → HasOccurrences old kept os l → HasOccurrences new kept os l
again old new key kept os l c h = subst (λ (ks : List (List ℕ)). HasOccurrences ks kept os l) (sym c.1) (wide old c.0 kept os l h)

here : (kept : Bool) (s : Schema) (log : List Said) (o : Said) → kept ≡ keeps_places s o.key → said_with kept s (log ++ o ∷ []) ≡ said_with kept s log ++ o ∷ []
here kept s log o is =
    let yes : beq (keeps_places s o.key) kept ≡ true = ap (λ (b : Bool). beq b kept) (sym is) ∙ same kept in
    said_push kept s log o ∙ rw yes refl
  where
    same : (b : Bool) → beq b b ≡ true
    same true = refl
    same false = refl

elsewhere : (kept other : Bool) (s : Schema) (log : List Said) (o : Said) → beq kept other ≡ false → kept ≡ keeps_places s o.key → said_with other s (log ++ o ∷ []) ≡ said_with other s log
elsewhere kept other s log o apart is =
    let no : beq (keeps_places s o.key) other ≡ false = ap (λ (b : Bool). beq b other) (sym is) ∙ apart in
    said_push other s log o ∙ rw no refl

pub added_placed : (s : Schema) (log : List Said) (o : Said) (kept : Bool) (number : ℕ) (old new : TermLog) → kept ≡ true → kept ≡ keeps_places s o.key → Comes (key_bytes old.keys.keys) (key_bytes new.keys.keys) o.key → slice_get (key_bytes new.keys.keys) number ≡ Some o.key
    → IsPushed true number o old.placed new.placed → new.plain ≡ old.plain → HasSaid old s log → HasSaid new s (log ++ o ∷ [])
added_placed s log o kept number old new on is comes at p same h =
    let kept_is : true ≡ keeps_places s o.key = sym on ∙ is in
    record {
      placed = subst (λ (os : List Said). HasOccurrences (key_bytes new.keys.keys) true os new.placed) (sym (here true s log o kept_is))
          (pushed (key_bytes new.keys.keys) true number o (said_with true s log) old.placed new.placed at p (again (key_bytes old.keys.keys) (key_bytes new.keys.keys) o.key true (said_with true s log) old.placed comes h.placed));
      plain = subst (λ (os : List Said). HasOccurrences (key_bytes new.keys.keys) false os new.plain) (sym (elsewhere true false s log o refl kept_is))
          (subst (λ (l : Occurrences). HasOccurrences (key_bytes new.keys.keys) false (said_with false s log) l) (sym same) (again (key_bytes old.keys.keys) (key_bytes new.keys.keys) o.key false (said_with false s log) old.plain comes h.plain));
      used = used_more log o (key_bytes old.keys.keys) comes.0 (key_bytes new.keys.keys) comes.1 comes.2 h.used;
    }

pub added_plain : (s : Schema) (log : List Said) (o : Said) (kept : Bool) (number : ℕ) (old new : TermLog) → kept ≡ false → kept ≡ keeps_places s o.key → Comes (key_bytes old.keys.keys) (key_bytes new.keys.keys) o.key → slice_get (key_bytes new.keys.keys) number ≡ Some o.key
    → IsPushed false number o old.plain new.plain → new.placed ≡ old.placed → HasSaid old s log → HasSaid new s (log ++ o ∷ [])
added_plain s log o kept number old new off is comes at p same h =
    let kept_is : false ≡ keeps_places s o.key = sym off ∙ is in
    record {
      placed = subst (λ (os : List Said). HasOccurrences (key_bytes new.keys.keys) true os new.placed) (sym (elsewhere false true s log o refl kept_is))
          (subst (λ (l : Occurrences). HasOccurrences (key_bytes new.keys.keys) true (said_with true s log) l) (sym same) (again (key_bytes old.keys.keys) (key_bytes new.keys.keys) o.key true (said_with true s log) old.placed comes h.placed));
      plain = subst (λ (os : List Said). HasOccurrences (key_bytes new.keys.keys) false os new.plain) (sym (here false s log o kept_is))
          (pushed (key_bytes new.keys.keys) false number o (said_with false s log) old.plain new.plain at p (again (key_bytes old.keys.keys) (key_bytes new.keys.keys) o.key false (said_with false s log) old.plain comes h.plain));
      used = used_more log o (key_bytes old.keys.keys) comes.0 (key_bytes new.keys.keys) comes.1 comes.2 h.used;
    }
