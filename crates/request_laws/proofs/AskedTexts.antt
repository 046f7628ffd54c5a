-- The text of a delete that a request asks is UTF-8.
use Rattle.std.proofs.Common.{◌≡◌, ℕ, List, Bool, true, false, Option, Some, None, Result, Ok, Err, refl, ap, ◌∙◌, subst, codes, is_some, if◌then◌else◌, IsUtf8}
use Rattle.std.proofs.lemmas.Str.{IsUtf8-from_is_utf8}
use Rattle.std.specs.Prelude.{nat_le, ◌+◌, ⊤}
use Rattle.std.specs.Str.{is_utf8}
use Rattle.serde_json.specs.Data.{Data}
use Rattle.serde_json.specs.Find.{as_object, as_str, get}
use Rattle.serde_json.specs.Read.{read}
use Rattle.doc_value.specs.declared.schema.Schema.{Schema}
use Rattle.search_api.specs.Keys.{unknown_key}
use Rattle.search_api.specs.Kinds.{◌>>=◌, at, kept, needed, of_kind, paths_of, present, second_of}
use Rattle.search_api.specs.Requests.{asked, delete_of, max_wanted, request_in, request_of, search_of, selection_of, value_of, with_known_keys, written_search}
use Rattle.search_api.specs.Resolved.{IsDelete, IsSearch, Search, delete_in, query_in, resolved, search_in, searched, timed}
use Rattle.search_api.specs.declared.request.Request.{Request}
use Rattle.search_api.specs.declared.request.Request.TheVariants as requests
use Rattle.search_api.specs.declared.request.Selection.{Selection}
use Rattle.search_api.specs.declared.request_error.RequestError.{RequestError}
use Rattle.search_api.specs.declared.resolved.Deletion.{Deletion}
use Rattle.search_api.specs.declared.unanswered.Unanswered.{Unanswered}
use Rattle.request_laws.proofs.JsonTexts.{IsTextData, IsTextIfThere, key_text, read_text, str_text}

-- ---- results

pub ok_is : {E A : Type 0} (a b : A) → ◌≡◌ {A = Result A E} (Ok a) (Ok b) → a ≡ b
ok_is a b e = cc

err_ok : {E A : Type 0} (x : E) (a : A) → ◌≡◌ {A = Result A E} (Err x) (Ok a) → ⊥
err_ok x a e = cc

pub binds : {A B E : Type 0} (r : Result A E) (k : A → Result B E) (b : B) → (r >>= k) ≡ Ok b → (a : A) × (r ≡ Ok a) × (k a ≡ Ok b)
binds (Ok a) k b e = (a, refl, e)
binds (Err x) k b e = absurd (err_ok x b e)

-- what is so of what is given, where something is
abbrev Gives : {A E : Type 0} → (A → Type 0) → Result A E → Type 0
Gives P (Ok a) = P a
Gives P (Err x) = ⊤

gives_by : {A B E : Type 0} (P : B → Type 0) (r : Result A E) (k : A → Result B E) → ((a : A) → r ≡ Ok a → Gives P (k a)) → Gives P (r >>= k)
gives_by P (Ok a) k h = h a refl
gives_by P (Err x) k h = tt

given : {A E : Type 0} (P : A → Type 0) (r : Result A E) (a : A) → Gives P r → r ≡ Ok a → P a
given P r a h e = subst (Gives P) e h

-- ---- the text of a selection

kind_is : (name : List ℕ) (o : Option (List ℕ)) (t : List ℕ) → of_kind name o ≡ Ok (Some t) → o ≡ Some t
kind_is name None t e = absurd cc
kind_is name (Some x) t e = ok_is {E = RequestError} (Some x) (Some t) e

kept_text : (name : List ℕ) (o : Option Data) (t : List ℕ) → IsTextIfThere o → kept name as_str o ≡ Ok (Some t) → IsUtf8 t
kept_text name None t h e = absurd (let wrong : ◌≡◌ {A = Option (List ℕ)} None (Some t) = ok_is {E = RequestError} None (Some t) e in cc)
kept_text name (Some d) t h e = str_text d t h (kind_is name (as_str d) t e)

present_is : (name : List ℕ) (o : Option (List ℕ)) (t : List ℕ) → present name o ≡ Ok t → o ≡ Some t
present_is name None t e = absurd cc
present_is name (Some x) t e = ap Some (ok_is {E = RequestError} x t e)

needed_text : (name : List ℕ) (d : Data) (t : List ℕ) → IsTextData d → needed name as_str d ≡ Ok t → IsUtf8 t
needed_text name d t h e =
    let a = binds (at name as_str d) (present name) t e in
    kept_text name (get name d) t (key_text name d h) (a.1 ∙ ap Ok (present_is name a.0 t a.2))

abbrev AsksText : Selection → Type 0
AsksText s = IsUtf8 s.query

selection_gives : (d : Data) → IsTextData d → Gives AsksText (selection_of d)
unfolding selection_of
selection_gives d h =
    gives_by AsksText (needed (codes "query") as_str d) _ (λ query is.
    gives_by AsksText (at (codes "search_field") paths_of d) _ (λ fields f.
    gives_by AsksText (at (codes "start_timestamp") second_of d) _ (λ start b.
    gives_by AsksText (at (codes "end_timestamp") second_of d) _ (λ end l. needed_text (codes "query") d query h is))))

selection_text : (d : Data) (s : Selection) → IsTextData d → selection_of d ≡ Ok s → IsUtf8 s.query
selection_text d s h e = given AsksText (selection_of d) s (selection_gives d h) e

-- ---- the text of a request

abbrev AsksDelete : Request → Type 0
AsksDelete (requests.Search s) = ⊤
AsksDelete (requests.Delete s) = IsUtf8 s.query

if_gives : (b : Bool) (x y : Result Request RequestError) → Gives AsksDelete x → Gives AsksDelete y → Gives AsksDelete (if b then x else y)
if_gives true x y f g = f
if_gives false x y f g = g

delete_text : (d : Data) → IsTextData d → Gives AsksDelete (delete_of d)
unfolding delete_of
delete_text d h = if_gives (is_some (as_object d)) _ _ (gives_by AsksDelete (selection_of d) _ (λ s is. selection_text d s h is)) tt

search_text : (d : Data) → Gives AsksDelete (search_of d)
unfolding search_of
search_text d = if_gives (is_some (as_object d)) _ _ (gives_by AsksDelete (written_search d) _ (λ s is. if_gives (nat_le (s.start_offset + s.max_hits) max_wanted) _ _ tt tt)) tt

either_text : (delete search : Option Data) → IsTextIfThere delete → Gives AsksDelete (asked delete search)
either_text (Some d) search h = delete_text d h
either_text None (Some d) h = search_text d
either_text None None h = tt

keys_text : (o : Option (List ℕ)) (d : Data) → IsTextData d → Gives AsksDelete (with_known_keys o d)
keys_text (Some key) d h = tt
keys_text None d h = either_text (get (codes "delete") d) (get (codes "search") d) (key_text (codes "delete") d h)

value_text : (o : Option Data) → IsTextIfThere o → Gives AsksDelete (request_in o)
value_text None h = tt
value_text (Some d) h = if_gives (is_some (as_object d)) _ _ (keys_text (unknown_key d) d h) tt

request_text : (text : List ℕ) → Gives AsksDelete (request_of text)
request_text text = value_text (value_of text) (by (is_utf8 text) refl)
  where
    read_by : IsUtf8 text → (o : Option Data) → read text ≡ o → IsTextIfThere o
    read_by u None k = tt
    read_by u (Some d) k = read_text text d u k

    by : (b : Bool) → is_utf8 text ≡ b → IsTextIfThere (if b then read text else None)
    by true t = read_by (IsUtf8-from_is_utf8 text t) (read text) refl
    by false t = tt

-- ---- the text of a delete

abbrev HasText : Selection → Deletion → Type 0
HasText s deletion = s.query ≡ deletion.text

deletion_gives : (schema : Schema) (defaults : List ℕ) (s : Selection) → Gives (HasText s) (delete_in schema defaults s)
unfolding delete_in
deletion_gives schema defaults s =
    gives_by (HasText s) (searched schema.fields defaults s.fields) _ (λ numbers f. gives_by (HasText s) (timed schema s.times) _ (λ times t. gives_by (HasText s) (query_in schema numbers s.query) _ (λ query q. refl)))

deletion_text : (schema : Schema) (defaults : List ℕ) (s : Selection) (deletion : Deletion) → delete_in schema defaults s ≡ Ok deletion → s.query ≡ deletion.text
deletion_text schema defaults s deletion e = given (HasText s) (delete_in schema defaults s) deletion (deletion_gives schema defaults s) e

asked_delete_is : (a b : Deletion) → IsDelete a ≡ IsDelete b → a ≡ b
asked_delete_is a b e = cc

asked_apart : (x : Search) (d : Deletion) → IsSearch x ≡ IsDelete d → ⊥
asked_apart x d e = cc

pub deleted_utf8 : (schema : Schema) (defaults : List ℕ) (text : List ℕ) (request : Request) (deletion : Deletion) → request_of text ≡ Ok request → resolved schema defaults request ≡ Ok (IsDelete deletion) → IsUtf8 deletion.text
deleted_utf8 schema defaults text (requests.Search x) deletion is k =
    let a = binds (search_in schema defaults x) (λ search. Ok (IsSearch search)) (IsDelete deletion) k in
    absurd (asked_apart a.0 deletion (ok_is {E = Unanswered} (IsSearch a.0) (IsDelete deletion) a.2))
deleted_utf8 schema defaults text (requests.Delete s) deletion is k =
    let a = binds (delete_in schema defaults s) (λ d. Ok (IsDelete d)) (IsDelete deletion) k in
    let same = asked_delete_is a.0 deletion (ok_is {E = Unanswered} (IsDelete a.0) (IsDelete deletion) a.2) in
    subst IsUtf8 (deletion_text schema defaults s deletion (a.1 ∙ ap Ok same)) (given AsksDelete (request_of text) (requests.Delete s) (request_text text) is)
