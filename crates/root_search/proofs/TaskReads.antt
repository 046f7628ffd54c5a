-- The task of a delete that a text asks reads under the same configuration, with the same fields.
use Rattle.std.proofs.Common.{◌≡◌, ℕ, zero, suc, ◌+◌, Bool, true, false, List, [], ◌∷◌, map, refl, sym, ap, ap₂, ◌∙◌, arith, eq-eqb, slice_get, Option, Some, None, Result, Ok, Err}
use Rattle.std.proofs.lemmas.Map.Text.{is_eq-slice_cmp}
use Rattle.std.proofs.lemmas.Str.{is_utf8-from_IsUtf8}
use Rattle.std.specs.Option.{MatchOption, option_map_or}
use Rattle.std.specs.Ordering.{is_eq}
use Rattle.std.specs.Prelude.{if◌then◌else◌}
use Rattle.std.specs.Str.{IsUtf8, bytes_eq}
use Rattle.doc_value.specs.Documents.{IsBefore, IsSchema, PathsRise, number_from, number_of}
use Rattle.doc_value.specs.declared.facts.TimeRange.{TimeRange}
use Rattle.doc_value.specs.declared.schema.Field.{Field}
use Rattle.doc_value.specs.declared.schema.Kind.{Kind}
use Rattle.doc_value.specs.declared.schema.Kind.TheVariants as kinds
use Rattle.doc_value.specs.declared.schema.Schema.{Schema}
use Rattle.doc_value.proofs.Finding.{rise-between}
use Rattle.index_config.specs.Accepted.{AreTextFields, IsTextKind}
use Rattle.index_config.specs.declared.config.IndexConfig.{IndexConfig}
use Rattle.index_world.specs.Config.{has_text, in_front, query_with, read_query, text_field, text_number, text_numbers, unknown_path}
use Rattle.query_ast.specs.Meaning.{is_text}
use Rattle.query_ast.specs.Sought.{Sought}
use Rattle.query_reader.specs.Resolve.{query_of}
use Rattle.query_reader.specs.declared.refusal.QueryError.{QueryError}
use Rattle.search_api.specs.Kinds.{◌>>=◌}
use Rattle.search_api.specs.Requests.{request_of}
use Rattle.search_api.specs.Resolved.{IsDelete, IsSearch, Search, delete_in, known, path_at, query_in, query_or, resolved, search_in, searched, searched_paths, timed}
use Rattle.search_api.specs.Resolved as asking
use Rattle.search_api.specs.declared.reply.Refusal.TheVariants.{UnknownField}
use Rattle.search_api.specs.declared.request.Request.{Request}
use Rattle.search_api.specs.declared.request.Request.TheVariants as requests
use Rattle.search_api.specs.declared.request.Selection.{Selection}
use Rattle.search_api.specs.declared.resolved.Deletion.{Deletion}
use Rattle.search_api.specs.declared.unanswered.Unanswered.{Unanswered}
use Rattle.search_api.specs.declared.unanswered.Unanswered.TheVariants.{Refused}
use Rattle.root_search.specs.Requests.{asked_of, read_or}
use Rattle.root_search.proofs.TaskCalls.{never_ok, ok_one}

-- ---- a field is found by its path

same_path : (path : List ℕ) → bytes_eq path path ≡ true
same_path [] = refl
same_path (c ∷ cs) = rw (eq-eqb c c refl) (same_path cs)

other_path : (a b : List ℕ) → IsBefore a b → bytes_eq a b ≡ false
other_path a b l = sym (is_eq-slice_cmp a b) ∙ ap is_eq l

found_from : (fs : List Field) (n k : ℕ) (f : Field) → PathsRise fs → slice_get fs n ≡ Some f → number_from k fs f.path ≡ Some (k + n)
found_from [] n k f r e = absurd (let y : ◌≡◌ {A = Option Field} None (Some f) = e in cc)
found_from (x ∷ xs) zero k f r e =
    let y : ◌≡◌ {A = Option Field} (Some x) (Some f) = e in
    let z : x ≡ f = cc in
    let t : bytes_eq x.path f.path ≡ true = ap (λ (g : Field). bytes_eq x.path g.path) (sym z) ∙ same_path x.path in
    rw t (ap Some (let i : k ≡ k + 0 = omega arith in i))
found_from (x ∷ xs) (suc n) k f r e =
    let t : bytes_eq x.path f.path ≡ false = other_path x.path f.path (rise-between (x ∷ xs) 0 (suc n) x f r refl e (omega arith)) in
    rw t (found_from xs n (suc k) f (rest x xs r) e ∙ ap Some (let i : suc k + n ≡ k + suc n = omega arith in i))
  where
    rest : (x : Field) (xs : List Field) → PathsRise (x ∷ xs) → PathsRise xs
    rest x [] r = tt
    rest x (y ∷ ys) r = r.1

field_found : (fs : List Field) (n : ℕ) (f : Field) → PathsRise fs → slice_get fs n ≡ Some f → number_of fs f.path ≡ Some n
field_found fs n f r e = found_from fs n 0 f r e ∙ ap Some (let i : 0 + n ≡ n = omega arith in i)

-- ---- the default fields

text_kind : (kind : Kind) → IsTextKind kind → is_text kind ≡ true
text_kind kinds.Text h = refl
text_kind kinds.TextList h = refl
text_kind kinds.I64 h = absurd h
text_kind kinds.U64 h = absurd h
text_kind kinds.Bool h = absurd h
text_kind kinds.Datetime h = absurd h

-- a field with texts is the one of its number
if_text : (n : ℕ) (path : List ℕ) (b : Bool) → b ≡ true → ◌≡◌ {A = Result ℕ QueryError} (if b then Ok n else unknown_path path) (Ok n)
if_text n path true e = refl
if_text n path false e = absurd (let wrong : false ≡ true = e in cc)

default_read : (fields : List Field) (n : ℕ) → PathsRise fields → MatchOption (slice_get fields n) ⊥ (λ f. IsTextKind f.kind) → text_number fields (path_at fields n) ≡ Ok n
default_read fields n rise h = by (slice_get fields n) refl h
  where
    by : (o : Option Field) → slice_get fields n ≡ o → MatchOption o ⊥ (λ f. IsTextKind f.kind) → text_number fields (option_map_or (λ (f : Field). f.path) o []) ≡ Ok n
    by None e t = absurd t
    by (Some f) e t =
        ap (text_field fields f.path) (field_found fields n f rise e)
        ∙ if_text n f.path (has_text fields n) (ap (λ (o : Option Field). option_map_or (λ (g : Field). is_text g.kind) o false) e ∙ text_kind f.kind t)

defaults_read : (fields : List Field) (ns : List ℕ) → PathsRise fields → AreTextFields fields ns → text_numbers fields (map (path_at fields) ns) ≡ Ok ns
defaults_read fields [] rise h = refl
defaults_read fields (n ∷ ns) rise h = ap₂ in_front (default_read fields n rise h.0) (defaults_read fields ns rise h.1)

-- ---- fields that are named

kind_read : (m n : ℕ) (path : List ℕ) (b : Bool) → ◌≡◌ {A = Result ℕ Unanswered} (if b then Ok m else Err (Refused (UnknownField path))) (Ok n) → ◌≡◌ {A = Result ℕ QueryError} (if b then Ok m else unknown_path path) (Ok n)
kind_read m n path true h = ap (λ (k : ℕ). Ok k) (ok_one {E = Unanswered} m n h)
kind_read m n path false h = absurd (never_ok (Refused (UnknownField path)) n h)

path_read : (fields : List Field) (path : List ℕ) (n : ℕ) → asking.text_number fields path ≡ Ok n → text_number fields path ≡ Ok n
path_read fields path n h = by (number_of fields path) h
  where
    by : (o : Option ℕ) → (known path o >>= λ m. (if asking.has_text fields m then Ok m else Err (Refused (UnknownField path)))) ≡ Ok n → text_field fields path o ≡ Ok n
    by None k = absurd (never_ok (Refused (UnknownField path)) n k)
    by (Some m) k = kind_read m n path (has_text fields m) k

paths_step : (fields : List Field) (path : List ℕ) (paths : List (List ℕ)) (ns : List ℕ) → ((ms : List ℕ) → asking.text_numbers fields paths ≡ Ok ms → text_numbers fields paths ≡ Ok ms)
    → (one : Result ℕ Unanswered) → asking.text_number fields path ≡ one → (rest : Result (List ℕ) Unanswered) → asking.text_numbers fields paths ≡ rest
    → (one >>= λ m. rest >>= λ ms. Ok (m ∷ ms)) ≡ Ok ns → text_numbers fields (path ∷ paths) ≡ Ok ns
paths_step fields path paths ns again (Ok m) p (Ok ms) q h = ap₂ in_front (path_read fields path m p) (again ms q) ∙ ap (λ (k : List ℕ). Ok k) (ok_one {E = Unanswered} (m ∷ ms) ns h)
paths_step fields path paths ns again (Ok m) p (Err x) q h = absurd (never_ok x ns h)
paths_step fields path paths ns again (Err x) p rest q h = absurd (never_ok x ns h)

paths_read : (fields : List Field) (paths : List (List ℕ)) (ns : List ℕ) → asking.text_numbers fields paths ≡ Ok ns → text_numbers fields paths ≡ Ok ns
paths_read fields [] ns h = ap (λ (k : List ℕ). Ok k) (ok_one {E = Unanswered} [] ns h)
paths_read fields (path ∷ paths) ns h = paths_step fields path paths ns (paths_read fields paths) (asking.text_number fields path) refl (asking.text_numbers fields paths) refl h

fields_read : (fields : List Field) (defaults : List ℕ) (o : Option (List (List ℕ))) (ns : List ℕ) → PathsRise fields → AreTextFields fields defaults → searched fields defaults o ≡ Ok ns → text_numbers fields (searched_paths fields defaults o) ≡ Ok ns
fields_read fields defaults None ns rise texts h = defaults_read fields defaults rise texts ∙ ap (λ (k : List ℕ). Ok k) (ok_one {E = Unanswered} defaults ns h)
fields_read fields defaults (Some paths) ns rise texts h = paths_read fields paths ns h

-- ---- a delete

-- what a delete over a schema is, within these times
abbrev deletion_of : Schema → List ℕ → Selection → TimeRange → Deletion
deletion_of schema defaults s times = record { text = s.query; fields = searched_paths schema.fields defaults s.fields; times = times }

-- and of what it is made
record IsDeletion (schema : Schema) (defaults : List ℕ) (s : Selection) (deletion : Deletion) : Type 0 where
  pub numbers : List ℕ
  pub query : Sought
  pub fields_are : searched schema.fields defaults s.fields ≡ Ok numbers
  pub query_is : query_in schema numbers s.query ≡ Ok query
  pub text : deletion.text ≡ s.query
  pub fields : deletion.fields ≡ searched_paths schema.fields defaults s.fields

deletion_is : (schema : Schema) (defaults : List ℕ) (s : Selection) (deletion : Deletion) → delete_in schema defaults s ≡ Ok deletion → IsDeletion schema defaults s deletion
unfolding delete_in
deletion_is schema defaults s deletion h = by_fields (searched schema.fields defaults s.fields) refl h
  where
    by_query : (numbers : List ℕ) → searched schema.fields defaults s.fields ≡ Ok numbers → (times : TimeRange) → (r : Result Sought Unanswered) → query_in schema numbers s.query ≡ r
        → (r >>= λ query. Ok (deletion_of schema defaults s times)) ≡ Ok deletion → IsDeletion schema defaults s deletion
    by_query numbers p times (Ok query) q k =
        let same : deletion_of schema defaults s times ≡ deletion = ok_one {E = Unanswered} (deletion_of schema defaults s times) deletion k in
        record { numbers = numbers; query = query; fields_are = p; query_is = q; text = ap (λ (d : Deletion). d.text) (sym same); fields = ap (λ (d : Deletion). d.fields) (sym same) }
    by_query numbers p times (Err x) q k = absurd (never_ok x deletion k)

    by_times : (numbers : List ℕ) → searched schema.fields defaults s.fields ≡ Ok numbers → (r : Result TimeRange Unanswered)
        → (r >>= λ times. query_in schema numbers s.query >>= λ query. Ok (deletion_of schema defaults s times)) ≡ Ok deletion → IsDeletion schema defaults s deletion
    by_times numbers p (Ok times) k = by_query numbers p times (query_in schema numbers s.query) refl k
    by_times numbers p (Err x) k = absurd (never_ok x deletion k)

    by_fields : (r : Result (List ℕ) Unanswered) → searched schema.fields defaults s.fields ≡ r
        → (r >>= λ numbers. timed schema s.times >>= λ times. query_in schema numbers s.query >>= λ query. Ok (deletion_of schema defaults s times)) ≡ Ok deletion → IsDeletion schema defaults s deletion
    by_fields (Ok numbers) p k = by_times numbers p (timed schema s.times) k
    by_fields (Err x) p k = absurd (never_ok x deletion k)

query_is_read : (r : Result Sought QueryError) (query : Sought) → query_or r ≡ Ok query → r ≡ Ok query
query_is_read (Ok one) query h = ap (λ (q : Sought). Ok q) (ok_one {E = Unanswered} one query h)
query_is_read (Err e) query h = absurd (never_ok _ query h)

-- the text of its task reads
deletion_reads : (config : IndexConfig) (s : Selection) (deletion : Deletion) → PathsRise config.schema.fields → AreTextFields config.schema.fields config.default_fields → IsUtf8 deletion.text → IsDeletion config.schema config.default_fields s deletion
    → (query : Sought) × (read_query config deletion.text deletion.fields ≡ Ok query)
deletion_reads config s deletion rise texts utf8 d = (d.query, numbers ∙ (text ∙ (ap (query_of config.schema d.numbers) d.text ∙ query_is_read (query_of config.schema d.numbers s.query) d.query d.query_is)))
  where
    numbers : read_query config deletion.text deletion.fields ≡ query_with config deletion.text (Ok d.numbers)
    numbers = ap (query_with config deletion.text) (ap (text_numbers config.schema.fields) d.fields ∙ fields_read config.schema.fields config.default_fields s.fields d.numbers rise texts d.fields_are)

    text : query_with config deletion.text (Ok d.numbers) ≡ query_of config.schema d.numbers deletion.text
    text = rw (is_utf8-from_IsUtf8 deletion.text utf8) refl

-- ---- a text

asked_delete : (config : IndexConfig) (r : Result Request Unanswered) (deletion : Deletion) → (r >>= resolved config.schema config.default_fields) ≡ Ok (IsDelete deletion)
    → (s : Selection) × (delete_in config.schema config.default_fields s ≡ Ok deletion)
asked_delete config (Err x) deletion h = absurd (never_ok x (IsDelete deletion) h)
asked_delete config (Ok (requests.Search s)) deletion h = absurd (by (search_in config.schema config.default_fields s) h)
  where
    by : (r : Result Search Unanswered) → (r >>= λ search. Ok (IsSearch search)) ≡ Ok (IsDelete deletion) → ⊥
    by (Ok search) k = let wrong : IsSearch search ≡ IsDelete deletion = ok_one {E = Unanswered} (IsSearch search) (IsDelete deletion) k in absurd (cc)
    by (Err x) k = never_ok x (IsDelete deletion) k
asked_delete config (Ok (requests.Delete s)) deletion h = (s, by (delete_in config.schema config.default_fields s) h)
  where
    by : (r : Result Deletion Unanswered) → (r >>= λ d. Ok (IsDelete d)) ≡ Ok (IsDelete deletion) → r ≡ Ok deletion
    by (Ok d) k =
        let same : IsDelete d ≡ IsDelete deletion = ok_one {E = Unanswered} (IsDelete d) (IsDelete deletion) k in
        let one : d ≡ deletion = cc in
        ap (λ (x : Deletion). Ok x) one
    by (Err x) k = absurd (never_ok x (IsDelete deletion) k)

-- what a text asks to be deleted reads as a task
pub asked_reads : (config : IndexConfig) (text : List ℕ) (deletion : Deletion) → IsSchema config.schema → AreTextFields config.schema.fields config.default_fields → IsUtf8 deletion.text → asked_of config text ≡ Ok (IsDelete deletion)
    → (query : Sought) × (read_query config deletion.text deletion.fields ≡ Ok query)
asked_reads config text deletion schema texts utf8 h =
    let a = asked_delete config (read_or (request_of text)) deletion h in
    deletion_reads config a.0 deletion schema.rise texts utf8 (deletion_is config.schema config.default_fields a.0 deletion a.1)
