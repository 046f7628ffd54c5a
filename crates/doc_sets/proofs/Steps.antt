-- Steps over the members of a query and over tokens; the values of a field of texts.
use Rattle.std.proofs.Common.{◌≡◌, ℕ, zero, suc, ◌+◌, ◌*◌, ◌/◌, ◌%◌, ◌<◌, ◌≤◌, ◌==◌, Bool, true, false, ◌&&◌, ◌||◌, List, [], ◌∷◌, length, drop, get_or, slice_get, Some, None, if◌then◌else◌, refl, ap, sym, ◌∙◌, arith}
use Rattle.std.proofs.lemmas.List.{drop_more}
use Rattle.std.proofs.lemmas.Bool.{eqb-true}
use Rattle.doc_value.specs.declared.schema.Field.{Field}
use Rattle.doc_value.specs.declared.schema.Kind.{Kind}
use Rattle.doc_value.specs.declared.schema.Kind.TheVariants as kinds
use Rattle.doc_value.specs.declared.schema.Schema.{Schema}
use Rattle.doc_value.specs.declared.doc.Value.{Value}
use Rattle.doc_value.specs.declared.doc.Value.TheVariants as values
use Rattle.doc_value.specs.declared.doc.DocField.{DocField}
use Rattle.doc_value.specs.Documents.{IsOfSchema, FitsFrom, FitsField, AreOfKind, values_in}
use Rattle.text_tokens.specs.declared.tokens.Token.{Token}
use Rattle.query_ast.specs.declared.query.Query.{Query, Row_of-Query, end_of-Query, more_of-Query, items-the_row-Query}
use Rattle.query_ast.specs.Sought.{view, view_row}
use Rattle.query_ast.specs.Meaning.{meaning, all_hold, some_hold, all_in, some_in, is_text, each_stands, some_has_token}
use Rattle.std.specs.Option.{option_map_or}
use Rattle.split_bundle.specs.Keys.{field_key, presence_key}
use Rattle.split_bundle.specs.Lists.{keeps_places}
use Rattle.doc_sets.specs.Asked.{AreTexts}

and_group : (a b r : Bool) → (a && b) && r ≡ a && (b && r)
and_group true b r = refl
and_group false b r = refl

or_group : (a b r : Bool) → (a || b) || r ≡ a || (b || r)
or_group true b r = refl
or_group false b r = refl

pub and_true : (a : Bool) → a && true ≡ a
and_true true = refl
and_true false = refl

pub or_false : (a : Bool) → a || false ≡ a
or_false true = refl
or_false false = refl

pub and_step : (s : Schema) (d : List DocField) (x : Query) (qs : List Query) (i : ℕ) (a : Bool) → i < length qs → x ≡ get_or qs i x
    → (a && meaning s d (view x)) && all_in s d (drop (i + 1) qs) ≡ a && all_in s d (drop i qs)
and_step s d x qs i a lt e =
    let rest : drop i qs ≡ x ∷ drop (i + 1) qs = drop_more qs i x lt ∙ ap (λ y. y ∷ drop (i + 1) qs) (sym e) in
    and_group a (meaning s d (view x)) (all_in s d (drop (i + 1) qs)) ∙ ap (λ ys. a && all_in s d ys) (sym rest)

pub or_step : (s : Schema) (d : List DocField) (x : Query) (qs : List Query) (i : ℕ) (a : Bool) → i < length qs → x ≡ get_or qs i x
    → (a || meaning s d (view x)) || some_in s d (drop (i + 1) qs) ≡ a || some_in s d (drop i qs)
or_step s d x qs i a lt e =
    let rest : drop i qs ≡ x ∷ drop (i + 1) qs = drop_more qs i x lt ∙ ap (λ y. y ∷ drop (i + 1) qs) (sym e) in
    or_group a (meaning s d (view x)) (some_in s d (drop (i + 1) qs)) ∙ ap (λ ys. a || some_in s d ys) (sym rest)

pub token_step : (f : Field) (vs : List Value) (x : Token) (ts : List Token) (i : ℕ) (a : Bool) → i < length ts → x ≡ get_or ts i x
    → (a && some_has_token f x.text vs) && each_stands f (drop (i + 1) ts) vs ≡ a && each_stands f (drop i ts) vs
token_step f vs x ts i a lt e =
    let rest : drop i ts ≡ x ∷ drop (i + 1) ts = drop_more ts i x lt ∙ ap (λ y. y ∷ drop (i + 1) ts) (sym e) in
    and_group a (some_has_token f x.text vs) (each_stands f (drop (i + 1) ts) vs) ∙ ap (λ ys. a && each_stands f ys vs) (sym rest)

pub all_row : {n : _} (s : Schema) (d : List DocField) (k : Row_of-Query n) → all_hold s d (view_row k) ≡ all_in s d (items-the_row-Query n k)
all_row s d end_of-Query = refl
all_row s d (more_of-Query q k) = ap (λ b. meaning s d (view q) && b) (all_row s d k)

pub some_row : {n : _} (s : Schema) (d : List DocField) (k : Row_of-Query n) → some_hold s d (view_row k) ≡ some_in s d (items-the_row-Query n k)
some_row s d end_of-Query = refl
some_row s d (more_of-Query q k) = ap (λ b. meaning s d (view q) || b) (some_row s d k)

-- whether a field's lists have positions
pub places_kept : (s : Schema) (n : ℕ) (f : Field) (term : List ℕ) → slice_get s.fields n ≡ Some f → keeps_places s (field_key n term) ≡ f.positions
places_kept s n f term got =
    let e : n / 256 * 256 + n % 256 ≡ n = omega arith in
    rw (e, got)

kind_texts : (kind : Kind) (vs : List Value) → is_text kind ≡ true → AreOfKind kind vs → AreTexts vs
kind_texts kind [] h of_kind = tt
kind_texts kinds.Text (values.Text t ∷ vs) h of_kind = kind_texts kinds.Text vs h of_kind.1
kind_texts kinds.TextList (values.Text t ∷ vs) h of_kind = kind_texts kinds.TextList vs h of_kind.1
kind_texts kinds.Text (values.I64 t ∷ vs) h of_kind = absurd of_kind.0
kind_texts kinds.Text (values.U64 t ∷ vs) h of_kind = absurd of_kind.0
kind_texts kinds.Text (values.Bool t ∷ vs) h of_kind = absurd of_kind.0
kind_texts kinds.Text (values.Datetime t ∷ vs) h of_kind = absurd of_kind.0
kind_texts kinds.TextList (values.I64 t ∷ vs) h of_kind = absurd of_kind.0
kind_texts kinds.TextList (values.U64 t ∷ vs) h of_kind = absurd of_kind.0
kind_texts kinds.TextList (values.Bool t ∷ vs) h of_kind = absurd of_kind.0
kind_texts kinds.TextList (values.Datetime t ∷ vs) h of_kind = absurd of_kind.0
kind_texts kinds.I64 (v ∷ vs) h of_kind = absurd (cc)
kind_texts kinds.U64 (v ∷ vs) h of_kind = absurd (cc)
kind_texts kinds.Bool (v ∷ vs) h of_kind = absurd (cc)
kind_texts kinds.Datetime (v ∷ vs) h of_kind = absurd (cc)

part_texts : (fields : List Field) (part : DocField) (n : ℕ) (f : Field) → part.number ≡ n → slice_get fields n ≡ Some f → is_text f.kind ≡ true → FitsField fields part → AreTexts part.values
part_texts fields part n f e got h fits =
    let here : slice_get fields part.number ≡ Some f = ap (λ k. slice_get fields k) e ∙ got in
    kind_texts f.kind part.values h (rw here at fits).0

texts_from : (fields : List Field) (least n : ℕ) (f : Field) (d : List DocField) → slice_get fields n ≡ Some f → is_text f.kind ≡ true → FitsFrom fields least d → AreTexts (values_in d n)
texts_from fields least n f [] got h fits = tt
texts_from fields least n f (part ∷ parts) got h fits = go (part.number == n) refl (texts_from fields (suc part.number) n f parts got h fits.2)
  where
    go : (b : Bool) → (part.number == n) ≡ b → AreTexts (values_in parts n) → AreTexts (if b then part.values else values_in parts n)
    go true e rest = part_texts fields part n f (eqb-true part.number n e) got h fits.1
    go false e rest = rest

pub texts_in : (s : Schema) (n : ℕ) (f : Field) (d : List DocField) → slice_get s.fields n ≡ Some f → is_text f.kind ≡ true → IsOfSchema s d → AreTexts (values_in d n)
texts_in s n f d got h fits = texts_from s.fields 0 n f d got h fits

pub none_behind : {X : Type 0} (xs : List X) (i : ℕ) → length xs ≤ i → drop i xs ≡ []
none_behind [] zero le = refl
none_behind [] (suc i) le = refl
none_behind (x ∷ xs) zero le = absurd (omega arith)
none_behind (x ∷ xs) (suc i) le = none_behind xs i (omega arith)

part_kinds : (fields : List Field) (part : DocField) (n : ℕ) (f : Field) → part.number ≡ n → slice_get fields n ≡ Some f → FitsField fields part → AreOfKind f.kind part.values
part_kinds fields part n f e got fits =
    let here : slice_get fields part.number ≡ Some f = ap (λ k. slice_get fields k) e ∙ got in
    (rw here at fits).0

kinds_from : (fields : List Field) (least n : ℕ) (f : Field) (d : List DocField) → slice_get fields n ≡ Some f → FitsFrom fields least d → AreOfKind f.kind (values_in d n)
kinds_from fields least n f [] got fits = none_of f.kind
  where
    none_of : (k : Kind) → AreOfKind k []
    none_of k = tt
kinds_from fields least n f (part ∷ parts) got fits = go (part.number == n) refl (kinds_from fields (suc part.number) n f parts got fits.2)
  where
    go : (b : Bool) → (part.number == n) ≡ b → AreOfKind f.kind (values_in parts n) → AreOfKind f.kind (if b then part.values else values_in parts n)
    go true e rest = part_kinds fields part n f (eqb-true part.number n e) got fits.1
    go false e rest = rest

-- the values of a field are of its kind
pub kinds_in : (s : Schema) (n : ℕ) (f : Field) (d : List DocField) → slice_get s.fields n ≡ Some f → IsOfSchema s d → AreOfKind f.kind (values_in d n)
kinds_in s n f d got fits = kinds_from s.fields 0 n f d got fits

past : (fs : List Field) (k : ℕ) → length fs ≤ k → slice_get fs k ≡ None
past [] k le = refl
past (f ∷ fs) zero le = absurd (omega arith)
past (f ∷ fs) (suc k) le = past fs k (omega arith)

-- the list of a presence key has no positions
pub presence_keeps : (s : Schema) (n : ℕ) → length s.fields ≤ 256 → keeps_places s (presence_key n) ≡ false
presence_keeps s n few = ap (λ o. option_map_or (λ f. f.positions) o false) (past s.fields 65535 (omega arith))
