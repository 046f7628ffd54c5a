-- The values of a field of a schema in a document of the schema.
use Rattle.std.proofs.Common.{◌≡◌, ℕ, zero, suc, ◌==◌, Bool, true, false, List, [], ◌∷◌, slice_get, Some, if◌then◌else◌, refl, ap, subst, ◌∙◌, ◌⊎◌, inl, inr}
use Rattle.std.specs.List.{AllByRecursion}
use Rattle.std.proofs.lemmas.Bool.{eqb-true}
use Rattle.doc_value.specs.declared.schema.Field.{Field}
use Rattle.doc_value.specs.declared.schema.Kind.{Kind}
use Rattle.doc_value.specs.declared.schema.Kind.TheVariants as kinds
use Rattle.doc_value.specs.declared.doc.Value.TheVariants as values
use Rattle.fast_fields.specs.Columns.{IsNumber}
use Rattle.doc_value.specs.declared.schema.Schema.{Schema}
use Rattle.doc_value.specs.declared.doc.Value.{Value}
use Rattle.doc_value.specs.declared.doc.DocField.{DocField}
use Rattle.doc_value.specs.Documents.{IsOfSchema, FitsFrom, FitsField, IsOfKind, AreOfKind, HasGoodCount, values_in}
use Rattle.split_bundle.specs.Held.{IsHeldValue, AreHeld}

-- values of a kind, as programs hold them: none, or as many as a document may have
pub record AreValues (kind : Kind) (vs : List Value) : Type 0 where
  pub of_kind : AreOfKind kind vs
  pub held : AllByRecursion IsHeldValue vs
  pub count : (vs ≡ []) ⊎ HasGoodCount kind vs

part_values : (fields : List Field) (part : DocField) (n : ℕ) (f : Field) → part.number ≡ n → slice_get fields n ≡ Some f → FitsField fields part → AllByRecursion IsHeldValue part.values → AreValues f.kind part.values
part_values fields part n f e got fits held =
    let here : slice_get fields part.number ≡ Some f = ap (λ k. slice_get fields k) e ∙ got in
    let both = rw here at fits in
    record { of_kind = both.0; held = held; count = inr both.1 }

values_from : (fields : List Field) (least n : ℕ) (f : Field) (d : List DocField) → slice_get fields n ≡ Some f → FitsFrom fields least d → AreHeld d → AreValues f.kind (values_in d n)
values_from fields least n f [] got fits held = record { of_kind = tt; held = tt; count = inl refl }
values_from fields least n f (part ∷ parts) got fits held = go (part.number == n) refl (values_from fields (suc part.number) n f parts got fits.2 held.1)
  where
    go : (b : Bool) → (part.number == n) ≡ b → AreValues f.kind (values_in parts n) → AreValues f.kind (if b then part.values else values_in parts n)
    go true e rest = part_values fields part n f (eqb-true part.number n e) got fits.1 held.0
    go false e rest = rest

pub are_values : (s : Schema) (n : ℕ) (f : Field) (d : List DocField) → slice_get s.fields n ≡ Some f → IsOfSchema s d → AreHeld d → AreValues f.kind (values_in d n)
are_values s n f d got fits held = values_from s.fields 0 n f d got fits held

-- what holds of each value
pub kind_at : (kind : Kind) (vs : List Value) (j : ℕ) (v : Value) → AreOfKind kind vs → slice_get vs j ≡ Some v → IsOfKind kind v
kind_at kind [] j v all got = absurd (cc)
kind_at kind (w ∷ vs) zero v all got = let same : w ≡ v = cc in subst (λ (x : Value). IsOfKind kind x) same all.0
kind_at kind (w ∷ vs) (suc j) v all got = kind_at kind vs j v all.1 got

pub each_at : {X : Type 0} (P : X → Type 0) (xs : List X) (j : ℕ) (x : X) → AllByRecursion P xs → slice_get xs j ≡ Some x → P x
each_at P [] j x all got = absurd (cc)
each_at P (w ∷ xs) zero x all got = let same : w ≡ x = cc in subst P same all.0
each_at P (w ∷ xs) (suc j) x all got = each_at P xs j x all.1 got

-- a text of a kind of texts
pub record IsTextAt (texts : List (List ℕ)) (v : Value) (n : ℕ) : Type 0 where
  pub text : List ℕ
  pub is : v ≡ values.Text text
  pub at : slice_get texts n ≡ Some text

pub text_value : (texts : List (List ℕ)) (v : Value) (n : ℕ) → IsOfKind kinds.Text v → IsNumber texts v n → IsTextAt texts v n
text_value texts (values.Text t) n kind number = record { text = t; is = refl; at = number }
text_value texts (values.I64 z) n kind number = absurd kind
text_value texts (values.U64 z) n kind number = absurd kind
text_value texts (values.Bool z) n kind number = absurd kind
text_value texts (values.Datetime z) n kind number = absurd kind

pub text_in_list : (v : Value) → IsOfKind kinds.TextList v → IsOfKind kinds.Text v
text_in_list (values.Text t) kind = tt
text_in_list (values.I64 z) kind = absurd kind
text_in_list (values.U64 z) kind = absurd kind
text_in_list (values.Bool z) kind = absurd kind
text_in_list (values.Datetime z) kind = absurd kind
