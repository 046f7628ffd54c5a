-- A value in order is written as tokens that read back as it.
use Rattle.std.proofs.Common.{◌≡◌, ℕ, suc, ◌≤◌, ◌<◌, ◌^◌, List, [], ◌∷◌, false, Some, option_map, option_and_then, max, ℤ, pos, negsuc, refl, sym, ap, ap₂, ◌∙◌, subst, arith, append-nil}
use Rattle.json.specs.Json as json
use Rattle.json.specs.Lex.{tokens}
use Rattle.json.specs.Tree as tree
use Rattle.json.proofs.Printed.Decimals.{IsNumber-decimal, IsNumber-signed_decimal}
use Rattle.json.proofs.Printed.Tokens.{tokens-print}
use Rattle.json.proofs.Printed.Trees.{ArePrintable-json_tokens, value-json_tokens}
use Rattle.serde_json.specs.Data.{Data, null, boolean, number, string, array, object, Items, no_items, item, Members, no_members, member, unsigned, put, depth, items_depth, members_depth}
use Rattle.serde_json.specs.Find.{of_integer}
use Rattle.serde_json.specs.Read.{read, of_json, of_items, of_members, max_depth}
use Rattle.serde_json.specs.Written.{outline, items_outline, members_outline, compact_text}
use Rattle.serde_json.proofs.Numbers.{number_of-decimal, number_of-negative}
use Rattle.serde_json.proofs.Texts.{print-outline}
use Rattle.doc_value.specs.declared.schema.Kind.{Kind}
use Rattle.doc_value.specs.declared.schema.Kind.TheVariants as kinds
use Rattle.doc_value.specs.declared.doc.Value.{Value}
use Rattle.doc_value.specs.declared.doc.Value.TheVariants as values
use Rattle.document_laws.specs.ReadBack.{IsI64, IsInType, AreInType, IsBelow, KeysRise, ItemKeysRise, MemberKeysRise, data_of, items_of, only_of, field_data}
use Rattle.document_laws.proofs.Keys.{Above, Rises, join, join-more, join-none, put-last}
use Rattle.document_laws.proofs.Building.{Ordered, AreOrdered, plain_value, an_object, none_ordered, more_ordered, is_object}

-- a value is written as what reads as it
pub record IsReadable (d : Data) : Type 0 where
  pub back : of_json (outline d) ≡ Some d
  pub numbers : tree.HasNumbers (outline d)
  pub rises : KeysRise (outline d)

rises_of : {P : Data → Type 0} {ms : Members} → AreOrdered P ms → Rises ms
rises_of none_ordered = tt
rises_of (more_ordered a o os) = (a, rises_of os)

mutual
  ordered_back : {d : Data} → Ordered IsReadable d → of_json (outline d) ≡ Some d
  ordered_back (plain_value e p) = p.back
  ordered_back (an_object h) = ap (option_map object) (members_back no_members h (rises_of h))

  members_back : (done : Members) {ms : Members} → AreOrdered IsReadable ms → Rises (join done ms) → of_members (members_outline ms) done ≡ Some (join done ms)
  members_back done none_ordered r = ap Some (sym (join-none done))
  members_back done (more_ordered {k} {d} {ms} a o os) r =
      ap (option_and_then (λ e. of_members (members_outline ms) (put k e done))) (ordered_back o)
      ∙ ap (of_members (members_outline ms)) (put-last done k d ms r)
      ∙ members_back (join done (member k d no_members)) os (subst Rises (sym (join-more done k d ms)) r)
      ∙ ap Some (join-more done k d ms)

mutual
  ordered_numbers : {d : Data} → Ordered IsReadable d → tree.HasNumbers (outline d)
  ordered_numbers (plain_value e p) = p.numbers
  ordered_numbers (an_object h) = members_numbers h

  members_numbers : {ms : Members} → AreOrdered IsReadable ms → tree.MembersHaveNumbers (members_outline ms)
  members_numbers none_ordered = tt
  members_numbers (more_ordered a o os) = (ordered_numbers o, members_numbers os)

below : (k : List ℕ) (ms : Members) → Above k ms → IsBelow k (members_outline ms)
below k no_members a = tt
below k (member l d ms) a = a.0

mutual
  ordered_rises : {d : Data} → Ordered IsReadable d → KeysRise (outline d)
  ordered_rises (plain_value e p) = p.rises
  ordered_rises (an_object h) = members_rise h

  pub members_rise : {ms : Members} → AreOrdered IsReadable ms → MemberKeysRise (members_outline ms)
  members_rise none_ordered = tt
  members_rise (more_ordered {k} {d} {ms} a o os) = (below k ms a, ordered_rises o, members_rise os)

mutual
  outline_depth : (d : Data) → tree.depth (outline d) ≡ depth d
  outline_depth null = refl
  outline_depth (boolean b) = refl
  outline_depth (number n) = refl
  outline_depth (string s) = refl
  outline_depth (array ds) = ap suc (items_same ds)
  outline_depth (object ms) = ap suc (members_same ms)

  items_same : (ds : Items) → tree.items_depth (items_outline ds) ≡ items_depth ds
  items_same no_items = refl
  items_same (item d ds) = ap₂ max (outline_depth d) (items_same ds)

  members_same : (ms : Members) → tree.members_depth (members_outline ms) ≡ members_depth ms
  members_same no_members = refl
  members_same (member k d ms) = ap₂ max (outline_depth d) (members_same ms)

pub tokens_of : (d : Data) → Ordered IsReadable d → tokens (compact_text d) ≡ tree.json_tokens (outline d)
tokens_of d o = ap tokens (sym (print-outline d)) ∙ tokens-print (tree.json_tokens (outline d)) (ArePrintable-json_tokens (outline d) (ordered_numbers o))

pub read_back : (d : Data) → Ordered IsReadable d → depth d ≤ max_depth → read (compact_text d) ≡ Some d
read_back d o l =
    ap (λ ts. option_and_then of_json (option_and_then (λ p. json.if_last p.0 p.1) (json.value max_depth ts))) (tokens_of d o ∙ sym (append-nil (tree.json_tokens (outline d))))
    ∙ ap (λ r. option_and_then of_json (option_and_then (λ p. json.if_last p.0 p.1) r)) (value-json_tokens (outline d) max_depth [] (omega (arith, outline_depth d, l)))
    ∙ ordered_back o

-- ---- values

unsigned_back : (n : ℕ) → n < 2 ^ 64 → IsReadable (number (unsigned n))
unsigned_back n h = record { back = ap (option_map number) (number_of-decimal n h); numbers = IsNumber-decimal n h; rises = tt }

integer_back : (n : ℤ) → IsI64 n → IsReadable (number (of_integer n))
integer_back (pos n) h = unsigned_back n (omega (arith, h))
integer_back (negsuc n) h = record { back = ap (option_map number) (number_of-negative n h); numbers = IsNumber-signed_decimal (negsuc n) h; rises = tt }

value_back : (v : Value) → IsInType v → IsReadable (data_of v)
value_back (values.Text t) h = record { back = refl; numbers = tt; rises = tt }
value_back (values.I64 n) h = integer_back n h
value_back (values.U64 n) h = unsigned_back n h
value_back (values.Bool b) h = record { back = refl; numbers = tt; rises = tt }
value_back (values.Datetime s) h = integer_back s h

items_back : (vs : List Value) → AreInType vs → of_items (items_outline (items_of vs)) ≡ Some (items_of vs)
items_back [] h = refl
items_back (v ∷ vs) h =
    ap (option_and_then (λ d. option_map (item d) (of_items (items_outline (items_of vs))))) (value_back v h.0).back
    ∙ ap (option_map (item (data_of v))) (items_back vs h.1)

items_numbers : (vs : List Value) → AreInType vs → tree.ItemsHaveNumbers (items_outline (items_of vs))
items_numbers [] h = tt
items_numbers (v ∷ vs) h = ((value_back v h.0).numbers, items_numbers vs h.1)

items_rise : (vs : List Value) → AreInType vs → ItemKeysRise (items_outline (items_of vs))
items_rise [] h = tt
items_rise (v ∷ vs) h = ((value_back v h.0).rises, items_rise vs h.1)

only_back : (vs : List Value) → AreInType vs → IsReadable (only_of vs)
only_back [] h = record { back = refl; numbers = tt; rises = tt }
only_back (v ∷ vs) h = value_back v h.0

pub field_back : (kind : Kind) (vs : List Value) → AreInType vs → IsReadable (field_data kind vs)
field_back kinds.TextList vs h = record { back = ap (option_map array) (items_back vs h); numbers = items_numbers vs h; rises = items_rise vs h }
field_back kinds.Text vs h = only_back vs h
field_back kinds.I64 vs h = only_back vs h
field_back kinds.U64 vs h = only_back vs h
field_back kinds.Bool vs h = only_back vs h
field_back kinds.Datetime vs h = only_back vs h

value_plain : (v : Value) → (is_object (data_of v) ≡ false) × (depth (data_of v) ≡ 0)
value_plain (values.Text t) = (refl, refl)
value_plain (values.I64 n) = (refl, refl)
value_plain (values.U64 n) = (refl, refl)
value_plain (values.Bool b) = (refl, refl)
value_plain (values.Datetime s) = (refl, refl)

items_flat : (vs : List Value) → items_depth (items_of vs) ≡ 0
items_flat [] = refl
items_flat (v ∷ vs) = ap₂ max (value_plain v).1 (items_flat vs)

abbrev pub IsFlat : Data → Type 0
IsFlat d = (is_object d ≡ false) × (depth d ≤ 1)

only_flat : (vs : List Value) → IsFlat (only_of vs)
only_flat [] = (refl, omega arith)
only_flat (v ∷ vs) = ((value_plain v).0, omega (arith, (value_plain v).1))

pub field_flat : (kind : Kind) (vs : List Value) → IsFlat (field_data kind vs)
field_flat kinds.TextList vs = (refl, omega (arith, items_flat vs))
field_flat kinds.Text vs = only_flat vs
field_flat kinds.I64 vs = only_flat vs
field_flat kinds.U64 vs = only_flat vs
field_flat kinds.Bool vs = only_flat vs
field_flat kinds.Datetime vs = only_flat vs
