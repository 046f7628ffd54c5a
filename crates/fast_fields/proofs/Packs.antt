-- Numbers of entries that are packed, and what is put in front of them.
use Rattle.std.proofs.Common.{◌≡◌, ℕ, zero, suc, ◌+◌, ◌-◌, ◌*◌, ◌/◌, ◌%◌, ◌^◌, ◌<◌, ◌≤◌, List, [], ◌∷◌, ◌++◌, length, map, min, get_or, take, refl, sym, ◌∙◌, ap, subst, arith, inl, inr, append_assoc, false}
use Rattle.std.specs.List.{AllByRecursion}
use Rattle.std.proofs.lemmas.Bool.{cases_lt}
use Rattle.std.proofs.lemmas.List.{length-map}
use Rattle.std.proofs.Math.Nat.{mod-eq_of_lt, pow-le-pow_right}
use Rattle.byte_fields.specs.Spelling.{eight}
use Rattle.doc_value.specs.declared.doc.Value.{Value}
use Rattle.doc_value.specs.declared.doc.Value.TheVariants as values
use Rattle.doc_value.specs.declared.schema.Kind.{Kind}
use Rattle.doc_value.specs.declared.schema.Kind.TheVariants as kinds
use Rattle.doc_value.specs.Documents.{IsOfKind}
use Rattle.fast_fields.specs.Packed.{AreNarrow, IsPacked, IsWidth}
use Rattle.fast_fields.specs.Columns.{Cell, SomeText, AreTexts, has_texts, numbers, least_of, greatest_of}
use Rattle.fast_fields.specs.declared.entries.Entry.{Entry}
use Rattle.fast_fields.proofs.Places.{least_le, greatest_ge}
use Rattle.fast_fields.proofs.Packing.{Packing, one_number, eight_put, last_put}

-- ---- the least and the greatest, from the front on

pub least_step : (acc n : ℕ) (ns : List ℕ) → least_of (acc ∷ n ∷ ns) ≡ least_of (min n acc ∷ ns)
least_step acc n [] = omega arith
least_step acc n (m ∷ ms) =
    let a : least_of (n ∷ m ∷ ms) ≡ min n (least_of (m ∷ ms)) = refl in
    let b : least_of (min n acc ∷ m ∷ ms) ≡ min (min n acc) (least_of (m ∷ ms)) = refl in
    omega (arith, a, b)

-- numbers less the least one have as many bits as the greatest one less it
narrow_to : (least most w : ℕ) (es : List Entry) → (most - least) < 2 ^ w → greatest_of (numbers es) ≤ most → AreNarrow w (map (λ n. n - least) (numbers es))
narrow_to least most w [] small le = tt
narrow_to least most w (e ∷ es) small le = (omega arith, narrow_to least most w es small (omega arith))

pub are_narrow : (es : List Entry) (least greatest w : ℕ) → IsWidth (greatest - least) w → greatest ≡ greatest_of (numbers es) → AreNarrow w (map (λ n. n - least) (numbers es))
are_narrow es least greatest w h is = narrow_to least greatest w es h.within (omega (arith, is))

less_at : (least : ℕ) (es : List Entry) (i : ℕ) (d : Entry) → i < length es → get_or (map (λ n. n - least) (numbers es)) i 0 ≡ (get_or es i d).number - least
less_at least [] i d lt = absurd (omega arith)
less_at least (x ∷ xs) zero d lt = refl
less_at least (x ∷ xs) (suc i) d lt = less_at least xs i d (omega arith)

narrow_at : (w : ℕ) (ns : List ℕ) (i : ℕ) → AreNarrow w ns → i < length ns → get_or ns i 0 < 2 ^ w
narrow_at w [] i h lt = absurd (omega arith)
narrow_at w (n ∷ ns) zero h lt = h.0
narrow_at w (n ∷ ns) (suc i) h lt = narrow_at w ns i h.1 (omega arith)

count_less : (least : ℕ) (es : List Entry) → length (map (λ n. n - least) (numbers es)) ≡ length es
count_less least es = length-map (numbers es) (λ (n : ℕ). n - least) ∙ length-map es (λ (f : Entry). f.number)

-- an entry's number is put
pub entry_put : (start out next : List ℕ) (w least i held bits number held' bits' : ℕ) (es : List Entry) (d : Entry)
    → Packing start out w (map (λ n. n - least) (numbers es)) i held bits → bits < 64 → w ≤ 64 → AreNarrow w (map (λ n. n - least) (numbers es)) → i < length es → number ≡ (get_or es i d).number - least
    → (bits + w < 64 → (next ≡ out) × (held' ≡ (held + number * 2 ^ bits) % 2 ^ 64) × (bits' ≡ bits + w))
    → (64 ≤ bits + w → (next ≡ out ++ eight ((held + number * 2 ^ bits) % 2 ^ 64)) × (held' ≡ (held + number * 2 ^ bits) / 2 ^ 64) × (bits' ≡ bits + w - 64))
    → (bits' < 64) × Packing start next w (map (λ n. n - least) (numbers es)) (i + 1) held' bits'
entry_put start out next w least i held bits number held' bits' es d h few wide narrow lt is below above =
    let ns = map (λ (n : ℕ). n - least) (numbers es) in
    let within : i < length (map (λ (n : ℕ). n - least) (numbers es)) = omega (arith, count_less least es) in
    let here : number ≡ get_or (map (λ (n : ℕ). n - least) (numbers es)) i 0 = is ∙ sym (less_at least es i d lt) in
    let small : number < 2 ^ w = subst (λ (n : ℕ). n < 2 ^ w) (sym here) (narrow_at w (map (λ (n : ℕ). n - least) (numbers es)) i narrow within) in
    let more = one_number start out w (map (λ (n : ℕ). n - least) (numbers es)) i held bits number h within here small in
    elim (cases_lt (bits + w) 64) [
      | inl lt64 ↦
          let b = below lt64 in
          let some : 0 < 2 = omega arith in
          let most : 2 ^ (bits + w) ≤ 2 ^ 64 = pow-le-pow_right {n = 2} some {i = bits + w} {j = 64} (omega arith) in
          let fits : (held + number * 2 ^ bits) % 2 ^ 64 ≡ held + number * 2 ^ bits = mod-eq_of_lt (omega (arith, more.small, most)) in
          (omega (arith, b.2), rw (b.0, b.1 ∙ fits, b.2) more)
      | inr up ↦
          let a = above up in
          (omega (arith, a.2), rw (a.1, a.2) (eight_put start out next w (map (λ (n : ℕ). n - least) (numbers es)) (i + 1) (held + number * 2 ^ bits) (bits + w) more up a.0))
    ]

pub entries_put : (start out next : List ℕ) (w least i held bits : ℕ) (es : List Entry) → Packing start out w (map (λ n. n - least) (numbers es)) i held bits → i ≡ length es → bits < 64
    → AreNarrow w (map (λ n. n - least) (numbers es)) → next ≡ out ++ take ((bits + 7) / 8) (eight held)
    → (packed : List ℕ) × (next ≡ start ++ packed) × IsPacked w (map (λ n. n - least) (numbers es)) packed
entries_put start out next w least i held bits es h all few narrow is =
    last_put start out next w (map (λ (n : ℕ). n - least) (numbers es)) i held bits h (omega (arith, count_less least es)) (omega (arith, count_less least es)) few narrow is

pub least_greatest : (es : List Entry) → least_of (numbers es) ≤ greatest_of (numbers es)
least_greatest [] = omega arith
least_greatest (x ∷ xs) = omega (arith, least_le (x ∷ xs) 0 x refl, greatest_ge (x ∷ xs) 0 x refl)

-- the parts that were put one behind the other
pub parts_put : (start a b c d e f n t s l p : List ℕ) (w : ℕ) → a ≡ start ++ n → b ≡ a ++ t → c ≡ b ++ s → d ≡ c ++ l → e ≡ d ++ w ∷ [] → f ≡ e ++ p → f ≡ start ++ (n ++ (t ++ (s ++ (l ++ (w ∷ p)))))
parts_put start a b c d e f n t s l p w a_is b_is c_is d_is e_is f_is =
    f_is ∙ ap (λ (x : List ℕ). x ++ p) (e_is ∙ ap (λ (x : List ℕ). x ++ w ∷ []) (d_is ∙ ap (λ (x : List ℕ). x ++ l) (c_is ∙ ap (λ (x : List ℕ). x ++ s) (b_is ∙ ap (λ (x : List ℕ). x ++ t) a_is)))) ∙ simp append_assoc

of_kind : (kind : Kind) (t : List ℕ) → has_texts kind ≡ false → IsOfKind kind (values.Text t) → ⊥
of_kind kinds.Text t e h = absurd cc
of_kind kinds.TextList t e h = absurd cc
of_kind kinds.I64 t e h = h
of_kind kinds.U64 t e h = h
of_kind kinds.Bool t e h = h
of_kind kinds.Datetime t e h = h

no_text : (kind : Kind) (cs : List Cell) (t : List ℕ) → has_texts kind ≡ false → AllByRecursion (λ c. IsOfKind kind c.value) cs → SomeText cs t → ⊥
no_text kind [] t e h s = s
no_text kind (c ∷ cs) t e h (inl is) = of_kind kind t e (subst (λ (v : Value). IsOfKind kind v) is h.0)
no_text kind (c ∷ cs) t e h (inr s) = no_text kind cs t e h.1 s

pub none_used : (kind : Kind) (cs : List Cell) (texts : List (List ℕ)) → AllByRecursion (λ c. IsOfKind kind c.value) cs → AreTexts cs texts → has_texts kind ≡ false → texts ≡ []
none_used kind cs [] h a e = refl
none_used kind cs (t ∷ ts) h a e = absurd (no_text kind cs t e h a.used.0)
