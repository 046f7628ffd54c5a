-- Leaves that are noted one after the other, and what is gathered of all of them.
use Rattle.std.proofs.Common.{◌≡◌, ℕ, ◌+◌, ◌-◌, ◌^◌, ◌<◌, ◌≤◌, nat_lt, min, Bool, true, false, ◌&&◌, List, [], ◌∷◌, ◌++◌, length, append_assoc, append-nil, lt-ltb, le-ltb, refl, sym, ap, ◌∙◌, arith, if◌then◌else◌, Result, Ok, Err}
use Rattle.std.specs.Result.{MatchResult}
use Rattle.std.proofs.lemmas.Bool.Decides.{nat_tests}
use Rattle.serde_json.specs.Data.{Data, Items, item, Members, member}
use Rattle.doc_value.specs.declared.schema.Field.{Field}
use Rattle.doc_value.specs.declared.schema.Schema.{Schema}
use Rattle.dynamic_paths.specs.declared.fault.LeafFault.{LeafFault}
use Rattle.dynamic_paths.specs.declared.fault.LeafFault.TheVariants.{TooManyLeaves}
use Rattle.dynamic_paths.specs.declared.gathered.Gathered.{Gathered}
use Rattle.dynamic_paths.specs.LeafTexts.{Leaf, leaf_text, fits, fitting_texts}
use Rattle.dynamic_paths.specs.Leaves.{is_field, value_leaves, items_leaves, members_leaves, max_leaves, leaf_list, counted, answer_of, answer, IsMemory}
use Rattle.dynamic_paths.specs.Walk.{nothing, noted, noted_all, finished}

pub noted_both : (xs ys : List Leaf) (g : Gathered) → noted_all (xs ++ ys) g ≡ noted_all ys (noted_all xs g)
noted_both [] ys g = refl
noted_both (x ∷ xs) ys g = noted_both xs ys (noted x g)

-- an array's next value
pub next_item : (fields : List Field) (path at : List ℕ) (d : Data) (ds : Items) (g h : Gathered) → at ≡ path → h ≡ noted_all (value_leaves fields at d) g
    → noted_all (items_leaves fields path (item d ds)) g ≡ noted_all (items_leaves fields path ds) h
next_item fields path at d ds g h same is =
    noted_both (value_leaves fields path d) (items_leaves fields path ds) g
    ∙ ap (λ (p : List ℕ). noted_all (items_leaves fields path ds) (noted_all (value_leaves fields p d) g)) (sym same)
    ∙ ap (noted_all (items_leaves fields path ds)) (sym is)

-- an object's next key: a field's, or another one
pub next_field : (fields : List Field) (start key at : List ℕ) (d : Data) (ms : Members) (g : Gathered) → at ≡ start ++ key → is_field fields at ≡ true
    → noted_all (members_leaves fields start (member key d ms)) g ≡ noted_all (members_leaves fields start ms) g
next_field fields start key at d ms g same is =
    ap (λ (b : Bool). noted_all ((if b then [] else value_leaves fields (start ++ key) d) ++ members_leaves fields start ms) g) (ap (is_field fields) (sym same) ∙ is)

pub next_key : (fields : List Field) (start key at : List ℕ) (d : Data) (ms : Members) (g h : Gathered) → at ≡ start ++ key → is_field fields at ≡ false
    → h ≡ noted_all (value_leaves fields at d) g
    → noted_all (members_leaves fields start (member key d ms)) g ≡ noted_all (members_leaves fields start ms) h
next_key fields start key at d ms g h same free is =
    ap (λ (b : Bool). noted_all ((if b then [] else value_leaves fields (start ++ key) d) ++ members_leaves fields start ms) g) (ap (is_field fields) (sym same) ∙ free)
    ∙ noted_both (value_leaves fields (start ++ key) d) (members_leaves fields start ms) g
    ∙ ap (λ (p : List ℕ). noted_all (members_leaves fields start ms) (noted_all (value_leaves fields p d) g)) (sym same)
    ∙ ap (noted_all (members_leaves fields start ms)) (sym is)

count_all : (ls : List Leaf) (g : Gathered) → g.count ≤ 2 ^ 64 - 1 → (noted_all ls g).count ≡ min (g.count + length ls) (2 ^ 64 - 1)
count_all [] g h = omega arith
count_all (l ∷ ls) g h =
    let more : (noted_all ls (noted l g)).count ≡ min (min (g.count + 1) (2 ^ 64 - 1) + length ls) (2 ^ 64 - 1) = count_all ls (noted l g) (omega arith) in
    more ∙ omega arith

one_text : (b : Bool) (ts us : List (List ℕ)) (t : List ℕ) → (if b then ts ++ t ∷ [] else ts) ++ us ≡ ts ++ (if b then t ∷ us else us)
one_text true ts us t = append_assoc ts (t ∷ []) us
one_text false ts us t = refl

texts_all : (ls : List Leaf) (g : Gathered) → g.count + length ls ≤ max_leaves → (noted_all ls g).texts ≡ g.texts ++ fitting_texts ls
texts_all [] g h = sym (append-nil g.texts)
texts_all (l ∷ ls) g h =
    let t = leaf_text l.0 l.1 in
    let room : nat_lt g.count max_leaves ≡ true = lt-ltb g.count max_leaves (omega arith) in
    texts_all ls (noted l g) (omega arith)
    ∙ ap (λ (b : Bool). (if b && fits t then g.texts ++ t ∷ [] else g.texts) ++ fitting_texts ls) room
    ∙ one_text (fits t) g.texts (fitting_texts ls) t

abbrev either : Bool → ℕ → List (List ℕ) → Result (List (List ℕ)) LeafFault
either many n texts = if many then Err (TooManyLeaves n) else Ok texts

abbrev all_of : List Leaf → Gathered
all_of ls = noted_all ls nothing

count_of : (ls : List Leaf) → (all_of ls).count ≡ counted ls
count_of ls =
    let none : nothing.count + length ls ≡ length ls = omega arith in
    count_all ls nothing (omega arith) ∙ ap (λ (n : ℕ). min n (2 ^ 64 - 1)) none

pub finished_all : (ls : List Leaf) → finished (noted_all ls nothing) ≡ answer_of ls
finished_all ls = by (nat_lt max_leaves (length ls)) refl
  where
    by : (b : Bool) → nat_lt max_leaves (length ls) ≡ b → finished (noted_all ls nothing) ≡ answer_of ls
    by true e =
        let many : max_leaves < length ls = grind (e, arith, nat_tests) in
        let over : nat_lt max_leaves (all_of ls).count ≡ true = lt-ltb max_leaves (all_of ls).count (omega (arith, count_of ls, many)) in
        ap (λ (b : Bool). either b (all_of ls).count (all_of ls).texts) over
        ∙ ap (λ (n : ℕ). either true n (all_of ls).texts) (count_of ls)
        ∙ sym (ap (λ (b : Bool). either b (counted ls) (fitting_texts ls)) e)
    by false e =
        let few : length ls ≤ max_leaves = grind (e, arith, nat_tests) in
        let under : nat_lt max_leaves (all_of ls).count ≡ false = le-ltb max_leaves (all_of ls).count (omega (arith, count_of ls, few)) in
        ap (λ (b : Bool). either b (all_of ls).count (all_of ls).texts) under
        ∙ ap (λ (ts : List (List ℕ)). either false (all_of ls).count ts) (texts_all ls nothing (omega (arith, few)))
        ∙ sym (ap (λ (b : Bool). either b (counted ls) (fitting_texts ls)) e)

-- what the end of a walk over a record gives
pub answered : (schema : Schema) (d : Data) (g : Gathered) (r : Result (List (List ℕ)) LeafFault) → r ≡ finished g → g ≡ noted_all (leaf_list schema d) nothing
    → MatchResult r (λ leaves. answer schema d ≡ Ok leaves) (λ fault. ¬ (IsMemory fault) → answer schema d ≡ Err fault)
answered schema d g (Ok leaves) e h = sym (e ∙ ap finished h ∙ finished_all (leaf_list schema d))
answered schema d g (Err fault) e h = λ _. sym (e ∙ ap finished h ∙ finished_all (leaf_list schema d))
