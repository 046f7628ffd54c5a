-- Where no field or object has the path of the field for what is not mapped, no path lies within it.
use Rattle.std.proofs.Common.{◌≡◌, ◌≢◌, ℕ, zero, suc, Bool, true, false, ◌&&◌, List, [], ◌∷◌, ◌++◌, append_assoc, refl, sym, subst, ◌∙◌}
use Rattle.std.specs.Prelude.{codes}
use Rattle.std.specs.List.{list_all}
use Rattle.std.specs.Str.{bytes_eq}
use Rattle.std.proofs.lemmas.Bool.{and_parts, both_ways, or_parts}
use Rattle.toml.specs.Data.{Data, Items, no_items, item, get}
use Rattle.index_config.specs.declared.config.Mode.{Mode}
use Rattle.index_config.specs.declared.config.Mode.TheVariants as modes
use Rattle.index_config.specs.declared.raw.RawField.{RawField}
use Rattle.index_config.specs.Accepted.{IsOutside}
use Rattle.index_config.specs.Rules.{under, member_path, is_name_byte, begins_as_name, is_field_name}
use Rattle.index_config.specs.Tables.{items_in, type_of, is_object, table_faults, mapping_path}
use Rattle.index_config.specs.Fields.{name_of, raw_field, each_raw, inner_raws, raws_with, raw_member, in_mapping, mode_of, dynamic_path, dynamic_raws, mapped_raws, all_raws, has_path}
use Rattle.index_config.proofs.Distinct.{itself, path-free}
use Rattle.index_config.proofs.Named.{HavePaths, paths-append, HaveNames, mapping-names}

-- a path goes on behind another's dot
abbrev IsWithin : List ℕ → List ℕ → Type 0
IsWithin path p = (rest : List ℕ) × (p ≡ path ++ 46 ∷ rest)

within-own : (path name : List ℕ) → path ≢ [] → IsWithin path (under path name)
within-own [] name some = absurd (some refl)
within-own (c ∷ cs) name some = (name, refl)

within-more : (path name p : List ℕ) → path ≢ [] → IsWithin (under path name) p → IsWithin path p
within-more [] name p some w = absurd (some refl)
within-more (c ∷ cs) name p some w = (name ++ 46 ∷ w.0, w.1 ∙ append_assoc (c ∷ cs) (46 ∷ name) (46 ∷ w.0))

under-some : (path name : List ℕ) → path ≢ [] → under path name ≢ []
under-some [] name some = absurd (some refl)
under-some (c ∷ cs) name some = λ empty. cc

weaken : (P Q : List ℕ → Type 0) → ((p : List ℕ) → P p → Q p) → (raws : List RawField) → HavePaths P raws → HavePaths Q raws
weaken P Q h [] f = tt
weaken P Q h (raw ∷ raws) f = (h raw.path f.0, weaken P Q h raws f.1)

each-paths : (P : List ℕ → Type 0) (g : ℕ → Data → List RawField) → ((n : ℕ) (d : Data) → HavePaths P (g n d)) → (n : ℕ) (items : Items)
    → HavePaths P (each_raw g n items)
each-paths P g h n no_items = tt
each-paths P g h n (item d ds) = paths-append P (g n d) (each_raw g (suc n) ds) (h n d) (each-paths P g h (suc n) ds)

-- what a list within an object gives lies within it
abbrev LieWithin : (List ℕ → List ℕ → Items → List RawField) → Type 0
LieWithin inner = (place path : List ℕ) (items : Items) → path ≢ [] → HavePaths (IsWithin path) (inner place path items)

inner-within : (b : Bool) (inner : List ℕ → List ℕ → Items → List RawField) → LieWithin inner → (place path : List ℕ) (d : Data) → path ≢ []
    → HavePaths (IsWithin path) (inner_raws b inner place path d)
inner-within false inner h place path d some = tt
inner-within true inner h place path d some =
    weaken (IsWithin (under path (name_of d))) (IsWithin path) (λ p w. within-more path (name_of d) p some w) _
    (h (under place (codes "field_mappings")) (under path (name_of d)) (items_in (get (codes "field_mappings") d)) (under-some path (name_of d) some))

with-within : (inner : List ℕ → List ℕ → Items → List RawField) → LieWithin inner → (place path : List ℕ) (d : Data) → path ≢ []
    → HavePaths (IsWithin path) (raws_with inner place path d)
with-within inner h place path d some = (within-own path (name_of d) some, inner-within (is_object (type_of d)) inner h place path d some)

member-within : (levels : ℕ) (place path : List ℕ) (d : Data) → path ≢ [] → HavePaths (IsWithin path) (raw_member levels place path d)
member-within zero place path d some = with-within (λ p q i. []) (λ p q i s. tt) place path d some
member-within (suc levels) place path d some =
    with-within (λ p q i. each_raw (λ n e. raw_member levels (member_path p n) q e) 0 i)
    (λ p q i s. each-paths (IsWithin q) (λ n e. raw_member levels (member_path p n) q e) (λ n e. member-within levels (member_path p n) q e s) 0 i)
    place path d some

-- a name has no dots
dot-no-name : (c : ℕ) → 46 ≡ c → is_name_byte c ≡ true → ⊥
dot-no-name c e h = let dot : is_name_byte 46 ≡ true = subst (λ (x : ℕ). is_name_byte x ≡ true) (sym e) h in cc

same-front : (a b x y : List ℕ) → list_all is_name_byte a ≡ true → list_all is_name_byte b ≡ true → a ++ 46 ∷ x ≡ b ++ 46 ∷ y → a ≡ b
same-front [] [] x y f g e = refl
same-front [] (d ∷ ds) x y f g e =
    let head : 46 ≡ d = cc in absurd (dot-no-name d head (and_parts (is_name_byte d) (list_all is_name_byte ds) g).0)
same-front (c ∷ cs) [] x y f g e =
    let head : 46 ≡ c = cc in absurd (dot-no-name c head (and_parts (is_name_byte c) (list_all is_name_byte cs) f).0)
same-front (c ∷ cs) (d ∷ ds) x y f g e =
    let head : c ≡ d = cc in
    let rest : cs ++ 46 ∷ x ≡ ds ++ 46 ∷ y = cc in
    let more = same-front cs ds x y (and_parts (is_name_byte c) (list_all is_name_byte cs) f).1 (and_parts (is_name_byte d) (list_all is_name_byte ds) g).1 rest in
    cc

no-dot : (a b y : List ℕ) → list_all is_name_byte a ≡ true → a ≢ b ++ 46 ∷ y
no-dot [] [] y f = λ e. cc
no-dot [] (d ∷ ds) y f = λ e. cc
no-dot (c ∷ cs) [] y f = λ e.
    let head : 46 ≡ c = cc in dot-no-name c head (and_parts (is_name_byte c) (list_all is_name_byte cs) f).0
no-dot (c ∷ cs) (d ∷ ds) y f = λ e.
    let rest : cs ≡ ds ++ 46 ∷ y = cc in no-dot cs ds y (and_parts (is_name_byte c) (list_all is_name_byte cs) f).1 rest

name-parts : (name : List ℕ) → is_field_name name ≡ true → (begins_as_name name ≡ true) × (list_all is_name_byte name ≡ true)
name-parts name e = and_parts (begins_as_name name) (list_all is_name_byte name) (and_parts (begins_as_name name && list_all is_name_byte name) _ e).0

begun-some : (name : List ℕ) → begins_as_name name ≡ true → name ≢ []
begun-some [] e = absurd (cc)
begun-some (c ∷ cs) e = λ empty. cc

within-outside : (name p : List ℕ) → list_all is_name_byte name ≡ true → bytes_eq name dynamic_path ≡ false → IsWithin name p → IsOutside p
within-outside name p plain other w = λ rest e.
    let same : name ≡ dynamic_path = same-front name dynamic_path w.0 rest plain refl (sym w.1 ∙ e) in
    both_ways (bytes_eq name dynamic_path) other (subst (λ (x : List ℕ). bytes_eq x dynamic_path ≡ true) (sym same) (itself dynamic_path))

-- a member of the mapping's list, and what lies in it
top-inner : (b : Bool) (inner : List ℕ → List ℕ → Items → List RawField) → LieWithin inner → (place : List ℕ) (d : Data) → is_field_name (name_of d) ≡ true
    → bytes_eq (name_of d) dynamic_path ≡ false → HavePaths IsOutside (inner_raws b inner place [] d)
top-inner false inner h place d named other = tt
top-inner true inner h place d named other =
    let parts = name-parts (name_of d) named in
    weaken (IsWithin (name_of d)) IsOutside (λ p w. within-outside (name_of d) p parts.1 other w) _
    (h (under place (codes "field_mappings")) (name_of d) (items_in (get (codes "field_mappings") d)) (begun-some (name_of d) parts.0))

top-with : (inner : List ℕ → List ℕ → Items → List RawField) → LieWithin inner → (place : List ℕ) (d : Data) → is_field_name (name_of d) ≡ true
    → has_path dynamic_path (raws_with inner place [] d) ≡ false → HavePaths IsOutside (raws_with inner place [] d)
top-with inner h place d named free =
    let parts = path-free (raw_field place [] d) (inner_raws (is_object (type_of d)) inner place [] d) dynamic_path free in (
      λ rest. no-dot (name_of d) dynamic_path rest (name-parts (name_of d) named).1,
      top-inner (is_object (type_of d)) inner h place d named parts.0,
    )

top-member : (levels : ℕ) (place : List ℕ) (d : Data) → is_field_name (name_of d) ≡ true → has_path dynamic_path (raw_member levels place [] d) ≡ false
    → HavePaths IsOutside (raw_member levels place [] d)
top-member zero place d named free = top-with (λ p q i. []) (λ p q i s. tt) place d named free
top-member (suc levels) place d named free =
    top-with (λ p q i. each_raw (λ n e. raw_member levels (member_path p n) q e) 0 i)
    (λ p q i s. each-paths (IsWithin q) (λ n e. raw_member levels (member_path p n) q e) (λ n e. member-within levels (member_path p n) q e s) 0 i)
    place d named free

free-parts : (path : List ℕ) (xs ys : List RawField) → has_path path (xs ++ ys) ≡ false → (has_path path xs ≡ false) × (has_path path ys ≡ false)
free-parts path [] ys h = (refl, h)
free-parts path (x ∷ xs) ys h =
    let parts = or_parts (bytes_eq x.path path) (has_path path (xs ++ ys)) h in
    let more = free-parts path xs ys parts.1 in
    (rw parts.0 more.0, more.1)

top-each : (levels : ℕ) (list_place : List ℕ) (n : ℕ) (items : Items) → HaveNames items
    → has_path dynamic_path (each_raw (λ n d. raw_member levels (member_path list_place n) [] d) n items) ≡ false
    → HavePaths IsOutside (each_raw (λ n d. raw_member levels (member_path list_place n) [] d) n items)
top-each levels list_place n no_items named free = tt
top-each levels list_place n (item d ds) named free =
    let parts = free-parts dynamic_path (raw_member levels (member_path list_place n) [] d) (each_raw (λ n d. raw_member levels (member_path list_place n) [] d) (suc n) ds) free in
    paths-append IsOutside (raw_member levels (member_path list_place n) [] d) (each_raw (λ n d. raw_member levels (member_path list_place n) [] d) (suc n) ds)
    (top-member levels (member_path list_place n) d named.0 parts.0) (top-each levels list_place (suc n) ds named.1 parts.1)

dynamic-outside : (mode : Mode) → HavePaths IsOutside (dynamic_raws mode)
dynamic-outside modes.Strict = tt
dynamic-outside modes.Lenient = tt
dynamic-outside modes.Dynamic = (λ rest. no-dot dynamic_path dynamic_path rest refl, tt)

pub all-outside : (root : Data) → table_faults root ≡ [] → has_path dynamic_path (mapped_raws root) ≡ false → HavePaths IsOutside (all_raws root)
all-outside root e free =
    paths-append IsOutside (dynamic_raws (mode_of root)) (mapped_raws root) (dynamic-outside (mode_of root))
    (top-each 16 (under mapping_path (codes "field_mappings")) 0 (items_in (in_mapping (codes "field_mappings") root)) (mapping-names root e) free)
