-- What one walk over a record's keys gathers is its document.
use Rattle.std.proofs.Common.{◌≡◌, ◌≢◌, ℕ, ◌==◌, ◌<◌, ◌≤◌, Bool, true, false, List, [], ◌∷◌, ◌++◌, append_assoc, append-nil, length, length-append, slice_get, Option, Some, None, Result, Ok, Err, String, Global, string_bytes, string_cmp, refl, ap, sym, ◌∙◌, subst, arith, ◌⊎◌, inl, inr}
use Rattle.std.specs.Prelude.{option_and_then, is_some}
use Rattle.std.specs.declared.alloc.AllocError.{AllocError}
use Rattle.std.specs.Result.{IfOk}
use Rattle.std.specs.List.{AllByRecursion}
use Rattle.std.specs.List.Sorted.{IsStrictlySortedBy}
use Rattle.std.specs.Map.{keys_of}
use Rattle.std.specs.Str.{bytes_eq}
use Rattle.std.proofs.lemmas.Slice.Eq.{bytes_eq-Decides}
use Rattle.std.proofs.lemmas.Option.{slice_get_within}
use Rattle.serde_json.specs.View.{members_view}
use Rattle.serde_json.specs.declared.value.Value.{Value as Json}
use Rattle.doc_mapping.specs.declared.reject.Reject.{Reject}
use Rattle.std.specs.Cmp.{unsigned_Decides}
use Rattle.std.specs.Ordering.{nat_cmp}
use Rattle.std.specs.Cmp.Lexicographic.{slice_cmp}
use Rattle.std.specs.declared.cmp.Ordering.{Ordering}
use Rattle.std.specs.declared.cmp.Ordering.TheVariants.{Less, Equal, Greater}
use Rattle.serde_json.specs.Data.{Data, null, boolean, number, string, array, object, Members, no_members, member, members_depth}
use Rattle.serde_json.specs.Find.{get_member, as_object}
use Rattle.doc_value.specs.declared.schema.Field.{Field}
use Rattle.doc_value.specs.declared.schema.Schema.{Schema}
use Rattle.doc_value.specs.declared.schema.Kind.{Kind}
use Rattle.doc_value.specs.declared.doc.DocField.{DocField}
use Rattle.doc_value.specs.Documents.{PathsRise, mapped_fields, number_of}
use Rattle.dynamic_paths.specs.Leaves.{is_object}
use Rattle.doc_value.specs.Printed.{names_of}
use Rattle.doc_value.proofs.Finding.{found}
use Rattle.index_config.specs.Accepted.{BeginsPlain, BeginPlain}
use Rattle.index_config.specs.declared.config.Formats.{Formats}
use Rattle.index_config.specs.declared.config.IndexConfig.{IndexConfig}
use Rattle.doc_mapping.specs.Documents.{value_at, values_of, found_values, doc_from}
use Rattle.doc_mapping.specs.Faults.{under, formats_at, has_dot, mapped_at, number_of_mapped, first_of, value_fault, field_fault, key_fault, members_fault, inner_fault}
use Rattle.doc_mapping.specs.Held.{values_at, ArePlain}
use Rattle.doc_mapping.specs.Walk.{AreRegular, RiseFrom, Enters, HasEntered, LiesAt, IsFree, Brings, Gathers, GoesBy, AreFree, BringAll, GatherAll, GatherInner}
use Rattle.doc_mapping.proofs.Holding.{same_key, no_object, name_first, plain_names, front}
use Rattle.doc_mapping.proofs.Mapped.{mapped_is, stands_mapped, found_mapped, object_by, object_from}
use Rattle.doc_mapping.proofs.Recorded.{own_order, values_mapped, values_unmapped}
use Rattle.doc_mapping.proofs.Numbering.{same_parts, doc_rises}

-- a path lies behind its first name
pub names_lie : (p name : List ℕ) (names : List (List ℕ)) → names_of p ≡ name ∷ names → LiesAt name names p
names_lie [] name names e = let parts = front [] names [] name e in inl (sym parts.1, parts.0)
names_lie (c ∷ cs) name names e = by (names_lie cs (name_first cs).0 (name_first cs).1 (name_first cs).2) (c == 46) refl
  where
    first : List ℕ
    first = (name_first cs).0

    more_names : List (List ℕ)
    more_names = (name_first cs).1

    by : LiesAt first more_names cs → (b : Bool) → (c == 46) ≡ b → LiesAt name names (c ∷ cs)
    by more true d =
        let dot : c ≡ 46 = (unsigned_Decides c 46).0 d in
        let parts = front (names_of cs) names [] name (rw d at e) in
        inr (cs, (sym parts.1, ap (λ x. x ∷ cs) dot ∙ ap (λ z. z ++ 46 ∷ cs) parts.0))
    by (inl more) false d =
        let parts = front more_names names (c ∷ first) name (rw (d, (name_first cs).2) at e) in
        inl (sym parts.1 ∙ more.0, ap (λ z. c ∷ z) more.1 ∙ parts.0)
    by (inr more) false d =
        let parts = front more_names names (c ∷ first) name (rw (d, (name_first cs).2) at e) in
        inr (more.0, (sym parts.1 ∙ more.1.0, ap (λ z. c ∷ z) more.1.1 ∙ ap (λ z. z ++ 46 ∷ more.0) parts.0))

-- names without dots at the front of one path are the same
abbrev pub IsTail : List ℕ → Type 0
IsTail x = (x ≡ []) ⊎ ((rest : List ℕ) × (x ≡ 46 ∷ rest))

dotted_tail : {B : Type 0} (c : ℕ) (cs x y : List ℕ) → has_dot (c ∷ cs) ≡ false → IsTail x → x ≡ c ∷ (cs ++ y) → B
dotted_tail c cs x y h (inl none) e = absurd (let w : [] ≡ c ∷ (cs ++ y) = sym none ∙ e in cc)
dotted_tail c cs x y h (inr tail) e =
    let w : 46 ∷ tail.0 ≡ c ∷ (cs ++ y) = sym tail.1 ∙ e in
    let dot : c ≡ 46 = cc in
    let here : (c == 46) ≡ true = (unsigned_Decides c 46).1 dot in
    absurd (let wrong : true ≡ false = rw here at h in cc)

plain_rest : (c : ℕ) (cs : List ℕ) → has_dot (c ∷ cs) ≡ false → has_dot cs ≡ false
plain_rest c cs h = by (c == 46) refl
  where
    by : (b : Bool) → (c == 46) ≡ b → has_dot cs ≡ false
    by true d = absurd (let wrong : true ≡ false = rw d at h in cc)
    by false d = rw d at h

same_front : (a b x y : List ℕ) → has_dot a ≡ false → has_dot b ≡ false → IsTail x → IsTail y → a ++ x ≡ b ++ y → a ≡ b
same_front [] [] x y h g s t e = refl
same_front [] (c ∷ b) x y h g s t e = dotted_tail c b x y g s e
same_front (c ∷ a) [] x y h g s t e = dotted_tail c a y x h t (sym e)
same_front (c ∷ a) (k ∷ b) x y h g s t e =
    let first : c ≡ k = cc in
    let rest : a ++ x ≡ b ++ y = cc in
    let more : a ≡ b = same_front a b x y (plain_rest c a h) (plain_rest k b g) s t rest in
    cc

cancel : (w a b : List ℕ) → w ++ a ≡ w ++ b → a ≡ b
cancel [] a b e = e
cancel (c ∷ w) a b e = let t : w ++ a ≡ w ++ b = cc in cancel w a b t

under_tail : (prefix a b x y : List ℕ) → under prefix a ++ x ≡ under prefix b ++ y → a ++ x ≡ b ++ y
under_tail [] a b x y e = e
under_tail (c ∷ cs) a b x y e =
    let left = append_assoc (c ∷ cs) (46 ∷ a) x in
    let right = append_assoc (c ∷ cs) (46 ∷ b) y in
    let t : 46 ∷ (a ++ x) ≡ 46 ∷ (b ++ y) = cancel (c ∷ cs) (46 ∷ (a ++ x)) (46 ∷ (b ++ y)) (sym left ∙ e ∙ right) in
    cc

lies_tail : (at : List ℕ) (names : List (List ℕ)) (p : List ℕ) → LiesAt at names p → (x : List ℕ) × (IsTail x × (p ≡ at ++ x))
lies_tail at names p (inl here) = ([], (inl refl, here.1 ∙ sym (append-nil at)))
lies_tail at names p (inr more) = (46 ∷ more.0, (inr (more.0, refl), more.1.1))

module _ (schema : Schema) (prefix : List ℕ) where
  -- a field goes by one key
  one_way : (k l : List ℕ) (n : ℕ) (f g : Field) (names others : List (List ℕ)) → GoesBy schema prefix k names n f → GoesBy schema prefix l others n g → k ≡ l
  one_way k l n f g names others a b =
      let same : f ≡ g = let both : Some f ≡ Some g = sym a.1 ∙ b.1 in cc in
      let here = lies_tail (under prefix k) names f.path a.2 in
      let there = lies_tail (under prefix l) others g.path b.2 in
      let one : under prefix k ++ here.0 ≡ under prefix l ++ there.0 = sym here.1.1 ∙ ap (λ (x : Field). x.path) same ∙ there.1.1 in
      same_front k l here.0 there.0 a.0 b.0 here.1.0 there.1.0 (under_tail prefix k l here.0 there.0 one)

-- no key of these members stands twice
abbrev pub AreDistinct : Members → Type 0
AreDistinct no_members = Unit {0}
AreDistinct (member k d ms) = (get_member k ms ≡ None) × AreDistinct ms

nothing_found : (kind : Kind) (names : List (List ℕ)) (o : Option Data) → o ≡ None → found_values kind (option_and_then (value_at names) o) ≡ []
nothing_found kind names o e = rw e refl

module _ (schema : Schema) (prefix : List ℕ) (ms : Members) (old : List DocField) where
  abbrev pub OwnLeft : List ℕ → List (List ℕ) → ℕ → Field → List DocField → Option Data → Type 0
  OwnLeft key names n f doc None = values_at doc n ≡ found_values f.kind (value_at (key ∷ names) (object ms))
  OwnLeft key names n f doc (Some e) = (values_at doc n ≡ []) × (get_member key ms ≡ Some e)

  -- what holds where these members are left
  pub record Leaves (rest : Members) (doc : List DocField) : Type 0 where
    pub rise : RiseFrom 0 doc
    pub own : (key : List ℕ) (n : ℕ) (f : Field) (names : List (List ℕ)) → GoesBy schema prefix key names n f → OwnLeft key names n f doc (get_member key rest)
    pub others : (n : ℕ) → ((key : List ℕ) (f : Field) (names : List (List ℕ)) → GoesBy schema prefix key names n f → ⊥) → values_at doc n ≡ values_at old n

  abbrev pub MayLeave : Members → List DocField → Type 0
  MayLeave rest doc = AreRegular schema.fields → RiseFrom 0 old → AreFree schema prefix old → Leaves rest doc

  start_own : (key : List ℕ) (n : ℕ) (f : Field) (names : List (List ℕ)) → values_at old n ≡ [] → (o : Option Data) → get_member key ms ≡ o → OwnLeft key names n f old o
  start_own key n f names free None e = free ∙ sym (nothing_found f.kind names (get_member key ms) e)
  start_own key n f names free (Some d) e = (free, e)

  pub all_left : MayLeave ms old
  all_left = λ regular rise free. record {
    rise = rise;
    own = λ key n f names goes. start_own key n f names (free key n f names goes) (get_member key ms) refl;
    others = λ n none. refl;
  }

  pub none_left : (doc : List DocField) → MayLeave no_members doc → GatherAll schema prefix ms old doc
  none_left doc h = λ regular rise free.
      let end = h regular rise free in
      record { rise = end.rise; own = λ key n f names goes. end.own key n f names goes; others = end.others }

  module _ (key : List ℕ) (d : Data) (rest : Members) (doc new : List DocField) (distinct : AreDistinct (member key d rest)) (left : Leaves (member key d rest) doc)
      (dots : has_dot key ≡ true → new ≡ doc) (gathers : has_dot key ≡ false → RiseFrom 0 doc → IsFree schema (under prefix key) doc → Brings schema (under prefix key) d doc new) where
    at_key : (n : ℕ) (f : Field) (names : List (List ℕ)) → GoesBy schema prefix key names n f → (values_at doc n ≡ []) × (get_member key ms ≡ Some d)
    at_key n f names goes = let own = left.own key n f names goes in rw (own_order key) at own

    free_there : has_dot key ≡ false → IsFree schema (under prefix key) doc
    free_there plain = λ n f names a lies. (at_key n f names (plain, a, lies)).0

    brought : has_dot key ≡ false → Brings schema (under prefix key) d doc new
    brought plain = gathers plain left.rise (free_there plain)

    still : (n : ℕ) → ((f : Field) (names : List (List ℕ)) → GoesBy schema prefix key names n f → ⊥) → values_at new n ≡ values_at doc n
    still n none = by (has_dot key) refl
      where
        by : (b : Bool) → has_dot key ≡ b → values_at new n ≡ values_at doc n
        by true h = ap (λ xs. values_at xs n) (dots h)
        by false h = (brought h).others n (λ f names a lies. none f names (h, a, lies))

    still_rises : RiseFrom 0 new
    still_rises = by (has_dot key) refl
      where
        by : (b : Bool) → has_dot key ≡ b → RiseFrom 0 new
        by true h = subst (RiseFrom 0) (sym (dots h)) left.rise
        by false h = (brought h).rise

    own_here : (n : ℕ) (f : Field) (names : List (List ℕ)) → GoesBy schema prefix key names n f → OwnLeft key names n f new (get_member key rest)
    own_here n f names goes =
        let at = at_key n f names goes in
        let found_there : value_at (key ∷ names) (object ms) ≡ value_at names d = ap (option_and_then (value_at names)) at.1 in
        rw distinct.0 ((brought goes.0).own n f names goes.1 goes.2 ∙ ap (found_values f.kind) (sym found_there))

    own_moves : (k : List ℕ) (n : ℕ) (f : Field) (names : List (List ℕ)) → values_at new n ≡ values_at doc n → (o : Option Data) → OwnLeft k names n f doc o → OwnLeft k names n f new o
    own_moves k n f names e None h = e ∙ h
    own_moves k n f names e (Some x) h = (e ∙ h.0, h.1)

    no_tie : (k : List ℕ) (n : ℕ) (f g : Field) (names others : List (List ℕ)) → GoesBy schema prefix k names n f → GoesBy schema prefix key others n g
        → (o : Ordering) → slice_cmp nat_cmp k key ≡ o → o ≢ Equal → ⊥
    no_tie k n f g names others goes there o e other =
        let here : k ≡ key = one_way schema prefix k key n f g names others goes there in
        other (sym e ∙ ap (λ (x : List ℕ). slice_cmp nat_cmp x key) here ∙ own_order key)

    own_by : (k : List ℕ) (n : ℕ) (f : Field) (names : List (List ℕ)) → GoesBy schema prefix k names n f → (o : Ordering) → slice_cmp nat_cmp k key ≡ o
        → OwnLeft k names n f new (get_member k rest)
    own_by k n f names goes Equal e =
        let here : k ≡ key = same_key k key e in
        subst (λ (x : List ℕ). GoesBy schema prefix x names n f → OwnLeft x names n f new (get_member x rest)) (sym here) (own_here n f names) goes
    own_by k n f names goes Less e =
        own_moves k n f names (still n (λ g others there. no_tie k n f g names others goes there Less e (λ w. cc))) (get_member k rest) (rw e at (left.own k n f names goes))
    own_by k n f names goes Greater e =
        own_moves k n f names (still n (λ g others there. no_tie k n f g names others goes there Greater e (λ w. cc))) (get_member k rest) (rw e at (left.own k n f names goes))

    pub one_less : Leaves rest new
    one_less = record {
      rise = still_rises;
      own = λ k n f names goes. own_by k n f names goes (slice_cmp nat_cmp k key) refl;
      others = λ n none. still n (λ f names goes. none key f names goes) ∙ left.others n none;
    }

  pub step : (key : List ℕ) (d : Data) (rest : Members) (doc new : List DocField) → AreDistinct (member key d rest) → MayLeave (member key d rest) doc
      → (has_dot key ≡ true → new ≡ doc) → (has_dot key ≡ false → Gathers schema (under prefix key) d doc new) → MayLeave rest new
  step key d rest doc new distinct left dots gathers = λ regular rise free.
      one_less key d rest doc new distinct (left regular rise free) dots (λ plain own none. gathers plain regular own none)

-- a value at a path
longer : {B : Type 0} (path rest : List ℕ) → path ≡ path ++ 46 ∷ rest → B
longer path rest e = absurd (omega (arith, ap length e, length-append path (46 ∷ rest)))

in_no_object : (name : List ℕ) (names : List (List ℕ)) (d : Data) → as_object d ≡ None → value_at (name ∷ names) d ≡ None
in_no_object name names null e = refl
in_no_object name names (boolean b) e = refl
in_no_object name names (number n) e = refl
in_no_object name names (string s) e = refl
in_no_object name names (array ds) e = refl
in_no_object name names (object ms) e = absurd (cc)

behind_nothing : (rest : List ℕ) (names : List (List ℕ)) (kind : Kind) (d : Data) → names ≡ names_of rest → as_object d ≡ None → found_values kind (value_at names d) ≡ []
behind_nothing rest names kind d e flat =
    let first = name_first rest in
    let none : value_at names d ≡ None = ap (λ ns. value_at ns d) (e ∙ first.2) ∙ in_no_object first.0 first.1 d flat in
    ap (found_values kind) none

flat_by : (kind : Kind) (formats : Formats) (path : List ℕ) (d : Data) → value_fault kind formats path d ≡ None → as_object d ≡ None
flat_by kind formats path null e = refl
flat_by kind formats path (boolean b) e = refl
flat_by kind formats path (number n) e = refl
flat_by kind formats path (string s) e = refl
flat_by kind formats path (array ds) e = refl
flat_by kind formats path (object ms) e = no_object kind formats path ms e

module _ (schema : Schema) (at : List ℕ) (d : Data) (old : List DocField) where
  one_number : PathsRise schema.fields → (n m : ℕ) (f g : Field) → mapped_at schema n ≡ Some f → mapped_at schema m ≡ Some g → f.path ≡ g.path → n ≡ m
  one_number rise n m f g a b e =
      let here : Some n ≡ number_of_mapped schema g.path = found_mapped schema n f g.path rise a (ap (slice_cmp nat_cmp g.path) e ∙ own_order g.path) in
      let there : Some m ≡ number_of_mapped schema g.path = found_mapped schema m g g.path rise b (own_order g.path) in
      let both : Some n ≡ Some m = here ∙ sym there in
      cc

  no_field : {B : Type 0} → PathsRise schema.fields → number_of_mapped schema at ≡ None → (n : ℕ) (f : Field) → mapped_at schema n ≡ Some f → f.path ≡ at → B
  no_field rise none n f a e =
      let here : Some n ≡ number_of_mapped schema at = found_mapped schema n f at rise a (ap (slice_cmp nat_cmp at) e ∙ own_order at) in
      let wrong : Some n ≡ None = here ∙ none in
      absurd (cc)

  -- a value that fits the field of its path
  pub field_brings : (m : ℕ) (g : Field) (new : List DocField) → mapped_at schema m ≡ Some g → g.path ≡ at → as_object d ≡ None
      → (RiseFrom 0 old → values_at old m ≡ [] → HasEntered schema.fields m d old new) → Gathers schema at d old new
  field_brings m g new b p flat enters = λ regular rise free.
      let entered = enters rise (free m g [] b (inl (refl, p))) g (mapped_is schema m g b).0 in
      record {
        rise = entered.rise;
        own = λ n f names a lies. own regular.0 rise free entered n f names a lies;
        others = λ n none. entered.others n (λ same. none g [] (ap (mapped_at schema) same ∙ b) (inl (refl, p)));
      }
    where
      own : PathsRise schema.fields → RiseFrom 0 old → IsFree schema at old → Enters m (values_of g.kind d) old new → (n : ℕ) (f : Field) (names : List (List ℕ))
          → mapped_at schema n ≡ Some f → LiesAt at names f.path → values_at new n ≡ found_values f.kind (value_at names d)
      own up rise free entered n f names a (inl here) =
          let same : n ≡ m = one_number up n m f g a b (here.1 ∙ sym p) in
          let field : f ≡ g = let both : Some f ≡ Some g = sym a ∙ ap (mapped_at schema) same ∙ b in cc in
          ap (values_at new) same ∙ entered.own ∙ ap (λ (x : Field). values_of x.kind d) (sym field) ∙ ap (λ ns. found_values f.kind (value_at ns d)) (sym here.0)
      own up rise free entered n f names a (inr more) =
          let other : n ≢ m = λ same. let both : Some f ≡ Some g = sym a ∙ ap (mapped_at schema) same ∙ b in
          let field : f ≡ g = cc in longer at more.0 (sym p ∙ ap (λ (x : Field). x.path) (sym field) ∙ more.1.1) in
          entered.others n other ∙ free n f names a (inr more) ∙ sym (behind_nothing more.0 names f.kind d more.1.0 flat)

  -- a path that is neither a field's nor an object's
  pub nothing_there : number_of_mapped schema at ≡ None → is_object (mapped_fields schema) (at ++ 46 ∷ []) ≡ false → Gathers schema at d old old
  nothing_there none lacks = λ regular rise free. record { rise = rise; own = own regular.0; others = λ n h. refl }
    where
      own : PathsRise schema.fields → (n : ℕ) (f : Field) (names : List (List ℕ)) → mapped_at schema n ≡ Some f → LiesAt at names f.path
          → values_at old n ≡ found_values f.kind (value_at names d)
      own up n f names a (inl here) = no_field up none n f a here.1
      own up n f names a (inr more) =
          absurd (let has : is_object (mapped_fields schema) (at ++ 46 ∷ []) ≡ true = object_by schema n f at more.0 a more.1.1 in let wrong : true ≡ false = sym has ∙ lacks in cc)

  -- no object where one is asked
  pub flat_there : number_of_mapped schema at ≡ None → as_object d ≡ None → Gathers schema at d old old
  flat_there none flat = λ regular rise free. record { rise = rise; own = own regular.0 free; others = λ n h. refl }
    where
      own : PathsRise schema.fields → IsFree schema at old → (n : ℕ) (f : Field) (names : List (List ℕ)) → mapped_at schema n ≡ Some f → LiesAt at names f.path
          → values_at old n ≡ found_values f.kind (value_at names d)
      own up free n f names a (inl here) = no_field up none n f a here.1
      own up free n f names a (inr more) = free n f names a (inr more) ∙ sym (behind_nothing more.0 names f.kind d more.1.0 flat)

is_plain : (schema : Schema) → BeginPlain schema.fields → is_object (mapped_fields schema) (46 ∷ []) ≡ true → ⊥
is_plain schema plain has =
    let at = object_from schema [] has in
    let own : BeginsPlain (46 ∷ at.2.1.0) = subst BeginsPlain at.2.1.1 (plain at.0 at.1 (mapped_is schema at.0 at.1 at.2.0).0) in
    let wrong : true ≡ false = own in
    cc

module _ (schema : Schema) (c : ℕ) (cs : List ℕ) where
  abbrev at : List ℕ
  at = c ∷ cs

  -- a path within the object, by its first name there
  deeper : (n : ℕ) (f : Field) (rest : List ℕ) → mapped_at schema n ≡ Some f → f.path ≡ at ++ 46 ∷ rest
      → GoesBy schema at (name_first rest).0 (name_first rest).1 n f
  deeper n f rest a e = (
    (subst ArePlain (name_first rest).2 (plain_names rest)).0,
    a,
    by (names_lie rest (name_first rest).0 (name_first rest).1 (name_first rest).2),
  )
    where
      by : LiesAt (name_first rest).0 (name_first rest).1 rest → LiesAt (under at (name_first rest).0) (name_first rest).1 f.path
      by (inl here) = inl (here.0, e ∙ ap (λ x. at ++ 46 ∷ x) here.1)
      by (inr more) = inr (more.0, (more.1.0, e ∙ ap (λ x. at ++ 46 ∷ x) more.1.1 ∙ sym (append_assoc at (46 ∷ (name_first rest).0) (46 ∷ more.0))))

  higher : (key : List ℕ) (names : List (List ℕ)) (n : ℕ) (f : Field) → GoesBy schema at key names n f → (rest : List ℕ) × (f.path ≡ at ++ 46 ∷ rest)
  higher key names n f goes =
      let tail = lies_tail (under at key) names f.path goes.2 in
      (key ++ tail.0, tail.1.1 ∙ append_assoc at (46 ∷ key) tail.0)

  pub object_brings : (ms : Members) (old new : List DocField) → number_of_mapped schema at ≡ None → GatherAll schema at ms old new → Gathers schema at (object ms) old new
  object_brings ms old new none inner = λ regular rise free.
      let brought = inner regular rise (λ key n f names goes. let up = higher key names n f goes in free n f (names_of up.0) goes.1 (inr (up.0, (refl, up.1)))) in
      record {
        rise = brought.rise;
        own = own regular.0 brought;
        others = λ n h. brought.others n (λ key f names goes. let up = higher key names n f goes in h f (names_of up.0) goes.1 (inr (up.0, (refl, up.1))));
      }
    where
      own : PathsRise schema.fields → BringAll schema at ms old new → (n : ℕ) (f : Field) (names : List (List ℕ)) → mapped_at schema n ≡ Some f → LiesAt at names f.path
          → values_at new n ≡ found_values f.kind (value_at names (object ms))
      own up brought n f names a (inl here) = no_field schema at (object ms) old up none n f a here.1
      own up brought n f names a (inr more) =
          let way = deeper n f more.0 a more.1.1 in
          brought.own (name_first more.0).0 n f (name_first more.0).1 way
          ∙ ap (λ ns. found_values f.kind (value_at ns (object ms))) (sym (name_first more.0).2 ∙ sym more.1.0)

pub inner_brings : (schema : Schema) (at : List ℕ) (ms : Members) (old new : List DocField) → number_of_mapped schema at ≡ None → is_object (mapped_fields schema) (at ++ 46 ∷ []) ≡ true
    → GatherAll schema at ms old new → Gathers schema at (object ms) old new
inner_brings schema [] ms old new none has inner = λ regular. absurd (is_plain schema regular.1 has)
inner_brings schema (c ∷ cs) ms old new none has inner = object_brings schema c cs ms old new none inner

-- what is gathered of a whole record is its document
pub whole_gathered : (schema : Schema) (ms : Members) (new : List DocField) → AreRegular schema.fields → GatherAll schema [] ms [] new → new ≡ doc_from schema.dynamic [] 0 schema.fields (object ms)
whole_gathered schema ms new regular gathered =
    same_parts new (doc_from schema.dynamic [] 0 schema.fields (object ms)) 0 brought.rise (doc_rises schema.dynamic [] 0 0 schema.fields (object ms) (omega arith)) (λ n. at n (mapped_at schema n) refl)
  where
    brought : BringAll schema [] ms [] new
    brought = gathered regular tt (λ key n f names goes. refl)

    at : (n : ℕ) (o : Option Field) → mapped_at schema n ≡ o → values_at new n ≡ values_at (doc_from schema.dynamic [] 0 schema.fields (object ms)) n
    at n None a =
        brought.others n (λ key f names goes. let wrong : None ≡ Some f = sym a ∙ goes.1 in cc)
        ∙ sym (values_unmapped schema (object ms) n a)
    at n (Some f) a =
        let first = name_first f.path in
        let plain : has_dot first.0 ≡ false = (subst ArePlain first.2 (plain_names f.path)).0 in
        brought.own first.0 n f first.1 (plain, a, names_lie f.path first.0 first.1 first.2)
        ∙ ap (λ ns. found_values f.kind (value_at ns (object ms))) (sym first.2)
        ∙ sym (values_mapped schema [] (object ms) n f a)

-- what the calls of the walk say
pub object_of : (d : Data) (ms : Members) → Some ms ≡ as_object d → d ≡ object ms
object_of null ms e = absurd (cc)
object_of (boolean b) ms e = absurd (cc)
object_of (number n) ms e = absurd (cc)
object_of (string s) ms e = absurd (cc)
object_of (array ds) ms e = absurd (cc)
object_of (object xs) ms e = let same : xs ≡ ms = cc in ap object same

pub empty_under : (prefix key : List ℕ) → length prefix ≡ 0 → key ≡ under prefix key
empty_under [] key e = refl
empty_under (c ∷ cs) key e = absurd (omega arith)

module _ (schema : Schema) (d : Data) (old new : List DocField) where
  abbrev pub GathersOn : Result (Option Reject) AllocError → List ℕ → Type 0
  GathersOn r place = IfOk r (λ fault. fault ≡ None → Gathers schema place d old new)

  pub gathers_on : (r : Result (Option Reject) AllocError) (a b : List ℕ) → a ≡ b → GathersOn r a → GathersOn r b
  gathers_on r a b e h = subst (GathersOn r) e h

  pub gathers_as : (r : Result (Option Reject) AllocError) (place : List ℕ) → Gathers schema place d old new → GathersOn r place
  gathers_as (Ok fault) place h = λ none. h
  gathers_as (Err e) place h = tt

  pub gathers_within : (r : Result (Option Reject) AllocError) (place : List ℕ) (ms : Members) → Some ms ≡ as_object d → None ≡ number_of_mapped schema place
      → is_object (mapped_fields schema) (place ++ 46 ∷ []) ≡ true → IfOk r (λ fault. fault ≡ None → GatherAll schema place ms old new) → GathersOn r place
  gathers_within (Err e) place ms o n i h = tt
  gathers_within (Ok fault) place ms o n i h = λ none.
      subst (λ (x : Data). Gathers schema place x old new) (sym (object_of d ms o)) (inner_brings schema place ms old new (sym n) i (h none))

  pub gathers_inner : (r : Result (Option Reject) AllocError) (place : List ℕ) → None ≡ number_of_mapped schema place → is_object (mapped_fields schema) (place ++ 46 ∷ []) ≡ true
      → IfOk r (λ fault. fault ≡ None → GatherInner schema place (as_object d) old new) → GathersOn r place
  gathers_inner r place n i h = by (as_object d) refl h
    where
      flat : (q : Result (Option Reject) AllocError) → as_object d ≡ None → IfOk q (λ fault. fault ≡ None → new ≡ old) → GathersOn q place
      flat (Err x) e g = tt
      flat (Ok fault) e g = λ none. subst (λ (x : List DocField). Gathers schema place d old x) (sym (g none)) (flat_there schema place d old (sym n) e)

      by : (o : Option Members) → as_object d ≡ o → IfOk r (λ fault. fault ≡ None → GatherInner schema place o old new) → GathersOn r place
      by (Some ms) e g = gathers_within r place ms (sym e) n i g
      by None e g = flat r e g

-- what is gathered of a record where an object is asked
pub inner_gathered : (schema : Schema) (d : Data) (ms : Members) (old new : List DocField) → Some ms ≡ as_object d → old ≡ []
    → GatherInner schema [] (as_object d) old new → AreRegular schema.fields → new ≡ doc_from schema.dynamic [] 0 schema.fields d
inner_gathered schema d ms old new o e h regular =
    let inner : GatherAll schema [] ms old new = subst (λ (m : Option Members). GatherInner schema [] m old new) (sym o) h in
    whole_gathered schema ms new regular (subst (λ (xs : List DocField). GatherAll schema [] ms xs new) e inner)
    ∙ ap (doc_from schema.dynamic [] 0 schema.fields) (sym (object_of d ms o))

module _ (config : IndexConfig) (path : List ℕ) (d : Data) (number : ℕ) (found_there : Some number ≡ number_of_mapped config.schema path) where
  stands : (f : Field) × ((mapped_at config.schema number ≡ Some f) × (f.path ≡ path))
  stands = stands_mapped config.schema path number (sym found_there)

  field_stands : slice_get config.schema.fields number ≡ Some stands.0
  field_stands = (mapped_is config.schema number stands.0 stands.1.0).0

  pub number_within : number < length config.schema.fields
  number_within = slice_get_within config.schema.fields number stands.0 field_stands

  pub field_gathers : (old new : List DocField) (r : Result (Option Reject) AllocError)
      → IfOk r (λ fault. fault ≡ field_fault config path d number (slice_get config.schema.fields number))
      → IfOk r (λ fault. fault ≡ None → RiseFrom 0 old → values_at old number ≡ [] → HasEntered config.schema.fields number d old new)
      → GathersOn config.schema d old new r path
  field_gathers old new (Err e) fault enters = tt
  field_gathers old new (Ok x) fault enters = λ none.
      let fits : field_fault config path d number (slice_get config.schema.fields number) ≡ None = sym fault ∙ none in
      field_brings config.schema path d old number stands.0 new stands.1.0 stands.1.1
      (flat_by stands.0.kind (formats_at config.formats number) path d (rw field_stands at fits)) (enters none)

-- the keys of a map
all_after : (k : String Global) (es : List (String Global × Json)) → AllByRecursion (λ y. string_cmp k y ≡ Less) (keys_of es) → get_member (string_bytes k) (members_view es) ≡ None
all_after k [] h = refl
all_after k (e ∷ es) h =
    let less : slice_cmp nat_cmp (string_bytes k) (string_bytes e.0) ≡ Less = h.0 in
    rw less (all_after k es h.1)

pub distinct_by : (es : List (String Global × Json)) → IsStrictlySortedBy string_cmp (keys_of es) → AreDistinct (members_view es)
unfolding IsStrictlySortedBy
distinct_by [] h = tt
distinct_by (e ∷ es) h = (all_after e.0 es h.0, distinct_by es h.1)

module _ (config : IndexConfig) (prefix : List ℕ) (ms : Members) (levels : ℕ) (old : List DocField) where
  -- what holds in the walk over an object's members where these are left
  abbrev pub StandsAt : Members → List DocField → Type 0
  StandsAt rest doc =
      (members_fault config prefix ms ≡ members_fault config prefix rest) × (members_depth rest ≤ levels) × AreDistinct rest
      × MayLeave config.schema prefix ms old rest doc

  pub begun : members_depth ms ≤ levels → AreDistinct ms → StandsAt ms old
  begun deep distinct = (refl, deep, distinct, all_left config.schema prefix ms old)

  none_from : (fault : Option Reject) → is_some fault ≡ false → fault ≡ None
  none_from None e = refl
  none_from (Some x) e = absurd (cc)

  pub moved : (key bytes : List ℕ) (d : Data) (rest : Members) (doc new : List DocField) (fault : Option Reject) → bytes ≡ key → StandsAt (member key d rest) doc
      → fault ≡ key_fault config (under prefix bytes) bytes d (inner_fault config (under prefix bytes) d) → is_some fault ≡ false
      → (has_dot bytes ≡ true → new ≡ doc) → (has_dot bytes ≡ false → fault ≡ None → Gathers config.schema (under prefix bytes) d doc new) → StandsAt rest new
  moved key bytes d rest doc new fault e stands own none dots gathers =
      let here : StandsAt (member bytes d rest) doc = subst (λ (k : List ℕ). StandsAt (member k d rest) doc) (sym e) stands in
      let fits : key_fault config (under prefix bytes) bytes d (inner_fault config (under prefix bytes) d) ≡ None = sym own ∙ none_from fault none in (
        here.0 ∙ ap (λ o. first_of o (members_fault config prefix rest)) fits,
        omega (arith, here.1),
        here.2.1,
        step config.schema prefix ms old bytes d rest doc new here.2 here.3 dots (λ plain. gathers plain (none_from fault none)),
      )

-- the field at a guess has the path
pub guessed : (fields : List Field) (n : ℕ) (g : Field) (own path : List ℕ) (b : Bool) → PathsRise fields → slice_get fields n ≡ Some g → own ≡ g.path → b ≡ bytes_eq own path
    → b ≡ true → Some n ≡ number_of fields path
guessed fields n g own path b rise a e t h =
    let same : own ≡ path = (bytes_eq-Decides own path).0 (sym t ∙ h) in
    found fields n g path rise a (ap (slice_cmp nat_cmp path) (sym e ∙ same) ∙ own_order path)

-- a refusal is not none
pub refused_not : {B : Type 0} (refusal : Reject) → Some refusal ≡ None → B
refused_not refusal e = absurd (cc)
