-- The places of clients' names.
use Rattle.std.proofs.Common.{◌≡◌, ℕ, suc, ◌<◌, List, [], ◌∷◌, ◌++◌, length, refl, sym, ap, ◌∙◌, subst, arith, Bool, true, false, cond, map}
use Rattle.std.proofs.lemmas.List.{length-map}
use Rattle.std.proofs.lemmas.Option.{none-some, same_Some}
use Rattle.std.proofs.lemmas.Slice.Eq.{bytes_eq-Decides}
use Rattle.std.specs.BTreeMap.{is_at}
use Rattle.std.specs.Cmp.Lexicographic.{slice_cmp, texts_ties}
use Rattle.std.specs.List.{AllZip}
use Rattle.std.specs.Map.{lookup}
use Rattle.std.specs.Option.{option_map}
use Rattle.std.specs.Ordering.{nat_cmp}
use Rattle.std.specs.Prelude.{Option, Some, None, bytes_eq, if◌then◌else◌}
use Rattle.source_log.specs.Log.{Log}
use Rattle.index_world.specs.Core.{Core}
use Rattle.root_search.specs.Searching.{SearcherStands}
use Rattle.root_search.specs.Steps.{Client, without_request}
use Rattle.root_search.specs.declared.searcher.Searcher.{Searcher}
use Rattle.node_run.specs.Named.{NamedAt, place_in, names_of, HasPlaces}
use Rattle.node_run.specs.Turns.{with_client, with_dropped}
use Rattle.node_run.proofs.Names.{IsUnknown}
use Rattle.node_run.proofs.Zips.{zip_length}

-- ---- a place and what stands there

mapped_none : (o : Option ℕ) → option_map suc o ≡ None → o ≡ None
mapped_none None e = refl
mapped_none (Some i) e = absurd (cc)

mapped_some : (o : Option ℕ) (i : ℕ) (P : Type 0) → option_map suc o ≡ Some i → ((j : ℕ) → o ≡ Some j → i ≡ suc j → P) → P
mapped_some None i P e use_it = absurd (none-some i e)
mapped_some (Some j) i P e use_it = use_it j refl (sym (same_Some (suc j) i e))

pub place_below : (name : List ℕ) (names : List (List ℕ)) (i : ℕ) → place_in name names ≡ Some i → i < length names
place_below name [] i e = absurd (none-some i e)
place_below name (n ∷ names) i e = by (bytes_eq n name) (λ j at. place_below name names j at) e where
  by : (b : Bool) → ((j : ℕ) → place_in name names ≡ Some j → j < length names) → (if b then Some 0 else option_map suc (place_in name names)) ≡ Some i → i < suc (length names)
  by true again e = let zero_is : 0 ≡ i = same_Some 0 i e in omega (arith, zero_is)
  by false again e = mapped_some (place_in name names) i (i < suc (length names)) e (λ j at is. let below : j < length names = again j at in omega (arith, below, is))

module _ (core : Core) (log : Log) where
  abbrev Stand : Searcher → Client → Type 0
  Stand s m = SearcherStands s m core log

  pub as_many : (ss given : List Searcher) (ms : List Client) → given ≡ ss → AllZip Stand ss ms → length (names_of ms) ≡ length given
  as_many ss given ms e z = length-map ms (λ m. m.name) ∙ sym (zip_length Stand ss ms z) ∙ sym (ap length e)

  pub named_at : (name : List ℕ) (ss : List Searcher) (ms : List Client) (i : ℕ) → AllZip Stand ss ms → place_in name (names_of ms) ≡ Some i → NamedAt name ss i
  named_at name [] [] i z e = absurd (none-some i e)
  named_at name [] (m ∷ ms) i z e = absurd z
  named_at name (s ∷ ss) [] i z e = absurd z
  named_at name (s ∷ ss) (m ∷ ms) i z e = by (bytes_eq m.name name) refl (λ j at. named_at name ss ms j z.1 at) e where
    other : bytes_eq m.name name ≡ false → s.client ≡ name → ⊥
    other h same = let yes = (bytes_eq-Decides m.name name).1 (sym z.0.name ∙ same) in cc

    by : (b : Bool) → bytes_eq m.name name ≡ b → ((j : ℕ) → place_in name (names_of ms) ≡ Some j → NamedAt name ss j) →
        (if b then Some 0 else option_map suc (place_in name (names_of ms))) ≡ Some i → NamedAt name (s ∷ ss) i
    by true h again e = subst (NamedAt name (s ∷ ss)) (same_Some 0 i e) (z.0.name ∙ (bytes_eq-Decides m.name name).0 h)
    by false h again e = mapped_some (place_in name (names_of ms)) i (NamedAt name (s ∷ ss) i) e
        (λ j at is. subst (NamedAt name (s ∷ ss)) (sym is) (other h, again j at))

  pub not_named : (name : List ℕ) (ss : List Searcher) (ms : List Client) → AllZip Stand ss ms → place_in name (names_of ms) ≡ None → IsUnknown name ss
  not_named name [] [] z e = tt
  not_named name [] (m ∷ ms) z e = absurd z
  not_named name (s ∷ ss) [] z e = absurd z
  not_named name (s ∷ ss) (m ∷ ms) z e = by (bytes_eq m.name name) refl (λ none. not_named name ss ms z.1 none) e where
    other : bytes_eq m.name name ≡ false → s.client ≡ name → ⊥
    other h same = let yes = (bytes_eq-Decides m.name name).1 (sym z.0.name ∙ same) in cc

    by : (b : Bool) → bytes_eq m.name name ≡ b → (place_in name (names_of ms) ≡ None → IsUnknown name ss) →
        (if b then Some 0 else option_map suc (place_in name (names_of ms))) ≡ None → IsUnknown name (s ∷ ss)
    by true h again e = absurd (none-some 0 (sym e))
    by false h again e = (other h, again (mapped_none (place_in name (names_of ms)) e))

-- ---- names that stay

pub names_with : (c d : Client) (ms : List Client) → c.name ≡ d.name → names_of (with_client c ms) ≡ names_of (with_client d ms)
names_with c d [] e = ap (λ n. n ∷ []) e
names_with c d (m ∷ ms) e =
    by (bytes_eq m.name c.name) (names_with c d ms e) ∙ ap (λ (b : Bool). names_of (if b then d ∷ ms else m ∷ with_client d ms)) (ap (bytes_eq m.name) e)
  where
    by : (b : Bool) → names_of (with_client c ms) ≡ names_of (with_client d ms) →
        names_of (if b then c ∷ ms else m ∷ with_client c ms) ≡ names_of (if b then d ∷ ms else m ∷ with_client d ms)
    by true again = ap (λ n. n ∷ names_of ms) e
    by false again = ap (λ ns. m.name ∷ ns) again

pub names_without : (ms : List Client) → names_of (map without_request ms) ≡ names_of ms
names_without [] = refl
names_without (m ∷ ms) = ap (λ ns. m.name ∷ ns) (names_without ms)

pub names_dropped : (name : List ℕ) (ms : List Client) → names_of (with_dropped name ms) ≡ names_of ms
names_dropped name [] = refl
names_dropped name (m ∷ ms) = by (bytes_eq m.name name) (names_dropped name ms) where
  by : (b : Bool) → names_of (with_dropped name ms) ≡ names_of ms → names_of (if b then without_request m ∷ ms else m ∷ with_dropped name ms) ≡ m.name ∷ names_of ms
  by true again = refl
  by false again = ap (λ ns. m.name ∷ ns) again

-- ---- one name more

place_last : (q name : List ℕ) (names : List (List ℕ)) → bytes_eq name q ≡ true → place_in q names ≡ None → place_in q (names ++ name ∷ []) ≡ Some (length names)
place_last q name [] h e = ap (λ (b : Bool). if b then Some 0 else None) h
place_last q name (n ∷ names) h e = by (bytes_eq n q) (λ none. place_last q name names h none) e where
  by : (b : Bool) → (place_in q names ≡ None → place_in q (names ++ name ∷ []) ≡ Some (length names)) → (if b then Some 0 else option_map suc (place_in q names)) ≡ None → (if b then Some 0 else option_map suc (place_in q (names ++ name ∷ []))) ≡ Some (suc (length names))
  by true again e = absurd (none-some 0 (sym e))
  by false again e = ap (option_map suc) (again (mapped_none (place_in q names) e))

place_other : (q name : List ℕ) (names : List (List ℕ)) → bytes_eq name q ≡ false → place_in q (names ++ name ∷ []) ≡ place_in q names
place_other q name [] h = ap (λ (b : Bool). if b then Some 0 else None) h
place_other q name (n ∷ names) h = ap (λ (o : Option ℕ). if bytes_eq n q then Some 0 else option_map suc o) (place_other q name names h)

-- a map in which a new name was put behind the others
pub put_behind : (name : List ℕ) (names : List (List ℕ)) (old new : List (List ℕ × ℕ)) (count : ℕ) → count ≡ length names → place_in name names ≡ None → HasPlaces old names →
    ((q : List ℕ) → lookup (is_at (slice_cmp nat_cmp q)) new ≡ cond (is_at (slice_cmp nat_cmp name) q) (Some count) (lookup (is_at (slice_cmp nat_cmp q)) old)) →
    HasPlaces new (names ++ name ∷ [])
put_behind name names old new count last none has put = λ q. put q ∙ ap (λ b. cond b (Some count) (lookup (is_at (slice_cmp nat_cmp q)) old)) (sym (texts_ties name q)) ∙ by q (bytes_eq name q) refl where
  by : (q : List ℕ) (b : Bool) → bytes_eq name q ≡ b → cond b (Some count) (lookup (is_at (slice_cmp nat_cmp q)) old) ≡ place_in q (names ++ name ∷ [])
  by q true h =
      let same : name ≡ q = (bytes_eq-Decides name q).0 h in
      ap (λ n. Some n) last ∙ sym (place_last q name names h (subst (λ m. place_in m names ≡ None) same none))
  by q false h = has q ∙ sym (place_other q name names h)
