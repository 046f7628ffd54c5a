use Rattle.std.proofs.Common.{◌≡◌, ℕ, Bool, List, [], map, Option, Some, Ok, Err, true, false, refl, ap, sym, ◌∙◌, slice_get, if◌then◌else◌}
use Rattle.std.specs.List.{list_any}
use Rattle.std.specs.Option.{option_map_or}
use Rattle.doc_value.specs.declared.doc.DocField.{DocField}
use Rattle.doc_value.specs.declared.doc.Value.{Value}
use Rattle.doc_value.specs.declared.schema.Field.{Field}
use Rattle.doc_value.specs.declared.schema.Schema.{Schema}
use Rattle.dynamic_paths.specs.LeafTexts.{Leaf, leaf_text, fits}
use Rattle.query_ast.specs.FieldTokens.{prefix_text}
use Rattle.query_ast.specs.Meaning.{asks as asked, word_holds, quoted_holds, some_has_prefix, some_item_holds}
use Rattle.query_ast.specs.Sought as sought
use Rattle.query_reader.specs.Asking.{Asking}
use Rattle.query_reader.specs.Asking as asks
use Rattle.query_reader.specs.Resolve.{resolve_clause, named_clause, unnamed_clause, leaf_clause, overlong_clause, leaf_item}
use Rattle.query_reader.specs.Texts.{text_at}
use Rattle.query_reader.specs.declared.refusal.QueryError.TheVariants as refusals
use Rattle.query_reader.specs.declared.special.Member.{Member}
use Rattle.query_reader.specs.declared.special.Ranged.{Ranged}
use Rattle.query_reader.specs.declared.tree.Span.{Span}
use Rattle.query_reader.proofs.Holding.{holder}
use Rattle.dynamic_laws.specs.Listed.{Lists, IsUnmapped, Means, has_kept, has_front, has_path}
use Rattle.dynamic_laws.proofs.Found.{word_in, quoted_in, items_in, front_in, path_in, none_kept, none_of, none_begins, none_there}
use Rattle.dynamic_laws.proofs.laws.clause_laws.Goals as goal

asked_one : (s : Schema) (n : ℕ) (f : Field) (holds : Field → Bool) → slice_get s.fields n ≡ Some f → asked s n holds ≡ holds f
asked_one s n f holds here = ap (λ (o : Option Field). option_map_or holds o false) here

module _ (s : Schema) (doc : List DocField) (leaves : List Leaf) (l : Lists s doc leaves) (defaults text : List ℕ) (path : Span) (u : IsUnmapped s (text_at text path)) where
  read_by : (a : Asking) → resolve_clause s defaults text (Some path) a ≡ (if fits (text_at text path) then leaf_clause text (text_at text path) l.number a else overlong_clause a)
  read_by a = ap (λ (o : Option ℕ). named_clause s defaults text o path a) u.0 ∙ ap (λ (d : Option ℕ). unnamed_clause text (text_at text path) d a) l.dynamic

  read_as : (a : Asking) → fits (text_at text path) ≡ true → resolve_clause s defaults text (Some path) a ≡ leaf_clause text (text_at text path) l.number a
  read_as a e = read_by a ∙ ap (λ b. if b then leaf_clause text (text_at text path) l.number a else overlong_clause a) e

  -- nothing is asked of a path that is too long
  nothing : (a : Asking) (holds : Bool) → overlong_clause a ≡ Ok (sought.Not sought.All) → fits (text_at text path) ≡ false → holds ≡ false → Means s doc defaults text path a holds
  nothing a holds is e none = record {
    query = sought.Not sought.All;
    read = read_by a ∙ ap (λ b. if b then leaf_clause text (text_at text path) l.number a else overlong_clause a) e ∙ is;
    means = sym none;
  }

  by_length : {M : Type 0} → (fits (text_at text path) ≡ true → M) → (fits (text_at text path) ≡ false → M) → M
  by_length {M} short long = go (fits (text_at text path)) refl
    where
      go : (b : Bool) → fits (text_at text path) ≡ b → M
      go true e = short e
      go false e = long e

  word_means : (words : Span) → fits (text_at text path) ≡ true → Means s doc defaults text path (asks.Word words) (has_kept leaves (text_at text path) (text_at text words))
  word_means words e =
      let r = holder s.fields l.number l.field in
      let w : List ℕ = leaf_text (text_at text path) (text_at text words) in
      record {
        query = sought.Word l.number w;
        read = read_as (asks.Word words) e;
        means = asked_one s l.number r.0 _ r.1 ∙ ap (λ (vs : List Value). word_holds r.0 w vs) l.listed ∙ word_in r.0 r.2 (text_at text path) u.1 leaves l.short (text_at text words);
      }

  quoted_means : (words : Span) → fits (text_at text path) ≡ true → Means s doc defaults text path (asks.Quoted words) (has_kept leaves (text_at text path) (text_at text words))
  quoted_means words e =
      let r = holder s.fields l.number l.field in
      let w : List ℕ = leaf_text (text_at text path) (text_at text words) in
      record {
        query = sought.Quoted l.number w;
        read = read_as (asks.Quoted words) e;
        means = asked_one s l.number r.0 _ r.1 ∙ ap (λ (vs : List Value). quoted_holds r.0 w vs) l.listed ∙ quoted_in r.0 r.2 (text_at text path) u.1 leaves l.short (text_at text words);
      }

  set_means : (at : ℕ) (ms : List Member) → fits (text_at text path) ≡ true → Means s doc defaults text path (asks.OneOf at ms) (list_any (λ (m : Member). has_kept leaves (text_at text path) (text_at text m.place)) ms)
  set_means at ms e =
      let r = holder s.fields l.number l.field in
      record {
        query = sought.AnyOf l.number (map (leaf_item text (text_at text path)) ms);
        read = read_as (asks.OneOf at ms) e;
        means = asked_one s l.number r.0 _ r.1 ∙ ap (λ (vs : List Value). some_item_holds r.0 vs (map (leaf_item text (text_at text path)) ms)) l.listed
            ∙ items_in r.0 r.2 (text_at text path) u.1 leaves l.short text ms;
      }

  prefix_means : (front : Span) → fits (text_at text path) ≡ true → Means s doc defaults text path (asks.Prefix front) (has_front leaves (text_at text path) (text_at text front))
  prefix_means front e =
      let r = holder s.fields l.number l.field in
      let w : List ℕ = leaf_text (text_at text path) (text_at text front) in
      record {
        query = sought.Prefix l.number w;
        read = read_as (asks.Prefix front) e;
        means = asked_one s l.number r.0 _ r.1 ∙ ap (λ (vs : List Value). some_has_prefix r.0 (prefix_text r.0 w) vs) l.listed
            ∙ front_in r.0 r.2 (text_at text path) (text_at text front) u.1 leaves l.short;
      }

  presence_means : fits (text_at text path) ≡ true → Means s doc defaults text path asks.Any (has_path leaves (text_at text path))
  presence_means e =
      let r = holder s.fields l.number l.field in
      let w : List ℕ = leaf_text (text_at text path) [] in
      record {
        query = sought.Prefix l.number w;
        read = read_as asks.Any e;
        means = asked_one s l.number r.0 _ r.1 ∙ ap (λ (vs : List Value). some_has_prefix r.0 (prefix_text r.0 w) vs) l.listed ∙ path_in r.0 r.2 (text_at text path) u.1 leaves l.short;
      }

  range_is : (at : ℕ) (ranged : Ranged) → resolve_clause s defaults text (Some path) (asks.Within at ranged) ≡ Err (refusals.BadValue at)
  range_is at ranged = by_length (λ e. read_as (asks.Within at ranged) e) (λ e. read_by (asks.Within at ranged) ∙ ap (λ b. if b then leaf_clause text (text_at text path) l.number (asks.Within at ranged) else overlong_clause (asks.Within at ranged)) e)

pub returns : goal.returns
returns c = record {
  word = λ s doc leaves l defaults text path words u. by_length s doc leaves l defaults text path u (word_means s doc leaves l defaults text path u words)
      (λ e. nothing s doc leaves l defaults text path u (asks.Word words) _ refl e (none_kept leaves (text_at text path) (text_at text words) e));
  quoted = λ s doc leaves l defaults text path words u. by_length s doc leaves l defaults text path u (quoted_means s doc leaves l defaults text path u words)
      (λ e. nothing s doc leaves l defaults text path u (asks.Quoted words) _ refl e (none_kept leaves (text_at text path) (text_at text words) e));
  set = λ s doc leaves l defaults text path at ms u. by_length s doc leaves l defaults text path u (set_means s doc leaves l defaults text path u at ms)
      (λ e. nothing s doc leaves l defaults text path u (asks.OneOf at ms) _ refl e (none_of leaves (text_at text path) text e ms));
  prefix = λ s doc leaves l defaults text path front u. by_length s doc leaves l defaults text path u (prefix_means s doc leaves l defaults text path u front)
      (λ e. nothing s doc leaves l defaults text path u (asks.Prefix front) _ refl e (none_begins leaves (text_at text path) (text_at text front) e));
  presence = λ s doc leaves l defaults text path u. by_length s doc leaves l defaults text path u (presence_means s doc leaves l defaults text path u)
      (λ e. nothing s doc leaves l defaults text path u asks.Any _ refl e (none_there leaves (text_at text path) e));
  range = λ s doc leaves l defaults text path at ranged u. range_is s doc leaves l defaults text path u at ranged;
}
