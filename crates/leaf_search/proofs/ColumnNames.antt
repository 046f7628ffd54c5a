-- The columns that a request asks for, named one by one.
use Rattle.std.proofs.Common.{◌≡◌, ℕ, zero, suc, ◌+◌, ◌<◌, ◌⊎◌, inl, inr, true, false, List, [], ◌∷◌, ◌++◌, length, drop, get_or, Option, Some, None, refl, ap, sym, ◌∙◌, subst, arith}
use Rattle.std.proofs.lemmas.List.{drop_more}
use Rattle.std.proofs.lemmas.List.Elements.{Contains-append_cases, Contains-append_left, Contains-append_right}
use Rattle.doc_value.specs.declared.facts.TimeRange.{TimeRange}
use Rattle.doc_value.specs.declared.schema.Schema.{Schema}
use Rattle.query_ast.specs.Meaning.{is_unlimited}
use Rattle.agg_nested.specs.Checking.{field_of}
use Rattle.agg_nested.specs.declared.request.NamedFlat.{NamedFlat}
use Rattle.agg_nested.specs.declared.request.NestedAgg.{NestedAgg}
use Rattle.split_bundle.specs.declared.footer.Footer.{Footer}
use Rattle.split_bundle.specs.declared.part_view.PartView.{PartView}
use Rattle.split_bundle.specs.declared.pieces.FilePiece.{FilePiece}
use Rattle.split_bundle.specs.declared.placed.Placed.{Placed}
use Rattle.split_bundle.specs.Files.{Parts, file_bytes}
use Rattle.split_bundle.specs.Lending.{IsPartOf, start_of_column}
use Rattle.split_bundle.specs.Pieces.{ArePieces}
use Rattle.split_bundle.specs.Views.{IsFooterOf}
use Rattle.doc_tallies.specs.AggColumns.{AsksColumns, AsksFields, fields_asked, fields_of}
use Rattle.doc_tallies.specs.Causes.{AsksColumn, columns_start}
use Rattle.doc_tallies.specs.Orders.{sort_field}
use Rattle.doc_tallies.specs.declared.hit_order.HitOrder.{HitOrder}
use Rattle.leaf_search.specs.Answers.{AsksTimes}
use Rattle.leaf_search.specs.FileRanges.{AddsParts}
use Rattle.leaf_search.specs.Needs.{NeedsColumns, NeedsOrder, fields_nested}
use Rattle.leaf_search.specs.declared.file_ranges.FileRange.{FileRange}
use Rattle.leaf_search.specs.declared.request.LeafRequest.{LeafRequest}
use Rattle.leaf_search.proofs.RangeLists.{both_added, none_added, parts_alike}

module _ (v : PartView) (p : Parts) where
  -- ---- the timestamp's

  same_column : (m n at len : ℕ) → Some m ≡ Some n → AsksColumn v p m at len → AsksColumn v p n at len
  same_column m n at len e h = let same : m ≡ n = cc in subst (λ k. AsksColumn v p k at len) same h

  pub times_named : (s : Schema) (times : TimeRange) (number : ℕ) (old new : List FileRange) → is_unlimited times.start times.end ≡ false → s.timestamp ≡ Some number → AddsParts (AsksColumn v p number) old new → AddsParts (AsksTimes v p s times) old new
  times_named s times number old new limited is adds =
      parts_alike (AsksColumn v p number) (AsksTimes v p s times) old new
      (λ a n h. record { limited = limited; asks = record { number = number; is_field = is; column = h } })
      (λ a n h. same_column h.asks.number number a n (sym h.asks.is_field ∙ is) h.asks.column) adds

  pub no_times : (s : Schema) (times : TimeRange) (rs : List FileRange) → is_unlimited times.start times.end ≡ true → AddsParts (AsksTimes v p s times) rs rs
  no_times s times rs unlimited = none_added (AsksTimes v p s times) rs (λ a n h. let bad : true ≡ false = sym unlimited ∙ h.limited in cc)

  pub no_timestamp : (s : Schema) (times : TimeRange) (rs : List FileRange) → s.timestamp ≡ None → AddsParts (AsksTimes v p s times) rs rs
  no_timestamp s times rs none = none_added (AsksTimes v p s times) rs (λ a n h. let no : Option ℕ = None in let bad : no ≡ Some h.asks.number = sym none ∙ h.asks.is_field in cc)

  -- ---- those of aggregations

  next_among : (n : ℕ) (ns : List ℕ) (old middle new : List FileRange) → AddsParts (AsksColumn v p n) old middle → AddsParts (AsksColumns v p ns) middle new → AddsParts (AsksColumns v p (n ∷ ns)) old new
  next_among n ns old middle new first behind =
      parts_alike (λ at len. AsksColumn v p n at len ⊎ AsksColumns v p ns at len) (AsksColumns v p (n ∷ ns)) old new
      (λ a l h. elim h [
        | inl here ↦ record { number = n; among = (zero, omega arith, refl); column = here }
        | inr later ↦ record { number = later.number; among = (suc later.among.0, omega (arith, later.among.1), later.among.2); column = later.column }
      ])
      (λ a l h. go h.number h.among.0 h.among.1 h.among.2 a l h.column)
      (both_added (AsksColumn v p n) (AsksColumns v p ns) old middle new first behind)
    where
      go : (number k : ℕ) → k < suc (length ns) → get_or (n ∷ ns) k number ≡ number → (a l : ℕ) → AsksColumn v p number a l → AsksColumn v p n a l ⊎ AsksColumns v p ns a l
      go number zero small is a l column = inl (subst (λ m. AsksColumn v p m a l) (sym is) column)
      go number (suc k) small is a l column = inr (record { number = number; among = (k, omega (arith, small), is); column = column })

  both_among : (ns ms : List ℕ) (old middle new : List FileRange) → AddsParts (AsksColumns v p ns) old middle → AddsParts (AsksColumns v p ms) middle new → AddsParts (AsksColumns v p (ns ++ ms)) old new
  both_among ns ms old middle new first behind =
      parts_alike (λ at len. AsksColumns v p ns at len ⊎ AsksColumns v p ms at len) (AsksColumns v p (ns ++ ms)) old new
      (λ a l h. elim h [
        | inl one ↦ record { number = one.number; among = Contains-append_left ns ms one.number one.among; column = one.column }
        | inr other ↦ record { number = other.number; among = Contains-append_right ns ms other.number other.among; column = other.column }
      ])
      (λ a l h. elim (Contains-append_cases ns ms h.number h.among) [
        | inl one ↦ inl (record { number = h.number; among = one; column = h.column })
        | inr other ↦ inr (record { number = h.number; among = other; column = h.column })
      ])
      (both_added (AsksColumns v p ns) (AsksColumns v p ms) old middle new first behind)

  pub next_nested : (nested : List NamedFlat) (i : ℕ) (x : NamedFlat) (number : ℕ) (old middle new : List FileRange) → i < length nested → x ≡ get_or nested i x → number ≡ field_of x.agg → AddsParts (AsksColumn v p number) old middle
      → AddsParts (AsksColumns v p (fields_nested (drop (i + 1) nested))) middle new → AddsParts (AsksColumns v p (fields_nested (drop i nested))) old new
  next_nested nested i x number old middle new lt e same first behind =
      let xs : List NamedFlat = drop (i + 1) nested in
      let rest : drop i nested ≡ x ∷ xs = drop_more nested i x lt ∙ ap (λ y. y ∷ xs) (sym e) in
      subst (λ (l : List NamedFlat). AddsParts (AsksColumns v p (fields_nested l)) old new) (sym rest)
      (next_among (field_of x.agg) (fields_nested xs) old middle new (subst (λ k. AddsParts (AsksColumn v p k) old middle) same first) behind)

  pub no_nested : (nested : List NamedFlat) (rs : List FileRange) → nested ≡ [] → AddsParts (AsksColumns v p (fields_nested nested)) rs rs
  no_nested nested rs none = subst (λ (l : List NamedFlat). AddsParts (AsksColumns v p (fields_nested l)) rs rs) (sym none) (none_added (AsksColumns v p []) rs (λ a n h. omega (arith, h.among.1)))

  pub next_field : (aggs : List NestedAgg) (i : ℕ) (x : NestedAgg) (number : ℕ) (old own middle new : List FileRange) → i < length aggs → x ≡ get_or aggs i x → number ≡ field_of x.agg → AddsParts (AsksColumn v p number) old own
      → AddsParts (AsksColumns v p (fields_nested x.nested)) own middle → AddsParts (AsksFields v p (drop (i + 1) aggs)) middle new → AddsParts (AsksFields v p (drop i aggs)) old new
  next_field aggs i x number old own middle new lt e same first nested behind =
      let xs : List NestedAgg = drop (i + 1) aggs in
      let rest : drop i aggs ≡ x ∷ xs = drop_more aggs i x lt ∙ ap (λ y. y ∷ xs) (sym e) in
      let here = next_among (field_of x.agg) (fields_nested x.nested) old own middle (subst (λ k. AddsParts (AsksColumn v p k) old own) same first) nested in
      subst (λ (l : List NestedAgg). AddsParts (AsksFields v p l) old new) (sym rest)
      (both_among (fields_of x) (fields_asked xs) old middle new here behind)

  pub no_fields : (aggs : List NestedAgg) (rs : List FileRange) → aggs ≡ [] → AddsParts (AsksFields v p aggs) rs rs
  no_fields aggs rs none = subst (λ (l : List NestedAgg). AddsParts (AsksFields v p l) rs rs) (sym none) (none_added (AsksColumns v p []) rs (λ a n h. omega (arith, h.among.1)))

  -- ---- the order's

  pub order_named : (r : LeafRequest) (order : HitOrder) (old new : List FileRange) → 0 < r.wanted → r.order ≡ Some order → AddsParts (AsksColumn v p order.field) old new → AddsParts (NeedsOrder v p r) old new
  order_named r order old new wanted is adds =
      parts_alike (AsksColumn v p order.field) (NeedsOrder v p r) old new
      (λ a n h. (wanted, record { number = order.field; is_field = ap sort_field is; column = h }))
      (λ a n h. same_column h.1.number order.field a n (sym h.1.is_field ∙ ap sort_field is) h.1.column) adds

  pub no_order : (r : LeafRequest) (rs : List FileRange) → r.order ≡ None → AddsParts (NeedsOrder v p r) rs rs
  no_order r rs none = none_added (NeedsOrder v p r) rs (λ a n h. let no : Option ℕ = None in let bad : no ≡ Some h.1.number = sym (ap sort_field none) ∙ h.1.is_field in cc)

  pub none_wanted : (r : LeafRequest) (rs : List FileRange) → r.wanted ≡ 0 → AddsParts (NeedsOrder v p r) rs rs
  none_wanted r rs none = none_added (NeedsOrder v p r) rs (λ a n h. omega (arith, none, h.0))

-- ---- a view of the same footer

column_alike : (v w : PartView) (p : Parts) → v.footer ≡ w.footer → (number at len : ℕ) → AsksColumn v p number at len → AsksColumn w p number at len
column_alike v w p same number at len h = record { at_is = h.at_is ∙ ap (λ (f : Footer). columns_start f.layout.sections + start_of_column number p.column_starts) same; len_is = h.len_is }

columns_alike : (v w : PartView) (s : Schema) (p : Parts) (r : LeafRequest) → v.footer ≡ w.footer → (at len : ℕ) → NeedsColumns v s p r at len → NeedsColumns w s p r at len
columns_alike v w s p r same at len (inl h) = inl (record { limited = h.limited; asks = record { number = h.asks.number; is_field = h.asks.is_field; column = column_alike v w p same h.asks.number at len h.asks.column } })
columns_alike v w s p r same at len (inr (inl h)) = inr (inl (record { number = h.number; among = h.among; column = column_alike v w p same h.number at len h.column }))
columns_alike v w s p r same at len (inr (inr h)) = inr (inr (h.0, record { number = h.1.number; is_field = h.1.is_field; column = column_alike v w p same h.1.number at len h.1.column }))

pub columns_named : (v w : PartView) (s : Schema) (p : Parts) (r : LeafRequest) (old new : List FileRange) → v.footer ≡ w.footer → AddsParts (NeedsColumns v s p r) old new → AddsParts (NeedsColumns w s p r) old new
columns_named v w s p r old new same adds = parts_alike (NeedsColumns v s p r) (NeedsColumns w s p r) old new (columns_alike v w s p r same) (columns_alike w v s p r (sym same)) adds

pub bare_part : (v w : PartView) (s : Schema) (ds : List Placed) (p : Parts) → IsPartOf w s ds p → v.footer ≡ w.footer → v.pieces ≡ [] → IsPartOf v s ds p
bare_part v w s ds p part same bare = record {
  is_split = part.is_split;
  footer = subst (λ (f : Footer). IsFooterOf p f) (sym same) part.footer;
  pieces = subst (λ (ps : List FilePiece). ArePieces (file_bytes p) ps) (sym bare) tt;
}
