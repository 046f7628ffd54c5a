use Rattle.std.proofs.Common.{◌≡◌, ◌∷◌, [], List, ℕ, sym, subst, inl, inr, ap, ◌∙◌}
use Rattle.std.specs.Prelude.{All}
use Rattle.std.proofs.lemmas.List.Elements.{All-append, All-cons, All-nil}
use Rattle.std.specs.Borrow.{Bor}
use Rattle.doc_value.specs.declared.doc.Value.{Value}
use Rattle.doc_value.specs.declared.doc.Value.TheVariants as values
use Rattle.fast_fields.specs.Columns.{Cell, cells_of, SomeText}
use Rattle.fast_fields.specs.Texts.{IsCellText}
use Rattle.fast_fields.proofs.Gathered.{text_gathered, none_gathered, values_gathered}
use Rattle.fast_fields.proofs.texts.gather_row.Goals as goal

-- what is some text of these values is one of the cells
abbrev AreSome : List Cell → ℕ → List Value → Type 0
AreSome cs document vs = (t : List ℕ) → SomeText (cells_of document vs) t → SomeText cs t

pub loop-value-init : goal.loop-value-init
loop-value-init c = (λ cs document all sub. (all, sub), λ document t h. h)

pub loop-value-preserved-in_ok-push : goal.loop-value-preserved-in_ok-push
loop-value-preserved-in_ok-push c =
    let text : c.in-Some.value.now ≡ values.Text c.as_str.result.now = c.in-Text.is ∙ ap (λ (l : List ℕ). values.Text l) (sym c.as_str.ensures) in (
      λ cs document all sub.
          let inv = c.loop-value.invariant.0 cs document all sub in
          let some : AreSome cs document (c.in-Some.value.now ∷ c.in-Some.behind.now) = subst (λ (l : List Value). AreSome cs document l) c.in-Some.ensures.cases.0 inv.1 in
          let cell : IsCellText cs c.as_str.result = record { some = some c.as_str.result.now (inl text); utf8 = c.as_str.utf8 } in (
            subst (λ (l : List (Bor (List ℕ))). All (IsCellText cs) l) (sym c.in_ok-push.ensures.items)
                (All-append (IsCellText cs) c.loop-value.all.items (c.as_str.result ∷ []) inv.0 (All-cons (IsCellText cs) c.as_str.result [] cell (All-nil (IsCellText cs)))),
            λ t h. some t (inr h),
          ),
      λ document t h.
          text_gathered document c.loop-value.rest.now c.in-Some.behind.now c.in-Some.value.now c.loop-value.all.items c.push.new.self.items c.as_str.result t c.in-Some.ensures.cases.0 text c.in_ok-push.ensures.items
          (c.loop-value.invariant.1 document t h),
    )

pub loop-value-preserved : goal.loop-value-preserved
loop-value-preserved c = (
  λ cs document all sub.
      let inv = c.loop-value.invariant.0 cs document all sub in
      let some : AreSome cs document (c.in-Some.value.now ∷ c.in-Some.behind.now) = subst (λ (l : List Value). AreSome cs document l) c.in-Some.ensures.cases.0 inv.1 in
      (inv.0, λ t h. some t (inr h)),
  λ document t h.
      none_gathered document c.loop-value.rest.now c.in-Some.behind.now c.in-Some.value.now c.loop-value.all.items t c.in-Some.ensures.cases.0 (λ same. c.in_default-value.not-Text t same)
      (c.loop-value.invariant.1 document t h),
)

pub returns-clause-texts : goal.returns-clause-texts
returns-clause-texts c cs document all sub = (c.loop-value.invariant.0 cs document all sub).0

pub returns-clause-each : goal.returns-clause-each
returns-clause-each c document t h = values_gathered document c.loop-value.rest.now c.loop-value.all.items t c.in_default.ensures.cases (c.loop-value.invariant.1 document t h)
