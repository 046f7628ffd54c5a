use Rattle.std.proofs.Common.{◌≡◌, ℕ, ◌+◌, ◌<◌, ◌≤◌, List, [], ◌∷◌, ◌++◌, refl, sym, ◌∙◌, ap, subst, arith}
use Rattle.std.specs.List.{AllByRecursion}
use Rattle.term_postings.specs.Postings.{AreRising, documents}
use Rattle.term_postings.specs.declared.list.Posting.{Posting}
use Rattle.term_postings.proofs.Lists.{all_both}
use Rattle.test_rows.proofs.postings.listed.Goals as goal

above_push : (k : ℕ) (ps : List Posting) (p : Posting) → AllByRecursion (λ m. k < m) (documents ps) → k < p.document → AllByRecursion (λ m. k < m) (documents (ps ++ p ∷ []))
above_push k [] p h lt = (lt, tt)
above_push k (q ∷ qs) p h lt = (h.0, above_push k qs p h.1 lt)

rising_push : (ps : List Posting) (p : Posting) → AreRising (documents ps) → AllByRecursion (λ q. q.document < p.document) ps → AreRising (documents (ps ++ p ∷ []))
rising_push [] p h below = (tt, tt)
rising_push (q ∷ qs) p h below = (above_push q.document qs p h.0 below.0, rising_push qs p h.1 below.1)

wider : (ps : List Posting) (m n : ℕ) → m ≤ n → AllByRecursion (λ q. q.document < m) ps → AllByRecursion (λ q. q.document < n) ps
wider [] m n le h = tt
wider (q ∷ qs) m n le h = (omega (arith, h.0), wider qs m n le h.1)

abbrev IsGrown : List Posting → ℕ → Type 0
IsGrown ps n = AreRising (documents ps) × AllByRecursion (λ q. q.document < n) ps × AllByRecursion (λ q. q.positions ≡ []) ps

grown : (old : List Posting) (p : Posting) (n : ℕ) → p.document ≡ n → p.positions ≡ [] → IsGrown old n → IsGrown (old ++ p ∷ []) (n + 1)
grown old p n document none h =
    let below : AllByRecursion (λ q. q.document < p.document) old = subst (λ (k : ℕ). AllByRecursion (λ q. q.document < k) old) (sym document) h.1 in
    let small : p.document < n + 1 = omega (arith, document) in (
      rising_push old p h.0 below,
      all_both (λ (q : Posting). q.document < n + 1) old (p ∷ []) (wider old n (n + 1) (omega arith) h.1) (small, tt),
      all_both (λ (q : Posting). q.positions ≡ []) old (p ∷ []) h.2 (none, tt),
    )

pub loop-document-preserved : goal.loop-document-preserved
loop-document-preserved c = rw c.in_ok-push.ensures.ok (grown c.loop-document.list _ c.loop-document.document refl c.vacant.ensures c.loop-document.invariant)
