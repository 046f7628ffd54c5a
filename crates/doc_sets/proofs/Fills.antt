-- Blocks of a list that are put into a set.
use Rattle.std.proofs.Common.{◌≡◌, ℕ, zero, suc, ◌+◌, ◌<◌, Bool, true, false, ◌||◌, ◌==◌, List, [], ◌∷◌, drop, take, refl, ap, sym, ◌∙◌}
use Rattle.std.specs.List.{AllByRecursion}
use Rattle.std.proofs.lemmas.List.{drop-drop}
use Rattle.term_postings.specs.Postings.{documents}
use Rattle.term_postings.specs.declared.list.Posting.{Posting}
use Rattle.doc_sets.specs.Sets.{is_in, is_one_of}

or_group : (a b r : Bool) → (a || b) || r ≡ a || (b || r)
or_group true b r = refl
or_group false b r = refl

-- a document is among the first ones or among the others
in_front : (k m : ℕ) (ps : List Posting) → is_in k ps ≡ is_one_of k (documents (take m ps)) || is_in k (drop m ps)
in_front k zero ps = refl
in_front k (suc m) [] = refl
in_front k (suc m) (p ∷ ps) = ap (λ b. (k == p.document) || b) (in_front k m ps) ∙ sym (or_group (k == p.document) (is_one_of k (documents (take m ps))) (is_in k (drop m ps)))

-- numbers below one, of documents that are
pub taken_below : (size m : ℕ) (ps : List Posting) → AllByRecursion (λ p. p.document < size) ps → AllByRecursion (λ n. n < size) (documents (take m ps))
taken_below size zero ps h = tt
taken_below size (suc m) [] h = tt
taken_below size (suc m) (p ∷ ps) h = (h.0, taken_below size m ps h.1)

pub dropped_below : (size m : ℕ) (ps : List Posting) → AllByRecursion (λ p. p.document < size) ps → AllByRecursion (λ p. p.document < size) (drop m ps)
dropped_below size zero ps h = h
dropped_below size (suc m) [] h = h
dropped_below size (suc m) (p ∷ ps) h = dropped_below size m ps h.1

-- a block was put in
pub block_in : (k n m : ℕ) (list : List Posting) (given : List ℕ) (new old first : Bool) → given ≡ documents (take m (drop n list)) → new ≡ old || is_one_of k given → old || is_in k (drop n list) ≡ first
    → new || is_in k (drop (n + m) list) ≡ first
block_in k n m list given new old first e put h =
    ap (λ b. b || is_in k (drop (n + m) list)) (put ∙ ap (λ l. old || is_one_of k l) e)
    ∙ (ap (λ l. (old || is_one_of k (documents (take m (drop n list)))) || is_in k l) (sym (drop-drop m n list))
    ∙ (or_group old (is_one_of k (documents (take m (drop n list)))) (is_in k (drop m (drop n list)))
    ∙ (ap (λ b. old || b) (sym (in_front k m (drop n list))) ∙ h)))

-- no document is left
pub none_in : (k : ℕ) (left : List Posting) (a b : Bool) → left ≡ [] → a || is_in k left ≡ b → a ≡ b
none_in k left a b e h = sym (ap (λ l. a || is_in k l) e ∙ or_none a) ∙ h
  where
    or_none : (x : Bool) → x || false ≡ x
    or_none true = refl
    or_none false = refl
