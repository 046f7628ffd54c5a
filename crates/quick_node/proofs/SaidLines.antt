-- Lines that are written one after another.
use Rattle.std.proofs.Common.{◌≡◌, ℕ, ◌+◌, ◌<◌, true, false, List, [], ◌∷◌, ◌++◌, drop, flat_map, get_or, length, map, refl, sym, ap, ◌∙◌, inl, inr, subst, append_assoc}
use Rattle.std.proofs.lemmas.List.{append-nil, drop_more}
use Rattle.std.specs.List.{AllByRecursion}
use Rattle.std.specs.Prelude.{IsErr, IsSome, Option, Some, Result, Ok, Err, option_to_list}
use Rattle.quick_node.specs.Runs.{Said, with_feeds}
use Rattle.quick_node.specs.Saying.{SaysSome, SaysUpTo, WroteSo}
use Rattle.quick_node.specs.Serve.{IsPrefixOf}
use Rattle.quick_node.specs.declared.error_line.End.{End as Ended}
use Rattle.quick_node.specs.declared.error_line.End.TheVariants as ended
use Rattle.quick_node.specs.declared.saying.Unsaid.{Unsaid}

-- Behind what was held this was written of a whole text, of which these lines are left.
pub record HasSaid (held : List ℕ) (content : Option (List ℕ)) (left : List (List ℕ)) (whole : List ℕ) : Type 0 where
  pub said : List ℕ
  pub written : content ≡ Some (held ++ said)
  pub rest : said ++ with_feeds left ≡ whole

pub none_said : (held : List ℕ) (content : Option (List ℕ)) (left : List (List ℕ)) → content ≡ Some held → HasSaid held content left (with_feeds left)
none_said held content left is = record { said = []; written = is ∙ ap Some (sym (append-nil held)); rest = refl }

module _ (held : List ℕ) (content : Option (List ℕ)) (line : List ℕ) (more : List (List ℕ)) (whole : List ℕ) (h : HasSaid held content (line ∷ more) whole) where
  one_line : line ++ (10 ∷ with_feeds more) ≡ (line ++ 10 ∷ []) ++ with_feeds more
  one_line = sym (append_assoc line (10 ∷ []) (with_feeds more))

  -- a line more was written
  pub one_more : (content' : Option (List ℕ)) (piece : List ℕ) → content' ≡ Some ((held ++ h.said) ++ piece) → piece ≡ line ++ 10 ∷ [] → HasSaid held content' more whole
  one_more content' piece is all =
      record {
        said = h.said ++ piece;
        written = is ∙ ap Some (append_assoc held h.said piece);
        rest = append_assoc h.said piece (with_feeds more) ∙ ap (λ p. h.said ++ (p ++ with_feeds more)) all ∙ ap (λ l. h.said ++ l) (sym one_line) ∙ h.rest;
      }

  -- a front of it
  pub some_more : (piece : List ℕ) → IsPrefixOf piece (line ++ 10 ∷ []) → IsPrefixOf (h.said ++ piece) whole
  some_more piece p = (
    p.0 ++ with_feeds more,
    sym h.rest ∙ ap (λ l. h.said ++ l) (one_line ∙ ap (λ l. l ++ with_feeds more) p.1 ∙ append_assoc piece p.0 (with_feeds more)) ∙ sym (append_assoc h.said piece (p.0 ++ with_feeds more)),
  )

-- what was said is a front of the whole
pub said_front : (held : List ℕ) (content : Option (List ℕ)) (left : List (List ℕ)) (whole : List ℕ) → (h : HasSaid held content left whole) → IsPrefixOf h.said whole
said_front held content left whole h = (with_feeds left, sym h.rest)

-- and where nothing is left, the whole
pub all_said : (held : List ℕ) (content : Option (List ℕ)) (left : List (List ℕ)) (whole : List ℕ) → (h : HasSaid held content left whole) → left ≡ [] → h.said ≡ whole
all_said held content left whole h none = sym (append-nil h.said) ∙ ap (λ ls. h.said ++ with_feeds ls) (sym none) ∙ h.rest

-- lines behind lines
pub feeds_on : (lines more : List (List ℕ)) → with_feeds (lines ++ more) ≡ with_feeds lines ++ with_feeds more
feeds_on [] more = refl
feeds_on (line ∷ lines) more = ap (λ l. line ++ (10 ∷ l)) (feeds_on lines more) ∙ sym (append_assoc line (10 ∷ with_feeds lines) (with_feeds more))

-- ---- a loop over what has a line each

pub next_line : {X : Type 0} (f : X → List ℕ) (xs : List X) (i : ℕ) (x : X) → i < length xs → x ≡ get_or xs i x → map f (drop i xs) ≡ f x ∷ map f (drop (i + 1) xs)
next_line {X} f xs i x within is = ap (map f) (drop_more xs i x within ∙ ap (λ (y : X). y ∷ drop (i + 1) xs) (sym is))

pub next_told : {X : Type 0} (f : X → Option (List ℕ)) (xs : List X) (i : ℕ) (x : X) (line : List ℕ) → i < length xs → x ≡ get_or xs i x → Some line ≡ f x →
    flat_map (λ y. option_to_list (f y)) (drop i xs) ≡ line ∷ flat_map (λ y. option_to_list (f y)) (drop (i + 1) xs)
next_told {X} f xs i x line within is told =
    ap (flat_map (λ y. option_to_list (f y))) (drop_more xs i x within ∙ ap (λ (y : X). y ∷ drop (i + 1) xs) (sym is))
    ∙ ap (λ o. option_to_list o ++ flat_map (λ y. option_to_list (f y)) (drop (i + 1) xs)) (sym told)

pub next_of_all : {X : Type 0} (P : X → Type 0) (xs : List X) (i : ℕ) (x : X) → i < length xs → x ≡ get_or xs i x → P x → AllByRecursion P (drop (i + 1) xs) → AllByRecursion P (drop i xs)
next_of_all {X} P xs i x within is holds rest =
    subst (AllByRecursion P) (sym (drop_more xs i x within ∙ ap (λ (y : X). y ∷ drop (i + 1) xs) (sym is))) (holds, rest)

pub is_told : (o : Option (List ℕ)) (line : List ℕ) → Some line ≡ o → IsSome o
is_told o line told = subst IsSome told refl

-- ---- what was written

pub wrote_front : (text said : List ℕ) (r : Result (Unit {0}) Unsaid) → IsErr r → IsPrefixOf text said → WroteSo text said r
wrote_front text said (Ok done) bad p = absurd (false_is_true bad)
  where
    false_is_true : false ≡ true → ⊥
    false_is_true e = cc
wrote_front text said (Err why) bad p = p

pub front_on : (text said more : List ℕ) → IsPrefixOf text said → IsPrefixOf text (said ++ more)
front_on text said more p = (p.0 ++ more, ap (λ s. s ++ more) p.1 ∙ append_assoc text p.0 more)

pub front_behind : (before text said : List ℕ) → IsPrefixOf text said → IsPrefixOf (before ++ text) (before ++ said)
front_behind before text said p = (p.0, ap (λ s. before ++ s) p.1 ∙ sym (append_assoc before text p.0))

pub wrote_behind : (before text said : List ℕ) (r : Result (Unit {0}) Unsaid) → WroteSo text said r → WroteSo (before ++ text) (before ++ said) r
wrote_behind before text said (Ok done) same = ap (λ s. before ++ s) same
wrote_behind before text said (Err why) p = front_behind before text said p

-- ---- a run

pub says_none : (Ran : Said → Type 0) (end : Ended) → end ≡ ended.Memory → SaysSome Ran [] end
says_none Ran end is = inl (is, refl)

pub says_by : (Ran : Said → Type 0) (said : Said) (text : List ℕ) (e end : Ended) → end ≡ e → Ran said → SaysUpTo said text e → SaysSome Ran text end
says_by Ran said text e end is ran says = inr (said, ran, subst (SaysUpTo said text) (sym is) says)
