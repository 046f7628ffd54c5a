-- Words of a line are read one after another.
use Rattle.std.proofs.Common.{◌≡◌, ◌≢◌, ℕ, List, [], ◌∷◌, ◌++◌, ap, ◌∙◌, subst}
use Rattle.std.proofs.lemmas.Bool.{ne_eqb}
use Rattle.std.proofs.lemmas.List.Elements.{recursion_from_All}
use Rattle.std.specs.List.{AllByRecursion}
use Rattle.std.specs.Prelude.{Option, Some, None, IfSome, IfNone, All}
use Rattle.input_lines.proofs.Spelling.{Blankless, words_in, words_in-one, words_in-next}

blankless_rec : (word : List ℕ) → AllByRecursion (λ byte. byte ≢ 32) word → Blankless word
blankless_rec [] all = tt
blankless_rec (c ∷ word) all = (ne_eqb c 32 all.0, blankless_rec word all.1)

pub blankless : (word : List ℕ) → All (λ byte. byte ≢ 32) word → Blankless word
blankless word all = blankless_rec word (recursion_from_All (λ byte. byte ≢ 32) word all)

pub one_word : (rest word : List ℕ) → All (λ byte. byte ≢ 32) word → rest ≡ word → words_in rest ≡ word ∷ []
one_word rest word all e = ap words_in e ∙ words_in-one word (blankless word all)

pub next_word : (rest word more : List ℕ) → All (λ byte. byte ≢ 32) word → rest ≡ word ++ 32 ∷ more → words_in rest ≡ word ∷ words_in more
next_word rest word more all e = ap words_in e ∙ words_in-next word more (blankless word all)

pub rest_at_none : {B : Type 0} (rest word : List ℕ) (o : Option B) → o ≡ None → IfNone o (rest ≡ word) → rest ≡ word
rest_at_none {B} rest word o is none = (subst (λ (x : Option B). IfNone x (rest ≡ word)) is none)

pub first_in : {B : Type 0} (now : B → List ℕ) (rest word : List ℕ) (o : Option B) → All (λ byte. byte ≢ 32) word →
    IfSome o (λ x. rest ≡ word ++ 32 ∷ now x) → IfNone o (rest ≡ word) → (later : List (List ℕ)) × (words_in rest ≡ word ∷ later)
first_in now rest word None all some none = ([], one_word rest word all none)
first_in now rest word (Some b) all some none = (words_in (now b), next_word rest word (now b) all some)
