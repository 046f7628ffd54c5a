-- Words of a text.
use Rattle.std.proofs.Common.{◌≡◌, ℕ, Bool, true, false, List, [], ◌∷◌, ◌++◌, refl, sym, ap, ◌∙◌}
use Rattle.std.proofs.lemmas.Bool.{ne_eqb}
use Rattle.std.proofs.lemmas.List.Elements.{recursion_from_All}
use Rattle.std.specs.Prelude.{Option, Some, None, if◌then◌else◌, ◌==◌, IsTrue}
use Rattle.std.specs.List.{AllByRecursion}
use Rattle.byte_fields.specs.ClientName.{IsClientName}
use Rattle.byte_fields.specs.ClientName as clients

abbrev pub Blankless : List ℕ → Type 0
Blankless [] = Unit {0}
Blankless (c ∷ text) = ((c == 32) ≡ false) × Blankless text

abbrev pub onto_word : ℕ → List (List ℕ) → List (List ℕ)
onto_word c [] = (c ∷ []) ∷ []
onto_word c (word ∷ more) = (c ∷ word) ∷ more

abbrev pub words_in : List ℕ → List (List ℕ)
words_in [] = [] ∷ []
words_in (c ∷ text) = if c == 32 then [] ∷ words_in text else onto_word c (words_in text)

abbrev pub after_blank : List ℕ → Option (List ℕ)
after_blank [] = None
after_blank (c ∷ text) = if c == 32 then Some text else after_blank text

pub words_in-one : (word : List ℕ) → Blankless word → words_in word ≡ word ∷ []
words_in-one [] b = refl
words_in-one (c ∷ word) b = rw (b.0, words_in-one word b.1)

pub words_in-next : (word rest : List ℕ) → Blankless word → words_in (word ++ 32 ∷ rest) ≡ word ∷ words_in rest
words_in-next [] rest b = refl
words_in-next (c ∷ word) rest b = rw (b.0, words_in-next word rest b.1)

pub after_blank-one : (word : List ℕ) → Blankless word → after_blank word ≡ None
after_blank-one [] b = refl
after_blank-one (c ∷ word) b = rw b.0 (after_blank-one word b.1)

pub after_blank-next : (word rest : List ℕ) → Blankless word → after_blank (word ++ 32 ∷ rest) ≡ Some rest
after_blank-next [] rest b = refl
after_blank-next (c ∷ word) rest b = rw b.0 (after_blank-next word rest b.1)

apart : (c : ℕ) → (c ≡ 32 → ⊥) → (c == 32) ≡ false
apart c h = ne_eqb c 32 h

true_is_false : true ≡ false → ⊥
true_is_false e = cc

no_name_byte : (is_byte : ℕ → Bool) → is_byte 32 ≡ false → (b : ℕ) → is_byte b ≡ true → b ≡ 32 → ⊥
no_name_byte is_byte none b is e = true_is_false (sym is ∙ ap is_byte e ∙ none)

bytes-blankless : (is_byte : ℕ → Bool) → is_byte 32 ≡ false → (name : List ℕ) → AllByRecursion (λ b. is_byte b ≡ true) name → Blankless name
bytes-blankless is_byte none [] all = tt
bytes-blankless is_byte none (b ∷ name) all = (apart b (no_name_byte is_byte none b all.0), bytes-blankless is_byte none name all.1)

pub client-blankless : (name : List ℕ) → IsClientName name → Blankless name
client-blankless name p =
    bytes-blankless clients.is_name_byte refl name (recursion_from_All (λ b. IsTrue (clients.is_name_byte b)) name p.each)
