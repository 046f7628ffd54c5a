-- Words name a command without options exactly where they are its name alone, and `run` where they are its name and its options.
use Rattle.std.proofs.Common.{◌≡◌, ◌⊎◌, inl, inr, ℕ, Bool, true, false, List, [], ◌∷◌, Option, Some, None, refl, sym, ap, subst, ◌∙◌}
use Rattle.std.specs.Bool.{⊤}
use Rattle.std.proofs.lemmas.Slice.Eq.{bytes_eq-Decides}
use Rattle.std.specs.Prelude.{bytes_eq, codes, if◌then◌else◌, option_map}
use Rattle.command_words.specs.Words.{alone_of, name_of, command_named, command_of, run_of}
use Rattle.command_words.specs.declared.command.Command.{Command}
use Rattle.command_words.specs.declared.command.Command.TheVariants.{Create, Drive, Run, Splits, Describe}
use Rattle.command_words.specs.declared.run.RunOptions.{RunOptions}

-- the name alone is the command, where it has no options
abbrev pub IsNamed : Command → Option Command → Type 0
IsNamed (Run options) named = ⊤
IsNamed command named = named ≡ Some command

pub name_names : (command : Command) → IsNamed command (command_of (name_of command ∷ []))
name_names Create = refl
name_names Drive = refl
name_names (Run options) = tt
name_names Splits = refl
name_names Describe = refl

-- this name was met, or what follows answers
met_or_on : (word : List ℕ) (one command : Command) (otherwise : Option Command) → (if bytes_eq word (name_of one) then Some one else otherwise) ≡ Some command →
    (word ≡ name_of command) ⊎ (otherwise ≡ Some command)
met_or_on word one command otherwise named = go (bytes_eq word (name_of one)) refl
  where
    go : (t : Bool) → bytes_eq word (name_of one) ≡ t → (word ≡ name_of command) ⊎ (otherwise ≡ Some command)
    go true e =
        let same : Some one ≡ Some command = rw e at named in
        let is : one ≡ command = cc same in inl ((bytes_eq-Decides word (name_of one)).0 e ∙ ap name_of is)
    go false e = inr (rw e at named)

named_is : (word : List ℕ) (command : Command) → command_named word ≡ Some command → word ≡ name_of command
named_is word command named =
    elim (met_or_on word Create command _ named) [
      | inl is ↦ is
      | inr rest ↦ elim (met_or_on word Drive command _ rest) [
        | inl is ↦ is
        | inr rest ↦ elim (met_or_on word Splits command _ rest) [
          | inl is ↦ is
          | inr rest ↦ elim (met_or_on word Describe command _ rest) [ inl is ↦ is | inr none ↦ cc ]
        ]
      ]
    ]

-- the words of a command
abbrev pub AreOf : Command → List (List ℕ) → Type 0
AreOf (Run options) words = (behind : List (List ℕ)) × (words ≡ codes "run" ∷ behind) × (run_of behind ≡ Some options)
AreOf command words = words ≡ name_of command ∷ []

alone : (word : List ℕ) (command : Command) → bytes_eq word (codes "run") ≡ false → word ≡ name_of command → AreOf command (word ∷ [])
alone word Create other is = ap (λ (w : List ℕ). w ∷ []) is
alone word Drive other is = ap (λ (w : List ℕ). w ∷ []) is
alone word (Run options) other is = let bad : true ≡ false = sym ((bytes_eq-Decides word (codes "run")).1 is) ∙ other in cc
alone word Splits other is = ap (λ (w : List ℕ). w ∷ []) is
alone word Describe other is = ap (λ (w : List ℕ). w ∷ []) is

pub names_alone : (words : List (List ℕ)) (command : Command) → command_of words ≡ Some command → AreOf command words
names_alone [] command named = cc
names_alone (name ∷ rest) command named = go (bytes_eq name (codes "run")) refl rest named
  where
    runs : (rest : List (List ℕ)) → name ≡ codes "run" → (r : Option RunOptions) → run_of rest ≡ r → option_map Run r ≡ Some command → AreOf command (name ∷ rest)
    runs rest is None e named = cc
    runs rest is (Some options) e named =
        let same : Run options ≡ command = cc in
        subst (λ k. AreOf k (name ∷ rest)) same (rest, ap (λ (w : List ℕ). w ∷ rest) is, e)

    go : (b : Bool) → bytes_eq name (codes "run") ≡ b → (rest : List (List ℕ)) → (if b then option_map Run (run_of rest) else alone_of name rest) ≡ Some command → AreOf command (name ∷ rest)
    go true e rest named = runs rest ((bytes_eq-Decides name (codes "run")).0 e) (run_of rest) refl named
    go false e [] named = alone name command e (named_is name command named)
    go false e (word ∷ rest) named = cc
