-- A text is the spelling of at most one line: a line is read off its text.
use Rattle.std.proofs.Common.{◌≡◌, ℕ, zero, suc, ◌<◌, ◌^◌, Bool, true, false, List, [], ◌∷◌, ◌++◌, refl, sym, ap, ◌∙◌, drop, arith}
use Rattle.std.proofs.lemmas.Bool.{ne_eqb}
use Rattle.std.proofs.lemmas.Fmt.{decimal_is_IsNumeral}
use Rattle.std.proofs.lemmas.List.Elements.{recursion_from_All}
use Rattle.std.proofs.lemmas.Str.Parse.{digit_from_value}
use Rattle.std.specs.Prelude.{Option, Some, None, if◌then◌else◌, ◌==◌, decimal, IsTrue}
use Rattle.std.specs.List.{AllByRecursion}
use Rattle.std.specs.Str.Parse.{AllDigits, digits_value}
use Rattle.source_checkpoint.specs.Names.{IsPartition}
use Rattle.source_checkpoint.specs.Names as partitions
use Rattle.byte_fields.specs.ClientName.{IsClientName}
use Rattle.byte_fields.specs.ClientName as clients
use Rattle.indexing_run.specs.Outcomes.{words}
use Rattle.node_run.specs.Lines.{line_text, IsWellFormed, Spells}
use Rattle.node_run.specs.Node.{Line, At, Assign, StepIndexer, RestartIndexer, RestartClient, StepMerger, RestartMerger, StepDeleter, RestartDeleter, StepCollector, RestartCollector, RestartNode, Open, StepClient}

-- ---- words without a blank

abbrev pub Blankless : List ℕ → Type 0
Blankless [] = Unit {0}
Blankless (c ∷ text) = ((c == 32) ≡ false) × Blankless text

abbrev pub onto_word : ℕ → List (List ℕ) → List (List ℕ)
onto_word c [] = (c ∷ []) ∷ []
onto_word c (word ∷ more) = (c ∷ word) ∷ more

abbrev pub words_in : List ℕ → List (List ℕ)
words_in [] = [] ∷ []
words_in (c ∷ text) = if c == 32 then [] ∷ words_in text else onto_word c (words_in text)

abbrev pub after_blank : List ℕ → Option (List ℕ)
after_blank [] = None
after_blank (c ∷ text) = if c == 32 then Some text else after_blank text

pub words_in-one : (word : List ℕ) → Blankless word → words_in word ≡ word ∷ []
words_in-one [] b = refl
words_in-one (c ∷ word) b = rw (b.0, words_in-one word b.1)

pub words_in-next : (word rest : List ℕ) → Blankless word → words_in (word ++ 32 ∷ rest) ≡ word ∷ words_in rest
words_in-next [] rest b = refl
words_in-next (c ∷ word) rest b = rw (b.0, words_in-next word rest b.1)

pub words_in-words : (word : List ℕ) (more : List (List ℕ)) → Blankless word → AllByRecursion Blankless more → words_in (words (word ∷ more)) ≡ word ∷ more
words_in-words word [] b all = words_in-one word b
words_in-words word (next ∷ more) b all =
    words_in-next word (words (next ∷ more)) b ∙ ap (λ ws. word ∷ ws) (words_in-words next more all.0 all.1)

pub after_blank-one : (word : List ℕ) → Blankless word → after_blank word ≡ None
after_blank-one [] b = refl
after_blank-one (c ∷ word) b = rw b.0 (after_blank-one word b.1)

pub after_blank-next : (word rest : List ℕ) → Blankless word → after_blank (word ++ 32 ∷ rest) ≡ Some rest
after_blank-next [] rest b = refl
after_blank-next (c ∷ word) rest b = rw b.0 (after_blank-next word rest b.1)

-- ---- which words have none

apart : (c : ℕ) → (c ≡ 32 → ⊥) → (c == 32) ≡ false
apart c h = ne_eqb c 32 h

digits-blankless : (ds : List ℕ) → AllDigits 10 ds → Blankless ds
digits-blankless [] d = tt
digits-blankless (c ∷ ds) d = (apart c (λ e. omega (arith, e, digit_from_value c d.0)), digits-blankless ds d.1)

pub decimal-blankless : (n : ℕ) → n < 2 ^ 64 → Blankless (decimal n)
decimal-blankless n h = digits-blankless (decimal n) (decimal_is_IsNumeral n h).0.1

decimal-value : (n : ℕ) → n < 2 ^ 64 → digits_value 10 (decimal n) ≡ n
decimal-value n h = (decimal_is_IsNumeral n h).1

true_is_false : true ≡ false → ⊥
true_is_false e = cc

no_name_byte : (is_byte : ℕ → Bool) → is_byte 32 ≡ false → (b : ℕ) → is_byte b ≡ true → b ≡ 32 → ⊥
no_name_byte is_byte none b is e = true_is_false (sym is ∙ ap is_byte e ∙ none)

bytes-blankless : (is_byte : ℕ → Bool) → is_byte 32 ≡ false → (name : List ℕ) → AllByRecursion (λ b. is_byte b ≡ true) name → Blankless name
bytes-blankless is_byte none [] all = tt
bytes-blankless is_byte none (b ∷ name) all = (apart b (no_name_byte is_byte none b all.0), bytes-blankless is_byte none name all.1)

pub partition-blankless : (name : List ℕ) → IsPartition name → Blankless name
partition-blankless name p =
    bytes-blankless partitions.is_name_byte refl name (recursion_from_All (λ b. IsTrue (partitions.is_name_byte b)) name p.each)

pub client-blankless : (name : List ℕ) → IsClientName name → Blankless name
client-blankless name p =
    bytes-blankless clients.is_name_byte refl name (recursion_from_All (λ b. IsTrue (clients.is_name_byte b)) name p.each)

pub each-blankless : (names : List (List ℕ)) → AllByRecursion IsPartition names → AllByRecursion Blankless names
each-blankless [] all = tt
each-blankless (name ∷ names) all = (partition-blankless name all.0, each-blankless names all.1)

-- ---- a line is read off its text

data Shape : Type 0 where
  at_line : Shape
  assign_line : Shape
  indexer_line : Shape
  restart_indexer_line : Shape
  restart_client_line : Shape
  merger_line : Shape
  restart_merger_line : Shape
  deleter_line : Shape
  restart_deleter_line : Shape
  collector_line : Shape
  restart_collector_line : Shape
  restart_node_line : Shape
  client_line : Shape

abbrev byte_at : ℕ → List ℕ → ℕ
byte_at k [] = 0
byte_at zero (c ∷ text) = c
byte_at (suc k) (c ∷ text) = byte_at k text

abbrev shape_in : List ℕ → Shape
shape_in text =
    if byte_at 0 text == 97
    then (if byte_at 1 text == 116 then at_line else assign_line)
    else (if byte_at 0 text == 105 then indexer_line
    else (if byte_at 0 text == 114
    then (if byte_at 8 text == 105 then restart_indexer_line
    else (if byte_at 9 text == 108 then restart_client_line
    else (if byte_at 8 text == 99 then restart_collector_line else (if byte_at 8 text == 109 then restart_merger_line else (if byte_at 8 text == 100 then restart_deleter_line else restart_node_line)))))
    else (if byte_at 0 text == 109 then merger_line
    else (if byte_at 0 text == 100 then deleter_line
    else (if byte_at 1 text == 111 then collector_line else client_line)))))

abbrev assign_of : List (List ℕ) → Line
assign_of [] = RestartNode
assign_of (word ∷ more) = Assign (digits_value 10 word) more

abbrev client_of : List (List ℕ) → Option (List ℕ) → Line
client_of [] text = RestartNode
client_of (name ∷ more) None = StepClient name
client_of (name ∷ more) (Some text) = Open name text

abbrev line_by : Shape → List ℕ → Line
line_by at_line text = At (digits_value 10 (drop 3 text))
line_by assign_line text = assign_of (words_in (drop 7 text))
line_by indexer_line text = StepIndexer (digits_value 10 (drop 8 text))
line_by restart_indexer_line text = RestartIndexer (digits_value 10 (drop 16 text))
line_by restart_client_line text = RestartClient (drop 15 text)
line_by merger_line text = StepMerger
line_by restart_merger_line text = RestartMerger
line_by deleter_line text = StepDeleter
line_by restart_deleter_line text = RestartDeleter
line_by collector_line text = StepCollector
line_by restart_collector_line text = RestartCollector
line_by restart_node_line text = RestartNode
line_by client_line text = client_of (words_in (drop 7 text)) (after_blank (drop 7 text))

abbrev line_in : List ℕ → Line
line_in text = line_by (shape_in text) text

line_in-text : (line : Line) → IsWellFormed line → line_in (line_text line) ≡ line
line_in-text (At moment) f = ap At (decimal-value moment (omega (arith, f)))
line_in-text (Assign i names) f =
    ap assign_of (words_in-words (decimal i) names (decimal-blankless i f.0) (each-blankless names (recursion_from_All IsPartition names f.1.each)))
    ∙ ap (λ n. Assign n names) (decimal-value i f.0)
line_in-text (StepIndexer i) f = ap StepIndexer (decimal-value i f)
line_in-text (RestartIndexer i) f = ap RestartIndexer (decimal-value i f)
line_in-text (RestartClient name) f = refl
line_in-text StepMerger f = refl
line_in-text RestartMerger f = refl
line_in-text StepDeleter f = refl
line_in-text RestartDeleter f = refl
line_in-text StepCollector f = refl
line_in-text RestartCollector f = refl
line_in-text RestartNode f = refl
line_in-text (Open name text) f =
    ap (λ ws. client_of ws (after_blank (name ++ 32 ∷ text))) (words_in-next name text (client-blankless name f))
    ∙ ap (client_of (name ∷ words_in text)) (after_blank-next name text (client-blankless name f))
line_in-text (StepClient name) f =
    ap (λ ws. client_of ws (after_blank name)) (words_in-one name (client-blankless name f))
    ∙ ap (client_of (name ∷ [])) (after_blank-one name (client-blankless name f))

-- two lines with one text are one
pub spells_one : (text : List ℕ) (a b : Line) → Spells text a → Spells text b → a ≡ b
spells_one text a b sa sb =
    sym (line_in-text a sa.formed) ∙ ap line_in (sym sa.is ∙ sb.is) ∙ line_in-text b sb.formed
