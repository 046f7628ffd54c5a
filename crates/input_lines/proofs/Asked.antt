-- A text is a request only by its first word.
use Rattle.std.proofs.Common.{◌≡◌, ◌≢◌, ℕ, List, ◌∷◌, sym, ap, ◌∙◌, subst}
use Rattle.std.specs.Prelude.{All, None, Option, Some}
use Rattle.byte_fields.specs.ClientName.{IsClientName}
use Rattle.input_lines.specs.Request.{Asks, AsksNothing}
use Rattle.run_plan.specs.declared.clients.Request.{Request}
use Rattle.input_lines.proofs.Spelling.{words_in, words_in-next, after_blank, after_blank-one, after_blank-next, client-blankless}
use Rattle.input_lines.proofs.Splitting.{blankless}

same_first : (a b : List ℕ) (xs ys : List (List ℕ)) → a ∷ xs ≡ b ∷ ys → a ≡ b
same_first a b xs ys e = cc

-- its first word is no name
pub unnamed : (text word : List ℕ) (later : List (List ℕ)) → words_in text ≡ word ∷ later → ¬ (IsClientName word) → AsksNothing text
unnamed text word later first bad request asks =
    bad (subst IsClientName
    (same_first request.client word (words_in request.text) later
    (sym (words_in-next request.client request.text (client-blankless request.client asks.named)) ∙ sym (ap words_in asks.is) ∙ first))
    asks.named)

-- it has no blank
pub unbroken : (text word : List ℕ) → All (λ byte. byte ≢ 32) word → text ≡ word → AsksNothing text
unbroken text word all is request asks =
    let none = after_blank-one word (blankless word all) in
    let some = after_blank-next request.client request.text (client-blankless request.client asks.named) in
    let same = ap after_blank (sym is ∙ asks.is) in
    cc

some_same : (a b : List ℕ) → ◌≡◌ {A = Option (List ℕ)} (Some a) (Some b) → a ≡ b
some_same a b e = cc

-- it is one request
pub asks_one : (text : List ℕ) (one other : Request) → Asks text one → Asks text other → one ≡ other
asks_one text one other a b = ap (λ name. record one { client = name }) client ∙ ap (λ rest. record other { text = rest }) rest
  where
    client : one.client ≡ other.client
    client =
        same_first one.client other.client (words_in one.text) (words_in other.text)
        (sym (words_in-next one.client one.text (client-blankless one.client a.named)) ∙ sym (ap words_in a.is) ∙ ap words_in b.is ∙ words_in-next other.client other.text (client-blankless other.client b.named))

    rest : one.text ≡ other.text
    rest =
        some_same one.text other.text
        (sym (after_blank-next one.client one.text (client-blankless one.client a.named)) ∙ sym (ap after_blank a.is) ∙ ap after_blank b.is ∙ after_blank-next other.client other.text (client-blankless other.client b.named))
