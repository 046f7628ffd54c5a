-- The request by what the bytes are.
use Rattle.std.proofs.Common.{◌≡◌, ℕ, List, Option, Result, Err, refl, sym, subst, inl, inr}
use Rattle.std.specs.Str.{is_utf8, IsUtf8}
use Rattle.std.proofs.lemmas.Bool.{cases_Bool}
use Rattle.std.proofs.lemmas.Str.{IsUtf8-from_is_utf8, is_utf8-from_IsUtf8}
use Rattle.serde_json.specs.Data.{Data}
use Rattle.serde_json.specs.Read.{read}
use Rattle.search_api.specs.declared.request.Request.{Request}
use Rattle.search_api.specs.declared.request_error.RequestError.{RequestError}
use Rattle.search_api.specs.declared.request_error.RequestError.TheVariants.{NotJson}
use Rattle.search_api.specs.Answers.{Gives}
use Rattle.search_api.specs.Requests.{request_in, request_of}

pub no_text : (bytes : List ℕ) → ¬ (IsUtf8 bytes) → request_of bytes ≡ Err NotJson
no_text bytes lacks =
    elim (cases_Bool (is_utf8 bytes)) [
      | inl is_text ↦ absurd (lacks (IsUtf8-from_is_utf8 bytes is_text))
      | inr not_text ↦ rw not_text refl
    ]

pub of_text : (bytes text : List ℕ) (o : Option Data) → IsUtf8 bytes → text ≡ bytes → read text ≡ o → request_of bytes ≡ request_in o
of_text bytes text o is_text e r = rw (is_utf8-from_IsUtf8 bytes is_text, ← e, r) refl

pub given : (result : Result Request RequestError) (x y : Result Request RequestError) → y ≡ x → Gives x result → Gives y result
given result x y e h = subst (λ (z : Result Request RequestError). Gives z result) (sym e) h
