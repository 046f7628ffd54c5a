-- When a call has answered as a definition says.
use Rattle.std.specs.Prelude.{◌≡◌, Result, Ok, Err}
use Rattle.search_api.specs.declared.request_error.RequestError.{RequestError}
use Rattle.search_api.specs.declared.request_error.RequestError.TheVariants.{NotJson, UnknownKey, WrongKind, TooManyHits, MissingKey, Memory}

-- a refusal for want of memory, which says nothing of the request
abbrev pub IsMemory : RequestError → Type 0
IsMemory (Memory e) = Unit {0}
IsMemory NotJson = ⊥
IsMemory (UnknownKey name) = ⊥
IsMemory (WrongKind name) = ⊥
IsMemory (TooManyHits wanted) = ⊥
IsMemory (MissingKey name) = ⊥

-- the answer is this one, unless memory is wanting
abbrev pub Gives : {A : Type 0} → Result A RequestError → Result A RequestError → Type 0
Gives answer (Ok x) = answer ≡ Ok x
Gives answer (Err e) = ¬ IsMemory e → answer ≡ Err e
