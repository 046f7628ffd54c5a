-- From the block that can have a key to the whole dictionary.
use Rattle.std.proofs.Common.{◌≡◌, ℕ, ◌≤◌, List, ◌++◌, length, take, drop, Result, Ok, Err, sym, ◌∙◌, ap}
use Rattle.std.specs.Prelude.{IfOk, IsOkAnd}
use Rattle.std.proofs.lemmas.List.{take-append-drop, drop-append-le}
use Rattle.byte_fields.specs.declared.corrupt.Corrupt.{Corrupt}
use Rattle.term_dict.specs.Terms.{area, lookup, from_key}
use Rattle.term_dict.specs.Blocks.{IsAround}
use Rattle.term_dict.specs.declared.term.Term.{Term}
use Rattle.term_dict.proofs.Runs.{lookup_behind, lookup_front, from_key_behind, from_key_front}
use Rattle.term_dict.proofs.Starts.{area-append}

pub lookup_inside : (bytes : List ℕ) (terms : List Term) (key : List ℕ) (start end : ℕ) (w : IsAround bytes terms key start end) → lookup key terms ≡ lookup key w.inside
lookup_inside bytes terms key start end w =
    ap (λ (l : List Term). lookup key l) w.parts ∙ lookup_behind key w.before (w.inside ++ w.behind) w.below ∙ lookup_front key w.inside w.behind w.above

pub from_key_inside : (bytes : List ℕ) (terms : List Term) (key : List ℕ) (start end : ℕ) (w : IsAround bytes terms key start end) → from_key key terms ≡ from_key key w.inside ++ w.behind
from_key_inside bytes terms key start end w =
    ap (λ (l : List Term). from_key key l) w.parts ∙ from_key_behind key w.before (w.inside ++ w.behind) w.below ∙ from_key_front key w.inside w.behind w.above

at_place : (bytes : List ℕ) (terms : List Term) (key : List ℕ) (start end at : ℕ) (w : IsAround bytes terms key start end) → at ≤ length (take end bytes)
    → drop at (take end bytes) ≡ area (from_key key w.inside) → drop at bytes ≡ area (from_key key terms)
at_place bytes terms key start end at w le e =
    ap (λ (l : List ℕ). drop at l) (sym (take-append-drop end bytes)) ∙ drop-append-le at (take end bytes) (drop end bytes) le
    ∙ ap (λ (l : List ℕ). l ++ drop end bytes) e ∙ ap (λ (l : List ℕ). area (from_key key w.inside) ++ l) w.behind_bytes
    ∙ sym (area-append (from_key key w.inside) w.behind) ∙ ap (λ (l : List Term). area l) (sym (from_key_inside bytes terms key start end w))

pub place_is : (r : Result ℕ Corrupt) (bytes : List ℕ) (terms : List Term) (key : List ℕ) (start end : ℕ) (w : IsAround bytes terms key start end) → IfOk r (λ at. at ≤ length (take end bytes))
    → IsOkAnd r (λ at. drop at (take end bytes) ≡ area (from_key key w.inside)) → IsOkAnd r (λ at. drop at bytes ≡ area (from_key key terms))
place_is (Ok at) bytes terms key start end w le e = at_place bytes terms key start end at w le e
place_is (Err e) bytes terms key start end w le h = absurd h
