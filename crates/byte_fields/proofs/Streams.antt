-- A read fills the front of the buffer.
use Rattle.std.proofs.Common.{◌≡◌, ℕ, ◌+◌, ◌-◌, ◌<◌, List, [], ◌++◌, length, take, drop, min, sym, ap, ◌∙◌, arith}
use Rattle.std.proofs.lemmas.List.{length-append, length-drop, length-take, drop-drop, take_at, take-append-drop, drop_all, take_all}

pub read_front : (at count : ℕ) (content seen buffer front : List ℕ) → seen ≡ content → front ≡ take count (take (length seen - at) (drop at seen))
    → count ≡ min (length buffer) (length (take (length seen - at) (drop at seen)))
    → (drop at content ≡ take count (front ++ drop count buffer) ++ drop (at + count) content)
    × (count ≡ 0 → 0 < length (front ++ drop count buffer) → drop (at + count) content ≡ [])
read_front at count content seen buffer front same filled' most' =
    let whole : take (length seen - at) (drop at seen) ≡ drop at content = take_all (length seen - at) (drop at seen) (omega (arith, length-drop at seen)) ∙ ap (drop at) same in
    let filled : front ≡ take count (drop at content) = filled' ∙ ap (take count) whole in
    let most : count ≡ min (length buffer) (length (drop at content)) = most' ∙ ap (λ (l : List ℕ). min (length buffer) (length l)) whole in
    let short : length front ≡ count = ap length filled ∙ omega (arith, most, length-take count (drop at content)) in
    let taken : take count (front ++ drop count buffer) ≡ take count (drop at content) = take_at front (drop count buffer) count short ∙ filled in (
      sym (take-append-drop count (drop at content)) ∙ ap (λ (l : List ℕ). take count (drop at content) ++ l) (drop-drop count at content)
          ∙ ap (λ (l : List ℕ). l ++ drop (at + count) content) (sym taken),
      λ none some. drop_all (at + count) content
          (omega (arith, none, some, most, length-append front (drop count buffer), length-drop count buffer, length-drop at content, short)),
    )
