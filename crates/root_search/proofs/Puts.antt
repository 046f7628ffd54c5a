-- A footer that is put into a cache.
use Rattle.std.proofs.Common.{◌≡◌, ◌∙◌, ℕ, ◌⊎◌, inl, inr, List, [], Option, Some, None, Result, Ok, Err, OnOk, OnErr, nat_eq, sym, subst, Contains}
use Rattle.std.specs.Option.{IfSome, option_map_or}
use Rattle.std.proofs.lemmas.Bool.{eqb-true}
use Rattle.lru.proofs.CallerLemmas.{Contains-put_entries}
use Rattle.lru.specs.LruCache.{LruCache, lru_cache, put_entries}
use Rattle.root_search.specs.Footers.{KeepsMore}
use Rattle.split_bundle.specs.declared.footer.Footer.{Footer}

put_ok : (old new : LruCache ℕ Footer) (number : ℕ) (footer : Footer) → new ≡ lru_cache (put_entries nat_eq old number footer) old.cap → (n : ℕ) (f : Footer) → Contains new.entries (n, f) → Contains old.entries (n, f) ⊎ ((n ≡ number) × (f ≡ footer))
put_ok old new number footer same n f among =
    elim (Contains-put_entries nat_eq old number footer (n, f) (subst (λ (c : LruCache ℕ Footer). Contains c.entries (n, f)) same among)) [
      | inl before ↦ inl before
      | inr is ↦ inr (elim is.1 [ inl e ↦ e | inr there ↦ sym (eqb-true number n there.2) ], is.0)
    ]

pub put_more : {X E : Type 0} (old new : LruCache ℕ Footer) (number : ℕ) (footer : Footer) (r : Result X E) → OnOk r (new ≡ lru_cache (put_entries nat_eq old number footer) old.cap) → OnErr r (new ≡ old) → KeepsMore old.entries new.entries number footer
put_more old new number footer (Ok x) ok err = put_ok old new number footer ok
put_more old new number footer (Err e) ok err = λ n f among. inl (subst (λ (c : LruCache ℕ Footer). Contains c.entries (n, f)) err among)

pub keeps_as : (old more new : List (ℕ × Footer)) (number : ℕ) (copy footer : Footer) → old ≡ more → copy ≡ footer → KeepsMore old new number copy → KeepsMore more new number footer
keeps_as old more new number copy footer same alike keeps = λ n f among.
    elim (keeps n f among) [ inl before ↦ inl (subst (λ (es : List (ℕ × Footer)). Contains es (n, f)) same before) | inr is ↦ inr (is.0, is.1 ∙ alike) ]

-- the first footer of a cache
pub first_more : (number : ℕ) (footer : Footer) (o : Option (LruCache ℕ Footer)) → IfSome o (λ cache. KeepsMore [] cache.entries number footer) → KeepsMore [] (option_map_or (λ cache. cache.entries) o []) number footer
first_more number footer None keeps = λ n f among. inl among
first_more number footer (Some cache) keeps = keeps
