-- Texts that stand one behind the other.
use Rattle.std.proofs.Common.{◌≡◌, ℕ, zero, suc, ◌+◌, ◌<◌, ◌≤◌, List, [], ◌∷◌, ◌++◌, length, drop, get_or, Some, refl, sym, ◌∙◌, ap, arith, suc-add, append_assoc}
use Rattle.std.proofs.Common.{Option, None, Bool, true, false}
use Rattle.std.proofs.lemmas.Bool.{false≢true}
use Rattle.fast_fields.specs.Columns.{texts_bytes}
use Rattle.std.specs.Borrow.{Bor}
use Rattle.fast_fields.specs.Readers.{LendsText}
use Rattle.std.specs.Prelude.{slice_get, IsUtf8}
use Rattle.std.specs.List.{flat_map, AllByRecursion}
use Rattle.std.proofs.lemmas.List.{append-nil, drop_all, length-map}
use Rattle.fast_fields.specs.Texts.{texts_in}
use Rattle.byte_fields.specs.Spelling.{byte_string, varint}

-- the first of the texts from a place on
pub text_front : (bytes rest : List ℕ) (at : ℕ) (texts : List (List ℕ)) (i : ℕ) → i < length texts → drop at bytes ≡ flat_map byte_string (drop i texts) ++ rest → AllByRecursion IsUtf8 texts
    → (t : List ℕ) × (slice_get texts i ≡ Some t) × IsUtf8 t × (drop at bytes ≡ byte_string t ++ (flat_map byte_string (drop (i + 1) texts) ++ rest))
text_front bytes rest at [] i lt e utf8 = absurd (omega arith)
text_front bytes rest at (t ∷ ts) zero lt e utf8 = (t, refl, utf8.0, e ∙ append_assoc (byte_string t) (flat_map byte_string ts) rest)
text_front bytes rest at (t ∷ ts) (suc i) lt e utf8 = rw suc-add (text_front bytes rest at ts i (omega arith) e utf8.1)

pub texts_end : (bytes rest : List ℕ) (at : ℕ) (texts : List (List ℕ)) (i : ℕ) → length texts ≤ i → drop at bytes ≡ flat_map byte_string (drop i texts) ++ rest → drop at bytes ≡ rest
texts_end bytes rest at texts i le e = e ∙ ap (λ (l : List (List ℕ)). flat_map byte_string l ++ rest) (drop_all i texts le)

pub lends_text : (t : Bor (List ℕ)) (u : List ℕ) (o : Option (List ℕ)) → o ≡ Some u → t.now ≡ u → LendsText (Some t) o
lends_text t u None e same = absurd cc
lends_text t u (Some v) e same =
    let is : u ≡ v = cc in
    same ∙ is

text_next : (texts : List (Bor (List ℕ))) (i : ℕ) (d : Bor (List ℕ)) → i < length texts
    → flat_map byte_string (texts_in (drop i texts)) ≡ byte_string (get_or texts i d).now ++ flat_map byte_string (texts_in (drop (i + 1) texts))
text_next [] i d lt = absurd (omega arith)
text_next (t ∷ ts) zero d lt = refl
text_next (t ∷ ts) (suc i) d lt = rw suc-add (text_next ts i d (omega arith))

-- some of the texts were put, and the rest completes them
pub text_put : (out next whole : List ℕ) (texts : List (Bor (List ℕ))) (i : ℕ) (d : Bor (List ℕ)) → i < length texts → out ++ flat_map byte_string (texts_in (drop i texts)) ≡ whole
    → next ≡ out ++ byte_string (get_or texts i d).now → next ++ flat_map byte_string (texts_in (drop (i + 1) texts)) ≡ whole
text_put out next whole texts i d lt h is =
    ap (λ (l : List ℕ). l ++ flat_map byte_string (texts_in (drop (i + 1) texts))) is ∙ append_assoc out (byte_string (get_or texts i d).now) (flat_map byte_string (texts_in (drop (i + 1) texts)))
    ∙ ap (λ (l : List ℕ). out ++ l) (sym (text_next texts i d lt)) ∙ h

pub texts_put : (texted : Bool) (start out : List ℕ) (texts : List (Bor (List ℕ))) (i : ℕ) → texted ≡ true → length texts ≤ i
    → out ++ flat_map byte_string (texts_in (drop i texts)) ≡ start ++ (varint (length texts) ++ flat_map byte_string (texts_in texts)) → out ≡ start ++ texts_bytes texted (texts_in texts)
texts_put false start out texts i is le h = absurd (false≢true is)
texts_put true start out texts i is le h =
    sym (append-nil out) ∙ ap (λ (l : List (Bor (List ℕ))). out ++ flat_map byte_string (texts_in l)) (sym (drop_all i texts le)) ∙ h
    ∙ ap (λ (n : ℕ). start ++ (varint n ++ flat_map byte_string (texts_in texts))) (sym (length-map texts (λ (b : Bor (List ℕ)). b.now)))
