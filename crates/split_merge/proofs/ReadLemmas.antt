-- Documents that are read one after the other, of views of any bytes.
use Rattle.std.proofs.Common.{◌≡◌, ℕ, zero, suc, ◌+◌, ◌<◌, ◌≤◌, Bool, List, [], ◌∷◌, Result, Ok, Err, refl, sym, ap, ◌∙◌, arith, append_assoc}
use Rattle.std.proofs.lemmas.List.{append-nil}
use Rattle.doc_value.specs.declared.schema.Schema.{Schema}
use Rattle.split_bundle.specs.declared.placed.Placed.{Placed}
use Rattle.split_bundle.specs.declared.split_view.SplitView.{SplitView}
use Rattle.split_bundle.specs.declared.split_error.SplitError.{SplitError}
use Rattle.split_bundle.specs.declared.split_error.SplitError.TheVariants as split
use Rattle.split_bundle.specs.Reading.{MayGive}
use Rattle.split_merge.specs.declared.merge_error.MergeError.{MergeError}
use Rattle.split_merge.specs.Keeping.{is_named}
use Rattle.split_merge.specs.Merging.{fault_of}
use Rattle.split_merge.specs.Reading.{MayFind, behind, document_of, documents_of, of_view, read_from, unless}

-- ---- one behind the other

pub behind_none : {E : Type 0} (read : Result (List Placed) E) → behind (Ok []) read ≡ read
behind_none (Ok documents) = refl
behind_none (Err e) = refl

pub behind_assoc : {E : Type 0} (a b c : Result (List Placed) E) → behind (behind a b) c ≡ behind a (behind b c)
behind_assoc (Err e) b c = refl
behind_assoc (Ok x) (Err e) c = refl
behind_assoc (Ok x) (Ok y) (Err e) = refl
behind_assoc {E} (Ok x) (Ok y) (Ok z) = ap (λ (l : List Placed). ok l) (append_assoc x y z)
  where
    ok : List Placed → Result (List Placed) E
    ok l = Ok l

-- where all was read
pub behind_end : {E : Type 0} (list : List Placed) (whole : Result (List Placed) E) → behind (Ok list) (Ok []) ≡ whole → whole ≡ Ok list
behind_end {E} list whole e = sym e ∙ ap (λ (l : List Placed). ok l) (append-nil list)
  where
    ok : List Placed → Result (List Placed) E
    ok l = Ok l

-- ---- the documents of a view

module _ (s : Schema) (v : SplitView) where
  pub documents_same : (a b : List ℕ) (place doc left : ℕ) → ((m : ℕ) → place ≤ m → is_named m a ≡ is_named m b) → documents_of s a v place doc left ≡ documents_of s b v place doc left
  documents_same a b place doc zero same = refl
  documents_same a b place doc (suc left) same =
      ap (λ (n : Bool). behind (unless n (document_of s v doc)) (documents_of s a v (suc place) (suc doc) left)) (same place (omega arith))
      ∙ ap (λ (r : Result (List Placed) SplitError). behind (unless (is_named place b) (document_of s v doc)) r) (documents_same a b (suc place) (suc doc) left (λ m le. same m (omega arith)))

  -- the first of them, and those behind it
  pub first_of : (rest : List ℕ) (named : Bool) (before : List Placed) (place doc left more : ℕ) (whole : Result (List Placed) SplitError) → named ≡ is_named place rest → left ≡ suc more
      → behind (Ok before) (documents_of s rest v place doc left) ≡ whole
      → behind (behind (Ok before) (unless named (document_of s v doc))) (documents_of s rest v (suc place) (suc doc) more) ≡ whole
  first_of rest named before place doc left more whole is left_is so_far =
      behind_assoc (Ok before) (unless named (document_of s v doc)) (documents_of s rest v (suc place) (suc doc) more)
      ∙ ap (λ (n : Bool). behind (Ok before) (behind (unless n (document_of s v doc)) (documents_of s rest v (suc place) (suc doc) more))) is
      ∙ ap (λ (n : ℕ). behind (Ok before) (documents_of s rest v place doc n)) (sym left_is) ∙ so_far

  -- a document more was taken, or dropped
  pub documents_step : (rest after : List ℕ) (named : Bool) (before now : List Placed) (place doc left more : ℕ) (whole : Result (List Placed) SplitError) → named ≡ is_named place rest
      → ((m : ℕ) → place < m → is_named m after ≡ is_named m rest) → left ≡ suc more → behind (Ok before) (unless named (document_of s v doc)) ≡ Ok now
      → behind (Ok before) (documents_of s rest v place doc left) ≡ whole → behind (Ok now) (documents_of s after v (place + 1) (doc + 1) more) ≡ whole
  documents_step rest after named before now place doc left more whole is same left_is now_is so_far =
      let next : place + 1 ≡ suc place = omega arith in
      let beyond : doc + 1 ≡ suc doc = omega arith in
      let later : documents_of s after v (place + 1) (doc + 1) more ≡ documents_of s rest v (suc place) (suc doc) more =
      ap (λ (n : ℕ). documents_of s after v n (doc + 1) more) next ∙ ap (λ (n : ℕ). documents_of s after v (suc place) n more) beyond
      ∙ documents_same after rest (suc place) (suc doc) more (λ m le. same m (omega arith)) in
      ap (λ (r : Result (List Placed) SplitError). behind (Ok now) r) later
      ∙ ap (λ (r : Result (List Placed) SplitError). behind r (documents_of s rest v (suc place) (suc doc) more)) (sym now_is)
      ∙ first_of rest named before place doc left more whole is left_is so_far

  -- a document did not read
  pub documents_fault : (rest : List ℕ) (named : Bool) (before : List Placed) (place doc left more : ℕ) (whole : Result (List Placed) SplitError) → named ≡ is_named place rest → left ≡ suc more
      → behind (Ok before) (documents_of s rest v place doc left) ≡ whole → (f : SplitError) → behind (Ok before) (unless named (document_of s v doc)) ≡ Err f → whole ≡ Err f
  documents_fault rest named before place doc left more whole is left_is so_far f fault =
      sym (first_of rest named before place doc left more whole is left_is so_far)
      ∙ ap (λ (r : Result (List Placed) SplitError). behind r (documents_of s rest v (suc place) (suc doc) more)) fault

-- ---- views

view_of : (number : ℕ) (before : List Placed) (read : Result (List Placed) SplitError) → behind (Ok before) (of_view number read) ≡ of_view number (behind (Ok before) read)
view_of number before (Ok documents) = refl
view_of number before (Err e) = refl

module _ (s : Schema) where
  pub read_same : (a b : List ℕ) (number place : ℕ) (vs : List SplitView) → ((m : ℕ) → place ≤ m → is_named m a ≡ is_named m b) → read_from s a number place vs ≡ read_from s b number place vs
  read_same a b number place [] same = refl
  read_same a b number place (v ∷ vs) same =
      ap (λ (r : Result (List Placed) SplitError). behind (of_view number r) (read_from s a (suc number) (place + v.layout.docs) vs)) (documents_same s v a b place 0 v.layout.docs same)
      ∙ ap (λ (r : Result (List Placed) MergeError). behind (of_view number (documents_of s b v place 0 v.layout.docs)) r) (read_same a b (suc number) (place + v.layout.docs) vs (λ m le. same m (omega arith)))

  -- what was read so far, the view, and those behind it
  pub next_view : (rest : List ℕ) (before : List Placed) (number place : ℕ) (left : List SplitView) (v : SplitView) (vs : List SplitView) (whole : Result (List Placed) MergeError) → left ≡ v ∷ vs
      → behind (Ok before) (read_from s rest number place left) ≡ whole
      → behind (of_view number (behind (Ok before) (documents_of s rest v place 0 v.layout.docs))) (read_from s rest (suc number) (place + v.layout.docs) vs) ≡ whole
  next_view rest before number place left v vs whole left_is so_far =
      ap (λ (r : Result (List Placed) MergeError). behind r (read_from s rest (suc number) (place + v.layout.docs) vs)) (sym (view_of number before (documents_of s rest v place 0 v.layout.docs)))
      ∙ behind_assoc (Ok before) (of_view number (documents_of s rest v place 0 v.layout.docs)) (read_from s rest (suc number) (place + v.layout.docs) vs)
      ∙ ap (λ (l : List SplitView). behind (Ok before) (read_from s rest number place l)) (sym left_is) ∙ so_far

  -- the documents of a view more were taken
  pub read_step : (rest after : List ℕ) (before now : List Placed) (number place beyond : ℕ) (left : List SplitView) (v : SplitView) (vs : List SplitView) (whole : Result (List Placed) MergeError) → left ≡ v ∷ vs
      → beyond ≡ place + v.layout.docs → ((m : ℕ) → beyond < m + 1 → is_named m after ≡ is_named m rest) → behind (Ok before) (documents_of s rest v place 0 v.layout.docs) ≡ Ok now
      → behind (Ok before) (read_from s rest number place left) ≡ whole → behind (Ok now) (read_from s after (number + 1) beyond vs) ≡ whole
  read_step rest after before now number place beyond left v vs whole left_is beyond_is same now_is so_far =
      let next : number + 1 ≡ suc number = omega arith in
      let later : read_from s after (number + 1) beyond vs ≡ read_from s rest (suc number) (place + v.layout.docs) vs =
      ap (λ (n : ℕ). read_from s after n beyond vs) next ∙ read_same after rest (suc number) beyond vs (λ m le. same m (omega arith)) ∙ ap (λ (n : ℕ). read_from s rest (suc number) n vs) beyond_is in
      ap (λ (r : Result (List Placed) MergeError). behind (Ok now) r) later
      ∙ ap (λ (r : Result (List Placed) SplitError). behind (of_view number r) (read_from s rest (suc number) (place + v.layout.docs) vs)) (sym now_is)
      ∙ next_view rest before number place left v vs whole left_is so_far

  -- a document of a view did not read
  read_stops : (rest : List ℕ) (before : List Placed) (number place : ℕ) (left : List SplitView) (v : SplitView) (vs : List SplitView) (whole : Result (List Placed) MergeError) → left ≡ v ∷ vs
      → behind (Ok before) (read_from s rest number place left) ≡ whole → (f : SplitError) → behind (Ok before) (documents_of s rest v place 0 v.layout.docs) ≡ Err f → whole ≡ Err (fault_of number f)
  read_stops rest before number place left v vs whole left_is so_far f fault =
      sym (next_view rest before number place left v vs whole left_is so_far)
      ∙ ap (λ (r : Result (List Placed) SplitError). behind (of_view number r) (read_from s rest (suc number) (place + v.layout.docs) vs)) fault

  pub read_fault : {X : Type 0} (view : X → List Placed) (e : SplitError) (rest : List ℕ) (before : List Placed) (number place : ℕ) (left : List SplitView) (v : SplitView) (vs : List SplitView) (whole : Result (List Placed) MergeError)
      → left ≡ v ∷ vs → behind (Ok before) (read_from s rest number place left) ≡ whole → MayGive view (Err e) (behind (Ok before) (documents_of s rest v place 0 v.layout.docs)) → MayFind (Err (fault_of number e)) whole
  read_fault view (split.Memory a) rest before number place left v vs whole left_is so_far gives = tt
  read_fault view split.BadMagic rest before number place left v vs whole left_is so_far gives = read_stops rest before number place left v vs whole left_is so_far split.BadMagic gives
  read_fault view (split.Truncated at) rest before number place left v vs whole left_is so_far gives = read_stops rest before number place left v vs whole left_is so_far (split.Truncated at) gives
  read_fault view (split.BadSection section) rest before number place left v vs whole left_is so_far gives = read_stops rest before number place left v vs whole left_is so_far (split.BadSection section) gives
  read_fault view (split.BadVersion version) rest before number place left v vs whole left_is so_far gives = read_stops rest before number place left v vs whole left_is so_far (split.BadVersion version) gives
