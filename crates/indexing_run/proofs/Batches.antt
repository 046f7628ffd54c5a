-- What an indexer reads into its batch is made of the log, within a split's limits.
use Rattle.std.proofs.Common.{◌≡◌, ◌⊎◌, ℕ, zero, suc, ◌+◌, ◌-◌, ◌<◌, ◌≤◌, ◌==◌, ◌||◌, ◌&&◌, ◌^◌, List, [], ◌∷◌, ◌++◌, refl, sym, ap, ◌∙◌, subst, inl, inr, Bool, true, false, take, drop, length, arith, append-nil, append_assoc, nat_le, nat_lt, bytes_eq, length-take, length-drop, take-take, lit<}
use Rattle.std.proofs.lemmas.Bool.Decides.{nat_tests}
use Rattle.std.proofs.lemmas.List.{length-append}
use Rattle.std.proofs.lemmas.Grind.{flat_map-append}
use Rattle.std.specs.List.{AllByRecursion}
use Rattle.std.specs.List.Sorted.{IsStrictlySortedBy}
use Rattle.std.specs.Ordering.{nat_cmp}
use Rattle.std.specs.Cmp.Lexicographic.{slice_cmp}
use Rattle.std.specs.Prelude.{Option, Some, None, if◌then◌else◌}
use Rattle.doc_value.specs.declared.doc.DocField.{DocField}
use Rattle.source_checkpoint.specs.declared.delta.Part.{Part}
use Rattle.source_checkpoint.specs.declared.ledger.Checkpoint.{Checkpoint}
use Rattle.source_checkpoint.proofs.Ranges.{partition_itself}
use Rattle.source_log.specs.Log.{Log, records_of, names_of, IsLog, IsGoodPart}
use Rattle.index_world.proofs.InHand.{number_apart}
use Rattle.index_config.specs.declared.config.IndexConfig.{IndexConfig}
use Rattle.index_world.specs.Accepted.{accepted}
use Rattle.index_world.specs.Index.{IsMade}
use Rattle.index_world.specs.Seen.{onto, accepted_from, accepted_part, accepted_in, record_count}
use Rattle.index_world.specs.SplitFile.{file_of, facts_of, AreSplit}
use Rattle.split_bundle.specs.Documents.{weight as weight_of, total_weight as weight}
use Rattle.split_bundle.specs.Splits.{max_weight}
use Rattle.split_bundle.specs.declared.placed.Placed.{Placed}
use Rattle.indexing_run.specs.Making.{IsNew, Follows, AreOthers, AreNew, IsQueue, EndWithin, IsBatch, AreApart}
use Rattle.indexing_run.specs.Places.{Batch}
use Rattle.indexing_run.specs.Steps.{start_of, Taken, with_record, taken_from, extended, parts_after, is_closed, is_empty, queue_after, batch_after, read_limit, max_batch_weight, first_moment, batch_facts, fresh_batch, marks_at}
use Rattle.index_world.proofs.Slices.{part_of, part_more, part_none}

pub weight-snoc : (xs : List Placed) (x : Placed) → weight (xs ++ x ∷ []) ≡ weight xs + weight_of x
weight-snoc [] x = omega arith
weight-snoc (y ∷ xs) x = let again = weight-snoc xs x in omega (arith, again)

module _ (config : IndexConfig) where
  -- one document is no heavier than a batch may be before it
  abbrev pub IsLight : Type 0
  IsLight = (bytes name : List ℕ) (offset : ℕ) (doc : List DocField) → accepted config bytes ≡ Some doc → offset < 2 ^ 64 →
      weight_of (record { partition = name; offset = offset; doc = doc }) ≤ max_batch_weight

  -- ---- what is taken of a read

  pub record TakenTo (name : List ℕ) (offset : ℕ) (records : List (List ℕ)) (start now : Taken) : Type 0 where
    pub n : ℕ
    pub within : n ≤ length records
    pub count : now.count ≡ start.count + n
    pub documents : now.documents ≡ start.documents ++ accepted_from config name offset (take n records)
    pub weight : now.weight ≡ weight now.documents
    pub calm : now.heavy ≡ false → now.weight ≤ max_batch_weight
    pub most : now.weight ≤ max_weight

  -- what is kept as records are taken
  record IsWeighed (t : Taken) : Type 0 where
    weight : t.weight ≡ weight t.documents
    calm : t.heavy ≡ false → t.weight ≤ max_batch_weight
    most : t.weight ≤ max_weight

  nothing_taken : (name : List ℕ) (offset : ℕ) (records : List (List ℕ)) (t : Taken) → IsWeighed t → TakenTo name offset records t t
  nothing_taken name offset records t w =
      record { n = 0; within = omega arith; count = omega arith; documents = sym (append-nil t.documents); weight = w.weight; calm = w.calm; most = w.most }

  abbrev placed_at : List ℕ → ℕ → List DocField → Placed
  placed_at name offset doc = record { partition = name; offset = offset; doc = doc }

  still_light : (a : ℕ) → nat_lt max_batch_weight a ≡ false → a ≤ max_batch_weight
  still_light a e = grind (e, arith, nat_tests)

  weighed_more : IsLight → (bytes name : List ℕ) (offset : ℕ) (doc : Option (List DocField)) (t : Taken) → accepted config bytes ≡ doc → offset < 2 ^ 64 → t.heavy ≡ false → IsWeighed t → IsWeighed (with_record name offset doc t)
  weighed_more light bytes name offset None t e low calm w = record { weight = w.weight; calm = w.calm; most = w.most }
  weighed_more light bytes name offset (Some doc) t e low calm w =
      let one = light bytes name offset doc e low in
      let before = w.calm calm in
      record {
        weight = ap (λ n. n + weight_of (placed_at name offset doc)) w.weight ∙ sym (weight-snoc t.documents (placed_at name offset doc));
        calm = still_light (t.weight + weight_of (placed_at name offset doc));
        most = omega (arith, one, before);
      }

  -- one record more
  taken_one : (bytes name : List ℕ) (offset : ℕ) (more : List (List ℕ)) (doc : Option (List DocField)) (t now : Taken) → accepted config bytes ≡ doc → TakenTo name (suc offset) more (with_record name offset doc t) now → TakenTo name offset (bytes ∷ more) t now
  taken_one bytes name offset more None t now e r =
      record {
        n = suc r.n;
        within = let a = r.within in omega (arith, a);
        count = let a = r.count in omega (arith, a);
        documents = r.documents ∙ ap (λ d. t.documents ++ onto name offset d (accepted_from config name (suc offset) (take r.n more))) (sym e);
        weight = r.weight;
        calm = r.calm;
        most = r.most;
      }
  taken_one bytes name offset more (Some doc) t now e r =
      record {
        n = suc r.n;
        within = let a = r.within in omega (arith, a);
        count = let a = r.count in omega (arith, a);
        documents = r.documents ∙ append_assoc t.documents (placed_at name offset doc ∷ []) (accepted_from config name (suc offset) (take r.n more))
            ∙ ap (λ d. t.documents ++ onto name offset d (accepted_from config name (suc offset) (take r.n more))) (sym e);
        weight = r.weight;
        calm = r.calm;
        most = r.most;
      }

  taken_to : IsLight → (name : List ℕ) (offset : ℕ) (records : List (List ℕ)) (t : Taken) → offset + length records ≤ 2 ^ 64 → IsWeighed t → TakenTo name offset records t (taken_from config name offset records t)
  taken_to light name offset [] t low w = nothing_taken name offset [] t w
  taken_to light name offset (bytes ∷ more) t low w = by t.heavy refl (λ next ww. taken_to light name (suc offset) more next (omega (arith, low)) ww)
    where
      below : offset < 2 ^ 64
      below = omega (arith, low)

      by : (b : Bool) → t.heavy ≡ b → ((next : Taken) → IsWeighed next → TakenTo name (suc offset) more next (taken_from config name (suc offset) more next)) →
          TakenTo name offset (bytes ∷ more) t (if b then t else taken_from config name (suc offset) more (with_record name offset (accepted config bytes) t))
      by true e again = nothing_taken name offset (bytes ∷ more) t w
      by false e again =
          taken_one bytes name offset more (accepted config bytes) t (taken_from config name (suc offset) more (with_record name offset (accepted config bytes) t)) refl
          (again (with_record name offset (accepted config bytes) t) (weighed_more light bytes name offset (accepted config bytes) t refl below e w))

  accepted_few : (name : List ℕ) (offset : ℕ) (records : List (List ℕ)) → length (accepted_from config name offset records) ≤ length records
  accepted_few name offset [] = omega arith
  accepted_few name offset (r ∷ records) = by (accepted config r) (accepted_few name (suc offset) records)
    where
      by : (d : Option (List DocField)) → length (accepted_from config name (suc offset) records) ≤ length records → length (onto name offset d (accepted_from config name (suc offset) records)) ≤ suc (length records)
      by None h = omega (arith, h)
      by (Some d) h = omega (arith, h)

-- ---- a batch

-- ---- more parts

new-append : (xs ys : List Part) (name : List ℕ) → IsNew xs name → IsNew ys name → IsNew (xs ++ ys) name
new-append [] ys name h k = k
new-append (x ∷ xs) ys name h k = (h.0, new-append xs ys name h.1 k)

new-front : (xs ys : List Part) (name : List ℕ) → IsNew (xs ++ ys) name → IsNew xs name
new-front [] ys name h = tt
new-front (x ∷ xs) ys name h = (h.0, new-front xs ys name h.1)

within-append : (log : Log) (xs ys : List Part) → EndWithin log xs → EndWithin log ys → EndWithin log (xs ++ ys)
within-append log [] ys h k = k
within-append log (x ∷ xs) ys h k = (h.0, within-append log xs ys h.1 k)

within-front : (log : Log) (xs ys : List Part) → EndWithin log (xs ++ ys) → EndWithin log xs
within-front log [] ys h = tt
within-front log (x ∷ xs) ys h = (h.0, within-front log xs ys h.1)

count-append : (xs ys : List Part) → record_count (xs ++ ys) ≡ record_count xs + record_count ys
count-append [] ys = omega arith
count-append (x ∷ xs) ys = let again = count-append xs ys in omega (arith, again)

-- a name that is new comes behind the parts
pub extended-new : (parts : List Part) (name : List ℕ) (from to : ℕ) → IsNew parts name → extended parts name from to ≡ parts ++ part_of name from to ∷ []
extended-new [] name from to h = refl
extended-new (p ∷ parts) name from to h =
    ap (λ b. if b then record p { to = to } ∷ parts else p ∷ extended parts name from to) h.0 ∙ ap (λ l. p ∷ l) (extended-new parts name from to h.1)

-- the last part's name is extended
pub extended-last : (front : List Part) (name : List ℕ) (from at start to : ℕ) → IsNew front name → extended (front ++ part_of name from at ∷ []) name start to ≡ front ++ part_of name from to ∷ []
extended-last [] name from at start to h = ap (λ b. if b then part_of name from to ∷ [] else part_of name from at ∷ part_of name start to ∷ []) (partition_itself name name refl)
extended-last (p ∷ front) name from at start to h =
    ap (λ b. if b then record p { to = to } ∷ (front ++ part_of name from at ∷ []) else p ∷ extended (front ++ part_of name from at ∷ []) name start to) h.0
    ∙ ap (λ l. p ∷ l) (extended-last front name from at start to h.1)

module _ (config : IndexConfig) where
  -- ---- the parts behind a read that took something

  pub record Extended (log : Log) (parts after : List Part) (mark : Checkpoint) (n : ℕ) : Type 0 where
    pub front : List Part
    pub from : ℕ
    pub is : after ≡ front ++ part_of mark.partition from (mark.at + n) ∷ []
    pub rises : from ≤ mark.at
    pub new : IsNew front mark.partition
    pub documents : accepted_in config log after ≡ accepted_in config log parts ++ accepted_from config mark.partition mark.at (take n (drop mark.at (records_of log mark.partition)))
    pub count : record_count after ≡ record_count parts + n
    pub ends : EndWithin log front
    pub others : (name : List ℕ) → bytes_eq mark.partition name ≡ false → IsNew parts name → IsNew after name

  one_part : (log : Log) (part : Part) → accepted_in config log (part ∷ []) ≡ accepted_part config log part
  one_part log part = append-nil (accepted_part config log part)

  more_parts : (log : Log) (parts : List Part) (mark : Checkpoint) (n : ℕ) → IsStrictlySortedBy (slice_cmp nat_cmp) (names_of log) → EndWithin log parts → Follows parts mark →
      Extended log parts (extended parts mark.partition mark.at (mark.at + n)) mark n
  more_parts log parts mark n s ends (inl new) =
      record {
        front = parts;
        from = mark.at;
        is = is;
        rises = omega arith;
        new = new;
        documents = ap (accepted_in config log) is ∙ flat_map-append (accepted_part config log) parts (part_of mark.partition mark.at (mark.at + n) ∷ [])
            ∙ ap (λ l. accepted_in config log parts ++ l) (one_part log (part_of mark.partition mark.at (mark.at + n)) ∙ part_more config log mark.partition mark.at mark.at n s (omega arith)
            ∙ ap (λ l. l ++ accepted_from config mark.partition mark.at (take n (drop mark.at (records_of log mark.partition)))) (part_none config log mark.partition mark.at));
        count = ap record_count is ∙ count-append parts (part_of mark.partition mark.at (mark.at + n) ∷ []) ∙ ap (λ k. record_count parts + k) (sum mark.at);
        ends = ends;
        others = λ name other h. subst (λ l. IsNew l name) (sym is) (new-append parts (part_of mark.partition mark.at (mark.at + n) ∷ []) name h (other, tt));
      }
    where
      is : extended parts mark.partition mark.at (mark.at + n) ≡ parts ++ part_of mark.partition mark.at (mark.at + n) ∷ []
      is = extended-new parts mark.partition mark.at (mark.at + n) new

      sum : (a : ℕ) → a + n - a + 0 ≡ n
      sum a = omega arith
  more_parts log parts mark n s ends (inr last) =
      record {
        front = last.front;
        from = last.from;
        is = is;
        rises = last.rises;
        new = last.new;
        documents = ap (accepted_in config log) is ∙ flat_map-append (accepted_part config log) last.front (part_of mark.partition last.from (mark.at + n) ∷ [])
            ∙ ap (λ l. accepted_in config log last.front ++ l) (one_part log (part_of mark.partition last.from (mark.at + n)) ∙ part_more config log mark.partition last.from mark.at n s last.rises)
            ∙ sym (append_assoc (accepted_in config log last.front) (accepted_part config log (part_of mark.partition last.from mark.at)) (accepted_from config mark.partition mark.at (take n (drop mark.at (records_of log mark.partition)))))
            ∙ ap (λ l. l ++ accepted_from config mark.partition mark.at (take n (drop mark.at (records_of log mark.partition)))) (sym before);
        count = ap record_count is ∙ count-append last.front (part_of mark.partition last.from (mark.at + n) ∷ [])
            ∙ (let c = counted in let r = last.rises in omega (arith, c, r));
        ends = within-front log last.front (part_of mark.partition last.from mark.at ∷ []) (subst (EndWithin log) last.is ends);
        others = λ name other h. subst (λ l. IsNew l name) (sym is)
            (new-append last.front (part_of mark.partition last.from (mark.at + n) ∷ []) name (new-front last.front (part_of mark.partition last.from mark.at ∷ []) name (subst (λ l. IsNew l name) last.is h)) (other, tt));
      }
    where
      is : extended parts mark.partition mark.at (mark.at + n) ≡ last.front ++ part_of mark.partition last.from (mark.at + n) ∷ []
      is = ap (λ l. extended l mark.partition mark.at (mark.at + n)) last.is ∙ extended-last last.front mark.partition last.from mark.at mark.at (mark.at + n) last.new

      before : accepted_in config log parts ≡ accepted_in config log last.front ++ accepted_part config log (part_of mark.partition last.from mark.at)
      before = ap (accepted_in config log) last.is ∙ flat_map-append (accepted_part config log) last.front (part_of mark.partition last.from mark.at ∷ [])
          ∙ ap (λ l. accepted_in config log last.front ++ l) (one_part log (part_of mark.partition last.from mark.at))

      counted : record_count parts ≡ record_count last.front + (mark.at - last.from + 0)
      counted = ap record_count last.is ∙ count-append last.front (part_of mark.partition last.from mark.at ∷ [])

-- ---- one read

slice_end : (log : Log) (name : List ℕ) (at limit n : ℕ) → n ≤ length (take limit (drop at (records_of log name))) → 0 < n → at + n ≤ length (records_of log name)
slice_end log name at limit n within some =
    let t = length-take limit (drop at (records_of log name)) in
    let d = length-drop at (records_of log name) in
    omega (arith, within, some, t, d)

slice_few : (log : Log) (name : List ℕ) (at limit n : ℕ) → n ≤ length (take limit (drop at (records_of log name))) → n ≤ limit
slice_few log name at limit n within = let t = length-take limit (drop at (records_of log name)) in omega (arith, within, t)

-- each partition has fewer records than numbers are told
records_few : (log : Log) (name : List ℕ) → AllByRecursion IsGoodPart log → length (records_of log name) < 2 ^ 64
records_few [] name h = pow_low
  where
    pow_low : 0 < 2 ^ 64
    pow_low = lit< tt
records_few (p ∷ log) name h = by (bytes_eq p.partition name) (records_few log name h.1)
  where
    by : (b : Bool) → length (records_of log name) < 2 ^ 64 → length (if b then p.records else records_of log name) < 2 ^ 64
    by true rest = h.0.1
    by false rest = rest

slice_low : (log : Log) (name : List ℕ) (at limit : ℕ) → AllByRecursion IsGoodPart log → at + length (take limit (drop at (records_of log name))) ≤ 2 ^ 64 ⊎ (take limit (drop at (records_of log name)) ≡ [])
slice_low log name at limit h = by (take limit (drop at (records_of log name))) refl
  where
    by : (l : List (List ℕ)) → take limit (drop at (records_of log name)) ≡ l → at + length (take limit (drop at (records_of log name))) ≤ 2 ^ 64 ⊎ (take limit (drop at (records_of log name)) ≡ [])
    by [] e = inr e
    by (r ∷ rs) e =
        let some : 0 < length (take limit (drop at (records_of log name))) = (let l = ap length e in omega (arith, l)) in
        let end = slice_end log name at limit (length (take limit (drop at (records_of log name)))) (omega arith) some in
        let few = records_few log name h in
        inl (omega (arith, end, few))

abbrev pub slice_of : Log → Batch → Checkpoint → List (List ℕ)
slice_of log batch mark = take (read_limit batch) (drop mark.at (records_of log mark.partition))

start_weighed : (log : Log) (batch : Batch) → IsBatch log batch → batch.closed ≡ false → IsWeighed batch.config (start_of batch)
start_weighed log batch b going = record { weight = refl; calm = λ e. b.calm going; most = b.weighs }

pub read_taken : (log : Log) (batch : Batch) (mark : Checkpoint) → IsLight batch.config → IsLog log → IsBatch log batch → batch.closed ≡ false →
    TakenTo batch.config mark.partition mark.at (slice_of log batch mark) (start_of batch) (taken_from batch.config mark.partition mark.at (slice_of log batch mark) (start_of batch))
read_taken log batch mark light l b going = by (slice_low log mark.partition mark.at (read_limit batch) l.good)
  where
    by : mark.at + length (slice_of log batch mark) ≤ 2 ^ 64 ⊎ (slice_of log batch mark ≡ []) → TakenTo batch.config mark.partition mark.at (slice_of log batch mark) (start_of batch) (taken_from batch.config mark.partition mark.at (slice_of log batch mark) (start_of batch))
    by (inl low) = taken_to batch.config light mark.partition mark.at (slice_of log batch mark) (start_of batch) low (start_weighed log batch b going)
    by (inr none) =
        subst (λ rs. TakenTo batch.config mark.partition mark.at rs (start_of batch) (taken_from batch.config mark.partition mark.at rs (start_of batch))) (sym none)
        (nothing_taken batch.config mark.partition mark.at [] (start_of batch) (start_weighed log batch b going))

-- a batch that isn't closed behind a read is not too heavy, has room, and has something to read
abbrev IsGoing : Bool → Bool → Bool → Type 0
IsGoing a b h = (a ≡ false) × (b ≡ false) × (h ≡ false)

going : (config : IndexConfig) (queue : List Checkpoint) (count : ℕ) (heavy : Bool) (since now : ℕ) → is_closed config queue count heavy since now ≡ false →
    IsGoing (is_empty queue) (nat_le config.docs_target count) heavy
going config queue count heavy since now e = by (is_empty queue) (nat_le config.docs_target count) heavy (nat_lt 0 count && nat_le (since + config.commit_timeout) now) e
  where
    by : (a b h c : Bool) → (a || b || h || c) ≡ false → IsGoing a b h
    by true b h c e = cc e
    by false true h c e = cc e
    by false false true c e = cc e
    by false false false c e = (refl, refl, refl)

below_target : (a b : ℕ) → nat_le a b ≡ false → b < a
below_target a b e = grind (e, arith, nat_tests)

-- ---- the queue behind a read

new_all : (parts after : List Part) (name : List ℕ) (marks : List Checkpoint) → ((other : List ℕ) → bytes_eq name other ≡ false → IsNew parts other → IsNew after other) → AreOthers name marks → AreNew parts marks → AreNew after marks
new_all parts after name [] f o h = tt
new_all parts after name (m ∷ ms) f o h = (f m.partition o.0 h.0, h.1, new_all parts after name ms f o.1 h.2)

queue_rest : (parts : List Part) (rest : List Checkpoint) → AreNew parts rest → IsQueue parts rest
queue_rest parts [] h = tt
queue_rest parts (m ∷ ms) h = (inl h.0, h.1, h.2)

queue_on : (parts : List Part) (at_end : Bool) (mark : Checkpoint) (n : ℕ) (rest : List Checkpoint) → Follows parts (record mark { at = mark.at + n }) → AreOthers mark.partition rest → AreNew parts rest → IsQueue parts (queue_after at_end mark n rest)
queue_on parts true mark n rest f o h = queue_rest parts rest h
queue_on parts false mark n rest f o h = (f, o, h)

-- ---- a read keeps the batch made of the log

record Reads (log : Log) (batch : Batch) (mark : Checkpoint) (rest : List Checkpoint) (taken : Taken) (at_end : Bool) (parts : List Part) : Type 0 where
  documents : taken.documents ≡ accepted_in batch.config log parts
  ends : EndWithin log parts
  count : record_count parts ≡ batch.count + taken.count
  queue : IsQueue parts (queue_after at_end mark taken.count rest)

module _ (log : Log) (batch : Batch) (mark : Checkpoint) (rest : List Checkpoint) (l : IsLog log) (b : IsBatch log batch) (now : Taken) (at_end : Bool)
    (f : Follows batch.parts mark) (o : AreOthers mark.partition rest) (h : AreNew batch.parts rest)
    (t : TakenTo batch.config mark.partition mark.at (slice_of log batch mark) (start_of batch) now) where
  count_is : now.count ≡ t.n
  count_is = let c = t.count in omega (arith, c)

  took : now.documents ≡ batch.documents ++ accepted_from batch.config mark.partition mark.at (take t.n (drop mark.at (records_of log mark.partition)))
  took = t.documents ∙ ap (λ rs. batch.documents ++ accepted_from batch.config mark.partition mark.at rs)
      (take-take t.n (read_limit batch) (drop mark.at (records_of log mark.partition)) (slice_few log mark.partition mark.at (read_limit batch) t.n t.within))

  -- nothing was taken
  follows_same : (n : ℕ) → n ≡ 0 → Follows batch.parts (record mark { at = mark.at + n })
  follows_same n e = subst (λ a. Follows batch.parts (record mark { at = a })) (let same : mark.at ≡ mark.at + n = omega (arith, e) in same) f

  reads_none : t.n ≡ 0 → Reads log batch mark rest now at_end batch.parts
  reads_none e =
      record {
        documents = took ∙ ap (λ n. batch.documents ++ accepted_from batch.config mark.partition mark.at (take n (drop mark.at (records_of log mark.partition)))) e ∙ append-nil batch.documents ∙ b.documents;
        ends = b.ends;
        count = let c = b.count in let n = count_is in omega (arith, c, n, e);
        queue = queue_on batch.parts at_end mark now.count rest (follows_same now.count (count_is ∙ e)) o h;
      }

  reads_some : 0 < t.n → Reads log batch mark rest now at_end (extended batch.parts mark.partition mark.at (mark.at + now.count))
  reads_some some =
      record {
        documents = took ∙ ap (λ d. d ++ accepted_from batch.config mark.partition mark.at (take t.n (drop mark.at (records_of log mark.partition)))) b.documents
            ∙ ap (λ n. accepted_in batch.config log batch.parts ++ accepted_from batch.config mark.partition mark.at (take n (drop mark.at (records_of log mark.partition)))) (sym count_is) ∙ sym m.documents;
        ends = subst (EndWithin log) (sym m.is) (within-append log m.front (part_of mark.partition m.from (mark.at + now.count) ∷ []) m.ends
            (subst (λ n. mark.at + n ≤ length (records_of log mark.partition)) (sym count_is) (slice_end log mark.partition mark.at (read_limit batch) t.n t.within some), tt));
        count = m.count ∙ ap (λ c. c + now.count) b.count;
        queue = queue_on (extended batch.parts mark.partition mark.at (mark.at + now.count)) at_end mark now.count rest
            (inr (record { front = m.front; from = m.from; is = m.is; rises = let r = m.rises in omega (arith, r); new = m.new })) o
            (new_all batch.parts (extended batch.parts mark.partition mark.at (mark.at + now.count)) mark.partition rest m.others o h);
      }
    where
      m : Extended batch.config log batch.parts (extended batch.parts mark.partition mark.at (mark.at + now.count)) mark now.count
      m = more_parts batch.config log batch.parts mark now.count l.in_order b.ends f

  reads : Reads log batch mark rest now at_end (parts_after now.count batch.parts mark.partition mark.at)
  reads = by now.count refl
    where
      by : (c : ℕ) → now.count ≡ c → Reads log batch mark rest now at_end (parts_after now.count batch.parts mark.partition mark.at)
      by zero e = subst (λ p. Reads log batch mark rest now at_end p) (sym (ap (λ c. parts_after c batch.parts mark.partition mark.at) e)) (reads_none (sym count_is ∙ e))
      by (suc c) e =
          subst (λ k. Reads log batch mark rest now at_end (if k then batch.parts else extended batch.parts mark.partition mark.at (mark.at + now.count))) (sym (ap (λ c. c == 0) e ∙ number_apart (suc c) 0 (λ same. omega (arith, same))))
          (reads_some (let n = count_is in omega (arith, n, e)))

  less_still : length now.documents ≤ batch.count + now.count
  less_still =
      let d = ap length t.documents in
      let a = length-append batch.documents (accepted_from batch.config mark.partition mark.at (take t.n (slice_of log batch mark))) in
      let few = accepted_few batch.config mark.partition mark.at (take t.n (slice_of log batch mark)) in
      let k = length-take t.n (slice_of log batch mark) in
      let before = b.less in
      let n = count_is in
      omega (arith, d, a, few, k, before, n)

  few_still : batch.count + now.count ≤ batch.config.docs_target
  few_still = let s = slice_few log mark.partition mark.at (read_limit batch) t.n t.within in let n = count_is in let before = b.few in omega (arith, s, n, before)

  pub read_keeps : (moment : ℕ) → IsBatch log (batch_after batch mark rest now at_end moment)
  read_keeps moment =
      record {
        documents = reads.documents;
        ends = reads.ends;
        count = reads.count;
        less = less_still;
        few = few_still;
        weighs = let w = t.weight in let most = t.most in omega (arith, w, most);
        calm = λ e. let w = t.weight in let calm = t.calm (going batch.config (queue_after at_end mark now.count rest) (batch.count + now.count) now.heavy (first_moment batch.first_read moment) moment e).2 in omega (arith, w, calm);
        room = λ e. below_target batch.config.docs_target (batch.count + now.count) (going batch.config (queue_after at_end mark now.count rest) (batch.count + now.count) now.heavy (first_moment batch.first_read moment) moment e).1;
        ahead = λ e. (going batch.config (queue_after at_end mark now.count rest) (batch.count + now.count) now.heavy (first_moment batch.first_read moment) moment e).0;
        queue = reads.queue;
      }

-- ---- a fresh batch, and a closed one

others_marked : (checkpoints : List Checkpoint) (name : List ℕ) (names : List (List ℕ)) → AllByRecursion (λ other. bytes_eq name other ≡ false) names → AreOthers name (marks_at checkpoints names)
others_marked checkpoints name [] h = tt
others_marked checkpoints name (n ∷ names) h = (h.0, others_marked checkpoints name names h.1)

new_marked : (checkpoints : List Checkpoint) (names : List (List ℕ)) → AreApart names → AreNew [] (marks_at checkpoints names)
new_marked checkpoints [] h = tt
new_marked checkpoints (name ∷ names) h = (tt, others_marked checkpoints name names h.0, new_marked checkpoints names h.1)

pub fresh_is_batch : (config : IndexConfig) → 0 < config.docs_target → (log : Log) (checkpoints : List Checkpoint) (names : List (List ℕ)) → AreApart names → IsBatch log (fresh_batch config (marks_at checkpoints names))
fresh_is_batch config some log checkpoints names h =
    record {
      documents = refl;
      ends = tt;
      count = refl;
      less = omega arith;
      few = omega arith;
      weighs = omega arith;
      calm = λ e. omega arith;
      room = λ e. some;
      ahead = λ e. e;
      queue = queue_rest [] (marks_at checkpoints names) (new_marked checkpoints names h);
    }

-- its split is made of the log, and the facts say what it is
pub batch_is_made : (log : Log) (batch : Batch) → IsBatch log batch → AreSplit batch.config batch.documents → IsMade batch.config log batch.parts (batch_facts batch) (file_of batch.config batch.documents)
batch_is_made log batch b are =
    record {
      ends = b.ends;
      file = ap (file_of batch.config) b.documents;
      agree = ap (λ c. facts_of batch.config batch.documents (c - length batch.documents)) (sym b.count) ∙ ap (λ d. facts_of batch.config d (record_count batch.parts - length d)) b.documents;
      split = subst (λ d. AreSplit batch.config d) b.documents are;
    }
