-- What the code takes of a read is what is taken from it.
use Rattle.std.proofs.Common.{◌≡◌, ℕ, suc, ◌+◌, ◌<◌, ◌≤◌, min, drop, drop-cons, get_or, if◌then◌else◌, List, [], ◌∷◌, ◌++◌, refl, sym, ap, ◌∙◌, subst, false, length, arith, nat_lt, Ok, Err, Result, Option, Some, None}
use Rattle.std.specs.Result.{OnOk}
use Rattle.doc_value.specs.declared.doc.DocField.{DocField}
use Rattle.index_config.specs.declared.config.IndexConfig.{IndexConfig}
use Rattle.index_world.specs.Accepted.{accepted}
use Rattle.index_world.specs.SplitFile.{most}
use Rattle.split_bundle.specs.Documents.{total_weight as weight}
use Rattle.split_bundle.specs.declared.placed.Placed.{Placed}
use Rattle.std.proofs.lemmas.Bool.Decides.{nat_tests}
use Rattle.std.specs.Option.{unwrap_or}
use Rattle.source_checkpoint.specs.declared.ledger.Checkpoint.{Checkpoint}
use Rattle.source_log.specs.declared.lists.Records.{Records}
use Rattle.source_checkpoint.specs.declared.delta.Part.{Part}
use Rattle.indexing_run.specs.Gathering.{HasDocuments}
use Rattle.indexing_run.specs.Making.{Follows}
use Rattle.indexing_run.specs.Places.{Batch}
use Rattle.indexing_run.specs.declared.batch.Batch.{Batch as HeldBatch}
use Rattle.indexing_run.specs.Standing.{left_of, BatchStands, ReadsOn, batch_read}
use Rattle.indexing_run.specs.Steps.{with_record, max_batch_weight, taken_from, start_of, parts_after, queue_after, first_moment, is_closed, batch_after, taken_so_far}
use Rattle.indexing_run.proofs.Batches.{weight-snoc}

pub on_ok : {T E : Type 0} (r : Result T E) (P Q : Type 0) → (P → Q) → OnOk r P → OnOk r Q
on_ok (Ok a) P Q f h = f h
on_ok (Err e) P Q f h = h

abbrev pub placed_at : List ℕ → ℕ → List DocField → Placed
placed_at name offset doc = record { partition = name; offset = offset; doc = doc }

-- a document more was taken
pub takes_one : (config : IndexConfig) (name : List ℕ) (offset n : ℕ) (bytes : List ℕ) (doc : List DocField) (documents after : List Placed) →
    accepted config bytes ≡ Some doc → after ≡ documents ++ placed_at name offset doc ∷ [] →
    with_record name offset (accepted config bytes) (taken_so_far n documents) ≡ taken_so_far (suc n) after
takes_one config name offset n bytes doc documents after e a =
    ap (λ d. with_record name offset d (taken_so_far n documents)) e
    ∙ ap (λ w. record { count = suc n; documents = documents ++ placed_at name offset doc ∷ []; weight = w; heavy = nat_lt max_batch_weight w }) (sym (weight-snoc documents (placed_at name offset doc)))
    ∙ ap (taken_so_far (suc n)) (sym a)

-- the record at a place was taken, and the next one is behind it
pub takes_next : (config mapping : IndexConfig) (name : List ℕ) (from i : ℕ) (records : List (List ℕ)) (bytes : List ℕ) (documents next : List Placed) (w : ℕ) → mapping ≡ config → i < length records → bytes ≡ get_or records i bytes →
    w ≡ weight documents → nat_lt max_batch_weight w ≡ false → with_record name (from + i) (accepted mapping bytes) (taken_so_far i documents) ≡ taken_so_far (suc i) next →
    taken_from config name (from + i) (drop i records) (taken_so_far i documents) ≡ taken_from config name (from + (i + 1)) (drop (i + 1) records) (taken_so_far (i + 1) next)
takes_next config mapping name from i records bytes documents next w same within here weighs calm one =
    ap (λ rs. taken_from config name (from + i) rs (taken_so_far i documents)) cut
    ∙ ap (λ b. if b then taken_so_far i documents else taken_from config name (suc (from + i)) (drop (i + 1) records) (with_record name (from + i) (accepted config bytes) (taken_so_far i documents))) (ap (nat_lt max_batch_weight) (sym weighs) ∙ calm)
    ∙ ap (taken_from config name (suc (from + i)) (drop (i + 1) records)) (ap (λ (c : IndexConfig). with_record name (from + i) (accepted c bytes) (taken_so_far i documents)) (sym same) ∙ one)
    ∙ ap (λ n. taken_from config name n (drop (i + 1) records) (taken_so_far (suc i) next)) behind ∙ ap (λ n. taken_from config name (from + (i + 1)) (drop (i + 1) records) (taken_so_far n next)) later
  where
    later : suc i ≡ i + 1
    later = omega arith

    behind : suc (from + i) ≡ from + (i + 1)
    behind = omega arith

    cut : drop i records ≡ bytes ∷ drop (i + 1) records
    cut = drop-cons records i bytes within ∙ ap (λ b. b ∷ drop (suc i) records) (sym here) ∙ ap (λ n. bytes ∷ drop n records) later

pub first_is : (o : Option ℕ) (now : ℕ) → unwrap_or o now ≡ first_moment o now
first_is None now = refl
first_is (Some moment) now = refl

not_heavy : (w : ℕ) → w ≤ max_batch_weight → nat_lt max_batch_weight w ≡ false
not_heavy w h = grind (h, arith, nat_tests)

start_is : (batch : Batch) → weight batch.documents ≤ max_batch_weight → taken_so_far 0 batch.documents ≡ start_of batch
start_is batch calm = ap (λ b. record { count = 0; documents = batch.documents; weight = weight batch.documents; heavy = b }) (not_heavy (weight batch.documents) calm)

module _ (batch : Batch) (mark : Checkpoint) (rest : List Checkpoint) (records : Records) (now n : ℕ) (held after : HeldBatch) (b : BatchStands held batch) (r : ReadsOn batch mark rest records)
    (within : n ≤ length records.list) (documents : List Placed) (has : HasDocuments after.documents documents) (config : after.documents.mapping ≡ held.documents.mapping) (parts : after.parts.items ≡ parts_after n held.parts.items mark.partition mark.at)
    (queue : left_of after.queue ≡ queue_after records.end mark n rest) (count : after.count ≡ min (held.count + n) most) (since : ℕ) (first : since ≡ first_moment batch.first_read now)
    (first_read : after.first_read ≡ Some since)
    (closed : after.closed ≡ is_closed after.documents.mapping (left_of after.queue) after.count (nat_lt max_batch_weight after.documents.builder.weight) since now) where
  count_is : after.count ≡ batch.count + n
  count_is = let room = r.room in let target = r.target in let same = b.count in omega (arith, within, count, room, target, same)

  after_stands : BatchStands after (batch_after batch mark rest (taken_so_far n documents) records.end now)
  after_stands =
      record {
        config = config ∙ b.config;
        queue = queue;
        parts = parts ∙ ap (λ ps. parts_after n ps mark.partition mark.at) b.parts;
        documents = has;
        count = count_is;
        first_read = first_read ∙ ap Some first;
        closed = closed ∙ ap (λ w. is_closed after.documents.mapping (left_of after.queue) after.count (nat_lt max_batch_weight w) since now) has.weight
            ∙ ap (λ (c : IndexConfig). is_closed c (left_of after.queue) after.count (nat_lt max_batch_weight (weight documents)) since now) (config ∙ b.config)
            ∙ ap (λ q. is_closed batch.config q after.count (nat_lt max_batch_weight (weight documents)) since now) queue
            ∙ ap (λ c. is_closed batch.config (queue_after records.end mark n rest) c (nat_lt max_batch_weight (weight documents)) since now) count_is
            ∙ ap (λ s. is_closed batch.config (queue_after records.end mark n rest) (batch.count + n) (nat_lt max_batch_weight (weight documents)) s now) first;
      }

  pub takes_read : taken_from held.documents.mapping mark.partition mark.at records.list (taken_so_far 0 batch.documents) ≡ taken_so_far n documents →
      (n ≡ (taken_from batch.config mark.partition mark.at records.list (start_of batch)).count) × BatchStands after (batch_read batch mark rest records now)
  takes_read took = (
    sym (ap (λ t. t.count) is),
    subst (λ t. BatchStands after (batch_after batch mark rest t records.end now)) (sym is) after_stands,
  )
    where
      is : taken_from batch.config mark.partition mark.at records.list (start_of batch) ≡ taken_so_far n documents
      is = ap (taken_from batch.config mark.partition mark.at records.list) (sym (start_is batch r.calm))
          ∙ ap (λ (c : IndexConfig). taken_from c mark.partition mark.at records.list (taken_so_far 0 batch.documents)) (sym b.config) ∙ took

-- a read of the first mark goes on where the parts end
pub follows_here : (held parts : List Part) (name : List ℕ) (mark : Checkpoint) (from : ℕ) → held ≡ parts → name ≡ mark.partition → from ≡ mark.at → Follows parts mark →
    Follows held (record { partition = name; at = from })
follows_here held parts name mark from h e f k =
    subst (λ ps. Follows ps (record { partition = name; at = from })) (sym h)
    (subst (λ p. Follows parts (record { partition = p; at = from })) (sym e) (subst (λ a. Follows parts (record { partition = mark.partition; at = a })) (sym f) k))
