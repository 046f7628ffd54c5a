use Rattle.std.proofs.Common.{arith, ◌≡◌, ◌∙◌, sym, ap, Some, ◌++◌, ◌∷◌, []}
use Rattle.std.proofs.Math.Logic.{∥∥₁_map}
use Rattle.index_world.specs.Accepted.{accepted}
use Rattle.indexing_run.specs.Gathering.{HasDocuments}
use Rattle.indexing_run.proofs.Gathered.{accepted_fits, accepted_light, room_left}
use Rattle.indexing_run.proofs.Takes.{on_ok, placed_at, takes_one}
use Rattle.indexing_run.proofs.documents.Documents.take.Goals as goal

pub add-requires-clause-taken : goal.add-requires-clause-taken
add-requires-clause-taken c = c.requires.taken

pub add-requires-clause-room : goal.add-requires-clause-room
add-requires-clause-room c = room_left c.args.self.now.builder.weight c.requires.room

pub add-requires-clause-of_schema : goal.add-requires-clause-of_schema
add-requires-clause-of_schema c =
    let config = c.args.self.now.mapping in
    let is : accepted config c.args.bytes.now ≡ Some c.in-Some.doc = ap (accepted config) (sym c.as_slice.ensures) ∙ sym c.in_ok-doc.ensures ∙ c.in-Some.is in
    accepted_fits config c.args.bytes.now c.in-Some.doc is

pub add-requires-clause-light : goal.add-requires-clause-light
add-requires-clause-light c =
    let config = c.args.self.now.mapping in
    let is : accepted config c.args.bytes.now ≡ Some c.in-Some.doc = ap (accepted config) (sym c.as_slice.ensures) ∙ sym c.in_ok-doc.ensures ∙ c.in-Some.is in
    accepted_light config c.args.bytes.now (record { partition = c.copy.result; offset = c.args.offset; doc = c.in-Some.doc }) (∥∥₁_map c.requires.taken (λ r. r.1.are_documents.schema)) is (let fits = c.ranges.offset in omega (arith, fits))

pub returns-clause-taken : goal.returns-clause-taken
returns-clause-taken c = λ n list h.
    let config = c.args.self.now.mapping in
    let name = c.args.partition.now in
    let doc = c.in-Some.doc in
    let after = list ++ placed_at c.copy.result c.args.offset doc ∷ [] in
    let is : accepted config c.args.bytes.now ≡ Some doc = ap (accepted config) (sym c.as_slice.ensures) ∙ sym c.in_ok-doc.ensures ∙ c.in-Some.is in
    on_ok c.add.result (HasDocuments c.add.new.self (list ++ placed_at c.copy.result c.args.offset doc ∷ [])) _
    (λ has. (
      after,
      has,
      takes_one config name c.args.offset n c.args.bytes.now doc list after is (ap (λ p. list ++ placed_at p c.args.offset doc ∷ []) c.copy.ensures),
    ))
    (c.add.ensures.taken list h)
