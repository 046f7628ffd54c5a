use Rattle.std.proofs.Common.{◌≡◌, ◌∙◌, ◌+◌, ◌∷◌, ◌++◌, ◌%◌, ◌^◌, [], List, ap, refl, arith}
use Rattle.split_build.specs.declared.terms.Run.{Run}
use Rattle.split_build.specs.Runs.{documents_of, places_of}
use Rattle.split_build.proofs.RunLemmas.{longer_documents, longer_places, one_more_document, one_more_place}
use Rattle.split_build.proofs.terms.Occurrences.push.Goals as goal

pub returns-then-goes_on-clause-documents : goal.returns-then-goes_on-clause-documents
returns-then-goes_on-clause-documents c =
    longer_documents c.args.self.now.runs.items c.args.self.now.last (record { document = c.args.self.now.last.document; count = c.args.self.now.last.count + 1; place = c.args.self.now.last.place }) c.args.document
    refl refl (c.goes_on.ensures.document c.if-goes_on.true)

pub returns-then-goes_on-clause-places : goal.returns-then-goes_on-clause-places
returns-then-goes_on-clause-places c kept =
    longer_places c.args.self.now.runs.items c.args.self.now.last (record { document = c.args.self.now.last.document; count = c.args.self.now.last.count + 1; place = c.args.self.now.last.place }) c.args.place
    refl refl (c.goes_on.ensures.place c.if-goes_on.true kept)

pub returns-clause-documents : goal.returns-clause-documents
returns-clause-documents c =
    one_more_document c.push-2.new.self.items (record { document = c.args.document; count = 1; place = c.args.place }) refl ∙ ap (λ (rs : List Run). documents_of rs ++ c.args.document ∷ []) c.in_ok-push-2.ensures.items

pub returns-clause-places : goal.returns-clause-places
returns-clause-places c kept =
    let first : (c.args.place + 0) % 2 ^ 64 ≡ c.args.place = omega (arith, c.ranges.place.fits) in
    one_more_place c.push-2.new.self.items (record { document = c.args.document; count = 1; place = c.args.place }) refl first ∙ ap (λ (rs : List Run). places_of rs ++ c.args.place ∷ []) c.in_ok-push-2.ensures.items
