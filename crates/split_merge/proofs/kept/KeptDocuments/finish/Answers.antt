use Rattle.std.proofs.Common.{◌∙◌, ◌<◌, ◌^◌, List, ℕ, ap, refl, subst, sym, length, arith}
use Rattle.sha2.specs.Sha256.{sha256}
use Rattle.split_bundle.specs.Documents.{documents_section}
use Rattle.split_build.specs.declared.term_parts.TermParts.{TermParts}
use Rattle.split_bundle.specs.Tagged.{tag_numbers}
use Rattle.split_build.specs.WrittenTerms.{AreTermParts}
use Rattle.split_merge.proofs.FiledLemmas.{are_facts, holds_documents, is_built, length-so_many, so_many, to_write}
use Rattle.split_merge.proofs.kept.KeptDocuments.finish.Goals as goal

pub begun_of-requires : goal.begun_of-requires
begun_of-requires c = let k = c.requires.kept in ∣ (k.0, to_write c.args.schema.now k.0 c.args.self c.requires.schema k.1 k.2) ∣₁

pub returns-clause-holds : goal.returns-clause-holds
returns-clause-holds c = λ ds h within.
    let file = c.in_ok-file.file.items in
    let facts = are_facts c.args.schema.now ds c.args.self c.requires.schema h within _ file c.from_vec.ensures c.from.ensures refl refl (omega (arith, c.len.ensures, c.in_ok-file.file.ok.0))
    (c.digest_of.ensures ∙ ap (λ (l : List ℕ). sha256 l) c.deref.ensures.value) refl (c.in_ok-tag_facts.ensures (tag_numbers 0 c.args.schema.now.fields) ds h.facts.tags) in
    let sections = c.in_ok-begun.ensures.sections ds (to_write c.args.schema.now ds c.args.self c.requires.schema h within) in
    let n : ℕ = c.in_ok-begun.begun.terms.count in
    holds_documents c.args.schema.now ds c.args.self c.requires.schema h within _ file c.in_ok-begun.begun (so_many n) c.from_vec.ensures facts c.in_ok-begun.ensures.docs
    sections (c.in_ok-file.ensures (documents_section c.in_ok-begun.begun.partitions.items ds) (so_many n) sections.begun_is (sym (length-so_many n)))

pub returns-clause-built : goal.returns-clause-built
returns-clause-built c = λ ds h within terms.
    let file = c.in_ok-file.file.items in
    let small : length c.in_ok-file.file.items < 2 ^ 64 = omega (arith, c.in_ok-file.file.ok.0, c.in_ok-file.file.small) in
    let facts = are_facts c.args.schema.now ds c.args.self c.requires.schema h within _ file c.from_vec.ensures c.from.ensures refl refl (omega (arith, c.len.ensures, c.in_ok-file.file.ok.0))
    (c.digest_of.ensures ∙ ap (λ (l : List ℕ). sha256 l) c.deref.ensures.value) refl (c.in_ok-tag_facts.ensures (tag_numbers 0 c.args.schema.now.fields) ds h.facts.tags) in
    let sections = c.in_ok-begun.ensures.sections ds (to_write c.args.schema.now ds c.args.self c.requires.schema h within) in
    let own : AreTermParts c.args.schema.now ds c.in_ok-begun.begun.terms = subst (λ (t : TermParts). AreTermParts c.args.schema.now ds t) (sym c.in_ok-begun.ensures.terms) terms in
    is_built c.args.schema.now ds c.args.self c.requires.schema h within _ file c.in_ok-begun.begun own c.from_vec.ensures facts c.in_ok-begun.ensures.docs
    sections (c.in_ok-file.ensures (documents_section c.in_ok-begun.begun.partitions.items ds) own.keys sections.begun_is own.count) small
