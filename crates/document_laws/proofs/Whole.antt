-- What is printed is the compact text of the members that the document's values make.
use Rattle.std.proofs.Common.{◌≡◌, List, [], ◌∷◌, ◌++◌, true, ap, ◌∙◌, arith}
use Rattle.json.specs.Lex.{tokens}
use Rattle.serde_json.specs.Data.{object}
use Rattle.serde_json.specs.Read.{read as read_text}
use Rattle.serde_json.specs.Written.{compact_text, members_outline}
use Rattle.doc_value.specs.Documents.{IsOfSchema}
use Rattle.doc_value.specs.Printed.{printed_doc, members_of, members_text, in_order}
use Rattle.doc_value.specs.declared.doc.DocField.{DocField}
use Rattle.doc_value.specs.declared.schema.Schema.{Schema}
use Rattle.document_laws.specs.ReadBack.{AllApart, AreShort, HasNumbers, HasRisingKeys, ReadsBack, paths_of}
use Rattle.document_laws.proofs.Building.{an_object}
use Rattle.document_laws.proofs.Entries.{Entry, entries_of, sorted, same_rows, same_order, members_all, all_good, all_short, all_pairs, sorted_all, sorted_pairs, sorted_chain, all_ordered, all_shown, all_depth, all_has, all_only, into_sorted, out_of_sorted, into_entries, out_of_entries, AllOf, IsGood, IsShort, Pairs, Chain}
use Rattle.document_laws.proofs.Reading.{members_rise, tokens_of, read_back}
use Rattle.document_laws.proofs.Texts.{same_members}

module _ (schema : Schema) (doc : List DocField) (fits : IsOfSchema schema doc) (apart : AllApart (paths_of schema.fields doc)) (numbers : HasNumbers doc) where
  abbrev entries : List Entry
  entries = sorted (entries_of schema.fields doc)

  good : AllOf IsGood entries
  good = sorted_all IsGood (entries_of schema.fields doc) (all_good schema.fields doc numbers)

  pairs : Pairs entries
  pairs = sorted_pairs (entries_of schema.fields doc) (all_pairs schema.fields doc apart)

  chain : Chain entries
  chain = sorted_chain (entries_of schema.fields doc) (all_pairs schema.fields doc apart)

  printed : printed_doc schema doc ≡ compact_text (object (members_all entries))
  printed =
      ap (λ rows. 123 ∷ members_text true (members_of (in_order rows)) ++ 125 ∷ []) (same_rows schema.fields 0 doc fits)
      ∙ ap (λ rows. 123 ∷ members_text true (members_of rows) ++ 125 ∷ []) (same_order (entries_of schema.fields doc))
      ∙ ap (λ ms. 123 ∷ members_text true ms ++ 125 ∷ []) (all_shown entries good)
      ∙ same_members (members_all entries)

  pub rising : HasRisingKeys (printed_doc schema doc)
  rising = (members_outline (members_all entries), ap tokens printed ∙ tokens_of (object (members_all entries)) (an_object (all_ordered entries good chain)), members_rise (all_ordered entries good chain))

  pub back : AreShort (paths_of schema.fields doc) → ReadsBack schema doc
  back short =
      let shallow = all_depth entries good (sorted_all IsShort (entries_of schema.fields doc) (all_short schema.fields doc short)) in
      record {
        members = members_all entries;
        read = ap read_text printed ∙ read_back (object (members_all entries)) (an_object (all_ordered entries good chain)) (omega (arith, shallow));
        has = λ names d h. all_has entries names d good pairs chain (into_sorted (entries_of schema.fields doc) names d (into_entries schema.fields doc names d h));
        only = λ name names d s l. out_of_entries schema.fields doc (name ∷ names) d (out_of_sorted (entries_of schema.fields doc) (name ∷ names) d (all_only entries name names d good chain s l));
      }
