use Rattle.std.proofs.Common.{◌≡◌, ℕ, ◌<◌, true, List, get_or, vec_len}
use Rattle.doc_value.specs.declared.schema.Schema.{Schema}
use Rattle.text_tokens.specs.declared.tokens.Token.{Token}
use Rattle.term_postings.specs.declared.cursor.Cursor.{Cursor}
use Rattle.split_bundle.specs.declared.placed.Placed.{Placed}
use Rattle.split_bundle.specs.Files.{Parts}
use Rattle.split_bundle.specs.Keys.{field_key}
use Rattle.split_bundle.specs.Lists.{keeps_places, posting_list}
use Rattle.doc_sets.specs.Needed.{IsSearched}
use Rattle.doc_sets.specs.Seeking.{CanSeek}
use Rattle.doc_sets.proofs.phrases.open_cursors.Given as goal

abbrev pub invariant-loop-token : goal.invariant-loop-token
invariant-loop-token l = record {
  many : vec_len l.cursors ≡ l.token-index;
  only : (s : Schema) (documents : List Placed) (p : Parts) → IsSearched l.part s documents p → ((term : List ℕ) → keeps_places s (field_key l.number term) ≡ true)
      → (i : ℕ) (t : Token) (c : Cursor) → i < l.token-index → CanSeek (posting_list s documents (field_key l.number (get_or l.phrase i t).text)) (get_or l.cursors.items i c) 0;
}
