use Rattle.std.specs.Prelude.{⊤}
use Rattle.std.specs.Str.{is_utf8, chars}
use Rattle.std.specs.Fmt.{digits}
use Rattle.serde_json.proofs.OnLiterals.{serde_json_on_literals}
use Rattle.toml.proofs.OnLiterals.{toml_on_literals}
use Rattle.byte_fields.specs.Spelling.{varint}
use Rattle.index_config.specs.Tables.{asked}
use Rattle.meta_journal.specs.Places.{meta_key, split_key}
use Rattle.meta_journal.specs.Spelling.{spelling}
use Rattle.query_reader.specs.Kinds.{kind_of, said, names_set}
use Rattle.query_reader.specs.Machine.{run, from_operand}
use Rattle.search_api.specs.Aggregations.{aggs_at}
use Rattle.search_api.specs.Keys.{unknown_in_aggs, unknown_in_search, unknown_key}
use Rattle.search_api.specs.Replies.{pair_text, object_text, list_text, aggs_text, alone, with_name, with_place, store_fault, found_text, deleted_text, refused_text}
use Rattle.search_api.specs.Requests.{selection_of, written_search, search_of, delete_of}
use Rattle.search_api.specs.Resolved.{search_in, delete_in}
use Rattle.split_form.specs.Facts.{facts_of}

-- what a proof unfolds to read a request and print a reply on a literal
unfoldable pub requests_on_literals : ⊤
unfolding kind_of said names_set run from_operand aggs_at unknown_in_aggs unknown_in_search unknown_key pair_text object_text list_text aggs_text alone with_name with_place store_fault found_text deleted_text refused_text selection_of written_search search_of delete_of search_in delete_in
requests_on_literals = tt

-- and to compute a whole schedule on literals; what a split file's bytes are stays as it is said
unfoldable pub path_on_literals : ⊤
unfolding requests_on_literals serde_json_on_literals toml_on_literals asked is_utf8 chars digits meta_key split_key varint spelling facts_of
path_on_literals = tt
