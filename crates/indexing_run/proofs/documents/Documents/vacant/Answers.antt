use Rattle.indexing_run.proofs.Gathered.{schema_is}
use Rattle.indexing_run.proofs.documents.Documents.vacant.Goals as goal

pub vacant-requires : goal.vacant-requires
vacant-requires c = schema_is c.args.config.schema c.requires
