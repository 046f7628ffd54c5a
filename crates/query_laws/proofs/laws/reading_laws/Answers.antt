use Rattle.std.proofs.Common.{◌≡◌, ℕ, List, Err, arith}
use Rattle.query_laws.proofs.Live.{longest_read, IsLongestRead}
use Rattle.query_laws.proofs.Complete.{query_reads}
use Rattle.query_laws.proofs.Deep.{too_deep}
use Rattle.query_laws.proofs.Sound.{reads_query, deep_stands}
use Rattle.query_reader.specs.Grammar.{IsLongestFront}
use Rattle.query_reader.specs.Machine.{reads}
use Rattle.query_reader.specs.declared.fault.Fault.TheVariants as faults
use Rattle.query_laws.proofs.laws.reading_laws.Goals as goal

longest_front : (text : List ℕ) (n : ℕ) → reads text ≡ Err (faults.Syntax n) → IsLongestFront text n
longest_front text n e =
    let x : IsLongestRead text n = longest_read text n e in
    record {
      within = x.within;
      begins = (x.begins.0, (x.begins.1.0, reads_query _ _ x.begins.1.1));
      longest = λ m l b. x.longest m l (b.0, (b.1.0, query_reads b.1.1 (omega arith)));
    }

pub returns : goal.returns
returns c = record {
  read = λ text t q. query_reads q (omega arith);
  only = λ text t h. reads_query text t h;
  syntax = λ text at h. longest_front text at h;
  deep = λ text at. (deep_stands text at, too_deep text at);
}
