-- What is merged of documents that are kept, or why nothing is.
use Rattle.std.proofs.Common.{◌≡◌, List, Result, Ok, Err, refl, sym, subst}
use Rattle.std.specs.Prelude.{IfErr, IfOk, MatchResult}
use Rattle.doc_value.specs.declared.schema.Schema.{Schema}
use Rattle.split_bundle.specs.declared.placed.Placed.{Placed}
use Rattle.split_bundle.specs.declared.split_view.SplitView.{SplitView}
use Rattle.split_build.specs.declared.build_error.BuildError.{BuildError}
use Rattle.split_build.specs.declared.build_error.BuildError.TheVariants as build
use Rattle.split_build.specs.declared.builder.BuiltSplit.{BuiltSplit}
use Rattle.split_build.specs.Builders.{IsBuilt}
use Rattle.split_build.specs.Limits.{MakeNone}
use Rattle.split_merge.specs.declared.merge_error.MergeError.{MergeError}
use Rattle.split_merge.specs.declared.merge_error.MergeError.TheVariants.{Memory, Split, Build}
use Rattle.split_merge.specs.Kept.{KeepsAll}
use Rattle.split_merge.specs.Merging.{Blames, IsMergeFault, HoldsDocuments, IsMemory, Merges, MergesAs, MergesRead, refusal_of}

pub merges_by : (s : Schema) (ds : List Placed) (r : Result BuiltSplit MergeError) → MatchResult r (IsBuilt s ds) IsMemory → Merges s ds r
merges_by s ds (Ok built) h = h
merges_by s ds (Err (Memory a)) h = tt
merges_by s ds (Err (Split number e)) h = h
merges_by s ds (Err (Build e)) h = absurd h

pub reads_by : (s : Schema) (ds : List Placed) (views : List SplitView) (r : Result BuiltSplit MergeError) → IfOk r (HoldsDocuments s ds) → IfErr r (Blames s views) → MergesRead s ds r
reads_by s ds views (Ok built) holds blames = holds
reads_by s ds views (Err (Memory a)) holds blames = tt
reads_by s ds views (Err (Split number e)) holds blames = tt
reads_by s ds views (Err (Build e)) holds blames = absurd blames

-- documents beyond the limits
pub refused_merges : (s : Schema) (ds : List Placed) (e : BuildError) → MakeNone ds e → Merges s ds (Err (refusal_of e))
refused_merges s ds (build.Memory a) none = tt
refused_merges s ds (build.TooManyDocs count) none = none
refused_merges s ds (build.TooLarge weight) none = none

pub refused_reads : (s : Schema) (ds : List Placed) (e : BuildError) → MakeNone ds e → MergesRead s ds (Err (refusal_of e))
refused_reads s ds (build.Memory a) none = tt
refused_reads s ds (build.TooManyDocs count) none = none
refused_reads s ds (build.TooLarge weight) none = none

pub refused_cause : (s : Schema) (views : List SplitView) (e : BuildError) → IsMergeFault s views (refusal_of e)
refused_cause s views (build.Memory a) = tt
refused_cause s views (build.TooManyDocs count) = tt
refused_cause s views (build.TooLarge weight) = tt

-- a document that does not read
pub fault_merges : (s : Schema) (ds : List Placed) (read : Result (List Placed) MergeError) (e : MergeError) → read ≡ Ok ds → KeepsAll s (Err e) read → Merges s ds (Err e)
fault_merges s ds read (Memory a) is keeps = tt
fault_merges s ds read (Split number e) is keeps = absurd cc
fault_merges s ds read (Build e) is keeps = absurd keeps

pub fault_read : (s : Schema) (read : Result (List Placed) MergeError) (e : MergeError) → KeepsAll s (Err e) read → MergesAs s read (Err e)
fault_read s (Ok ds) (Memory a) keeps = tt
fault_read s (Err fault) (Memory a) keeps = tt
fault_read s read (Split number e) keeps = subst (λ (r : Result (List Placed) MergeError). MergesAs s r (Err (Split number e))) (sym keeps) refl
fault_read s read (Build e) keeps = absurd keeps

pub same_documents : (a b : List Placed) → ◌≡◌ {A = Result (List Placed) MergeError} (Ok a) (Ok b) → a ≡ b
same_documents a b e = cc
