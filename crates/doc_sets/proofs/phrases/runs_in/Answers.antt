use Rattle.std.proofs.Common.{◌≡◌, ◌<◌, ◌+◌, Bool, length, drop, set, arith}
use Rattle.split_bundle.specs.Keys.{field_key, keys_of}
use Rattle.doc_sets.specs.Asked.{has_run, stands_from_one}
use Rattle.doc_sets.specs.Faults.{IsMemory}
use Rattle.doc_sets.specs.Seeking.{ArePassing}
use Rattle.doc_sets.proofs.Causes.{handed_on}
use Rattle.doc_sets.proofs.DistanceLaws.{run_first}
use Rattle.doc_sets.proofs.Runs.{each_at}
use Rattle.doc_sets.proofs.SeekLaws.{answer_same, passing_here, passing_more}
use Rattle.doc_sets.proofs.phrases.runs_in.Goals as goal

pub returns-in_err-seek_places-in-len1-up : goal.returns-in_err-seek_places-in-len1-up
returns-in_err-seek_places-in-len1-up c = λ s documents number d passing keeps got each.
    let phrase = c.args.phrase.now in
    let os = keys_of s d.doc in
    let x = c.first-item.result in
    let lt : 0 < length phrase = omega (arith, c.in-len1-up.len_at_least) in
    let can = passing_here s documents number phrase c.args.cursors.now c.args.document 0 x c.index-cursors-0.result passing lt c.first-item.is in
    handed_on (λ (b : Bool). (b ≡ has_run number phrase os) × ArePassing s documents number phrase (set c.args.cursors.now 0 c.seek_places.new.cursor) (c.args.document + 1) 0) IsMemory
    c.from_residual.result c.in_err-seek_places-in-len1-up.field-0.0 c.from_residual.ensures.1
    (c.in_err-seek_places-in-len1-up.ensures s documents (field_key number x.text) d can (keeps x.text) got (each_at number 0 x phrase os lt c.first-item.is each))

pub returns-in_ok-seek_places-in-len1-up : goal.returns-in_ok-seek_places-in-len1-up
returns-in_ok-seek_places-in-len1-up c = λ s documents number d passing keeps got each.
    let phrase = c.args.phrase.now in
    let os = keys_of s d.doc in
    let x = c.first-item.result in
    let lt : 0 < length phrase = omega (arith, c.in-len1-up.len_at_least) in
    let can = passing_here s documents number phrase c.args.cursors.now c.args.document 0 x c.index-cursors-0.result passing lt c.first-item.is in
    let read = c.in_ok-seek_places-in-len1-up.ensures s documents (field_key number x.text) d can (keeps x.text) got (each_at number 0 x phrase os lt c.first-item.is each) in
    let later = passing_more s documents number phrase c.args.cursors.now c.args.document 0 c.seek_places.new.cursor passing lt x c.first-item.is read.2 in
    answer_same c.others_stand.result (stands_from_one number (drop 1 phrase) x.position c.seek_places.new.places.items os) (has_run number phrase os)
    (ArePassing s documents number phrase c.others_stand.new.cursors (c.args.document + 1) 0) (run_first number x phrase c.seek_places.new.places.items os lt c.first-item.is read.0)
    (c.others_stand.ensures s documents number d later keeps got each read.1)
