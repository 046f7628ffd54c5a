use Rattle.agg_nested.proofs.nested_finishing.finish_plain.Goals as goal

pub returns-in-Err-TooManyBuckets : goal.returns-in-Err-TooManyBuckets
returns-in-Err-TooManyBuckets c = λ documents none h had.
    let is = rw c.in-Err-TooManyBuckets.field-0-is at (c.in-Err-TooManyBuckets.ensures documents h.flat) in
    c.too_many.ensures c.args.asked.now documents none is.0 is.1
