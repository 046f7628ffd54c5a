use Rattle.std.proofs.Common.{◌++◌, [], arith, refl}
use Rattle.term_postings.specs.Postings.{document_bytes}
use Rattle.term_postings.proofs.Lists.{counts_within}
use Rattle.term_postings.proofs.Walks.{start_behind, list_parts}
use Rattle.term_postings.proofs.cursor.Cursor.starting.Goals as goal

pub returns-clause-only : goal.returns-clause-only
returns-clause-only c told list more more_positions are docs sound e here positions = (
  [],
  record {
    stands = record {
      sound = sound;
      are_behind = start_behind c.args.counted list are;
      passed_are = refl;
      left_are = docs;
      before_is = refl;
      behind_heads = document_bytes c.args.counted 0 list ++ more;
      heads = list_parts c.args.postings.now more c.args.counted list e;
      behind_block = more;
      block = here;
      here = here;
      counts = omega (arith, counts_within list, are.positions_size);
      place_size = omega (arith, are.positions_size);
    };
    positions = λ t. record {
      at = record {
        skipped = [];
        skipped_are = refl;
        skipped_fit = tt;
        count_is = refl;
        rising = tt;
        fits = tt;
        not_below = tt;
        behind = more_positions;
        here = positions t;
      };
      behind_block = more_positions;
      block = positions t;
    };
  },
)
