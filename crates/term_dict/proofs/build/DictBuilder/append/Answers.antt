use Rattle.std.proofs.Common.{◌≡◌, ◌^◌, ◌<◌, ◌++◌, ◌∷◌, [], ◌∙◌, List, ℕ, ap, length, arith, rules, length-append}
use Rattle.term_dict.specs.Blocks.{with_block}
use Rattle.term_dict.specs.Builders.{term_with}
use Rattle.term_dict.proofs.Builds.{one_taken, count_within}
use Rattle.term_dict.proofs.build.DictBuilder.append.Goals as goal

pub returns : goal.returns
returns c terms h rising =
    let me = c.args.self.now in
    let t = term_with c.args.key.now c.args.info.now in
    let start : c.len.result ≡ length me.area.items = omega arith in
    let blocks = c.in_ok-start_block.ensures ∙ ap (λ (n : ℕ). with_block me.index n c.args.key.now c.len.result) h.count
    ∙ ap (λ (s : ℕ). with_block me.index (length terms) c.args.key.now s) start in
    let dict = one_taken me.area.items c.put_term.new.out.items me.index c.start_block.new.index terms t h.dict rising blocks c.in_ok-put_term.ensures.ok c.in_ok-put_term.ensures.fits in
    let small : length c.put_term.new.out.items < 2 ^ 64 = search rules in
    record {
      dict = dict;
      count = omega (arith, c.saturating_add-self.ensures, h.count, small, count_within (terms ++ t ∷ []), ap (λ (l : List ℕ). length l) dict.area_is, length-append terms (t ∷ []));
    }
