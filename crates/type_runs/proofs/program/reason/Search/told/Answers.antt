use Rattle.std.proofs.Common.{◌≡◌, ◌++◌, ap, ap₂, subst, ◌∙◌}
use Rattle.type_texts.specs.Reasons.{end_words, Fails, Leads, way_words}
use Rattle.type_runs.proofs.Searching.{at_within}
use Rattle.type_runs.proofs.program.reason.Search.told.Goals as goal

pub way_to-requires-clause-within : goal.way_to-requires-clause-within
way_to-requires-clause-within c = at_within c.args.self.now c.args.place c.args.pair c.requires.at

pub returns : goal.returns
returns c = λ first at_first.
    let way : c.write_way.new.text.items ≡ way_words c.args.table.now c.in_ok-way.way.items =
    c.in_ok-write_way.ensures
    ∙ ap₂ (λ before way. before ++ way_words c.args.table.now way) c.new-text.ensures.items c.as_slice.ensures.value in
    record {
      way = c.in_ok-way.way.items;
      last = c.args.pair;
      end = c.args.end;
      leads = subst (λ forms. Leads forms c.in_ok-way.way.items first c.args.pair) c.requires.of_these
          (c.in_ok-way.ensures first c.args.pair at_first c.requires.at);
      fails = subst (λ forms. Fails forms c.args.end c.args.pair) c.requires.of_these c.requires.fails;
      words = c.in_ok-write_end.ensures ∙ ap (λ text. text ++ end_words c.args.table.now c.args.pair c.args.end) way;
    }
