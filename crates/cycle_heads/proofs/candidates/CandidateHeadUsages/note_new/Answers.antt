use Rattle.std.proofs.Common.{rules, ◌≡◌, sym, ap, ◌∙◌}
use Rattle.std.specs.BTreeMap.{insert_entry}
use Rattle.std.specs.Option.{unwrap_or}
use Rattle.cycle_heads.specs.Words.{depth_cmp, no_usages, with_nested}
use Rattle.cycle_heads.proofs.Places.{gap_value}
use Rattle.cycle_heads.proofs.candidates.CandidateHeadUsages.note_new.Goals as goal

pub returns-clause-ok : goal.returns-clause-ok
returns-clause-ok c =
    let absent = gap_value c.args.head c.args.self.now c.args.index c.requires.rising c.requires.place in
    let none : c.default-noted.result ≡ no_usages = search rules in
    let start = none ∙ ap (λ noted. unwrap_or noted no_usages) (sym absent) in
    let noted = c.add_usages_from_nested.ensures ∙ ap (λ usages. with_nested usages c.args.usages) start in
    c.in_ok-put.ensures.ok ∙ ap (insert_entry depth_cmp c.args.self.now c.args.head) noted
