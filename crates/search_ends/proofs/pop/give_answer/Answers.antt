use Rattle.std.proofs.Common.{◌∙◌, sym}
use Rattle.search_rules.proofs.moves.DoneGoals.{given_to_none, given_to_newest, nested_to_none, nested_to_newest}
use Rattle.search_ends.proofs.pop.give_answer.Goals as goal

pub returns-then-len-eq0-clause-given : goal.returns-then-len-eq0-clause-given
returns-then-len-eq0-clause-given g c =
    given_to_none c.args.step c.args.answer.now c.args.goals.now (sym c.len.ensures ∙ c.if-len-eq0.true)

pub returns-then-len-eq0-clause-nested : goal.returns-then-len-eq0-clause-nested
returns-then-len-eq0-clause-nested g c = nested_to_none c.args.step c.args.answer.now g.X.Input.PartialEq.eq
    c.args.goals.now (sym c.len.ensures ∙ c.if-len-eq0.true)

pub returns-clause-given : goal.returns-clause-given
returns-clause-given g c = given_to_newest c.args.step c.args.answer.now c.args.goals.now c.note_answer.new.self
    (λ none. c.if-len-eq0.false (c.len.ensures ∙ none)) c.in_ok-note_answer.ensures.answered

pub returns-clause-nested : goal.returns-clause-nested
returns-clause-nested g c = nested_to_newest c.args.step c.args.answer.now g.X.Input.PartialEq.eq c.args.goals.now
    c.note_answer.new.self c.in_ok-note_answer.ensures.nested
