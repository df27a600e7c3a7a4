use Rattle.std.proofs.Common.{arith, ◌≡◌, ◌≤◌, ◌+◌, ◌∷◌, Option, None, Some, option_map, is_some, true, sym, ap}
use Rattle.std.proofs.Common.{◌∙◌, refl, subst}
use Rattle.std.specs.Option.{IfSome, option_copied}
use Rattle.search_questions.specs.Below.{Begin, CountsOne, fates_of, IsFated, hit_of, ClosesCycle}
use Rattle.search_questions.specs.Words.{AskingLeadsTo, ByEntry, ByStored, OverCycle, Pushed}
use Rattle.between_moves.proofs.Scopes.{holds_own}
use Rattle.between_moves.specs.Scopes.{HoldsOwn}
use Rattle.goal_changes.specs.Frames.{frames_of}
use Rattle.search_rules.proofs.moves.Frames.{answered_frames, sees_same, sees_still, stored_frames}
use Rattle.search_rules.proofs.moves.Questions.{if_ok_then}
use Rattle.search_state.specs.Scopes.{held_over}
use Rattle.search_questions.proofs.question.ask_at.Goals as goal

-- what is there is as it is said of what is there
is_some_with : {A : Type 0} (P : A → Type 0) (o : Option A) (a : A) → o ≡ Some a → IfSome o P → P a
is_some_with P o a is h = subst (λ x. IfSome x P) is h

-- a provisional entry answers it
pub returns-in-Some-clause-asked : goal.returns-in-Some-clause-asked
returns-in-Some-clause-asked g c =
    if_ok_then c.answer_by_entry.result _ _ c.answer_by_entry.ensures.answered
    (λ received answered.
    subst (λ given. AskingLeadsTo g.D.Delegate g.D.Cx.Cx g.D.Cx.Input.PartialEq.eq c.args.cache.now.cx c.args.kind
    c.args.input (g.D.Delegate.noop c.args.inspect.now) c.args.cache.now c.args.evaluation.now
    (g.D.Delegate.starts c.args.inspect.now) given c.args.cache.now
    (record c.args.evaluation.now { goals = c.answer_by_entry.new.goals }) (g.D.Delegate.starts c.args.inspect.now))
    (sym answered.is)
    (ByEntry c.args.depth c.in-Some.entry.now c.answer_by_entry.new.goals c.requires.gets
    (sym c.in-Some.ensures.found)
    answered.takes answered.nested))

-- a stored result answers it
pub answer_by_stored-requires-clause-fits : goal.answer_by_stored-requires-clause-fits
answer_by_stored-requires-clause-fits g c =
    let usable = is_some_with _ c.consult_for-stored.result.stored c.in-Some-stored.stored c.in-Some-stored.is
    c.consult_for-stored.ensures.usable in
    omega (arith, c.requires.fits, usable.within)

pub returns-in-Some-stored-clause-asked : goal.returns-in-Some-stored-clause-asked
returns-in-Some-stored-clause-asked g c =
    if_ok_then c.answer_by_stored.result _ _ c.answer_by_stored.ensures.answered
    (λ received answered.
    subst (λ n. AskingLeadsTo g.D.Delegate g.D.Cx.Cx g.D.Cx.Input.PartialEq.eq c.args.cache.now.cx c.args.kind
    c.args.input (g.D.Delegate.noop c.args.inspect.now) c.args.cache.now c.args.evaluation.now
    (g.D.Delegate.starts c.args.inspect.now) received c.args.cache.now
    (record c.args.evaluation.now { goals = c.answer_by_stored.new.goals }) n)
    (sym c.consult_for-stored.ensures.same_starts)
    (subst (λ given. AskingLeadsTo g.D.Delegate g.D.Cx.Cx g.D.Cx.Input.PartialEq.eq c.args.cache.now.cx c.args.kind
    c.args.input (g.D.Delegate.noop c.args.inspect.now) c.args.cache.now c.args.evaluation.now
    (g.D.Delegate.starts c.args.inspect.now) given c.args.cache.now
    (record c.args.evaluation.now { goals = c.answer_by_stored.new.goals }) (g.D.Delegate.starts c.args.inspect.now))
    (sym answered.is)
    (ByStored c.args.depth (hit_of c.in-Some-stored.stored) c.answer_by_stored.new.goals c.requires.gets
    (sym c.entry_for.ensures.found ∙ ap option_copied c.in_default.is)
    (sym c.consult_for-stored.ensures.consults.stored ∙ ap (option_map hit_of) c.in-Some-stored.is)
    answered.takes (is_some_with _ c.consult_for-stored.result.stored c.in-Some-stored.stored c.in-Some-stored.is
    c.consult_for-stored.ensures.usable))))

-- its goal is under evaluation
pub returns-in-Some-find-clause-asked : goal.returns-in-Some-find-clause-asked
returns-in-Some-find-clause-asked g c =
    if_ok_then c.answer_cycle.result _ _ c.answer_cycle.ensures.answered
    (λ given closes.
    subst (λ n. AskingLeadsTo g.D.Delegate g.D.Cx.Cx g.D.Cx.Input.PartialEq.eq c.args.cache.now.cx c.args.kind
    c.args.input (g.D.Delegate.noop c.args.inspect.now) c.args.cache.now c.args.evaluation.now
    (g.D.Delegate.starts c.args.inspect.now) given c.args.cache.now c.answer_cycle.new.evaluation n)
    (sym c.consult_for-stored.ensures.same_starts)
    (subst (λ after. AskingLeadsTo g.D.Delegate g.D.Cx.Cx g.D.Cx.Input.PartialEq.eq c.args.cache.now.cx c.args.kind
    c.args.input (g.D.Delegate.noop c.args.inspect.now) c.args.cache.now c.args.evaluation.now
    (g.D.Delegate.starts c.args.inspect.now) given c.args.cache.now after (g.D.Delegate.starts c.args.inspect.now))
    (sym c.answer_cycle.ensures.rest)
    (OverCycle c.args.depth c.in-Some-find.head given c.answer_cycle.new.evaluation.goals c.requires.gets
    (sym c.entry_for.ensures.found ∙ ap option_copied c.in_default.is)
    (sym c.consult_for-stored.ensures.consults.stored ∙ ap (option_map hit_of) c.in_default-stored.is)
    (sym c.find.ensures.present ∙ ap is_some c.in-Some-find.is)
    (subst (λ x. ClosesCycle g.D.Delegate g.D.Cx.Cx x g.D.Cx.Input.PartialEq.eq c.args.kind c.args.input
    c.in-Some-find.head given c.args.evaluation.now.goals c.answer_cycle.new.evaluation.goals)
    c.cx-cx.ensures closes))))

-- it is pushed
pub returns-clause-asked : goal.returns-clause-asked
returns-clause-asked g c =
    let fate_is = c.consult_for-stored.ensures.consults.fate in
    let held = c.begin_in_scope.new.scopes in
    if_ok_then c.begin_in_scope.result _ _ c.begin_in_scope.ensures.begins
    (λ received begins.
    subst (λ given. AskingLeadsTo g.D.Delegate g.D.Cx.Cx g.D.Cx.Input.PartialEq.eq c.args.cache.now.cx c.args.kind
    c.args.input (g.D.Delegate.noop c.args.inspect.now) c.args.cache.now c.args.evaluation.now
    (g.D.Delegate.starts c.args.inspect.now) given c.push_goal.new.cache
    (record c.push_goal.new.evaluation { scopes = held }) (g.D.Delegate.starts c.push_goal.new.inspect)) (sym begins.0)
    (subst (λ cache. AskingLeadsTo g.D.Delegate g.D.Cx.Cx g.D.Cx.Input.PartialEq.eq c.args.cache.now.cx c.args.kind
    c.args.input (g.D.Delegate.noop c.args.inspect.now) c.args.cache.now c.args.evaluation.now
    (g.D.Delegate.starts c.args.inspect.now) (record { reply = Begin; node = None }) cache
    (record c.push_goal.new.evaluation { scopes = held }) (g.D.Delegate.starts c.push_goal.new.inspect))
    (sym c.push_goal.ensures.cache)
    (subst (λ after. AskingLeadsTo g.D.Delegate g.D.Cx.Cx g.D.Cx.Input.PartialEq.eq c.args.cache.now.cx c.args.kind
    c.args.input (g.D.Delegate.noop c.args.inspect.now) c.args.cache.now c.args.evaluation.now
    (g.D.Delegate.starts c.args.inspect.now) (record { reply = Begin; node = None })
    (record c.args.cache.now { nodes = c.push_goal.new.cache.nodes }) (record after { scopes = held })
    (g.D.Delegate.starts c.push_goal.new.inspect)) (sym c.push_goal.ensures.rest)
    (Pushed c.args.depth c.push_goal.new.evaluation.goals held c.push_goal.new.cache.nodes
    (g.D.Delegate.starts c.push_goal.new.inspect) c.requires.gets
    (sym c.entry_for.ensures.found ∙ ap option_copied c.in_default.is)
    (sym c.consult_for-stored.ensures.consults.stored ∙ ap (option_map hit_of) c.in_default-stored.is)
    (sym c.find.ensures.present ∙ ap is_some c.in_default-find.is)
    c.in_ok-push_goal.ensures.pushed
    (subst (λ fate. fates_of c.push_goal.new.evaluation.goals
    ≡ record { goal = c.args.input; depth = c.args.depth.0; fate = fate } ∷ fates_of c.args.evaluation.now.goals)
    fate_is c.in_ok-push_goal.ensures.fates)
    (subst (λ fate. HoldsOwn fate c.args.evaluation.now.scopes held) fate_is
    (holds_own c.consult_for-stored.result.fate c.consult_for-stored.result.scope c.args.evaluation.now.scopes
    held c.consult_for-stored.ensures.scope
    (begins.1 ∙ ap (λ e. held_over c.consult_for-stored.result.scope e.scopes) c.push_goal.ensures.rest)))
    (subst (λ fate. IsFated (g.D.Delegate.scoped c.args.cache.now.cx) (g.D.Delegate.script c.args.cache.now.cx)
    g.D.Cx.Input.PartialEq.eq c.args.cache.now.results (g.D.Delegate.noop c.args.inspect.now)
    (record { goal = c.args.input; depth = c.args.depth.0; fate = fate })) fate_is c.consult_for-stored.ensures.fated)
    (subst (λ n. g.D.Delegate.starts c.push_goal.new.inspect ≤ n + 1)
    c.consult_for-stored.ensures.same_starts c.push_goal.ensures.starts.at_most)
    (subst (λ n. g.D.Delegate.counts ≡ true
    → CountsOne g.D.Delegate.last n (g.D.Delegate.starts c.push_goal.new.inspect))
    c.consult_for-stored.ensures.same_starts c.in_ok-push_goal.ensures.starts.counted)))))

-- ---- what the builder saw

pub returns-in-Some-clause-seen : goal.returns-in-Some-clause-seen
returns-in-Some-clause-seen g c =
    if_ok_then c.answer_by_entry.result _ _ c.answer_by_entry.ensures.answered
    (λ received answered. sees_same g.D.Delegate.sees c.args.inspect.now _ _
    (answered_frames c.args.evaluation.now.goals c.answer_by_entry.new.goals _ _ _ _ answered.takes))

pub returns-in-Some-stored-clause-seen : goal.returns-in-Some-stored-clause-seen
returns-in-Some-stored-clause-seen g c =
    if_ok_then c.answer_by_stored.result _ _ c.answer_by_stored.ensures.answered
    (λ received answered. sees_still g.D.Delegate.sees c.args.inspect.now c.consult_for-stored.new.inspect _ _
    c.consult_for-stored.ensures.seen
    (stored_frames c.args.evaluation.now.goals c.answer_by_stored.new.goals _ _ _ answered.takes))

pub returns-in-Some-find-clause-seen : goal.returns-in-Some-find-clause-seen
returns-in-Some-find-clause-seen g c =
    if_ok_then c.answer_cycle.result _ _ c.answer_cycle.ensures.answered
    (λ given closes. sees_still g.D.Delegate.sees c.args.inspect.now c.consult_for-stored.new.inspect _ _
    c.consult_for-stored.ensures.seen
    (answered_frames c.args.evaluation.now.goals c.answer_cycle.new.evaluation.goals _ _ _ _ closes.takes))

pub returns-clause-seen : goal.returns-clause-seen
returns-clause-seen g c =
    if_ok_then c.begin_in_scope.result _ _ c.begin_in_scope.ensures.begins
    (λ received begins. record {
      at = λ root seen. c.in_ok-push_goal.ensures.seen.at root (Some (frames_of c.args.evaluation.now.goals))
          (c.consult_for-stored.ensures.seen root (Some (frames_of c.args.evaluation.now.goals)) seen)
          (λ none. absurd cc) refl;
    })
