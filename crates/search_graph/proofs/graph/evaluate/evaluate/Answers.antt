use Rattle.std.proofs.Common.{◌≡◌, ◌∙◌, IfSome, None, Ok, Option, Some, option_map, refl, sym, subst, ap}
use Rattle.search_context.proofs.Builders.{builder_goes_on}
use Rattle.search_graph.specs.Below.{hit_of, IsFated, usable}
use Rattle.search_graph.specs.Called.{Evaluated, found_in, WasStored, WasWorkedOut}
use Rattle.search_graph.specs.Ran.{ended, Ran}
use Rattle.search_rules.proofs.moves.LookUps.{accepted_over_none}
use Rattle.search_rules.specs.Words.{answered_by, fate_for}
use Rattle.path_kinds.specs.declared.path.PathKind.TheVariants.{Inductive}
use Rattle.search_graph.proofs.graph.evaluate.evaluate.Goals as goal

is_some_with : {A : Type 0} (P : A → Type 0) (o : Option A) (a : A) → o ≡ Some a → IfSome o P → P a
is_some_with P o a is h = subst (λ x. IfSome x P) is h

-- what is of none is none
none_found : {A H : Type 0} (is : A → H) (o : Option A) (found : Option H) → ((x : A) → o ≡ Some x → ⊥)
    → option_map is o ≡ found → found ≡ None
none_found is None found never same = sym same
none_found is (Some x) found never same = absurd (never x refl)

-- ---- a stored result answers the goal

pub returns-in-Some-clause-evaluated : goal.returns-in-Some-clause-evaluated
returns-in-Some-clause-evaluated g c =
    let stored = c.in-Some.stored in
    let looked = c.consult-stored.ensures in
    let over = accepted_over_none g.D.Cx.Input.PartialEq.eq c.args.evaluation.now.goals c.requires.outset.new.no_goals
    c.stack-stack.result.now c.stack-stack.ensures c.args.evaluation.now.provisional
    c.requires.outset.new.no_entries Inductive
    (usable g.D.Cx.Input.PartialEq.eq c.args.cache.now.results c.args.input c.args.evaluation.now.root_depth.0) in
    subst (Evaluated g.D.Delegate g.D.Cx.Cx g.D.Cx.Input.PartialEq.eq g.D.Cx.Result.PartialEq.eq
    (g.D.Delegate.noop c.args.inspect.now) (g.D.Delegate.noop c.args.inspect.now) Inductive c.args.input
    c.args.cache.now c.args.evaluation.now (g.D.Delegate.starts c.args.inspect.now)
    (Ok (record { result = stored.result; node = stored.node })) c.args.cache.now c.args.evaluation.now)
    (sym looked.same_starts)
    (WasStored (hit_of stored)
    (sym (ap (answered_by (g.D.Delegate.noop c.args.inspect.now) (g.D.Delegate.scoped c.args.cache.now.cx c.args.input))
    over) ∙ (sym looked.consults.stored ∙ ap (option_map hit_of) c.in-Some.is))
    (is_some_with _ c.consult-stored.result.stored stored c.in-Some.is looked.usable))

-- ---- it is worked out

pub returns-clause-evaluated : goal.returns-clause-evaluated
returns-clause-evaluated g c =
    let looked = c.consult-stored.ensures in
    let noop = g.D.Delegate.noop c.args.inspect.now in
    let in_scope = g.D.Delegate.scoped c.args.cache.now.cx c.args.input in
    let found = found_in g.D.Cx.Input.PartialEq.eq c.args.cache.now c.args.input c.args.evaluation.now.root_depth.0 in
    let over = accepted_over_none g.D.Cx.Input.PartialEq.eq c.args.evaluation.now.goals c.requires.outset.new.no_goals
    c.stack-stack.result.now c.stack-stack.ensures c.args.evaluation.now.provisional
    c.requires.outset.new.no_entries Inductive
    (usable g.D.Cx.Input.PartialEq.eq c.args.cache.now.results c.args.input c.args.evaluation.now.root_depth.0) in
    let fate : c.consult-stored.result.fate ≡ fate_for noop in_scope found =
    looked.consults.fate ∙ ap (fate_for noop in_scope) over in
    WasWorkedOut c.work_out.result c.work_out.new.cache c.work_out.new.evaluation
    (g.D.Delegate.starts c.work_out.new.inspect)
    (sym (ap (answered_by noop in_scope) over)
    ∙ none_found hit_of c.consult-stored.result.stored _ c.in_default.not-Some looked.consults.stored)
    (subst (λ f. IsFated (g.D.Delegate.scoped c.args.cache.now.cx) (g.D.Delegate.script c.args.cache.now.cx)
    g.D.Cx.Input.PartialEq.eq c.args.cache.now.results noop
    (record { goal = c.args.input; depth = c.args.evaluation.now.root_depth.0; fate = f })) fate looked.fated)
    (subst (λ f. Ran g.D.Delegate g.D.Cx.Cx g.D.Cx.Input.PartialEq.eq g.D.Cx.Result.PartialEq.eq noop Inductive
    c.args.input f c.args.cache.now c.args.evaluation.now (g.D.Delegate.starts c.args.inspect.now)
    (ended c.work_out.result) c.work_out.new.cache c.work_out.new.evaluation
    (g.D.Delegate.starts c.work_out.new.inspect)) fate
    (subst (λ n. Ran g.D.Delegate g.D.Cx.Cx g.D.Cx.Input.PartialEq.eq g.D.Cx.Result.PartialEq.eq noop Inductive
    c.args.input c.consult-stored.result.fate c.args.cache.now c.args.evaluation.now n (ended c.work_out.result)
    c.work_out.new.cache c.work_out.new.evaluation (g.D.Delegate.starts c.work_out.new.inspect)) looked.same_starts
    (subst (λ b. Ran g.D.Delegate g.D.Cx.Cx g.D.Cx.Input.PartialEq.eq g.D.Cx.Result.PartialEq.eq b Inductive
    c.args.input c.consult-stored.result.fate c.args.cache.now c.args.evaluation.now
    (g.D.Delegate.starts c.consult-stored.new.inspect) (ended c.work_out.result) c.work_out.new.cache
    c.work_out.new.evaluation (g.D.Delegate.starts c.work_out.new.inspect)) looked.builder.same_noop
    c.work_out.ensures.ran)))

pub returns-clause-builder : goal.returns-clause-builder
returns-clause-builder g c = builder_goes_on g.D.Delegate.starts g.D.Delegate.noop c.args.inspect.now
    c.consult-stored.new.inspect c.work_out.new.inspect c.consult-stored.ensures.builder c.work_out.ensures.builder

pub work_out-requires-clause-outset : goal.work_out-requires-clause-outset
work_out-requires-clause-outset g c = c.requires.outset

pub work_out-requires-clause-fated : goal.work_out-requires-clause-fated
work_out-requires-clause-fated g c =
    subst (λ b. IsFated (g.D.Delegate.scoped c.args.cache.now.cx) (g.D.Delegate.script c.args.cache.now.cx)
    g.D.Cx.Input.PartialEq.eq c.args.cache.now.results b
    (record { goal = c.args.input; depth = c.args.evaluation.now.root_depth.0; fate = c.consult-stored.result.fate }))
    (sym c.consult-stored.ensures.builder.same_noop) c.consult-stored.ensures.fated

pub work_out-requires-clause-in_scope : goal.work_out-requires-clause-in_scope
work_out-requires-clause-in_scope g c = c.consult-stored.ensures.scope

-- ---- and no scope is held

pub returns-in-Some-clause-released : goal.returns-in-Some-clause-released
returns-in-Some-clause-released g c = c.requires.outset.new.no_scopes

pub returns-clause-released : goal.returns-clause-released
returns-clause-released g c = c.work_out.ensures.released
