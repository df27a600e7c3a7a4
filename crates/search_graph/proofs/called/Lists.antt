-- What follows of a list of calls, call by call.
use Rattle.std.proofs.Common.{◌≡◌, ◌||◌, ◌∙◌, ◌+◌, ◌≤◌, ℕ, All, Bool, true, false, max, List, [], ◌∷◌, ◌++◌, Result}
use Rattle.std.proofs.Common.{IfOk, IfErr, arith, refl, sym, subst}
use Rattle.std.proofs.lemmas.List.Elements.{All-head}
use Rattle.std.proofs.lemmas.List.Sums.{sum_by-append}
use Rattle.std.specs.List.{AllZip}
use Rattle.global_cache.proofs.Stores.{KeepsResults-same, KeepsResults-then}
use Rattle.graph_nodes.proofs.Finished.{KeepsFinished-same, KeepsFinished-then}
use Rattle.search_context.specs.declared.context.Answer.{Answer}
use Rattle.search_graph.proofs.called.Calling.{run_is_grounded, run_keeps}
use Rattle.search_graph.proofs.called.Decided.{run_fails_decided, run_is_definite, run_stores_definite}
use Rattle.search_graph.proofs.called.Limits.{run_ends_by_runs, run_fails_plainly, run_is_plain, run_is_within}
use Rattle.search_graph.proofs.called.Limits.{run_pays, run_refuses_none, run_stores_none}
use Rattle.search_graph.proofs.called.Stored.{run_is_recorded, run_requires_within}
use Rattle.search_graph.proofs.lists.ListAnswers.{AllZip-more, AllZip-weaker, answer_is_shown}
use Rattle.search_graph.proofs.lists.ListAnswers.{HasAnswer-kept, IfErr-weaker}
use Rattle.search_graph.proofs.lists.ListLimits.{each_of, limits_more, no_limits, only_answer, only_fault}
use Rattle.search_graph.proofs.promises.StoredDepths.{StoresWithin-same, StoresWithin-then}
use Rattle.search_graph.specs.Below.{Cache, CxOf, DelegateOf, Fault, frames_within, IsCaused, IsDefinite, IsEnclosed}
use Rattle.search_graph.specs.Below.{IsMemoryOrOrder, IsPlainTo, IsPlainValue, Memory, PathKind, StoresWithin, verdicts}
use Rattle.search_graph.specs.Called.{HasRun}
use Rattle.search_graph.specs.Calls.{KeepsAll}
use Rattle.search_graph.specs.Graph.{Graph}
use Rattle.search_graph.specs.Lists.{AllRan, AreEnclosed, call_for, frames_for, HadCause, HasAnswer, HasLimits}
use Rattle.search_graph.specs.Lists.{IsAnsweredQuery, met_in, NoneRan, ThenRan, WasCalled}

-- whether one of the graphs met a limit, or one more
met_more : (graphs : List Graph) (graph : Graph) → met_in (graphs ++ graph ∷ []) ≡ (met_in graphs || graph.limits_met)
met_more [] graph = alone graph.limits_met
  where
    alone : (b : Bool) → (b || false) ≡ b
    alone true = refl
    alone false = refl
met_more (first ∷ graphs) graph = over first.limits_met (met_more graphs graph)
  where
    over : (b : Bool) → met_in (graphs ++ graph ∷ []) ≡ (met_in graphs || graph.limits_met)
        → (b || met_in (graphs ++ graph ∷ [])) ≡ ((b || met_in graphs) || graph.limits_met)
    over true h = refl
    over false h = h

module _ {D C V P F I R A T : Type 0} {G : DelegateOf D C V P F I R A T} {X : CxOf C I R A T} {same : I → I → Bool}
    {same_result : R → R → Bool} {noop : Bool} where
  -- ---- one query's call

  module _ {old new : Cache C I R T} {from to : ℕ} {query : ℕ × I × PathKind} {answer : Result (Answer R) (Fault I R)}
      {graph : Graph} (ran : HasRun G X same same_result (call_for noop query old from answer graph new to)) where
    run_has_answer : HasAnswer G X same new query answer
    run_has_answer =
        let keeps = run_keeps ran in
        let grounded = run_is_grounded ran in
        record {
          plain = subst (λ cx. (n : ℕ) → IsPlainTo (G.script cx) n query.1 → n ≤ query.0
              → IfOk answer (λ a. IsPlainValue (G.script cx) n query.1 a.result))
              (sym keeps.context) (run_is_plain ran);
          plain_faults = subst
              (λ cx. (n : ℕ) → IsPlainTo (G.script cx) n query.1 → n ≤ query.0 → IfErr answer (λ fault. fault ≡ Memory))
              (sym keeps.context) (run_fails_plainly ran);
          has_graph = grounded.has_graph;
          faults = IfErr-weaker answer (IsCaused G X same new) (HadCause G X same new)
              (λ fault caused. record {
                before = new;
                same_context = refl;
                kept_results = KeepsResults-same same new.results new.results refl;
                kept = KeepsFinished-same new.nodes new.nodes refl;
                caused = caused;
              })
              grounded.caused;
        }

    only : (goals : List I) → AreEnclosed G X same old.cx goals (query ∷ [])
        → IsEnclosed (G.script old.cx) goals query.0 query.1
    only goals all = All-head (λ (q : ℕ × I × PathKind). IsEnclosed (G.script old.cx) goals q.0 q.1) query [] all

    run_has_limits : HasLimits G X same graph.limits_met (query ∷ []) old new from to (answer ∷ [])
    run_has_limits = record {
      decisive = λ decisive all unmet. run_stores_definite ran decisive all unmet;
      decided = λ decisive all unmet at given is. only_answer answer (λ a. IsDefinite (verdicts X) a.result)
          (run_is_definite ran decisive all unmet) at given is;
      faults = λ decisive one all unmet at fault is.
          only_fault answer (λ told. IsMemoryOrOrder told) (run_fails_decided ran decisive all unmet one) at fault is;
      no_overflow = λ counted none unmet. run_stores_none ran counted none refl unmet;
      price =
          λ counted none met. record { at = 0; query = query; is_at = refl; paid = run_pays ran counted none refl met };
      enclosed = λ goals all none. run_refuses_none ran goals (only goals all) none;
      by_runs = λ goals all none counted met. run_ends_by_runs ran goals (only goals all) none counted refl met;
    }

  -- ---- all of them

  module _ {old : Cache C I R T} {from : ℕ} where
    pub all_keep :
        {queries : List (ℕ × I × PathKind)} {answers : List (Result (Answer R) (Fault I R))}
        {graphs : List Graph} {new : Cache C I R T} {to : ℕ}
        → AllRan G X same same_result noop old from queries answers graphs new to → KeepsAll same old new
    all_keep NoneRan = record {
      context = refl;
      results = KeepsResults-same same old.results old.results refl;
      finished = KeepsFinished-same old.nodes old.nodes refl;
      nodes = λ at node there. there;
    }
    all_keep (ThenRan queries answers graphs mid between query answer graph new to ran last) =
        let first = all_keep ran in
        let then = run_keeps last in
        record {
          context = then.context ∙ first.context;
          results = KeepsResults-then same old.results mid.results new.results first.results then.results;
          finished = KeepsFinished-then old.nodes mid.nodes new.nodes first.finished then.finished;
          nodes = λ at node there. then.nodes at node (first.nodes at node there);
        }

    pub all_start :
        {queries : List (ℕ × I × PathKind)} {answers : List (Result (Answer R) (Fault I R))}
        {graphs : List Graph} {new : Cache C I R T} {to : ℕ}
        → AllRan G X same same_result noop old from queries answers graphs new to → from ≤ to
    all_start NoneRan = omega arith
    all_start (ThenRan queries answers graphs mid between query answer graph new to ran last) =
        omega (arith, all_start ran, last.at_least)

    pub all_within :
        {queries : List (ℕ × I × PathKind)} {answers : List (Result (Answer R) (Fault I R))} {graphs : List Graph}
        {new : Cache C I R T} {to : ℕ} → AllRan G X same same_result noop old from queries answers graphs new to
        → to ≤ from + frames_for (max 1 G.FIXPOINT_STEP_LIMIT) (G.width old.cx) queries
    all_within NoneRan = omega arith
    all_within (ThenRan queries answers graphs mid between query answer graph new to ran last) =
        let runs = max 1 G.FIXPOINT_STEP_LIMIT in
        let now : to ≤ between + frames_within runs (G.width old.cx) query.0 = subst
        (λ cx. to ≤ between + frames_within runs (G.width cx) query.0) (all_keep ran).context (run_is_within last) in
        let sum =
        sum_by-append (λ (q : ℕ × I × PathKind). frames_within runs (G.width old.cx) q.0) queries (query ∷ []) in
        omega (arith, all_within ran, now, sum)

    pub all_answered :
        {queries : List (ℕ × I × PathKind)} {answers : List (Result (Answer R) (Fault I R))} {graphs : List Graph}
        {new : Cache C I R T} {to : ℕ} → AllRan G X same same_result noop old from queries answers graphs new to
        → AllZip (HasAnswer G X same new) queries answers
    all_answered NoneRan = tt
    all_answered (ThenRan queries answers graphs mid between query answer graph new to ran last) =
        let keeps = run_keeps last in
        AllZip-more (HasAnswer G X same new) queries answers query answer
        (AllZip-weaker (HasAnswer G X same mid) (HasAnswer G X same new)
        (HasAnswer-kept G X same mid new keeps.context keeps.results keeps.finished) queries answers (all_answered ran))
        (run_has_answer last)

    pub all_shown :
        {queries : List (ℕ × I × PathKind)} {answers : List (Result (Answer R) (Fault I R))} {graphs : List Graph}
        {new : Cache C I R T} {to : ℕ} → AllRan G X same same_result noop old from queries answers graphs new to
        → AllZip (IsAnsweredQuery G X same new) queries answers
    all_shown NoneRan = tt
    all_shown (ThenRan queries answers graphs mid between query answer graph new to ran last) =
        AllZip-weaker (HasAnswer G X same new) (IsAnsweredQuery G X same new)
        (answer_is_shown G X same new last.is_sound.runs (last.laws.clash new.cx) (last.laws.yes_is_proved new.cx)
        (last.laws.no_is_refuted new.cx) last.laws.one_sort)
        (queries ++ query ∷ []) (answers ++ answer ∷ [])
        (all_answered (ThenRan queries answers graphs mid between query answer graph new to ran last))

    pub all_have_limits :
        {queries : List (ℕ × I × PathKind)} {answers : List (Result (Answer R) (Fault I R))} {graphs : List Graph}
        {new : Cache C I R T} {to : ℕ} → AllRan G X same same_result noop old from queries answers graphs new to
        → HasLimits G X same (met_in graphs) queries old new from to answers
    all_have_limits NoneRan = no_limits G X same old from
    all_have_limits (ThenRan queries answers graphs mid between query answer graph new to ran last) =
        subst (λ met. HasLimits G X same met (queries ++ query ∷ []) old new from to (answers ++ answer ∷ []))
        (sym (met_more graphs graph))
        (limits_more G X same queries query old mid new from between to answers answer (met_in graphs) graph.limits_met
        (all_keep ran).context (all_start ran) last.at_least (all_have_limits ran) (run_has_limits last))

    pub all_require_within :
        {queries : List (ℕ × I × PathKind)} {answers : List (Result (Answer R) (Fault I R))} {graphs : List Graph}
        {new : Cache C I R T} {to : ℕ} → AllRan G X same same_result noop old from queries answers graphs new to
        → (depth : ℕ) → All (λ (q : ℕ × I × PathKind). q.0 ≤ depth) queries
        → StoresWithin same depth old.results new.results
    all_require_within NoneRan = λ depth fit. StoresWithin-same same depth old.results
    all_require_within (ThenRan queries answers graphs mid between query answer graph new to ran last) = λ depth fit.
        let each = each_of (λ (q : ℕ × I × PathKind). q.0 ≤ depth) queries query fit in
        StoresWithin-then same depth query.0 old.results mid.results new.results each.1
        (all_require_within ran depth each.0) (run_requires_within last)

    pub all_are_recorded :
        {queries : List (ℕ × I × PathKind)} {answers : List (Result (Answer R) (Fault I R))} {graphs : List Graph}
        {new : Cache C I R T} {to : ℕ} → AllRan G X same same_result noop old from queries answers graphs new to
        → noop ≡ false → new.results ≡ old.results
    all_are_recorded NoneRan = λ records. refl
    all_are_recorded (ThenRan queries answers graphs mid between query answer graph new to ran last) =
        λ records. run_is_recorded last records ∙ all_are_recorded ran records

    pub all_called :
        {queries : List (ℕ × I × PathKind)} {answers : List (Result (Answer R) (Fault I R))} {graphs : List Graph}
        {new : Cache C I R T} {to : ℕ} → AllRan G X same same_result noop old from queries answers graphs new to
        → AllZip (WasCalled G X same same_result noop) queries answers
    all_called NoneRan = tt
    all_called (ThenRan queries answers graphs mid between query answer graph new to ran last) =
        AllZip-more (WasCalled G X same same_result noop) queries answers query answer (all_called ran)
        (record { old = mid; from = between; graph = graph; new = new; to = to; ran = last })
