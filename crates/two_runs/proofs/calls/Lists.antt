-- Where two runs of each goal are enough for a list of queries: for none, for one more, and so for all of them.
use Rattle.std.proofs.Common.{[], All, ap, Bool, Contains, IfErr, IfOk, inl, inr, List, refl, Result, slice_get, Some}
use Rattle.std.proofs.Common.{subst, suc, sym, zero, ℕ, ◌++◌, ◌∷◌, ◌≡◌}
use Rattle.std.proofs.lemmas.List.Elements.{All-cons, All-head, All-nil}
use Rattle.search_context.specs.declared.context.Answer.{Answer}
use Rattle.two_runs.specs.Below.{AreDefinite, Cache, CxOf, DelegateOf, Fault, HaveNoOverflowOf, IsDefinite}
use Rattle.two_runs.specs.Below.{IsMemoryOrOrder, PathKind, verdicts}
use Rattle.two_runs.specs.Enough.{TakesTwoRuns, TwoRunsAreEnough}
use Rattle.search_graph.proofs.lists.ListLimits.{at_or_last, each_of}
use Rattle.two_runs.specs.Evaluations.{IsSettledStore}
use Rattle.two_runs.specs.Settled.{NeedsTwoRuns}
use Rattle.search_graph.proofs.called.Calling.{run_keeps}
use Rattle.search_graph.proofs.called.Decided.{run_is_definite}
use Rattle.two_runs.proofs.calls.Called.{is_done}
use Rattle.search_graph.specs.Called.{HasRun}
use Rattle.search_graph.specs.Graph.{Graph}
use Rattle.search_graph.specs.Lists.{AllRan, call_for, NoneRan, ThenRan}

-- what holds of an answer and of a fault holds of the only one
only_is : {A E : Type 0} (P : A → Type 0) (Q : E → Type 0) (r : Result A E) → IfOk r P → IfErr r Q
    → (at : ℕ) (answer : Result A E) → slice_get (r ∷ []) at ≡ Some answer → IfOk answer P × IfErr answer Q
only_is P Q r h k zero answer is = let same : r ≡ answer = cc in subst (λ s. IfOk s P × IfErr s Q) same (h, k)
only_is P Q r h k (suc n) answer is = absurd cc

module _ {D C V P F I R A T : Type 0} (G : DelegateOf D C V P F I R A T)
    (X : CxOf C I R A T) (same : I → I → Bool) where
  -- two runs stay enough over a later cache of the same context
  pub enough_later : (goals : List I) (old new : Cache C I R T) (depth : ℕ) (goal : I) (noop : Bool) → new.cx ≡ old.cx
      → HaveNoOverflowOf (Contains goals) same new.results → AreDefinite (verdicts X) same new.results
      → IsSettledStore G X same old.cx goals new.nodes new.results
      → TwoRunsAreEnough G X same goals old depth goal noop → TwoRunsAreEnough G X same goals new depth goal noop
  enough_later goals old new depth goal noop context none definite settled enough = record {
    needs = subst (λ cx. NeedsTwoRuns G X cx goals depth goal noop) (sym context) enough.needs;
    no_overflow = none;
    definite = definite;
    settled = subst (λ cx. IsSettledStore G X same cx goals new.nodes new.results) (sym context) settled;
  }

  pub no_runs : (noop : Bool) (cache : Cache C I R T) → TakesTwoRuns G X same noop [] cache cache []
  no_runs noop cache = record {
    stays = λ goals depth goal all enough. enough;
    answers = λ goals at answer all is. absurd cc;
  }

  pub runs_more : (noop : Bool) (queries : List (ℕ × I × PathKind)) (query : ℕ × I × PathKind)
      (old mid new : Cache C I R T) (answers : List (Result (Answer R) (Fault I R)))
      (answer : Result (Answer R) (Fault I R))
      → TakesTwoRuns G X same noop queries old mid answers
      → TakesTwoRuns G X same noop (query ∷ []) mid new (answer ∷ [])
      → TakesTwoRuns G X same noop (queries ++ query ∷ []) old new (answers ++ answer ∷ [])
  runs_more noop queries query old mid new answers answer first then = record {
    stays = λ goals depth goal all enough.
        let each =
        each_of (λ (q : ℕ × I × PathKind). TwoRunsAreEnough G X same goals old q.0 q.1 noop) queries query all in
        then.stays goals depth goal (now goals each.0 each.1) (first.stays goals depth goal each.0 enough);
    answers = λ goals at given all is.
        let each =
        each_of (λ (q : ℕ × I × PathKind). TwoRunsAreEnough G X same goals old q.0 q.1 noop) queries query all in
        elim (at_or_last answers answer at given is) [
          | inl there ↦ first.answers goals at given each.0 there
          | inr same_answer ↦ then.answers goals 0 given (now goals each.0 each.1) (ap Some same_answer)
        ];
  }
    where
      now : (goals : List I) → All (λ (q : ℕ × I × PathKind). TwoRunsAreEnough G X same goals old q.0 q.1 noop) queries
          → TwoRunsAreEnough G X same goals old query.0 query.1 noop
          → All (λ (q : ℕ × I × PathKind). TwoRunsAreEnough G X same goals mid q.0 q.1 noop) (query ∷ [])
      now goals all enough =
          All-cons (λ (q : ℕ × I × PathKind). TwoRunsAreEnough G X same goals mid q.0 q.1 noop) query []
          (first.stays goals query.0 query.1 all enough)
          (All-nil (λ (q : ℕ × I × PathKind). TwoRunsAreEnough G X same goals mid q.0 q.1 noop))

module _ {D C V P F I R A T : Type 0} {G : DelegateOf D C V P F I R A T} {X : CxOf C I R A T} {same : I → I → Bool}
    {same_result : R → R → Bool} {noop : Bool} where
  -- ---- one query's call

  module _ {old new : Cache C I R T} {from to : ℕ} {query : ℕ × I × PathKind} {answer : Result (Answer R) (Fault I R)}
      {graph : Graph} (ran : HasRun G X same same_result (call_for noop query old from answer graph new to)) where
    here :
        (goals : List I) → All (λ (q : ℕ × I × PathKind). TwoRunsAreEnough G X same goals old q.0 q.1 noop) (query ∷ [])
        → TwoRunsAreEnough G X same goals old query.0 query.1 noop
    here goals all = All-head (λ (q : ℕ × I × PathKind). TwoRunsAreEnough G X same goals old q.0 q.1 noop) query [] all

    run_takes_two : TakesTwoRuns G X same noop (query ∷ []) old new (answer ∷ [])
    run_takes_two = record {
      stays = λ goals depth goal all enough.
          let done = is_done ran goals (here goals all) refl refl in
          enough_later G X same goals old new depth goal noop (run_keeps ran).context
          done.no_overflow done.definite done.settled enough;
      answers = λ goals at given all is.
          let first = here goals all in
          let done = is_done ran goals first refl refl in
          only_is (λ a. IsDefinite (verdicts X) a.result) (λ told. IsMemoryOrOrder told) answer
          (run_is_definite ran first.needs.decisive first.definite done.unmet) done.faults at given is;
    }

  -- ---- all of them

  module _ {old : Cache C I R T} {from : ℕ} where
    pub all_take_two :
        {queries : List (ℕ × I × PathKind)} {answers : List (Result (Answer R) (Fault I R))} {graphs : List Graph}
        {new : Cache C I R T} {to : ℕ} → AllRan G X same same_result noop old from queries answers graphs new to
        → TakesTwoRuns G X same noop queries old new answers
    all_take_two NoneRan = no_runs G X same noop old
    all_take_two (ThenRan queries answers graphs mid between query answer graph new to ran last) =
        runs_more G X same noop queries query old mid new answers answer (all_take_two ran) (run_takes_two last)
