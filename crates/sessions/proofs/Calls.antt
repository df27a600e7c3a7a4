-- A call that was made on a new graph, with a new builder, as it is told.
use Rattle.std.proofs.Common.{◌≡◌, ◌∙◌, Bool, IfSome, None, Ok, Option, Result, Some, ap, false, subst, sym, true, ℕ}
use Rattle.search_context.specs.declared.context.Answer.{Answer}
use Rattle.sessions.specs.Below.{Cache, CxOf, DelegateOf, Graph, HasRun, IsPaid, Outcome}
use Rattle.sessions.specs.Questions.{call_on, graph_of}

pub IfSome-weaker : {T : Type 0} (o : Option T) (P Q : T → Type 0) → ((x : T) → P x → Q x) → IfSome o P → IfSome o Q
IfSome-weaker None P Q f h = tt
IfSome-weaker (Some x) P Q f h = f x h

-- equal answers
pub same_answer : {E : Type 0} (r s : Result (Answer Outcome) E) (a b : Answer Outcome) → r ≡ s
    → r ≡ Ok a → s ≡ Ok b → a ≡ b
same_answer r s a b e x y = cc

-- a price under equal numbers
pub paid : (runs root depth last old before new started : ℕ) → root ≡ depth → old ≡ before → started ≡ new
    → IsPaid runs root last old new → IsPaid runs depth last before started
paid runs root depth last old before new started r o s h = subst (λ n. IsPaid runs depth last before n) (sym s)
    (subst (λ n. IsPaid runs depth last n new) o (subst (λ n. IsPaid runs n last old new) r h))

pub call_told : {D C V P F A T : Type 0} (G : DelegateOf D C V P F ℕ Outcome A T) (X : CxOf C ℕ Outcome A T)
    (same : ℕ → ℕ → Bool) (same_result : Outcome → Outcome → Bool)
    (goal depth : ℕ) (before after : Cache C ℕ Outcome T) (noop : Bool) (graph left : Graph)
    (from to started : ℕ) (answer : Answer Outcome) (limits : Bool)
    → noop ≡ true → graph ≡ graph_of depth false → from ≡ 0 → started ≡ to → limits ≡ left.limits_met
    → HasRun G X same same_result (call_on noop goal before graph from answer after left to)
    → HasRun G X same same_result (call_on true goal before (graph_of depth false) 0 answer after
    (graph_of depth limits) started)
call_told G X same same_result goal depth before after noop graph left from to started answer limits
    is_noop is_graph none counted met ran =
    let new : Graph = graph_of depth false in
    subst (λ m. HasRun G X same same_result (call_on true goal before new 0 answer after (graph_of depth m) started))
    (sym met)
    (subst (λ n. HasRun G X same same_result (call_on true goal before new 0 answer after
    (graph_of depth left.limits_met) n)) (sym counted)
    (subst (λ d. HasRun G X same same_result
    (call_on true goal before new 0 answer after (graph_of d left.limits_met) to))
    (ran.same_depth ∙ ap (λ g. g.root_depth) is_graph)
    (subst (λ n. HasRun G X same same_result (call_on true goal before new n answer after left to)) none
    (subst (λ g. HasRun G X same same_result (call_on true goal before g from answer after left to)) is_graph
    (subst (λ b. HasRun G X same same_result (call_on b goal before graph from answer after left to)) is_noop ran)))))
