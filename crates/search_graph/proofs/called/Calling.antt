-- What a call comes to, whatever is known of it; and what it keeps.
use Rattle.std.proofs.Common.{◌≡◌, Bool, true, false, None, Result, Ok, Err, IfOk, IfErr, IfSome, refl}
use Rattle.graph_nodes.proofs.Definites.{definite_is_whole}
use Rattle.search_context.specs.declared.context.Answer.{Answer}
use Rattle.search_graph.proofs.called.Answering.{evaluated_evaluates, evaluated_is_grounded, evaluated_keeps}
use Rattle.search_graph.proofs.turns.Loops.{call_of, call_begins, some_call_begins}
use Rattle.search_graph.specs.Below.{AreDefinite, Begins, Call, CxOf, DelegateOf, EndsWith, Fault, HaveNoOverflow}
use Rattle.search_graph.specs.Below.{IsProved, IsRefuted, IsWhole, StopsWith, verdicts}
use Rattle.search_graph.specs.Called.{begun, Called, found_in, HasRun}
use Rattle.search_graph.specs.Calls.{Evaluates, IsGrounded, IsOfStored, KeepsAll}
use Rattle.search_rules.proofs.answers.Shown.{yes_is_proved, no_is_refuted, neither_is_none}
use Rattle.search_rules.proofs.moves.Questions.{if_ok_then}
use Rattle.search_rules.proofs.records.EarlierNodes.{nodes_of_earlier}
use Rattle.search_state.specs.declared.evaluation.Evaluation.{Evaluation}

-- what holds of an answer and of a fault holds of both
either_way : {A E P : Type 0} (result : Result A E) {Q : A → Type 0} {S : E → Type 0} → IfOk result Q → IfErr result S
    → ((answer : A) → Q answer → P) → ((fault : E) → S fault → P) → P
either_way (Ok answer) ended stopped at_end at_stop = at_end answer ended
either_way (Err fault) ended stopped at_end at_stop = at_stop fault stopped

-- what holds of each fault holds of the one that there is
pub if_err_then : {A E : Type 0} (result : Result A E) {S P : E → Type 0} → IfErr result S
    → ((fault : E) → S fault → P fault) → IfErr result P
if_err_then (Ok answer) h from = tt
if_err_then (Err fault) h from = from fault h

module _ {D C V P F I R A T : Type 0} {G : DelegateOf D C V P F I R A T} {X : CxOf C I R A T} {same : I → I → Bool}
    {same_result : R → R → Bool} {call : Called C I R A T} (ran : HasRun G X same same_result call) where
  -- the evaluation that the call left
  abbrev pub left_by : Evaluation D C V P F I R A T
  left_by = record ran.left { limits_met = call.after.graph.limits_met }

  -- its answer is stored where its goal was looked for and is in no scope, and is the one that is compared with
  abbrev pub IsToStore : Type 0
  IsToStore = (call.looks_up ≡ true) × (G.scoped call.before.cache.cx call.goal ≡ false)

  abbrev pub IsExpectedOf : R → Type 0
  IsExpectedOf = IsOfStored call.looks_up (G.scoped call.before.cache.cx call.goal)
      (found_in same call.before.cache call.goal call.before.graph.root_depth)

  pub run_evaluates : Evaluates G X same call.before.cache.cx IsToStore IsExpectedOf call.goal call.before.cache
      (begun G X same same_result call.before.graph ran.drafts) call.before.starts call.result
      call.after.cache left_by call.after.starts
  run_evaluates = evaluated_evaluates ran.laws ran.at_outset ran.was_sound.runs ran.was_sound.results ran.evaluated

  pub run_is_grounded : IsGrounded G X same call.goal call.after.cache call.result
  run_is_grounded = evaluated_is_grounded ran.laws ran.at_outset ran.was_sound.runs ran.was_sound.results ran.evaluated

  pub run_keeps : KeepsAll same call.before.cache call.after.cache
  run_keeps =
      let keeps = evaluated_keeps ran.laws ran.at_outset ran.was_sound.runs ran.was_sound.results ran.evaluated in
      record {
        context = keeps.context;
        results = keeps.results;
        finished = keeps.nodes;
        nodes = nodes_of_earlier (begun G X same same_result call.before.graph ran.drafts).goals call.before.cache.nodes
            call.after.cache.nodes refl keeps.earlier;
      }

  -- ---- what is known of the call

  -- This holds of each call that begins so.
  abbrev pub BeginsAs : Call I → Type 0
  BeginsAs known = Begins G X call.before.cache.cx same known call.goal call.before.graph.root_depth call.before.starts
      call.before.graph.limits_met call.before.cache.results

  -- of which it is known that no stored result met overflow, or that each is yes or no
  abbrev pub known_as : (calm definite : Bool) → Call I
  known_as calm definite = call_of call.goal call.before.graph.root_depth call.before.starts
      call.before.graph.limits_met calm definite ran.fits

  pub plainly : BeginsAs (known_as false false)
  plainly = some_call_begins G X call.before.cache.cx same call.goal call.before.graph.root_depth call.before.starts
      call.before.graph.limits_met ran.fits call.before.cache.results

  begins_as : (calm definite : Bool) → (calm ≡ true → HaveNoOverflow same call.before.cache.results)
      → (definite ≡ true → AreDefinite (verdicts X) same call.before.cache.results) → BeginsAs (known_as calm definite)
  begins_as = call_begins G X call.before.cache.cx same call.goal call.before.graph.root_depth call.before.starts
      call.before.graph.limits_met ran.fits call.before.cache.results

  pub calmly : HaveNoOverflow same call.before.cache.results → BeginsAs (known_as true false)
  calmly none = begins_as true false (λ is. none) (λ never. absurd cc)

  pub definitely : AreDefinite (verdicts X) same call.before.cache.results → BeginsAs (known_as false true)
  definitely all = begins_as false true (λ never. absurd cc) (λ is. all)

  -- its answer ends it, or its fault stops it
  pub at_end : (known : Call I) → BeginsAs known → {P : Answer R → Type 0}
      → ((answer : Answer R) → EndsWith G X same call.before.cache.cx IsToStore IsExpectedOf known answer
      call.after.cache left_by call.after.starts → P answer) → IfOk call.result P
  at_end known begins from = if_ok_then call.result _ _ (run_evaluates.ended known begins) from

  pub at_stop : (known : Call I) → BeginsAs known → {P : Fault I R → Type 0} → ((fault : Fault I R)
      → StopsWith G X same call.before.cache.cx known fault call.after.cache left_by call.after.starts → P fault)
      → IfErr call.result P
  at_stop known begins from = if_err_then call.result (run_evaluates.stopped known begins) from

  pub either : (known : Call I) → BeginsAs known → {P : Type 0}
      → ((answer : Answer R) → EndsWith G X same call.before.cache.cx IsToStore IsExpectedOf known answer
      call.after.cache left_by call.after.starts → P) → ((fault : Fault I R)
      → StopsWith G X same call.before.cache.cx known fault call.after.cache left_by call.after.starts → P) → P
  either known begins ends stops =
      either_way call.result (run_evaluates.ended known begins) (run_evaluates.stopped known begins) ends stops

  -- ---- an answer has its graph

  pub run_proves : IfOk call.result
      (λ answer. X.is_yes answer.result ≡ true → IsProved X call.after.cache call.goal answer.node)
  run_proves = if_ok_then call.result _ _ run_is_grounded.has_graph
      (λ answer graph is. yes_is_proved G X call.after.cache ran.is_sound.runs (ran.laws.clash call.after.cache.cx)
      call.goal answer.result answer.node graph (ran.laws.yes_is_proved call.after.cache.cx) is)

  pub run_refutes : IfOk call.result
      (λ answer. X.is_no answer.result ≡ true → IsRefuted X call.after.cache call.goal answer.node)
  run_refutes = if_ok_then call.result _ _ run_is_grounded.has_graph (λ answer graph is.
      no_is_refuted G X call.after.cache ran.is_sound.runs (ran.laws.clash call.after.cache.cx) call.goal answer.result
      answer.node graph (ran.laws.no_is_refuted call.after.cache.cx) (ran.laws.one_sort answer.result) is)

  pub run_names_none : IfOk call.result
      (λ answer. X.is_yes answer.result ≡ false → X.is_no answer.result ≡ false → answer.node ≡ None)
  run_names_none = if_ok_then call.result _ _ run_is_grounded.has_graph
      (λ answer graph not_yes not_no. neither_is_none G X call.after.cache ran.is_sound.runs
      (ran.laws.clash call.after.cache.cx) call.goal answer.result answer.node graph not_yes not_no)

  pub run_is_whole : IfOk call.result (λ answer. IfSome answer.node (λ node. IsWhole call.after.cache.nodes node.0))
  run_is_whole = if_ok_then call.result _ _ run_is_grounded.has_graph
      (λ answer graph. definite_is_whole (verdicts X) call.after.cache.nodes call.goal answer.result answer.node graph)
