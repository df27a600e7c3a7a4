-- What storing the answer of a goal that is done changes, and why it may fail.
use Rattle.std.proofs.Common.{◌≡◌, Bool, true, false, if◌then◌else◌, List, [], Option, None, Some, Result, Ok, Err}
use Rattle.std.proofs.Common.{IfErr, OnOk, OnErr, option_map, refl, sym, ap, ◌∙◌, subst}
use Rattle.std.specs.Cmp.{IsEquivalence}
use Rattle.search_rules.specs.Below.{DelegateOf, CxOf, Fault, Conflict, Memory, NodeId, Place, StoredResult}
use Rattle.search_rules.specs.Below.{EvaluationResult, Cache, AreRuns, AreSoundResults, HasGraph, Question, Validation}
use Rattle.search_rules.specs.Below.{Overlap, Store, stored_at, place_of, stored_from, AnswersStoring, Puts, verdicts}
use Rattle.list_lemmas.proofs.Lists.{mapped_some}
use Rattle.search_context.proofs.Rules.{KeepsRule}
use Rattle.search_rules.specs.Words.{ComesTo, Conflicts, IsCaused, IsExpected, IsShown, OutOfMemory, OtherResult}
use Rattle.search_rules.specs.Words.{OtherThanStored, StoresAnswer, Put, MayPut, Same, WithResult}
use Rattle.search_rules.specs.Results.{NotStored}
use Rattle.search_rules.proofs.answers.Shown.{yes_is_proved, no_is_refuted}

module _ {X I R A T : Type 0} (same : I → I → Bool) (old new : Store I (StoredResult I R T)) (goal : I)
    (answer : EvaluationResult X I R A T) where
  -- the answer was stored, or nothing was
  pub stored_either : {U E : Type 0} (token : T) (r : Result U E) → answer.heads ≡ []
      → OnOk r (Puts same old new goal (place_of answer) (stored_from answer token)) → OnErr r (new ≡ old)
      → StoresAnswer same old new goal answer
  stored_either token (Ok u) none puts err = Put token none puts
  stored_either token (Err e) none puts err = NotStored err

  -- with the result at the place
  pub stored_result : (place : Place) (r : R) → place_of answer ≡ place → answer.result ≡ r
      → StoresAnswer same old new goal answer → MayPut same old new goal place answer.required_depth r
  stored_result place r at is (NotStored unchanged) = Same unchanged
  stored_result place r at is (Put token none puts) = WithResult (stored_from answer token) is refl
      (subst (λ p. Puts same old new goal p (stored_from answer token)) at puts)

-- what was put is stored
pub put_is_stored : {I R T U E : Type 0} (same : I → I → Bool) (old new : Store I (StoredResult I R T))
    (goal : I) (place : Place) (s : StoredResult I R T) (r : Result U E)
    → OnOk r (Puts same old new goal place s) → OnOk r (stored_at same new goal place ≡ Some s)
put_is_stored same old new goal place s (Ok u) puts = puts.here
put_is_stored same old new goal place s (Err e) puts = tt

module _ {D C V P F I R A T : Type 0} (G : DelegateOf D C V P F I R A T) (X : CxOf C I R A T) (same : I → I → Bool)
    (cache : Cache C I R T) (runs_are : AreRuns (verdicts X) (G.script cache.cx) cache.nodes)
    (clash : (goal : I) (held failed : List (Question I)) → X.proves cache.cx goal held → X.refutes cache.cx goal failed
    → Overlap held failed) (proves : KeepsRule X.is_yes (G.script cache.cx) (X.proves cache.cx))
    (refutes : KeepsRule X.is_no (G.script cache.cx) (X.refutes cache.cx))
    (one : (r : R) → X.is_yes r ≡ true → X.is_no r ≡ false)
    (sound : AreSoundResults same (verdicts X) (G.script cache.cx) cache.nodes cache.results)
    (equal : R → R → Bool) (laws : IsEquivalence equal) where
  -- a result has its graph, if it is yes or no
  shown : (goal : I) (r : R) (node : Option NodeId)
      → HasGraph (verdicts X) cache.nodes goal r node → IsShown X cache goal node r
  shown goal r node has = record {
    is_proved = λ holds. yes_is_proved G X cache runs_are clash goal r node has proves holds;
    is_refuted = λ fails. no_is_refuted G X cache runs_are clash goal r node has refutes (one r) fails;
  }

  -- another result of the goal is stored than it came to
  conflicts : (goal : I) (place : Place) (found : R) (node : Option NodeId)
      → HasGraph (verdicts X) cache.nodes goal found node
      → ComesTo (G.script cache.cx) (G.fixpoint_overflow cache.cx) goal found → (stored : R)
      → option_map (λ s. s.result.result) (stored_at same cache.results goal place) ≡ Some stored → (stored ≡ found → ⊥)
      → Conflicts G X same cache goal stored found
  conflicts goal place found node has comes stored at differs =
      let there = mapped_some (λ (s : StoredResult I R T). s.result.result)
      (stored_at same cache.results goal place) stored at in
      record {
        place = place;
        is_stored = at;
        differs = differs;
        comes = comes;
        stored_node = there.0.node;
        stored_is = subst (IsShown X cache goal there.0.node) there.2
            (shown goal there.0.result.result there.0.node (sound goal place there.0 there.1).graph);
        found_node = node;
        found_is = shown goal found node has;
      }

  -- comparing fails since another result is stored
  pub comparing_is_caused : (goal : I) (found stored : R) (node : Option NodeId)
      → HasGraph (verdicts X) cache.nodes goal found node
      → ComesTo (G.script cache.cx) (G.fixpoint_overflow cache.cx) goal found
      → IsExpected (G.scoped cache.cx) same cache.results goal stored → equal found stored ≡ false
      → IsCaused G X same cache (Validation goal stored found)
  comparing_is_caused goal found stored node has comes expected differs =
      OtherThanStored goal stored found expected.in_scope
      (conflicts goal expected.place found node has comes stored expected.is_stored
      (λ e. let agrees : equal found stored ≡ true = ap (equal found) e ∙ laws.refl found in
      let clashes : true ≡ false = sym agrees ∙ differs in absurd cc)) refl

  conflict_at : (goal : I) (place : Place) (found : R) (node : Option NodeId)
      → HasGraph (verdicts X) cache.nodes goal found node
      → ComesTo (G.script cache.cx) (G.fixpoint_overflow cache.cx) goal found → (s : StoredResult I R T)
      → stored_at same cache.results goal place ≡ Some s → (b : Bool) → equal s.result.result found ≡ b
      → (r : Result (Unit {0}) (Fault I R))
      → r ≡ (if b then Ok tt else Err (Conflict goal s.result.result found)) → IfErr r (IsCaused G X same cache)
  conflict_at goal place found node has comes s at true agrees r is =
      subst (λ x. IfErr x (IsCaused G X same cache)) (sym is) tt
  conflict_at goal place found node has comes s at false differs r is =
      subst (λ x. IfErr x (IsCaused G X same cache)) (sym is)
      (OtherResult goal s.result.result found
      (conflicts goal place found node has comes s.result.result
      (ap (option_map (λ (t : StoredResult I R T). t.result.result)) at)
      (λ e. let agrees : equal s.result.result found ≡ true = ap (equal s.result.result) (sym e)
      ∙ laws.refl s.result.result in let clashes : true ≡ false = sym agrees ∙ differs in absurd cc)) refl)

  memory_at : (r : Result (Unit {0}) (Fault I R))
      → IfErr r (λ fault. fault ≡ Memory) → IfErr r (IsCaused G X same cache)
  memory_at (Ok u) h = tt
  memory_at (Err fault) h = OutOfMemory h

  -- storing fails for want of memory, or since another result is there
  pub storing_is_caused : (goal : I) (place : Place) (found : R) (node : Option NodeId)
      → HasGraph (verdicts X) cache.nodes goal found node
      → ComesTo (G.script cache.cx) (G.fixpoint_overflow cache.cx) goal found → (o : Option (StoredResult I R T))
      → stored_at same cache.results goal place ≡ o → (r : Result (Unit {0}) (Fault I R))
      → AnswersStoring equal goal o found r → IfErr r (IsCaused G X same cache)
  storing_is_caused goal place found node has comes None at r is = memory_at r is
  storing_is_caused goal place found node has comes (Some s) at r is =
      conflict_at goal place found node has comes s at (equal s.result.result found) refl r is

-- where nothing changed for an error
pub caused_after : {D C V P F I R A T : Type 0} (G : DelegateOf D C V P F I R A T) (X : CxOf C I R A T)
    (same : I → I → Bool) (old new : Cache C I R T) {U : Type 0} (r : Result U (Fault I R))
    → OnErr r (new ≡ old) → IfErr r (IsCaused G X same old) → IfErr r (IsCaused G X same new)
caused_after G X same old new (Ok u) unchanged h = tt
caused_after G X same old new (Err fault) unchanged h = subst (λ c. IsCaused G X same c fault) (sym unchanged) h

pub same_results : {C I R T U E : Type 0} (r : Result U E) (old new : Cache C I R T) → OnErr r (new ≡ old)
    → OnErr r (new.results ≡ old.results)
same_results (Ok u) old new unchanged = tt
same_results (Err fault) old new unchanged = ap (λ c. c.results) unchanged
