-- A reply that fits is sorted as the record wants it, and keeps the goals justified.
use Rattle.std.proofs.Common.{◌≡◌, ◌≢◌, ℕ, Bool, true, false, IsTrue, List, [], ◌∷◌, length, Option, None, Some, IsSome}
use Rattle.std.proofs.Common.{refl, sym, ap, ◌∙◌, subst, inl, inr, if◌then◌else◌}
use Rattle.std.specs.Option.{IsSomeAnd}
use Rattle.open_graphs.specs.Graph as theory
use Rattle.graph_nodes.proofs.Definites.{yes_verdict}
use Rattle.search_rules.specs.Below.{DelegateOf, CxOf, PathKind, Verdict, Yes, No, Neither, NodeId, Request, Evaluate}
use Rattle.search_rules.specs.Below.{Reply, Answer, OpenGoal, StackEntry, CacheNode, verdict_of, Fits, IsFitting}
use Rattle.search_rules.specs.Below.{request_after, Run, Received, DefiniteAnswer, RunRecord, received, answered}
use Rattle.search_rules.specs.Below.{IsReplySorted, KeepsAnswer, open_number, edge_to, IsVerdict}
use Rattle.search_rules.specs.Below.{verdicts, verdict_shape}
use Rattle.search_rules.specs.Words.{AreJustified, MayAnswer, IsFit, run_of, runs_of, Call, IsWaiting}
use Rattle.lean_runs.proofs.Verdicts.{in_theory_definite, verdict_is}
use Rattle.search_rules.proofs.justified.Justified.{answered_is_justified}
use Rattle.search_rules.proofs.moves.Moves.{can_step_record}
use Rattle.run_records.proofs.ProgressLaws.{answers_received}

-- ---- verdicts

not_neither : {v : theory.Verdict} → v ≡ theory.Yes → v ≢ theory.Neither
not_neither is e = let clash : theory.Neither ≡ theory.Yes = sym e ∙ is in cc

no_definite_at : (y n : Bool) → IsTrue n
    → (if y then theory.Yes else if n then theory.No else theory.Neither) ≢ theory.Neither
no_definite_at true n is e = cc
no_definite_at false true is e = cc
no_definite_at false false is e = cc

is_some_of : {A : Type 0} (o : Option A) (P : A → Type 0) → IsSomeAnd o P → IsSome o
is_some_of None P h = absurd h
is_some_of (Some x) P h = refl

-- only a question is answered
question_of_answer : {I R : Type 0} (request : Option (Request I R)) (r : R) → Fits request (Answer r)
    → (kind : PathKind) × (goal : I) × (request ≡ Some (Evaluate kind goal))
question_of_answer (Some (Evaluate kind goal)) r fits = (kind, goal, refl)
question_of_answer request r fits = absurd fits

-- a reply that is no definite answer adds no answer
pub unanswered : {I R : Type 0} (p : RunRecord I R) (request : Option (Request I R)) (target : Option NodeId)
    → (answered p request Neither target).answers ≡ p.answers
unanswered p (Some (Evaluate kind goal)) target = refl
unanswered p request target = refl

module _ {D C V P F I R A T : Type 0} (G : DelegateOf D C V P F I R A T) (X : CxOf C I R A T) (cx : C)
    (nodes : List (CacheNode I R)) where
  abbrev Goals : Type 0
  Goals = List (OpenGoal C F I R A T)

  sorted_at : (s : OpenGoal C F I R A T) (below : Goals) (earlier : List (Reply R)) (reply : Reply R)
      (node : Option NodeId) (v : Verdict) → s.1.progress.request ≡ request_after (G.script cx s.0.input) earlier
      → IsFitting (G.script cx s.0.input) (reply ∷ earlier) → IsFit (verdicts X) nodes (runs_of (s ∷ below)) reply node
      → IsVerdict (verdicts X) reply v → IsReplySorted (verdicts X) reply v node
  sorted_at s below earlier (Answer r) node v request fits fit verdict =
      let asked = question_of_answer (request_after (G.script cx s.0.input) earlier) r fits.0 in
      let asks : s.1.progress.request ≡ Some (Evaluate asked.0 asked.1) = request ∙ asked.2 in
      record {
        yes = verdict.0;
        no = verdict.1;
        yes_node = λ y.
            is_some_of node _ (fit r asked.0 asked.1 refl asks (not_neither (yes_verdict (X.is_yes r) (X.is_no r) y)));
        no_node = λ n. is_some_of node _ (fit r asked.0 asked.1 refl asks (no_definite_at (X.is_yes r) (X.is_no r) n));
      }
  sorted_at s below earlier reply node v request fits fit verdict = tt

  -- a reply that fits the goals is sorted
  pub replies_sorted : (call : Call I) (given : Received R) (goals : Goals) (starts : ℕ) (met : Bool)
      → IsWaiting G X cx call given.reply goals starts met
      → IsFit (verdicts X) nodes (runs_of goals) given.reply given.node → (v : Verdict)
      → IsVerdict (verdicts X) given.reply v → IsReplySorted (verdicts X) given.reply v given.node
  replies_sorted call given [] starts met h fit v is = absurd h.waits.mirror
  replies_sorted call given (s ∷ below) starts met h fit v is =
      let can = can_step_record G X cx call given.reply s below starts met h in
      sorted_at s below can.0 given.reply given.node v can.1.1.request_is can.2 fit is

  -- ---- the step keeps the goals justified

  -- an answer of the theory's verdict
  answered_at : (entry : StackEntry C I R A T) (run : Run C F I R A T) (r : R) (node : Option NodeId) (v : Verdict)
      (below : Goals) → v ≢ Neither → IsVerdict (verdicts X) (Answer r) v
      → IsFit (verdicts X) nodes (runs_of ((entry, run) ∷ below)) (Answer r) node
      → AreJustified (verdicts X) nodes (runs_of ((entry, run) ∷ below)) → (answers : List (DefiniteAnswer I))
      → KeepsAnswer run.progress v node answers
      → AreJustified (verdicts X) nodes (record (run_of (entry, run)) { answers = answers } ∷ runs_of below)
  answered_at entry run r node v below definite verdict fit h answers keeps =
      let same : verdict_shape v ≡ verdict_of (verdicts X) r =
      verdict_is (verdicts X) r v verdict.0 verdict.1 definite in
      let never : verdict_of (verdicts X) r ≢ theory.Neither = λ e. in_theory_definite v definite (same ∙ e) in
      let may = subst (λ (o : Option NodeId). IsSomeAnd o (λ a. MayAnswer (verdicts X) nodes (run_of (entry, run))
      (runs_of below) (verdict_of (verdicts X) r) keeps.kind keeps.input a.0))
      keeps.target_is (fit r keeps.kind keeps.input refl keeps.was never) in
      subst (λ (l : List (DefiniteAnswer I)).
      AreJustified (verdicts X) nodes (record (run_of (entry, run)) { answers = l } ∷ runs_of below)) (sym keeps.kept)
      (answered_is_justified (verdicts X) nodes
      (record { edge = edge_to keeps.kind keeps.input keeps.node; verdict = v; candidate = open_number run.progress })
      (run_of (entry, run)) (runs_of below)
      (ap (λ q. if (answered run.progress q Neither None).is_open
      then Some (length (answered run.progress q Neither None).ignored) else None) (sym keeps.was))
      (subst (λ w. MayAnswer (verdicts X) nodes (run_of (entry, run)) (runs_of below) w keeps.kind
      keeps.input keeps.node.0) (sym same) may) h)

  same_answers :
      (entry : StackEntry C I R A T) (run : Run C F I R A T) (below : Goals) (answers : List (DefiniteAnswer I))
      → answers ≡ run.progress.answers → AreJustified (verdicts X) nodes (runs_of ((entry, run) ∷ below))
      → AreJustified (verdicts X) nodes (record (run_of (entry, run)) { answers = answers } ∷ runs_of below)
  same_answers entry run below answers is h = subst (λ (l : List (DefiniteAnswer I)).
      AreJustified (verdicts X) nodes (record (run_of (entry, run)) { answers = l } ∷ runs_of below)) (sym is) h

  definite_at_reply : (entry : StackEntry C I R A T) (run : Run C F I R A T) (reply : Reply R) (node : Option NodeId)
      (v : Verdict) (below : Goals) → v ≢ Neither → IsVerdict (verdicts X) reply v
      → IsFit (verdicts X) nodes (runs_of ((entry, run) ∷ below)) reply node
      → AreJustified (verdicts X) nodes (runs_of ((entry, run) ∷ below)) → AreJustified (verdicts X) nodes
      (record (run_of (entry, run)) { answers = (received run.progress reply v node).answers } ∷ runs_of below)
  definite_at_reply entry run (Answer r) node v below definite verdict fit h =
      elim (answers_received run.progress v (Answer r) node) [
        | inl same ↦ same_answers entry run below (received run.progress (Answer r) v node).answers same h
        | inr keeps ↦ answered_at entry run r node v below definite verdict fit h
            (received run.progress (Answer r) v node).answers keeps
      ]
  definite_at_reply entry run reply node v below definite verdict fit h = absurd (definite verdict)

  -- the reply is on record
  pub replied_is_justified : (entry : StackEntry C I R A T) (run : Run C F I R A T) (reply : Reply R)
      (node : Option NodeId) (v : Verdict) (below : Goals)
      → IsVerdict (verdicts X) reply v → IsFit (verdicts X) nodes (runs_of ((entry, run) ∷ below)) reply node
      → AreJustified (verdicts X) nodes (runs_of ((entry, run) ∷ below)) → AreJustified (verdicts X) nodes
      (record (run_of (entry, run)) { answers = (received run.progress reply v node).answers } ∷ runs_of below)
  replied_is_justified entry run reply node Yes below verdict fit h =
      definite_at_reply entry run reply node Yes below (λ e. cc) verdict fit h
  replied_is_justified entry run reply node No below verdict fit h =
      definite_at_reply entry run reply node No below (λ e. cc) verdict fit h
  replied_is_justified entry run reply node Neither below verdict fit h = same_answers entry run below
      (received run.progress reply Neither node).answers (unanswered run.progress run.progress.request node) h
