-- What changed rows leave: goals that this does not concern run as before, and ask no goal that it concerns.
use Rattle.std.proofs.Common.{◌≡◌, ◌∙◌, ◌↔◌, ℕ, Bool, true, false, IsTrue, Contains, List, [], ◌∷◌, Option, None, Some}
use Rattle.std.proofs.Common.{ap, cond, inl, inr, refl, slice_get, subst, sym}
use Rattle.std.proofs.lemmas.Bool.{false≢true}
use Rattle.path_kinds.specs.declared.path.PathKind.{PathKind}
use Rattle.search_context.specs.Rank.{AsksOnly}
use Rattle.search_context.specs.Run.{Fits}
use Rattle.search_context.specs.declared.context.Reply.TheVariants.{Answer, Begin, Noted}
use Rattle.search_context.specs.declared.context.Request.TheVariants.{EnterCandidate, Evaluate}
use Rattle.search_context.specs.declared.context.Request.TheVariants.{FinishCandidate, Ignore}
use Rattle.candidate_lists.specs.Frame.{State, asking_in, asking_next, entering_next, marked_from, state_after}
use Rattle.candidate_lists.specs.Frame.{state_with}
use Rattle.candidate_lists.specs.Frame.{with_answer, with_ignored}
use Rattle.candidate_lists.specs.Laws.Members.{Contains-from_slice_get}
use Rattle.candidate_lists.specs.Laws.Runs.{request_after-is}
use Rattle.global_cache.specs.Changed as caches
use Rattle.global_cache.specs.Changed.{KeepsOthers}
use Rattle.global_cache.specs.Store.{Store, stored_at}
use Rattle.global_cache.proofs.Changed.{HasGraph-changed}
use Rattle.graph_nodes.specs.Nodes.{AreRuns}
use Rattle.rule_arrays.specs.Changes.{IsAskedBy, IsConcerned, asks, changed}
use Rattle.rule_arrays.specs.Table.{Candidate}
use Rattle.rule_arrays.specs.declared.rows.QuestionRow.{QuestionRow}
use Rattle.rule_arrays.proofs.Deciding.{same_or_changed}
use Rattle.sessions.specs.Below.{CacheNode, HasGraph, NodeId, Outcome, Reply, Request, Table, candidates_of}
use Rattle.sessions.specs.Below.{outcome_verdicts, question_of, script_of}
use Rattle.sessions.specs.Changed.{KeepsOtherNodes, KeepsOtherResults}
use Rattle.sessions.specs.Rules.{scripts_of}

-- ---- a frame asks what one of its candidates asks

module _ (cs : List Candidate) where
  -- if this is a question, a candidate asks its goal
  abbrev IsOwn : Option (Request ℕ Outcome) → Type 0
  IsOwn request = (kind : PathKind) (goal : ℕ) → request ≡ Some (Evaluate kind goal) → IsAskedBy cs goal

  ignores : (s : State ℕ) (o : Option ℕ) → IsOwn (with_ignored s o).request
  ignores s None kind goal is = absurd cc
  ignores s (Some n) kind goal is = absurd cc

  enters : (s : State ℕ) (o : Option Candidate) → IsOwn (entering_next cs s o).request
  enters s None kind goal is = ignores s (cond s.unmarked_holds (marked_from 0 cs s.next_ignored) None) kind goal is
  enters s (Some c) kind goal is = absurd cc

  asks_next : (c : Candidate) → Contains cs c → (s : State ℕ) (o : Option QuestionRow)
      → slice_get c.questions s.question ≡ o → IsOwn (asking_next question_of c s o).request
  asks_next c has s None at kind goal is = absurd cc
  asks_next c has s (Some q) at kind goal is = record {
    candidate = c;
    is_candidate = has;
    asks = record {
      question = q;
      is_question = Contains-from_slice_get c.questions s.question q at;
      is_asked = cc;
    };
  }

  asks_in : (s : State ℕ) (o : Option Candidate) → slice_get cs s.candidate ≡ o
      → IsOwn (asking_in question_of cs s o).request
  asks_in s None at kind goal is = ignores s (cond s.unmarked_holds (marked_from 0 cs s.next_ignored) None) kind goal is
  asks_in s (Some c) at kind goal is = asks_next c (Contains-from_slice_get cs s.candidate c at) s
      (slice_get c.questions s.question) refl kind goal is

  steps : (s : State ℕ) (q : Option (Request ℕ Outcome)) (r : Reply Outcome) → Fits q r
      → IsOwn (state_with question_of cs s q r).request
  steps s None Begin fits = enters s (slice_get cs s.candidate)
  steps s (Some EnterCandidate) Noted fits = asks_in s (slice_get cs s.candidate) refl
  steps s (Some (Evaluate kind goal)) (Answer r) fits =
      asks_in (with_answer s r) (slice_get cs s.candidate) refl
  steps s (Some FinishCandidate) Noted fits = enters s (slice_get cs s.candidate)
  steps s (Some (Ignore n)) Noted fits = ignores s (cond s.unmarked_holds (marked_from 0 cs s.next_ignored) None)
  steps s _ _ fits = absurd fits

  asks_own : AsksOnly (λ _ goal. IsAskedBy cs goal) (script_of question_of cs)
  asks_own [] kind goal fits is = absurd cc
  asks_own (r ∷ earlier) kind goal fits is =
      let s = state_after question_of cs earlier in
      steps s s.request r (subst (λ q. Fits q r) (request_after-is question_of cs earlier fits.1) fits.0) kind goal
      (sym (request_after-is question_of cs (r ∷ earlier) fits) ∙ is)

-- ---- goals that are not concerned

module _ (old new : Table) (is_gone : ℕ → Bool)
    (exact : (goal : ℕ) → IsTrue (is_gone goal) ↔ IsConcerned old new goal) where
  pub not_gone : (goal : ℕ) → (IsConcerned old new goal → ⊥) → is_gone goal ≡ false
  not_gone goal none = by (is_gone goal) (λ it. none ((exact goal).0 it))
    where
      by : (b : Bool) → (IsTrue b → ⊥) → b ≡ false
      by true never = absurd (never refl)
      by false never = refl

  same_candidates : (goal : ℕ) → is_gone goal ≡ false → candidates_of old goal ≡ candidates_of new goal
  same_candidates goal stays = elim (same_or_changed old new goal) [
    | inl same ↦ same
    | inr other ↦ absurd (false≢true (sym stays ∙ (exact goal).1 (changed goal other)))
  ]

  pub others_kept : KeepsOthers is_gone (scripts_of old) (scripts_of new)
  others_kept = record {
    same = λ goal stays replies. ap (λ cs. script_of question_of cs replies) (same_candidates goal stays);
    stays = λ goal stays replies kind asked fits is.
        not_gone asked (λ concerned. false≢true (sym stays ∙ (exact goal).1
        (asks goal asked (subst (λ cs. IsAskedBy cs asked) (same_candidates goal stays)
        (asks_own (candidates_of old goal) replies kind asked fits is)) concerned)));
  }

  -- what the cache keeps, told of goals that are concerned
  pub results_kept : {S : Type 0} (same : ℕ → ℕ → Bool) (was now : Store ℕ S)
      → caches.KeepsOtherResults same is_gone was now → KeepsOtherResults (IsConcerned old new) same was now
  results_kept same was now left = record {
    kept = λ goal place none. left goal place
        ∙ ap (λ b. cond b None (stored_at same was goal place)) (not_gone goal none);
    gone = λ goal place concerned. left goal place
        ∙ ap (λ b. cond b None (stored_at same was goal place)) ((exact goal).1 concerned);
  }

  pub nodes_kept : (was now : List (CacheNode ℕ Outcome)) → caches.KeepsOtherNodes is_gone was now
      → KeepsOtherNodes (IsConcerned old new) was now
  nodes_kept was now left = record {
    as_many = left.as_many;
    kept = λ at n is none. left.kept at n is (not_gone n.goal none);
    gone = λ at n is concerned. left.gone at n is ((exact n.goal).1 concerned);
  }

  pub graphs_kept : (was now : List (CacheNode ℕ Outcome)) → caches.KeepsOtherNodes is_gone was now
      → AreRuns outcome_verdicts (scripts_of old) was → (goal : ℕ) (outcome : Outcome) (node : Option NodeId)
      → (IsConcerned old new goal → ⊥) → HasGraph outcome_verdicts was goal outcome node
      → HasGraph outcome_verdicts now goal outcome node
  graphs_kept was now left runs goal outcome node none =
      HasGraph-changed is_gone (scripts_of old) (scripts_of new) others_kept outcome_verdicts was now left runs goal
      outcome node (not_gone goal none)
