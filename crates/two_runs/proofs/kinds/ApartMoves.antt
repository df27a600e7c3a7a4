-- Moves under which provisional entries stand apart still, and what is known of entries that are ready.
use Rattle.std.proofs.Common.{◌≡◌, ◌≢◌, ℕ, Bool, List, [], ◌∷◌, length, slice_set, IsSome, None, All, refl, sym}
use Rattle.std.proofs.Common.{◌∙◌, subst}
use Rattle.std.proofs.lemmas.Bool.{false≢true}
use Rattle.std.proofs.lemmas.List.{length-map}
use Rattle.std.proofs.lemmas.List.Elements.{All-weaker}
use Rattle.two_runs.specs.Apart.{StandApart}
use Rattle.two_runs.specs.Below.{AnswersNewest, at_depth, CacheNode, CxOf, DelegateOf, Done, EnterCandidate, enters}
use Rattle.two_runs.specs.Below.{entries_at, Evaluate, FinishCandidate, finishes, HasStepped, Heads, Hit, Ignore, Lists}
use Rattle.two_runs.specs.Below.{NotesCandidate, OpenGoal, PathKind, ProvisionalCacheEntry, Received, received_by}
use Rattle.two_runs.specs.Below.{Reply, Request, requested, rerun_with, StackDepth, Store, StoredResult, TakesStored}
use Rattle.two_runs.specs.Below.{Verdicts, with_depth, with_nested_goals, with_no_record}
use Rattle.search_rules.specs.Justified.{AreJustified}
use Rattle.search_rules.specs.Moves.{Reruns}
use Rattle.search_rules.specs.Provisional.{AreReady, IsReady}
use Rattle.search_rules.specs.Runs.{run_of, runs_of}
use Rattle.search_rules.proofs.entries.LeftOver.{own_head}
use Rattle.two_runs.proofs.kinds.StandingApart.{apart_over, off_changed}
use Rattle.two_runs.proofs.kinds.UsedEntries.{HaveHeads}

-- ---- entries that are ready

module _ {X F I R A T : Type 0} (says : Verdicts R) (same : I → I → Bool) (scripts : I → List (Reply R) → Request I R)
    (nodes : List (CacheNode I R)) (entries : Lists I (ProvisionalCacheEntry X I R A T)) where
  -- they rest on heads, which rise
  pub ready_have_heads : (goals : List (OpenGoal X F I R A T))
      → AreReady says same scripts nodes (runs_of goals) entries → HaveHeads same entries
  ready_have_heads goals ready goal =
      All-weaker (IsReady says scripts nodes (runs_of goals) goal) (λ entry. (entry.heads ≢ []) × _)
      (λ entry is. (is.some, is.rising)) (entries_at same entries goal) (ready goal)

  -- and not on a goal that was not used
  pub ready_apart : (s : OpenGoal X F I R A T) (below : List (OpenGoal X F I R A T))
      → AreJustified says nodes (runs_of (s ∷ below)) → AreReady says same scripts nodes (runs_of (s ∷ below)) entries
      → s.0.state.usages ≡ None → (goal : I)
      → All (λ entry. (depth : StackDepth) → IsSome (at_depth entry.heads depth) → depth.0 ≢ length below)
      (entries_at same entries goal)
  ready_apart s below h ready unused goal =
      All-weaker (IsReady says scripts nodes (runs_of (s ∷ below)) goal)
      (λ entry. (depth : StackDepth) → IsSome (at_depth entry.heads depth) → depth.0 ≢ length below)
      (λ entry is depth there place. false≢true (subst IsSome unused (own_head (run_of s) (runs_of below) h.tallies.1
      depth (place ∙ sym (length-map below run_of)) (is.are_heads depth there))))
      (entries_at same entries goal) (ready goal)

-- ---- the newest goal changes

module _ {X F I R A T : Type 0} (same : I → I → Bool) (results : Store I (StoredResult I R T))
    (entries : Lists I (ProvisionalCacheEntry X I R A T)) (old new : List (OpenGoal X F I R A T)) where
  newest_apart : (s t : OpenGoal X F I R A T) (below : List (OpenGoal X F I R A T)) → old ≡ s ∷ below → new ≡ t ∷ below
      → s.0.input ≡ t.0.input → StandApart same results old entries → StandApart same results new entries
  newest_apart s t below was is input h =
      subst (λ l. StandApart same results l entries) (sym is)
      (apart_over same results (s ∷ below) (t ∷ below) entries (off_changed same s t below input)
      (subst (λ l. StandApart same results l entries) was h))

  pub answered_apart : (step : PathKind) (required : ℕ) (overflow : Bool) (heads : Heads)
      → AnswersNewest step required overflow heads old new → StandApart same results old entries
      → StandApart same results new entries
  answered_apart step required overflow heads a =
      newest_apart (a.entry, a.run) (record a.entry { state = a.state }, a.run) a.below a.was a.is refl

  pub stored_apart : (step : PathKind) (hit : Hit I R T) → TakesStored same step hit old new
      → StandApart same results old entries → StandApart same results new entries
  stored_apart step hit t = newest_apart (t.entry, t.run) (
    record t.entry {
      state = with_nested_goals (with_depth t.entry.state hit.required_depth hit.encountered_overflow) t.nested;
    },
    t.run,
  ) t.below t.was t.is refl

module _ {X F I R A T : Type 0} (same : I → I → Bool) (results : Store I (StoredResult I R T))
    (entries : Lists I (ProvisionalCacheEntry X I R A T)) where
  pub noted_apart : (request : Request I R) (old new : List (OpenGoal X F I R A T)) → NotesCandidate request old new
      → StandApart same results old entries → StandApart same results new entries
  noted_apart (Evaluate kind goal) old new noted h = subst (λ l. StandApart same results l entries) (sym noted) h
  noted_apart (Done r) old new noted h = subst (λ l. StandApart same results l entries) (sym noted) h
  noted_apart EnterCandidate [] new noted h = subst (λ l. StandApart same results l entries) (sym noted) h
  noted_apart EnterCandidate (s ∷ below) new noted h =
      newest_apart same results entries (s ∷ below) new s (enters s) below refl noted refl h
  noted_apart FinishCandidate [] new noted h = subst (λ l. StandApart same results l entries) (sym noted) h
  noted_apart FinishCandidate (s ∷ below) new noted h =
      newest_apart same results entries (s ∷ below) new s (finishes s) below refl noted refl h
  noted_apart (Ignore n) old new noted h = newest_apart same results entries old new (noted.entry, noted.run) (
    record noted.entry { state = noted.state },
    record noted.run { candidates = slice_set noted.run.candidates n [] },
  ) noted.below noted.was noted.is refl h

module _ {D C V P F I R A T : Type 0} (G : DelegateOf D C V P F I R A T) (X : CxOf C I R A T) (cx : C)
    (same : I → I → Bool) (results : Store I (StoredResult I R T))
    (entries : Lists I (ProvisionalCacheEntry C I R A T)) (old new : List (OpenGoal C F I R A T)) where
  pub stepped_apart : (given : Received R) (request : Request I R) → HasStepped G X cx given request old new
      → StandApart same results old entries → StandApart same results new entries
  stepped_apart given request s = newest_apart same results entries old new (s.entry, s.run) (
    s.entry,
    record s.run { frame = s.frame; progress = requested (received_by G X cx s.run given s.verdict) request },
  ) s.below s.was s.is refl

  pub rerun_apart : (r : R) → Reruns G X cx r old new → StandApart same results old entries
      → StandApart same results new entries
  rerun_apart r a = newest_apart same results entries old new a.item
      (rerun_with r a.target a.frame a.own (with_no_record a.item)) a.below a.was a.is refl
