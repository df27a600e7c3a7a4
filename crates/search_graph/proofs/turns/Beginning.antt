-- An evaluation begins: its goal is the first one that is pushed.
use Rattle.std.proofs.Common.{◌≡◌, ◌≤◌, ◌+◌, ℕ, Bool, true, List, None, sym, subst}
use Rattle.search_graph.specs.Below.{AreSoundResults, AvailableDepth, Begin, Cache, CacheNode, CountsOne, CxOf}
use Rattle.search_graph.specs.Below.{DelegateOf, Memory, PathKind, verdicts, OpenGoal, AreFree, AreJustified, AreReady}
use Rattle.search_graph.specs.Below.{NewestAsks, Awaits, Begins, Call, IsNew, IsRight, IsRightFor, KeepsAnswers, Pushes}
use Rattle.search_graph.specs.Below.{StopsWith, runs_of}
use Rattle.search_state.specs.declared.evaluation.Evaluation.{Evaluation}
use Rattle.search_questions.proofs.moves.Asking.{pushed_right}
use Rattle.search_rules.proofs.justified.Justified.{nothing_is_justified}
use Rattle.search_graph.proofs.turns.Loops.{first_stopped, first_waits}
use Rattle.search_rules.proofs.answers.Free.{all_free_nothing}
use Rattle.search_ends.proofs.moves.Said.{no_entries}
use Rattle.search_rules.proofs.entries.Ready.{none_ready}

module _ {D C V P F I R A T : Type 0} (G : DelegateOf D C V P F I R A T) (X : CxOf C I R A T) (same : I → I → Bool)
    (cx : C) (kind : PathKind) (goal : I) (old : Cache C I R T)
    (e : Evaluation D C V P F I R A T) (is_new : IsNew e) where
  -- where no goal is under evaluation, all is right
  pub new_right : AreSoundResults same (verdicts X) (G.script cx) old.nodes old.results → IsRight G X same cx old e
  new_right sound = record {
    justified = subst (λ gs. AreJustified (verdicts X) old.nodes (runs_of gs)) (sym is_new.no_goals)
        (nothing_is_justified (verdicts X) old.nodes);
    free = subst (λ gs. AreFree (verdicts X) same old.nodes (runs_of gs) old.results) (sym is_new.no_goals)
        (all_free_nothing (verdicts X) same (G.script cx) old.nodes old.results sound);
    ready = subst (AreReady (verdicts X) same (G.script cx) old.nodes (runs_of e.goals)) (sym is_new.no_entries)
        (none_ready (verdicts X) same (G.script cx) old.nodes (runs_of e.goals));
  }

  -- a goal that could not be pushed ends the call
  pub never_pushed :
      (depth : AvailableDepth) (new : Cache C I R T) (after : Evaluation D C V P F I R A T) (starts later : ℕ)
      → new ≡ record old { nodes = new.nodes } → after ≡ record e { goals = after.goals; scopes = after.scopes }
      → starts ≤ later → later ≤ starts + 1
      → (call : Call I) → Begins G X cx same call goal depth.0 starts e.limits_met old.results
      → StopsWith G X same cx call Memory new after later
  never_pushed depth new after starts later is_new is_after least most call begins =
      subst (λ c. StopsWith G X same cx call Memory c after later) (sym is_new)
      (subst (λ a. StopsWith G X same cx call Memory (record old { nodes = new.nodes }) a later) (sym is_after)
      (record {
        stopped = first_stopped G X cx goal kind depth starts later e.limits_met least most call begins.outset;
        store = begins.store;
      }))

  module _ (depth : AvailableDepth) (goals : List (OpenGoal C F I R A T)) (held : List V) (nodes : List (CacheNode I R))
      (pushes : Pushes G X cx goal kind depth old.nodes nodes e.goals goals) where
    pub begins_right : AreSoundResults same (verdicts X) (G.script cx) old.nodes old.results
        → IsRightFor G X same cx (record { reply = Begin; node = None }) (record old { nodes = nodes })
        (record e { goals = goals; scopes = held })
    begins_right sound =
        pushed_right G X same cx kind goal old e 0 depth goals held nodes pushes
        (subst (λ gs. NewestAsks (runs_of gs) kind goal) (sym is_new.no_goals) tt) (new_right sound)

    pub begins_waiting :
        (starts later : ℕ) → later ≤ starts + 1 → (G.counts ≡ true → CountsOne G.last starts later)
        → (call : Call I) → Begins G X cx same call goal depth.0 starts e.limits_met old.results
        → Awaits G X same cx call (record { reply = Begin; node = None }) (record old { nodes = nodes })
        (record e { goals = goals; scopes = held }) later
    begins_waiting starts later one counted call begins = record {
      waiting = first_waits G X cx goal kind depth starts later e.limits_met old.nodes nodes goals one counted
          (subst (λ gs. Pushes G X cx goal kind depth old.nodes nodes gs goals) is_new.no_goals pushes) call
          begins.outset;
      answers = subst (KeepsAnswers G X cx same call e.limits_met old.results) (sym is_new.no_entries)
          (no_entries G X cx call same old.results e.limits_met begins.store);
    }
