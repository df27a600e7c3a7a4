-- What a question of the newest goal comes to.
use Rattle.std.specs.Prelude.{◌≡◌, ◌≤◌, ◌+◌, ◌||◌, ℕ, Bool, true, false, List, ◌∷◌, map, reverse, Option, Some, None}
use Rattle.std.specs.Option.{is_none, option_and_then}
use Rattle.std.specs.List.{list_any}
use Rattle.search_questions.specs.Below.{DelegateOf, CxOf, Received, ProvisionalCacheEntry, PathKind, OpenGoal}
use Rattle.search_questions.specs.Below.{StackDepth, AvailableDepth, Cache, CacheNode, NestsItself, NotesOverflow}
use Rattle.search_questions.specs.Below.{TakesStored, AnswersNewest, Hit, first_accepted, usable, depth_below, newest}
use Rattle.search_questions.specs.Below.{CountsOne, KeepsCache}
use Rattle.search_context.specs.Delegate.{frames_in}
use Rattle.search_context.specs.declared.context.Reply.TheVariants as reply
use Rattle.search_rules.specs.LookUp.{Asking, is_applicable, usable_entry, IsUsable}
use Rattle.search_state.specs.declared.evaluation.Evaluation.{Evaluation}
use Rattle.search_rules.specs.Fates.{answered_by, fate_for, fates_of, IsFated}
use Rattle.search_rules.specs.Moves.{ClosesCycle, Pushes}
use Rattle.between_moves.specs.Scopes.{HoldsOwn}

-- the depth that a question of the newest goal gets, if that may ask
abbrev pub question_depth : {D C V P F I R A T : Type 0} → DelegateOf D C V P F I R A T
    → Evaluation D C V P F I R A T → Option ℕ
question_depth G e = option_and_then (λ s. depth_below G.DIVIDE_AVAILABLE_DEPTH_ON_OVERFLOW s.0) (newest e.goals)

-- Where the builder had seen a call that has these frames open, it has seen that the goal's first frame was started:
-- that of the call itself where there was none.
pub record SeesStart {P I F : Type 0} (sees : P → I → Option (List F) → Type 0) (input : I) (old new : P)
    (before after : List F) : Type 0 where
  pub at : (goal : I) (frames : Option (List F)) → sees old goal frames → (frames ≡ None → goal ≡ input)
      → frames_in frames ≡ before → sees new goal (Some after)

-- ---- what the newest goal is told, and has noted of that

module _ {C F I R A T : Type 0} (same : I → I → Bool) where
  -- its question was refused with this result
  pub record IsAnsweredAtLimit (refused : R) (received : Received R)
      (old new : List (OpenGoal C F I R A T)) : Type 0 where
    pub is : received ≡ record { reply = reply.Answer refused; node = None }
    pub noted : NotesOverflow same old new

  -- the provisional entry answered it
  pub record IsAnsweredByEntry (step : PathKind) (entry : ProvisionalCacheEntry C I R A T) (received : Received R)
      (old new : List (OpenGoal C F I R A T)) : Type 0 where
    pub is : received ≡ record { reply = reply.Answer entry.result; node = entry.node }
    pub takes : AnswersNewest step 0 entry.encountered_overflow entry.heads old new
    pub nested : NestsItself same old new

  -- the stored result answered it
  pub record IsAnsweredByHit (step : PathKind) (hit : Hit I R T) (received : Received R)
      (old new : List (OpenGoal C F I R A T)) : Type 0 where
    pub is : received ≡ record { reply = reply.Answer hit.result; node = hit.node }
    pub takes : TakesStored same step hit old new

module _ {D C V P F I R A T : Type 0} (G : DelegateOf D C V P F I R A T) (X : CxOf C I R A T) (same : I → I → Bool)
    (cx : C) (kind : PathKind) (goal : I) where
  -- where the newest goal asks
  abbrev pub asking : Evaluation D C V P F I R A T → Asking C I R A T
  asking e = record { stack = reverse (map (λ s. s.0) e.goals); entries = e.provisional; step = kind }

  -- the provisional entry that answers its question
  abbrev pub entry_for : Evaluation D C V P F I R A T → Option (ProvisionalCacheEntry C I R A T)
  entry_for e = usable_entry same G.ENABLE_PROVISIONAL_CACHE (asking e) goal

  -- the stored result that may be used for it at this depth
  abbrev pub found_for : Cache C I R T → Evaluation D C V P F I R A T → ℕ → Option (Hit I R T)
  found_for cache e depth = first_accepted (is_applicable same (asking e)) (usable same cache.results goal depth)

  -- the one that answers it, if the builder lets one do so, and the goal is in no scope
  abbrev pub stored_for : (noop : Bool) → Cache C I R T → Evaluation D C V P F I R A T → ℕ → Option (Hit I R T)
  stored_for noop cache e depth = answered_by noop (G.scoped cx goal) (found_for cache e depth)

  -- A question of a goal without depth is refused, which meets a limit. Any other is answered by a provisional entry,
  -- if one may be used; else by a stored result, if one may be used; else over a cycle, if its goal is on the stack;
  -- else its goal is pushed. With a builder that records no stored result is used, and that of a goal that is pushed is
  -- not stored; in a scope it is compared with the one that is stored, and the scope is held.
  pub data AskingLeadsTo (noop : Bool) (old : Cache C I R T) (e : Evaluation D C V P F I R A T) (starts : ℕ) :
      Received R → Cache C I R T → Evaluation D C V P F I R A T → ℕ → Type 0 where
    Refused :
        (goals : List (OpenGoal C F I R A T))
        → None ≡ question_depth G e → NotesOverflow same e.goals goals
        → AskingLeadsTo noop old e starts (record { reply = reply.Answer (G.stack_overflow cx goal); node = None }) old
        (record e { goals = goals; limits_met = true }) starts
    ByEntry :
        (depth : AvailableDepth) (entry : ProvisionalCacheEntry C I R A T) (goals : List (OpenGoal C F I R A T))
        → Some depth.0 ≡ question_depth G e → entry_for e ≡ Some entry
        → AnswersNewest kind 0 entry.encountered_overflow entry.heads e.goals goals → NestsItself same e.goals goals
        → AskingLeadsTo noop old e starts (record { reply = reply.Answer entry.result; node = entry.node })
        old (record e { goals = goals }) starts
    ByStored :
        (depth : AvailableDepth) (hit : Hit I R T) (goals : List (OpenGoal C F I R A T))
        → Some depth.0 ≡ question_depth G e → entry_for e ≡ None → stored_for noop old e depth.0 ≡ Some hit
        → TakesStored same kind hit e.goals goals
        → IsUsable same (G.script cx) old.results goal depth.0 hit
        → AskingLeadsTo noop old e starts (record { reply = reply.Answer hit.result; node = hit.node })
        old (record e { goals = goals }) starts
    OverCycle :
        (depth : AvailableDepth) (head : StackDepth) (received : Received R) (goals : List (OpenGoal C F I R A T))
        → Some depth.0 ≡ question_depth G e → entry_for e ≡ None → stored_for noop old e depth.0 ≡ None
        → list_any (λ s. same goal s.0.input) e.goals ≡ true
        → ClosesCycle G X cx same kind goal head received e.goals goals
        → AskingLeadsTo noop old e starts received old (record e { goals = goals }) starts
    Pushed :
        (depth : AvailableDepth) (goals : List (OpenGoal C F I R A T)) (held : List V)
        (nodes : List (CacheNode I R)) (later : ℕ)
        → Some depth.0 ≡ question_depth G e → entry_for e ≡ None → stored_for noop old e depth.0 ≡ None
        → list_any (λ s. same goal s.0.input) e.goals ≡ false
        → Pushes G X cx goal kind depth old.nodes nodes e.goals goals
        → fates_of goals ≡ record {
          goal = goal;
          depth = depth.0;
          fate = fate_for noop (G.scoped cx goal) (found_for old e depth.0);
        } ∷ fates_of e.goals
        → HoldsOwn (fate_for noop (G.scoped cx goal) (found_for old e depth.0)) e.scopes held
        → IsFated (G.scoped cx) (G.script cx) same old.results noop
        (record { goal = goal; depth = depth.0; fate = fate_for noop (G.scoped cx goal) (found_for old e depth.0) })
        → later ≤ starts + 1 → (G.counts ≡ true → CountsOne G.last starts later)
        → AskingLeadsTo noop old e starts (record { reply = reply.Begin; node = None }) (record old { nodes = nodes })
        (record e { goals = goals; scopes = held }) later

-- Memory was out: as a question was refused, or was about to be answered at this depth, or its goal to be pushed.
pub data AskingFails {D C V P F I R A T : Type 0} (G : DelegateOf D C V P F I R A T) (old : Cache C I R T)
    (e : Evaluation D C V P F I R A T) (starts : ℕ) : Cache C I R T → Evaluation D C V P F I R A T → ℕ → Type 0 where
  NotRefused : (goals : List (OpenGoal C F I R A T)) → None ≡ question_depth G e
      → AskingFails G old e starts old (record e { goals = goals; limits_met = true }) starts
  NotAnsweredAt :
      (depth : AvailableDepth) (goals : List (OpenGoal C F I R A T)) (held : List V)
      (nodes : List (CacheNode I R)) (later : ℕ)
      → Some depth.0 ≡ question_depth G e → starts ≤ later → later ≤ starts + 1
      → AskingFails G old e starts (record old { nodes = nodes }) (record e { goals = goals; scopes = held }) later

-- A question adds at most a node, and meets a limit if it has no depth, also where memory was out.
pub record Asks {D C V P F I R A T : Type 0} (G : DelegateOf D C V P F I R A T) (same : I → I → Bool)
    (old : Cache C I R T) (e : Evaluation D C V P F I R A T) (new : Cache C I R T)
    (after : Evaluation D C V P F I R A T) : Type 0 where
  pub cache : KeepsCache same e.goals old new
  pub same_results : new.results ≡ old.results
  pub same_drafts : after.drafts ≡ e.drafts
  pub meets : after.limits_met ≡ (e.limits_met || is_none (question_depth G e))
