-- A question leads on, whatever it comes to, and all stays right.
use Rattle.std.proofs.Common.{◌≡◌, ◌<◌, ◌≤◌, ℕ, Bool, true, false, List, ◌∷◌, ◌++◌, [], length, map, reverse, None}
use Rattle.std.proofs.Common.{get_or, inl, inr, refl, sym, subst, arith}
use Rattle.std.specs.Option.{option_and_then}
use Rattle.std.proofs.lemmas.List.{length-map, length-reverse}
use Rattle.std.proofs.lemmas.Option.{get_or_from_slice_get, slice_get_within}
use Rattle.search_questions.specs.Below.{DelegateOf, CxOf, Evaluate, Received, Answer, Begin, Cache, IsNeither}
use Rattle.search_questions.specs.Below.{IsCycleResult, CacheNode, AvailableDepth, first_entry, open_node, PathKind}
use Rattle.search_questions.specs.Below.{OpenGoal, StackEntry, Memory, path_kind_from, IsDefinite, verdicts, AreFree}
use Rattle.search_questions.specs.Below.{AreJustified, AreReady, bound, Call, CallMeetsNone, depth_below, first_run}
use Rattle.search_questions.specs.Below.{HasAsked, HasStopped, IsCounted, KeepsStore, IsFit, IsReady, limits, newest}
use Rattle.search_questions.specs.Below.{NewestAsks, Pushes, runs_of, seen, Stood, GoesOnWith, IsRight, IsRightFor}
use Rattle.search_questions.specs.Below.{Requests, StopsWith}
use Rattle.search_state.specs.declared.evaluation.Evaluation.{Evaluation}
use Rattle.search_questions.specs.Words.{AskingFails, AskingLeadsTo, asking, ByEntry, ByStored, NotAnsweredAt}
use Rattle.search_questions.specs.Words.{NotRefused, OverCycle, Pushed, question_depth, Refused}
use Rattle.search_rules.proofs.justified.Finishing.{answered_newest_is_justified, begin_fits, neither_fits}
use Rattle.search_rules.proofs.justified.Finishing.{overflow_noted_is_justified, pushed_goal_is_justified}
use Rattle.search_rules.proofs.justified.Finishing.{stored_taken_same}
use Rattle.lean_runs.proofs.Verdicts.{neither_is}
use Rattle.search_rules.proofs.moves.Questions.{ask_in_cycle, ask_provisional, ask_pushes, ask_refused, ask_stops}
use Rattle.search_rules.proofs.moves.Questions.{ask_stored, enclosed_refuses_none, refused_at}
use Rattle.search_rules.proofs.moves.Moves.{not_among}
use Rattle.evaluations.proofs.Mirrors.{waits_stops}
use Rattle.search_rules.proofs.answers.Cycles.{cycle_fits, cycle_head_lower, head_is}
use Rattle.search_rules.proofs.answers.FreeMoves.{answered_newest_free, overflow_noted_free}
use Rattle.search_rules.proofs.answers.FreeMoves.{stored_fits, stored_taken_free}
use Rattle.search_rules.proofs.answers.Free.{all_free_pushed_goal}
use Rattle.search_rules.proofs.entries.Questions.{entry_fits, entry_is_one, entry_path_is, entry_taken_justified}
use Rattle.search_rules.proofs.entries.Moves.{overflow_noted_ready, ready_beside, ready_pushed_goal, stored_taken_ready}

module _ {D C V P F I R A T : Type 0} (G : DelegateOf D C V P F I R A T) (X : CxOf C I R A T) (same : I → I → Bool)
    (cx : C) (kind : PathKind) (goal : I) (old : Cache C I R T) (e : Evaluation D C V P F I R A T) (starts : ℕ) where
  -- ---- the call goes on

  never_none : None ≡ question_depth G e → (call : Call I) (ahead : ℕ)
      → Requests G X same cx (Evaluate kind goal) call ahead old e starts → CallMeetsNone G X cx call true → ⊥
  never_none none call ahead h meets = elim meets [
    | inl c ↦ let met : true ≡ false = c.1 in absurd cc
    | inr enclosed ↦ enclosed_refuses_none G X cx call ahead kind goal starts e.limits_met e.goals none enclosed h.asked
  ]

  -- what a call keeps where a question is refused, which is so in no enclosed call
  refused_keeps : None ≡ question_depth G e → (call : Call I) (ahead : ℕ)
      → Requests G X same cx (Evaluate kind goal) call ahead old e starts → KeepsStore G X cx same call true old.results
  refused_keeps none call ahead h = record {
    overflow = λ meets. absurd (never_none none call ahead h meets);
    definite = λ d unmet. absurd cc;
    within = h.answers.store.within;
  }

  pub asked_goes_on :
      2 ≤ G.DIVIDE_AVAILABLE_DEPTH_ON_OVERFLOW → ((x y : I) → same x y ≡ true → x ≡ y) → ((x : I) → same x x ≡ true)
      → ((cycle : PathKind) (asked : I) → IsCycleResult X.is_yes X.is_no cycle (G.initial_result cx cycle asked))
      → (noop : Bool) (received : Received R) (new : Cache C I R T) (after : Evaluation D C V P F I R A T) (later : ℕ)
      → AskingLeadsTo G X same cx kind goal noop old e starts received new after later
      → AreReady (verdicts X) same (G.script cx) old.nodes (runs_of e.goals) e.provisional
      → (call : Call I) (ahead : ℕ) → Requests G X same cx (Evaluate kind goal) call ahead old e starts
      → GoesOnWith G X same cx call ahead received new after later
  asked_goes_on more exact own sorts noop received new after later (Refused goals none noted) ready call ahead h =
      record {
        goes_on = ask_refused G X cx call ahead kind goal starts e.limits_met same
            (G.stack_overflow cx goal) e.goals goals none noted h.asked;
        answers = record {
          store = refused_keeps none call ahead h;
          met_none = λ meets. absurd (never_none none call ahead h meets);
          definite = λ d unmet. absurd cc;
        };
      }
  asked_goes_on more exact own sorts noop received new after later
      (ByEntry depth entry goals at is takes nested) ready call ahead h =
      let one = entry_is_one same (asking G X same cx kind goal e) goal entry G.ENABLE_PROVISIONAL_CACHE is in
      record {
        goes_on =
            ask_provisional G X cx call ahead kind goal starts e.limits_met more depth entry.result
            entry.encountered_overflow entry.heads e.goals goals at
            (one (IsReady (verdicts X) (G.script cx) old.nodes (runs_of e.goals) goal) (ready goal)).no_rank
            (λ meets. one (λ entry. entry.encountered_overflow ≡ false) (h.answers.met_none meets goal))
            (λ decisive unmet.
            one (λ entry. IsDefinite (verdicts X) entry.result) (h.answers.definite decisive unmet goal))
            takes h.asked;
        answers = h.answers;
      }
  asked_goes_on more exact own sorts noop received new after later
      (ByStored depth hit goals at none is takes usable) ready call ahead h = record {
        goes_on = ask_stored G X cx call ahead kind goal starts e.limits_met more depth same old.results
            (record { reply = Answer hit.result; node = hit.node }) e.goals goals at
            (record { hit = hit; usable = usable; is = refl; takes = takes }) h.answers.store h.asked;
        answers = h.answers;
      }
  asked_goes_on more exact own sorts noop received new after later
      (OverCycle depth head given goals at none not_stored found closes) ready call ahead h = record {
        goes_on = ask_in_cycle G X cx call ahead kind goal starts e.limits_met more depth same exact sorts received head
            e.goals goals at found closes h.asked;
        answers = h.answers;
      }
  asked_goes_on more exact own sorts noop received new after later (Pushed depth goals held nodes now at none not_stored
      absent pushes fates holds fated one counted) ready call ahead h = record {
        goes_on = ask_pushes G X cx call ahead kind goal starts e.limits_met more depth e.goals goals later at
            (not_among G X cx call same own goal e.goals absent) one counted pushes h.asked;
        answers = h.answers;
      }

  -- a question that was refused ends the call where memory is out, and has met a limit all the same
  refused_stops_at :
      (goals : List (OpenGoal C F I R A T))
      → None ≡ option_and_then (λ s. depth_below G.DIVIDE_AVAILABLE_DEPTH_ON_OVERFLOW s.0) (newest goals)
      → (call : Call I) (ahead : ℕ) → HasAsked G X cx call ahead (Evaluate kind goal) goals starts e.limits_met
      → HasStopped G X cx call Memory starts true
  refused_stops_at [] none call ahead h = absurd h.asked.mirror
  refused_stops_at (s ∷ below) none call ahead h =
      let waiting = (refused_at G X cx call ahead kind goal starts e.limits_met (G.stack_overflow cx goal) s below
      s.0.state.nested_goals none h).waiting in
      record {
        stops = waits_stops (seen G X cx) (Stood G X cx) (G.script cx) (limits G X cx call) (IsCounted G X cx call)
            call.top (bound G X cx call) (Answer (G.stack_overflow cx goal)) _ starts true waiting.waits;
        keeps = waiting.keeps;
        plain = λ n p room. refl;
        decided = λ decisive unmet. tt;
      }

  -- and where memory is out the call ends
  pub asking_stops :
      2 ≤ G.DIVIDE_AVAILABLE_DEPTH_ON_OVERFLOW
      → {new : Cache C I R T} {after : Evaluation D C V P F I R A T} {later : ℕ}
      → AskingFails G old e starts new after later
      → (call : Call I) (ahead : ℕ) → Requests G X same cx (Evaluate kind goal) call ahead old e starts
      → StopsWith G X same cx call Memory new after later
  asking_stops more (NotRefused goals none) call ahead h = record {
    stopped = refused_stops_at e.goals none call ahead h.asked;
    store = refused_keeps none call ahead h;
  }
  asking_stops more (NotAnsweredAt depth goals held nodes later at least most) call ahead h =
      record {
        stopped =
            ask_stops G X cx call ahead kind goal starts e.limits_met more depth e.goals later at least most h.asked;
        store = h.answers.store;
      }

  -- ---- all stays right

  -- what holds of the nodes and goals with a new one holds once it is pushed
  pub carried :
      (depth : AvailableDepth) (goals : List (OpenGoal C F I R A T)) (nodes : List (CacheNode I R))
      (pushes : Pushes G X cx goal kind depth old.nodes nodes e.goals goals)
      (P : List (CacheNode I R) → List (OpenGoal C F I R A T) → Type 0)
      → P (old.nodes ++ open_node goal ∷ []) ((
        first_entry goal kind depth pushes.own,
        first_run G X cx pushes.frame pushes.own pushes.becomes,
      ) ∷ e.goals) → P nodes goals
  carried depth goals nodes pushes P h = subst (λ cs. P cs goals) (sym pushes.opened)
      (subst (λ gs. P (old.nodes ++ open_node goal ∷ []) gs) (sym pushes.is) h)

  -- a goal that was pushed
  pub pushed_right :
      (depth : AvailableDepth) (goals : List (OpenGoal C F I R A T)) (held : List V) (nodes : List (CacheNode I R))
      → Pushes G X cx goal kind depth old.nodes nodes e.goals goals
      → NewestAsks (runs_of e.goals) kind goal → IsRight G X same cx old e → IsRightFor G X same cx
      (record { reply = Begin; node = None }) (record old { nodes = nodes }) (record e { goals = goals; scopes = held })
  pushed_right depth goals held nodes pushes asks h =
      record {
        right = record {
          justified = carried depth goals nodes pushes (λ cs gs. AreJustified (verdicts X) cs (runs_of gs))
              (pushed_goal_is_justified (verdicts X) old.nodes goal kind depth pushes.own pushes.frame pushes.becomes
              e.goals pushes.place asks h.justified);
          free = carried depth goals nodes pushes (λ cs gs. AreFree (verdicts X) same cs (runs_of gs) old.results)
              (all_free_pushed_goal (verdicts X) same old.nodes goal kind depth pushes.own pushes.frame pushes.becomes
              e.goals old.results pushes.place asks h.justified h.free);
          ready = carried depth goals nodes pushes
              (λ cs gs. AreReady (verdicts X) same (G.script cx) cs (runs_of gs) e.provisional)
              (ready_pushed_goal (verdicts X) same (G.script cx) old.nodes goal kind depth pushes.own pushes.frame
              pushes.becomes e.goals e.provisional pushes.place h.justified h.ready);
        };
        fits = begin_fits (verdicts X) nodes (runs_of goals);
      }

  pub asked_right :
      ((x : C) (asked : I) → IsNeither X.is_yes X.is_no (G.stack_overflow x asked))
      → ((cycle : PathKind) (asked : I) → IsCycleResult X.is_yes X.is_no cycle (G.initial_result cx cycle asked))
      → (noop : Bool) (received : Received R) (new : Cache C I R T) (after : Evaluation D C V P F I R A T) (later : ℕ)
      → AskingLeadsTo G X same cx kind goal noop old e starts received new after later
      → NewestAsks (runs_of e.goals) kind goal → IsRight G X same cx old e → IsRightFor G X same cx received new after
  asked_right neither sorts noop received new after later (Refused goals none noted) asks h = record {
    right = record {
      justified = overflow_noted_is_justified (verdicts X) old.nodes same e.goals goals noted h.justified;
      free = overflow_noted_free (verdicts X) same old.nodes old.results e.goals goals noted h.free;
      ready = overflow_noted_ready (verdicts X) same (G.script cx) old.nodes e.provisional e.goals goals noted h.ready;
    };
    fits = neither_fits (verdicts X) old.nodes (runs_of goals) (G.stack_overflow cx goal) None
        (neither_is (verdicts X) (G.stack_overflow cx goal) (neither cx goal));
  }
  asked_right neither sorts noop received new after later (ByEntry depth entry goals at is takes nested) asks h =
      let ready = entry_is_one same (asking G X same cx kind goal e) goal entry G.ENABLE_PROVISIONAL_CACHE is
      (IsReady (verdicts X) (G.script cx) old.nodes (runs_of e.goals) goal) (h.ready goal) in
      record {
        right = record {
          justified = entry_taken_justified (verdicts X) (G.script cx) old.nodes e.goals goals
              kind goal entry takes h.justified ready;
          free = answered_newest_free (verdicts X) same old.nodes old.results e.goals goals kind 0 _ _ takes h.free;
          ready = ready_beside (verdicts X) same (G.script cx) old.nodes e.provisional
              e.goals goals kind 0 _ _ takes h.ready;
        };
        fits =
            entry_fits (verdicts X) (G.script cx) old.nodes e.goals goals kind goal entry takes h.justified ready asks
            (entry_path_is same (asking G X same cx kind goal e) goal entry G.ENABLE_PROVISIONAL_CACHE is);
      }
  asked_right neither sorts noop received new after later (ByStored depth hit goals at none is takes usable) asks h =
      record {
        right = record {
          justified = subst (AreJustified (verdicts X) old.nodes)
              (stored_taken_same (verdicts X) old.nodes same e.goals goals kind hit takes) h.justified;
          free = stored_taken_free (verdicts X) same old.nodes old.results e.goals goals kind hit takes h.free;
          ready = stored_taken_ready (verdicts X) same (G.script cx) old.nodes e.provisional
              e.goals goals kind hit takes h.ready;
        };
        fits = stored_fits (verdicts X) same old.nodes old.results e.goals goals (G.script cx) kind goal
            depth.0 hit usable takes asks h.free;
      }
  asked_right neither sorts noop received new after later
      (OverCycle depth head given goals at none not_stored found closes) asks h =
      let stack : List (StackEntry C I R A T) = reverse (map (λ s. s.0) e.goals) in
      let within : head.0 < length stack = slice_get_within stack head.0 closes.entry closes.is_at in
      let e_is : closes.entry ≡ get_or stack head.0 closes.entry =
      sym (get_or_from_slice_get stack head.0 closes.entry closes.entry closes.is_at) in
      record {
        right = record {
          justified = answered_newest_is_justified (verdicts X) old.nodes kind 0 _ _ e.goals goals closes.takes
              (cycle_head_lower kind head _ e.goals goals closes.takes (omega
              (arith, within, length-reverse (map (λ s. s.0) e.goals), length-map e.goals (λ s. s.0)))) h.justified;
          free =
              answered_newest_free (verdicts X) same old.nodes old.results e.goals goals kind 0 _ _ closes.takes h.free;
          ready = ready_beside (verdicts X) same (G.script cx) old.nodes e.provisional e.goals
              goals kind 0 _ _ closes.takes h.ready;
        };
        fits = subst (λ given. IsFit (verdicts X) old.nodes (runs_of goals) given.reply given.node) (sym closes.is)
            (cycle_fits (verdicts X) old.nodes e.goals goals kind (path_kind_from stack head.0 kind) head goal
            closes.entry (head_is (verdicts X) e.goals head.0 closes.entry within e_is) closes.of_goal
            refl (G.initial_result cx (path_kind_from stack head.0 kind) goal)
            (sorts (path_kind_from stack head.0 kind) goal) asks closes.takes h.justified);
      }
  asked_right neither sorts noop received new after later
      (Pushed depth goals held nodes now at none not_stored absent pushes fates holds fated one counted) asks h =
      pushed_right depth goals held nodes pushes asks h
