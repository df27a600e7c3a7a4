-- What the newest goal notes keeps all answers and heads: those that may be used over the goals may
-- be used over them then.
use Rattle.std.proofs.Common.{◌≡◌, ◌≢◌, ℕ, ◌==◌, Bool, true, false, if◌then◌else◌, List, [], ◌∷◌, ◌++◌, length, Option}
use Rattle.std.proofs.Common.{None, Some, IsSome, inr, inl, refl, sym, subst, ap, ne_eqb, slice_set}
use Rattle.std.specs.Option.{option_map}
use Rattle.std.proofs.lemmas.Bool.{false≢true}
use Rattle.search_rules.specs.Below.{StackDepth, CycleHead, PathKind, HeadUsages, UsagesByHead, Heads, at_depth}
use Rattle.search_rules.specs.Below.{DelegateOf, CxOf, Final, ProvisionalEntry, KeepsGoals, NodeId, Request, Evaluate}
use Rattle.search_rules.specs.Below.{EnterCandidate, FinishCandidate, Ignore, Done, EntryState, OpenGoal, CacheNode}
use Rattle.search_rules.specs.Below.{open_node, Received, enters, finishes, less_head, less_usages, Ignores}
use Rattle.search_rules.specs.Below.{NotesCandidate, joined_over, usages_over, AnswersNewest, requested, HasStepped}
use Rattle.search_rules.specs.Below.{received_by, Verdicts, verdicts}
use Rattle.graph_nodes.proofs.NodeLists.{KeepsGoals-appended}
use Rattle.search_rules.specs.Words.{OpenRun, AreJustified, IsHead, run_of, runs_of, Tally, tally_of, counted}
use Rattle.search_rules.proofs.answers.Moves.{HoldOver, above_hold, pushed_hold}
use Rattle.search_rules.proofs.justified.Finishing.{same_run}
use Rattle.search_rules.proofs.justified.Justified.{new_run, no_tally}

-- ---- what is counted stays counted

usages_of_some : (o : Option CycleHead) → IsSome o → IsSome (option_map (λ (k : CycleHead). k.usages) o)
usages_of_some None some = absurd (false≢true some)
usages_of_some (Some k) some = refl

pub some_of_usages : (o : Option CycleHead) → IsSome (option_map (λ (k : CycleHead). k.usages) o) → IsSome o
some_of_usages None some = absurd (false≢true some)
some_of_usages (Some k) some = refl

-- a tally that counts its own goal and its heads as before counts the same goals, and perhaps more
pub record CountsAll (t later : Tally) : Type 0 where
  pub own : IsSome t.own → IsSome later.own
  pub heads : (head : StackDepth) → IsSome (at_depth t.heads head) → IsSome (at_depth later.heads head)

counts_all : (t later : Tally) → CountsAll t later → (place : ℕ) (head : StackDepth)
    → IsSome (counted place t head) → IsSome (counted place later head)
counts_all t later all place head = by (head.0 == place)
  where
    by :
        (b : Bool)
        → IsSome (if b then t.own else option_map (λ (k : CycleHead). k.usages) (at_depth t.heads head))
        → IsSome (if b then later.own else option_map (λ (k : CycleHead). k.usages) (at_depth later.heads head))
    by true some = all.own some
    by false some =
        usages_of_some (at_depth later.heads head) (all.heads head (some_of_usages (at_depth t.heads head) some))

same_counts : (t : Tally) → CountsAll t t
same_counts t = record { own = λ some. some; heads = λ head some. some }

-- ---- what is kept from goals to goals

module _ {I R : Type 0} (says : Verdicts R) where
  -- the nodes keep their goals, all answers hold still, and all heads are heads
  pub record KeepsUses (nodes after : List (CacheNode I R)) (goals later : List (OpenRun I R)) : Type 0 where
    pub goals_kept : KeepsGoals nodes after
    pub hold : (provisional : List ProvisionalEntry) (final : List Final) → HoldOver says nodes goals provisional final
        → HoldOver says after later provisional final
    pub heads : (head : StackDepth) → IsHead goals head → IsHead later head

  -- a goal is pushed
  pub pushed_keeps : (nodes : List (CacheNode I R)) (goal : I) (step : PathKind) (own : NodeId)
      (goals : List (OpenRun I R)) → own.0 ≡ length nodes → AreJustified says nodes goals
      → KeepsUses nodes (nodes ++ open_node goal ∷ []) goals (new_run goal step own (Some own) None no_tally ∷ goals)
  pushed_keeps nodes goal step own goals at h = record {
    goals_kept = KeepsGoals-appended true nodes goal;
    hold = pushed_hold says nodes goal step own goals at h;
    heads = λ head is. inr is;
  }

  -- the newest goal keeps its step, its provisional result and its nodes, and counts what it counted
  above_keeps : (nodes : List (CacheNode I R)) (o p : OpenRun I R) (below : List (OpenRun I R)) → o.step ≡ p.step
      → o.provisional ≡ p.provisional → o.own ≡ p.own → o.cycles_lead ≡ p.cycles_lead → CountsAll o.tally p.tally
      → KeepsUses nodes nodes (o ∷ below) (p ∷ below)
  above_keeps nodes o p below steps earlier owns leads counts = record {
    goals_kept = λ at goal is. is;
    hold = above_hold says o p below steps earlier owns leads nodes;
    heads = heads;
  }
    where
      heads : (head : StackDepth) → IsHead (o ∷ below) head → IsHead (p ∷ below) head
      heads head (inl some) = inl (counts_all o.tally p.tally counts (length below) head some)
      heads head (inr is) = inr is

  same_keeps : (nodes : List (CacheNode I R)) (goals later : List (OpenRun I R))
      → goals ≡ later → KeepsUses nodes nodes goals later
  same_keeps nodes goals later same = subst (KeepsUses nodes nodes goals) same
      (record { goals_kept = λ at goal is. is; hold = λ provisional final answers. answers; heads = λ head is. is })

-- ---- the newest goal takes an answer over

usages_grow : (own : Option HeadUsages) (used : Option CycleHead) → IsSome own → IsSome (usages_over own used)
usages_grow own None some = some
usages_grow own (Some head) some = refl

heads_grow : (step : PathKind) (own used : Option CycleHead) → IsSome own → IsSome (joined_over step own used)
heads_grow step own None some = some
heads_grow step own (Some head) some = refl

module _ {X F I R A T : Type 0} (says : Verdicts R) (nodes : List (CacheNode I R))
    (old new : List (OpenGoal X F I R A T)) (step : PathKind) (required : ℕ) (overflow : Bool) (answer : Heads)
    (a : AnswersNewest step required overflow answer old new) where
  pub taken_counts : CountsAll (tally_of a.entry.state a.run.candidates) (tally_of a.state a.run.candidates)
  taken_counts = record {
    own = λ some. subst IsSome (sym a.takes.usages)
        (usages_grow a.entry.state.usages (at_depth answer (record { 0 = length a.below })) some);
    heads = λ head some. subst IsSome (sym (a.takes.heads head)) (by (head.0 == length a.below) head some);
  }
    where
      by : (b : Bool) (head : StackDepth) → IsSome (at_depth a.entry.state.heads head)
          → IsSome (if b then at_depth a.entry.state.heads head
          else joined_over step (at_depth a.entry.state.heads head) (at_depth answer head))
      by true head some = some
      by false head some = heads_grow step (at_depth a.entry.state.heads head) (at_depth answer head) some

  -- it has the heads of the answer then, but for its own place
  pub heads_come : (head : StackDepth) → head.0 ≢ length a.below → IsSome (at_depth answer head)
      → IsSome (at_depth a.state.heads head)
  heads_come head other some = subst IsSome (sym (a.takes.heads head)) (rw (ne_eqb head.0 (length a.below) other)
      (comes (at_depth a.entry.state.heads head) (at_depth answer head) some))
    where
      comes : (own used : Option CycleHead) → IsSome used → IsSome (joined_over step own used)
      comes own None some = absurd (false≢true some)
      comes own (Some head) some = refl

  -- but for what it counts, the newest goal's run is the same
  pub taken_run : run_of (record a.entry { state = a.state }, a.run)
      ≡ record (run_of (a.entry, a.run)) { tally = tally_of a.state a.run.candidates }
  taken_run = same_run (record { 0 = length a.below }) step required overflow answer
      a.entry.state a.state a.takes a.entry a.run refl

  pub taken_keeps : KeepsUses says nodes nodes (runs_of old) (runs_of new)
  taken_keeps =
      subst (λ l. KeepsUses says nodes nodes (runs_of l) (runs_of new)) (sym a.was)
      (subst (λ l. KeepsUses says nodes nodes (runs_of ((a.entry, a.run) ∷ a.below)) (runs_of l)) (sym a.is)
      (subst (λ o. KeepsUses says nodes nodes (runs_of ((a.entry, a.run) ∷ a.below)) (o ∷ runs_of a.below))
      (sym taken_run)
      (above_keeps says nodes (run_of (a.entry, a.run))
      (record (run_of (a.entry, a.run)) { tally = tally_of a.state a.run.candidates })
      (runs_of a.below) refl refl refl refl taken_counts)))

-- ---- the newest goal's frame makes a request

-- a step changes neither what the newest goal counts nor its nodes
pub stepped_keeps : {D C V P F I R A T : Type 0} (G : DelegateOf D C V P F I R A T) (X : CxOf C I R A T) (cx : C)
    (nodes : List (CacheNode I R)) (given : Received R) (request : Request I R) (old new : List (OpenGoal C F I R A T))
    → HasStepped G X cx given request old new → KeepsUses (verdicts X) nodes nodes (runs_of old) (runs_of new)
stepped_keeps {C = C} {F = F} {I = I} {R = R} {A = A} {T = T} G X cx nodes given request old new s =
    let later : OpenGoal C F I R A T = (
      s.entry,
      record s.run { frame = s.frame; progress = requested (received_by G X cx s.run given s.verdict) request },
    ) in
    subst (λ (l : List (OpenGoal C F I R A T)). KeepsUses (verdicts X) nodes nodes (runs_of l) (runs_of new))
    (sym s.was)
    (subst (λ (l : List (OpenGoal C F I R A T)).
    KeepsUses (verdicts X) nodes nodes (runs_of ((s.entry, s.run) ∷ s.below)) (runs_of l)) (sym s.is)
    (above_keeps (verdicts X) nodes (run_of (s.entry, s.run)) (run_of later) (runs_of s.below) refl refl refl refl
    (same_counts (tally_of s.entry.state s.run.candidates))))

mapped_some : {A B : Type 0} (f : A → B) (o : Option A) → IsSome o → IsSome (option_map f o)
mapped_some f None some = absurd (false≢true some)
mapped_some f (Some x) some = refl

-- each goal that was counted stays counted where a candidate is ignored
pub ignored_counts : {X I R A T : Type 0} (parent : StackDepth) (candidate : UsagesByHead)
    (old new : EntryState X I R A T) (finished later : List UsagesByHead)
    → Ignores parent candidate old new → CountsAll (tally_of old finished) (tally_of new later)
ignored_counts parent candidate old new finished later i = record {
  own = λ some. subst IsSome (sym i.usages)
      (mapped_some (λ own. less_usages own (at_depth candidate parent)) old.usages some);
  heads = λ head some. subst IsSome (sym (i.heads head)) (by (head.0 == parent.0) head some);
}
  where
    by : (b : Bool) (head : StackDepth) → IsSome (at_depth old.heads head)
        → IsSome (if b then at_depth old.heads head
        else option_map (less_head (at_depth candidate head)) (at_depth old.heads head))
    by true head some = some
    by false head some = mapped_some (less_head (at_depth candidate head)) (at_depth old.heads head) some

-- nor does what is noted of candidates
module _ {X F I R A T : Type 0} (says : Verdicts R) (nodes : List (CacheNode I R)) where
  pub noted_keeps : (request : Request I R) (mid after : List (OpenGoal X F I R A T)) → NotesCandidate request mid after
      → KeepsUses says nodes nodes (runs_of mid) (runs_of after)
  noted_keeps (Evaluate kind goal) mid after noted =
      same_keeps says nodes (runs_of mid) (runs_of after) (ap runs_of (sym noted))
  noted_keeps EnterCandidate [] after noted = same_keeps says nodes [] (runs_of after) (ap runs_of (sym noted))
  noted_keeps EnterCandidate (s ∷ below) after noted =
      subst (λ l. KeepsUses says nodes nodes (runs_of (s ∷ below)) (runs_of l)) (sym noted)
      (above_keeps says nodes (run_of s) (run_of (enters s)) (runs_of below) refl refl refl refl
      (record { own = λ some. some; heads = λ head some. some }))
  noted_keeps FinishCandidate [] after noted = same_keeps says nodes [] (runs_of after) (ap runs_of (sym noted))
  noted_keeps FinishCandidate (s ∷ below) after noted =
      subst (λ l. KeepsUses says nodes nodes (runs_of (s ∷ below)) (runs_of l)) (sym noted)
      (above_keeps says nodes (run_of s) (run_of (finishes s)) (runs_of below) refl refl refl refl
      (record { own = λ some. some; heads = λ head some. some }))
  noted_keeps (Ignore n) mid after noted =
      subst (λ l. KeepsUses says nodes nodes (runs_of l) (runs_of after)) (sym noted.was)
      (subst (λ l. KeepsUses says nodes nodes (runs_of ((noted.entry, noted.run) ∷ noted.below)) (runs_of l))
      (sym noted.is)
      (above_keeps says nodes (run_of (noted.entry, noted.run)) (run_of (
        record noted.entry { state = noted.state },
        record noted.run { candidates = slice_set noted.run.candidates n [] },
      )) (runs_of noted.below)
      refl (ap (λ (x : EntryState X I R A T). x.provisional_result) (sym noted.ignores.others)) refl
      (ap (λ (x : EntryState X I R A T). x.node) (sym noted.ignores.others))
      (ignored_counts (record { 0 = length noted.below }) noted.candidate noted.entry.state noted.state
      noted.run.candidates (slice_set noted.run.candidates n []) noted.ignores)))
  noted_keeps (Done r) mid after noted = same_keeps says nodes (runs_of mid) (runs_of after) (ap runs_of (sym noted))
