-- A question keeps provisional entries apart from the goals that are worked out: where no entry is used there are none,
-- and else goals that reach each other ask by one kind.
use Rattle.std.proofs.Common.{◌≡◌, Bool, true, IsSome, List, [], Some, inl, inr, ap}
use Rattle.two_runs.specs.Evaluations.{EntriesSuitCall, NoneUsed, OneKind}
use Rattle.two_runs.specs.Below.{AvailableDepth, Cache, CacheNode, Call, CxOf, DelegateOf, entries_at, Evaluate}
use Rattle.two_runs.specs.Below.{first_accepted, HasStepped, Hit, is_applicable, IsNew, IsRight, Lists, NotesCandidate}
use Rattle.two_runs.specs.Below.{OpenGoal, PathKind, paths_at, ProvisionalCacheEntry, Pushes, Received, Request}
use Rattle.two_runs.specs.Below.{Requests, Store, StoredResult, usable}
use Rattle.search_state.specs.declared.evaluation.Evaluation.{Evaluation}
use Rattle.search_questions.specs.Words.{AskingLeadsTo, asking, ByEntry, ByStored, OverCycle, Pushed, Refused}
use Rattle.two_runs.specs.Kinds.{StoredSuit}
use Rattle.search_rules.specs.Calls.{CallIsEnclosed}
use Rattle.two_runs.proofs.questions.OneKind.{asked_keeps, began_keeps, noted_keeps, used_without_entries}

module _ {D C V P F I R A T : Type 0} (G : DelegateOf D C V P F I R A T) (X : CxOf C I R A T) (same : I → I → Bool)
    (by_value : (x y : I) → same x y ≡ true → x ≡ y) (cx : C) (kind : PathKind) (goal : I) (old : Cache C I R T)
    (e : Evaluation D C V P F I R A T) (starts : _) (call : Call I) (ahead : _) (enclosed : CallIsEnclosed G X cx call)
    (asked : Requests G X same cx (Evaluate kind goal) call ahead old e starts)
    (right : IsRight G X same cx old e) where
  -- no goal that is nested in the stored result that answers it has an entry
  pub used_have_none : EntriesSuitCall G same cx call old.results e.goals e.provisional
      → (depth : AvailableDepth) (hit : Hit I R T)
      → first_accepted (is_applicable same (asking G X same cx kind goal e)) (usable same old.results goal depth.0)
      ≡ Some hit → (other : I) → IsSome (paths_at same hit.nested_goals other)
      → entries_at same e.provisional other ≡ []
  used_have_none (NoneUsed off none) depth hit found other nested = none other
  used_have_none (OneKind kept) depth hit found other nested = used_without_entries G X same by_value cx kind goal old e
      starts call ahead enclosed asked right kept depth hit found other nested

  pub asked_keeps_entries : EntriesSuitCall G same cx call old.results e.goals e.provisional
      → (noop : Bool) (received : Received R) (new : Cache C I R T) (after : Evaluation D C V P F I R A T) (later : _)
      → AskingLeadsTo G X same cx kind goal noop old e starts received new after later
      → EntriesSuitCall G same cx call new.results after.goals after.provisional
  asked_keeps_entries (OneKind kept) noop received new after later comes = OneKind (asked_keeps G X same by_value cx
      kind goal old e starts call ahead enclosed asked right kept noop received new after later comes)
  asked_keeps_entries (NoneUsed off none) noop received new after later (Refused goals refused noted) =
      NoneUsed off none
  asked_keeps_entries (NoneUsed off none) noop received new after later (ByEntry depth entry goals at is takes nested) =
      NoneUsed off none
  asked_keeps_entries (NoneUsed off none) noop received new after later
      (ByStored depth hit goals at no_entry is takes usable) = NoneUsed off none
  asked_keeps_entries (NoneUsed off none) noop received new after later
      (OverCycle depth head given goals at no_entry not_stored found closes) = NoneUsed off none
  asked_keeps_entries (NoneUsed off none) noop received new after later
      (Pushed depth goals held nodes now at no_entry not_stored absent pushes fates holds fated one counted) =
      NoneUsed off none

-- a call begins with a goal that is pushed
pub began_keeps_entries : {D C V P F I R A T : Type 0} (G : DelegateOf D C V P F I R A T) (X : CxOf C I R A T)
    (same : I → I → Bool) (cx : C) (kind : PathKind) (goal : I) (old : Cache C I R T)
    (e : Evaluation D C V P F I R A T) (is_new : IsNew e) (depth : AvailableDepth)
    (goals : List (OpenGoal C F I R A T)) (nodes : List (CacheNode I R))
    → Pushes G X cx goal kind depth old.nodes nodes e.goals goals → (call : Call I)
    → StoredSuit G.ENABLE_PROVISIONAL_CACHE (G.script cx) same call.goals old.results
    → EntriesSuitCall G same cx call old.results goals e.provisional
began_keeps_entries G X same cx kind goal old e is_new depth goals nodes pushes call (inr reached) =
    OneKind (began_keeps G X same cx kind goal old e is_new depth goals nodes pushes call reached)
began_keeps_entries {C = C} {I = I} {R = R} {A = A} {T = T} G X same cx kind goal old e is_new depth goals nodes
    pushes call (inl off) = NoneUsed off
    (λ other. ap (λ (l : Lists I (ProvisionalCacheEntry C I R A T)). entries_at same l other) is_new.no_entries)

-- the newest goal takes its step, and notes what it requested of candidates
pub noted_keeps_entries : {D C V P F I R A T : Type 0} (G : DelegateOf D C V P F I R A T) (X : CxOf C I R A T)
    (same : I → I → Bool) (cx : C) (call : Call I) (given : Received R) (request : Request I R)
    (results : Store I (StoredResult I R T)) (old mid after : List (OpenGoal C F I R A T))
    (entries : Lists I (ProvisionalCacheEntry C I R A T))
    → HasStepped G X cx given request old mid → NotesCandidate request mid after
    → EntriesSuitCall G same cx call results old entries → EntriesSuitCall G same cx call results after entries
noted_keeps_entries G X same cx call given request results old mid after entries s noted (NoneUsed off none) =
    NoneUsed off none
noted_keeps_entries G X same cx call given request results old mid after entries s noted (OneKind kept) =
    OneKind (noted_keeps G X same cx call given request results old mid after entries s noted kept)
