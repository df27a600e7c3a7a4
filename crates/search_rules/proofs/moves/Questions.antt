-- What a question comes to, whichever goals are under evaluation.
use Rattle.std.proofs.Common.{◌≡◌, ℕ, ◌+◌, ◌-◌, ◌/◌, ◌^◌, ◌<◌, ◌≤◌, nat_eq, if◌then◌else◌, Bool, true, false, List, []}
use Rattle.std.proofs.Common.{◌∷◌, Option, Some, None, Result, Ok, Err, IfErr, IfOk, refl, sym, ap, ◌∙◌, subst, arith}
use Rattle.std.specs.Result.{IsErrAnd}
use Rattle.std.specs.List.{list_any}
use Rattle.std.specs.Option.{option_and_then, option_map}
use Rattle.std.proofs.lemmas.Bool.Decides.{nat_tests}
use Rattle.search_rules.specs.Below.{CacheNode, DelegateOf, CxOf, Evaluate, Begin, Answer, Memory, PathKind}
use Rattle.search_rules.specs.Below.{AvailableDepth, OpenGoal, depth_below, CountsOne, IsCycleResult, IsAllowed, newest}
use Rattle.search_rules.specs.Below.{StackDepth, StoredResult, NestedPaths, Store, Received, Heads, IsDefinite}
use Rattle.search_rules.specs.Below.{HasNoRank, AnswersNewest, overflowed, with_nested_goals, NotesOverflow}
use Rattle.search_rules.specs.Below.{verdicts, IsAmong}
use Rattle.search_rules.specs.Words.{UsesStored, Call, CallMeetsNone, CallIsEnclosed, seen, Decidedly, HasAsked}
use Rattle.search_rules.specs.Words.{CallGoesOn, HasStopped, KeepsStore, ClosesCycle, Pushes}
use Rattle.search_rules.proofs.moves.StoredAnswers.{stored_goes_on}
use Rattle.search_rules.proofs.moves.Moves.{allowed, asker_fits, enclosed_asker, refused_goes_on, cycle_goes_on}
use Rattle.search_rules.proofs.moves.Moves.{provisional_goes_on, pushed_goes_on, failed_push_stopped}

pub if_err : {T E P : Type 0} (r : Result T E) → P → IfErr r (λ e. P)
if_err (Ok x) p = tt
if_err (Err e) p = p

-- what follows from what holds of a value
pub if_ok_then : {T E : Type 0} (r : Result T E) (Q P : T → Type 0) → IfOk r Q → ((x : T) → Q x → P x) → IfOk r P
if_ok_then (Ok x) Q P h from = from x h
if_ok_then (Err e) Q P h from = tt

-- an error that says what it is
pub same_err : {T E : Type 0} (r : Result T E) (e : E) → IsErrAnd r (λ other. other ≡ e) → Err e ≡ r
same_err (Ok x) e h = absurd h
same_err (Err other) e h = ap Err (sym h)

pub no_ok : {T E : Type 0} (r : Result T E) (Q : E → Type 0) (P : T → Type 0) → IsErrAnd r Q → IfOk r P
no_ok (Ok x) Q P h = absurd h
no_ok (Err e) Q P h = tt

pub if_err_and : {T E : Type 0} (r : Result T E) (Q P : E → Type 0) → IsErrAnd r Q → ((e : E) → Q e → P e) → IfErr r P
if_err_and (Ok x) Q P h from = tt
if_err_and (Err e) Q P h from = from e h

pub none_of : {A B : Type 0} (f : A → B) (o : Option A) → ((x : A) → o ≡ Some x → ⊥) → None ≡ option_map f o
none_of f None never = refl
none_of f (Some x) never = absurd (never x refl)

no_depth : (a divisor : ℕ) (none overflow : Bool) → nat_eq a 0 ≡ none
    → (if none then None else if overflow then Some (a / divisor) else Some (a - 1)) ≡ None → a ≡ 0
no_depth a divisor true overflow at is = grind (arith, nat_tests)
no_depth a divisor false true at is = absurd cc
no_depth a divisor false false at is = absurd cc

module _ {D C V P F I R A T : Type 0} (G : DelegateOf D C V P F I R A T) (X : CxOf C I R A T) (cx : C) (call : Call I)
    (ahead : ℕ) (kind : PathKind) (goal : I) (starts : ℕ) (met : Bool) where
  abbrev Goals : Type 0
  Goals = List (OpenGoal C F I R A T)

  pub refused_at : (r : R) (s : OpenGoal C F I R A T) (below : Goals) (nested : NestedPaths I)
      → None ≡ depth_below G.DIVIDE_AVAILABLE_DEPTH_ON_OVERFLOW s.0
      → HasAsked G X cx call ahead (Evaluate kind goal) (s ∷ below) starts met → CallGoesOn G X cx call ahead (Answer r)
      ((overflowed (record s.0 { state = with_nested_goals s.0.state nested }), s.1) ∷ below) starts true
  refused_at r s below nested none h =
      let at : s.0.available_depth.0 ≡ 0 = no_depth s.0.available_depth.0 G.DIVIDE_AVAILABLE_DEPTH_ON_OVERFLOW
      (nat_eq s.0.available_depth.0 0) s.0.state.encountered_overflow refl (sym none) in
      refused_goes_on G X cx call ahead kind goal r s below nested starts met at h

  -- in an enclosed call no question is refused
  pub enclosed_refuses_none : (goals : Goals)
      → None ≡ option_and_then (λ s. depth_below G.DIVIDE_AVAILABLE_DEPTH_ON_OVERFLOW s.0) (newest goals)
      → CallIsEnclosed G X cx call → HasAsked G X cx call ahead (Evaluate kind goal) goals starts met → ⊥
  enclosed_refuses_none [] none enclosed h = h.asked.mirror
  enclosed_refuses_none (s ∷ below) none enclosed h =
      enclosed_asker G X cx call ahead (Evaluate kind goal) s below starts met enclosed
      (no_depth s.0.available_depth.0 G.DIVIDE_AVAILABLE_DEPTH_ON_OVERFLOW (nat_eq s.0.available_depth.0 0)
      s.0.state.encountered_overflow refl (sym none)) h

  pub ask_refused : (same : I → I → Bool) (r : R) (goals new : Goals)
      → None ≡ option_and_then (λ s. depth_below G.DIVIDE_AVAILABLE_DEPTH_ON_OVERFLOW s.0) (newest goals)
      → NotesOverflow same goals new → HasAsked G X cx call ahead (Evaluate kind goal) goals starts met
      → CallGoesOn G X cx call ahead (Answer r) new starts true
  ask_refused same r goals new none n h =
      subst (λ v. CallGoesOn G X cx call ahead (Answer r) v starts true) (sym n.is)
      (refused_at r (n.entry, n.run) n.below n.nested (none ∙ ap (λ l. option_and_then
      (λ (t : OpenGoal C F I R A T). depth_below G.DIVIDE_AVAILABLE_DEPTH_ON_OVERFLOW t.0) (newest l)) n.was)
      (subst (λ v. HasAsked G X cx call ahead (Evaluate kind goal) v starts met) n.was h))

  module _ (more : 2 ≤ G.DIVIDE_AVAILABLE_DEPTH_ON_OVERFLOW) (depth : AvailableDepth) where
    may_ask : (s : OpenGoal C F I R A T)
        → Some depth.0 ≡ depth_below G.DIVIDE_AVAILABLE_DEPTH_ON_OVERFLOW s.0 → IsAllowed (seen G X cx s) depth.0
    may_ask s is = let a = allowed G.DIVIDE_AVAILABLE_DEPTH_ON_OVERFLOW depth.0 s.0 more is in
        record { is_less = a.0; is_next = a.1 }

    pub may_ask_of : (goals : Goals)
        → Some depth.0 ≡ option_and_then (λ s. depth_below G.DIVIDE_AVAILABLE_DEPTH_ON_OVERFLOW s.0) (newest goals)
        → (s : OpenGoal C F I R A T) (below : Goals) → goals ≡ s ∷ below → IsAllowed (seen G X cx s) depth.0
    may_ask_of goals may s below is = may_ask s (may ∙ ap (λ l. option_and_then
        (λ (t : OpenGoal C F I R A T). depth_below G.DIVIDE_AVAILABLE_DEPTH_ON_OVERFLOW t.0) (newest l)) is)

    -- the depth of a question is less than any number of a word
    pub asked_depth_fits : (goals : Goals)
        → Some depth.0 ≡ option_and_then (λ s. depth_below G.DIVIDE_AVAILABLE_DEPTH_ON_OVERFLOW s.0) (newest goals)
        → HasAsked G X cx call ahead (Evaluate kind goal) goals starts met → depth.0 + 1 < 2 ^ 64
    asked_depth_fits [] may h = absurd cc
    asked_depth_fits (s ∷ below) may h = omega (
      arith,
      (may_ask s may).is_less,
      asker_fits G X cx call ahead (Evaluate kind goal) s below starts met h,
      call.fits,
    )

    pub ask_stored :
        (same : I → I → Bool) (results : Store I (StoredResult I R T)) (received : Received R) (goals new : Goals)
        → Some depth.0 ≡ option_and_then (λ s. depth_below G.DIVIDE_AVAILABLE_DEPTH_ON_OVERFLOW s.0) (newest goals)
        → UsesStored same (G.script cx) results kind goal depth.0 received goals new
        → KeepsStore G X cx same call met results → HasAsked G X cx call ahead (Evaluate kind goal) goals starts met
        → CallGoesOn G X cx call ahead received.reply new starts met
    ask_stored same results received goals new may uses keeps h = stored_goes_on G X cx call same results ahead kind
        goal depth.0 received goals new starts met (may_ask_of goals may) uses keeps h

    -- an entry of the provisional cache answers it
    pub ask_provisional : (r : R) (overflow : Bool) (answer : Heads) (goals new : Goals)
        → Some depth.0 ≡ option_and_then (λ s. depth_below G.DIVIDE_AVAILABLE_DEPTH_ON_OVERFLOW s.0) (newest goals)
        → HasNoRank (G.script cx) goal → (CallMeetsNone G X cx call met → overflow ≡ false)
        → Decidedly G X cx call met (IsDefinite (verdicts X) r) → AnswersNewest kind 0 overflow answer goals new
        → HasAsked G X cx call ahead (Evaluate kind goal) goals starts met
        → CallGoesOn G X cx call ahead (Answer r) new starts met
    ask_provisional r overflow answer goals new may no_rank calm definite a h = provisional_goes_on G X cx call ahead
        kind goal r overflow answer depth.0 goals new starts met (may_ask_of goals may) no_rank calm definite a h

    pub ask_in_cycle : (eq : I → I → Bool) → ((x y : I) → eq x y ≡ true → x ≡ y)
        → ((cycle : PathKind) (asked : I) → IsCycleResult X.is_yes X.is_no cycle (G.initial_result cx cycle asked))
        → (received : Received R) (head : StackDepth) (goals new : Goals)
        → Some depth.0 ≡ option_and_then (λ s. depth_below G.DIVIDE_AVAILABLE_DEPTH_ON_OVERFLOW s.0) (newest goals)
        → list_any (λ t. eq goal t.0.input) goals ≡ true → ClosesCycle G X cx eq kind goal head received goals new
        → HasAsked G X cx call ahead (Evaluate kind goal) goals starts met
        → CallGoesOn G X cx call ahead received.reply new starts met
    ask_in_cycle eq exact sorts reply head goals new may found closes h = cycle_goes_on G X cx call eq exact sorts ahead
        kind goal reply depth.0 head goals new starts met (may_ask_of goals may) found closes h

    pub ask_pushes : {before after : List (CacheNode I R)} → (goals new : Goals) (now : ℕ)
        → Some depth.0 ≡ option_and_then (λ s. depth_below G.DIVIDE_AVAILABLE_DEPTH_ON_OVERFLOW s.0) (newest goals)
        → (IsAmong (seen G X cx) goal goals → ⊥) → now ≤ starts + 1 → (G.counts ≡ true → CountsOne G.last starts now)
        → Pushes G X cx goal kind depth before after goals new
        → HasAsked G X cx call ahead (Evaluate kind goal) goals starts met
        → CallGoesOn G X cx call ahead Begin new now met
    ask_pushes [] new now may absent one counted push h = absurd cc
    ask_pushes (s ∷ below) new now may absent one counted push h = pushed_goes_on G X cx call ahead kind goal depth s
        below new starts now met (may_ask s may) absent one counted push h

    pub ask_stops : (goals : Goals) (now : ℕ)
        → Some depth.0 ≡ option_and_then (λ s. depth_below G.DIVIDE_AVAILABLE_DEPTH_ON_OVERFLOW s.0) (newest goals)
        → starts ≤ now → now ≤ starts + 1 → HasAsked G X cx call ahead (Evaluate kind goal) goals starts met
        → HasStopped G X cx call Memory now met
    ask_stops [] now may least one h = absurd cc
    ask_stops (s ∷ below) now may least one h =
        failed_push_stopped G X cx call ahead kind goal depth.0 s below starts now met (may_ask s may) least one h
