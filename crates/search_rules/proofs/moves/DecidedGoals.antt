-- Each move keeps the goals under evaluation decided.
use Rattle.std.proofs.Common.{◌≡◌, ◌≢◌, ℕ, zero, suc, ◌+◌, Bool, true, false, if◌then◌else◌, List, [], ◌∷◌, ◌++◌, map}
use Rattle.std.proofs.Common.{reverse, drop, Option, None, Some, unwrap_or, slice_get, sym, ap, ◌∙◌, subst, inl}
use Rattle.std.proofs.Common.{inr, arith}
use Rattle.std.specs.Option.{IfSome}
use Rattle.std.proofs.lemmas.Grind.{reverse_onto}
use Rattle.std.proofs.lemmas.List.{drop-map, map-append, reverse-append}
use Rattle.open_graphs.specs.Graph as theory
use Rattle.list_lemmas.proofs.Lists.{get_cases}
use Rattle.search_rules.specs.Below.{PathKind, Inductive, Unknown, Coinductive, ForcedAmbiguity, Reply, OpenGoal}
use Rattle.search_rules.specs.Below.{StackEntry, path_kind_from, IsDecidedKind, IsDecidedReply, AreDecided, IsDefinite}
use Rattle.search_rules.specs.Below.{IsCycleResult, greater_kind, greatest_kind, is_coinductive, is_inductive, Verdicts}
use Rattle.search_rules.specs.Words.{IsDecided, AllDecided}

-- ---- kinds

greater_decided : (k l : PathKind) → IsDecidedKind k → IsDecidedKind l → IsDecidedKind (greater_kind k l)
greater_decided Unknown l a b = absurd a
greater_decided ForcedAmbiguity l a b = absurd a
greater_decided k Unknown a b = absurd b
greater_decided k ForcedAmbiguity a b = absurd b
greater_decided k l a b = tt

-- each kind is decided
abbrev pub KindsDecided : List PathKind → Type 0
KindsDecided [] = Unit {0}
KindsDecided (k ∷ ks) = IsDecidedKind k × KindsDecided ks

greatest_decided : (kinds : List PathKind) → KindsDecided kinds → IsDecidedKind (greatest_kind kinds)
greatest_decided [] h = tt
greatest_decided (k ∷ ks) h = greater_decided k (greatest_kind ks) h.0 (greatest_decided ks h.1)

drop_last : (n : ℕ) (kinds : List PathKind) (k : PathKind) → KindsDecided (drop n kinds) → IsDecidedKind k
    → KindsDecided (drop n (kinds ++ k ∷ []))
drop_last zero [] k h last = (last, tt)
drop_last zero (j ∷ kinds) k h last = (h.0, drop_last zero kinds k h.1 last)
drop_last (suc n) (j ∷ kinds) k h last = drop_last n kinds k h last
drop_last (suc zero) [] k h last = tt
drop_last n kinds k h last = tt

initial_definite : (kind : PathKind) (y n : Bool) → IsDecidedKind kind → y ≡ is_coinductive kind → n ≡ is_inductive kind
    → (if y then theory.Yes else if n then theory.No else theory.Neither) ≢ theory.Neither
initial_definite Unknown y n decided says denies e = absurd decided
initial_definite ForcedAmbiguity y n decided says denies e = absurd decided
initial_definite Inductive true n decided says denies e = cc
initial_definite Inductive false n decided says denies e = let e : theory.No ≡ theory.Neither =
    subst (λ b. (if b then theory.No else theory.Neither) ≡ theory.Neither) denies e in cc
initial_definite Coinductive y n decided says denies e = let e : theory.Yes ≡ theory.Neither =
    subst (λ b. (if b then theory.Yes else if n then theory.No else theory.Neither) ≡ theory.Neither) says e in cc

cycle_at : {R : Type 0} (says : Verdicts R) (earlier : Option R) (initial : R) → IfSome earlier (IsDefinite says)
    → IsDefinite says initial → IsDefinite says (unwrap_or earlier initial)
cycle_at says None initial first h = h
cycle_at says (Some r) initial first h = first

-- ---- goals

module _ {X F I R A T : Type 0} (says : Verdicts R) where
  pub newest_decided : (s : OpenGoal X F I R A T) (below : List (OpenGoal X F I R A T))
      → AllDecided says (s ∷ below) → IsDecided says s
  newest_decided s [] h = h
  newest_decided s (p ∷ below) h = h.0

  pub below_decided : (s : OpenGoal X F I R A T) (below : List (OpenGoal X F I R A T))
      → AllDecided says (s ∷ below) → AllDecided says below
  below_decided s [] h = tt
  below_decided s (p ∷ below) h = h.2

  -- the newest goal changes, but for its step
  pub changed_decided : (s t : OpenGoal X F I R A T) (below : List (OpenGoal X F I R A T))
      → t.0.step_kind_from_parent ≡ s.0.step_kind_from_parent → (IsDecided says s → IsDecided says t)
      → AllDecided says (s ∷ below) → AllDecided says (t ∷ below)
  changed_decided s t [] same change h = change h
  changed_decided s t (p ∷ below) same change h = (change h.0, subst IsDecidedKind (sym same) h.1, h.2)

  pub pushed_decided : (s : OpenGoal X F I R A T) (below : List (OpenGoal X F I R A T)) → IsDecided says s
      → IsDecidedKind s.0.step_kind_from_parent → AllDecided says below → AllDecided says (s ∷ below)
  pushed_decided s [] here kind h = here
  pushed_decided s (p ∷ below) here kind h = (here, kind, h)

  -- the steps above a head
  steps_decided : (goals : List (OpenGoal X F I R A T)) → AllDecided says goals → (n : ℕ)
      → KindsDecided (drop (suc n) (map (λ e. e.step_kind_from_parent) (reverse (map (λ s. s.0) goals))))
  steps_decided [] h n = tt
  steps_decided (s ∷ []) h zero = tt
  steps_decided (s ∷ []) h (suc n) = tt
  steps_decided (s ∷ p ∷ below) h n =
      let kinds = map (λ (e : StackEntry X I R A T). e.step_kind_from_parent)
      (reverse (map (λ (t : OpenGoal X F I R A T). t.0) (p ∷ below))) in
      subst (λ l. KindsDecided (drop (suc n) l))
      (sym (map-append (λ (e : StackEntry X I R A T). e.step_kind_from_parent)
      (reverse (map (λ (t : OpenGoal X F I R A T). t.0) (p ∷ below))) (s.0 ∷ []))
      ∙ ap (map (λ (e : StackEntry X I R A T). e.step_kind_from_parent))
      (sym (reverse_onto (map (λ (t : OpenGoal X F I R A T). t.0) (p ∷ below)) s.0 [])))
      (drop_last (suc n) (map (λ (e : StackEntry X I R A T). e.step_kind_from_parent)
      (reverse (map (λ (t : OpenGoal X F I R A T). t.0) (p ∷ below))))
      s.0.step_kind_from_parent (steps_decided (p ∷ below) h.2 n) h.1)

  path_decided : (goals : List (OpenGoal X F I R A T)) (head : ℕ) (step : PathKind) → AllDecided says goals
      → IsDecidedKind step → IsDecidedKind (path_kind_from (reverse (map (λ s. s.0) goals)) head step)
  path_decided goals head step h decided =
      let next : head + 1 ≡ suc head = omega arith in
      let above = subst KindsDecided (drop-map (λ (e : StackEntry X I R A T). e.step_kind_from_parent) (suc head)
      (reverse (map (λ (s : OpenGoal X F I R A T). s.0) goals))) (steps_decided goals h head) in
      greatest_decided (step ∷ map (λ e. e.step_kind_from_parent) (drop (head + 1) (reverse (map (λ s. s.0) goals)))) (
        decided,
        subst (λ n. KindsDecided (map (λ (e : StackEntry X I R A T). e.step_kind_from_parent)
            (drop n (reverse (map (λ (s : OpenGoal X F I R A T). s.0) goals))))) (sym next) above,
      )

  provisional_at : (goals : List (OpenGoal X F I R A T)) → AllDecided says goals → (j : ℕ) (e : StackEntry X I R A T)
      → slice_get (reverse (map (λ s. s.0) goals)) j ≡ Some e → IfSome e.state.provisional_result (IsDefinite says)
  provisional_at [] h j e at = absurd cc
  provisional_at (s ∷ below) h j e at = elim (get_cases (reverse (map (λ t. t.0) below)) s.0 j e
      (ap (λ l. slice_get l j) (sym (reverse_onto (map (λ t. t.0) below) s.0 [])) ∙ at)) [
        | inl lower ↦ provisional_at below (below_decided s below h) j e lower
        | inr here ↦
            subst (λ d. IfSome d.state.provisional_result (IsDefinite says)) here.1
            (newest_decided s below h).provisional
      ]

  -- the answer to a cycle
  pub cycle_decided :
      (goals : List (OpenGoal X F I R A T)) (head : ℕ) (step : PathKind) (e : StackEntry X I R A T) (initial : R)
      → AllDecided says goals → IsDecidedKind step → slice_get (reverse (map (λ s. s.0) goals)) head ≡ Some e
      → IsCycleResult says.is_yes says.is_no (path_kind_from (reverse (map (λ s. s.0) goals)) head step) initial
      → IsDefinite says (unwrap_or e.state.provisional_result initial)
  cycle_decided goals head step e initial h decided at sorted =
      cycle_at says e.state.provisional_result initial (provisional_at goals h head e at)
      (initial_definite (path_kind_from (reverse (map (λ s. s.0) goals)) head step) (says.is_yes initial)
      (says.is_no initial) (path_decided goals head step h decided) sorted.yes sorted.no)

-- one reply more
pub replied_decided : {R : Type 0} (says : Verdicts R) (replies : List (Reply R)) (reply : Reply R)
    → IsDecidedReply says reply → AreDecided says (reverse replies) → AreDecided says (reverse (replies ++ reply ∷ []))
replied_decided says replies reply decided h =
    subst (AreDecided says) (sym (reverse-append replies (reply ∷ []))) (decided, h)
