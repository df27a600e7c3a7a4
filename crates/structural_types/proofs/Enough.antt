-- Two runs of each pair are enough.
use Rattle.std.proofs.Common.{◌≡◌, ℕ, ◌≤◌, Bool, true, false, List, length, Some, Result, inl, inr, refl, sym}
use Rattle.std.proofs.Common.{◌∙◌, subst}
use Rattle.std.proofs.Math.Logic.{∥∥₁_elim}
use Rattle.std.proofs.lemmas.Bool.{true≢false}
use Rattle.search_context.specs.Run.{fault_after, IsFitting, IsOrderly}
use Rattle.search_context.specs.declared.context.Fault.TheVariants.{Conflict}
use Rattle.search_context.specs.declared.context.Reply.{Reply}
use Rattle.delegate_parts.specs.declared.outcome.Outcome.TheVariants.{Maybe, No, Overflow, Yes}
use Rattle.search_rules.specs.Claims.{BreaksOrder, OtherResult, OtherThanStored, OutOfMemory, OutOfOrder, WantsMemory}
use Rattle.question_lists.proofs.Ranked.{orderly, scripts}
use Rattle.two_runs.specs.OneKind.{AsksByOneKind}
use Rattle.structural_types.specs.Below.{Answer, AreDefinite, AreSettled, Cache, CxOf, DelegateOf, Fault, HasOneOfEach}
use Rattle.structural_types.specs.Below.{IsCaused, IsDecisive, IsEnclosed, IsMemoryOrOrder, Memory, Outcome}
use Rattle.structural_types.specs.Below.{outcome_verdicts, StoredReachNested, TwoRunsAreEnough, verdicts}
use Rattle.type_order.specs.Pairs.{askable}
use Rattle.structural_types.specs.Deciding.{EndsDecided, KeepsDeciding}
use Rattle.type_order.specs.Rule.{needs_of, pair, questions_of}
use Rattle.type_order.specs.Subtypes.{forms_of}
use Rattle.type_order.specs.declared.types.Form.{Form}
use Rattle.type_order.specs.declared.delegate.Pair.{Pair}
use Rattle.type_order.specs.declared.types.Types.{Types}
use Rattle.type_order.proofs.Decided.{pairs_are_decisive}
use Rattle.type_order.proofs.Enclosed.{all_coinductive, enclosed}

-- results that are both yes, or both no, are equal
one_of_each : HasOneOfEach outcome_verdicts
one_of_each Yes Yes h e = refl
one_of_each No No h e = refl
one_of_each Yes No h e = absurd cc
one_of_each Yes Maybe h e = absurd cc
one_of_each Yes Overflow h e = absurd cc
one_of_each No Yes h e = absurd cc
one_of_each No Maybe h e = absurd cc
one_of_each No Overflow h e = absurd cc
one_of_each Maybe y h e = absurd (h refl)
one_of_each Overflow y h e = absurd (h refl)

-- each question is asked coinductively, so all of them are of one kind
all_by_one_kind : (forms : List Form) → AsksByOneKind (scripts (needs_of forms) (questions_of forms))
all_by_one_kind forms goal kind asked other other_kind other_asked one _ another _ =
    all_coinductive forms goal one.replies kind asked one.fitting one.asks
    ∙ sym (all_coinductive forms other another.replies other_kind other_asked another.fitting another.asks)

-- there is depth enough for all pairs that may be asked
pub enclosed_at : (types : Types) (depth l r : ℕ) → depth ≡ 18446744073709551615 →
    l ≤ length (forms_of types) → r ≤ length (forms_of types) →
    IsEnclosed (scripts (needs_of (forms_of types)) (questions_of (forms_of types)))
    (askable (forms_of types)) depth (pair l r)
enclosed_at types depth l r deep left right =
    subst (λ d. IsEnclosed (scripts (needs_of (forms_of types)) (questions_of (forms_of types)))
    (askable (forms_of types)) d (pair l r)) (sym deep) (enclosed types l r left right)

-- a conflict is neither want of memory nor a request out of order
no_conflict : (goal : Pair) (stored found : Outcome) (fault : Fault Pair Outcome)
    → fault ≡ Conflict goal stored found → IsMemoryOrOrder fault → ⊥
no_conflict goal stored found fault is (WantsMemory e) = absurd cc
no_conflict goal stored found fault is (BreaksOrder number e) = absurd cc

module _ {D C V P F A T : Type 0} (G : DelegateOf D C V P F Pair Outcome A T) (X : CxOf C Pair Outcome A T)
    (same : Pair → Pair → Bool) (types : Types) (cache : Cache C Pair Outcome T) where
  -- so it is for a delegate that has the scripts and the verdicts of pairs, and a cache that is kept ready
  pub enough : (depth l r : ℕ) (noop : Bool)
      → verdicts X ≡ outcome_verdicts
      → G.script cache.cx ≡ scripts (needs_of (forms_of types)) (questions_of (forms_of types))
      → 2 ≤ G.FIXPOINT_STEP_LIMIT → ((asked : Pair) → G.scoped cache.cx asked ≡ false)
      → depth ≡ 18446744073709551615 → l ≤ length (forms_of types) → r ≤ length (forms_of types) → noop ≡ true
      → KeepsDeciding same (forms_of types) cache
      → TwoRunsAreEnough G X same (askable (forms_of types)) cache depth (pair l r) noop
  enough depth l r noop says script some_runs unscoped deep left right unrecorded ready = record {
    needs = record {
      decisive =
          subst (λ s. IsDecisive (verdicts X) s) (sym script)
          (subst (λ v. IsDecisive v (scripts (needs_of (forms_of types)) (questions_of (forms_of types)))) (sym says)
          (pairs_are_decisive (forms_of types)));
      one_of_each = subst HasOneOfEach (sym says) one_of_each;
      one_kind = inr (subst AsksByOneKind (sym script) (all_by_one_kind (forms_of types)));
      some_runs = some_runs;
      enclosed = subst (λ s. IsEnclosed s (askable (forms_of types)) depth (pair l r)) (sym script)
          (enclosed_at types depth l r deep left right);
      unscoped = λ asked within. unscoped asked;
      unrecorded = unrecorded;
    };
    no_overflow = ready.no_overflow;
    definite = subst (λ v. AreDefinite v same cache.results) (sym says) ready.definite;
    settled = record {
      settled =
          subst (λ v. AreSettled v same cache.nodes cache.results (askable (forms_of types))) (sym says) ready.settled;
      suit = inr (subst (λ s. StoredReachNested s same (askable (forms_of types)) cache.results)
          (sym script) ready.reached);
    };
  }

  -- and what such a call leaves is ready again
  pub stays_ready : (result : Result (Answer Outcome) (Fault Pair Outcome)) (new : Cache C Pair Outcome T)
      → verdicts X ≡ outcome_verdicts
      → G.script cache.cx ≡ scripts (needs_of (forms_of types)) (questions_of (forms_of types))
      → G.ENABLE_PROVISIONAL_CACHE ≡ true
      → EndsDecided G X same (askable (forms_of types)) cache.cx result new → KeepsDeciding same (forms_of types) new
  stays_ready result new says script provisional ends = record {
    definite = subst (λ v. AreDefinite v same new.results) says ends.definite;
    no_overflow = ends.no_overflow;
    settled = subst (λ v. AreSettled v same new.nodes new.results (askable (forms_of types))) says ends.settled;
    reached = elim ends.suit [
      | inl off ↦ absurd (true≢false (sym provisional ∙ off))
      | inr reached ↦ subst (λ s. StoredReachNested s same (askable (forms_of types)) new.results) script reached
    ];
  }

  -- The only fault of such a call is want of memory: no request of a pair's script is out of order,
  -- and no conflict is left.
  pub only_memory : (fault : Fault Pair Outcome)
      → G.script cache.cx ≡ scripts (needs_of (forms_of types)) (questions_of (forms_of types))
      → ((asked : Pair) → G.scoped cache.cx asked ≡ false)
      → IsCaused G X same cache fault → ∥ IsMemoryOrOrder fault ∥₁ → fault ≡ Memory
  only_memory fault script unscoped (OutOfMemory is) either = is
  only_memory fault script unscoped (OutOfOrder goal replies number fitting after is) either =
      absurd (in_order goal replies number fitting after)
    where
      in_order : (goal : Pair) (replies : List (Reply Outcome)) (number : ℕ)
          → IsFitting (G.script cache.cx goal) replies → fault_after (G.script cache.cx goal) replies ≡ Some number → ⊥
      in_order goal replies number fitting after =
          let none = subst (λ s. IsOrderly (s goal)) (sym script)
          (orderly (needs_of (forms_of types)) (questions_of (forms_of types)) goal) replies fitting in
          absurd cc
  only_memory fault script unscoped (OtherResult goal stored found conflict is) either =
      absurd (∥∥₁_elim either (λ a b. absurd a) (no_conflict goal stored found fault is))
  only_memory fault script unscoped (OtherThanStored goal stored found scoped conflict is) either =
      absurd (true≢false (sym scoped ∙ unscoped goal))

-- the cache is ready for the same types in other words
pub ready_for :
    {C T : Type 0} (same : Pair → Pair → Bool) (forms others : List Form) (cache : Cache C Pair Outcome T)
    → others ≡ forms → KeepsDeciding same forms cache → KeepsDeciding same others cache
ready_for same forms others cache are ready = subst (λ fs. KeepsDeciding same fs cache) (sym are) ready
