-- What is stored keeps its worth as the cache changes, and what a look-up gives is worth as much.
use Rattle.std.proofs.Common.{◌≡◌, ℕ, ◌≤◌, nat_le, Bool, true, false, if◌then◌else◌, List, [], ◌∷◌, Option, None, Some}
use Rattle.std.proofs.Common.{Result, Ok, Err, inl, inr, refl, sym, ap, ap₂, ◌∙◌, subst, subst₂, arith}
use Rattle.std.specs.Prelude.{IfErr, OnOk, OnErr}
use Rattle.std.specs.Cmp.{IsEquivalence}
use Rattle.std.specs.Option.{IfSome, option_map, option_or}
use Rattle.std.proofs.lemmas.Bool.{leb-true}
use Rattle.std.proofs.lemmas.List.Folds.{find-append}
use Rattle.global_cache.specs.Below.{Grown, Request, Reply, Fault, Conflict, Memory, NestedPaths, IsPlainTo, IsPlain}
use Rattle.global_cache.specs.Below.{IsBelowRank, Verdicts, CacheNode, KeepsGoals, HasGraph, shapes_of}
use Rattle.global_cache.specs.Words.{CacheData, Place, Success, WithOverflow, StoredResult, Hit, hit_of, hit_at}
use Rattle.global_cache.specs.Words.{successes, overflows, usable, first_accepted, Store, stored_at, AnswersStoring}
use Rattle.global_cache.specs.Words.{Puts, IsSoundResult, AreSoundResults}
use Rattle.graph_nodes.proofs.Definites.{HasGraph-kept}
use Rattle.search_context.proofs.Ranks.{one_plain_value}
use Rattle.global_cache.proofs.Stores.{put_cases}

module _ {I R T : Type 0} (same : I → I → Bool) (says : Verdicts R)
    (scripts : I → List (Reply R) → Request I R) where
  pub AreSoundResults-grown : (old new : List (CacheNode I R)) (results : Store I (StoredResult I R T))
      → KeepsGoals old new → Grown (shapes_of says old) (shapes_of says new)
      → AreSoundResults same says scripts old results → AreSoundResults same says scripts new results
  AreSoundResults-grown old new results goals grown kept input place s is =
      let k = kept input place s is in
      record { graph = HasGraph-kept says old new goals grown input s.result.result s.node k.graph; plain = k.plain }

  module _ (by_value : (x y : I) → same x y ≡ true → x ≡ y) (nodes : List (CacheNode I R))
      (old new : Store I (StoredResult I R T)) (input : I) (place : Place) (stored : StoredResult I R T)
      (may : IsSoundResult says scripts nodes input place stored)
      (kept : AreSoundResults same says scripts nodes old) where
    pub AreSoundResults-put : Puts same old new input place stored → AreSoundResults same says scripts nodes new
    AreSoundResults-put puts other at s is = elim (put_cases same by_value old new input place stored puts other at) [
      | inl w ↦
          let there : Some stored ≡ Some s = sym puts.here ∙ (ap₂ (stored_at same new) w.0 w.1 ∙ is) in
          let e : stored ≡ s = cc in
          subst₂ (λ i p. IsSoundResult says scripts nodes i p s) w.0 w.1
          (subst (IsSoundResult says scripts nodes input place) e may)
      | inr unchanged ↦ kept other at s (sym unchanged ∙ is)
    ]

    -- a result is stored, or nothing changes
    pub AreSoundResults-stored : {U E : Type 0} (answer : Result U E)
        → OnOk answer (Puts same old new input place stored) → OnErr answer (new ≡ old)
        → AreSoundResults same says scripts nodes new
    AreSoundResults-stored (Ok u) ok err = AreSoundResults-put ok
    AreSoundResults-stored (Err e) ok err = subst (AreSoundResults same says scripts nodes) (sym err) kept

-- what a used result is worth
pub record IsWorth {I R T : Type 0} (says : Verdicts R) (scripts : I → List (Reply R) → Request I R)
    (nodes : List (CacheNode I R)) (input : I) (available : ℕ) (hit : Hit I R T) : Type 0 where
  pub graph : HasGraph says nodes input hit.result hit.node
  pub value : hit.encountered_overflow ≡ false → IsPlain scripts input hit.result
  pub overflow : hit.encountered_overflow ≡ true → IsBelowRank scripts input available
  pub within : hit.required_depth ≤ available

first_of_one : {I R T : Type 0} (P : Hit I R T → Type 0) (accepts : Bool) (hit : Hit I R T) → P hit
    → IfSome (if accepts then Some hit else None) P
first_of_one P true hit p = p
first_of_one P false hit p = tt

either : {A : Type 0} (P : A → Type 0) (first later : Option A) → IfSome first P
    → IfSome later P → IfSome (option_or first later) P
either P None later f l = l
either P (Some x) later f l = f

lent : {X I R A T : Type 0} (P : Hit I R T → Type 0) (found : Option (CacheData X I R A T))
    → IfSome (option_map hit_of found) P → IfSome found (λ hit. P (hit_of hit))
lent P None h = tt
lent P (Some hit) h = h

module _ {I R T : Type 0} (P : Hit I R T → Type 0) (same : I → I → Bool)
    (results : Store I (StoredResult I R T)) (input : I) (available : ℕ) (accepts : NestedPaths I → Bool) where
  success_case : (s : StoredResult I R T) (fits : Bool) → (fits ≡ true → s.required_depth ≤ available)
      → (s.required_depth ≤ available → P (hit_at s.required_depth false s))
      → IfSome (first_accepted accepts (if fits then hit_at s.required_depth false s ∷ [] else [])) P
  success_case s true within holds =
      first_of_one P (accepts s.nested_goals) (hit_at s.required_depth false s) (holds (within refl))
  success_case s false within holds = tt

  success_holds : (o : Option (StoredResult I R T))
      → ((s : StoredResult I R T) → o ≡ Some s → s.required_depth ≤ available → P (hit_at s.required_depth false s))
      → IfSome (first_accepted accepts (successes available o)) P
  success_holds None holds = tt
  success_holds (Some s) holds =
      success_case s (nat_le s.required_depth available) (leb-true s.required_depth available) (holds s refl)

  overflow_holds : (o : Option (StoredResult I R T))
      → ((s : StoredResult I R T) → o ≡ Some s → P (hit_at available true s))
      → IfSome (first_accepted accepts (overflows available o)) P
  overflow_holds None holds = tt
  overflow_holds (Some s) holds = first_of_one P (accepts s.nested_goals) (hit_at available true s) (holds s refl)

  -- what holds of the success and of the overflow result at the depth holds of the result that a look-up gives
  pub used_holds : {X A : Type 0} (found : Option (CacheData X I R A T))
      → ((s : StoredResult I R T) → stored_at same results input Success ≡ Some s → s.required_depth ≤ available
      → P (hit_at s.required_depth false s))
      → ((s : StoredResult I R T) → stored_at same results input (WithOverflow available) ≡ Some s
      → P (hit_at available true s))
      → option_map hit_of found ≡ first_accepted accepts (usable same results input available)
      → IfSome found (λ hit. P (hit_of hit))
  used_holds found success overflow is =
      lent P found
      (subst (λ o. IfSome o P)
      (sym (is ∙ find-append (λ hit. accepts hit.nested_goals)
      (successes available (stored_at same results input Success))
      (overflows available (stored_at same results input (WithOverflow available)))))
      (either P (first_accepted accepts (successes available (stored_at same results input Success)))
      (first_accepted accepts (overflows available (stored_at same results input (WithOverflow available))))
      (success_holds (stored_at same results input Success) success)
      (overflow_holds (stored_at same results input (WithOverflow available)) overflow)))

pub result_is_worth : {X I R A T : Type 0} (says : Verdicts R) (scripts : I → List (Reply R) → Request I R)
    (nodes : List (CacheNode I R)) (input : I) (available : ℕ) (accepts : NestedPaths I → Bool) (same : I → I → Bool)
    (results : Store I (StoredResult I R T)) (found : Option (CacheData X I R A T))
    → AreSoundResults same says scripts nodes results
    → option_map hit_of found ≡ first_accepted accepts (usable same results input available)
    → IfSome found (λ hit. IsWorth says scripts nodes input available (hit_of hit))
result_is_worth says scripts nodes input available accepts same results found kept is =
    used_holds (IsWorth says scripts nodes input available) same results input available accepts found
    (λ s at within. let k = kept input Success s at in
    record { graph = k.graph; value = λ e. k.plain; overflow = λ e. absurd cc; within = within })
    (λ s at. let k = kept input (WithOverflow available) s at in
    record { graph = k.graph; value = λ e. absurd cc; overflow = λ e. k.plain; within = omega arith }) is

-- a plain value is stored, or its equal is there
pub ranked_never_conflicts :
    {I R T : Type 0} (same : I → I → Bool) (says : Verdicts R) (scripts : I → List (Reply R) → Request I R)
    (nodes : List (CacheNode I R)) (results : Store I (StoredResult I R T)) (equal : R → R → Bool)
    → IsEquivalence equal → AreSoundResults same says scripts nodes results → (n : ℕ) (input : I) (found : R)
    → IsPlainTo scripts n input → IsPlain scripts input found → (o : Option (StoredResult I R T))
    → stored_at same results input Success ≡ o → (answer : Result (Unit {0}) (Fault I R))
    → AnswersStoring equal input o found answer → IfErr answer (λ fault. fault ≡ Memory)
ranked_never_conflicts same says scripts nodes results equal laws kept n input found ranked plain None at answer is = is
ranked_never_conflicts same says scripts nodes results equal laws kept n input found
    ranked plain (Some s) at answer is =
    let one : s.result.result ≡ found =
    one_plain_value scripts n input s.result.result found ((kept input Success s at).plain n ranked) (plain n ranked) in
    let agrees : equal s.result.result found ≡ true =
    ap (equal s.result.result) (sym one) ∙ laws.refl s.result.result in
    let ok : answer ≡ Ok tt = is ∙ ap (λ b. if b then Ok tt else Err (Conflict input s.result.result found)) agrees in
    subst (λ a. IfErr a (λ fault. fault ≡ Memory)) (sym ok) tt
