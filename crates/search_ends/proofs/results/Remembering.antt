-- Why the answer to a call is stored where it met no overflow, or is the stored result that it was to be compared with:
-- the only goal rests on no other.
use Rattle.std.proofs.Common.{◌≡◌, ℕ, nat_le, ◌<◌, ◌≤◌, if◌then◌else◌, Bool, true, false, List, [], ◌∷◌, ◌++◌, All}
use Rattle.std.proofs.Common.{Some, refl, sym, ap, ◌∙◌, subst, arith}
use Rattle.std.specs.Option.{IsSomeAnd}
use Rattle.std.proofs.lemmas.Bool.{le-leb}
use Rattle.std.proofs.lemmas.List.Elements.{All-head}
use Rattle.cycle_heads.specs.Heads.{Heads}
use Rattle.global_cache.specs.Hits.{hit_at, overflows, successes}
use Rattle.search_stack.specs.Hit.{Hit}
use Rattle.global_cache.specs.declared.results.Place.TheVariants.{WithOverflow}
use Rattle.goal_changes.specs.declared.Next.TheVariants.{Finished}
use Rattle.run_records.specs.declared.runs.Fate.TheVariants as becomes
use Rattle.search_rules.specs.Fates.{MeetsNewest}
use Rattle.search_rules.specs.Moves.{NewestLeaves}
use Rattle.search_ends.specs.Popped.{IsNewestCompared}
use Rattle.search_ends.specs.Below.{Call, IsNewestToStore, CxOf, DelegateOf, Done, fates_of, first_accepted}
use Rattle.search_ends.specs.Below.{final_answer, HasAsked, HaveTallies, IfFinished, CallMeetsNone, IsNewestStored}
use Rattle.search_ends.specs.Below.{IsRemembered, Next, node_given, place_of, runs_of, Store, OpenGoal, stored_at}
use Rattle.search_ends.specs.Below.{stored_from, StoredResult, Success}
use Rattle.search_rules.proofs.entries.Ready.{heads_on_stack, on_stack_many}
use Rattle.search_rules.proofs.moves.DoneRuns.{calm_of}
use Rattle.search_rules.proofs.moves.Moves.{only_fits}

-- nothing lies below the first place of the stack
none_below : (heads : Heads) → All (λ head. head.0.0 < 0) heads → heads ≡ []
none_below [] all = refl
none_below (head ∷ heads) all =
    let less = All-head (λ head. head.0.0 < 0) head heads all in absurd (omega (arith, less))

module _ {I R T : Type 0} (depth : ℕ) (s : StoredResult I R T) where
  used_at : (b : Bool) → b ≡ true → (rest : List (Hit I R T))
      → IsSomeAnd (first_accepted (λ _. true) ((if b then hit_at s.required_depth false s ∷ [] else []) ++ rest))
      (λ hit. (hit.result ≡ s.result.result) × (hit.node ≡ s.node))
  used_at true fits rest = (refl, refl)
  used_at false fits rest = absurd cc

  -- a success is used wherever its depth suffices
  success_is_used : (same : I → I → Bool) (results : Store I (StoredResult I R T)) (goal : I)
      → stored_at same results goal Success ≡ Some s → s.required_depth ≤ depth
      → IsRemembered same results goal depth (record { result = s.result.result; node = s.node })
  success_is_used same results goal at within =
      subst (λ o. IsSomeAnd (first_accepted (λ _. true)
      (successes depth o ++ overflows depth (stored_at same results goal (WithOverflow depth))))
      (λ hit. (hit.result ≡ s.result.result) × (hit.node ≡ s.node))) (sym at)
      (used_at (nat_le s.required_depth depth) (le-leb s.required_depth depth within)
      (overflows depth (stored_at same results goal (WithOverflow depth))))

module _ {X F I R A T : Type 0} where
  -- the only goal rests on none
  only_rests_on_none : (s : OpenGoal X F I R A T) → HaveTallies (runs_of (s ∷ [])) → s.0.state.heads ≡ []
  only_rests_on_none s tallies = none_below s.0.state.heads (subst (λ n. All (λ head. head.0.0 < n) s.0.state.heads)
      (on_stack_many {X = X} {F = F} {I = I} {R = R} {A = A} {T = T} []) (heads_on_stack s [] tallies))

  -- the answer to a call is the result that it was to be compared with, if there is one
  pub meets_compared : (old new : List (OpenGoal X F I R A T)) (r : R) (next : Next R) → HaveTallies (runs_of old)
      → NewestLeaves r old next new → IsNewestCompared old r
      → IfFinished next (λ answer. MeetsNewest (fates_of old) answer.result)
  meets_compared [] new r next tallies l compared = absurd l
  meets_compared (s ∷ []) new r next tallies l compared =
      subst (λ n. IfFinished n (λ answer. MeetsNewest (fates_of (s ∷ [])) answer.result)) (sym l.1)
      (λ stored is. compared stored is (only_rests_on_none s tallies))
  meets_compared (s ∷ p ∷ below) new r next tallies l compared =
      subst (λ n. IfFinished n (λ answer. MeetsNewest (fates_of (s ∷ p ∷ below)) answer.result)) (sym l.1) tt

module _ {D C V P F I R A T : Type 0} (G : DelegateOf D C V P F I R A T) (X : CxOf C I R A T) (cx : C) (call : Call I)
    (same : I → I → Bool) (token : I → T) (ahead : ℕ) (done r : R) (starts : ℕ) (met : Bool)
    (results : Store I (StoredResult I R T)) where
  only_remembered : (s : OpenGoal C F I R A T) → HaveTallies (runs_of (s ∷ []))
      → HasAsked G X cx call ahead (Done done) (s ∷ []) starts met → (next : Next R)
      → IsNewestStored same token (s ∷ []) r (node_given next) results
      → s.1.fate ≡ becomes.Stored → CallMeetsNone G X cx call met
      → IsRemembered same results call.top call.root (record { result = r; node = node_given next })
  only_remembered s tallies h next stored kept meets =
      let no_heads = only_rests_on_none s tallies in
      let only = only_fits G X cx call ahead (Done done) s starts met h in
      let calm = calm_of G X cx call ahead done starts met s [] meets h in
      let success : place_of (final_answer s r (node_given next)) ≡ Success =
      ap (λ b. if b then WithOverflow s.0.state.required_depth else Success) calm in
      let at : stored_at same results call.top Success
      ≡ Some (stored_from (final_answer s r (node_given next)) (token s.0.input)) =
      sym (ap (λ place. stored_at same results call.top place) success)
      ∙ sym (ap (λ goal. stored_at same results goal (place_of (final_answer s r (node_given next)))) only.0)
      ∙ stored kept no_heads in
      success_is_used call.root (stored_from (final_answer s r (node_given next)) (token s.0.input)) same
      results call.top at only.1

  -- the answer to a call is stored, also where a limit was met now
  pub remembered : (after : Bool) → (CallMeetsNone G X cx call after → CallMeetsNone G X cx call met)
      → (old new : List (OpenGoal C F I R A T)) (next : Next R) → HaveTallies (runs_of old)
      → HasAsked G X cx call ahead (Done done) old starts met → NewestLeaves r old next new
      → IsNewestStored same token old r (node_given next) results
      → IfFinished next (λ answer. IsNewestToStore (fates_of old) → CallMeetsNone G X cx call after
      → IsRemembered same results call.top call.root answer)
  remembered after before [] new next tallies h l stored = absurd l
  remembered after before (s ∷ []) new next tallies h l stored =
      subst (λ n. IfFinished n (λ answer. IsNewestToStore (fates_of (s ∷ [])) → CallMeetsNone G X cx call after
      → IsRemembered same results call.top call.root answer)) (sym l.1)
      (λ stores meets. only_remembered s tallies h (Finished (record { result = r; node = l.0 }))
      (subst (λ n. IsNewestStored same token (s ∷ []) r (node_given n) results) l.1 stored) stores (before meets))
  remembered after before (s ∷ p ∷ below) new next tallies h l stored =
      subst (λ n. IfFinished n (λ answer. IsNewestToStore (fates_of (s ∷ p ∷ below)) → CallMeetsNone G X cx call after
      → IsRemembered same results call.top call.root answer)) (sym l.1) tt
