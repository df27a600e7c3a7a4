-- Goals without cycles: how deep their questions go, and the results that they have whatever else is known.
-- `scripts` gives each goal's script.
use Rattle.std.specs.Prelude.{◌≡◌, ℕ, zero, suc, ◌+◌, ◌*◌, ◌<◌, List, Some}
use Rattle.search_context.specs.Below.{PathKind}
use Rattle.search_context.specs.declared.context.Request.{Request}
use Rattle.search_context.specs.declared.context.Request.TheVariants.{Evaluate, Done}
use Rattle.search_context.specs.declared.context.Reply.{Reply}
use Rattle.search_context.specs.Run.{request_after, AreRepliesTo, IsFitting, IsOrderly}

-- whatever is answered, each question that the script asks is one of these
abbrev pub AsksOnly : {I R : Type 0} → (PathKind → I → Type 0) → (List (Reply R) → Request I R) → Type 0
AsksOnly {I} {R} among script = (replies : List (Reply R)) (kind : PathKind) (goal : I) → IsFitting script replies
    → request_after script replies ≡ Some (Evaluate kind goal) → among kind goal

-- questions of questions go no deeper than this
abbrev pub IsRanked : {I R : Type 0} → (I → List (Reply R) → Request I R) → ℕ → I → Type 0
IsRanked scripts zero goal = AsksOnly (λ _ _. ⊥) (scripts goal)
IsRanked scripts (suc n) goal = AsksOnly (λ _ h. IsRanked scripts n h) (scripts goal)

-- the goal's script is orderly, and so are those of the goals below it, to this depth
abbrev pub IsOrderlyTo : {I R : Type 0} → (I → List (Reply R) → Request I R) → ℕ → I → Type 0
IsOrderlyTo scripts zero goal = IsOrderly (scripts goal)
IsOrderlyTo scripts (suc n) goal = IsOrderly (scripts goal) × AsksOnly (λ _ h. IsOrderlyTo scripts n h) (scripts goal)

-- some allowed answers lead to the result
pub record IsResultOf {I R : Type 0} (allowed : I → R → Type 0)
    (script : List (Reply R) → Request I R) (r : R) : Type 0 where
  pub replies : List (Reply R)
  pub is_answered : AreRepliesTo allowed script replies
  pub is_done : request_after script replies ≡ Some (Done r)

-- the result of a goal of this rank where each question is answered with its own plain value
abbrev pub IsPlainValue : {I R : Type 0} → (I → List (Reply R) → Request I R) → ℕ → I → R → Type 0
IsPlainValue scripts zero goal = IsResultOf (λ _ _. ⊥) (scripts goal)
IsPlainValue scripts (suc n) goal = IsResultOf (IsPlainValue scripts n) (scripts goal)

-- the goal is ranked and orderly to this depth
pub record IsPlainTo {I R : Type 0} (scripts : I → List (Reply R) → Request I R) (n : ℕ) (goal : I) : Type 0 where
  pub is_ranked : IsRanked scripts n goal
  pub is_orderly : IsOrderlyTo scripts n goal

module _ {I R : Type 0} (scripts : I → List (Reply R) → Request I R) where
  -- the goal has no rank
  abbrev pub HasNoRank : I → Type 0
  HasNoRank goal = (n : ℕ) → IsPlainTo scripts n goal → ⊥

  -- if the goal has a rank, the result is its plain value
  abbrev pub IsPlain : I → R → Type 0
  IsPlain goal r = (n : ℕ) → IsPlainTo scripts n goal → IsPlainValue scripts n goal r

  -- if the goal has a rank, the depth is below it
  abbrev pub IsBelowRank : I → ℕ → Type 0
  IsBelowRank goal depth = (n : ℕ) → IsPlainTo scripts n goal → depth < n

-- the most frames that a goal at this depth may start, where each goal has so many runs of so many steps
unfoldable pub frames_within : ℕ → ℕ → ℕ → ℕ
frames_within runs width zero = runs
frames_within runs width (suc depth) = runs * (1 + width * frames_within runs width depth)
