-- What the laws of a context and a delegate say of results, frames and builders.
use Rattle.std.specs.Prelude.{◌≡◌, ℕ, ◌+◌, ◌≤◌, Bool, false, List, [], ◌∷◌, ◌⊎◌, Option, None, Some}
use Rattle.search_context.specs.Below.{PathKind, is_inductive, is_coinductive}
use Rattle.search_context.specs.declared.context.Request.{Request}
use Rattle.search_context.specs.declared.context.Request.TheVariants.{Done, EnterCandidate, Evaluate, FinishCandidate}
use Rattle.search_context.specs.declared.context.Request.TheVariants.{Ignore}
use Rattle.search_context.specs.declared.context.Reply.{Reply}
use Rattle.search_context.specs.Run.{IsFitting}

-- the result is neither yes nor no
pub record IsNeither {R : Type 0} (is_yes is_no : R → Bool) (r : R) : Type 0 where
  pub not_yes : is_yes r ≡ false
  pub not_no : is_no r ≡ false

-- the result is what a cycle of this kind counts as: yes if it is coinductive, no if it is inductive, else neither
pub record IsCycleResult {R : Type 0} (is_yes is_no : R → Bool) (kind : PathKind) (r : R) : Type 0 where
  pub yes : is_yes r ≡ is_coinductive kind
  pub no : is_no r ≡ is_inductive kind

-- the frame stands where this reply fits
pub record CanTake {F C I R : Type 0} (stands : F → C → I → List (Reply R) → Type 0)
    (script : C → I → List (Reply R) → Request I R) (frame : F) (reply : Reply R) : Type 0 where
  pub cx : C
  pub goal : I
  pub replies : List (Reply R)
  pub stood : stands frame cx goal replies
  pub is_fitting : IsFitting (script cx goal) (reply ∷ replies)

-- wherever the frame stood and the reply fits, the request is that of the script, and the frame
-- stands one reply further
abbrev pub Steps : {F C I R : Type 0} → (F → C → I → List (Reply R) → Type 0) → (C → I → List (Reply R) → Request I R)
    → F → Reply R → Request I R → F → Type 0
Steps {F} {C} {I} {R} stands script old reply request new =
    (cx : C) (goal : I) (replies : List (Reply R)) → stands old cx goal replies →
    IsFitting (script cx goal) (reply ∷ replies) →
    (request ≡ script cx goal (reply ∷ replies)) × stands new cx goal (reply ∷ replies)

-- the builder counts no less than it did, and records something just if it did
pub record KeepsBuilder {P : Type 0} (starts : P → ℕ) (noop : P → Bool) (old new : P) : Type 0 where
  pub at_least : starts old ≤ starts new
  pub same_noop : noop new ≡ noop old

-- one more was counted, unless the count has come to its end
abbrev pub CountsOne : ℕ → ℕ → ℕ → Type 0
CountsOne last old new = (new ≡ old + 1) ⊎ ((old ≡ last) × (new ≡ last))

-- the frames that are open, where any was started
abbrev pub frames_in : {F : Type 0} → Option (List F) → List F
frames_in None = []
frames_in (Some frames) = frames

-- the frames without the newest one
abbrev pub without_newest : {F : Type 0} → List F → List F
without_newest [] = []
without_newest (frame ∷ below) = below

-- the frames that are open after this request of the newest one, which is not once its run has its result
abbrev pub left_open : {I R F : Type 0} → Request I R → List F → List F
left_open (Done result) frames = without_newest frames
left_open (Evaluate kind goal) frames = frames
left_open EnterCandidate frames = frames
left_open FinishCandidate frames = frames
left_open (Ignore number) frames = frames

-- where the builder had seen a call come to where some frames are open, it has seen it come to where others are
pub record SeesOn {P I F : Type 0} (sees : P → I → Option (List F) → Type 0) (old new : P) (before after : List F) :
    Type 0 where
  pub at : (goal : I) → sees old goal (Some before) → sees new goal (Some after)
