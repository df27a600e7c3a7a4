-- How a search's list of items, of which the newest stands first, mirrors the frames: an item gives all of its frame
-- but the replies, at which it stands.
use Rattle.std.specs.Prelude.{◌≡◌, ℕ, ◌<◌, List, [], ◌∷◌, map, Bool, true, ◌⊎◌, Some, ◌||◌}
use Rattle.evaluations.specs.Below.{Request, Reply, request_after, IsFitting}
use Rattle.evaluations.specs.Frames.{Frame, Outcome, stepped}
use Rattle.evaluations.specs.Starts.{steps_ahead}
use Rattle.evaluations.specs.Evaluation.{at, Limits, IsEvaluating}

-- the frame with these replies
abbrev pub with_replies : {I R : Type 0} → Frame I R → List (Reply R) → Frame I R
with_replies f replies = record f { replies = replies }

module _ {E I R : Type 0} (seen : E → Frame I R) (stands : E → List (Reply R) → Type 0) where
  -- the item has had the frame's replies
  pub record IsSeen (e : E) (f : Frame I R) : Type 0 where
    pub is : f ≡ with_replies (seen e) f.replies
    pub stood : stands e f.replies

  -- it is yet to get the newest of them
  pub record IsPending (reply : Reply R) (e : E) (f : Frame I R) : Type 0 where
    pub earlier : List (Reply R)
    pub is : f ≡ with_replies (seen e) (reply ∷ earlier)
    pub stood : stands e earlier

  -- each item is seen as its frame
  abbrev pub AreSeen : List E → List (Frame I R) → Type 0
  AreSeen [] [] = Unit {0}
  AreSeen (e ∷ es) (f ∷ fs) = IsSeen e f × AreSeen es fs
  AreSeen _ _ = ⊥

  -- The items mirror the frames: the newest is yet to get the reply, and the others have had theirs.
  abbrev pub Mirror : Reply R → List E → List (Frame I R) → Type 0
  Mirror reply (e ∷ es) (f ∷ fs) = IsPending reply e f × AreSeen es fs
  Mirror reply _ _ = ⊥

  module _ (scripts : I → List (Reply R) → Request I R) (limits : Limits I)
      (is_counted : Type 0) (top : I) (bound : ℕ) where
    -- the loop's measure
    abbrev pub work : List E → ℕ
    work items = steps_ahead limits.runs limits.width (map seen items)

    -- the loop's invariant: the newest item waits for the reply
    pub record Waits (reply : Reply R) (items : List E) (starts : ℕ) (met : Bool) : Type 0 where
      pub frames : List (Frame I R)
      pub mirror : Mirror reply items frames
      pub evaluating : IsEvaluating scripts limits is_counted top bound (at frames starts met)

    -- the newest item took its step, and has requested; `ahead` was the work before
    pub record HasRequested (ahead : ℕ) (request : Request I R) (items : List E)
        (starts : ℕ) (met : Bool) : Type 0 where
      pub f : Frame I R
      pub below : List (Frame I R)
      pub left : ℕ
      pub evaluating : IsEvaluating scripts limits is_counted top bound (at (f ∷ below) starts met)
      pub falls : left < f.left
      pub requested : request_after (scripts f.goal) f.replies ≡ Some request
      pub ahead_is : steps_ahead limits.runs limits.width (f ∷ below) ≡ ahead
      pub mirror : AreSeen items (stepped f left ∷ below)

module _ {E I R : Type 0} (seen : E → Frame I R) (stands : E → List (Reply R) → Type 0)
    (scripts : I → List (Reply R) → Request I R) where
  -- an item took its step, as the delegate says
  pub record TakesStep (reply : Reply R) (request : Request I R) (old new : E) : Type 0 where
    pub falls : (seen new).left < (seen old).left
    pub same : seen new ≡ stepped (seen old) (seen new).left
    pub steps :
        (earlier : List (Reply R))
        → stands old earlier → IsFitting (scripts (seen old).goal) (reply ∷ earlier)
        → (request ≡ scripts (seen old).goal (reply ∷ earlier)) × stands new (reply ∷ earlier)

  -- an item changed as its frame did, with a new reply
  pub record TakesReply (change : Frame I R → Frame I R) (reply : Reply R) (old new : E) : Type 0 where
    pub same : (replies : List (Reply R))
        → change (with_replies (seen old) replies) ≡ with_replies (seen new) (reply ∷ replies)
    pub stood : (replies : List (Reply R)) → stands old replies → stands new replies

-- what is left of an item whose run ended with r
pub record ItemLeaves {I R : Type 0} (r : R) (f : Frame I R) (o : Outcome R) : Type 0 where
  pub result : (o.result ≡ r) ⊎ (f.in_cycle ≡ true)
  pub required : o.required ≡ f.required
  pub met_overflow : o.met_overflow ≡ (f.met_overflow || f.met_before)
  pub in_cycle : o.in_cycle ≡ true → f.in_cycle ≡ true

-- one of the items has this goal
abbrev pub IsAmong : {E I R : Type 0} → (E → Frame I R) → I → List E → Type 0
IsAmong seen goal [] = ⊥
IsAmong seen goal (e ∷ es) = ((seen e).goal ≡ goal) ⊎ IsAmong seen goal es
