-- Where a frame of a goal with a script stands.
use Rattle.std.proofs.Common.{◌≡◌, ◌∙◌, ◌+◌, ℕ, List, ◌∷◌, ap, arith, length}
use Rattle.test_delegates.specs.Below.{Outcome, Reply}
use Rattle.test_delegates.specs.Scripts.{line_at, Stands}
use Rattle.test_delegates.specs.declared.scripts.Frame.{Frame}
use Rattle.test_delegates.specs.declared.scripts.Goal.{Goal}
use Rattle.test_delegates.specs.declared.scripts.Scripts.{Scripts}

-- its next line is that of its goal after the replies
pub same_line : (frame : Frame) (cx : Scripts) (goal : Goal) (replies : List (Reply Outcome))
    → Stands frame cx goal replies → line_at frame.scripts frame.goal frame.place ≡ line_at cx goal (length replies)
same_line frame cx goal replies stands =
    ap (λ scripts. line_at scripts frame.goal frame.place) stands.same_scripts
    ∙ ap (λ goal. line_at cx goal frame.place) stands.same_goal ∙ ap (line_at cx goal) stands.same_place

-- one more reply, one more line
pub place_more : (place : ℕ) (reply : Reply Outcome) (replies : List (Reply Outcome)) → place ≡ length replies
    → place + 1 ≡ length (reply ∷ replies)
place_more place reply replies same = omega (arith, same)
