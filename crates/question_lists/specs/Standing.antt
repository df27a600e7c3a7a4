-- Where a frame of listed goals stands. `needs_of` says what each goal needs.
use Rattle.std.specs.Prelude.{◌≡◌, List}
use Rattle.question_lists.specs.Below.{Reply, Outcome}
use Rattle.question_lists.specs.declared.needs.Needs.{Needs}
use Rattle.question_lists.specs.declared.lists.ListFrame.{ListFrame}
use Rattle.question_lists.specs.Frame.{state_after}

pub record Stands {T I : Type 0} (needs_of : T → I → Needs) (frame : ListFrame T I) (lists : T) (goal : I)
    (replies : List (Reply Outcome)) : Type 0 where
  pub same_lists : frame.lists ≡ lists
  pub same_goal : frame.goal ≡ goal
  pub same_state : frame.state ≡ state_after (needs_of lists goal) replies
