-- Where a frame of goals with candidates stands. `candidates_of` says which each goal has.
use Rattle.std.specs.Prelude.{◌≡◌, ℕ, List}
use Rattle.candidate_lists.specs.Below.{Reply, Outcome, Question}
use Rattle.candidate_lists.specs.Candidate.{Candidate}
use Rattle.candidate_lists.specs.Frame.{state_after, steps_left}
use Rattle.candidate_lists.specs.declared.frame.CandidateFrame.{CandidateFrame}

pub record Stands {T Q I : Type 0} (question_of : Q → Question I) (candidates_of : T → I → List (Candidate Q))
    (frame : CandidateFrame T I) (lists : T) (goal : I) (replies : List (Reply Outcome)) : Type 0 where
  pub same_lists : frame.lists ≡ lists
  pub same_goal : frame.goal ≡ goal
  pub same_state : frame.state ≡ state_after question_of (candidates_of lists goal) replies

abbrev pub frame_left : {T Q I : Type 0} → (T → I → List (Candidate Q)) → CandidateFrame T I → ℕ
frame_left candidates_of frame = steps_left (candidates_of frame.lists frame.goal) frame.state frame.state.request
