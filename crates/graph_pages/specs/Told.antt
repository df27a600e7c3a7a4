-- What is told of graphs that were read.
use Rattle.std.specs.Prelude.{◌≡◌, ◌↔◌, ℕ, Bool, true, false, List, [], ◌++◌, map, codes, All, Option}
use Rattle.std.specs.Io.KnownBytes.{Appends}
use Rattle.std.specs.List.{flat_map, list_all}
use Rattle.std.specs.Option.{unwrap_or}
use Rattle.graph_pages.specs.Below.{Goal, IsValidFor, name_of, Outcome, Reply, Request, Rules, Verdicts, word_of}
use Rattle.search_context.specs.declared.context.Verdict.TheVariants as verdict
use Rattle.graph_pages.specs.Checked.{verdict_of}
use Rattle.graph_pages.specs.declared.program.checking.Said.{Said}
use Rattle.graph_pages.specs.declared.program.checking.Said.TheVariants.{Accepted, NoGraph, Refused}
use Rattle.graph_data.specs.declared.reading.Claim.{Claim}

-- what is said of a claim
abbrev pub said_words : Said → List ℕ
said_words Accepted = codes "accepted"
said_words Refused = codes "refused"
said_words NoGraph = codes "without a graph"

abbrev pub is_not_refused : Said → Bool
is_not_refused Accepted = true
is_not_refused Refused = false
is_not_refused NoGraph = true

-- the goal's name, its outcome, and what is said: `A yes accepted`, and a newline
abbrev pub line_said : Rules → Goal → Outcome → Said → List ℕ
line_said rules goal outcome said =
    unwrap_or (name_of rules goal) [] ++ codes " " ++ word_of outcome ++ codes " " ++ said_words said ++ codes "\n"

module _ (says : Verdicts Outcome) (scripts : Goal → List (Reply Outcome) → Request Goal Outcome) where
  -- A claim is accepted exactly if its graph is valid for its goal and its outcome. It is told as one without a graph
  -- exactly if it has no nodes and its outcome is neither yes nor no.
  pub record IsJudged (claim : Claim) (said : Said) : Type 0 where
    pub accepted : (said ≡ Accepted) ↔ IsValidFor says (verdict_of claim.outcome) scripts claim.nodes.items claim.goal
    pub no_graph : (said ≡ NoGraph) ↔ ((verdict_of claim.outcome ≡ verdict.Neither) × (claim.nodes.items ≡ []))

  -- Each claim was judged, and their lines were written in order; `none_refused` says that none was refused.
  pub record AreJudged (rules : Rules) (claims : List Claim) (none_refused : Bool)
      (old new : Option (List ℕ)) : Type 0 where
    pub judged : List (Claim × Said)
    pub are_claims : map (λ j. j.0) judged ≡ claims
    pub are_right : All (λ j. IsJudged j.0 j.1) judged
    pub written : Appends old new (flat_map (λ j. line_said rules j.0.goal j.0.outcome j.1) judged)
    pub fine : none_refused ≡ list_all (λ j. is_not_refused j.1) judged
