-- Runs that are replayed, so that their results rest on fewer answers.
use Rattle.std.specs.Prelude.{◌≡◌, ◌<◌, ◌⊎◌, ℕ, List, ◌∷◌, Option, Some, None, Contains}
use Rattle.open_graphs.specs.Graph.{cycle_kind, HasShapeEdge}
use Rattle.lean_runs.specs.Below.{CacheNode, CxOf, DelegateOf, PathKind, Verdict, NodeId, Request, Evaluate, Reply}
use Rattle.lean_runs.specs.Below.{Answer, Received, DefiniteAnswer, RunRecord, Records, Edge, IsEdgeOfAnswer, IsFitting}
use Rattle.lean_runs.specs.Below.{IsNeither, IsNodeOf, edge_to, edges_of, rank_of, request_after, shapes_of, Verdicts}
use Rattle.lean_runs.specs.Below.{verdicts, CameTo}
use Rattle.lean_runs.specs.Backed.{IsBacked, verdict_shape}

-- the node is of an answer on record on which a result of the verdict rests, over a step of the kind of its cycles, and
-- was written after the run's own; so it is if there is one
pub record IsGuide {I R : Type 0} (own : ℕ) (told : RunRecord I R) (verdict : Verdict) (node : NodeId) : Type 0 where
  pub kind : PathKind
  pub goal : I
  pub answer : IsEdgeOfAnswer told.answers told.ignored verdict (edge_to kind goal node)
  pub kind_is : rank_of kind ≡ cycle_kind (verdict_shape verdict)
  pub after_own : own < node.0

abbrev pub IsGuided : {I R : Type 0} → ℕ → RunRecord I R → Verdict → Option NodeId → Type 0
IsGuided own told verdict guide = (node : NodeId) → guide ≡ Some node → IsGuide own told verdict node

-- the node has this verdict, and an edge that asks this and leads there, to a node of the goal
pub record LeadsTo {I R : Type 0} (says : Verdicts R) (nodes : List (CacheNode I R)) (verdict : Verdict) (node : ℕ)
    (kind : PathKind) (goal : I) (target : ℕ) : Type 0 where
  pub edge : HasShapeEdge (shapes_of says nodes) (verdict_shape verdict) node (rank_of kind) target
  pub of_goal : IsNodeOf nodes target goal

module _ {I R : Type 0} (says : Verdicts R) (nodes : List (CacheNode I R)) (own : ℕ)
    (told : RunRecord I R) (verdict : Verdict) where
  -- the edge may stand in the node of the run that is on record
  abbrev pub IsBackedEdge : Edge I → Type 0
  IsBackedEdge = IsBacked says nodes own told.answers told.ignored (verdict_shape verdict)

  -- the same of the edge of a question that leads to this node
  abbrev pub IsBackedQuestion : PathKind → I → NodeId → Type 0
  IsBackedQuestion kind goal node = IsBackedEdge (edge_to kind goal node)

  -- The reply to a question in a replay for this verdict: some result, with a node to which an edge may lead that asks
  -- the question, or one that is neither yes nor no.
  pub data IsAnsweredAgain (kind : PathKind) (goal : I) : Received R → Type 0 where
    OnRecord :
        (r : R) (node : NodeId)
        → IsBackedQuestion kind goal node
        → IsAnsweredAgain kind goal (record { reply = Answer r; node = Some node })
    Refused :
        (r : R)
        → IsNeither says.is_yes says.is_no r
        → IsAnsweredAgain kind goal (record { reply = Answer r; node = None })

  -- the edge of each answer may stand there
  abbrev pub AreAnsweredAgain : List (DefiniteAnswer I) → Type 0
  AreAnsweredAgain answers = (a : DefiniteAnswer I) → Contains answers a → IsBackedEdge a.edge

  -- the same of any request of a replay: what is no question is no answer
  abbrev pub GivesAgain : Option (Request I R) → Received R → Type 0
  GivesAgain (Some (Evaluate kind goal)) given = IsAnsweredAgain kind goal given
  GivesAgain _ given = (given.node ≡ None) × ((r : R) → given.reply ≡ Answer r → ⊥)

module _ {D C V P F I R A T : Type 0} (G : DelegateOf D C V P F I R A T) (X : CxOf C I R A T) (cx : C) (goal : I)
    (nodes : List (CacheNode I R)) (own : ℕ) (told : RunRecord I R) (verdict : Verdict) where
  -- A replay has come so far: its frame and its record have had the same replies, and can take this one, and what was
  -- answered rests on the other record.
  pub record IsReplaying (frame : F) (lean : RunRecord I R) (given : Received R) : Type 0 where
    pub replies : List (Reply R)
    pub stood : G.stands frame cx goal replies
    pub is_fitting : IsFitting (G.script cx goal) (given.reply ∷ replies)
    pub on_record : Records (verdicts X) (G.script cx goal) lean replies
    pub again : AreAnsweredAgain (verdicts X) nodes own told verdict lean.answers
    pub gives : GivesAgain (verdicts X) nodes own told verdict lean.request given

  -- the replay has made this request, and waits for the reply to it
  pub record HasReplayed (request : Request I R) (frame : F) (lean : RunRecord I R) : Type 0 where
    pub replies : List (Reply R)
    pub stood : G.stands frame cx goal replies
    pub is_fitting : IsFitting (G.script cx goal) replies
    pub requests : request_after (G.script cx goal) replies ≡ Some request
    pub on_record : Records (verdicts X) (G.script cx goal) lean replies
    pub again : AreAnsweredAgain (verdicts X) nodes own told verdict lean.answers

module _ {I R : Type 0} (says : Verdicts R) (script : List (Reply R) → Request I R) (nodes : List (CacheNode I R))
    (own : ℕ) (told : RunRecord I R) (verdict : Verdict) (r : R) where
  -- a run that came to this result, and has no answer whose edge may not stand in the node of the run that is on record
  pub record IsLeanRun (lean : RunRecord I R) : Type 0 where
    pub came : CameTo says script lean r
    pub again : AreAnsweredAgain says nodes own told verdict lean.answers

  -- one of the answers on record has this edge, or it may stand there
  abbrev pub IsKnownEdge : Edge I → Type 0
  IsKnownEdge e =
      ((a : DefiniteAnswer I) × Contains told.answers a × (a.edge ≡ e)) ⊎ IsBackedEdge says nodes own told verdict e

  -- the record of a run that came to this result, each edge of which may stand in the node
  pub record IsRecordFor (p : RunRecord I R) : Type 0 where
    pub came : CameTo says script p r
    pub edges : (e : Edge I) → Contains (edges_of p verdict) e → IsBackedEdge says nodes own told verdict e
    pub answers : (a : DefiniteAnswer I) → Contains p.answers a → IsKnownEdge a.edge
