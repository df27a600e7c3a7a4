-- The nodes as the theory of open graphs sees them: without goals and replies, a result as its verdict, and the
-- kind of an edge as its rank.
use Rattle.std.specs.Prelude.{List, map, None, Some}
use Rattle.open_graphs.specs.Graph as theory
use Rattle.search_context.specs.declared.context.Edge.{Edge}
use Rattle.graph_nodes.specs.Below.{rank_of}
use Rattle.graph_nodes.specs.Nodes.{EndedRun, CacheNode}
use Rattle.search_context.specs.Verdicts.{Verdicts, verdict_of}

-- the kind of an edge as its rank, and its target
abbrev pub edge_shape : {I : Type 0} → Edge I → theory.Edge
edge_shape e = record { kind = rank_of e.kind; target = e.target }

-- a run that has ended: its verdict, and the shapes of its edges
abbrev pub run_shape : {I R : Type 0} → Verdicts R → EndedRun I R → theory.Node
run_shape says run = theory.Finished (verdict_of says run.outcome) (map edge_shape run.edges)

-- a node: finished where its run has ended
abbrev pub shape_of : {I R : Type 0} → Verdicts R → CacheNode I R → theory.Node
shape_of says n = elim n.run [ None ↦ theory.Unfinished | Some run ↦ run_shape says run ]

-- the shapes of the nodes, at the same places
abbrev pub shapes_of : {I R : Type 0} → Verdicts R → List (CacheNode I R) → List theory.Node
shapes_of says nodes = map (shape_of says) nodes

-- the list has grown: each node whose run has ended is there with its verdict and edges
abbrev pub HasGrown : {I R : Type 0} → Verdicts R → List (CacheNode I R) → List (CacheNode I R) → Type 0
HasGrown says old new = theory.Grown (shapes_of says old) (shapes_of says new)
