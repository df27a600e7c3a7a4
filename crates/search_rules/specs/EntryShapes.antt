-- A provisional entry, and the reason why it is rebased, as the theory of open graphs sees them.
use Rattle.std.specs.Prelude.{ℕ, Bool, is_some, List, None, Some}
use Rattle.std.specs.Option.{option_map}
use Rattle.open_graphs.specs.Graph as graphs
use Rattle.open_graphs.specs.Rebased as theory
use Rattle.search_rules.specs.Below.{Entry, ProvisionalEntry, ProvisionalUse, Heads, at_depth, highest, heads_shape}
use Rattle.search_rules.specs.Below.{rank_of, ProvisionalCacheEntry, RebaseReason, NoCycleUsages, Ambiguity, Overflow}
use Rattle.search_rules.specs.Below.{ReachedFixpoint, verdict_of, Verdicts}

-- the depths at which a head is recorded
abbrev pub depths_of : Heads → ℕ → Bool
depths_of heads depth = is_some (at_depth heads (record { 0 = depth }))

-- the depth of the highest head; an answer without heads has none, and is no provisional entry
abbrev pub highest_depth : Heads → ℕ
highest_depth heads = elim (highest heads) [ None ↦ 0 | Some head ↦ head.0.0 ]

-- the reason in the theory's words, with the kind of a fixpoint as its rank
abbrev pub reason_shape : {X I R A T : Type 0} → RebaseReason X I R A T → theory.Reason
reason_shape NoCycleUsages = theory.NoCycleUsages
reason_shape (Ambiguity info) = theory.Ambiguity
reason_shape Overflow = theory.Overflow
reason_shape (ReachedFixpoint kind) = theory.ReachedFixpoint (option_map rank_of kind)

-- the entry in the theory's words, with this node
abbrev pub entry_shape : {X I R A T : Type 0} → Verdicts R → ProvisionalCacheEntry X I R A T → ℕ → ProvisionalEntry
entry_shape says entry n = record {
  verdict = verdict_of says entry.result;
  highest = highest_depth entry.heads;
  path = rank_of entry.path_from_head;
  node = n;
  heads = heads_shape entry.heads;
}

-- An entry may be used over a stack of the theory wherever the path kind from its highest head is the one on record.
abbrev pub HoldsOver : List graphs.Node → List Entry → ProvisionalEntry → Type 0
HoldsOver nodes stack entry = ProvisionalUse nodes entry.verdict stack entry.highest entry.path entry.node entry.heads
