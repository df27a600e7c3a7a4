-- Where the roots are live, so is a node that is one of them.
use Rattle.std.proofs.Common.{ℕ, Bool, Contains, List, None, Option, Some}
use Rattle.std.specs.Prelude.{IsTrue}
use Rattle.std.specs.Option.{IfSome}
use Rattle.between_moves.specs.Below.{NodeId}
use Rattle.search_rules.specs.Live.{IsLiveNode}

pub live_root : (live : ℕ → Bool) (roots : List NodeId) → ((n : NodeId) → Contains roots n → IsTrue (live n.0))
    → (node : Option NodeId) → IfSome node (Contains roots) → IsLiveNode live node
live_root live roots are None h = tt
live_root live roots are (Some n) h = are n h
