-- A stored result that is used, as clauses see it.
use Rattle.std.specs.Prelude.{ℕ, Bool, Option}
use Rattle.search_context.specs.declared.context.NodeId.{NodeId}
use Rattle.search_stack.specs.declared.result.CacheData.{CacheData}
use Rattle.goal_paths.specs.Nested.{NestedPaths}

-- a result with what is known of it
pub record Hit (I R T : Type 0) : Type 0 where
  pub result : R
  pub token : T
  pub required_depth : ℕ
  pub encountered_overflow : Bool
  pub nested_goals : NestedPaths I
  pub node : Option NodeId

-- what a look-up lends
abbrev pub hit_of : {X I R A T : Type 0} → CacheData X I R A T → Hit I R T
hit_of lent = record {
  result = lent.result;
  token = lent.token;
  required_depth = lent.required_depth;
  encountered_overflow = lent.encountered_overflow;
  nested_goals = lent.nested_goals.now;
  node = lent.node;
}
