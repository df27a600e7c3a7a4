-- What moves keep of the cache.
use Rattle.std.proofs.Common.{◌≡◌, Bool, List, ◌∷◌, refl, sym, ap, subst}
use Rattle.graph_nodes.proofs.Finished.{KeepsFinished-nodes, KeepsFinished-same}
use Rattle.global_cache.proofs.Stores.{KeepsResults-same}
use Rattle.search_rules.proofs.records.EarlierNodes.{earlier_but, earlier_of_nodes, earlier_over, earlier_same}
use Rattle.between_moves.specs.Below.{Cache, CacheNode, KeepsBut, KeepsEarlier, KeepsFinished, KeepsNodes, KeepsResults}
use Rattle.between_moves.specs.Below.{StayFrom, OpenGoal}
use Rattle.search_rules.specs.Fates.{Untouched}
use Rattle.between_moves.specs.Evaluations.{ChangesCache, KeepsCache}

module _ {C F I R A T : Type 0} (same : I → I → Bool) (goals : List (OpenGoal C F I R A T)) where
  -- one that changes nothing
  pub cache_stays : (cache : Cache C I R T) → KeepsCache same goals cache cache
  cache_stays cache = record {
    context = refl;
    results = KeepsResults-same same cache.results cache.results refl;
    nodes = KeepsFinished-same cache.nodes cache.nodes refl;
    earlier = earlier_same goals cache.nodes cache.nodes refl;
  }

  -- and one that appends nodes
  pub appending_keeps : (old new : Cache C I R T) → new ≡ record old { nodes = new.nodes }
      → KeepsNodes old.nodes new.nodes → KeepsCache same goals old new
  appending_keeps old new is kept = record {
    context = ap (λ cache. cache.cx) is;
    results = KeepsResults-same same old.results new.results (ap (λ cache. cache.results) is);
    nodes = KeepsFinished-nodes old.nodes new.nodes kept;
    earlier = earlier_of_nodes goals old.nodes new.nodes kept;
  }

  -- and one that ends the newest goal's run
  pub ending_keeps : (old new : Cache C I R T) (s : OpenGoal C F I R A T) (below : List (OpenGoal C F I R A T))
      → goals ≡ s ∷ below → new.cx ≡ old.cx → KeepsResults same old.results new.results
      → KeepsFinished old.nodes new.nodes → KeepsBut s.1.node.0 old.nodes new.nodes → KeepsCache same goals old new
  ending_keeps old new s below was context results nodes but = record {
    context = context;
    results = results;
    nodes = nodes;
    earlier = subst (λ gs. KeepsEarlier gs old.nodes new.nodes) (sym was) (earlier_but s below old.nodes new.nodes but);
  }

  -- and one that leaves the stored results
  pub leaves_results : (old new : Cache C I R T) → new ≡ record old { nodes = new.nodes }
      → KeepsFinished old.nodes new.nodes → KeepsEarlier goals old.nodes new.nodes → ChangesCache same goals old new
  leaves_results old new is kept earlier = record {
    keeps = record {
      context = ap (λ cache. cache.cx) is;
      results = KeepsResults-same same old.results new.results (ap (λ cache. cache.results) is);
      nodes = kept;
      earlier = earlier;
    };
    changes = Untouched (ap (λ cache. cache.results) is);
  }

module _ {X F I R A T : Type 0} (nodes : List (CacheNode I R)) (one two three : List (OpenGoal X F I R A T)) where
  -- the nodes of the goals' runs after two changes
  pub stay_then : StayFrom nodes one two → StayFrom nodes two three → StayFrom nodes one three
  stay_then first second = λ place within from. second place within (first place within from)

-- what is kept for later goals is kept for earlier ones
pub later_keeps :
    {C F I R A T : Type 0} (same : I → I → Bool) (goals later : List (OpenGoal C F I R A T)) (old new : Cache C I R T)
    → StayFrom old.nodes goals later → KeepsCache same later old new → KeepsCache same goals old new
later_keeps same goals later old new stays keeps = record {
  context = keeps.context;
  results = keeps.results;
  nodes = keeps.nodes;
  earlier = earlier_over goals later old.nodes new.nodes stays keeps.earlier;
}
