-- What holds of every cache still holds when an open node is appended, when the run of an open node ends, and when a
-- result is stored. What a look-up gives is worth as much.
use Rattle.std.proofs.Common.{◌≡◌, Bool, true, List, [], ◌∷◌, ℕ, Option, Result, Ok, Err, sym, subst, subst₂}
use Rattle.std.specs.Prelude.{OnOk, OnErr}
use Rattle.std.specs.Option.{IsSomeAnd, IfSome, option_map}
use Rattle.global_cache.specs.Below.{Request, Reply, EvaluationResult, NestedPaths, NodeId, Verdicts, EndedRun}
use Rattle.global_cache.specs.Below.{CacheNode, open_goal, with_run, IsRun, HasGraph, AreLive, Collected}
use Rattle.global_cache.specs.Words.{CacheData, Place, StoredResult, Cache, hit_of, first_accepted, usable}
use Rattle.global_cache.specs.Words.{AreSoundFindings, IsSoundCache, Store, Puts, place_of, stored_from, IsPlainAt}
use Rattle.global_cache.specs.Words.{IsSoundResult, AreRooted}
use Rattle.graph_nodes.proofs.Collecting.{AreRuns-collected}
use Rattle.global_cache.proofs.Collecting.{AreSoundResults-collected}
use Rattle.graph_nodes.proofs.NodeLists.{appended, AreRuns-appended, AreRuns-ended, KeepsGoals-appended, Grown-appended}
use Rattle.graph_nodes.proofs.NodeLists.{KeepsGoals-ended, Grown-ended}
use Rattle.global_cache.proofs.Stored.{AreSoundResults-grown, AreSoundResults-stored, IsWorth, result_is_worth}

-- where nothing is known, it is sound by any scripts
pub AreSoundFindings-empty : {I R T : Type 0} (same : I → I → Bool) (says : Verdicts R)
    (scripts : I → List (Reply R) → Request I R) (nodes : List (CacheNode I R)) (results : Store I (StoredResult I R T))
    → nodes ≡ [] → results ≡ [] → AreSoundFindings same says scripts (record { nodes = nodes; results = results })
AreSoundFindings-empty same says scripts [] [] no_node no_result =
    record { runs = λ at n run there. absurd cc; results = λ input place s there. absurd cc }
AreSoundFindings-empty same says scripts (n ∷ nodes) results no_node no_result = absurd cc
AreSoundFindings-empty same says scripts [] (r ∷ results) no_node no_result = absurd cc

module _ {X I R T : Type 0} (same : I → I → Bool) (says : Verdicts R) (scripts : X → I → List (Reply R) → Request I R)
    (cache : Cache X I R T) (sound : IsSoundCache same says scripts cache) where
  pub IsSoundCache-appended : (grew : Bool) (goal : I)
      → IsSoundCache same says scripts (record cache { nodes = appended grew cache.nodes goal })
  IsSoundCache-appended grew goal = record {
    runs = AreRuns-appended says (scripts cache.cx) grew cache.nodes goal sound.runs;
    results =
        AreSoundResults-grown same says (scripts cache.cx) cache.nodes (appended grew cache.nodes goal) cache.results
        (KeepsGoals-appended grew cache.nodes goal) (Grown-appended says grew cache.nodes goal) sound.results;
  }

  pub IsSoundCache-ended : (k : ℕ) (run : EndedRun I R)
      → IsSomeAnd (open_goal cache.nodes k) (λ goal. IsRun says (scripts cache.cx goal) cache.nodes run)
      → IsSoundCache same says scripts (record cache { nodes = with_run cache.nodes k run })
  IsSoundCache-ended k run is_open = record {
    runs = AreRuns-ended says (scripts cache.cx) cache.nodes k run is_open sound.runs;
    results = AreSoundResults-grown same says (scripts cache.cx) cache.nodes (with_run cache.nodes k run) cache.results
        (KeepsGoals-ended cache.nodes k run (λ goal. IsRun says (scripts cache.cx goal) cache.nodes run) is_open)
        (Grown-ended cache.nodes k run (λ goal. IsRun says (scripts cache.cx goal) cache.nodes run) is_open says)
        sound.results;
  }

-- a cache whose context, nodes and results are these
module _ {X I R T : Type 0} (same : I → I → Bool) (says : Verdicts R) (scripts : X → I → List (Reply R) → Request I R)
    (cx : X) (nodes : List (CacheNode I R)) (results : Store I (StoredResult I R T)) (cache : Cache X I R T)
    (view : record { cx = cx; nodes = nodes; results = results } ≡ cache)
    (sound : IsSoundCache same says scripts (record { cx = cx; nodes = nodes; results = results })) where
  -- a result of the goal is stored, or nothing changes
  pub IsSoundCache-stored : {A : Type 0} → ((x y : I) → same x y ≡ true → x ≡ y)
      → {U E : Type 0} (answer : Result U E) (new : Store I (StoredResult I R T)) (input : I)
      (evaluated : EvaluationResult X I R A T) (token : T) (place : Place) (stored : StoredResult I R T)
      → HasGraph says cache.nodes input evaluated.result evaluated.node
      → IsPlainAt (scripts cache.cx) input (place_of evaluated) evaluated.result
      → place ≡ place_of evaluated → stored ≡ stored_from evaluated token
      → OnOk answer (Puts same results new input place stored) → OnErr answer (new ≡ results)
      → IsSoundCache same says scripts (record { cx = cx; nodes = nodes; results = new })
  IsSoundCache-stored by_value answer new input evaluated token place stored graph plain at is ok err =
      let may : IsSoundResult says (scripts cache.cx) cache.nodes input (place_of evaluated)
      (stored_from evaluated token) = record { graph = graph; plain = plain } in
      record {
        runs = sound.runs;
        results = AreSoundResults-stored same says (scripts cx) by_value nodes results new input place stored
            (subst (λ (c : Cache X I R T). IsSoundResult says (scripts c.cx) c.nodes input place stored) (sym view)
            (subst₂ (IsSoundResult says (scripts cache.cx) cache.nodes input) (sym at) (sym is) may)) sound.results
            answer ok err;
      }

  -- what a look-up in it gives is worth
  pub found_is_worth : {A : Type 0} (accepts : NestedPaths I → Bool) (input : I) (available : ℕ)
      (found : Option (CacheData X I R A T))
      → option_map hit_of found ≡ first_accepted accepts (usable same results input available)
      → IfSome found (λ hit. IsWorth says (scripts cache.cx) cache.nodes input available (hit_of hit))
  found_is_worth accepts input available found is =
      subst (λ (c : Cache X I R T).
      IfSome found (λ hit. IsWorth says (scripts c.cx) c.nodes input available (hit_of hit))) view
      (result_is_worth says (scripts cx) nodes input available accepts same results found sound.results is)

  -- nodes are let go to which nothing leads, or nothing changes
  pub IsSoundCache-collected : {U E : Type 0} (answer : Result U E)
      (new : List (CacheNode I R)) (first : ℕ) (roots : List NodeId)
      → AreRooted same first roots cache.results
      → OnOk answer ((live : ℕ → Bool) × AreLive nodes first roots live × Collected live nodes new)
      → OnErr answer (new ≡ nodes)
      → IsSoundCache same says scripts (record { cx = cx; nodes = new; results = results })
  IsSoundCache-collected (Ok u) new first roots rooted ok err = record {
    runs = AreRuns-collected ok.0 nodes new ok.2 says (scripts cx) sound.runs;
    results = AreSoundResults-collected ok.0 nodes new ok.2 says (scripts cx) same first roots results ok.1
        (subst (λ (c : Cache X I R T). AreRooted same first roots c.results) (sym view) rooted) sound.results;
  }
  IsSoundCache-collected (Err e) new first roots rooted ok err =
      subst (λ (l : List (CacheNode I R)).
      IsSoundCache same says scripts (record { cx = cx; nodes = l; results = results })) (sym err) sound
