-- Which goals can reach one by asking.
use Rattle.std.specs.Prelude.{List, Contains}

-- The goal is one of those that changed, or asks one that is concerned. A pair is a goal and one that it asks.
pub data IsConcerned {I : Type 0} (asks : List (I × I)) (changed : List I) : I → Type 0 where
  itself : (goal : I) → Contains changed goal → IsConcerned asks changed goal
  asker : (goal asked : I) → Contains asks (goal, asked) → IsConcerned asks changed asked
      → IsConcerned asks changed goal
