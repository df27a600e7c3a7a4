-- The successors of a place, in a graph of vectors.
use Rattle.std.proofs.Common.{◌≡◌, ℕ, ◌<◌, ◌≤◌, List, [], length, slice_index_or, arith, ap, sym, ◌∙◌, subst}
use Rattle.std.specs.Global.{Vec}
use Rattle.std.specs.List.{All}
use Rattle.std.proofs.lemmas.List.{get_or-map, length-map}
use Rattle.std.proofs.lemmas.List.Elements.{All-from_get_or, All-get_or}
use Rattle.strong_components.specs.Words.{StaysInside, successor_lists}

pub row_is : (graph : List (Vec ℕ)) (place : ℕ) (row : Vec ℕ) → place < length graph
    → row ≡ slice_index_or graph place row → slice_index_or (successor_lists graph) place [] ≡ row.items
row_is graph place row inside read =
    get_or-map (λ (successors : Vec ℕ). successors.items) graph place row [] inside
    ∙ ap (λ (successors : Vec ℕ). successors.items) (sym read)

pub length-successor_lists : (graph : List (Vec ℕ)) → length (successor_lists graph) ≡ length graph
length-successor_lists graph = length-map graph (λ (successors : Vec ℕ). successors.items)

-- the graph stays inside where each row does
pub inside_from_rows : (graph : List (Vec ℕ)) (n : ℕ) → length graph ≤ n
    → ((k : ℕ) → k < n → All (λ place. place < length graph) (slice_index_or (successor_lists graph) k []))
    → StaysInside (successor_lists graph)
inside_from_rows graph n all rows =
    let long = length-successor_lists graph in
    All-from_get_or (All (λ place. place < length (successor_lists graph))) (successor_lists graph) []
    (λ k lt. subst (λ m. All (λ place. place < m) (slice_index_or (successor_lists graph) k []))
    (sym long) (rows k (omega arith)))

pub row_from_inside : (graph : List (Vec ℕ)) (place : ℕ) (row : Vec ℕ) → place < length graph
    → row ≡ slice_index_or graph place row → StaysInside (successor_lists graph) → All (λ b. b < length graph) row.items
row_from_inside graph place row lt read inside =
    let long = length-successor_lists graph in
    let at =
    All-get_or (All (λ b. b < length (successor_lists graph))) (successor_lists graph) place [] (omega arith) inside in
    subst (All (λ b. b < length graph)) (row_is graph place row lt read)
    (subst (λ m. All (λ b. b < m) (slice_index_or (successor_lists graph) place [])) long at)
