-- What a step reads: the last place of the path, how many of its successors are left, and one of them.
use Rattle.std.proofs.Common.{◌≡◌, ℕ, ◌<◌, ◌≤◌, ◌+◌, ◌*◌, List, [], length, set, sum, slice_index, slice_index_or}
use Rattle.std.proofs.Common.{arith, ap, sym, ◌∙◌}
use Rattle.std.specs.Global.{Vec}
use Rattle.std.proofs.lemmas.List.{get_or_read}
use Rattle.std.proofs.lemmas.List.Sums.{sum_by-set}
use Rattle.strong_components.specs.Words.{Open, Search, HasStep, StaysInside, successor_lists, HasLast, IsOngoing}
use Rattle.strong_components.specs.Words.{IsSearch, MayStep, state_at}
use Rattle.strong_components.proofs.Indexes.{contains_at}
use Rattle.strong_components.proofs.Lowering.{lower_keeps, top_open}
use Rattle.strong_components.proofs.Rows.{length-successor_lists, row_is}
use Rattle.strong_components.proofs.States.{state_inside}
use Rattle.strong_components.proofs.Walks.{step_to_inside}

module _ (graph : List (Vec ℕ)) (s : Search) (position place : ℕ)
    (h : IsSearch (successor_lists graph) s)
    (ends : HasLast s.path.items position)
    (read : place ≡ slice_index_or s.opened.items position place) where
  pub is_open : state_at s.states.items place ≡ Open position
  is_open = top_open (successor_lists graph) s.states.items s.left.items s.opened.items s.starts.items
      s.path.items s.closed place position h ends read

  in_states : place < length s.states.items
  in_states = state_inside s.states.items place position is_open

  pub in_graph : place < length graph
  in_graph =
      let inside = in_states in let fit = h.fit in
      let long = length-successor_lists graph in omega arith

  pub in_left : place < length s.left.items
  in_left = let inside = in_states in let fit = h.fit in let left_fit = h.are_left.fit in omega arith

  pub left_is : (left : ℕ) → left ≡ slice_index_or s.left.items place left → slice_index s.left.items place ≡ left
  left_is left read_left = sym (get_or_read s.left.items place left in_left read_left 0)

  module _ (left : ℕ) (read_left : left ≡ slice_index_or s.left.items place left) (row : Vec ℕ)
      (read_row : row ≡ slice_index_or graph place row) where
    same_row : slice_index_or (successor_lists graph) place [] ≡ row.items
    same_row = row_is graph place row in_graph read_row

    pub left_in_row : left ≤ length row.items
    left_in_row =
        let low = h.are_left.inside place in let is = left_is left read_left in
        let long = ap (length {A = ℕ}) same_row in omega arith

    module _ (less successor : ℕ) (one : left ≡ less + 1)
        (read_successor : successor ≡ slice_index_or row.items less successor) where
      pub successor_is : slice_index (slice_index_or (successor_lists graph) place []) less ≡ successor
      successor_is =
          let long = left_in_row in
          ap (λ xs. slice_index xs less) same_row
          ∙ sym (get_or_read row.items less successor (omega arith) read_successor 0)

      pub has_step : HasStep (successor_lists graph) place successor
      has_step =
          let long = left_in_row in let same = ap (length {A = ℕ}) same_row in
          contains_at (slice_index_or (successor_lists graph) place []) successor less (omega arith) successor_is

      pub successor_inside : StaysInside (successor_lists graph) → successor < length s.states.items
      successor_inside inside =
          let lt = step_to_inside (successor_lists graph) place successor inside has_step in
          let fit = h.fit in omega arith

      -- once the successor is looked at, one less is left
      pub step_keeps : (now : Search) → now.left.items ≡ s.left.items → IsSearch (successor_lists graph) now
          × MayStep now.starts.items (Open position) (state_at now.states.items successor)
          × (state_at now.states.items place ≡ Open position) → IsOngoing (successor_lists graph) now.states.items
          (set now.left.items place less) now.opened.items now.starts.items now.path.items now.closed
      step_keeps now same (keeps, may, still) =
          lower_keeps (successor_lists graph) now.states.items now.left.items now.opened.items now.starts.items
          now.path.items now.closed place position less keeps still
          (ap (λ xs. slice_index xs place) same ∙ left_is left read_left ∙ one)
          (let inside = in_left in let long = ap (length {A = ℕ}) same in omega arith)
          successor successor_is may

      pub step_is_less : (now : List ℕ) (path : List ℕ) → now ≡ s.left.items → length path ≤ length s.path.items + 1
          → 2 * sum (set now place less) + length path < 2 * sum s.left.items + length s.path.items
      step_is_less now path same long =
          let inside = in_left in let fit = ap (length {A = ℕ}) same in
          let sums = sum_by-set (λ (n : ℕ). n) now place less 0 (omega arith) in
          let total : sum now ≡ sum s.left.items = ap sum same in
          let was = ap (λ xs. slice_index xs place) same in
          let is = left_is left read_left in omega arith
