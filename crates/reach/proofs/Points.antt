-- The questions of a point, and what they say of ways back.
use Rattle.std.proofs.Common.{◌≡◌, ◌≢◌, ℕ, zero, suc, ◌+◌, ◌<◌, ◌≤◌, ◌==◌, Bool, true, false, cond, ◌||◌, List, [], ◌∷◌}
use Rattle.std.proofs.Common.{map, length, sum_by, slice_get, get_or, Contains, Option, None, Some, refl, sym, ap, ◌∙◌}
use Rattle.std.proofs.Common.{subst, arith}
use Rattle.std.specs.List.{list_any}
use Rattle.std.specs.Option.{option_map_or, unwrap_or}
use Rattle.std.proofs.lemmas.Bool.{eqb-true, eq-eqb}
use Rattle.std.proofs.lemmas.List.{length-map}
use Rattle.std.proofs.lemmas.List.Folds.{list_any_at}
use Rattle.std.proofs.lemmas.List.Sums.{get_or-le-sum_by}
use Rattle.std.proofs.lemmas.Option.{slice_get_within, get_or_from_slice_get}
use Rattle.list_lemmas.proofs.Members.{contains_later, Contains-map, Contains-mapped}
use Rattle.question_lists.proofs.Ranked.{IsSolution}
use Rattle.reach.specs.Below.{Inductive, Needs, NeedsAll, NeedsAny, Question}
use Rattle.reach.specs.Paths.{Block, GoDown, IsEnteredFrom, IsWrittenBefore, LeadsBack, Writes}
use Rattle.reach.specs.Rule.{asks, is_written, most_predecessors, needs_of, predecessors_of, questions_of, writes_at}
use Rattle.reach.specs.declared.delegate.Point.{Point}

module _ {A : Type 0} (p : A → Bool) where
  any_from : (xs : List A) (x : A) → Contains xs x → p x ≡ true → list_any p xs ≡ true
  any_from xs x h e = list_any_at p xs h.0 x h.1 (ap p h.2 ∙ e)

  some_of : (b : Bool) (y : A) (xs : List A) → p y ≡ b → (list_any p xs ≡ true → (x : A) × Contains xs x × (p x ≡ true))
      → (b || list_any p xs) ≡ true → (x : A) × Contains (y ∷ xs) x × (p x ≡ true)
  some_of true y xs at rest e = (y, (0, omega arith, refl), at)
  some_of false y xs at rest e = let w = rest e in (w.0, contains_later w.0 y xs w.1, w.2)

  any_of : (xs : List A) → list_any p xs ≡ true → (x : A) × Contains xs x × (p x ≡ true)
  any_of [] e = absurd cc
  any_of (y ∷ xs) e = some_of (p y) y xs refl (any_of xs) e

module _ (blocks : List Block) where
  entered_in : (at before : ℕ) (o : Option Block) → slice_get blocks at ≡ o
      → Contains (option_map_or (λ b. b.predecessors.items) o []) before → IsEnteredFrom blocks at before
  entered_in at before None e h = absurd (omega (arith, h.1))
  entered_in at before (Some b) e h = record { block = b; is_block = e; has = h }

  pub entered : (at before : ℕ) → Contains (predecessors_of blocks at) before → IsEnteredFrom blocks at before
  entered at before h = entered_in at before (slice_get blocks at) refl h

  -- the other way round
  pub among : (at before : ℕ) → IsEnteredFrom blocks at before → Contains (predecessors_of blocks at) before
  among at before h =
      subst (λ o. Contains (option_map_or (λ b. b.predecessors.items) o []) before) (sym h.is_block) h.has

  writes_in : (at variable : ℕ) (o : Option Block) → slice_get blocks at ≡ o
      → option_map_or (λ b. list_any (λ w. w == variable) b.writes.items) o false ≡ true → Writes blocks at variable
  writes_in at variable None e h = absurd cc
  writes_in at variable (Some b) e h =
      let w = any_of (λ v. v == variable) b.writes.items h in
      record { block = b; is_block = e; has = subst (Contains b.writes.items) (eqb-true w.0 variable w.2) w.1 }

  writes : (at variable : ℕ) → writes_at blocks variable at ≡ true → Writes blocks at variable
  writes at variable h = writes_in at variable (slice_get blocks at) refl h

  writes_true : (at variable : ℕ) → Writes blocks at variable → writes_at blocks variable at ≡ true
  writes_true at variable h =
      subst (λ o. option_map_or (λ b. list_any (λ w. w == variable) b.writes.items) o false ≡ true) (sym h.is_block)
      (any_from (λ v. v == variable) h.block.writes.items variable h.has (eq-eqb variable variable refl))

  abbrev pub Holds : Point → Type 0
  Holds point = IsWrittenBefore blocks point.block point.variable

  all_only : (b : Bool) → cond b NeedsAll NeedsAny ≡ NeedsAll → b ≡ true
  all_only true e = refl
  all_only false e = absurd cc

  any_only : (b : Bool) → cond b NeedsAll NeedsAny ≡ NeedsAny → b ≡ false
  any_only true e = absurd cc
  any_only false e = refl

  no_question : (b : Bool) (qs : List (Question Point)) (q : Question Point) → b ≡ true → Contains (cond b [] qs) q → ⊥
  no_question true qs q e h = omega (arith, h.1)
  no_question false qs q e h = absurd cc

  questions_are : (b : Bool) (qs : List (Question Point)) → b ≡ false → cond b [] qs ≡ qs
  questions_are true qs e = absurd cc
  questions_are false qs e = refl

  -- a question is about a block from which the point's is entered
  pub asked_before : (point : Point) (q : Question Point) → Contains (questions_of blocks point) q
      → IsEnteredFrom blocks point.block q.goal.block × (q.goal.variable ≡ point.variable)
  asked_before point q h = at_bool (is_written blocks point) h
    where
      at_bool : (b : Bool) → Contains (cond b [] (map (asks point.variable) (predecessors_of blocks point.block))) q
          → IsEnteredFrom blocks point.block q.goal.block × (q.goal.variable ≡ point.variable)
      at_bool true h = absurd (omega (arith, h.1))
      at_bool false h =
          let w = Contains-map (asks point.variable) (predecessors_of blocks point.block) q h in (
            subst (IsEnteredFrom blocks point.block) (ap (λ x. x.goal.block) w.2) (entered point.block w.0 w.1),
            sym (ap (λ x. x.goal.variable) w.2),
          )

  -- each such block is asked where none of them writes
  ask_of : (point : Point) (before : ℕ) → is_written blocks point ≡ false → IsEnteredFrom blocks point.block before
      → Contains (questions_of blocks point) (asks point.variable before)
  ask_of point before e h =
      subst (λ qs. Contains qs (asks point.variable before))
      (sym (questions_are (is_written blocks point) (map (asks point.variable) (predecessors_of blocks point.block)) e))
      (Contains-mapped (asks point.variable) (predecessors_of blocks point.block) before (among point.block before h))

  written_now : (point : Point) → is_written blocks point ≡ true → Holds point
  written_now point e =
      let w = any_of (writes_at blocks point.variable) (predecessors_of blocks point.block) e in
      record {
        first = w.0;
        rest = [];
        writer = w.0;
        leads = (entered point.block w.0 w.1, refl);
        writes = writes w.0 point.variable w.2;
      }

  written_before : (point : Point) (q : Question Point)
      → Contains (questions_of blocks point) q → Holds q.goal → Holds point
  written_before point q has h =
      let a = asked_before point q has in
      record {
        first = q.goal.block;
        rest = h.first ∷ h.rest;
        writer = h.writer;
        leads = (a.0, h.leads);
        writes = subst (Writes blocks h.writer) a.1 h.writes;
      }

  never_written : (point : Point) → is_written blocks point ≡ false →
      ((q : Question Point) → Contains (questions_of blocks point) q → Holds q.goal → ⊥) →
      (first : ℕ) (rest : List ℕ) (writer : ℕ) → IsEnteredFrom blocks point.block first →
      LeadsBack blocks first rest writer → Writes blocks writer point.variable → ⊥
  never_written point e none first [] writer step same w =
      let t : is_written blocks point ≡ true = any_from (writes_at blocks point.variable)
      (predecessors_of blocks point.block) first (among point.block first step)
      (writes_true first point.variable (subst (λ x. Writes blocks x point.variable) (sym same) w)) in
      absurd cc
  never_written point e none first (second ∷ rest) writer step leads w =
      none (asks point.variable first) (ask_of point first e step)
      (record { first = second; rest = rest; writer = writer; leads = leads; writes = w })

  -- that a variable may have been written follows the rule
  pub is_solution : IsSolution (needs_of blocks) (questions_of blocks) Holds
  is_solution = record {
    all_hold = λ point e all. written_now point (all_only (is_written blocks point) e);
    some_fails = λ point q e has fails holds. no_question (is_written blocks point)
        (map (asks point.variable) (predecessors_of blocks point.block)) q (all_only (is_written blocks point) e) has;
    some_holds = λ point q e has holds. written_before point q has holds;
    all_fail = λ point e none h. never_written point (any_only (is_written blocks point) e) none h.first h.rest
        h.writer h.leads.0 h.leads.1 h.writes;
  }

  -- questions go down
  pub down : GoDown blocks → (point : Point) (q : Question Point)
      → Contains (questions_of blocks point) q → q.goal.block < point.block
  down go_down point q h = go_down point.block q.goal.block (asked_before point q h).0

  within_in : (at : ℕ) (o : Option Block) → slice_get blocks at ≡ o
      → length (option_map_or (λ b. b.predecessors.items) o []) ≤ most_predecessors blocks
  within_in at None e = omega arith
  within_in at (Some b) e =
      let h = get_or-le-sum_by (λ x. length x.predecessors.items) blocks at b (slice_get_within blocks at b e) in
      let same : get_or blocks at b ≡ b = get_or_from_slice_get blocks at b b e in
      let n : length (get_or blocks at b).predecessors.items ≡ length b.predecessors.items =
      ap (λ x. length x.predecessors.items) same in
      omega (arith, h, n)

  -- no block has more predecessors than all have together
  pub predecessors_within : (at : ℕ) → length (predecessors_of blocks at) ≤ most_predecessors blocks
  predecessors_within at = within_in at (slice_get blocks at) refl
