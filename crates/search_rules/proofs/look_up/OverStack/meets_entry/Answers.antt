use Rattle.std.proofs.Common.{◌≡◌, ◌<◌, ◌≤◌, ◌+◌, ◌||◌, ℕ, Bool, true, false, List, length, get_or, drop, suc, sym, ap}
use Rattle.std.proofs.Common.{◌∙◌, add-one, arith}
use Rattle.std.proofs.Math.ListN.{drop_of_length-le}
use Rattle.std.proofs.Math.Seq.{drop-cons}
use Rattle.std.specs.List.{list_any}
use Rattle.search_rules.specs.Below.{entries_at}
use Rattle.search_rules.specs.Words.{could_be_used}
use Rattle.search_rules.proofs.moves.LookUps.{entry_on_stack}
use Rattle.search_rules.proofs.look_up.OverStack.meets_entry.Goals as goal

-- ---- those that are left decide

module _ {A : Type 0} (p : A → Bool) (xs : List A) (k : ℕ) (left : list_any p (drop k xs) ≡ list_any p xs) where
  first_or_rest : (x : A) → k < length xs → x ≡ get_or xs k x → (p x || list_any p (drop (suc k) xs)) ≡ list_any p xs
  first_or_rest x within is =
      ap (λ y. p y || list_any p (drop (suc k) xs)) is ∙ sym (ap (list_any p) (drop-cons xs k x within)) ∙ left

  it_decides : (x : A) → k < length xs → x ≡ get_or xs k x → p x ≡ true → true ≡ list_any p xs
  it_decides x within is here = ap (λ b. b || list_any p (drop (suc k) xs)) (sym here) ∙ first_or_rest x within is

  rest_decide : (x : A) → k < length xs → x ≡ get_or xs k x → p x ≡ false → list_any p (drop (k + 1) xs) ≡ list_any p xs
  rest_decide x within is not_here =
      rw add-one (ap (λ b. b || list_any p (drop (suc k) xs)) (sym not_here) ∙ first_or_rest x within is)

  none_decide : length xs ≤ k → false ≡ list_any p xs
  none_decide past = ap (list_any p) (sym (drop_of_length-le xs past)) ∙ left

-- ----

pub loop-entry-preserved : goal.loop-entry-preserved
loop-entry-preserved g c = rest_decide (could_be_used c.args.self.now c.args.paths) c.entries_of-entries.result.now
    c.loop-entry.entry-index c.loop-entry.invariant c.entry-item.result c.loop-entry-test.true c.entry-item.is
    (sym c.could_be_used.ensures ∙ c.if-could_be_used.false)

pub could_be_used-requires-clause-some : goal.could_be_used-requires-clause-some
could_be_used-requires-clause-some g c = (entry_on_stack g.D.Cx.Input.PartialEq.eq c.self.inside.stack.now
    c.args.self.now.stack c.self.inside.provisional.now c.args.goal c.entries_of-entries.result.now c.self.invariant
    (ap (λ t. t.stack) c.self.view_is) c.entries_of-entries.ensures.entries c.entries_of-entries.ensures.heads
    c.loop-entry.entry-index c.entry-item.result c.loop-entry-test.true c.entry-item.is).0

pub could_be_used-requires-clause-on_stack : goal.could_be_used-requires-clause-on_stack
could_be_used-requires-clause-on_stack g c = (entry_on_stack g.D.Cx.Input.PartialEq.eq c.self.inside.stack.now
    c.args.self.now.stack c.self.inside.provisional.now c.args.goal c.entries_of-entries.result.now c.self.invariant
    (ap (λ t. t.stack) c.self.view_is) c.entries_of-entries.ensures.entries c.entries_of-entries.ensures.heads
    c.loop-entry.entry-index c.entry-item.result c.loop-entry-test.true c.entry-item.is).1

pub returns-then-could_be_used : goal.returns-then-could_be_used
returns-then-could_be_used g c =
    it_decides (could_be_used c.args.self.now c.args.paths) c.entries_of-entries.result.now c.loop-entry.entry-index
    c.loop-entry.invariant c.entry-item.result c.loop-entry-test.true c.entry-item.is
    (sym c.could_be_used.ensures ∙ c.if-could_be_used.true)
    ∙ ap (list_any (could_be_used c.args.self.now c.args.paths)) (c.entries_of-entries.ensures.entries
    ∙ ap (λ t. entries_at g.D.Cx.Input.PartialEq.eq t.entries c.args.goal) c.self.view_is)

pub returns : goal.returns
returns g c =
    none_decide (could_be_used c.args.self.now c.args.paths) c.entries_of-entries.result.now c.loop-entry.entry-index
    c.loop-entry.invariant (omega (arith, c.loop-entry-test.false))
    ∙ ap (list_any (could_be_used c.args.self.now c.args.paths)) (c.entries_of-entries.ensures.entries
    ∙ ap (λ t. entries_at g.D.Cx.Input.PartialEq.eq t.entries c.args.goal) c.self.view_is)
