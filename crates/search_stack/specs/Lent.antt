-- What is lent of a stack for writing.
use Rattle.std.specs.Prelude.{List, [], ◌∷◌}
use Rattle.std.specs.Borrow.{Lends, MutBor, Fml, RattleType}
use Rattle.search_stack.specs.contracts.stack.Stack.{the_row}
use Rattle.search_stack.specs.contracts.stack.EntryState as state
use Rattle.std.specs.declared.cmp.PartialEq as PartialEq
use Rattle.std.specs.declared.hash.Hash as Hash
use Rattle.search_context.specs.declared.context.Cx as Cx

-- f of the last element, and the others as they are
abbrev pub change_last : {E : Type 0} → (E → E) → List E → List E
change_last f [] = []
change_last f (e ∷ []) = f e ∷ []
change_last f (e ∷ d ∷ es) = e ∷ change_last f (d ∷ es)

module _ (X I R A T : RattleType) (C : Cx.Ghosts X.Denot I.Denot R.Denot A.Denot T.Denot)
    (eq : PartialEq.Ghosts I.Denot) (hash : Hash.Ghosts I.Denot) (same : PartialEq.Ghosts R.Denot) where
  -- the row of the stack
  abbrev Stack : RattleType
  Stack = the_row X I R A T C eq hash same

  -- the row of what is lent of an entry
  abbrev State : RattleType
  State = state.the_row X I R A T eq hash

  -- the stack ends with the last value behind r as the last entry's state
  abbrev pub LendsLastState : MutBor Stack.Denot → MutBor State.Denot → Fml
  LendsLastState s r = Lends Stack State s r (λ w. change_last (λ e. record e { state = w }) s.now)
