-- Nodes that are in a list stay in it while it grows.
use Rattle.std.proofs.Common.{◌≡◌, ℕ, ◌<◌, ◌≤◌, ◌+◌, List, [], ◌∷◌, ◌++◌, length, take, get_or, All, Contains}
use Rattle.std.proofs.Common.{sym, subst}
use Rattle.std.proofs.lemmas.List.{take_all}
use Rattle.std.proofs.lemmas.List.Elements.{All-weaker, All-more, Contains-append_left, Contains-push}
use Rattle.run_records.specs.Below.{NodeId}
use Rattle.run_records.specs.Words.{Run, HasRunNodes, HasTarget}
use Rattle.run_records.specs.declared.progress.DefiniteAnswer.{DefiniteAnswer}

-- what is in one list is in the other
abbrev pub Kept : List NodeId → List NodeId → Type 0
Kept few many = (n : NodeId) → Contains few n → Contains many n

pub kept_through : (old items new : List NodeId) → Kept old items → Kept items new → Kept old new
kept_through old items new first second = λ n within. second n (first n within)

-- a node more at the end
pub kept_by_push : (old new : List NodeId) (node : NodeId) → new ≡ old ++ node ∷ [] → Kept old new
kept_by_push old new node is =
    λ n within. subst (λ list. Contains list n) (sym is) (Contains-append_left old (node ∷ []) n within)

pub has_pushed : (old new : List NodeId) (node : NodeId) → new ≡ old ++ node ∷ [] → Contains new node
has_pushed old new node is = subst (λ list. Contains list node) (sym is) (Contains-push old node)

-- a list of the same nodes
pub kept_by_same : (old few many : List NodeId) → Kept old few → many ≡ few → Kept old many
kept_by_same old few many kept same = subst (Kept old) (sym same) kept

-- each element has what it needs once all were passed
pub all_passed : {E : Type 0} (P : E → Type 0) (es : List E) (i : ℕ) → length es ≤ i → All P (take i es) → All P es
all_passed P es i past = subst (All P) (take_all i es past)

-- one element more has what it needs, where the needs of those before it are kept
pub all_more_kept : {E : Type 0} (Has : List NodeId → E → Type 0)
    (keeps : (few many : List NodeId) → Kept few many → (e : E) → Has few e → Has many e)
    → (few many : List NodeId) (es : List E) (i : ℕ) (e : E) → i < length es → e ≡ get_or es i e → Kept few many
    → All (Has few) (take i es) → Has many e → All (Has many) (take (i + 1) es)
all_more_kept Has keeps few many es i e below at kept so_far here =
    All-more (Has many) es i e below (All-weaker (Has few) (Has many) (keeps few many kept) (take i es) so_far)
    (subst (Has many) at here)

pub keeps_target : {I : Type 0} (few many : List NodeId) → Kept few many → (a : DefiniteAnswer I)
    → HasTarget few a → HasTarget many a
keeps_target few many kept a has = kept (record { 0 = a.edge.target }) has

pub keeps_run_nodes : {X F I R A T : Type 0} (few many : List NodeId) → Kept few many → (run : Run X F I R A T)
    → HasRunNodes few run → HasRunNodes many run
keeps_run_nodes few many kept run has = record {
  own = kept run.node has.own;
  answers = All-weaker (HasTarget few) (HasTarget many) (keeps_target few many kept) run.progress.answers has.answers;
}
