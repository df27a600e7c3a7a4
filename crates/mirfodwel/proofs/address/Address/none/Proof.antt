-- `none` makes an address of nothing.
use Rattle.std.proofs.Common.{◌≡◌, [], ◌∷◌, refl, lit<}
use base.Logic.{emp}
use base.Fml.{ftrue}
use types.ByLocal.{alloc_all, pass_all, free_all, look_at, sets}
use types.Kit.{‵, raw, ◌⊛◌, ◌$◌, ◌∵◌, !, qed, by, keep, split, use0}
use types.Part.{agg}
use types.Run.{lit, no_more, and_then, returns, enter}
use contract.Monad.{fact, fact_i}
use contract.Running.{tables}
use denote.RawPtr.{null_ptr}
use denote.Steps.{nothing}
use denote.Triple.Walked.{Stays, walk_of}
use Rattle.std.specs.Prelude.{Option, None}
use Rattle.std.proofs.raw_atomic.Walks.{proved_at, leaves}
use Rattle.mirfodwel.specs.declared.inside.Inside.{Inside}
use Rattle.mirfodwel.proofs.Values.{word, address_in}
use Rattle.mirfodwel.specs.contracts.address.Address.none.{ended, clauses}
use Rattle.mirfodwel.specs.contracts.address.Address.none.Key.{name as #none}
use Rattle.mirfodwel.proofs.address.Address.none.Statement.{statement}
use Rattle.mirfodwel.proofs.address.Address.none.Code as code

abbrev is_empty : Type 0
is_empty = ◌≡◌ {A = Option Inside} None None

abbrev spent : Stays ended.signature.params ended.kept
spent = tt

pub none_spec : {M : Type 1} → statement M
none_spec 𝓤 𝓛 𝓜 𝓡 wired =
    let 𝓣 = tables 𝓤 𝓛.H 𝓜 𝓡 𝓡.env in
    let c = clauses 𝓛 𝓜.mem 𝓡.returns in let W = walk_of 𝓛 ended spent c in
    proved_at 𝓛 ended spent c 𝓜 𝓡 tt #none code.function (code.unfolded 𝓤 𝓛.H 𝓜 𝓡 wired) (λ y are.
    qed 𝓛 ((‵ ftrue ⊛ ‵ ftrue) ∷ raw ((c y.0.0 y.0.3).requires y.1) ∷ []) ∵ split ! $
    enter ! 𝓣.C 𝓣.Λ code.function [] (W.post y) $ alloc_all ! (λ l. pass_all ! refl tt $
    sets ! (agg ! (and_then ! (lit ! tt) (no_more !))) refl (tt, (record { fits = lit< tt }, tt)) $
    nothing ! $ address_in ! null_ptr None $
    use0 𝓛 (raw (fact 𝓤 is_empty)) (fact_i 𝓤 is_empty (emp 𝓤) refl) $ nothing ! $
    returns ! (look_at ! 0 refl) $ free_all ! refl $ keep ! (3 ∷ 0 ∷ 2 ∷ 1 ∷ []) $
    by ! (leaves 𝓛 ended spent c y (word null_ptr) (record { at = null_ptr; inside = None }) tt tt)))
