-- `of` keeps the address of what is handed over.
use Rattle.std.proofs.Common.{◌≡◌, List, [], ◌∷◌, ◌++◌, refl}
use mir.Val.{Val}
use base.Logic.{SProp, emp}
use base.Fml.{ftrue}
use prog.Wp.{WpFn}
use types.ByLocal.{alloc_all, pass_all, free_all, look_at, get, get_in, sets}
use types.Kit.{‵, raw, ◌⊛◌, prop, ◌$◌, ◌∵◌, !, qed, by, move, keep, split, fsplit, fjoin, use0, regoal}
use types.Part.{agg, sub, whole}
use types.Run.{stop, fld, of_opd, no_more, and_then, returns, enter}
use contract.Monad.{fact, fact_i}
use contract.Running.{tables}
use denote.Exit.{no}
use denote.RattleType.{RattleType, owns}
use denote.RawPtr.{block_ptr}
use denote.Signature.{types_at, plain}
use denote.Steps.{nothing}
use denote.Triple.Walked.{Stays, stay_dropped, walk_of}
use Rattle.std.specs.Prelude.{Some}
use Rattle.std.proofs.raw_atomic.Walks.{proved_at, leaves}
use Rattle.std.specs.contracts.alloc.Global as heap
use Rattle.std.specs.contracts.impls.GlobalAllocator.TheImpl.{ghosts}
use Rattle.core.proofs.alloc.Calls.{Goes-blank}
use Rattle.std_alloc.proofs.BoxSteps.Form as box
use Rattle.unboxed.specs.contracts.Unboxed as unboxed
use Rattle.unboxed.proofs.Values.{taken}
use Rattle.mirfodwel.specs.contracts.inside.Inside as inside
use Rattle.mirfodwel.proofs.Values.{Session, word, address_in}
use Rattle.mirfodwel.specs.contracts.address.Address.of.{ended, clauses}
use Rattle.mirfodwel.specs.contracts.address.Address.of.Key.{name as #of}
use Rattle.mirfodwel.proofs.address.Address.of.Statement.{statement}
use Rattle.mirfodwel.proofs.address.Address.of.Code as code

abbrev Parts : RattleType
Parts = unboxed.the_row inside.the_row heap.the_row ghosts

-- the parts are used up
abbrev spent : Stays ended.signature.params ended.kept
spent = (stay_dropped (plain (λ _. Parts)) no, tt)

pub of_spec : {M : Type 1} → statement M
of_spec 𝓤 𝓛 𝓜 𝓡 wired =
    let 𝓣 = tables 𝓤 𝓛.H 𝓜 𝓡 𝓡.env in
    let c = clauses 𝓛 𝓜.mem 𝓡.returns in let W = walk_of 𝓛 ended spent c in
    proved_at 𝓛 ended spent c 𝓜 𝓡 (Goes-blank 𝓛 0 (plain (λ _. Parts)) no (λ κs parts f. tt), tt)
    #of code.function (code.unfolded 𝓤 𝓛.H 𝓜 𝓡 wired) (λ y are.
    let parts = y.0.3.0 in let Same : Type 0 = Some parts.value ≡ Some parts.value in
    let Runs : List Val → SProp 𝓤 = λ vs. WpFn 𝓤 𝓛.H 𝓣.C 𝓣.Λ code.function vs (W.post y) in
    let handed = owns (types_at ended.signature.params y.0.0) y.0.3 y.0.4 in
    qed 𝓛 ((‵ ftrue ⊛ ‵ handed) ∷ raw ((c y.0.0 y.0.3).requires y.1) ∷ []) ∵
    split ! $ move ! (1 ∷ []) $ fsplit ! $ taken Session ! parts y.0.4.0 (λ b o hv in_block stored fits.
    regoal ! (λ (vs : List Val). prop (Runs (vs ++ []))) stored refl $
    enter ! 𝓣.C 𝓣.Λ code.function (box.word Session hv b o ∷ []) (W.post y) $
    alloc_all ! (λ l. pass_all ! refl (box.box_typed Session hv b o fits, tt) $
    sets ! (of_opd ! (get_in ! (fld ! refl (stop !)) (sub ! 0 refl (whole !)))) refl (tt, tt) $
    sets ! (agg ! (and_then ! (get ! refl) (no_more !))) refl (tt, (tt, tt)) $
    -- [the session in its block; the allocator; nothing; no tokens]
    address_in ! (block_ptr b o) (Some parts.value) $
    use0 𝓛 (raw (fact 𝓤 Same)) (fact_i 𝓤 Same (emp 𝓤) refl) $ nothing ! $ nothing ! $ fjoin ! $
    returns ! (look_at ! 0 refl) $ free_all ! refl $ keep ! (5 ∷ 0 ∷ 2 ∷ 1 ∷ []) $
    by ! (leaves 𝓛 ended spent c y (word (block_ptr b o)) (record { at = block_ptr b o; inside = Some parts.value })
    (tt, tt) (tt, tt)))))
