-- `into_parts` hands out what the address leads to, with the allocator that it is given.
use Rattle.std.proofs.Common.{◌≡◌, List, [], ◌∷◌, ◌++◌, refl, sym, ap, ◌∙◌}
use mir.Raw.{raw as bare}
use mir.Val.{Val}
use base.Logic.{SProp, emp, never, fst∗}
use base.Fml.{ftrue}
use prog.Wp.{WpFn}
use types.ByLocal.{alloc_all, pass_all, free_all, look_at, get, get_in, sets}
use types.Kit.{‵, raw, ◌⊛◌, prop, ◌$◌, ◌∵◌, !, qed, by, move, keep, split, fsplit, fjoin, use0, rewrite, regoal}
use types.Logic.{sem}
use types.Part.{agg, sub, whole}
use types.Run.{stop, fld, of_opd, no_more, and_then, returns, enter}
use contract.Monad.{fact, fact_i}
use contract.Running.{tables}
use denote.Exit.{yes}
use denote.Memory.{lone}
use denote.RattleType.{owns}
use denote.RawPtr.{Ptr, block_ptr, null_ptr, in_a_block}
use denote.Signature.{types_at, plain}
use denote.Steps.{nothing, heard}
use denote.Triple.Walked.{Stays, stay_dropped, walk_of, Goes-dropped}
use Rattle.core.proofs.alloc.Calls.{handle_tells}
use Rattle.std.specs.Prelude.{Option, Some, IsSome}
use Rattle.std.specs.contracts.alloc.Global as heap
use Rattle.std.specs.contracts.impls.GlobalAllocator.TheImpl.{ghosts}
use Rattle.std.proofs.raw_atomic.Walks.{proved_at, leaves}
use Rattle.std_alloc.specs.Box.Ownership.{box_owns}
use Rattle.std_alloc.proofs.BoxSteps.Form as box
use Rattle.unboxed.proofs.Values.{parts, packs}
use Rattle.mirfodwel.specs.Held.{held}
use Rattle.mirfodwel.specs.declared.inside.Inside.{Inside}
use Rattle.mirfodwel.specs.contracts.inside.Inside as inside
use Rattle.mirfodwel.specs.contracts.address.Address as address
use Rattle.mirfodwel.proofs.Values.{Session, word, address_out, some_of}
use Rattle.mirfodwel.specs.contracts.address.Address.into_parts.{ended, clauses}
use Rattle.mirfodwel.specs.contracts.address.Address.into_parts.Key.{name as #into_parts}
use Rattle.mirfodwel.proofs.address.Address.into_parts.Statement.{statement}
use Rattle.mirfodwel.proofs.address.Address.into_parts.Code as code

abbrev spent : Stays ended.signature.params ended.kept
spent = (stay_dropped (plain (λ _. address.the_row)) yes, (stay_dropped (plain (λ _. heap.the_row)) yes, tt))

pub into_parts_spec : {M : Type 1} → statement M
into_parts_spec 𝓤 𝓛 𝓜 𝓡 wired =
    let 𝓣 = tables 𝓤 𝓛.H 𝓜 𝓡 𝓡.env in
    let c = clauses 𝓛 𝓜.mem 𝓡.returns in let W = walk_of 𝓛 ended spent c in
    proved_at 𝓛 ended spent c 𝓜 𝓡 (
      Goes-dropped 𝓛 0 (plain (λ _. address.the_row)) yes (λ κs x f. refl),
      (Goes-dropped 𝓛 0 (plain (λ _. heap.the_row)) yes (λ κs x f. refl), tt),
    )
    #into_parts code.function (code.unfolded 𝓤 𝓛.H 𝓜 𝓡 wired) (λ y are.
    let self = y.0.3.0 in let alloc = y.0.3.1.0 in
    let Runs : List Val → SProp 𝓤 = λ vs. WpFn 𝓤 𝓛.H 𝓣.C 𝓣.Λ code.function vs (W.post y) in
    let handed = owns (types_at ended.signature.params y.0.0) y.0.3 y.0.4 in
    qed 𝓛 ((‵ ftrue ⊛ ‵ handed) ∷ raw ((c y.0.0 y.0.3).requires y.1) ∷ []) ∵
    move ! (1 ∷ []) $ heard ! (IsSome self.inside) (λ some.
    let x = (some_of self.inside some).0 in let is_x = (some_of self.inside some).1 in
    split ! $ move ! (1 ∷ []) $ fsplit ! $ address_out ! self y.0.4.0 (λ stored.
    rewrite ! 0 (λ (o : Option Inside). ‵ (held o self.at)) is_x refl $
    in_a_block ! self.at (λ p. box_owns (ghosts.dealloc_token alloc) inside.the_row p x)
    (fst∗ 𝓤 (never 𝓤) (sem 𝓛 (ghosts.dealloc_token alloc (bare (lone inside.the_row.mir)) null_ptr))) (λ b o in_block.
    move ! (1 ∷ []) $ fsplit ! $ handle_tells Session.al ! alloc y.0.4.1.0 (λ hv alloc_stored fits.
    let address_stored : y.0.4.0 ≡ word (block_ptr b o) ∷ [] = stored ∙ ap (λ (p : Ptr). word p ∷ []) in_block in
    let us : List Val = word (block_ptr b o) ∷ hv ∷ [] in
    let both_stored : y.0.4.0 ++ (y.0.4.1.0 ++ []) ≡ us = λ i. address_stored i ++ (alloc_stored i ++ []) in
    regoal ! (λ (vs : List Val). prop (Runs vs)) both_stored refl $
    enter ! 𝓣.C 𝓣.Λ code.function us (W.post y) $ alloc_all ! (λ l. pass_all ! refl ((tt, (tt, tt)), (fits, tt)) $
    let typed = box.box_typed Session hv b o fits in
    sets ! (of_opd ! (get_in ! (fld ! refl (stop !)) (sub ! 0 refl (whole !)))) refl (tt, tt) $
    sets ! (agg ! (and_then ! (get ! refl) (and_then ! (get ! refl) (no_more !)))) refl typed $
    -- [the allocator; nothing; the session in its block; no tokens]
    move ! (2 ∷ 0 ∷ []) $ packs Session ! alloc x b o hv $
    let Same : Type 0 = Some x ≡ self.inside in
    use0 𝓛 (raw (fact 𝓤 Same)) (fact_i 𝓤 Same (emp 𝓤) (sym is_x)) $
    nothing ! $ nothing ! $ fjoin ! $ nothing ! $ fjoin ! $
    returns ! (look_at ! 0 refl) $ free_all ! refl $ keep ! (4 ∷ 0 ∷ 2 ∷ 1 ∷ []) $
    by ! (leaves 𝓛 ended spent c y (box.word Session hv b o) (parts Session alloc x b o)
    (tt, (tt, tt)) (tt, (tt, tt)))))))))
