-- `from_box` opens the box and keeps what comes out.
use Rattle.std.proofs.Common.{◌≡◌, List, [], ◌∷◌, ◌++◌, refl}
use mir.MapTy.{inst_fn}
use mir.Syntax.{Dict, Fn}
use mir.Val.{Val}
use base.Logic.{SProp, emp, id⊢}
use prog.Wp.{WpFn}
use types.ByLocal.{alloc_all, pass_all, free_all, look_at, get, get_in, sets, lands_as}
use types.Kit.{‵, raw, ◌⊛◌, prop, ◌$◌, ◌∵◌, !, qed, by, move, keep, split, join, fsplit, fjoin, use0, use1, regoal}
use types.Part.{agg, sub, whole}
use types.Run.{stop, fld, of_opd, no_more, and_then, returns, enter}
use contract.Monad.{fact, fact_i}
use contract.Running.{tables}
use denote.Exit.{no}
use denote.RattleType.{owns}
use denote.Signature.{types_at, plain}
use denote.Steps.{nothing}
use denote.Triple.Call.{calls_at}
use denote.Triple.Clauses.{Ended}
use denote.Triple.Walked.{Stays, stay_dropped, walk_of}
use Rattle.core.proofs.alloc.Calls.{Goes-blank}
use Rattle.core.proofs.atomic.Steps.{fm}
use Rattle.std.proofs.raw_atomic.Walks.{proved_at, leaves}
use Rattle.std_alloc.proofs.BoxSteps.Form.{Bx, B, word, box_typed}
use Rattle.std_alloc.proofs.BoxSteps.Steps.{box_out, box_in}
use Rattle.std_alloc.proofs.boxed.Box.into_raw_with_allocator.Met.{met}
use Rattle.unboxed.proofs.Calls.{passed, alive, Opening, to_open, opened}
use Rattle.unboxed.proofs.Values.{parts, packs}
use Rattle.unboxed.specs.contracts.Unboxed.from_box.{ended, clauses}
use Rattle.unboxed.specs.contracts.Unboxed.from_box.Key.{name as #from_box}
use Rattle.unboxed.proofs.Unboxed.from_box.Statement.{statement}
use Rattle.unboxed.proofs.Unboxed.from_box.Code as code

module _ (E : Bx) (dx : Dict) where
  abbrev body : Fn
  body = inst_fn (passed E dx) code.function

  abbrev promise : Ended
  promise = ended E.row E.al.row E.al.g E.al.d dx E.al.drops

  -- the box is used up
  abbrev spent : Stays promise.signature.params promise.kept
  spent = (stay_dropped (plain (λ _. B E)) no, tt)

pub from_box_spec : {M : Type 1} → statement M
from_box_spec 𝓤 𝓛 𝓜 𝓡 wired T A L LA g d dx dd allocator glue glued =
    let E : Bx = record { row = T; laws = L; al = record { row = A; laws = LA; g = g; d = d; drops = dd } } in
    let 𝓣 = tables 𝓤 𝓛.H 𝓜 𝓡 𝓡.env in let C = promise E dx in let fn = body E dx in
    let c = clauses T A g d dx dd 𝓛 𝓜.mem 𝓡.returns in let W = walk_of 𝓛 C (spent E dx) c in
    let into_raw = met 𝓤 𝓛 𝓜 𝓡 (code.calls-std_alloc::boxed::Box::into_raw_with_allocator 𝓡.env wired)
    T A L LA g d dd dx allocator glued glue in
    proved_at 𝓛 C (spent E dx) c 𝓜 𝓡 (Goes-blank 𝓛 2 (plain (λ _. B E)) no (λ κs box f. tt), tt)
    (#from_box (passed E dx)) fn (code.unfolded 𝓤 𝓛.H 𝓜 𝓡 wired (T, (A, tt)) d dx dd) (λ y are.
    let κs = y.0.0 in let qs = y.0.1 in let box = y.0.3.0 in
    let Runs : List Val → SProp 𝓤 = λ vs. WpFn 𝓤 𝓛.H 𝓣.C 𝓣.Λ fn vs (W.post y) in
    let handed = owns (types_at C.signature.params κs) y.0.3 y.0.4 in
    qed 𝓛 ((alive E κs qs ⊛ ‵ handed) ∷ raw ((c κs y.0.3).requires y.1) ∷ []) ∵
    split ! $ move ! (1 ∷ []) $ fsplit ! $ box_out E ! box y.0.4.0 (λ b o hv in_block stored fits.
    -- what `into_raw_with_allocator` is given: the whole first context
    let w : Val = word E hv b o in let typed = box_typed E hv b o fits in let picked = to_open E dx 𝓛 𝓜 𝓡 κs qs box w in
    box_in E ! box b o box.value in_block refl $ fjoin ! $ move ! (1 ∷ 0 ∷ []) $ join ! $ join ! $
    use1 𝓛 (raw ((Opening E dx 𝓛 𝓜 𝓡).pre picked)) (id⊢ 𝓤 _) $
    regoal ! (λ (vs : List Val). prop (Runs (vs ++ []))) stored refl $
    enter ! 𝓣.C 𝓣.Λ fn (w ∷ []) (W.post y) $ alloc_all ! (λ l. pass_all ! refl (typed, tt) $
    sets ! (of_opd ! (get ! refl)) refl typed $
    calls_at ! (fm 𝓛 𝓜 𝓡) (Opening E dx 𝓛 𝓜 𝓡) into_raw picked
    (and_then ! (get ! refl) (no_more !)) (λ v. opened E dx 𝓛 𝓜 𝓡 ! tt κs qs box w v (λ b' o' hv' v_is fits'.
    -- [the value in its block; the allocator; the tokens]
    let pair_typed = box_typed E hv' b' o' fits' in let kept = parts E box.alloc box.value b' o' in
    lands_as ! v_is refl pair_typed $
    sets ! (of_opd ! (get_in ! (fld ! refl (stop !)) (sub ! 0 refl (whole !)))) refl (tt, tt) $
    sets ! (of_opd ! (get_in ! (fld ! refl (stop !)) (sub ! 1 refl (whole !)))) refl fits' $
    sets ! (of_opd ! (get ! refl)) refl fits' $
    sets ! (agg ! (and_then ! (get ! refl) (and_then ! (get ! refl) (no_more !)))) refl pair_typed $
    packs E ! box.alloc box.value b' o' hv' $
    -- [the parts; the tokens]
    use0 𝓛 (raw (fact 𝓤 (box.value ≡ box.value))) (fact_i 𝓤 (box.value ≡ box.value) (emp 𝓤) refl) $
    nothing ! $ nothing ! $ fjoin ! $
    returns ! (look_at ! 0 refl) $ free_all ! refl $ keep ! (3 ∷ 0 ∷ 2 ∷ 1 ∷ []) $
    by ! (leaves 𝓛 C (spent E dx) c y (word E hv' b' o') kept ((tt, (tt, tt)), tt) (tt, tt)))))))
