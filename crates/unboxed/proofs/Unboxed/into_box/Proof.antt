-- `into_box` closes the box again.
use Rattle.std.proofs.Common.{◌≡◌, List, [], ◌∷◌, ◌++◌, refl}
use mir.MapTy.{inst_fn}
use mir.Syntax.{Dict, Fn}
use mir.Val.{Val}
use base.Logic.{SProp, emp, id⊢}
use prog.Wp.{WpFn}
use types.ByLocal.{alloc_all, pass_all, free_all, look_at, get, get_in, sets, lands_last, env}
use types.Kit.{‵, raw, ◌⊛◌, prop, at_ret, ◌$◌, ◌∵◌, !, qed, by, move, keep, drop, split}
use types.Kit.{fsplit, fjoin, use0, use1, regoal}
use types.Part.{sub, whole}
use types.Run.{stop, fld, of_opd, no_more, and_then, first, blocks, exec, returns, enter}
use contract.Monad.{fact, fact_i}
use contract.Running.{tables}
use denote.Exit.{no}
use denote.RattleType.{owns}
use denote.Signature.{types_at, plain}
use denote.Steps.{nothing}
use denote.Triple.Call.{calls_at_last}
use denote.Triple.Clauses.{Ended}
use denote.Triple.Walked.{Stays, stay_dropped, walk_of}
use Rattle.core.proofs.alloc.Calls.{Goes-blank}
use Rattle.core.proofs.alloc.Shapes.{after}
use Rattle.core.proofs.atomic.Steps.{fm}
use Rattle.std.proofs.raw_atomic.Walks.{proved_at, leaves}
use Rattle.std_alloc.proofs.BoxSteps.Form.{Bx, word, box_typed}
use Rattle.std_alloc.proofs.boxed.Box.from_raw.Met.{met}
use Rattle.unboxed.proofs.Calls.{passed, alive, outlived, Closing, to_close, closes, closed}
use Rattle.unboxed.proofs.Values.{Parts, taken}
use Rattle.unboxed.specs.contracts.Unboxed.into_box.{ended, clauses}
use Rattle.unboxed.specs.contracts.Unboxed.into_box.Key.{name as #into_box}
use Rattle.unboxed.proofs.Unboxed.into_box.Statement.{statement}
use Rattle.unboxed.proofs.Unboxed.into_box.Code as code

module _ (E : Bx) (dx : Dict) where
  abbrev body : Fn
  body = inst_fn (passed E dx) code.function

  abbrev promise : Ended
  promise = ended E.row E.al.row E.al.g E.al.d dx E.al.drops

  -- the parts are used up
  abbrev spent : Stays promise.signature.params promise.kept
  spent = (stay_dropped (plain (λ _. Parts E)) no, tt)

pub into_box_spec : {M : Type 1} → statement M
into_box_spec 𝓤 𝓛 𝓜 𝓡 wired T A L LA g d dx dd allocator glue glued =
    let E : Bx = record { row = T; laws = L; al = record { row = A; laws = LA; g = g; d = d; drops = dd } } in
    let 𝓣 = tables 𝓤 𝓛.H 𝓜 𝓡 𝓡.env in let C = promise E dx in let fn = body E dx in
    let c = clauses T A g d dx dd 𝓛 𝓜.mem 𝓡.returns in let W = walk_of 𝓛 C (spent E dx) c in
    let from_raw = met 𝓤 𝓛 𝓜 𝓡 (code.calls-std_alloc::boxed::Box::from_raw 𝓡.env wired)
    T A L LA g d dd allocator glued in
    proved_at 𝓛 C (spent E dx) c 𝓜 𝓡 (Goes-blank 𝓛 2 (plain (λ _. Parts E)) no (λ κs u f. tt), tt)
    (#into_box (passed E dx)) fn (code.unfolded 𝓤 𝓛.H 𝓜 𝓡 wired (T, (A, tt)) d dx dd) (λ y are.
    let κs = y.0.0 in let qs = y.0.1 in let self = y.0.3.0 in
    let Runs : List Val → SProp 𝓤 = λ vs. WpFn 𝓤 𝓛.H 𝓣.C 𝓣.Λ fn vs (W.post y) in
    let handed = owns (types_at C.signature.params κs) y.0.3 y.0.4 in
    qed 𝓛 ((alive E κs qs ⊛ ‵ handed) ∷ raw ((c κs y.0.3).requires y.1) ∷ []) ∵
    split ! $ move ! (1 ∷ []) $ fsplit ! $ move ! (1 ∷ []) $ drop ! $
    taken E ! self y.0.4.0 (λ b o hv in_block stored fits.
    -- [the value in its block; the allocator; the tokens; that the lifetimes are short enough]
    let typed = box_typed E hv b o fits in let picked = to_close E 𝓛 𝓜 𝓡 κs qs self.alloc hv b o self.value in
    move ! (3 ∷ []) $ use1 𝓛 (outlived E κs) (id⊢ 𝓤 _) $ move ! (1 ∷ 2 ∷ 3 ∷ []) $
    closes E 𝓛 𝓜 𝓡 κs qs self.alloc hv b o self.value ! $
    regoal ! (λ (vs : List Val). prop (Runs (vs ++ []))) stored refl $
    enter ! 𝓣.C 𝓣.Λ fn (word E hv b o ∷ []) (W.post y) $ alloc_all ! (λ l. pass_all ! refl (typed, tt) $
    sets ! (of_opd ! (get_in ! (fld ! refl (stop !)) (sub ! 0 refl (whole !)))) refl (tt, tt) $
    sets ! (of_opd ! (get_in ! (fld ! refl (stop !)) (sub ! 1 refl (whole !)))) refl fits $
    first ! $ blocks ! $ sets ! (of_opd ! (get ! refl)) refl fits $
    calls_at_last ! (fm 𝓛 𝓜 𝓡) (Closing E 𝓛 𝓜 𝓡) from_raw picked
    (and_then ! (get ! refl) (and_then ! (get ! refl) (no_more !))) (λ v.
    closed E 𝓛 𝓜 𝓡 κs qs self.alloc hv b o self.value ! tt v (λ made same_value made_typed.
    -- [the box; the tokens]
    let Locals = env fn.locals l in lands_last ! refl made_typed $
    exec ! 𝓣.C 𝓣.Λ Locals (after 3 fn.body) (at_ret Locals (W.post y)) $
    sets ! (of_opd ! (get ! refl)) refl made_typed $
    let Same : Type 0 = made.value ≡ self.value in
    use0 𝓛 (raw (fact 𝓤 Same)) (fact_i 𝓤 Same (emp 𝓤) same_value) $
    nothing ! $ nothing ! $ fjoin ! $
    returns ! (look_at ! 0 refl) $ free_all ! refl $ keep ! (3 ∷ 0 ∷ 2 ∷ 1 ∷ []) $
    by ! (leaves 𝓛 C (spent E dx) c y v made ((tt, (tt, tt)), tt) (tt, tt)))))))
