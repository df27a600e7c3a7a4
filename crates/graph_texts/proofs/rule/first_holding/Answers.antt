use Rattle.std.proofs.Common.{◌≡◌, ◌∙◌, All, arith, Bool, false, subst, sym, true}
use Rattle.std.specs.Bool.{beq}
use Rattle.std.proofs.lemmas.Bool.{false≢true}
use Rattle.std.proofs.lemmas.List.{take_all}
use Rattle.std.proofs.lemmas.List.Elements.{All-contains, All-push}
use Rattle.graph_texts.proofs.Grounds.{take_one_more}
use Rattle.graph_texts.specs.Below.{Candidate}
use Rattle.graph_texts.specs.Grounds.{Holds}
use Rattle.graph_texts.proofs.rule.first_holding.Goals as goal
use Rattle.graph_texts.proofs.rule.first_holding.Goals.{else-is_marked-via-then-is_marked+else-hold}
use Rattle.graph_texts.proofs.rule.first_holding.Goals.{else-is_marked-via-else-is_marked}

-- what is equal is not told apart
told_apart : (a b : Bool) → a ≡ b → beq a b ≡ false → ⊥
told_apart true true same apart = cc
told_apart false false same apart = cc
told_apart true false same apart = cc
told_apart false true same apart = cc

pub loop-place-preserved : goal.loop-place-preserved
loop-place-preserved c =
    let other = λ (rule : Candidate). Holds c.args.grounds.now rule → rule.is_marked ≡ c.args.is_marked → ⊥ in
    let rules = c.args.candidates.now in
    let at = c.loop-place.place in
    let here : other c.in-Some.candidate = elim c.else-is_marked.branch [
      | else-is_marked-via-then-is_marked+else-hold w ↦
          λ holds marked. false≢true (sym w.if-hold.false ∙ w.hold.ensures.1 holds)
      | else-is_marked-via-else-is_marked w ↦
          λ holds marked. told_apart _ _ (c.is_marked.ensures ∙ marked) w.if-is_marked.false
    ] in
    subst (All other) (sym (take_one_more rules at c.in-Some.candidate c.in-Some.ensures.value))
    (All-push other _ c.in-Some.candidate c.loop-place.invariant here)

pub returns-clause-none : goal.returns-clause-none
returns-clause-none c = λ rule there holds marked.
    let other = λ (rule : Candidate). Holds c.args.grounds.now rule → rule.is_marked ≡ c.args.is_marked → ⊥ in
    let rules = c.args.candidates.now in
    let whole = take_all c.loop-place.place rules (omega (arith, c.loop-place-test.false, c.count-place-end.ensures)) in
    All-contains other rules rule (subst (All other) whole c.loop-place.invariant) there holds marked
