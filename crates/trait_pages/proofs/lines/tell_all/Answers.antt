use Rattle.std.proofs.Common.{arith, refl, true}
use Rattle.std.proofs.KnownBytes.{Appends-kept}
use Rattle.line_texts.proofs.Questions.{all_told, line_waits, none_waits, told_on}
use Rattle.trait_pages.specs.Lines.{line_of}
use Rattle.trait_pages.proofs.lines.tell_all.Goals as goal

pub loop-came-init : goal.loop-came-init
loop-came-init g c = none_waits line_of (λ _. true) (λ _. Unit {0}) tt _ _ c.new-waiting.ensures.items

pub loop-came-preserved : goal.loop-came-preserved
loop-came-preserved g c =
    told_on line_of (λ _. true) (λ _. Unit {0}) _ _ _ _ true _ _
    (line_waits line_of (λ _. true) (λ _. Unit {0}) (λ _. Unit {0}) _ (λ all told. tt) _ _ _ c.loop-came-test.true refl
    true true refl _ _ _ _ c.loop-came.invariant refl)
    c.in_ok-tell.ensures

pub returns : goal.returns
returns g c =
    let written = rw c.as_slice-2.ensures.value at c.in_ok-write_bytes.ensures.all in
    record {
      told =
          all_told line_of (λ _. true) (λ _. Unit {0}) _ _ _ _ true (λ _. Unit {0}) (λ all told. tt) _ _ _ refl
          c.loop-came.invariant (omega arith) (Appends-kept _ _ _ _ written c.flush.ensures.bytes);
    }
