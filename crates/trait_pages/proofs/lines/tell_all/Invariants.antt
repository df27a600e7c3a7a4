use Rattle.std.proofs.Common.{take, true}
use Rattle.line_texts.proofs.Questions.{AreToldTo}
use Rattle.trait_pages.specs.Lines.{line_of}
use Rattle.trait_pages.proofs.lines.tell_all.Given as goal

-- the first questions are told
abbrev pub invariant-loop-came : goal.invariant-loop-came
invariant-loop-came g l =
    let contents = g.W.Write.contents in
    AreToldTo line_of (λ _. true) (λ _. Unit {0}) (take l.came-index l.all) (contents l.fn.out) (contents l.out)
    l.waiting.items true
