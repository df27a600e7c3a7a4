use Rattle.std.proofs.Common.{rules, ap, ◌∙◌, length, sym}
use Rattle.line_texts.proofs.FirstWords.{words_of-blank, words_of-first}
use Rattle.line_texts.proofs.words.WordsIterator.next.Goals as goal

pub returns-in_err-start-clause-steps : goal.returns-in_err-start-clause-steps
returns-in_err-start-clause-steps c =
    let blank = words_of-blank c.args.self.now.rest.now (sym c.first_in_word.ensures ∙ c.in_err-start.was) in
    rw c.from_residual.ensures (blank, blank)

pub returns-clause-steps : goal.returns-clause-steps
returns-clause-steps c =
    words_of-first _ _ _ _ _ _ _ _ c.first_in_word.ensures c.in_ok-start.was c.split_at.ensures.back
    c.first_space.ensures c.unwrap_or-end.ensures c.split_at-2.ensures.front c.split_at-2.ensures.back

pub returns-clause-goes : goal.returns-clause-goes
returns-clause-goes c =
    let e = words_of-first _ _ _ _ _ _ _ _ c.first_in_word.ensures c.in_ok-start.was c.split_at.ensures.back
    c.first_space.ensures c.unwrap_or-end.ensures c.split_at-2.ensures.front c.split_at-2.ensures.back in
    let l = ap length e in
    search rules
