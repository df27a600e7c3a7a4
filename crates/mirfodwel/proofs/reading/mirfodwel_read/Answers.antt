use Rattle.mirfodwel.proofs.reading.mirfodwel_read.Goals as goal

pub returns-in-Ok-clause-read : goal.returns-in-Ok-clause-read
returns-in-Ok-clause-read c = λ is. (c.in-Ok.rules, c.in-Ok.ensures.ok, c.write.ensures.written is)
