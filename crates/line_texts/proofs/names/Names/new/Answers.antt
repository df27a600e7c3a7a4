use Rattle.line_texts.proofs.LinkLemmas.{found_none}
use Rattle.line_texts.proofs.names.Names.new.Goals as goal

pub invariant_of-result : goal.invariant_of-result
invariant_of-result c = found_none c.new-2.result.items c.new.result.items c.new-2.ensures.items c.new.ensures.items
