use Rattle.std.proofs.Common.{◌≡◌, drop}
use Rattle.type_order.specs.Fields.{has_all}
use Rattle.type_texts.proofs.reasons.first_lack.Given as goal

-- a field without a fellow is among those that are left
abbrev pub invariant-loop-other : goal.invariant-loop-other
invariant-loop-other l = has_all l.fields (drop l.other-index l.others) ≡ has_all l.fields l.others
