-- More is known of goals, and what was known stays so.
use Rattle.std.proofs.Common.{refl, ◌∙◌}
use Rattle.trait_rules.proofs.Numbers.{keeps_same, keeps_then}
use Rattle.trait_goals.specs.Known.{Table}
use Rattle.trait_goals.specs.Trying.{Extends}

pub extends_same : (table : Table) → Extends table table
extends_same table = record {
  same_rules = refl;
  keeps_made = keeps_same table.made;
  keeps_asked = keeps_same table.asked;
  keeps_known = λ goal known. known;
}

pub extends_then : (table more most : Table) → Extends table more → Extends more most → Extends table most
extends_then table more most h k = record {
  same_rules = k.same_rules ∙ h.same_rules;
  keeps_made = keeps_then h.keeps_made k.keeps_made;
  keeps_asked = keeps_then h.keeps_asked k.keeps_asked;
  keeps_known = λ goal known. k.keeps_known goal (h.keeps_known goal known);
}
