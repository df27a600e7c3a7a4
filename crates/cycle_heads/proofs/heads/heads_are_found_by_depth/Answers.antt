use Rattle.cycle_heads.specs.Words.{at_depth, joined_head}
use Rattle.cycle_heads.proofs.HeadLists.{at_depth-insert_same, at_depth-insert_other}
use Rattle.cycle_heads.proofs.HeadLists.{at_depth-set_same, at_depth-set_other}
use Rattle.cycle_heads.proofs.heads.heads_are_found_by_depth.Goals as goal

pub returns : goal.returns
returns c = record {
  recorded =
      λ heads depth paths usages. at_depth-insert_same depth (joined_head (at_depth heads depth) paths usages) heads;
  others = λ heads depth other paths usages.
      at_depth-insert_other depth (joined_head (at_depth heads depth) paths usages) heads other;
  replaced = λ heads depth head. at_depth-set_same depth head heads;
  not_replaced = λ heads depth other head. at_depth-set_other depth head heads other;
}
