-- Goals that ask themselves alone keep their scripts, whichever of them are gone.
use Rattle.std.proofs.Common.{◌≡◌, Bool, false, List, [], ◌∷◌, Some, ap, refl, sym, ◌∙◌}
use Rattle.global_cache.specs.Words.{KeepsOthers}
use Rattle.search_context.specs.Run.{request_after}
use Rattle.search_context.specs.declared.context.Reply.{Reply}
use Rattle.search_context.specs.declared.context.Request.TheVariants.{Evaluate}
use Rattle.parts_tests.specs.Below.{PathKind, Outcome}
use Rattle.test_delegates.specs.Words.{loop_script}

asks_itself : (goal : PathKind) (replies : List (Reply Outcome)) (kind asked : PathKind)
    → request_after (loop_script goal) replies ≡ Some (Evaluate kind asked) → goal ≡ asked
asks_itself goal [] kind asked is = absurd cc
asks_itself goal (r ∷ []) kind asked is = cc
asks_itself goal (r ∷ q ∷ earlier) kind asked is = absurd cc

pub loops_keep : (is_gone : PathKind → Bool) → KeepsOthers is_gone loop_script loop_script
loops_keep is_gone = record {
  same = λ goal left replies. refl;
  stays = λ goal left replies kind asked fits is. ap is_gone (sym (asks_itself goal replies kind asked is)) ∙ left;
}
