-- Delegates whose goals are decided where no limit is met.
use Rattle.std.specs.Prelude.{◌≡◌, List, [], ◌∷◌, Some}
use Rattle.search_context.specs.Below.{PathKind, Inductive, Unknown, Coinductive, ForcedAmbiguity}
use Rattle.search_context.specs.declared.context.Request.{Request}
use Rattle.search_context.specs.declared.context.Request.TheVariants.{Evaluate, Done}
use Rattle.search_context.specs.declared.context.Reply.{Reply}
use Rattle.search_context.specs.declared.context.Reply.TheVariants.{Begin, Answer, Noted}
use Rattle.search_context.specs.Verdicts.{IsDefinite}
use Rattle.search_context.specs.Run.{IsFitting, request_after}
use Rattle.search_context.specs.Verdicts.{Verdicts}

-- cycles of the kind are yes or no
abbrev pub IsDecidedKind : PathKind → Type 0
IsDecidedKind Inductive = Unit {0}
IsDecidedKind Unknown = ⊥
IsDecidedKind Coinductive = Unit {0}
IsDecidedKind ForcedAmbiguity = ⊥

module _ {R : Type 0} (says : Verdicts R) where
  -- if the reply is an answer, that is yes or no
  abbrev pub IsDecidedReply : Reply R → Type 0
  IsDecidedReply Begin = Unit {0}
  IsDecidedReply (Answer r) = IsDefinite says r
  IsDecidedReply Noted = Unit {0}

  -- each answer is yes or no
  abbrev pub AreDecided : List (Reply R) → Type 0
  AreDecided [] = Unit {0}
  AreDecided (reply ∷ earlier) = IsDecidedReply reply × AreDecided earlier

  -- The scripts ask inductively and coinductively alone, and after answers that are yes or no a goal's
  -- result is one of these.
  pub record IsDecisive {I : Type 0} (scripts : I → List (Reply R) → Request I R) : Type 0 where
    pub asks : (goal asked : I) (replies : List (Reply R)) (kind : PathKind) → IsFitting (scripts goal) replies
        → request_after (scripts goal) replies ≡ Some (Evaluate kind asked) → IsDecidedKind kind
    pub ends : (goal : I) (replies : List (Reply R)) (r : R) → IsFitting (scripts goal) replies → AreDecided replies
        → request_after (scripts goal) replies ≡ Some (Done r) → IsDefinite says r
