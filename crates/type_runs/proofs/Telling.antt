-- Questions that were answered as is right.
use Rattle.std.proofs.Common.{List, [], ◌∷◌, ◌++◌, arith}
use Rattle.std.proofs.lemmas.List.Elements.{All-push}
use Rattle.std.specs.Prelude.{IfOk}
use Rattle.line_texts.specs.Questions.{AnsweredQuestion}
use Rattle.type_order.specs.declared.delegate.Pair.{Pair}
use Rattle.type_runs.specs.Answers.{AreRight, Came, IsTold}
use Rattle.type_texts.specs.declared.table.TypeTable.{TypeTable}

module _ (table : TypeTable) where
  pub none_right : AreRight table []
  none_right = λ k d l. absurd (omega arith)

  -- one question more
  pub one_more_right : (pair : Pair) (came : Came) → IfOk came (IsTold table pair) →
      (all : List (AnsweredQuestion Pair Came)) →
      AreRight table all → AreRight table (all ++ record { question = pair; came = came } ∷ [])
  one_more_right pair came is all right =
      All-push (λ a. IfOk a.came (IsTold table a.question)) all (record { question = pair; came = came }) right is
