use Rattle.std.proofs.Common.{ap}
use Rattle.games.specs.Strategy.{positions_of}
use Rattle.games.proofs.Moves.{count_within}
use Rattle.games.proofs.delegate.PositionsOfQuestionLists.count.Goals as goal

pub returns-clause-within : goal.returns-clause-within
returns-clause-within g c = count_within _ _ c.args.position _ (ap positions_of c.lent.ensures) c.moves.ensures
