-- A list of queries, one call each.
pub mod ListAnswers
pub mod ListLimits
