pub mod StackIndex
pub mod NestedLists
pub mod Cycles
pub mod LastSteps
pub mod RaisedPaths
pub mod OwnGoal
pub mod ListedGoals
