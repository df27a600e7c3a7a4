pub mod EarlySteps
