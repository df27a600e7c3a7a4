pub mod Below
pub mod Data
pub mod Ends
pub mod Fault
pub mod Page
pub mod Rules
