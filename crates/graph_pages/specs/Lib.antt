pub mod Below
pub mod Checked
pub mod Program
pub mod Reasons
pub mod Shown
pub mod Stop
pub mod Told
