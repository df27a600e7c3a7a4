pub mod Stop
