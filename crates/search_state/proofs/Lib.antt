pub mod nodes
