pub mod Switch
