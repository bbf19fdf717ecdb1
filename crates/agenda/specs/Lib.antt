pub mod Agendas
pub mod Resting
pub mod Steps
pub mod Views
