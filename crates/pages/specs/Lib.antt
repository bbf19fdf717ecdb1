pub mod Html
pub mod Pages
