pub mod Text
pub mod Token
