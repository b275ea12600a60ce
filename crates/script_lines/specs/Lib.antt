pub mod Grammar
pub mod LineValue
pub mod Reader
pub mod ReplyText
pub mod ReplyValue
pub mod Script
