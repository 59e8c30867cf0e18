-- What the open calls begin and end with, and the outcomes of those that answer in portions.
pub mod Replies
pub mod Portions
pub mod Rota
