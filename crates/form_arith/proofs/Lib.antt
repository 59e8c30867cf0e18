-- What the words of values come to, and how large they get.
pub mod ValueWords
mod Exits
