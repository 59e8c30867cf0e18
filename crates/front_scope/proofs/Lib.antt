pub mod PassIsScope
pub mod KindNumbers
pub mod Exits
pub mod BinderWords
pub mod OneBinder
