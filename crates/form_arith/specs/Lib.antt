-- Values read as one word.
pub mod WordSorts
