-- Document 01's rules as steps: one rule at one place, then the next.
pub mod Steps
