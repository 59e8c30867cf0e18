-- The ordering step: on lists with its comparisons, what it promises, and what its parts do.
pub mod Ordering
pub mod OrderStep
