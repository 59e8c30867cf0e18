-- Laws of the ordering step: on lists, and of elements in the answer buffer.
pub mod Widths
pub mod Halving
pub mod Repeats
pub mod Ordering
pub mod InsertionSort
pub mod SortByHeap
pub mod StepCounts
