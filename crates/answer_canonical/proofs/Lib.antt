-- Laws of the written form and of the walk that makes it.
pub mod ArrangedValues
pub mod WalkExits
pub mod WrittenAnswer
pub mod Examples
