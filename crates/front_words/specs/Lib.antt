-- The nodes of a question in scratch: how a node is packed into a word, which tree the words hold, and how a tree lies
-- in them.
pub mod NodeWord
pub mod Binders
pub mod NodeTree
pub mod LaidTree
