-- The words of a normal form in scratch: how a node is packed into a word, which form the words hold, where a head stands, and
-- what reading a node answers; the words of a form.
pub mod Kinds
pub mod NodeWord
pub mod FormTree
pub mod HeadPlace
pub mod Look
pub mod FormWords
