-- "How many outages we survive" (document 02, E12): the subsets of a table's rows, and the outcome of the call that counts over them.
pub mod Outages
