-- The scope check as it runs: names seen and names that hold, carried through the tree.
pub mod ScopePass
pub mod PassContract
pub mod Binders
