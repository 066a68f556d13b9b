pub mod Boxes
pub mod Branchings
pub mod Laws
pub mod Nodes
pub mod Trees
