pub mod Laws
pub mod Postorder
pub mod Stacks
