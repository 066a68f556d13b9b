pub mod Drawing
pub mod Finding
pub mod Laws
pub mod Order
