-- What is proved of the bands in their order.
pub mod Order
