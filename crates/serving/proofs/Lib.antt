pub mod ServingOrder
