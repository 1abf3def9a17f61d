pub mod Core
mod Along
