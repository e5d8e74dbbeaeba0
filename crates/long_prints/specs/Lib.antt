pub mod LongPrints
