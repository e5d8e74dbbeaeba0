pub mod LongForm
