pub mod LongSheets
