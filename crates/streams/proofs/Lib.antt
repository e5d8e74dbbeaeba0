pub mod AfterRead
