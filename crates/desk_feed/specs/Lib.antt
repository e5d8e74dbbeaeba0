pub mod Feed
