-- Laws of the checker.
pub mod Tells
pub mod Signs
pub mod Ends
pub mod Walks
pub mod RestLoops
pub mod Loads
pub mod Distances
pub mod Listings
pub mod Heads
pub mod Openings
