pub mod CallerLemmas
pub mod RangeFacts
pub mod Pushing
pub mod Merging
pub mod Meeting
pub mod Gaps
pub mod Cutting
