pub mod BucketLemmas
pub mod StayingLemmas
