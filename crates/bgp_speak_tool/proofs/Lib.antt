pub mod DriveJudged
pub mod Driving
pub mod PairJudged
