pub mod PieceLists
pub mod SegmentLists
pub mod LastOffer
pub mod RoutesValues
