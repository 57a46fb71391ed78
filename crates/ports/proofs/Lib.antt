pub mod GrowthLaws
pub mod ExtentLaws
