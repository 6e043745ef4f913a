pub mod DecimalLaws
pub mod KeyLaws
pub mod NumberLaws
pub mod ReadNumber
pub mod WriteNumber
pub mod Writing
