pub mod NumberLaws
pub mod BufferLaws
pub mod ReadingLaws
pub mod LayoutLaws
pub mod ReadBack
pub mod WritingLaws
pub mod FieldLaws
