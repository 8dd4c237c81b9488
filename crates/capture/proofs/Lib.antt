pub mod FieldLaws
pub mod FrontLaws
pub mod HeaderLaws
pub mod RecordLaws
pub mod RecordsLaws
pub mod CaptureLaws
pub mod WritableLaws
pub mod TimeLaws
