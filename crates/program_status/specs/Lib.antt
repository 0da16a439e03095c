pub mod CountText
pub mod LogText
pub mod StatusText
pub mod Subjects
