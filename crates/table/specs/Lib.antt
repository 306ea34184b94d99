pub mod Bytes
pub mod Header
pub mod Layout
pub mod Kinds
pub mod Lines
pub mod SystemOf
pub mod Findings
pub mod Reading
