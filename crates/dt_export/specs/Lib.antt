pub mod ExportRefusal
pub mod ExportedImage
pub mod ExportedIndex
pub mod ExportedFiles
pub mod ReadBack
pub mod Steps
pub mod inner
