pub mod BookLines
