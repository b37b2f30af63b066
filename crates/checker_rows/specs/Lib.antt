pub mod RowVerdict
