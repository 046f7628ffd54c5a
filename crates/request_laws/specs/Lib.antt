pub mod OfText
