pub mod Refusals
pub mod JsonTokens
pub mod JsonTexts
pub mod AskedTexts
