mod Copied
pub mod Numbers
pub mod RuledOut
