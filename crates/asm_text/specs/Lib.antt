pub mod Bytes
pub mod Lexemes
pub mod Tokens
pub mod Grammar
