pub mod DigitText
pub mod Answers
