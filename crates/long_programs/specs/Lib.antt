pub mod LongAnswers
