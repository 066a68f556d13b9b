pub mod Cuts
pub mod OneAnswer
pub mod Placed
pub mod SharedAnswers
pub mod SharedCuts
