pub mod OfAdvance
pub mod Numbered
pub mod CardTables
pub mod CardLosses
pub mod CardMakings
pub mod CardAnswers
pub mod Fitted
pub mod Judged
mod AsAnswered
