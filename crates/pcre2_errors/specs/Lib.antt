pub mod CompileErrors
pub mod MatchErrors
pub mod DfaErrors
pub mod SubstErrors
pub mod FaultTexts
