mod Zips
mod Listing
mod Finding
mod Numbering
mod Taking
mod PiecesParted
mod Beginning
mod HeldMoves
pub mod Named
mod KeptTables
mod WholeTables
pub mod Alike
pub mod FirstParts
pub mod RankedStates
mod SameWords
mod WeighedMoves
mod WeighedTables
pub mod LeftBefore
pub mod AtHand
mod TestedSteps
