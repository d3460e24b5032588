pub mod Orderings
pub mod KindOrders
pub mod StageNodes
pub mod JoinedArcs
pub mod JoinedLines
pub mod AutomatonLines
pub mod Automata
