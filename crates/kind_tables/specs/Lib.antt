pub mod StageTables
pub mod FoundTables
pub mod RankedTables
