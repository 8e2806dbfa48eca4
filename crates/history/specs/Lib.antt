pub mod History
pub mod Demand
pub mod AcceptedTable
pub mod OldTables
pub mod Examples
