pub mod TrailLaws
pub mod AcceptedTableLaws
pub mod OldTableLaws
pub mod DemandLaws
