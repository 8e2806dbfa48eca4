pub mod RecordPrepares
