pub mod ElementAt
