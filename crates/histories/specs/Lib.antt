pub mod Demand
pub mod AfterLast
