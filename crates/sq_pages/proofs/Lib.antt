mod Sheets
pub mod Laying
mod Writing
