pub mod Fields
pub mod Totals
pub mod Draws
pub mod Agreement
pub mod ListCounted
