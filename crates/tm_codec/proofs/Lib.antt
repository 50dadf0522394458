pub mod BigEndian
pub mod Fields
pub mod Laying
