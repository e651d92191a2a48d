pub mod Errata
