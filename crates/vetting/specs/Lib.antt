pub mod Vet
