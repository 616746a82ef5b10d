pub mod OnlyInst
