pub mod RefusalLaw
