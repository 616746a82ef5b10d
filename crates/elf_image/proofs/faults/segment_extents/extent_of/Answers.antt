use Rattle.elf_image.proofs.faults.segment_extents.extent_of.Goals as goal

pub returns-in-Addresses-clause-none : goal.returns-in-Addresses-clause-none
returns-in-Addresses-clause-none c = rw c.in-Addresses.is c.address_extent.ensures.none

pub returns-in-CodeAddresses-clause-none : goal.returns-in-CodeAddresses-clause-none
returns-in-CodeAddresses-clause-none c = rw c.in-CodeAddresses.is c.code_extent.ensures.none

pub returns-in-FileBytes-clause-none : goal.returns-in-FileBytes-clause-none
returns-in-FileBytes-clause-none c = rw c.in-FileBytes.is c.file_extent.ensures.none
