mod RepairEnds
mod RepairSteps
mod VerifyEnds
