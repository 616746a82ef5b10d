mod Answering
mod Completing
mod FramesLaw
