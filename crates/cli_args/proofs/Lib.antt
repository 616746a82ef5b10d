mod CommandLineExamples
mod OptionTokens
mod RunArguments
mod StepLimit
