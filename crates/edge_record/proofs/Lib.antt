mod Counting
mod Recording
mod Watching
