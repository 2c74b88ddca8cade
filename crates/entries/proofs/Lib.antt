mod Entered
mod Traded
