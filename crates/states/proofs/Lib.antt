mod Every
mod Runs
