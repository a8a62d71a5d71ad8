mod Numbered
mod Ladders
mod Stretches
