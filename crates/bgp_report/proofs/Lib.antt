mod Memory
mod InLadders
mod Heard
mod Written
mod StretchWords
mod InStretches
