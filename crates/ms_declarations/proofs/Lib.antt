mod Cycles
mod Firsts
mod Numbers
mod Twices
