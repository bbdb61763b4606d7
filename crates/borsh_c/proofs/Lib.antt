mod Told
mod Records
mod Two
