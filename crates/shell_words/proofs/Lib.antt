mod Faultless
mod Found
mod Taken
