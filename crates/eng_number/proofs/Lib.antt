mod Beginnings
mod Lengths
mod NumberParts
mod Spelled
