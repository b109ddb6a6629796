mod Moves
mod Fronts
mod SorterLaws
