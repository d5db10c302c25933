mod Fronts
mod Loops
mod Nodes
mod Packs
mod Repeats
mod Texts
