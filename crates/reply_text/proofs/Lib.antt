mod Added
mod Pieces
mod Texts
