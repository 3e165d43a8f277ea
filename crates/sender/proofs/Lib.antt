mod Given
mod Pieces
mod Searched
