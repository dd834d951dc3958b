mod Alike
mod Few
mod Pieces
